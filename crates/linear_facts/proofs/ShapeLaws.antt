-- Functions over shapes, and induction on how a term is taken apart.
use Rattle.std.proofs.Common.{◌≡◌, ℕ, ℤ, List, [], ◌∷◌, map, Option, Some, None, refl, sym, ◌∙◌, ap, subst}
use Rattle.term_core.specs.declared.term.Oper.{Oper}
use Rattle.term_core.specs.declared.term.Oper.TheVariants as oper
use Rattle.term_core.specs.declared.term.Term.{Term}
use Rattle.term_core.specs.declared.term.Term.TheOpen.{Term-F}
use Rattle.term_core.specs.declared.term.Term.TheViews.{out-Term, roll-Term, roll-out-Term, out-roll-Term}
use Rattle.term_core.specs.declared.term.Term.TheFolds.{para-roll-Term, map-Term}
use Rattle.term_core.specs.Terms.{Quantifier, for_all, exists, quantify, Each, by_cases}
use Rattle.linear_facts.specs.Forms.{Shape, literal, sum, difference, opposite, multiple, whole, product, applied, shaped, literal_of, shape_of, within_shape, over_shapes}

-- ---- the equation of a function over shapes

module _ {A B C : Type 0} (f : A → B) (g : B → C) (number : B → Option ℤ) where
  within_product : (m n : Option ℤ) (a b : A) → within_shape g (product m n (f a) (f b)) ≡ within_shape (λ a. g (f a)) (product m n a b)
  within_product (Some m) n a b = refl
  within_product None (Some n) a b = refl
  within_product None None a b = refl

  -- what is shaped within is what is shaped, within
  within_applied : (o : Oper) (xs : List A) → within_shape g (applied number o (map f xs)) ≡ within_shape (λ a. g (f a)) (applied (λ a. number (f a)) o xs)
  within_applied oper.Add [] = refl
  within_applied oper.Add (a ∷ []) = refl
  within_applied oper.Add (a ∷ b ∷ []) = refl
  within_applied oper.Add (a ∷ b ∷ c ∷ xs) = refl
  within_applied oper.Sub [] = refl
  within_applied oper.Sub (a ∷ []) = refl
  within_applied oper.Sub (a ∷ b ∷ []) = refl
  within_applied oper.Sub (a ∷ b ∷ c ∷ xs) = refl
  within_applied oper.Neg [] = refl
  within_applied oper.Neg (a ∷ []) = refl
  within_applied oper.Neg (a ∷ b ∷ xs) = refl
  within_applied oper.Mul [] = refl
  within_applied oper.Mul (a ∷ []) = refl
  within_applied oper.Mul (a ∷ b ∷ []) = within_product (number (f a)) (number (f b)) a b
  within_applied oper.Mul (a ∷ b ∷ c ∷ xs) = refl
  within_applied _ xs = refl

  within_shaped : (y : Term-F A) → within_shape g (shaped number (map-Term A B f y)) ≡ within_shape (λ a. g (f a)) (shaped (λ a. number (f a)) y)
  within_shaped (Term-F.Int n) = refl
  within_shaped (Term-F.Truth b) = refl
  within_shaped (Term-F.Var x) = refl
  within_shaped (Term-F.Op o xs) = within_applied o xs
  within_shaped (Term-F.All x l h b) = refl
  within_shaped (Term-F.Some x l h b) = refl

module _ {A : Type 0} (step : Term → Shape A → A) where
  beside : Term → Term × A
  beside t = (t, over_shapes step t)

  firsts : (ts : List Term) → map (λ (p : Term × A). p.0) (map beside ts) ≡ ts
  unfolding beside
  firsts [] = refl
  firsts (t ∷ ts) = ap (λ us. t ∷ us) (firsts ts)

  first_layer : (y : Term-F Term) → map-Term (Term × A) Term (λ p. p.0) (map-Term Term (Term × A) beside y) ≡ y
  unfolding beside
  first_layer (Term-F.Int n) = refl
  first_layer (Term-F.Truth b) = refl
  first_layer (Term-F.Var x) = refl
  first_layer (Term-F.Op o ts) = ap (λ us. Term-F.Op o us) (firsts ts)
  first_layer (Term-F.All x l h b) = refl
  first_layer (Term-F.Some x l h b) = refl

  over_roll : (y : Term-F Term) → over_shapes step (roll-Term y) ≡ step (roll-Term y) (within_shape (over_shapes step) (shaped literal_of y))
  unfolding over_shapes beside
  over_roll y = para-roll-Term A (λ layer. step (roll-Term (map-Term (Term × A) Term (λ p. p.0) layer)) (within_shape (λ p. p.1) (shaped (λ p. literal_of p.0) layer))) y
      ∙ (λ i. step (roll-Term (first_layer y i)) (within_shaped beside (λ (p : Term × A). p.1) (λ p. literal_of p.0) y i))

  -- what it gives at a term
  pub over_is : (t : Term) → over_shapes step t ≡ step t (within_shape (over_shapes step) (shape_of t))
  over_is t = ap (over_shapes step) (sym (roll-out-Term t)) ∙ (over_roll (out-Term t) ∙ ap (λ u. step u (within_shape (over_shapes step) (shape_of t))) (roll-out-Term t))

  pub over_at : (t : Term) (s : Shape Term) → shape_of t ≡ s → over_shapes step t ≡ step t (within_shape (over_shapes step) s)
  over_at t s e = over_is t ∙ ap (λ s. step t (within_shape (over_shapes step) s)) e

-- ---- induction

-- P of each term that a term is taken apart into
abbrev pub EachPart : (Term → Type 0) → Shape Term → Type 0
EachPart P (literal n) = Unit {0}
EachPart P (sum a b) = P a × P b
EachPart P (difference a b) = P a × P b
EachPart P (opposite a) = P a
EachPart P (multiple n a) = P a
EachPart P whole = Unit {0}

module _ (P : Term → Type 0) where
  part_product : (m n : Option ℤ) (a b : Term) → P a → P b → EachPart P (product m n a b)
  part_product (Some m) n a b p q = q
  part_product None (Some n) a b p q = p
  part_product None None a b p q = tt

  part_applied : (o : Oper) (ts : List Term) → Each P ts → EachPart P (applied literal_of o ts)
  part_applied oper.Add [] h = tt
  part_applied oper.Add (a ∷ []) h = tt
  part_applied oper.Add (a ∷ b ∷ []) h = (h.0, h.1.0)
  part_applied oper.Add (a ∷ b ∷ c ∷ ts) h = tt
  part_applied oper.Sub [] h = tt
  part_applied oper.Sub (a ∷ []) h = tt
  part_applied oper.Sub (a ∷ b ∷ []) h = (h.0, h.1.0)
  part_applied oper.Sub (a ∷ b ∷ c ∷ ts) h = tt
  part_applied oper.Neg [] h = tt
  part_applied oper.Neg (a ∷ []) h = h.0
  part_applied oper.Neg (a ∷ b ∷ ts) h = tt
  part_applied oper.Mul [] h = tt
  part_applied oper.Mul (a ∷ []) h = tt
  part_applied oper.Mul (a ∷ b ∷ []) h = part_product (literal_of a) (literal_of b) a b h.0 h.1.0
  part_applied oper.Mul (a ∷ b ∷ c ∷ ts) h = tt
  part_applied _ ts h = tt

  module _ (step : (t : Term) → EachPart P (shape_of t) → P t) where
    at_roll : (y : Term-F Term) → EachPart P (shaped literal_of y) → P (roll-Term y)
    at_roll y h = step (roll-Term y) (subst (λ z. EachPart P (shaped literal_of z)) (sym (out-roll-Term y)) h)

    at_over : (q : Quantifier) (x : List ℕ) (l h b : Term) → P l → P h → P b → P (quantify q x l h b)
    at_over for_all x l h b pl ph pb = at_roll (Term-F.All x l h b) tt
    at_over exists x l h b pl ph pb = at_roll (Term-F.Some x l h b) tt

    pub by_shape : (t : Term) → P t
    by_shape = by_cases P record {
      at_int = λ n. at_roll (Term-F.Int n) tt;
      at_truth = λ b. at_roll (Term-F.Truth b) tt;
      at_var = λ x. at_roll (Term-F.Var x) tt;
      at_op = λ o ts h. at_roll (Term-F.Op o ts) (part_applied o ts h);
      at_quantifier = at_over;
    }

-- what holds of each
abbrev pub Every : {A : Type 0} → (A → Type 0) → List A → Type 0
Every P [] = Unit {0}
Every P (x ∷ xs) = P x × Every P xs
