-- What forms and facts say of values, at any bound on equations.
use Rattle.std.proofs.Common.{◌≡◌, ◌⊎◌, ℕ, ℤ, pos, negsuc, ◌+ℤ◌, ◌-ℤ◌, ◌*ℤ◌, ◌≤ℤ◌, neg_ℤ, List, [], ◌∷◌, Bool, true, false, not, ◌&&◌, if◌then◌else◌, Option, Some, None, refl, sym, ◌∙◌, ap, subst, arith, inl, inr, zero, suc, ◌*◌, ◌||◌}
use Rattle.std.specs.Prelude.{int_le, int_lt}
use Rattle.std.specs.Option.{option_and_then, option_or}
use Rattle.std.specs.Ordering.{int_eq}
use Rattle.std.proofs.lemmas.Bool.Decides.{Decides-int_eq}
use Rattle.std.proofs.lemmas.Option.{same_Some}
use Rattle.std.proofs.lemmas.Int.{ints}
use Rattle.std.proofs.Math.IntN.{one, *ℤ-zero, *ℤ-one, *ℤ_comm, +ℤ_idl, +ℤ_idr, +ℤ_assoc, pos-*ℤ-pos}
use Rattle.term_core.specs.declared.sequent.Var.{Var}
use Rattle.term_core.specs.declared.term.Oper.{Oper}
use Rattle.term_core.specs.declared.term.Oper.TheVariants as oper
use Rattle.term_core.specs.declared.term.Term.{Term}
use Rattle.term_core.specs.declared.term.Term.TheOpen.{Term-F}
use Rattle.term_core.specs.declared.term.Term.TheViews.{out-Term, roll-Term, roll-out-Term}
use Rattle.term_core.specs.Options.{all_some}
use Rattle.term_core.specs.Terms.{int, op}
use Rattle.term_core.specs.Operations.{Tables, outcome}
use Rattle.term_core.specs.Values.{Value, a_number, a_truth, a_list, a_record, a_made, as_number, as_truth, same_value, Env}
use Rattle.term_core.specs.Evaluation.{Calls, value_by, applied}
use Rattle.term_laws.proofs.ValueLaws.{value_op, value_int}
use Rattle.term_laws.proofs.Meanings.{parts_of}
use Rattle.linear_facts.specs.Facts.{Fact, at_most, below, equal_to, form_of, is_equation, denied, compared, comparison_in, comparison, bound_by, bound_in, bound, may_be_number, equation_by, equation_in, equation, fact_of, left_of, right_of, extra_of}
use Rattle.linear_facts.specs.Forms.{Shape, literal, sum, difference, opposite, multiple, whole, product, applied as shaped_by, shaped, literal_of, number_in, shape_of, within_shape, constant, form_by, form}
use Rattle.linear_facts.proofs.Integers.{minus_one, times-sum, times-opposite}
use Rattle.linear_facts.proofs.ShapeLaws.{EachPart, over_is, by_shape}
use Rattle.linear_facts.proofs.SumLaws.{form_is, fact_form}
use Rattle.linear_facts.proofs.Summands.{Summands, scaled, summands_by, summands, summands_in, valued, valued-append, valued-scaled}

-- ---- how a term of a shape is written

abbrev pub Spells : Shape Term → Term → Type 0
Spells (literal n) t = t ≡ int n
Spells (sum a b) t = t ≡ op oper.Add (a ∷ b ∷ [])
Spells (difference a b) t = t ≡ op oper.Sub (a ∷ b ∷ [])
Spells (opposite a) t = t ≡ op oper.Neg (a ∷ [])
Spells (multiple n a) t = (t ≡ op oper.Mul (int n ∷ a ∷ [])) ⊎ (t ≡ op oper.Mul (a ∷ int n ∷ []))
Spells whole t = Unit {0}

literal_in : (y : Term-F Term) (n : ℤ) → number_in y ≡ Some n → roll-Term y ≡ int n
literal_in (Term-F.Int m) n e = ap int (let f : Some m ≡ Some n = e in cc)
literal_in (Term-F.Truth b) n e = absurd cc
literal_in (Term-F.Var x) n e = absurd cc
literal_in (Term-F.Op o ts) n e = absurd cc
literal_in (Term-F.All x l h b) n e = absurd cc
literal_in (Term-F.Some x l h b) n e = absurd cc

literal_is : (t : Term) (n : ℤ) → literal_of t ≡ Some n → t ≡ int n
literal_is t n e = sym (roll-out-Term t) ∙ literal_in (out-Term t) n e

spelled_product : (a b : Term) (m n : Option ℤ) → literal_of a ≡ m → literal_of b ≡ n → Spells (product m n a b) (op oper.Mul (a ∷ b ∷ []))
spelled_product a b (Some m) n e f = inl (ap (λ a. op oper.Mul (a ∷ b ∷ [])) (literal_is a m e))
spelled_product a b None (Some n) e f = inr (ap (λ b. op oper.Mul (a ∷ b ∷ [])) (literal_is b n f))
spelled_product a b None None e f = tt

spelled_op : (o : Oper) (ts : List Term) → Spells (shaped_by literal_of o ts) (op o ts)
spelled_op oper.Add [] = tt
spelled_op oper.Add (a ∷ []) = tt
spelled_op oper.Add (a ∷ b ∷ []) = refl
spelled_op oper.Add (a ∷ b ∷ c ∷ ts) = tt
spelled_op oper.Sub [] = tt
spelled_op oper.Sub (a ∷ []) = tt
spelled_op oper.Sub (a ∷ b ∷ []) = refl
spelled_op oper.Sub (a ∷ b ∷ c ∷ ts) = tt
spelled_op oper.Neg [] = tt
spelled_op oper.Neg (a ∷ []) = refl
spelled_op oper.Neg (a ∷ b ∷ ts) = tt
spelled_op oper.Mul [] = tt
spelled_op oper.Mul (a ∷ []) = tt
spelled_op oper.Mul (a ∷ b ∷ []) = spelled_product a b (literal_of a) (literal_of b) refl refl
spelled_op oper.Mul (a ∷ b ∷ c ∷ ts) = tt
spelled_op _ ts = tt

spelled_layer : (y : Term-F Term) → Spells (shaped literal_of y) (roll-Term y)
spelled_layer (Term-F.Int n) = refl
spelled_layer (Term-F.Truth b) = tt
spelled_layer (Term-F.Var x) = tt
spelled_layer (Term-F.Op o ts) = spelled_op o ts
spelled_layer (Term-F.All x l h b) = tt
spelled_layer (Term-F.Some x l h b) = tt

pub spelled : (t : Term) → Spells (shape_of t) t
spelled t = subst (Spells (shape_of t)) (roll-out-Term t) (spelled_layer (out-Term t))

-- ---- the values of operands

two_parts : (x y : Option Value) (g : List Value → Value) (r : Value) → option_and_then (λ vs. Some (g vs)) (all_some (x ∷ y ∷ [])) ≡ Some r
    → (v : Value) × ((w : Value) × ((x ≡ Some v) × ((y ≡ Some w) × (g (v ∷ w ∷ []) ≡ r))))
two_parts (Some v) (Some w) g r e = (v, (w, (refl, (refl, (let d : Some (g (v ∷ w ∷ [])) ≡ Some r = e in cc)))))
two_parts None y g r e = absurd cc
two_parts (Some v) None g r e = absurd cc

one_part : (x : Option Value) (g : List Value → Value) (r : Value) → option_and_then (λ vs. Some (g vs)) (all_some (x ∷ [])) ≡ Some r
    → (v : Value) × ((x ≡ Some v) × (g (v ∷ []) ≡ r))
one_part (Some v) g r e = (v, (refl, (let d : Some (g (v ∷ [])) ≡ Some r = e in cc)))
one_part None g r e = absurd cc

-- the number that a value counts as
abbrev pub number_given : Option Value → ℤ
number_given None = pos 0
number_given (Some v) = as_number v

-- a sum, and what else stands beside it
pub rearranged : (a b c d : ℤ) → (a +ℤ b) +ℤ (c +ℤ d) ≡ (a +ℤ c) +ℤ (b +ℤ d)
rearranged a b c d = omega (arith, ints)

rearranged_less : (a b c d : ℤ) → (a +ℤ b) -ℤ (c +ℤ d) ≡ (a +ℤ neg_ℤ c) +ℤ (b -ℤ d)
rearranged_less a b c d = omega (arith, ints)

opposite_sum : (a b : ℤ) → neg_ℤ (a +ℤ b) ≡ neg_ℤ a +ℤ neg_ℤ b
opposite_sum a b = omega (arith, ints)

times_sum : (f : Term → ℤ) (n : ℤ) (os : Summands) (k : ℤ) → n *ℤ (valued f os +ℤ k) ≡ valued f (scaled n os) +ℤ n *ℤ k
times_sum f n os k = times-sum n (valued f os) k ∙ ap (λ z. z +ℤ n *ℤ k) (sym (valued-scaled n f os))

alone : (z : ℤ) → z ≡ (pos 1 *ℤ z +ℤ pos 0) +ℤ pos 0
unfolding one
alone z = sym (*ℤ_comm (pos 1) z ∙ *ℤ-one z) ∙ (sym (+ℤ_idr (pos 1 *ℤ z)) ∙ sym (+ℤ_idr (pos 1 *ℤ z +ℤ pos 0)))

not_le : (a b : ℤ) → not (int_le a b) ≡ int_lt b a
not_le a b = grind (arith, ints)

not_lt : (a b : ℤ) → not (int_lt a b) ≡ int_le b a
not_lt a b = grind (arith, ints)

le_distance : (a b : ℤ) → int_le a b ≡ true → (a -ℤ b +ℤ pos 0) ≤ℤ pos 0
le_distance a b e = grind (arith, ints)

lt_distance : (a b : ℤ) → int_lt a b ≡ true → (a -ℤ b +ℤ pos 1) ≤ℤ pos 0
lt_distance a b e = grind (arith, ints)

equal_distance : (a b : ℤ) → a ≡ b → a -ℤ b +ℤ pos 0 ≡ pos 0
equal_distance a b e = omega (arith, ints)

pub none_above : pos 0 ≤ℤ pos 0
none_above = omega (arith, ints)

below_is : (d : ℤ) → d ≤ℤ pos 0 → (k : ℕ) × (d ≡ neg_ℤ (pos k))
below_is (pos zero) h = (0, refl)
below_is (pos (suc n)) h = absurd (let k : pos (suc n) ≤ℤ pos 0 = h in omega (arith, ints))
below_is (negsuc n) h = (suc n, refl)

opposite_below : (n : ℕ) → neg_ℤ (pos n) ≤ℤ pos 0
opposite_below n = omega (arith, ints)

product_below : (n d : ℤ) → d ≤ℤ pos 0 → int_le (pos 0) n ≡ true → (n *ℤ d) ≤ℤ pos 0
product_below (pos n) d h e = let k = below_is d h in
    subst (λ z. z ≤ℤ pos 0) (sym (ap (λ d. pos n *ℤ d) k.1 ∙ (times-opposite (pos n) (pos k.0) ∙ ap neg_ℤ (pos-*ℤ-pos n k.0)))) (opposite_below (n * k.0))
product_below (negsuc n) d h e = absurd (let f : false ≡ true = e in cc)

-- equal values count as equal numbers
same_numbers : (x y : Value) → same_value x y ≡ true → as_number x ≡ as_number y
same_numbers (a_number n) (a_number k) e = (Decides-int_eq n k).0 e
same_numbers (a_truth b) (a_truth d) e = refl
same_numbers (a_list l xs) (a_list k ys) e = refl
same_numbers (a_record xs) (a_record ys) e = refl
same_numbers (a_made g xs) (a_made h ys) e = refl
same_numbers (a_number n) (a_truth b) e = absurd cc
same_numbers (a_number n) (a_list l xs) e = absurd cc
same_numbers (a_number n) (a_record xs) e = absurd cc
same_numbers (a_number n) (a_made g xs) e = absurd cc
same_numbers (a_truth b) (a_number n) e = absurd cc
same_numbers (a_list l xs) (a_number n) e = absurd cc
same_numbers (a_record xs) (a_number n) e = absurd cc
same_numbers (a_made g xs) (a_number n) e = absurd cc
same_numbers _ _ e = refl

module _ (m : Tables) (c : Calls) (env : Env) where
  abbrev pub has : Term → Value → Type 0
  has t v = value_by m c t env ≡ Some v

  abbrev pub number_at : Term → ℤ
  number_at t = number_given (value_by m c t env)

  number_is : (t : Term) (v : Value) → has t v → number_at t ≡ as_number v
  number_is t v e = ap number_given e

  two_values : (o : Oper) (a b : Term) (v : Value) → ((os : List (Option Value)) → applied m c o os ≡ option_and_then (λ vs. Some (outcome m o vs)) (all_some os)) → has (op o (a ∷ b ∷ [])) v
      → (x : Value) × ((y : Value) × (has a x × (has b y × (outcome m o (x ∷ y ∷ []) ≡ v))))
  two_values o a b v plain e = two_parts (value_by m c a env) (value_by m c b env) (outcome m o) v
      (sym (plain (value_by m c a env ∷ value_by m c b env ∷ [])) ∙ (sym (value_op m c o (a ∷ b ∷ []) env) ∙ e))

  one_value : (o : Oper) (a : Term) (v : Value) → ((os : List (Option Value)) → applied m c o os ≡ option_and_then (λ vs. Some (outcome m o vs)) (all_some os)) → has (op o (a ∷ [])) v
      → (x : Value) × (has a x × (outcome m o (x ∷ []) ≡ v))
  one_value o a v plain e = one_part (value_by m c a env) (outcome m o) v (sym (plain (value_by m c a env ∷ [])) ∙ (sym (value_op m c o (a ∷ []) env) ∙ e))

  literal_value : (n : ℤ) (v : Value) → has (int n) v → as_number v ≡ n
  literal_value n v e = ap as_number (same_Some v (a_number n) (sym e ∙ value_int m c n env))

  -- ---- a term's number is its form's, at the numbers of atoms

  abbrev pub Means : Term → Type 0
  Means t = (v : Value) → has t v → as_number v ≡ valued number_at (summands t) +ℤ form t constant

  abbrev Gives : Shape Term → Term → ℤ
  Gives s t = valued number_at (summands_by t (within_shape summands s)) +ℤ form_by t (within_shape form s) constant

  gives : (s : Shape Term) (t : Term) → Spells s t → EachPart Means s → (v : Value) → has t v → as_number v ≡ Gives s t
  gives (literal n) t e h v is = literal_value n v (ap (λ t. value_by m c t env) (sym e) ∙ is) ∙ sym (+ℤ_idl n)
  gives (sum a b) t e h v is =
      let r = two_values oper.Add a b v (λ os. refl) (ap (λ t. value_by m c t env) (sym e) ∙ is) in
      sym (ap as_number r.1.1.1.1) ∙ ((λ i. h.0 r.0 r.1.1.0 i +ℤ h.1 r.1.0 r.1.1.1.0 i)
      ∙ (rearranged (valued number_at (summands a)) (form a constant) (valued number_at (summands b)) (form b constant)
      ∙ ap (λ z. z +ℤ (form a constant +ℤ form b constant)) (sym (valued-append number_at (summands a) (summands b)))))
  gives (difference a b) t e h v is =
      let r = two_values oper.Sub a b v (λ os. refl) (ap (λ t. value_by m c t env) (sym e) ∙ is) in
      sym (ap as_number r.1.1.1.1) ∙ ((λ i. h.0 r.0 r.1.1.0 i -ℤ h.1 r.1.0 r.1.1.1.0 i)
      ∙ (rearranged_less (valued number_at (summands a)) (form a constant) (valued number_at (summands b)) (form b constant)
      ∙ ap (λ z. z +ℤ (form a constant -ℤ form b constant))
      (ap (λ z. valued number_at (summands a) +ℤ z) (sym (valued-scaled (neg_ℤ (pos 1)) number_at (summands b) ∙ minus_one (valued number_at (summands b))))
      ∙ sym (valued-append number_at (summands a) (scaled (neg_ℤ (pos 1)) (summands b))))))
  gives (opposite a) t e h v is =
      let r = one_value oper.Neg a v (λ os. refl) (ap (λ t. value_by m c t env) (sym e) ∙ is) in
      sym (ap as_number r.1.1) ∙ (ap neg_ℤ (h r.0 r.1.0) ∙ (opposite_sum (valued number_at (summands a)) (form a constant)
      ∙ ap (λ z. z +ℤ neg_ℤ (form a constant)) (sym (valued-scaled (neg_ℤ (pos 1)) number_at (summands a) ∙ minus_one (valued number_at (summands a))))))
  gives (multiple n a) t (inl e) h v is =
      let r = two_values oper.Mul (int n) a v (λ os. refl) (ap (λ t. value_by m c t env) (sym e) ∙ is) in
      sym (ap as_number r.1.1.1.1) ∙ ((λ i. literal_value n r.0 r.1.1.0 i *ℤ h r.1.0 r.1.1.1.0 i) ∙ times_sum number_at n (summands a) (form a constant))
  gives (multiple n a) t (inr e) h v is =
      let r = two_values oper.Mul a (int n) v (λ os. refl) (ap (λ t. value_by m c t env) (sym e) ∙ is) in
      sym (ap as_number r.1.1.1.1) ∙ (*ℤ_comm (as_number r.0) (as_number r.1.0) ∙ ((λ i. literal_value n r.1.0 r.1.1.1.0 i *ℤ h r.0 r.1.1.0 i) ∙ times_sum number_at n (summands a) (form a constant)))
  gives whole t e h v is = sym (number_is t v is) ∙ alone (number_at t)

  pub means : (t : Term) → Means t
  means = by_shape Means (λ t h v is. gives (shape_of t) t (spelled t) h v is
      ∙ (λ i. valued number_at (sym (over_is summands_by t) i) +ℤ sym (form_is t constant) i))

  -- ---- facts

  -- what a fact says of the numbers
  abbrev pub says : Fact → Bool
  says (at_most a b) = int_le (number_at a) (number_at b)
  says (below a b) = int_lt (number_at a) (number_at b)
  says (equal_to a b) = int_eq (number_at a) (number_at b)

  -- both sides have values
  abbrev pub Sides : Fact → Type 0
  Sides fact = ((x : Value) × has (left_of fact) x) × ((y : Value) × has (right_of fact) y)

  -- a term whose value is that of the fact
  abbrev pub Tells : Value → Fact → Type 0
  Tells v fact = (v ≡ a_truth (says fact)) × Sides fact

  tells_le : (a b : Term) (v : Value) → has (op oper.Le (a ∷ b ∷ [])) v → Tells v (at_most a b)
  tells_le a b v e =
      let r = two_values oper.Le a b v (λ os. refl) e in
      (sym r.1.1.1.1 ∙ (λ i. a_truth (int_le (sym (number_is a r.0 r.1.1.0) i) (sym (number_is b r.1.0 r.1.1.1.0) i))), ((r.0, r.1.1.0), (r.1.0, r.1.1.1.0)))

  tells_lt : (a b : Term) (v : Value) → has (op oper.Lt (a ∷ b ∷ [])) v → Tells v (below a b)
  tells_lt a b v e =
      let r = two_values oper.Lt a b v (λ os. refl) e in
      (sym r.1.1.1.1 ∙ (λ i. a_truth (int_lt (sym (number_is a r.0 r.1.1.0) i) (sym (number_is b r.1.0 r.1.1.1.0) i))), ((r.0, r.1.1.0), (r.1.0, r.1.1.1.0)))

  tells_ge : (b a : Term) (v : Value) → has (op oper.Ge (b ∷ a ∷ [])) v → Tells v (at_most a b)
  tells_ge b a v e =
      let r = two_values oper.Ge b a v (λ os. refl) e in
      (sym r.1.1.1.1 ∙ (λ i. a_truth (int_le (sym (number_is a r.1.0 r.1.1.1.0) i) (sym (number_is b r.0 r.1.1.0) i))), ((r.1.0, r.1.1.1.0), (r.0, r.1.1.0)))

  tells_gt : (b a : Term) (v : Value) → has (op oper.Gt (b ∷ a ∷ [])) v → Tells v (below a b)
  tells_gt b a v e =
      let r = two_values oper.Gt b a v (λ os. refl) e in
      (sym r.1.1.1.1 ∙ (λ i. a_truth (int_lt (sym (number_is a r.1.0 r.1.1.1.0) i) (sym (number_is b r.0 r.1.1.0) i))), ((r.1.0, r.1.1.1.0), (r.0, r.1.1.0)))

  compared_tells : (o : Oper) (ts : List Term) (fact : Fact) → compared o ts ≡ Some fact → (v : Value) → has (op o ts) v → Tells v fact
  compared_tells oper.Le (a ∷ b ∷ []) fact e v h = subst (Tells v) (same_Some (at_most a b) fact e) (tells_le a b v h)
  compared_tells oper.Ge (b ∷ a ∷ []) fact e v h = subst (Tells v) (same_Some (at_most a b) fact e) (tells_ge b a v h)
  compared_tells oper.Lt (a ∷ b ∷ []) fact e v h = subst (Tells v) (same_Some (below a b) fact e) (tells_lt a b v h)
  compared_tells oper.Gt (b ∷ a ∷ []) fact e v h = subst (Tells v) (same_Some (below a b) fact e) (tells_gt b a v h)
  compared_tells oper.Le [] fact e v h = absurd cc
  compared_tells oper.Le (a ∷ []) fact e v h = absurd cc
  compared_tells oper.Le (a ∷ b ∷ d ∷ ts) fact e v h = absurd cc
  compared_tells oper.Ge [] fact e v h = absurd cc
  compared_tells oper.Ge (a ∷ []) fact e v h = absurd cc
  compared_tells oper.Ge (a ∷ b ∷ d ∷ ts) fact e v h = absurd cc
  compared_tells oper.Lt [] fact e v h = absurd cc
  compared_tells oper.Lt (a ∷ []) fact e v h = absurd cc
  compared_tells oper.Lt (a ∷ b ∷ d ∷ ts) fact e v h = absurd cc
  compared_tells oper.Gt [] fact e v h = absurd cc
  compared_tells oper.Gt (a ∷ []) fact e v h = absurd cc
  compared_tells oper.Gt (a ∷ b ∷ d ∷ ts) fact e v h = absurd cc
  compared_tells _ ts fact e v h = absurd cc

  comparison_layer : (y : Term-F Term) (fact : Fact) → comparison_in y ≡ Some fact → (v : Value) → has (roll-Term y) v → Tells v fact
  comparison_layer (Term-F.Op o ts) fact e v h = compared_tells o ts fact e v h
  comparison_layer (Term-F.Int n) fact e v h = absurd cc
  comparison_layer (Term-F.Truth b) fact e v h = absurd cc
  comparison_layer (Term-F.Var x) fact e v h = absurd cc
  comparison_layer (Term-F.All x l k b) fact e v h = absurd cc
  comparison_layer (Term-F.Some x l k b) fact e v h = absurd cc

  comparison_tells : (t : Term) (fact : Fact) → comparison t ≡ Some fact → (v : Value) → has t v → Tells v fact
  comparison_tells t fact e v h = comparison_layer (out-Term t) fact e v (ap (λ t. value_by m c t env) (roll-out-Term t) ∙ h)

  pub denied_says : (g fact : Fact) → denied g ≡ Some fact → Sides g → (not (says g) ≡ says fact) × Sides fact
  denied_says (at_most a b) fact e s = subst (λ f. (not (int_le (number_at a) (number_at b)) ≡ says f) × Sides f) (same_Some (below b a) fact e) (not_le (number_at a) (number_at b), (s.1, s.0))
  denied_says (below a b) fact e s = subst (λ f. (not (int_lt (number_at a) (number_at b)) ≡ says f) × Sides f) (same_Some (at_most b a) fact e) (not_lt (number_at a) (number_at b), (s.1, s.0))
  denied_says (equal_to a b) fact e s = absurd cc

  not_tells : (t : Term) (fact : Fact) → option_and_then denied (comparison t) ≡ Some fact → (v : Value) → has (op oper.Not (t ∷ [])) v → Tells v fact
  not_tells t fact e v h =
      let p = parts_of (comparison t) denied fact e in
      let r = one_value oper.Not t v (λ os. refl) h in
      let g = comparison_tells t p.0 p.1.0 r.0 r.1.0 in
      let d = denied_says p.0 fact p.1.1 g.1 in
      (sym r.1.1 ∙ (ap (λ x. a_truth (not (as_truth x))) g.0 ∙ ap a_truth d.0), d.1)

  bound_op : (o : Oper) (ts : List Term) (fact : Fact) → bound_by o ts ≡ Some fact → (v : Value) → has (op o ts) v → Tells v fact
  bound_op oper.Not (t ∷ []) fact e v h = not_tells t fact e v h
  bound_op oper.Not [] fact e v h = absurd cc
  bound_op oper.Not (t ∷ u ∷ ts) fact e v h = absurd cc
  bound_op o ts fact e v h = compared_tells o ts fact e v h

  bound_layer : (y : Term-F Term) (fact : Fact) → bound_in y ≡ Some fact → (v : Value) → has (roll-Term y) v → Tells v fact
  bound_layer (Term-F.Op o ts) fact e v h = bound_op o ts fact e v h
  bound_layer (Term-F.Int n) fact e v h = absurd cc
  bound_layer (Term-F.Truth b) fact e v h = absurd cc
  bound_layer (Term-F.Var x) fact e v h = absurd cc
  bound_layer (Term-F.All x l k b) fact e v h = absurd cc
  bound_layer (Term-F.Some x l k b) fact e v h = absurd cc

  pub bound_tells : (t : Term) (fact : Fact) → bound t ≡ Some fact → (v : Value) → has t v → Tells v fact
  bound_tells t fact e v h = bound_layer (out-Term t) fact e v (ap (λ t. value_by m c t env) (roll-out-Term t) ∙ h)

  -- ---- equations

  equal_tells : (a b : Term) → has (op oper.Eq (a ∷ b ∷ [])) (a_truth true) → (says (equal_to a b) ≡ true) × Sides (equal_to a b)
  equal_tells a b h =
      let r = two_values oper.Eq a b (a_truth true) (λ os. refl) h in
      let same = same_numbers r.0 r.1.0 (ap as_truth r.1.1.1.1) in
      ((Decides-int_eq (number_at a) (number_at b)).1 (number_is a r.0 r.1.1.0 ∙ (same ∙ sym (number_is b r.1.0 r.1.1.1.0))), ((r.0, r.1.1.0), (r.1.0, r.1.1.1.0)))

  equation_op : (vars : List Var) (o : Oper) (ts : List Term) (fact : Fact) → equation_by vars o ts ≡ Some fact → has (op o ts) (a_truth true) → (says fact ≡ true) × Sides fact
  equation_op vars oper.Eq (a ∷ b ∷ []) fact e h = by_test (may_be_number vars a && may_be_number vars b) e
    where
      by_test : (t : Bool) → (if t then Some (equal_to a b) else None) ≡ Some fact → (says fact ≡ true) × Sides fact
      by_test true e = subst (λ f. (says f ≡ true) × Sides f) (same_Some (equal_to a b) fact e) (equal_tells a b h)
      by_test false e = absurd cc
  equation_op vars oper.Eq [] fact e h = absurd cc
  equation_op vars oper.Eq (a ∷ []) fact e h = absurd cc
  equation_op vars oper.Eq (a ∷ b ∷ d ∷ ts) fact e h = absurd cc
  equation_op vars _ ts fact e h = absurd cc

  equation_layer : (vars : List Var) (y : Term-F Term) (fact : Fact) → equation_in vars y ≡ Some fact → has (roll-Term y) (a_truth true) → (says fact ≡ true) × Sides fact
  equation_layer vars (Term-F.Op o ts) fact e h = equation_op vars o ts fact e h
  equation_layer vars (Term-F.Int n) fact e h = absurd cc
  equation_layer vars (Term-F.Truth b) fact e h = absurd cc
  equation_layer vars (Term-F.Var x) fact e h = absurd cc
  equation_layer vars (Term-F.All x l k b) fact e h = absurd cc
  equation_layer vars (Term-F.Some x l k b) fact e h = absurd cc

  -- a hypothesis that is true
  pub fact_tells : (vars : List Var) (t : Term) (fact : Fact) → fact_of vars t ≡ Some fact → has t (a_truth true) → (says fact ≡ true) × Sides fact
  fact_tells vars t fact e h = by_bound (bound t) refl
    where
      by_bound : (o : Option Fact) → bound t ≡ o → (says fact ≡ true) × Sides fact
      by_bound (Some g) f =
          let is = same_Some g fact (sym (ap (λ o. option_or o (equation vars t)) f) ∙ e) in
          let r = bound_tells t fact (f ∙ ap Some is) (a_truth true) h in
          (sym (ap as_truth r.0), r.1)
      by_bound None f = equation_layer vars (out-Term t) fact (sym (ap (λ o. option_or o (equation vars t)) f) ∙ e) (ap (λ t. value_by m c t env) (roll-out-Term t) ∙ h)

  -- ---- the number of a fact's form

  abbrev pub distance : Fact → ℤ
  distance fact = number_at (left_of fact) -ℤ number_at (right_of fact) +ℤ extra_of fact

  pub distance_is : (fact : Fact) → Sides fact → distance fact ≡ valued number_at (summands_in fact) +ℤ form_of fact constant
  distance_is fact s =
      let a = valued number_at (summands (left_of fact)) in
      let b = valued number_at (summands (right_of fact)) in
      let left = number_is (left_of fact) s.0.0 s.0.1 ∙ means (left_of fact) s.0.0 s.0.1 in
      let right = number_is (right_of fact) s.1.0 s.1.1 ∙ means (right_of fact) s.1.0 s.1.1 in
      (λ i. left i -ℤ right i +ℤ extra_of fact) ∙ (ap (λ z. z +ℤ extra_of fact) (rearranged_less a (form (left_of fact) constant) b (form (right_of fact) constant))
      ∙ (+ℤ_assoc (a +ℤ neg_ℤ b) (form (left_of fact) constant -ℤ form (right_of fact) constant) (extra_of fact)
      ∙ (λ i. (ap (λ z. a +ℤ z) (sym (valued-scaled (neg_ℤ (pos 1)) number_at (summands (right_of fact)) ∙ minus_one b))
      ∙ sym (valued-append number_at (summands (left_of fact)) (scaled (neg_ℤ (pos 1)) (summands (right_of fact))))) i +ℤ fact_form fact constant i)))

  -- a fact that is true, with a coefficient that may weigh it, adds nothing above 0
  pub adds_nothing : (n : ℤ) (fact : Fact) → says fact ≡ true → (is_equation fact || int_le (pos 0) n) ≡ true → (n *ℤ distance fact) ≤ℤ pos 0
  adds_nothing n (at_most a b) e h = product_below n _ (le_distance (number_at a) (number_at b) e) h
  adds_nothing n (below a b) e h = product_below n _ (lt_distance (number_at a) (number_at b) e) h
  adds_nothing n (equal_to a b) e h = subst (λ z. z ≤ℤ pos 0) (sym (ap (λ d. n *ℤ d) (equal_distance (number_at a) (number_at b) ((Decides-int_eq (number_at a) (number_at b)).0 e)) ∙ *ℤ-zero n)) none_above
