-- What is left, each with its number: what it is at first, and after the first that fits was taken.
use Rattle.std.proofs.Common.{◌≡◌, ℕ, zero, suc, ◌+◌, List, [], ◌∷◌, filter, Bool, true, false, cond, Some, None, ◌⊎◌, inl, inr, refl, ap, sym, ◌∙◌, subst, arith}
use Rattle.std.specs.Map.{lookup, remove_entry}
use Rattle.std.specs.Prelude.{slice_get}
use Rattle.proof_replay.specs.Carrying.{numbered_from}

abbrev pub Has : {X : Type 0} → X → List X → Type 0
Has x [] = ⊥
Has x (y ∷ ys) = (y ≡ x) ⊎ Has x ys

pub has_filter : {X : Type 0} (p : X → Bool) (x : X) (xs : List X) → Has x xs → p x ≡ true → Has x (filter p xs)
has_filter p x [] h t = h
has_filter p x (y ∷ ys) h t = by (p y) refl h (λ k. has_filter p x ys k t)
  where
    by : (b : Bool) → p y ≡ b → (y ≡ x) ⊎ Has x ys → (Has x ys → Has x (filter p ys)) → Has x (cond b (y ∷ filter p ys) (filter p ys))
    by true e (inl s) ih = inl s
    by true e (inr k) ih = inr (ih k)
    by false e (inl s) ih = let clash : true ≡ false = sym t ∙ (ap p (sym s) ∙ e) in cc
    by false e (inr k) ih = ih k

pub filter_has : {X : Type 0} (p : X → Bool) (x : X) (xs : List X) → Has x (filter p xs) → Has x xs × (p x ≡ true)
filter_has p x [] h = absurd h
filter_has p x (y ∷ ys) h = by (p y) refl h (filter_has p x ys)
  where
    by : (b : Bool) → p y ≡ b → Has x (cond b (y ∷ filter p ys) (filter p ys)) → (Has x (filter p ys) → Has x ys × (p x ≡ true)) → ((y ≡ x) ⊎ Has x ys) × (p x ≡ true)
    by true e (inl s) ih = (inl s, ap p (sym s) ∙ e)
    by true e (inr k) ih = (inr (ih k).0, (ih k).1)
    by false e k ih = (inr (ih k).0, (ih k).1)

module _ {O : Type 0} where
  -- no two have one number
  abbrev pub Apart : List (O × ℕ) → Type 0
  Apart [] = Unit {0}
  Apart (e ∷ es) = ((f : O × ℕ) → Has f es → f.1 ≡ e.1 → ⊥) × Apart es

  -- ---- numbered

  pub numbered_has : (n : ℕ) (os : List O) (o : O) (j : ℕ) → Has (o, j) (numbered_from n os) → (d : ℕ) × ((j ≡ n + d) × (slice_get os d ≡ Some o))
  numbered_has n [] o j h = absurd h
  numbered_has n (x ∷ os) o j (inl e) = (0, (omega (arith, ap (λ p. p.1) e), ap (λ p. Some p.0) e))
  numbered_has n (x ∷ os) o j (inr h) = let r = numbered_has (n + 1) os o j h in (suc r.0, (omega (arith, r.1.0), r.1.1))

  pub has_numbered : (n : ℕ) (os : List O) (d : ℕ) (o : O) → slice_get os d ≡ Some o → Has (o, n + d) (numbered_from n os)
  has_numbered n [] d o e = cc
  has_numbered n (x ∷ os) zero o e = inl (let s : x ≡ o = cc in let z : n ≡ n + 0 = omega arith in λ i. (s i, z i))
  has_numbered n (x ∷ os) (suc d) o e = let z : (n + 1) + d ≡ n + suc d = omega arith in inr (subst (λ m. Has (o, m) (numbered_from (n + 1) os)) z (has_numbered (n + 1) os d o e))

  pub numbered_apart : (n : ℕ) (os : List O) → Apart (numbered_from n os)
  numbered_apart n [] = tt
  numbered_apart n (o ∷ os) = (λ f h e. let r = numbered_has (n + 1) os f.0 f.1 h in omega (arith, r.1.0, e), numbered_apart (n + 1) os)

  pub filter_apart : (p : O × ℕ → Bool) (l : List (O × ℕ)) → Apart l → Apart (filter p l)
  filter_apart p [] a = a
  filter_apart p (e ∷ l) a = by (p e) (filter_apart p l a.1)
    where
      by : (b : Bool) → Apart (filter p l) → Apart (cond b (e ∷ filter p l) (filter p l))
      by true ih = (λ f h. a.0 f (filter_has p f l h).0, ih)
      by false ih = ih

  -- ---- the first that fits, and the others

  pub found : (f : O → Bool) (l : List (O × ℕ)) (j : ℕ) → lookup f l ≡ Some j → (o : O) × (Has (o, j) l × (f o ≡ true))
  found f [] j h = cc
  found f (e ∷ l) j h = by (f e.0) refl h (found f l j)
    where
      by : (b : Bool) → f e.0 ≡ b → cond b (Some e.1) (lookup f l) ≡ Some j → (lookup f l ≡ Some j → (o : O) × (Has (o, j) l × (f o ≡ true)))
          → (o : O) × (((e ≡ (o, j)) ⊎ Has (o, j) l) × (f o ≡ true))
      by true t h ih = (e.0, (inl (let s : e.1 ≡ j = cc in λ i. (e.0, s i)), t))
      by false t h ih = let r = ih h in (r.0, (inr r.1.0, r.1.1))

  pub others_have : (f : O → Bool) (l : List (O × ℕ)) (x : O × ℕ) → Has x (remove_entry f l) → Has x l
  others_have f [] x h = h
  others_have f (e ∷ l) x h = by (f e.0) h (others_have f l x)
    where
      by : (b : Bool) → Has x (cond b l (e ∷ remove_entry f l)) → (Has x (remove_entry f l) → Has x l) → (e ≡ x) ⊎ Has x l
      by true h ih = inr h
      by false (inl s) ih = inl s
      by false (inr k) ih = inr (ih k)

  pub others_apart : (f : O → Bool) (l : List (O × ℕ)) → Apart l → Apart (remove_entry f l)
  others_apart f [] a = a
  others_apart f (e ∷ l) a = by (f e.0) (others_apart f l a.1)
    where
      by : (b : Bool) → Apart (remove_entry f l) → Apart (cond b l (e ∷ remove_entry f l))
      by true ih = a.1
      by false ih = (λ x h. a.0 x (others_have f l x h), ih)

  -- what is taken isn't left
  pub gone : (f : O → Bool) (l : List (O × ℕ)) (j : ℕ) (x : O × ℕ) → Apart l → lookup f l ≡ Some j → Has x (remove_entry f l) → x.1 ≡ j → ⊥
  gone f [] j x a e h s = h
  gone f (y ∷ l) j x a e h s = by (f y.0) e h (gone f l j x a.1)
    where
      by : (b : Bool) → cond b (Some y.1) (lookup f l) ≡ Some j → Has x (cond b l (y ∷ remove_entry f l))
          → (lookup f l ≡ Some j → Has x (remove_entry f l) → x.1 ≡ j → ⊥) → ⊥
      by true e h ih = let t : y.1 ≡ j = cc in a.0 x h (s ∙ sym t)
      by false e (inl same) ih = let r = found f l j e in a.0 (r.0, j) r.1.0 (sym s ∙ ap (λ p. p.1) (sym same))
      by false e (inr k) ih = ih e k s

  -- what was left is taken, or is left
  pub taken_or_left : (f : O → Bool) (l : List (O × ℕ)) (o : O) (j : ℕ) → Has (o, j) l → ((lookup f l ≡ Some j) × (f o ≡ true)) ⊎ Has (o, j) (remove_entry f l)
  taken_or_left f [] o j h = absurd h
  taken_or_left f (e ∷ l) o j h = by (f e.0) refl h (taken_or_left f l o j)
    where
      by : (b : Bool) → f e.0 ≡ b → (e ≡ (o, j)) ⊎ Has (o, j) l → (Has (o, j) l → ((lookup f l ≡ Some j) × (f o ≡ true)) ⊎ Has (o, j) (remove_entry f l))
          → ((cond b (Some e.1) (lookup f l) ≡ Some j) × (f o ≡ true)) ⊎ Has (o, j) (cond b l (e ∷ remove_entry f l))
      by true t (inl s) ih = inl (ap (λ p. Some p.1) s, ap (λ p. f p.0) (sym s) ∙ t)
      by true t (inr k) ih = inr k
      by false t (inl s) ih = inr (inl s)
      by false t (inr k) ih = next (ih k)
        where
          next : ((lookup f l ≡ Some j) × (f o ≡ true)) ⊎ Has (o, j) (remove_entry f l) → ((lookup f l ≡ Some j) × (f o ≡ true)) ⊎ ((e ≡ (o, j)) ⊎ Has (o, j) (remove_entry f l))
          next (inl r) = inl r
          next (inr r) = inr (inr r)

  pub none_fits : (f : O → Bool) (l : List (O × ℕ)) (o : O) (j : ℕ) → lookup f l ≡ None → Has (o, j) l → f o ≡ true → ⊥
  none_fits f [] o j e h t = h
  none_fits f (x ∷ l) o j e h t = by (f x.0) refl e h (none_fits f l o j)
    where
      by : (b : Bool) → f x.0 ≡ b → cond b (Some x.1) (lookup f l) ≡ None → (x ≡ (o, j)) ⊎ Has (o, j) l → (lookup f l ≡ None → Has (o, j) l → f o ≡ true → ⊥) → ⊥
      by true s e h ih = cc
      by false s e (inl same) ih = let clash : true ≡ false = sym t ∙ (ap (λ p. f p.0) (sym same) ∙ s) in cc
      by false s e (inr k) ih = ih e k t
