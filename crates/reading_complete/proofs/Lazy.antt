-- Tests of lists that stop where the answer is known.
use Rattle.std.proofs.Common.{◌≡◌, List, [], ◌∷◌, refl, Bool, true, false}
use Rattle.reading_table.specs.Tables.{Has, first, later}

abbrev pub any_of : {A : Type 0} → List A → (A → Bool) → Bool
any_of [] f = false
any_of (x ∷ xs) f = elim (f x) [ true ↦ true | false ↦ any_of xs f ]

abbrev pub all_of : {A : Type 0} → List A → (A → Bool) → Bool
all_of [] f = true
all_of (x ∷ xs) f = elim (f x) [ true ↦ all_of xs f | false ↦ false ]

pub both_parts : (a b : Bool) → elim a as (λ b. Bool) [ true ↦ b | false ↦ false ] ≡ true → (a ≡ true) × (b ≡ true)
both_parts true b h = (refl, h)
both_parts false b h = absurd cc

pub any_of_has : {A : Type 0} → (xs : List A) (f : A → Bool) → any_of xs f ≡ true → (x : A) × Has xs x × (f x ≡ true)
any_of_has [] f h = absurd cc
any_of_has {A = A} (y ∷ xs) f h = by_test (f y) refl (any_of_has xs f) h
  where
    by_test : (b : Bool) → f y ≡ b → (any_of xs f ≡ true → (x : A) × Has xs x × (f x ≡ true)) → elim b as (λ b. Bool) [ true ↦ true | false ↦ any_of xs f ] ≡ true → (x : A) × Has (y ∷ xs) x × (f x ≡ true)
    by_test true e go h = (y, first, e)
    by_test false e go h = let r = go h in (r.0, later r.1, r.2)

pub all_of_has : {A : Type 0} → (xs : List A) (f : A → Bool) (x : A) → all_of xs f ≡ true → Has xs x → f x ≡ true
all_of_has [] f x h m = elim m [ ]
all_of_has (y ∷ xs) f x h first = (both_parts (f y) (all_of xs f) h).0
all_of_has (y ∷ xs) f x h (later m) = all_of_has xs f x (both_parts (f y) (all_of xs f) h).1 m
