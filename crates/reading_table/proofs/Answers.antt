-- Taking answers apart.
use Rattle.std.proofs.Common.{◌≡◌, List, [], ◌∷◌, ◌++◌, refl, Option, Some, None, Bool, true, false, if◌then◌else◌, append_assoc, ap, ◌∙◌}
use Rattle.reading_table.specs.Machine.{or_else, first_some, after, both}
use Rattle.reading_table.specs.Tables.{Has, first, later}

pub after_some : {A : Type 0} → (s : A) (o : Option (List A)) (l : List A) → after s o ≡ Some l → (a : List A) × (o ≡ Some a) × (s ∷ a ≡ l)
after_some s None l h = absurd cc
after_some s (Some a) l h = (a, refl, cc)

pub both_some : {A : Type 0} → (o p : Option (List A)) (l : List A) → both o p ≡ Some l → (a b : List A) × (o ≡ Some a) × (p ≡ Some b) × (a ++ b ≡ l)
both_some None p l h = absurd cc
both_some (Some a) None l h = absurd cc
both_some (Some a) (Some b) l h = (a, b, refl, refl, cc)

pub if_some : {A : Type 0} → (b : Bool) (x y : A) → (if b then Some x else None) ≡ Some y → (b ≡ true) × (x ≡ y)
if_some true x y h = (refl, cc)
if_some false x y h = absurd cc

pub some_if : {A : Type 0} → (b : Bool) (x : A) → b ≡ true → (if b then Some x else None) ≡ Some x
some_if true x h = refl
some_if false x h = absurd cc

pub both-assoc : {A : Type 0} → (a b c : Option (List A)) → both (both a b) c ≡ both a (both b c)
both-assoc None b c = refl
both-assoc (Some a) None c = refl
both-assoc (Some a) (Some b) None = refl
both-assoc (Some a) (Some b) (Some c) = ap Some (append_assoc a b c)

pub both-after : {A : Type 0} → (s : A) (a b : Option (List A)) → both (after s a) b ≡ after s (both a b)
both-after s None b = refl
both-after s (Some a) None = refl
both-after s (Some a) (Some b) = refl

-- an answer of first_some is one of some member
pub first_some_has : {A B : Type 0} → (f : A → Option B) (xs : List A) (y : B) → first_some f xs ≡ Some y → (x : A) × Has xs x × (f x ≡ Some y)
first_some_has f [] y h = absurd cc
first_some_has {A = A} {B = B} f (x ∷ xs) y h = by_head (first_some_has f xs y) (f x) refl h
  where
    by_head : (first_some f xs ≡ Some y → (z : A) × Has xs z × (f z ≡ Some y)) → (o : Option B) → f x ≡ o → or_else o (first_some f xs) ≡ Some y → (z : A) × Has (x ∷ xs) z × (f z ≡ Some y)
    by_head go None e h = let r = go h in (r.0, later r.1, r.2)
    by_head go (Some z) e h = (x, first, e ∙ h)
