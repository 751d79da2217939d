-- Whether two values of a type are the same value.
use base.Stored.{Gv, gnil, gnum, gcons, Coded}
use Rattle.std.proofs.Common.{refl, ap, subst, eqb-true, eq-eqb}
use Rattle.std.proofs.lemmas.Bool.{and_parts, and_from}
use Rattle.std.specs.Bool.{Decides}
use Rattle.std.specs.Cmp.{IsEquivalence, decided}
use Rattle.std.specs.Prelude.{◌≡◌, ◌==◌, Bool, true, false, ◌&&◌}

-- whether two codes are the same tree of numbers
abbrev pub same_tree : Gv → Gv → Bool
same_tree gnil gnil = true
same_tree (gnum m) (gnum n) = m == n
same_tree (gcons a b) (gcons c d) = same_tree a c && same_tree b d
same_tree _ _ = false

-- whether two values have the same code: so whether they are the same, since a code tells its value
unfoldable pub same : {A : Type 0} → Coded A → A → A → Bool
same coded x y = same_tree (coded.code x) (coded.code y)

-- ---- it tells equal values

itself : (a : Gv) → same_tree a a ≡ true
itself gnil = refl
itself (gnum n) = eq-eqb n n refl
itself (gcons a b) = and_from _ _ (itself a) (itself b)

pub told : (a b : Gv) → same_tree a b ≡ true → a ≡ b
told gnil gnil e = refl
told (gnum m) (gnum n) e = ap gnum (eqb-true m n e)
told (gcons a b) (gcons c d) e = let parts : (same_tree a c ≡ true) × (same_tree b d ≡ true) = and_parts _ _ e in λ i. gcons (told a c parts.0 i) (told b d parts.1 i)
told gnil (gnum n) e = cc
told gnil (gcons c d) e = cc
told (gnum m) gnil e = cc
told (gnum m) (gcons c d) e = cc
told (gcons a b) gnil e = cc
told (gcons a b) (gnum n) e = cc

pub same_decides : {A : Type 0} (coded : Coded A) (x y : A) → Decides (same coded x y) (x ≡ y)
unfolding same
same_decides coded x y = (λ e. coded.inj x y (told (coded.code x) (coded.code y) e), λ e. subst (λ z. same_tree (coded.code x) (coded.code z) ≡ true) e (itself (coded.code x)))

pub same_is_equality : {A : Type 0} (coded : Coded A) → IsEquivalence (same coded)
same_is_equality coded = decided (same coded) (same_decides coded)
