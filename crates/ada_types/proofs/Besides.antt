-- The place after a node.
use Rattle.std.proofs.Common.{◌≡◌, ℕ, ◌+◌, List, [], ◌∷◌, ◌++◌, refl, sym, ap, ◌∙◌}
use Rattle.ada_types.specs.Declarations.{beside}

of_last : (front : List ℕ) (last : ℕ) → beside (front ++ last ∷ []) ≡ front ++ (last + 1) ∷ []
of_last [] last = refl
of_last (x ∷ []) last = refl
of_last (x ∷ y ∷ ys) last = ap (λ zs. x ∷ zs) (of_last (y ∷ ys) last)

pub beside_of : (whole front : List ℕ) (last next : ℕ) (made : List ℕ) → whole ≡ front ++ last ∷ [] → next ≡ last + 1 → made ≡ front ++ next ∷ [] → made ≡ beside whole
beside_of whole front last next made e f g = g ∙ ap (λ n. front ++ n ∷ []) f ∙ sym (of_last front last) ∙ ap beside (sym e)
