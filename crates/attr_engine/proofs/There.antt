-- Paths and ranges that are there.
use Rattle.std.proofs.Common.{◌≡◌, ℕ, ◌<◌, List, ◌∷◌, length, Bool, true, Option, Some, None, slice_get, refl, sym, ◌∙◌, ap}
use Rattle.std.proofs.lemmas.Option.{slice_get_within}
use Rattle.attr_engine.specs.declared.node.Node.{Node}
use Rattle.attr_engine.specs.Nodes.{kids_of}
use Rattle.attr_engine.specs.Edits.{any_some, is_there}

within_some : {A : Type 0} (test : A → Bool) (xs : List A) (number : ℕ) (found : Option A) → slice_get xs number ≡ found → any_some test found ≡ true → number < length xs
within_some test xs number None e h = cc
within_some test xs number (Some x) e h = slice_get_within xs number x e

module _ {Label Need In Out : Type 0} where
  pub step_within : (path rest : List ℕ) (number from to : ℕ) (node : Node Label Need In Out) → path ≡ number ∷ rest → is_there path from to node ≡ true → number < length (kids_of node)
  step_within path rest number from to node p h =
      within_some (is_there rest from to) (kids_of node) number (slice_get (kids_of node) number) refl (sym (ap (λ steps. is_there steps from to node) p) ∙ h)
