-- Printing file after file.
use Rattle.std.proofs.Common.{◌≡◌, ℕ, ◌+◌, ◌<◌, List, ◌∷◌, ◌++◌, length, get_or, drop, sym, ap, ◌∙◌, add-one, drop-cons, arith, Option, Some, None, ◌≤◌, inl, inr, ◌⊎◌}
use Rattle.std.proofs.lemmas.List.{append_assoc}
use Rattle.std.proofs.lemmas.List.Concat.{flat_map-cons}
use Rattle.std.proofs.lemmas.Option.{slice_get_cases, get_or_from_slice_get}
use Rattle.std.specs.Prelude.{slice_get}
use Rattle.ada_tree.specs.declared.node.Node.{Node}
use Rattle.ada_tree.specs.Rendering.{file_text}
use Rattle.penelope_cli.specs.Fresh.{texts_of}

-- the text of the first of the files that are left
texts_left : (files : List Node) (number : ℕ) (file : Node) → number < length files → slice_get files number ≡ Some file → texts_of (drop number files) ≡ file_text (slice_get files number) ++ texts_of (drop (number + 1) files)
texts_left files number file within is =
    let here : drop number files ≡ get_or files number file ∷ drop (number + 1) files = rw (add-one, drop-cons files number file) in
    ap texts_of (here ∙ ap (λ (first : Node). first ∷ drop (number + 1) files) (get_or_from_slice_get files number file file is))
    ∙ flat_map-cons (λ file. file_text (Some file)) file (drop (number + 1) files)
    ∙ ap (λ (found : Option Node). file_text found ++ texts_of (drop (number + 1) files)) (sym is)

pub next_text : (files : List Node) (number : ℕ) (out : List ℕ) → number < length files → out ++ texts_of (drop number files) ≡ (out ++ file_text (slice_get files number)) ++ texts_of (drop (number + 1) files)
next_text files number out within = by (slice_get_cases files number).1
  where
    by : ((file : Node) × (number < length files) × (slice_get files number ≡ Some file) × (get_or files number file ≡ file)) ⊎ ((length files ≤ number) × (slice_get files number ≡ None)) → out ++ texts_of (drop number files) ≡ (out ++ file_text (slice_get files number)) ++ texts_of (drop (number + 1) files)
    by (inl (file, inside, is, got)) = ap (λ (texts : List ℕ). out ++ texts) (texts_left files number file within is) ∙ sym (append_assoc out (file_text (slice_get files number)) (texts_of (drop (number + 1) files)))
    by (inr (past, none)) = absurd (omega (arith, past, within))
