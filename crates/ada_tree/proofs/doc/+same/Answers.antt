use Rattle.std.proofs.Common.{ap, refl, sym, ◌∙◌}
use Rattle.ada_tree.specs.Nodes.{kids_of}
use Rattle.ada_tree.proofs.Parts.{same_parts}
use Rattle.ada_tree.proofs.doc.+same.Goals as goal

pub is_same-returns-then-is_alike : goal.is_same-returns-then-is_alike
is_same-returns-then-is_alike t c =
    let alike = c.if-is_alike.ensures.0 refl in (
      λ same. same_parts c.args.a.now c.args.b.now alike.0 alike.1 alike.2 (sym c.as_slice.ensures ∙ c.are_same.ensures.0 same ∙ c.as_slice-then-is_alike.ensures),
      λ same. c.are_same.ensures.1 (c.as_slice.ensures ∙ ap kids_of same ∙ sym c.as_slice-then-is_alike.ensures),
    )
