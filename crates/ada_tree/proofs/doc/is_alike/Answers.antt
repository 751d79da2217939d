use Rattle.std.proofs.Common.{refl, sym, ◌∙◌}
use denote.Enum.Bare.{differs_false}
use Rattle.ada_tree.specs.contracts.kind.Kind.{the_type}
use Rattle.ada_tree.proofs.doc.is_alike.Goals as goal

pub returns : goal.returns
returns c = (
  λ same. (differs_false the_type tt _ _ (sym c.if-ne.ensures), c.if-not-is_same_text.ensures.0 refl, sym c.as_slice.ensures ∙ c.are_same_texts.ensures.0 same ∙ c.as_slice-2.ensures),
  λ all. c.are_same_texts.ensures.1 (c.as_slice.ensures ∙ all.2 ∙ sym c.as_slice-2.ensures),
)
