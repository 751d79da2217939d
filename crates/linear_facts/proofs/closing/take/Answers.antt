use Rattle.std.proofs.Common.{◌∙◌, sym, ap}
use Rattle.std.specs.List.{list_any}
use Rattle.linear_facts.specs.Closing.{weights}
use Rattle.linear_facts.specs.Views.{part_behind}
use Rattle.linear_facts.specs.Asked.{is_right}
use Rattle.linear_facts.specs.Lanes.{same_part}
use Rattle.linear_facts.proofs.WindowLaws.{among}
use Rattle.linear_facts.proofs.closing.take.Goals as goal

pub returns-then-is_among : goal.returns-then-is_among
returns-then-is_among c = among (is_right (weights c.args.sequent.now c.args.coeffs.now)) (part_behind c.args.part) c.args.window.now.items
    (ap (list_any (λ q. same_part (part_behind q) (part_behind c.args.part))) (sym c.as_slice.ensures.value) ∙ (sym c.is_among.ensures ∙ c.if-is_among.true))
