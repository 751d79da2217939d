use Rattle.std.proofs.Common.{◌+◌, drop, sym, ◌∙◌, ap, ◌&&◌}
use Rattle.reading_machine.proofs.Stacks.{from_here}
use Rattle.reading_machine.specs.Machines.{may_end}
use Rattle.reading_machine.proofs.machine.Machine.may_end.Goals as goal

pub returns-then-not-may_be_nothing : goal.returns-then-not-may_be_nothing
returns-then-not-may_be_nothing c =
    let stack = c.args.self.now.stack in
    let rest = drop (c.loop-depth.depth + 1) stack in
    let here = from_here stack c.loop-depth.depth c.at.result.now c.at.ensures in
    sym (sym c.loop-depth.invariant ∙ ap may_end here ∙ c.may_be_nothing.ensures c.at.result.now.0 rest ∙ ap (λ b. b && may_end rest) c.if-not-may_be_nothing.true)

pub loop-depth-preserved : goal.loop-depth-preserved
loop-depth-preserved c =
    let stack = c.args.self.now.stack in
    let rest = drop (c.loop-depth.depth + 1) stack in
    let here = from_here stack c.loop-depth.depth c.at.result.now c.at.ensures in
    sym (ap (λ b. b && may_end rest) c.if-not-may_be_nothing.false) ∙ sym (c.may_be_nothing.ensures c.at.result.now.0 rest) ∙ sym (ap may_end here) ∙ c.loop-depth.invariant
