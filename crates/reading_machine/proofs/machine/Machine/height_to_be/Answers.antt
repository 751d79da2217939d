use Rattle.std.proofs.Common.{◌≡◌, ◌+◌, ◌∙◌, sym, ap, drop}
use Rattle.reading_machine.proofs.Stacks.{from_here}
use Rattle.reading_table.specs.Heights.{least, rise}
use Rattle.reading_machine.proofs.machine.Machine.height_to_be.Goals as goal

pub loop-depth-preserved : goal.loop-depth-preserved
loop-depth-preserved c =
    let stack = c.args.self.now.stack in
    let e = from_here stack c.loop-depth.depth c.at.result.now c.at.ensures in
    let risen : c.rise.new.masses ≡ rise c.at.result.now.1 c.loop-depth.masses = c.in_ok-rise.ensures in
    ap (λ ms. least (drop (c.loop-depth.depth + 1) stack) ms) risen ∙ sym (ap (λ ss. least ss c.loop-depth.masses) e) ∙ c.loop-depth.invariant
