use Rattle.std.proofs.Common.{◌+◌, ◌≤◌, ◌∙◌, ap, subst, sym, drop}
use Rattle.std.specs.Prelude.{nat_le}
use Rattle.reading_machine.proofs.Wide.{wide_step}
use Rattle.reading_table.specs.Limits.{widest, open_within}
use Rattle.reading_machine.proofs.machine.Machine.may_open_few.Goals as goal

pub loop-depth-preserved : goal.loop-depth-preserved
loop-depth-preserved c =
    let stack = c.args.self.now.stack in
    let few : open_within c.loop-depth.count c.at.result.now.1 ≤ 64 = subst (λ n. n ≤ 64) c.open_within.ensures c.if-open_within-gt-MOST_OPEN.false in
    let step = wide_step c.loop-depth.count c.loop-depth.depth stack c.at.result.now c.at.ensures few in
    record {
      few = subst (λ n. n ≤ 65) (sym c.open_behind-count.ensures) step.0;
      rest = ap (λ n. nat_le (widest n (drop (c.loop-depth.depth + 1) stack)) 64) c.open_behind-count.ensures ∙ step.1 ∙ c.loop-depth.invariant.rest;
    }
