use Rattle.std.proofs.Common.{◌+◌, subst, sym, drop}
use Rattle.reading_machine.proofs.Bounding.{self_bounds, sum_step}
use Rattle.reading_machine.proofs.Stacks.{from_here}
use Rattle.reading_machine.specs.Loads.{load_of, load_in, together, Bounds}
use Rattle.reading_machine.specs.declared.load.Load.{Load}
use Rattle.reading_machine.proofs.load.load_in.Goals as goal

pub loop-depth-preserved : goal.loop-depth-preserved
loop-depth-preserved c =
    let line = c.args.line.now in
    let sum = c.loop-depth.sum in
    let next = load_of c.at.result.now.1 in
    let cut = from_here line c.loop-depth.depth c.at.result.now c.at.ensures in
    let before = subst (λ ss. Bounds (load_in line) (together sum (load_in ss))) cut c.loop-depth.invariant in
    let bounds = subst (λ (l : Load). Bounds next l) (sym c.load_of.ensures) (self_bounds next) in
    let more = c.with-sum.ensures sum next (self_bounds sum) bounds in
    sum_step (load_in line) sum next c.with-sum.result (load_in (drop (c.loop-depth.depth + 1) line)) more before
