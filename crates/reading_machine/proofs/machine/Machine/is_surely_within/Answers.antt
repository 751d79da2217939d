use Rattle.std.proofs.Common.{rules, ◌≡◌, true, sym, subst}
use Rattle.reading_machine.proofs.Bounding.{self_bounds, surely_within}
use Rattle.reading_machine.specs.Loads.{load_in, load_on, is_light, Bounds}
use Rattle.reading_machine.specs.Machines.{with_open}
use Rattle.reading_machine.specs.declared.load.Load.{Load}
use Rattle.reading_machine.proofs.machine.Machine.is_surely_within.Goals as goal

pub returns : goal.returns
returns c h =
    let p = with_open c.args.self.now c.args.parentheses in
    let own = load_on c.height.result c.args.parentheses in
    let bounds = subst (λ (l : Load). Bounds own l) (sym c.load_on-values.ensures) (self_bounds own) in
    let all = c.with.ensures (load_in p.stack) own c.load-symbols.ensures bounds in
    let light : is_light c.args.round c.with.result ≡ true = search rules in
    surely_within c.args.round p c.height.result c.with.result c.height.ensures all light
