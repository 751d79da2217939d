use Rattle.std.proofs.Common.{rules, ◌≡◌, ◌+◌, ◌-◌, take, sym, ◌∙◌, Some}
use Rattle.ada_names.specs.Sees.{in_region, region_of}
use Rattle.scope_rules.proofs.Steps.{seen_here}
use Rattle.scope_rules.proofs.scope.Scope.directly.Goals as goal

pub returns-in-Some : goal.returns-in-Some
returns-in-Some c =
    let found : in_region c.args.self.now c.args.place.now c.args.name.now (region_of c.args.self.now (take (c.loop-depth.depth - 1 + 1) c.args.place.now)) ≡ Some c.in-Some.entry.now = search rules in
    sym (seen_here c.args.self.now c.args.place.now c.args.name.now c.loop-depth.depth c.in-Some.entry.now c.loop-depth-test.true found) ∙ c.loop-depth.invariant
