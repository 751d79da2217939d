use Rattle.std.proofs.Common.{rules, ◌≡◌, ◌++◌, subst}
use Rattle.reading_machine.proofs.Bounding.{load_before}
use Rattle.reading_machine.specs.Loads.{load_in, Bounds}
use Rattle.reading_machine.specs.declared.load.Load.{Load}
use Rattle.reading_machine.proofs.pending.Pending.push_all.Goals as goal

pub invariant_of-self-2 : goal.invariant_of-self-2
invariant_of-self-2 c =
    let line = c.args.line.now in
    let old = c.self.inside.symbols in
    let kept : c.self.inside.load ≡ c.replace-rest.result = search rules in
    let rest = subst (λ (l : Load). Bounds (load_in old) l) kept c.self.invariant in
    let sum = c.with-self-inside.ensures (load_in line) (load_in old) c.load_in.ensures rest in
    let new : line ++ old ≡ c.push_all.new.self = search rules in
    subst (λ ss. Bounds (load_in ss) c.with-self-inside.result) new (load_before line old c.with-self-inside.result sum)
