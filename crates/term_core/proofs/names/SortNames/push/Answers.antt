use Rattle.std.proofs.Common.{◌≡◌, ◌+◌, length, subst, sym, ap, arith}
use Rattle.term_core.specs.Entries.{AllFit}
use Rattle.term_core.proofs.EntryLaws.{all_fit-append}
use Rattle.term_core.proofs.names.SortNames.push.Goals as goal

pub invariant_of-self-2 : goal.invariant_of-self-2
invariant_of-self-2 c =
    let number : length c.args.self.now ≡ 0 + length c.self.inside.entries.items = omega (arith, ap length c.self.view_is) in
    subst AllFit (sym c.in_ok-push.ensures.items) (all_fit-append 0 (length c.args.self.now) c.self.inside.entries.items c.args.entry c.self.invariant number c.requires)
