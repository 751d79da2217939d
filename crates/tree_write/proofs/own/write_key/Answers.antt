use Rattle.std.proofs.Common.{ap, sym, ◌∙◌}
use Rattle.tree_write.specs.Ink.{ink_of, after}
use Rattle.tree_write.proofs.Cuts.{too_long}
use Rattle.tree_write.proofs.own.write_key.Goals as goal

pub returns-then-is_some : goal.returns-then-is_some
returns-then-is_some c =
    sym
    (ap (λ items. after items (ink_of c.args.page.now))
    (too_long c.args.text.now c.in-Some.first.now c.in-Some.rest.now c.in-Some-cut.second.now c.in-Some-cut.more.now c.in-Some-cut-2.third.now c.in-Some-cut-2.last.now c.cut-4.result
    c.in-Some.ensures.parts c.in-Some-cut.ensures.parts c.in-Some-cut-2.ensures.parts (sym c.is_some.ensures ∙ c.if-is_some.true) c.cut-4.ensures.parts))
