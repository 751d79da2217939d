use Rattle.std.proofs.Common.{sym, ◌∙◌}
use Rattle.term_core.proofs.SubLaws.{found_at, passed_at}
use Rattle.term_core.proofs.replacing.entry_of.Goals as goal

pub returns-then-same_text : goal.returns-then-same_text
returns-then-same_text c = sym c.loop-i.invariant ∙ found_at c.args.entries.now c.loop-i.i c.index-entries-i.result c.args.name.now c.loop-i-test.true c.loop-i.auto.i c.index-entries-i.is (sym c.same_text.ensures.test ∙ c.if-same_text.true)

pub loop-i-preserved : goal.loop-i-preserved
loop-i-preserved c = passed_at c.args.entries.now c.loop-i.i c.index-entries-i.result c.args.name.now c.loop-i-test.true c.loop-i.auto.i c.index-entries-i.is (sym c.same_text.ensures.test ∙ c.if-same_text.false) ∙ c.loop-i.invariant
