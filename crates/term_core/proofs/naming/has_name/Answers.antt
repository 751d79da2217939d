use Rattle.std.proofs.Common.{sym, ◌∙◌}
use Rattle.term_core.proofs.NameLaws.{has_found, has_passed}
use Rattle.term_core.proofs.naming.has_name.Goals as goal

pub returns-then-same_text : goal.returns-then-same_text
returns-then-same_text c = sym (has_found c.args.names.now c.loop-other.other-index c.other-item.result c.args.name.now c.loop-other-test.true c.other-item.is (sym c.same_text.ensures.test ∙ c.if-same_text.true)) ∙ c.loop-other.invariant

pub loop-other-preserved : goal.loop-other-preserved
loop-other-preserved c = sym (has_passed c.args.names.now c.loop-other.other-index c.other-item.result c.args.name.now c.loop-other-test.true c.other-item.is (sym c.same_text.ensures.test ∙ c.if-same_text.false)) ∙ c.loop-other.invariant
