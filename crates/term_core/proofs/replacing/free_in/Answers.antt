use Rattle.term_core.specs.Substitution.{sub_of}
use Rattle.term_core.proofs.SubLaws.{frees_step}
use Rattle.term_core.proofs.replacing.free_in.Goals as goal

pub loop-i-preserved : goal.loop-i-preserved
loop-i-preserved c = let e = frees_step (sub_of c.args.entries.now) c.args.names.now c.loop-i.i c.index-names-i.result c.loop-i-test.true c.loop-i.auto.i c.index-names-i.is in let a = c.in_ok-add_names.ensures in let b = c.in_ok-found.ensures in let f = c.as_slice.ensures in let g = c.loop-i.invariant in cc
