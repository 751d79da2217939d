use Rattle.std.proofs.Common.{vec_len}
use Rattle.reading_tests.proofs.names.take_kids.Given as goal

abbrev pub decreases-loop-deeper : goal.decreases-loop-deeper
decreases-loop-deeper l = vec_len l.built
