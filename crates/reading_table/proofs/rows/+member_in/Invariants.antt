use Rattle.std.proofs.Common.{length}
use Rattle.reading_table.proofs.rows.+member_in.Given as goal

abbrev pub decreases-member_in : goal.decreases-member_in
decreases-member_in g l = length l.families.now
