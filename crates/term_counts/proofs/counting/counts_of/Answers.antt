use Rattle.std.proofs.Common.{◌≡◌, IfOk, subst}
use Rattle.term_counts.specs.declared.counting.TermCounts.{TermCounts}
use Rattle.term_counts.proofs.CapLaws.{counted_capped}
use Rattle.term_counts.proofs.counting.counts_of.Goals as goal

pub returns : goal.returns
returns c = subst (λ (k : TermCounts). IfOk c.count.result (λ counts. counts ≡ k)) (counted_capped c.args.term.now) c.count.ensures
