use Rattle.std.proofs.Common.{min, sym, ◌∙◌, ap}
use Rattle.term_counts.specs.Counts.{counted, depth_after, most}
use Rattle.term_core.specs.Terms.{depth_of}
use Rattle.term_counts.proofs.CapLaws.{cap_depth}
use Rattle.term_counts.proofs.DepthLaws.{depth-put}
use Rattle.term_counts.proofs.counting.put_depth.Goals as goal

pub returns-clause-depth : goal.returns-clause-depth
returns-clause-depth c t s e h =
    c.depth_from.ensures ∙ ((λ i. min (depth_after (e i) (λ x. h x i)) most) ∙ (cap_depth (counted t) (λ x. depth_of (s x)) ∙ ap (λ k. min k most) (sym (depth-put t s))))
