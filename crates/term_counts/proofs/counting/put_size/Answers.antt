use Rattle.std.proofs.Common.{min, sym, ◌∙◌, ap}
use Rattle.term_counts.specs.Counts.{counted, size_after, most}
use Rattle.term_core.specs.Terms.{size_of}
use Rattle.term_counts.proofs.CapLaws.{cap_size}
use Rattle.term_counts.proofs.SizeLaws.{size-put}
use Rattle.term_counts.proofs.counting.put_size.Goals as goal

pub returns-clause-size : goal.returns-clause-size
returns-clause-size c t s e h =
    c.size_from.ensures ∙ ((λ i. min (size_after (e i) (λ x. h x i)) most) ∙ (cap_size (counted t) (λ x. size_of (s x)) ∙ ap (λ k. min k most) (sym (size-put t s))))
