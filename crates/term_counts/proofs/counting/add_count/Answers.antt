use Rattle.std.proofs.Common.{List, set, sym, ◌∙◌, ap}
use Rattle.std.specs.Prelude.{bytes_eq, position}
use Rattle.term_counts.specs.declared.counting.NameCount.{NameCount}
use Rattle.term_counts.specs.Counts.{capped_sum}
use Rattle.term_counts.proofs.CountSteps.{no_place, at_place}
use Rattle.term_counts.proofs.counting.add_count.Goals as goal

pub returns-in-Some : goal.returns-in-Some
returns-in-Some c =
    let found = ap (λ (ds : List NameCount). position (λ d. bytes_eq d.name c.args.count.name) ds) (sym c.as_slice.ensures.value) ∙ (sym c.place_of.ensures ∙ c.in-Some.is) in
    ap (set c.args.counts.now.items c.in-Some.i) c.sum_of-sum.ensures ∙ at_place capped_sum c.args.counts.now.items c.args.count c.index.result.now c.in-Some.i found c.index.ensures

pub returns-in_ok-push-in-None : goal.returns-in_ok-push-in-None
returns-in_ok-push-in-None c =
    let found = ap (λ (ds : List NameCount). position (λ d. bytes_eq d.name c.args.count.name) ds) (sym c.as_slice.ensures.value) ∙ (sym c.place_of.ensures ∙ c.in-None.is) in
    c.in_ok-push-in-None.ensures.items ∙ sym (no_place capped_sum c.args.counts.now.items c.args.count found)
