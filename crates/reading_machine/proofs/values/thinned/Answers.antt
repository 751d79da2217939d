use Rattle.std.proofs.Common.{rules, ◌+◌, min, sym, ◌∙◌, ap}
use Rattle.std.specs.List.{sum_by}
use Rattle.ada_tree.specs.Nodes.{count_of, is_step}
use Rattle.reading_machine.specs.Bare.{is_tree, greatest_count, lost_count, more_counts}
use Rattle.reading_machine.proofs.Counting.{counts_are, none_lost, bare_further, lost_further}
use Rattle.reading_machine.proofs.values.thinned.Goals as goal

pub loop-value-init : goal.loop-value-init
loop-value-init c = record { values = search rules; lost = sym (none_lost c.args.lost (search rules) (search rules)) }

pub loop-value-preserved : goal.loop-value-preserved
loop-value-preserved c =
    let further = bare_further c.loop-value.yielded c.in-Some.value in
    let kids = c.kids_of.ensures in
    let tree = c.add_counts.ensures.tree ∙ ap (λ ns. min (c.loop-value.lost.tree + sum_by (count_of is_tree) ns) greatest_count) kids in
    let proof = c.add_counts.ensures.proof ∙ ap (λ ns. min (c.loop-value.lost.proof + sum_by (count_of is_step) ns) greatest_count) kids in
    record {
      values = search (rules, further);
      lost = counts_are c.loop-value.lost c.add_counts.new.counts (lost_count is_tree c.in-Some.value) (lost_count is_step c.in-Some.value) tree proof
          ∙ ap (λ l. more_counts l (lost_count is_tree c.in-Some.value) (lost_count is_step c.in-Some.value)) c.loop-value.invariant.lost ∙ lost_further c.args.lost c.loop-value.yielded c.in-Some.value;
    }
