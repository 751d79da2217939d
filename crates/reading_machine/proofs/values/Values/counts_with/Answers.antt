use Rattle.std.proofs.Common.{arith, rules, ◌≤◌, ◌+◌, [], ◌∷◌, drop, length, min, sym, ◌∙◌, ap}
use Rattle.std.specs.List.{sum_by}
use Rattle.std.proofs.lemmas.List.{drop_all}
use Rattle.ada_tree.specs.Nodes.{count_of, is_step}
use Rattle.reading_machine.specs.Bare.{is_tree, greatest_count, counts_with}
use Rattle.reading_machine.proofs.Counting.{counts_are, one_counted, none_counted}
use Rattle.reading_machine.proofs.Stacks.{from_here}
use Rattle.reading_machine.proofs.values.Values.counts_with.Goals as goal
use Rattle.reading_table.specs.States.{nodes_in}

pub loop-depth-preserved : goal.loop-depth-preserved
loop-depth-preserved c =
    let x = c.at.result.now in
    let rest = drop (c.loop-depth.depth + 1) c.args.self.now.values in
    let tree = c.add_counts.ensures.tree ∙ ap (λ ns. min (c.loop-depth.counts.tree + sum_by (count_of is_tree) ns) greatest_count) c.nodes_of.ensures in
    let proof = c.add_counts.ensures.proof ∙ ap (λ ns. min (c.loop-depth.counts.proof + sum_by (count_of is_step) ns) greatest_count) c.nodes_of.ensures in
    record {
      whole = ap (λ d. counts_with d rest) (counts_are c.loop-depth.counts c.add_counts.new.counts (sum_by (count_of is_tree) (nodes_in (x ∷ []))) (sum_by (count_of is_step) (nodes_in (x ∷ []))) tree proof)
          ∙ one_counted c.loop-depth.counts x rest ∙ ap (counts_with c.loop-depth.counts) (sym (from_here c.args.self.now.values c.loop-depth.depth x c.at.ensures)) ∙ c.loop-depth.invariant.whole;
      tree = omega (arith, c.add_counts.ensures.tree);
      proof = omega (arith, c.add_counts.ensures.proof);
    }

pub returns : goal.returns
returns c =
    let all : length c.args.self.now.values ≤ c.loop-depth.depth = search rules in
    sym (none_counted c.loop-depth.counts c.loop-depth.invariant.tree c.loop-depth.invariant.proof) ∙ ap (counts_with c.loop-depth.counts) (sym (drop_all c.loop-depth.depth c.args.self.now.values all)) ∙ c.loop-depth.invariant.whole
