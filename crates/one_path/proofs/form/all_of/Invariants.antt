use Rattle.std.proofs.Common.{◌≡◌, ◌++◌, drop}
use Rattle.std.specs.Prelude.{option_map}
use Rattle.one_path.specs.Form.{all_of}
use Rattle.one_path.proofs.form.all_of.Given as goal

-- what is taken so far, with what is left, is what all nodes mean
abbrev pub invariant-loop-node : goal.invariant-loop-node
invariant-loop-node g l = option_map (λ taken. l.all ++ taken) (all_of g.T.FromNode.meaning (drop l.node-index l.nodes)) ≡ all_of g.T.FromNode.meaning l.nodes
