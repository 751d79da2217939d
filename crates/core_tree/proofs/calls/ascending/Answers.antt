use Rattle.std.proofs.Common.{map, ◌∙◌, ap, List, ℕ}
use Rattle.core_tree.proofs.Ascending.{same_once}
use Rattle.core_tree.specs.Once.{once}
use Rattle.std.specs.Prelude.{None}
use Rattle.core_tree.proofs.calls.ascending.Goals as goal

pub returns-clause-same : goal.returns-clause-same
returns-clause-same c =
    same_once c.args.ids.items (map (λ id. id.0) c.in_ok-made.made.items) c.sort_unstable.new.self.items c.sort_unstable.ensures.permutation
    (c.in_ok-made.ensures ∙ ap (λ (ns : List ℕ). once None ns) c.deref.ensures.value)
