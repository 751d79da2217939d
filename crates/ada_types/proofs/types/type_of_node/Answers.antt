use Rattle.std.proofs.Common.{rules, ◌≡◌, unwrap_or}
use Rattle.ada_tree.specs.Nodes.{node_at}
use Rattle.static_values.specs.Entities.{world}
use Rattle.ada_types.specs.SortLists.{begun}
use Rattle.ada_types.specs.Declarations.{MayStand, node_addition}
use Rattle.ada_types.proofs.Fitting.{given_fits}
use Rattle.ada_types.proofs.Waiting.{added_fits}
use Rattle.ada_types.proofs.types.type_of_node.Goals as goal

pub commit-requires : goal.commit-requires
commit-requires g c =
    let made : c.in_ok-addition.addition ≡ node_addition (world (g.N.Lookup.sight c.args.names.now) c.args.types.now.entities) (begun c.args.types.now.names) c.args.root.now c.args.at.now (node_at c.args.at.now c.args.root.now) = search rules in
    let fits : MayStand (begun c.args.types.now.names) c.in_ok-addition.addition.entry =
    given_fits (world (g.N.Lookup.sight c.args.names.now) c.args.types.now.entities) (begun c.args.types.now.names) c.args.root.now c.args.at.now (node_at c.args.at.now c.args.root.now) c.in_ok-addition.addition made in
    record {
      fits = added_fits c.args.types.now.entities c.in_ok-addition.addition (begun c.args.types.now.names) (unwrap_or c.in_ok-other.other c.args.types.now.names) c.new_alone-addition.result.entry fits c.in_ok-other.ensures c.new_alone-addition.ensures.entry;
    }
