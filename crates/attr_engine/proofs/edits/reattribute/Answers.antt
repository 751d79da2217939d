use Rattle.std.proofs.Common.{◌+◌, ◌≤◌, ap, ◌∙◌, subst}
use Rattle.attr_engine.specs.Fresh.{Growth}
use Rattle.attr_engine.specs.Moved.{moved}
use Rattle.attr_engine.specs.Fresh.{shape_of}
use Rattle.attr_engine.proofs.Edited.{fresh_is_fresh}
use Rattle.attr_engine.proofs.Planned.{regrown}
use Rattle.attr_engine.proofs.edits.reattribute.Goals as goal

pub returns-in_err-root-clause-at_most : goal.returns-in_err-root-clause-at_most
returns-in_err-root-clause-at_most g c =
    subst (λ (h : Growth _ _ _ _). c.renew.new.steps ≤ c.args.steps.now + moved g.G.In.PartialEq.eq g.G.Out.PartialEq.eq c.args.tree.now.root (h.under c.args.input))
    (regrown g.row.G.Denot g.G.Grammar.rules c.args.tree.now.root) c.renew.ensures.at_most

pub invariant_of-result : goal.invariant_of-result
invariant_of-result g c =
    let tree = ap (λ (h : Growth _ _ _ _). h.under c.args.input) (regrown g.row.G.Denot g.G.Grammar.rules c.args.tree.now.root) in
    record {
      fresh = fresh_is_fresh g.G.Grammar.rules g.G.In.PartialEq.eq g.G.Out.PartialEq.eq (shape_of {G = g.row.G.Denot} c.args.tree.now.root) c.args.input c.in_ok-root.root
          (c.in_ok-root.ensures.fresh ∙ tree);
    }

pub returns-clause-fresh : goal.returns-clause-fresh
returns-clause-fresh g c =
    c.in_ok-root.ensures.fresh ∙ ap (λ (h : Growth _ _ _ _). h.under c.args.input) (regrown g.row.G.Denot g.G.Grammar.rules c.args.tree.now.root)

pub returns-clause-at_most : goal.returns-clause-at_most
returns-clause-at_most g c =
    subst (λ (h : Growth _ _ _ _). c.renew.new.steps ≤ c.args.steps.now + moved g.G.In.PartialEq.eq g.G.Out.PartialEq.eq c.args.tree.now.root (h.under c.args.input))
    (regrown g.row.G.Denot g.G.Grammar.rules c.args.tree.now.root) c.renew.ensures.at_most
