use Rattle.std.proofs.Common.{rules, ◌≡◌, true, ap, sym, ◌∙◌}
use lib.Pointwise.{pointwise}
use Rattle.attr_engine.specs.Nodes.{label_of, input_of, out_of, kids_of, outs}
use Rattle.attr_engine.proofs.Pairing.{out_stays}
use Rattle.attr_engine.proofs.engine.finish_paired.Goals as goal

pub returns-then-are_alike-clause-node : goal.returns-then-are_alike-clause-node
returns-then-are_alike-clause-node g c =
    let old = c.args.old.now in
    let same_in = g.G.In.PartialEq.eq in
    let same_out = g.G.Out.PartialEq.eq in
    let equal : same_in (input_of old) c.args.input ≡ true = ap (λ x. same_in x c.args.input) (sym c.get.ensures) ∙ sym c.eq.ensures ∙ c.if-eq.true in
    let stays : input_of old ≡ c.args.input = (g.met.G.Grammar.same_in (input_of old) c.args.input).0 equal in
    let alike : pointwise same_out (outs (kids_of old)) (outs c.args.later.nodes) ≡ true =
    ap (λ ks. pointwise same_out (outs (kids_of old)) (outs ks)) (sym c.in_order-kids.ensures.kids)
    ∙ ap (λ ks. pointwise same_out (outs ks) (outs c.in_order-kids.result.0)) (sym c.as_slice.ensures)
    ∙ ap (λ ks. pointwise same_out (outs c.as_slice.result.now) (outs ks)) (sym c.as_slice-then-eq.ensures)
    ∙ sym c.are_alike.ensures ∙ c.if-are_alike.true in
    let out : out_of old ≡ g.G.Grammar.rules.up (label_of old) c.args.input (outs c.args.later.nodes) =
    out_stays g.G.Grammar.rules same_out (λ x y. (g.met.G.Grammar.same_out x y).0) old c.args.input c.args.later.nodes c.requires.old_is_fresh stays alike in
    search rules
