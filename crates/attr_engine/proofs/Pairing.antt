-- Old nodes over new children.
use Rattle.std.proofs.Common.{◌≡◌, List, Bool, true, sym, ◌∙◌, ap}
use lib.Pointwise.{pointwise}
use Rattle.attr_engine.specs.declared.node.Node.{Node, Node-F}
use Rattle.attr_engine.specs.Rules.{Rules}
use Rattle.attr_engine.specs.Nodes.{label_of, input_of, out_of, kids_of, outs}
use Rattle.attr_engine.specs.Fresh.{IsFresh}
use Rattle.attr_engine.proofs.Alike.{pointwise_is}
use Rattle.attr_engine.proofs.Growths.{fresh_layer}

module _ {Label Need In Out : Type 0} (rules : Rules Label Need In Out) where
  pub fresh_out : (node : Node Label Need In Out) → IsFresh rules node → out_of node ≡ rules.up (label_of node) (input_of node) (outs (kids_of node))
  fresh_out node h =
      let layer = fresh_layer rules node h in
      ap (λ (l : Node-F Label Need In Out (Node Label Need In Out)). l.out) layer
      ∙ ap (λ kids. rules.up (label_of node) (input_of node) (outs kids)) (sym (ap (λ (l : Node-F Label Need In Out (Node Label Need In Out)). l.kids) layer))

  -- the result stays
  pub out_stays : (same_out : Out → Out → Bool) → ((x y : Out) → same_out x y ≡ true → x ≡ y) →
      (old : Node Label Need In Out) (input : In) (kids : List (Node Label Need In Out)) → IsFresh rules old → input_of old ≡ input →
      pointwise same_out (outs (kids_of old)) (outs kids) ≡ true → out_of old ≡ rules.up (label_of old) input (outs kids)
  out_stays same_out is old input kids h i o =
      fresh_out old h ∙ ap (λ x. rules.up (label_of old) x (outs (kids_of old))) i ∙ ap (rules.up (label_of old) input) (pointwise_is same_out is _ _ o)
