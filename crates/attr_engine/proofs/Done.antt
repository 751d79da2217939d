-- Results in the order in which they are done, and in the order of the siblings.
use Rattle.std.proofs.Common.{◌≡◌, List, reverse, sym, ◌∙◌, ap}
use Rattle.std.proofs.lemmas.List.{reverse-reverse}
use Rattle.std.specs.declared.rc.Rc.{Rc}
use Rattle.std.specs.declared.alloc.Global.{Global}
use Rattle.attr_engine.specs.declared.node.Node.{Node}
use Rattle.attr_engine.specs.Nodes.{out_of, outs, done}
use Rattle.attr_engine.specs.Rules.{values}
use Rattle.attr_engine.proofs.Lists.{map-reverse}

pub turned : {Label Need In Out : Type 0} (nodes : List (Node Label Need In Out)) (results after : List (Rc Out Global)) →
    after ≡ reverse results → values results ≡ done nodes → values after ≡ outs nodes
turned {Out = Out} nodes results after e h =
    let value = λ (rc : Rc Out Global). rc.value in
    ap values e ∙ map-reverse value results ∙ ap reverse h ∙ sym (map-reverse out_of (reverse nodes)) ∙ ap outs (reverse-reverse nodes)
