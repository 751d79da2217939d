use Rattle.std.proofs.Common.{ap, sym, ◌∙◌}
use Rattle.ada_tree.specs.Texts.{symbol_items}
use Rattle.tree_write.specs.Ink.{ink_of, after}
use Rattle.tree_write.proofs.Cuts.{symbols_go_on}
use Rattle.tree_write.proofs.own.write_symbols.Goals as goal

pub loop-part-preserved : goal.loop-part-preserved
loop-part-preserved c =
    ap (after (symbol_items c.in-Some.more.now)) c.in_ok-write_symbol.ensures
    ∙ sym (symbols_go_on c.loop-part.rest.now c.in-Some.part.now c.in-Some.more.now (ink_of c.loop-part.page) c.in-Some.ensures.parts) ∙ c.loop-part.invariant
