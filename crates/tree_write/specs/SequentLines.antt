-- The lines of a sequent.
use Rattle.std.specs.Prelude.{ℕ, suc, List, [], ◌∷◌, ◌++◌, replicate, codes}
use Rattle.std.specs.List.{flat_map}
use Rattle.std.specs.Fmt.{decimal}
use Rattle.base_kit.specs.Bytes as byte
use Rattle.ada_tree.specs.declared.grammar.Choice.TheVariants.{Expr}
use Rattle.ada_tree.specs.declared.grammar.Shape.TheVariants.{One}
use Rattle.ada_tree.specs.declared.node.Node.{Node}
use Rattle.ada_tree.specs.Canonical.{items_of}
use Rattle.ada_tree.specs.Rendering.{render}
use Rattle.term_core.specs.declared.names.OpNames.{OpNames}
use Rattle.term_core.specs.declared.term.Term.{Term}
use Rattle.term_core.specs.declared.sequent.Var.{Var}
use Rattle.term_core.specs.declared.sequent.Sequent.{Sequent}
use Rattle.tree_write.specs.Pens.{inside}
use Rattle.tree_write.specs.TermTrees.{tree_of}

-- the text of an expression's or a term's tree, to the end of its line
abbrev pub line_of : Node → List ℕ
line_of node = render inside (items_of (One Expr) node)

abbrev pub term_line : OpNames → Term → List ℕ
term_line names term = line_of (tree_of names term)

abbrev pub indentation : ℕ → List ℕ
indentation columns = replicate columns byte.space

abbrev pub var_line : ℕ → Var → List ℕ
var_line indent var = indentation indent ++ codes "var " ++ var.name ++ codes " : " ++ var.label ++ byte.line_feed ∷ []

abbrev pub hyp_line : ℕ → OpNames → ℕ → Term → List ℕ
hyp_line indent names number term = indentation indent ++ codes "hyp " ++ decimal number ++ codes " : " ++ term_line names term

-- hypotheses are numbered from 1
abbrev pub hyp_lines : ℕ → OpNames → ℕ → List Term → List ℕ
hyp_lines indent names number [] = []
hyp_lines indent names number (term ∷ terms) = hyp_line indent names number term ++ hyp_lines indent names (suc number) terms

abbrev pub goal_line : ℕ → OpNames → Term → List ℕ
goal_line indent names term = indentation indent ++ codes "goal " ++ term_line names term

abbrev pub sequent_lines : ℕ → OpNames → Sequent → List ℕ
sequent_lines indent names sequent = flat_map (var_line indent) sequent.vars ++ hyp_lines indent names 1 sequent.hyps ++ goal_line indent names sequent.goal
