-- A document of a file of a comment fits.
use Rattle.std.proofs.Common.{◌≡◌, List, [], ◌∷◌, ◌++◌, refl, sym, ◌∙◌, ap, subst}
use Rattle.std.specs.Prelude.{codes}
use Rattle.ada_tree.specs.declared.kind.Kind.TheVariants as kind
use Rattle.ada_tree.specs.declared.node.Node.{Node}
use Rattle.ada_tree.specs.Nodes.{node_of}
use Rattle.ada_tree.specs.Tokens.{comments}
use Rattle.ada_tree.specs.Fits.{Fits}
use Rattle.ada_tree.proofs.Trees.{tree, no_trees, ◌&◌, plain}
use Rattle.ada_tree.proofs.evaluator.Tests.{fits_grown}

pub commented_fits : (root file : Node) (files before : List Node) → root ≡ node_of kind.Doc [] [] files → files ≡ before ++ file ∷ [] → file ≡ node_of kind.File [] (codes "-- nothing yet" ∷ []) [] → before ≡ [] → Fits root
commented_fits root file files before e f g h =
    subst Fits (sym (e ∙ ap (node_of kind.Doc [] []) (f ∙ ap (λ (ns : List Node). ns ++ file ∷ []) h ∙ ap (λ (n : Node). n ∷ []) g)))
    (fits_grown (comments (codes "-- nothing yet" ∷ []) ∷ []) (plain kind.Doc (tree kind.File [] (codes "-- nothing yet" ∷ []) no_trees & no_trees)) refl)
