-- Documents of empty files fit.
use Rattle.std.proofs.Common.{◌≡◌, List, [], ◌∷◌, ◌++◌, refl, sym, ◌∙◌, ap, subst}
use Rattle.ada_tree.specs.declared.kind.Kind.TheVariants as kind
use Rattle.ada_tree.specs.declared.node.Node.{Node}
use Rattle.ada_tree.specs.Nodes.{node_of}
use Rattle.ada_tree.specs.Tokens.{comments}
use Rattle.ada_tree.specs.Fits.{Fits}
use Rattle.ada_tree.proofs.Trees.{no_trees, ◌&◌, plain}
use Rattle.ada_tree.proofs.evaluator.Tests.{fits_grown}

-- a list with one more empty file
pub one_more : (files more : List Node) (file : Node) (before : List Node) → more ≡ files ++ file ∷ [] → file ≡ node_of kind.File [] [] [] → files ≡ before → more ≡ before ++ node_of kind.File [] [] [] ∷ []
one_more files more file before e f g = e ∙ ap (λ (n : Node). files ++ n ∷ []) f ∙ ap (λ (ns : List Node). ns ++ node_of kind.File [] [] [] ∷ []) g

pub one_fits : (root : Node) (files : List Node) → root ≡ node_of kind.Doc [] [] files → files ≡ node_of kind.File [] [] [] ∷ [] → Fits root
one_fits root files e f = subst Fits (sym (e ∙ ap (node_of kind.Doc [] []) f)) (fits_grown (comments [] ∷ []) (plain kind.Doc (plain kind.File no_trees & no_trees)) refl)

pub two_fit : (root : Node) (files : List Node) → root ≡ node_of kind.Doc [] [] files → files ≡ node_of kind.File [] [] [] ∷ node_of kind.File [] [] [] ∷ [] → Fits root
two_fit root files e f = subst Fits (sym (e ∙ ap (node_of kind.Doc [] []) f)) (fits_grown (comments [] ∷ comments [] ∷ []) (plain kind.Doc (plain kind.File no_trees & plain kind.File no_trees & no_trees)) refl)
