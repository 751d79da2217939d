-- A document of one file that is read fits.
use Rattle.std.proofs.Common.{◌≡◌, ℕ, List, [], ◌∷◌, ◌++◌, sym, ◌∙◌, ap, subst}
use Rattle.ada_tree.specs.declared.kind.Kind.TheVariants as kind
use Rattle.ada_tree.specs.declared.node.Node.{Node}
use Rattle.ada_tree.specs.Fits.{Fits}
use Rattle.ada_tree.specs.Nodes.{node_of}
use Rattle.file_laws.proofs.Documents.{files_fit, one_file}
use Rattle.text_read.specs.Files.{IsFile}

pub read_fits : (bytes : List ℕ) (root file : Node) (files before : List Node) → IsFile bytes file → root ≡ node_of kind.Doc [] [] files → files ≡ before ++ file ∷ [] → before ≡ [] → Fits root
read_fits bytes root file files before is_file e f g =
    subst Fits (sym (e ∙ ap (node_of kind.Doc [] []) (f ∙ ap (λ (nodes : List Node). nodes ++ file ∷ []) g))) (files_fit (file ∷ []) (one_file bytes file is_file.text))
