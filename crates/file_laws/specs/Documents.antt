-- Documents of files that were read, and how the text of a file begins.
use Rattle.std.specs.Prelude.{ℕ, List, [], ◌∷◌, Bool, true, ◌||◌, ◌==◌, nat_eq, codes}
use Rattle.std.specs.List.{list_any, starts_with}
use Rattle.ada_tree.specs.declared.kind.Kind.TheVariants as kind
use Rattle.ada_tree.specs.declared.node.Node.{Node}
use Rattle.ada_tree.specs.Nodes.{is_empty, node_of}
use Rattle.text_read.specs.Files.{file_part}
use Rattle.text_read.specs.Fragments.{IsText}

-- some bytes are read as the file, within the limits of nesting
pub record HasText (file : Node) : Type 0 where
  pub bytes : List ℕ
  pub text : IsText file_part bytes file

-- the document of these files
abbrev pub document : List Node → Node
document files = node_of kind.Doc [] [] files

-- ---- how the text of a file begins

-- with a comment or an annotation, or with one of these words
abbrev pub file_fronts : List (List ℕ)
file_fronts = codes "--" ∷ codes "function" ∷ codes "package" ∷ codes "procedure" ∷ codes "use" ∷ codes "with" ∷ []

abbrev pub is_opened : List ℕ → Bool
is_opened bytes = list_any (starts_with nat_eq bytes) file_fronts

-- there are no bytes, or they begin with one of these
abbrev pub has_file_front : List ℕ → Bool
has_file_front bytes = is_empty bytes || is_opened bytes

-- their first bytes
abbrev pub first_bytes : List ℕ
first_bytes = codes "-fpuw"

abbrev pub is_first_byte : ℕ → Bool
is_first_byte b = list_any (λ first. first == b) first_bytes

-- there are no bytes, or the first is one of these
abbrev pub begins_a_file : List ℕ → Bool
begins_a_file [] = true
begins_a_file (b ∷ bytes) = is_first_byte b
