-- Documents of several sources: each is read as a file, in order, and there is one limit for all of them.
use Rattle.std.specs.Prelude.{◌≡◌, ◌↔◌, ℕ, suc, List, [], ◌∷◌, ◌++◌, length, min, Bool, true, false, ◌&&◌, nat_le, if◌then◌else◌, Result, Ok, Err}
use Rattle.std.specs.List.{AllZip}
use Rattle.base_kit.specs.declared.fault.Code.TheVariants.{F27}
use Rattle.base_kit.specs.declared.fault.Fault.{Fault as AFault}
use Rattle.base_kit.specs.declared.fault.Place.TheVariants.{At}
use Rattle.ada_tree.specs.declared.node.Node.{Node}
use Rattle.ada_tree.specs.Nodes.{tree_count, proof_count}
use Rattle.file_laws.specs.Documents.{document}
use Rattle.reading_machine.specs.Bare.{greatest_count}
use Rattle.text_read.specs.declared.limits.TheConstants.{MOST_NODES, MOST_STEPS}
use Rattle.text_read.specs.Files.{IsFile, IsFaultOfFile, file_answer}
use Rattle.penelope_cli.specs.Faults.{in_file}

-- the sources are these files, in order
abbrev pub AreFiles : List (List ℕ) → List Node → Type 0
AreFiles sources files = AllZip IsFile sources files

-- a document has no more nodes and proof steps than this
abbrev pub is_within : Node → Bool
is_within root = nat_le (tree_count root) MOST_NODES && nat_le (proof_count root) MOST_STEPS

-- the fault of one that has: the number of its nodes, or of its proof steps where the nodes are within
abbrev pub too_many : Node → AFault
too_many root = record { code = F27; place = At []; count = min (if nat_le (tree_count root) MOST_NODES then proof_count root else tree_count root) greatest_count }

-- the sources are those of this document
pub record IsDocument (sources : List (List ℕ)) (root : Node) : Type 0 where
  pub files : List Node
  pub are_files : AreFiles sources files
  pub root_is : root ≡ document files
  pub within : is_within root ≡ true

-- The first source that is no file has this fault, which is told of the file of its number; or all are files, and too many nodes are in them.
pub data IsFaultOfDocument (sources : List (List ℕ)) : AFault → Type 0 where
  in_source : (before after : List (List ℕ)) (bytes : List ℕ) (files : List Node) (fault : AFault)
      → sources ≡ before ++ bytes ∷ after → AreFiles before files → IsFaultOfFile bytes fault → IsFaultOfDocument sources (in_file (length before) fault)
  in_all : (files : List Node) → AreFiles sources files → is_within (document files) ≡ false → IsFaultOfDocument sources (too_many (document files))

-- ---- the answer as a function

-- the answer to a file, whose fault is told of the file of this number
abbrev pub numbered : ℕ → Result Node AFault → Result Node AFault
numbered number (Ok file) = Ok file
numbered number (Err fault) = Err (in_file number fault)

-- a file and those behind it, or the first fault
abbrev pub file_before : Result Node AFault → Result (List Node) AFault → Result (List Node) AFault
file_before (Ok file) (Ok files) = Ok (file ∷ files)
file_before (Ok file) (Err fault) = Err fault
file_before (Err fault) others = Err fault

-- the files that the sources are, from the file of this number on
abbrev pub files_from : ℕ → List (List ℕ) → Result (List Node) AFault
files_from number [] = Ok []
files_from number (bytes ∷ sources) = file_before (numbered number (file_answer bytes)) (files_from (suc number) sources)

abbrev pub if_within : Result (List Node) AFault → Result Node AFault
if_within (Ok files) = if is_within (document files) then Ok (document files) else Err (too_many (document files))
if_within (Err fault) = Err fault

abbrev pub document_answer : List (List ℕ) → Result Node AFault
document_answer sources = if_within (files_from 0 sources)

-- the function answers a document exactly where the sources are those of it, and a fault exactly where they have it
pub record IsDocumentAnswer (sources : List (List ℕ)) : Type 0 where
  pub root : (root : Node) → (document_answer sources ≡ Ok root) ↔ IsDocument sources root
  pub fault : (fault : AFault) → (document_answer sources ≡ Err fault) ↔ IsFaultOfDocument sources fault
