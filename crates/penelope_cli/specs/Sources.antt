-- The sources that the files of a shelf are for a command.
use Rattle.std.specs.Prelude.{◌≡◌, ◌⊎◌, ℕ, ◌<◌, ◌≤◌, List, ◌∷◌, ◌++◌, length, Some}
use Rattle.std.specs.List.{AllZip}
use Rattle.outside.specs.Meaning.{Files}
use Rattle.base_kit.specs.declared.fault.Fault.{Fault as AFault}
use Rattle.ada_tree.specs.declared.node.Node.{Node}
use Rattle.penelope_cli.specs.declared.gets.TheConstants.{MOST_BYTES}
use Rattle.penelope_cli.specs.Commands.{Command, names_of}
use Rattle.penelope_cli.specs.Documents.{IsDocument, IsFaultOfDocument}
use Rattle.penelope_cli.specs.Fresh.{Takes, Refuses}

-- the file of this name has these bytes, no more than are read
pub record IsHeld (files : Files) (name bytes : List ℕ) : Type 0 where
  pub found : files name ≡ Some bytes
  pub short : length bytes ≤ MOST_BYTES

-- the files of these names have these bytes
abbrev pub AreHeld : Files → List (List ℕ) → List (List ℕ) → Type 0
AreHeld files names sources = AllZip (IsHeld files) names sources

-- a file has more bytes than are read, and those named before it have no more
pub record IsTooLong (files : Files) (names : List (List ℕ)) : Type 0 where
  pub before : List (List ℕ)
  pub name : List ℕ
  pub after : List (List ℕ)
  pub names_are : names ≡ before ++ name ∷ after
  pub sources : List (List ℕ)
  pub held : AreHeld files before sources
  pub bytes : List ℕ
  pub found : files name ≡ Some bytes
  pub long : MOST_BYTES < length bytes

-- no document, or one that the command doesn't take
abbrev pub AreFaultyBytes : Command → List (List ℕ) → Type 0
AreFaultyBytes command sources = ((fault : AFault) × IsFaultOfDocument sources fault) ⊎ ((root : Node) × (IsDocument sources root × Refuses command root))

-- a document that the command takes
abbrev pub AreSoundBytes : Command → List (List ℕ) → Type 0
AreSoundBytes command sources = (root : Node) × (IsDocument sources root × Takes command root)

-- one of the command's sources is too long, or they are held and have a fault
abbrev pub AreFaulty : Files → Command → Type 0
AreFaulty files command = IsTooLong files (names_of command) ⊎ ((sources : List (List ℕ)) × (AreHeld files (names_of command) sources × AreFaultyBytes command sources))

-- the command's sources are held, and have none
abbrev pub AreSound : Files → Command → Type 0
AreSound files command = (sources : List (List ℕ)) × (AreHeld files (names_of command) sources × AreSoundBytes command sources)
