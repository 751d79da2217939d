-- The lines of a script as a table: by cases, which value is which command.
use Rattle.std.specs.Prelude.{◌≡◌, ℕ, ◌^◌, ◌<◌, ◌≤◌, List, [], ◌∷◌, length, map, codes}
use Prim.Native.String.{String}
use Rattle.std.specs.List.{AllByRecursion}
use Rattle.serde_json.specs.Data.{Data, number, unsigned, string, array, object, Members, no_members, put}
use Rattle.serde_json.specs.View.{items_of}
use Rattle.edit_script.specs.declared.command.Edit.{Edit}
use Rattle.edit_script.specs.declared.command.Query.TheVariants as query
use Rattle.edit_script.specs.declared.command.Command.{Command}
use Rattle.edit_script.specs.declared.command.Command.TheVariants as command
use Rattle.edit_script.specs.Commands.{replace, insert, delete, batch}

-- a member of an object
abbrev pub named : String → Data → List ℕ × Data
named name d = (codes name, d)

-- members in any order, as `serde_json` keeps them
abbrev pub kept : List (List ℕ × Data) → Members
kept [] = no_members
kept (m ∷ ms) = put m.0 m.1 (kept ms)

-- {"op":WORD, ..}
abbrev pub line : String → List (List ℕ × Data) → Data
line word members = object (kept (named "op" (string (codes word)) ∷ members))

-- N, where it is below 4294967296
abbrev pub whole : ℕ → Data
whole n = number (unsigned n)

-- P, where IsPath holds
abbrev pub steps : List ℕ → Data
steps path = array (items_of (map whole path))

pub record IsPath (path : List ℕ) : Type 0 where
  pub short : length path ≤ 256
  pub fits : AllByRecursion (λ n. n < 2 ^ 32) path

-- the three forms that may stand in a batch
pub data IsSimple (d : Data) (edit : Edit) : Type 0 where
  replaces : (path text : List ℕ) → IsPath path → d ≡ line "replace" (named "at" (steps path) ∷ named "text" (string text) ∷ []) → edit ≡ replace path text → IsSimple d edit
  inserts : (path text : List ℕ) → IsPath path → d ≡ line "insert" (named "at" (steps path) ∷ named "text" (string text) ∷ []) → edit ≡ insert path text → IsSimple d edit
  deletes : (path : List ℕ) → IsPath path → d ≡ line "delete" (named "at" (steps path) ∷ []) → edit ≡ delete path → IsSimple d edit

-- each value is the edit at its place
abbrev pub AreSimple : List Data → List Edit → Type 0
AreSimple [] [] = Unit {0}
AreSimple [] (edit ∷ edits) = ⊥
AreSimple (d ∷ ds) [] = ⊥
AreSimple (d ∷ ds) (edit ∷ edits) = IsSimple d edit × AreSimple ds edits

pub data IsCommand (d : Data) (c : Command) : Type 0 where
  simple : (edit : Edit) → IsSimple d edit → c ≡ command.Edit edit → IsCommand d c
  batches : (ds : List Data) (edits : List Edit) → AreSimple ds edits → 1 ≤ length edits → length edits ≤ 1000 → d ≡ line "batch" (named "edits" (array (items_of ds)) ∷ []) → c ≡ command.Edit (batch edits) → IsCommand d c
  reports : d ≡ line "report" [] → c ≡ command.Query query.Report → IsCommand d c
  statuses : d ≡ line "status" [] → c ≡ command.Query query.Status → IsCommand d c
  shows : (key : List ℕ) (node : ℕ) → node < 2 ^ 32 → d ≡ line "show" (named "key" (string key) ∷ named "node" (whole node) ∷ []) → c ≡ command.Query (query.Show key node) → IsCommand d c
  prints : (file : ℕ) → file < 2 ^ 32 → d ≡ line "print" (named "file" (whole file) ∷ []) → c ≡ command.Query (query.Print file) → IsCommand d c
  saves : d ≡ line "save" [] → c ≡ command.Query query.Save → IsCommand d c
