-- What the table does of itself, before the next token: a test whether lines, with values of a node that is read, lead to others that pass.
use Rattle.std.proofs.Common.{ℕ, zero, suc, List, [], ◌∷◌, ◌++◌, Bool, true, false, not, ◌&&◌, ◌||◌, Option, Some, None, map, length}
use Rattle.std.specs.Prelude.{nat_eq, slice_get}
use Rattle.std.specs.List.{list_any}
use Rattle.ada_tree.specs.declared.kind.Kind.{Kind}
use Rattle.ada_tree.specs.declared.kind.Kind.TheVariants as kind
use Rattle.ada_tree.specs.Kinds.{is_kind}
use Rattle.ada_tree.specs.Rendering.{lexeme_text}
use Rattle.ada_tree.specs.Spelling.{is_own}
use Rattle.ada_tree.specs.Tokens.{Lexeme}
use Rattle.ada_tree.specs.Words.{word_text}
use Rattle.reading_table.specs.declared.symbol.Symbol.{Symbol}
use Rattle.reading_table.specs.declared.symbol.Symbol.TheVariants as symbol
use Rattle.reading_table.specs.Reading.{is_side}
use Rattle.reading_table.specs.Rows.{Placed, side_in, rows, silence}
use Rattle.reading_table.specs.States.{is_of}
use Rattle.reading_complete.proofs.Classes.{Class}
use Rattle.reading_complete.proofs.Lazy.{any_of, all_of}
use Rattle.reading_complete.proofs.Symbols.{same_symbol}

-- parts that begin a row, and those that begin their rows, and what may be nothing before a token, are fewer
abbrev pub depth : ℕ
depth = 20

-- ---- stages: a line that is still to be read, and values of the node that is read, the last one first

pub data Value : Type 0 where
  -- its text, and a text that is told
  own : Value
  known : List ℕ → Value
  -- its next kid; a kid that has its text
  kid namesake : Value
  -- what stands for a part that is left out, and a list without members, which will be its kids
  nothing empty : Value
  -- a file without items, and the node itself
  begun whole : Value

abbrev pub Stage : Type 0
Stage = List Placed × List Value

-- ---- what is done quietly

abbrev pub unfoldings : List Placed → List (List Placed)
unfoldings [] = []
unfoldings ((note, symbol.Part r) ∷ line) =
    map (λ row. row ++ line) (rows (side_in note r, r)) ++ elim (silence (side_in note r, r)) [ Some quiet ↦ (quiet ++ line) ∷ [] | None ↦ [] ]
unfoldings (s ∷ line) = []

abbrev pub is_part_of_node : Value → Bool
is_part_of_node own = true
is_part_of_node kid = true
is_part_of_node namesake = true
is_part_of_node _ = false

abbrev pub is_own_value : Value → Bool
is_own_value own = true
is_own_value _ = false

abbrev pub completes : Class → Kind → ℕ → List Value → Bool
completes c k n values = not (is_kind k kind.File) && is_kind k c.kind && nat_eq n (length values) && all_of values is_part_of_node && (any_of values is_own_value || not (list_any is_own c.line))

abbrev pub begun_node : Bool → Bool → Bool → Bool → List Value → Option (List Value)
begun_node true is_list is_file ends values = Some (nothing ∷ values)
begun_node false true is_file ends values = Some (empty ∷ values)
begun_node false false true ends values = Some (begun ∷ values)
begun_node false false false true values = Some (whole ∷ [])
begun_node false false false false values = None

-- the value has the text of the node
abbrev pub names_at : Option Value → Bool
names_at None = false
names_at (Some own) = true
names_at (Some namesake) = true
names_at (Some _) = false

abbrev pub names_own : ℕ → List Value → Bool
names_own deep values = names_at (slice_get values deep)

abbrev pub recalled : Bool → List Value → Option (List Value)
recalled true values = Some (own ∷ values)
recalled false values = None

-- `last` tells that all of the line has been spelled
abbrev pub act : Class → Bool → Symbol → List Value → Option (List Value)
act c last (symbol.Build k n) values =
    begun_node (is_kind k kind.None && nat_eq n 0) (is_kind k kind.List && nat_eq n 0) (is_kind k kind.File && nat_eq n 0) (last && completes c k n values) values
act c last (symbol.Say w) values = Some (known (word_text w) ∷ values)
act c last (symbol.Paste between) (known back ∷ known front ∷ values) = Some (known (front ++ between ∷ back) ∷ values)
act c last (symbol.Recall deep) values = recalled (names_own deep values) values
act c last _ values = None

abbrev pub acted : Class → Bool → List Placed → List Value → List Stage
acted c last [] values = []
acted c last ((note, s) ∷ line) values = elim (act c last s values) [ Some new ↦ (line, new) ∷ [] | None ↦ [] ]

abbrev pub moves : Class → Bool → List Placed → List Value → List Stage
moves c last line values = map (λ unfolded. (unfolded, values)) (unfoldings line) ++ acted c last line values

-- ---- what is reached quietly

abbrev pub seek_by : ℕ → Class → Bool → (Stage → Bool) → List Placed → List Value → Bool
seek_by zero c last test line values = test (line, values)
seek_by (suc fuel) c last test line values =
    elim (test (line, values)) [ true ↦ true | false ↦ any_of (moves c last line values) (λ stage. seek_by fuel c last test stage.0 stage.1) ]

abbrev pub seek : Class → Bool → (Stage → Bool) → Stage → Bool
seek c last test stage = seek_by depth c last test stage.0 stage.1

abbrev pub seek_line_by : ℕ → (List Placed → Bool) → List Placed → Bool
seek_line_by zero test line = test line
seek_line_by (suc fuel) test line = elim (test line) [ true ↦ true | false ↦ any_of (unfoldings line) (λ unfolded. seek_line_by fuel test unfolded) ]

abbrev pub seek_line : (List Placed → Bool) → List Placed → Bool
seek_line test line = seek_line_by depth test line

-- ---- tokens

abbrev pub takes_lexeme : Bool → Lexeme → (Stage → Bool) → List Placed → List Value → Bool
takes_lexeme note lexeme next ((side, symbol.Take set) ∷ line) values = elim (is_side side note && is_of set lexeme) [ true ↦ next (line, values) | false ↦ false ]
takes_lexeme note lexeme next ((side, symbol.Keep set) ∷ line) values =
    elim (is_side side note && is_of set lexeme) [ true ↦ next (line, known (lexeme_text lexeme) ∷ values) | false ↦ false ]
takes_lexeme note lexeme next _ values = false

abbrev pub feeds : Class → Bool → Lexeme → (Stage → Bool) → Stage → Bool
feeds c note lexeme next stage = seek c false (λ s. takes_lexeme note lexeme next s.0 s.1) stage

abbrev pub feeds_all : List Lexeme → Class → Bool → (Stage → Bool) → Stage → Bool
feeds_all [] c note next stage = next stage
feeds_all (lexeme ∷ others) c note next stage = feeds c note lexeme (λ s. feeds_all others c note next s) stage

-- a token that isn't kept, from lines alone
abbrev pub drops_lexeme : Bool → Lexeme → (List Placed → Bool) → List Placed → Bool
drops_lexeme note lexeme next ((side, symbol.Take set) ∷ line) = elim (is_side side note && is_of set lexeme) [ true ↦ next line | false ↦ false ]
drops_lexeme note lexeme next _ = false

abbrev pub drops : Bool → Lexeme → (List Placed → Bool) → List Placed → Bool
drops note lexeme next line = seek_line (drops_lexeme note lexeme next) line

-- this symbol
abbrev pub does_symbol : Symbol → (List Placed → Bool) → List Placed → Bool
does_symbol s next [] = false
does_symbol s next ((side, other) ∷ line) = elim (same_symbol s other) [ true ↦ next line | false ↦ false ]
