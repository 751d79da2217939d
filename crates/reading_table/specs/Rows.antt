-- The rules and their rows, by the table.
use Rattle.std.specs.Prelude.{ℕ, List, [], ◌∷◌, map, filter, slice_get, Bool, true, false, Option, None, option_map, option_and_then}
use Rattle.std.specs.Borrow.{Bor}
use Rattle.std.specs.List.{flat_map}
use Rattle.std.specs.Option.{option_map_or}
use denote.Enum.Declared.{tag_of}
use Rattle.ada_tree.specs.declared.operator.Side.{Side}
use Rattle.ada_tree.specs.declared.operator.Side.TheVariants as side
use Rattle.ada_tree.specs.Choices.{has_side}
use Rattle.reading_table.specs.declared.need.Sort.{Sort}
use Rattle.reading_table.specs.declared.rule.Rule.{Rule}
use Rattle.reading_table.specs.contracts.rule.Rule.{the_type}
use Rattle.reading_table.specs.declared.rows.annotations.TheConstants.{ANNOTATIONS}
use Rattle.reading_table.specs.declared.rows.choices.TheConstants.{CHOICES}
use Rattle.reading_table.specs.declared.rows.declarations.TheConstants.{DECLARATIONS}
use Rattle.reading_table.specs.declared.rows.levels.TheConstants.{LEVELS}
use Rattle.reading_table.specs.declared.rows.names.TheConstants.{NAMES}
use Rattle.reading_table.specs.declared.rows.nodes.TheConstants.{NODES}
use Rattle.reading_table.specs.declared.rows.primaries.TheConstants.{PRIMARIES}
use Rattle.reading_table.specs.declared.rows.proofs.TheConstants.{PROOFS}
use Rattle.reading_table.specs.declared.rows.statements.TheConstants.{STATEMENTS}
use Rattle.reading_table.specs.declared.rows.traits.TheConstants.{TRAITS}
use Rattle.reading_table.specs.declared.rows.units.TheConstants.{UNITS}
use Rattle.reading_table.specs.declared.symbol.Symbol.{Symbol}

abbrev pub Line : Type 0
Line = List Symbol

-- Of a rule: the values that it finds, the one that it leaves, how high that is at least, how many nodes it has round those found (both of expressions, terms and statements, and of proof steps), how many parentheses are open in it, and how many it closes.
abbrev pub Need : Type 0
Need = record { now : List Sort } × Option Sort × (ℕ × ℕ) × (ℕ × ℕ) × ℕ × ℕ

-- an entry of the table: a rule, its side, what is done where it is read as nothing, if it may be, its rows, and what it needs
abbrev pub Entry : Type 0
Entry = Rule × Side × record { now : List (record { now : Line }) } × record { now : List (Side × record { now : Line }) } × Need

-- an entry of the code
abbrev pub entry_now : (Rule × Side × Bor (List (Bor Line)) × Bor (List (Side × Bor Line)) × (Bor (List Sort) × Option Sort × (ℕ × ℕ) × (ℕ × ℕ) × ℕ × ℕ)) → Entry
entry_now e = (
  e.0,
  e.1,
  record { now = map (λ (line : Bor Line). record { now = line.now }) e.2.now },
  record { now = map (λ (row : Side × Bor Line). (row.0, record { now = row.1.now })) e.3.now },
  (record { now = e.4.0.now }, e.4.1, e.4.2, e.4.3, e.4.4, e.4.5),
)

-- all entries, in the order of the rules
abbrev pub entries : List Entry
entries = flat_map (λ family. family) (UNITS ∷ NAMES ∷ DECLARATIONS ∷ STATEMENTS ∷ CHOICES ∷ LEVELS ∷ PRIMARIES ∷ NODES ∷ ANNOTATIONS ∷ TRAITS ∷ PROOFS ∷ [])

abbrev pub entry_of : Rule → Option Entry
entry_of r = slice_get entries (tag_of the_type r)

-- on which side what is of this one stands, where it is read on a side
abbrev pub turned : Side → Bool → Bool
turned side.Both note = note
turned side.Ada note = false
turned side.Note note = true

abbrev pub side_in : Bool → Rule → Bool
side_in note r = option_map_or (λ (e : Entry). turned e.1 note) (entry_of r) note

-- the symbols of a line, with the side that they stand on
abbrev pub Placed : Type 0
Placed = Bool × Symbol

abbrev pub placed : Bool → Line → List Placed
placed note line = map (λ s. (note, s)) line

abbrev pub rows_at : Bool → Entry → List (List Placed)
rows_at note e = map (λ (row : Side × record { now : Line }). placed note row.1.now) (filter (λ (row : Side × record { now : Line }). has_side note row.0) e.3.now)

abbrev pub silence_at : Bool → Entry → Option (List Placed)
silence_at note e = option_map (λ (line : record { now : Line }). placed note line.now) (slice_get e.2.now 0)

-- a part: a rule, on a side
abbrev pub Part : Type 0
Part = Bool × Rule

abbrev pub rows : Part → List (List Placed)
rows p = option_map_or (λ (e : Entry). rows_at (turned e.1 p.0) e) (entry_of p.1) []

abbrev pub silence : Part → Option (List Placed)
silence p = option_and_then (λ (e : Entry). silence_at (turned e.1 p.0) e) (entry_of p.1)

abbrev nothing : Need
nothing = (record { now = [] }, None, (0, 0), (0, 0), 0, 0)

-- what a rule needs
abbrev pub need_of : Rule → Need
need_of r = option_map_or (λ (e : Entry). e.4) (entry_of r) nothing
