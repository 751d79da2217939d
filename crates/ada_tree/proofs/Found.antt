-- What holds of the row that was found in a table, from a test of all its rows.
use Rattle.std.proofs.Common.{◌≡◌, ℕ, List, [], ◌∷◌, refl, Bool, true, false, not, ◌&&◌, ◌||◌, Option, Some, None}
use Rattle.std.specs.Prelude.{bytes_eq, cond, IfSome}
use Rattle.std.specs.Option.{option_map_or}
use Rattle.std.specs.List.{list_all}
use Rattle.std.proofs.lemmas.Bool.{and_parts}
use Rattle.ada_tree.specs.declared.kind.Kind.{Kind}
use Rattle.ada_tree.specs.declared.grammar.Piece.{Piece}
use Rattle.ada_tree.specs.declared.operator.OperatorEntry.{OperatorEntry}
use Rattle.ada_tree.specs.declared.operator.TheConstants.{OPERATORS}
use Rattle.ada_tree.specs.Kinds.{is_kind}
use Rattle.ada_tree.specs.Tables.{first_value}
use Rattle.ada_tree.specs.Operators.{OperatorRow, operator_line, entry_of}
use Rattle.ada_tree.specs.Choices.{has_side, has_operator}
use Rattle.ada_tree.specs.Lines.{line_by_operator}

-- what follows of each row that passes, and that all rows pass `good`, holds of the one that was found
pub found : {R V : Type 0} (value : R → V) (test good : R → Bool) (P : V → Type 0) → ((row : R) → test row ≡ true → good row ≡ true → P (value row))
    → (rows : List R) → list_all good rows ≡ true → IfSome (first_value value test rows) P
found value test good P h [] all = tt
found {V = V} value test good P h (row ∷ rows) all =
    by (test row) refl (found value test good P h rows (and_parts (good row) (list_all good rows) all).1)
  where
    by : (b : Bool) → test row ≡ b → IfSome (first_value value test rows) P → IfSome (cond b (Some (value row)) (first_value value test rows)) P
    by true e later = h row e (and_parts (good row) (list_all good rows) all).0
    by false e later = later

-- ---- operators

abbrev pub passes : Kind → List ℕ → OperatorRow → Bool
passes k text row = is_kind row.0.kind k && bytes_eq row.1.now text

pub entry_found : (k : Kind) (text : List ℕ) (good : OperatorRow → Bool) (P : OperatorEntry → Type 0)
    → ((row : OperatorRow) → is_kind row.0.kind k ≡ true → bytes_eq row.1.now text ≡ true → good row ≡ true → P row.0) → list_all good OPERATORS ≡ true → IfSome (entry_of k text) P
entry_found k text good P h all =
    found (λ (row : OperatorRow). row.0) (passes k text) good P
    (λ row e g. let parts = and_parts (is_kind row.0.kind k) (bytes_eq row.1.now text) e in h row parts.0 parts.1 g) OPERATORS all

-- a test that holds where another one does
pub if_so : (a b : Bool) → a ≡ true → not a || b ≡ true → b ≡ true
if_so true b e h = h
if_so false b e h = absurd cc

-- what all entries of a kind pass
pub entry_of_kind_passes : (k : Kind) (Q : OperatorEntry → Bool) → list_all (λ (row : OperatorRow). not (is_kind row.0.kind k) || Q row.0) OPERATORS ≡ true → (text : List ℕ) → IfSome (entry_of k text) (λ entry. Q entry ≡ true)
entry_of_kind_passes k Q all text =
    entry_found k text (λ row. not (is_kind row.0.kind k) || Q row.0) (λ entry. Q entry ≡ true) (λ row e t g. if_so (is_kind row.0.kind k) (Q row.0) e g) all

-- what all entries pass
pub entry_passes : (Q : OperatorEntry → Bool) → list_all (λ (row : OperatorRow). Q row.0) OPERATORS ≡ true → (k : Kind) (text : List ℕ) → IfSome (entry_of k text) (λ entry. Q entry ≡ true)
entry_passes Q all k text = entry_found k text (λ row. Q row.0) (λ entry. Q entry ≡ true) (λ row e t g. g) all

-- ---- the lines of nodes with operators

abbrev LineOf : (List Piece → Bool) → OperatorEntry → Bool
LineOf T entry = T (operator_line entry.operator)

line_passes : (T : List Piece → Bool) → T [] ≡ true → (e : Option OperatorEntry) → IfSome e (λ entry. LineOf T entry ≡ true) → T (option_map_or (λ entry. operator_line entry.operator) e []) ≡ true
line_passes T empty None h = empty
line_passes T empty (Some entry) h = h

-- what the lines of all operators pass, and a line without pieces
pub line_holds : (T : List Piece → Bool) → T [] ≡ true → list_all (λ (row : OperatorRow). LineOf T row.0) OPERATORS ≡ true → (k : Kind) (text : List ℕ) → T (line_by_operator k text) ≡ true
line_holds T empty all k text = line_passes T empty (entry_of k text) (entry_passes (LineOf T) all k text)

-- the same of the operators of one kind
pub line_of_kind_holds : (T : List Piece → Bool) → T [] ≡ true → (k : Kind) → list_all (λ (row : OperatorRow). not (is_kind row.0.kind k) || LineOf T row.0) OPERATORS ≡ true → (text : List ℕ) → T (line_by_operator k text) ≡ true
line_of_kind_holds T empty k all text = line_passes T empty (entry_of k text) (entry_of_kind_passes k (LineOf T) all text)

-- the same of a node that has an operator
pub found_line_holds : (T : List Piece → Bool) → list_all (λ (row : OperatorRow). LineOf T row.0) OPERATORS ≡ true → (note : Bool) (k : Kind) (text : List ℕ) → has_operator note k text ≡ true → T (line_by_operator k text) ≡ true
found_line_holds T all note k text = by (entry_of k text) (entry_passes (LineOf T) all k text)
  where
    by : (e : Option OperatorEntry) → IfSome e (λ entry. LineOf T entry ≡ true) → option_map_or (λ entry. has_side note entry.side) e false ≡ true → T (option_map_or (λ entry. operator_line entry.operator) e []) ≡ true
    by None h o = absurd cc
    by (Some entry) h o = h
