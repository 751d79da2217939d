-- What a token makes of a machine, by what is next on its stack.
use Rattle.std.proofs.Common.{◌≡◌, List, ◌∷◌, ◌++◌, Bool, Some, None, refl, if◌then◌else◌}
use Rattle.std.specs.Borrow.{Bor}
use Rattle.std.proofs.lemmas.Bool.{and_parts}
use Rattle.reading_machine.proofs.Known.{line_entered, silent_entered, refused_entered}
use Rattle.reading_machine.proofs.Steps.{fed_token, fed_done, fed_line, fed_silent, fed_refused}
use Rattle.reading_machine.specs.declared.ways.Way.TheVariants as way
use Rattle.reading_machine.specs.Machines.{fed}
use Rattle.reading_machine.specs.Ways.{IsWay}
use Rattle.reading_table.specs.declared.rule.Rule.{Rule}
use Rattle.reading_table.specs.declared.symbol.Symbol.{Symbol}
use Rattle.reading_table.proofs.Conditions.{table_is_predictive}
use Rattle.reading_table.proofs.WeighedTable.{quiet_same}
use Rattle.reading_table.specs.Machine.{apply, perform}
use Rattle.reading_table.specs.Reading.{reading_table, view_in, deepest}
use Rattle.reading_table.specs.Rows.{Line, Placed, placed, side_in}
use Rattle.reading_table.specs.States.{Token, closes}
use Rattle.reading_table.specs.Tables.{token, done, part}
use Rattle.reading_table.specs.Weighed.{Weighed, weighed_table}

-- ---- one symbol at a time

pub quiet_fed : (t : Token) (note : Bool) (s : Symbol) (ss : List Placed) (state : Weighed) → view_in note s ≡ done → fed t ((note, s) ∷ ss) state ≡ fed t ss (weighed_table.does (note, s) state)
quiet_fed t note s ss state v = fed_done weighed_table deepest t (note, s) ss state v

pub token_fed : (t : Token) (note : Bool) (s : Symbol) (ss : List Placed) (state : Weighed) → view_in note s ≡ token → fed t ((note, s) ∷ ss) state ≡ perform weighed_table ((note, s) ∷ ss) state t
token_fed t note s ss state v = fed_token weighed_table deepest t (note, s) ss state v (λ h. (and_parts (reading_table.may (note, s) t) (closes s state.state t.lexeme) h).0)

pub line_fed : (t : Token) (note : Bool) (s : Symbol) (r : Rule) (ss : List Placed) (state : Weighed) (line : List Placed) → view_in note s ≡ part (side_in note r, r) → IsWay note r t (way.Line line)
    → fed t ((note, s) ∷ ss) state ≡ perform weighed_table (line ++ ss) state t
line_fed t note s r ss state line v h = fed_line weighed_table deepest t (note, s) (side_in note r, r) ss line state v (line_entered note r t line h)

pub silent_fed : (t : Token) (note : Bool) (s : Symbol) (r : Rule) (ss : List Placed) (state : Weighed) (line : Bor Line) → view_in note s ≡ part (side_in note r, r) → IsWay note r t (way.Silent line)
    → fed t ((note, s) ∷ ss) state ≡ fed t ss (apply weighed_table (placed (side_in note r) line.now) state)
silent_fed t note s r ss state line v h =
    let e = silent_entered note r t line h in
    fed_silent weighed_table deepest t (note, s) (side_in note r, r) ss (placed (side_in note r) line.now) state v e.0 e.1
    (quiet_same (placed (side_in note r) line.now) (table_is_predictive.quiet (side_in note r, r) (placed (side_in note r) line.now) e.1))

pub refused_fed : (t : Token) (note : Bool) (s : Symbol) (r : Rule) (ss : List Placed) (state : Weighed) → view_in note s ≡ part (side_in note r, r) → IsWay note r t way.Refused → fed t ((note, s) ∷ ss) state ≡ None
refused_fed t note s r ss state v h = let e = refused_entered note r t h in fed_refused weighed_table deepest t (note, s) (side_in note r, r) ss state v e.0 e.1

-- ---- up to the first token

pub quiet_performed : (t : Token) (note : Bool) (s : Symbol) (ss : List Placed) (state : Weighed) → view_in note s ≡ done
    → perform weighed_table ((note, s) ∷ ss) state t ≡ perform weighed_table ss (weighed_table.does (note, s) state) t
quiet_performed t note s ss state v = rw v refl

pub part_performed : (t : Token) (note : Bool) (s : Symbol) (r : Rule) (ss : List Placed) (state : Weighed) → view_in note s ≡ part (side_in note r, r) → perform weighed_table ((note, s) ∷ ss) state t ≡ None
part_performed t note s r ss state v = rw v refl

pub token_performed : (t : Token) (note : Bool) (s : Symbol) (ss : List Placed) (state : Weighed) → view_in note s ≡ token
    → perform weighed_table ((note, s) ∷ ss) state t ≡ (if weighed_table.fits (note, s) state t then Some (ss, weighed_table.taken (note, s) state t) else None)
token_performed t note s ss state v = rw v refl
