-- What holds of reading by the table, from a rule on.
use Rattle.std.proofs.Common.{◌≡◌, ℕ, List, [], ◌∷◌, ◌++◌, refl, Bool, Ok, Err, length, take}
use Rattle.reading_table.specs.declared.rule.Rule.{Rule}
use Rattle.reading_table.specs.declared.symbol.Symbol.TheVariants as symbol
use Rattle.reading_table.specs.Faults.{IsRead, reading, GoesOn}
use Rattle.reading_table.specs.Reading.{reading_table, deepest}
use Rattle.reading_table.specs.States.{Token, State}
use Rattle.reading_table.proofs.Complete.{good_alone, run_reads}
use Rattle.reading_table.proofs.Conditions.{table_is_predictive}
use Rattle.reading_table.proofs.Faults.{not_admitted, not_read, admitted_before}
use Rattle.reading_table.proofs.Samples.{example, examples_serve, deepest_sample, each_is_sampled, each_row_can_be}
use Rattle.reading_table.proofs.Sound.{run_derives}

pub is_derived : (end : State → State) (note : Bool) (r : Rule) (state last : State) (tokens : List Token) → reading end note r state tokens ≡ Ok last → IsRead end note r state tokens last
is_derived end note r state last tokens h = run_derives reading_table end table_is_predictive.quiet deepest tokens ((note, symbol.Part r) ∷ []) state last h

pub is_read : (end : State → State) (note : Bool) (r : Rule) (state last : State) (tokens : List Token) → IsRead end note r state tokens last → reading end note r state tokens ≡ Ok last
is_read end note r state last tokens d =
    run_reads reading_table deepest table_is_predictive end tokens ((note, symbol.Part r) ∷ []) state last (good_alone reading_table deepest table_is_predictive (note, symbol.Part r)) d

pub one_reading : (end : State → State) (note : Bool) (r : Rule) (state a b : State) (tokens : List Token) → IsRead end note r state tokens a → IsRead end note r state tokens b → a ≡ b
one_reading end note r state a b tokens d e = let x = is_read end note r state a tokens d in let y = is_read end note r state b tokens e in cc

pub goes_on_before : (end : State → State) (note : Bool) (r : Rule) (state : State) (tokens : List Token) (n : ℕ) → reading end note r state tokens ≡ Err n → GoesOn note r state (take n tokens)
goes_on_before end note r state tokens n h =
    let g = admitted_before reading_table example table_is_predictive.quiet examples_serve deepest_sample each_is_sampled each_row_can_be deepest end tokens ((note, symbol.Part r) ∷ []) state n refl h in
    record { more = g.more; last = g.last; read = g.derives }

pub is_refused : (end other_end : State → State) (note : Bool) (r : Rule) (state last : State) (front rest other : List Token) (t : Token)
    → reading end note r state (front ++ t ∷ rest) ≡ Err (length front) → IsRead other_end note r state (front ++ t ∷ other) last → ⊥
is_refused end other_end note r state last front rest other t h d =
    not_admitted reading_table deepest table_is_predictive end other_end ((note, symbol.Part r) ∷ []) state last front t rest other (good_alone reading_table deepest table_is_predictive (note, symbol.Part r)) h d

pub is_not_read : (end : State → State) (note : Bool) (r : Rule) (state last : State) (tokens : List Token) (n : ℕ) → reading end note r state tokens ≡ Err n → IsRead end note r state tokens last → ⊥
is_not_read end note r state last tokens n h d =
    not_read reading_table deepest table_is_predictive end ((note, symbol.Part r) ∷ []) state last tokens n (good_alone reading_table deepest table_is_predictive (note, symbol.Part r)) h d
