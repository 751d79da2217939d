-- The conditions on the reading table, computed: the next token alone tells which row is read.
use Rattle.std.proofs.Common.{◌≡◌, ℕ, List, [], refl, Option, Bool, true, false, map}
use Rattle.std.specs.Prelude.{slice_get, if◌then◌else◌}
use Rattle.std.specs.Option.{option_map_or}
use Rattle.std.proofs.lemmas.Bool.{and_parts}
use denote.Enum.Declared.{tag_of}
use Rattle.reading_table.specs.contracts.rule.Rule.{the_type}
use Rattle.reading_table.specs.Machine.{hush}
use Rattle.reading_table.specs.Rows.{entries, Entry, Placed, Part, rows, silence}
use Rattle.reading_table.specs.States.{set_of, closes}
use Rattle.reading_table.specs.Reading.{reading_table, may_be, deepest}
use Rattle.reading_table.proofs.Bars.{TokenSet, bars_list}
use Rattle.reading_table.proofs.Complete.{IsPredictive, Good}
use Rattle.reading_table.proofs.Parts.{tests, of_each_part, agree_on_each_part}
use Rattle.reading_table.proofs.Predictive.{kept, clear_line, passes, good_line, is_predictive, its_bars}
use Rattle.reading_table.proofs.TokenSets.{holds, apart, covers, parted, covered}

abbrev set_in : Placed → TokenSet
set_in s = (s.0, set_of s.1)

-- the sets at a place of the list of bars, on a side
abbrev bars_at : Bool → ℕ → List TokenSet
bars_at note i = option_map_or (λ (pair : List TokenSet × List TokenSet). if note then pair.1 else pair.0) (slice_get bars_list i) []

abbrev bars : Part → List TokenSet
bars p = bars_at p.0 (tag_of the_type p.1)

abbrev test : Part → Bool
test p = passes reading_table set_in apart covers deepest bars p

all_pass : tests test ≡ true
all_pass = refl

abbrev stills : Part → List (Option (List Placed))
stills p = map (λ row. kept (silence p) (hush reading_table row)) (rows p)

abbrev hushes : Part → List (Option (List Placed))
hushes p = map (hush reading_table) (rows p)

all_still : (note : Bool) → map (λ (e : Entry). stills (note, e.0)) entries ≡ map (λ (e : Entry). hushes (note, e.0)) entries
all_still false = refl
all_still true = refl

-- The next token alone tells which row of the reading table is read.
pub table_is_predictive : IsPredictive reading_table deepest
table_is_predictive =
    is_predictive reading_table set_in apart covers holds (λ s t h. h) parted covered deepest bars
    (λ s state t h. (and_parts (may_be s t) (closes s.1 state t.lexeme) h).0) (of_each_part test all_pass) (λ p. agree_on_each_part stills hushes all_still p.0 p.1)

-- a stack that passes is one from which what is derived is read
abbrev pub is_clear : List Placed → Bool
is_clear line = clear_line reading_table set_in apart covers deepest bars line

pub clear_is_good : (line : List Placed) → is_clear line ≡ true → Good reading_table deepest table_is_predictive line
unfolding table_is_predictive
clear_is_good line h =
    good_line reading_table set_in apart covers holds (λ s t h. h) parted covered deepest bars table_is_predictive
    (its_bars reading_table set_in apart covers holds (λ s t h. h) parted covered deepest bars
    (λ s state t h. (and_parts (may_be s t) (closes s.1 state t.lexeme) h).0) (of_each_part test all_pass) (λ p. agree_on_each_part stills hushes all_still p.0 p.1)) line h
