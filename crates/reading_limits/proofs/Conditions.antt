-- What the numbers of the rules are for each line of the table: computed.
use Rattle.std.proofs.Common.{◌≡◌, ℕ, List, refl, sym, ◌∙◌, ap, Option, Some, Bool, true, false, ◌&&◌}
use Rattle.std.specs.Prelude.{slice_get}
use Rattle.std.specs.List.{list_all}
use Rattle.std.specs.Option.{option_map_or}
use Rattle.std.proofs.lemmas.Bool.{and_parts}
use Rattle.reading_table.specs.declared.rule.Rule.{Rule}
use Rattle.reading_table.specs.declared.rule.Rule.TheVariants as rule
use Rattle.reading_table.specs.Rows.{Placed, Part, rows, silence}
use Rattle.reading_table.specs.Machine.{or_else}
use Rattle.reading_table.specs.Tables.{Has}
use Rattle.reading_table.proofs.Parts.{tests, of_each_part}
use Rattle.reading_table.proofs.Predictive.{all_has}
use Rattle.reading_limits.proofs.Needs.{is_high_enough, is_least}
use Rattle.reading_limits.proofs.Tags.{keeps_tags}

-- the lines of a part: its rows, and what is done where it is read as nothing
abbrev pub each_line : (List Placed → Bool) → Part → Bool
each_line test p = list_all test (rows p) && option_map_or test (silence p) true

pub row_passes : (test : List Placed → Bool) (p : Part) (row : List Placed) → each_line test p ≡ true → Has (rows p) row → test row ≡ true
row_passes test p row h m = all_has test (rows p) row (and_parts (list_all test (rows p)) (option_map_or test (silence p) true) h).0 m

pub silence_passes : (test : List Placed → Bool) (p : Part) (line : List Placed) → each_line test p ≡ true → silence p ≡ Some line → test line ≡ true
silence_passes test p line h e = sym (ap (λ o. option_map_or test o true) e) ∙ (and_parts (list_all test (rows p)) (option_map_or test (silence p) true) h).1

-- ---- no line is lower than the rule is said to be

abbrev pub is_sound : Rule → List Placed → Bool
is_sound r line = keeps_tags r line && is_high_enough r line

abbrev are_sound : Part → Bool
are_sound p = each_line (is_sound p.1) p

all_sound : tests are_sound ≡ true
all_sound = refl

pub each_sound : (p : Part) → each_line (is_sound p.1) p ≡ true
each_sound p = of_each_part are_sound all_sound p

-- ---- one line is as low

-- the number of a least row
abbrev pub least_row : Bool → Rule → ℕ
least_row note rule.IdsRest = 1
least_row note rule.KeyPart = 1
least_row note rule.KeyFirst = 1
least_row note rule.ExprStmt = 1
least_row note rule.InnerSum = 1
least_row note rule.Inner = 1
least_row note rule.AggrRest = 1
least_row note rule.ToAttr = 1
least_row note rule.ToApply = 2
least_row note rule.TraitImplies = 1
least_row note rule.TraitAsserts = 1
least_row note rule.Factor = 1
least_row note rule.Item = 1
least_row note rule.Head = 1
least_row note rule.OfUnary = 1
least_row note rule.OfBinary = 1
least_row note rule.Signed = 1
least_row note rule.EqnStart = 1
least_row note rule.Arg = 1
least_row note rule.LogRow = 2
least_row true rule.Expr = 1
least_row note _ = 0

abbrev pub chosen : Part → Option (List Placed)
chosen p = or_else (silence p) (slice_get (rows p) (least_row p.0 p.1))

abbrev has_least : Part → Bool
has_least p = option_map_or (is_least p.1) (chosen p) false

all_least : tests has_least ≡ true
all_least = refl

pub each_least : (p : Part) → option_map_or (is_least p.1) (chosen p) false ≡ true
each_least p = of_each_part has_least all_least p
