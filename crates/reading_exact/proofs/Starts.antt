-- The symbols with which texts are read whole: the next token tells how reading by them goes on, and they leave one node. Computed.
use Rattle.std.proofs.Common.{◌≡◌, refl, Bool, true, false, ◌&&◌}
use Rattle.ada_tree.specs.declared.kind.Kind.TheVariants as kind
use Rattle.ada_tree.specs.declared.part.Part.{Part as GrammarPart}
use Rattle.ada_tree.specs.declared.part.Rule.{Rule as GrammarRule}
use Rattle.ada_tree.specs.declared.part.Rule.TheVariants as rule
use Rattle.ada_tree.specs.Parts.{place_of, is_noted}
use Rattle.ada_tree.specs.Reading.{takes_comments}
use Rattle.reading_table.specs.Spelled.{has_texts}
use Rattle.reading_table.proofs.Conditions.{is_clear}
use Rattle.reading_sound.proofs.Law.{leaves_one}
use Rattle.reading_exact.specs.Whole.{whole_start}

abbrev pub passes : GrammarPart → Bool
passes part = is_clear (whole_start part) && leaves_one (is_noted part) (place_of part.rule) (takes_comments (place_of part.rule)) (whole_start part)

rules_pass : (r : GrammarRule) (note : Bool) → has_texts record { rule = r; note = note } ≡ true → passes record { rule = r; note = note } ≡ true
rules_pass (rule.Of kind.Doc) note h = absurd cc
rules_pass (rule.Of kind.List) note h = absurd cc
rules_pass (rule.Of kind.None) note h = absurd cc
rules_pass (rule.Of _) true h = refl
rules_pass (rule.Of _) false h = refl
rules_pass _ true h = refl
rules_pass _ false h = refl

pub part_passes : (part : GrammarPart) → has_texts part ≡ true → passes part ≡ true
part_passes part h = rules_pass part.rule part.note h
