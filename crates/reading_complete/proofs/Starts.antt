-- The walks from the lines with which parts of the grammar are read, computed.
use Rattle.std.proofs.Common.{◌≡◌, [], refl, Bool, true, false}
use Rattle.ada_tree.specs.declared.kind.Kind.{Kind}
use Rattle.ada_tree.specs.declared.kind.Kind.TheVariants as kind
use Rattle.ada_tree.specs.declared.grammar.Choice.{Choice}
use Rattle.ada_tree.specs.declared.part.Part.{Part}
use Rattle.ada_tree.specs.declared.part.Rule.{Rule}
use Rattle.ada_tree.specs.declared.part.Rule.TheVariants as rule
use Rattle.ada_tree.specs.Parts.{place_of, is_noted}
use Rattle.reading_table.specs.Spelled.{has_texts}
use Rattle.reading_table.specs.Starts.{start}
use Rattle.reading_table.specs.Tables.{Has}
use Rattle.reading_complete.proofs.Classes.{Class, classes, admits}
use Rattle.reading_complete.proofs.Lazy.{all_of, all_of_has}
use Rattle.reading_complete.proofs.Routes.{routes}
use Rattle.reading_complete.proofs.Tests.{if_true}
use Rattle.reading_complete.proofs.Walks.{passes}

abbrev start_passes : Bool → Choice → Bool
start_passes note place = all_of classes (λ c. elim (admits note place c) [ true ↦ passes routes note c (start note place) [] | false ↦ true ])

abbrev part_passes : Part → Bool
part_passes part = start_passes (is_noted part) (place_of part.rule)

kinds_pass : (note : Bool) (k : Kind) → has_texts record { rule = rule.Of k; note = note } ≡ true → part_passes record { rule = rule.Of k; note = note } ≡ true
kinds_pass note kind.Doc h = absurd cc
kinds_pass note kind.List h = absurd cc
kinds_pass note kind.None h = absurd cc
kinds_pass false kind.File h = refl
kinds_pass true kind.File h = refl
kinds_pass false _ h = refl
kinds_pass true _ h = refl

parts_pass : (note : Bool) (r : Rule) → has_texts record { rule = r; note = note } ≡ true → part_passes record { rule = r; note = note } ≡ true
parts_pass false (rule.Of k) h = kinds_pass false k h
parts_pass true (rule.Of k) h = kinds_pass true k h
parts_pass false rule.AnyItem h = refl
parts_pass true rule.AnyItem h = refl
parts_pass false _ h = refl
parts_pass true _ h = refl

pub start_leads : (part : Part) (c : Class) → has_texts part ≡ true → Has classes c → admits (is_noted part) (place_of part.rule) c ≡ true → passes routes (is_noted part) c (start (is_noted part) (place_of part.rule)) [] ≡ true
start_leads part c h n a =
    if_true (admits (is_noted part) (place_of part.rule) c) _
    (all_of_has classes (λ c. elim (admits (is_noted part) (place_of part.rule) c) as (λ b. Bool) [ true ↦ passes routes (is_noted part) c (start (is_noted part) (place_of part.rule)) [] | false ↦ true ]) c (parts_pass part.note part.rule h) n) a
