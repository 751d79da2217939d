-- The stacks with which texts are read whole: each begins a text within the limits, and leaves one node. Computed.
use Rattle.std.proofs.Common.{◌≡◌, List, [], ◌∷◌, refl, sym, ◌∙◌, ap, Option, Some, None, Bool, true, false, ◌&&◌, eqb-true}
use Rattle.std.specs.Prelude.{nat_eq}
use Rattle.std.specs.Option.{option_map_or}
use Rattle.std.proofs.lemmas.Bool.{and_parts}
use Rattle.ada_tree.specs.declared.kind.Kind.TheVariants as kind
use Rattle.ada_tree.specs.declared.part.Part.{Part as GrammarPart}
use Rattle.ada_tree.specs.declared.part.Rule.{Rule as GrammarRule}
use Rattle.ada_tree.specs.declared.part.Rule.TheVariants as rule
use Rattle.reading_table.specs.Limits.{surely, fits}
use Rattle.reading_table.specs.Machine.{hush}
use Rattle.reading_table.specs.Reading.{reading_table, deepest}
use Rattle.reading_table.specs.Rows.{Placed}
use Rattle.reading_table.specs.Spelled.{has_texts}
use Rattle.reading_table.specs.States.{State}
use Rattle.reading_table.proofs.Complete.{Good}
use Rattle.reading_table.proofs.Conditions.{table_is_predictive, is_clear, clear_is_good}
use Rattle.reading_table.proofs.Faults.{can_be}
use Rattle.reading_exact.specs.Whole.{whole_start}
use Rattle.reading_limits.proofs.Finishing.{fitting_example}
use Rattle.reading_limits.proofs.Runs.{standing}
use Rattle.reading_limits.proofs.Standing.{is_calm, Fine}
use Rattle.reading_limits.proofs.Tags.{Tag, a_tree, serve_all, moves}

abbrev pub nothing_read : State
nothing_read = record { values = []; waiting = [] }

-- one tree is left
abbrev leaves_tree : List Placed → Bool
leaves_tree ss = option_map_or (λ out. serve_all out (a_tree ∷ [])) (moves ss []) false

-- where nothing may be read at all, that is no height
abbrev flat_end : List Placed → Bool
flat_end ss = option_map_or (λ line. nat_eq (surely (standing ss nothing_read 0)).nodes 0 && fits 0 (standing ss nothing_read 0)) (hush reading_table ss) true

abbrev begins_well : List Placed → Bool
begins_well ss = ((can_be reading_table fitting_example ss && leaves_tree ss) && is_calm 0 ss) && ((fits 0 (standing ss nothing_read 0) && flat_end ss) && is_clear ss)

rules_begin : (r : GrammarRule) (note : Bool) → has_texts record { rule = r; note = note } ≡ true → begins_well (whole_start record { rule = r; note = note }) ≡ true
rules_begin (rule.Of kind.Doc) note h = absurd cc
rules_begin (rule.Of kind.List) note h = absurd cc
rules_begin (rule.Of kind.None) note h = absurd cc
rules_begin (rule.Of _) true h = refl
rules_begin (rule.Of _) false h = refl
rules_begin _ true h = refl
rules_begin _ false h = refl

pub record Begins (part : GrammarPart) : Type 0 where
  pub good : Good reading_table deepest table_is_predictive (whole_start part)
  pub can : can_be reading_table fitting_example (whole_start part) ≡ true
  pub fine : Fine ([], 0) (whole_start part)
  pub low : fits 0 (standing (whole_start part) nothing_read 0) ≡ true
  pub flat : (line : List Placed) → hush reading_table (whole_start part) ≡ Some line → (surely (standing (whole_start part) nothing_read 0)).nodes ≡ 0

pub begins_part : (part : GrammarPart) → has_texts part ≡ true → Begins part
begins_part part h =
    let ss = whole_start part in
    let t = rules_begin part.rule part.note h in
    let p = and_parts ((can_be reading_table fitting_example ss && leaves_tree ss) && is_calm 0 ss) ((fits 0 (standing ss nothing_read 0) && flat_end ss) && is_clear ss) t in
    let q = and_parts (can_be reading_table fitting_example ss && leaves_tree ss) (is_calm 0 ss) p.0 in
    let r = and_parts (can_be reading_table fitting_example ss) (leaves_tree ss) q.0 in
    let c = and_parts (fits 0 (standing ss nothing_read 0) && flat_end ss) (is_clear ss) p.1 in
    let l = and_parts (fits 0 (standing ss nothing_read 0)) (flat_end ss) c.0 in
    record {
      good = clear_is_good ss c.1;
      can = r.0;
      fine = leaving (moves ss []) refl r.1 q.1;
      low = l.0;
      flat = λ line e.
          eqb-true (surely (standing ss nothing_read 0)).nodes 0
          (and_parts (nat_eq (surely (standing ss nothing_read 0)).nodes 0) (fits 0 (standing ss nothing_read 0))
          (sym (ap (λ o. option_map_or (λ line. nat_eq (surely (standing ss nothing_read 0)).nodes 0 && fits 0 (standing ss nothing_read 0)) o true) e) ∙ l.1)).0;
    }
  where
    leaving : (o : Option (List Tag)) → moves (whole_start part) [] ≡ o → option_map_or (λ out. serve_all out (a_tree ∷ [])) o false ≡ true → is_calm 0 (whole_start part) ≡ true → Fine ([], 0) (whole_start part)
    leaving None e t c = absurd cc
    leaving (Some out) e t c = record { out = out; moves_to = e; one = t; calm = c }
