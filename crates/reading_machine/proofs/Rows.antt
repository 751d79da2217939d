-- The rows of an entry of the code.
use Rattle.std.proofs.Common.{arith, ◌≡◌, ℕ, zero, suc, ◌-◌, List, [], ◌∷◌, refl, sym, ◌∙◌, ap, Bool, true, false, Option, Some, None, map, filter, option_map, if◌then◌else◌}
use Rattle.std.specs.Prelude.{cond}
use Rattle.std.specs.Option.{option_copied}
use Rattle.std.specs.Borrow.{Bor}
use Rattle.ada_tree.specs.Choices.{has_side}
use Rattle.ada_tree.specs.declared.operator.Side.{Side}
use Rattle.ada_tree.specs.declared.operator.Side.TheVariants as side
use Rattle.reading_machine.specs.Rows.{first_lead}
use Rattle.reading_table.specs.Machine.{or_else, first_some, lead, enter}
use Rattle.reading_table.specs.Weighed.{weighed_table}
use Rattle.reading_table.specs.States.{Token}
use Rattle.reading_table.specs.declared.need.Sort.{Sort}
use Rattle.reading_table.specs.declared.rule.Rule.{Rule}
use Rattle.reading_table.specs.Rows.{Line, Placed, entry_now, entry_of, placed, turned, side_in, rows_at, rows}

abbrev CodeEntry : Type 0
CodeEntry = Rule × Side × Bor (List (Bor Line)) × Bor (List (Side × Bor Line)) × (Bor (List Sort) × Option Sort × (ℕ × ℕ) × (ℕ × ℕ) × ℕ × ℕ)

module _ (leads : List Placed → Option (List Placed)) where
  row_found : (note : Bool) (rs : List (Side × Bor Line)) → first_some leads (map (λ (row : Side × record { now : Line }). placed note row.1.now)
      (filter (λ (row : Side × record { now : Line }). has_side note row.0) (map (λ (row : Side × Bor Line). (row.0, record { now = row.1.now })) rs))) ≡ first_lead leads note rs
  row_found note [] = refl
  row_found note (row ∷ rs) = by_side (has_side note row.0)
      (filter (λ (row : Side × record { now : Line }). has_side note row.0) (map (λ (row : Side × Bor Line). (row.0, record { now = row.1.now })) rs)) (first_lead leads note rs) (row_found note rs)
    where
      lines : List (Side × record { now : Line }) → List (List Placed)
      lines xs = map (λ (row : Side × record { now : Line }). placed note row.1.now) xs

      by_side : (b : Bool) (xs : List (Side × record { now : Line })) (o : Option (List Placed)) → first_some leads (lines xs) ≡ o
          → first_some leads (lines (cond b ((row.0, record { now = row.1.now }) ∷ xs) xs)) ≡ (if b then or_else (leads (placed note row.1.now)) o else o)
      by_side true xs o h = ap (or_else (leads (placed note row.1.now))) h
      by_side false xs o h = h

turned_twice : (s : Side) (note : Bool) → turned s (turned s note) ≡ turned s note
turned_twice side.Both note = refl
turned_twice side.Ada note = refl
turned_twice side.Note note = refl

side_told : (note : Bool) (r : Rule) (e : CodeEntry) → Some (entry_now e) ≡ entry_of r → side_in note r ≡ turned e.1 note
side_told note r e h = rw (sym h) refl

rows_of_entry : (note : Bool) (r : Rule) (e : CodeEntry) → Some (entry_now e) ≡ entry_of r → rows (side_in note r, r) ≡ rows_at (side_in note r) (entry_now e)
rows_of_entry note r e h = rw (side_told note r e h) (rw (sym h) (ap (λ b. rows_at b (entry_now e)) (turned_twice e.1 note)))

-- what a rule with rows is unfolded to, and one without
pub entered_some : (depth : ℕ) (t : Token) (note : Bool) (r : Rule) (o : Option (Bor CodeEntry)) (e : Bor CodeEntry) → option_map entry_now (option_copied o) ≡ entry_of r → o ≡ Some e → (depth ≡ 0 → ⊥)
    → enter weighed_table depth (side_in note r, r) t ≡ first_lead (lead weighed_table (enter weighed_table (depth - 1)) t) (side_in note r) e.now.3.now
entered_some zero t note r o e h s n = absurd (n refl)
entered_some (suc depth) t note r o e h s n =
    let d : depth ≡ suc depth - 1 = omega arith in
    let leads = lead weighed_table (enter weighed_table depth) t in
    ap (first_some leads) (rows_of_entry note r e.now (ap (λ o. option_map entry_now (option_copied o)) (sym s) ∙ h)) ∙ row_found leads (side_in note r) e.now.3.now
    ∙ ap (λ d. first_lead (lead weighed_table (enter weighed_table d) t) (side_in note r) e.now.3.now) d

pub entered_none : (depth : ℕ) (t : Token) (note : Bool) (r : Rule) (o : Option (Bor CodeEntry)) → option_map entry_now (option_copied o) ≡ entry_of r → o ≡ None
    → enter weighed_table depth (side_in note r, r) t ≡ None
entered_none zero t note r o h s = refl
entered_none (suc depth) t note r o h s = let e : None ≡ entry_of r = ap (λ o. option_map entry_now (option_copied o)) (sym s) ∙ h in rw (sym e) refl
