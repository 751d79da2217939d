-- Tokens that may stand for the same symbols are read alike.
use Rattle.std.proofs.Common.{◌≡◌, ℕ, zero, suc, List, [], ◌∷◌, refl, ap, Bool, Option, Some, None, if◌then◌else◌}
use Rattle.reading_table.specs.Machine.{first_some, after, lead_at, lead, enter}
use Rattle.reading_table.specs.Reading.{reading_table}
use Rattle.reading_table.specs.Rows.{Part, Placed, rows}
use Rattle.reading_table.specs.States.{Token}
use Rattle.reading_table.specs.Tables.{View, token, done, part}
use Rattle.reading_table.specs.Weighed.{weighed_table}

first_same : {A B : Type 0} → (f g : A → Option B) → ((x : A) → f x ≡ g x) → (xs : List A) → first_some f xs ≡ first_some g xs
first_same f g h [] = refl
first_same f g h (x ∷ xs) = rw (h x, first_same f g h xs) refl

module _ (t u : Token) (same : (s : Placed) → reading_table.may s t ≡ reading_table.may s u) where
  pub lead_same : (depth : ℕ) → ((p : Part) → enter weighed_table depth p t ≡ enter weighed_table depth p u) → (line : List Placed)
      → lead weighed_table (enter weighed_table depth) t line ≡ lead weighed_table (enter weighed_table depth) u line
  lead_same depth h [] = refl
  lead_same depth h (s ∷ ss) = by_view (reading_table.view s) (lead_same depth h ss)
    where
      by_view : (v : View Part) → lead weighed_table (enter weighed_table depth) t ss ≡ lead weighed_table (enter weighed_table depth) u ss
          → lead_at weighed_table (enter weighed_table depth) t v s ss (lead weighed_table (enter weighed_table depth) t ss)
          ≡ lead_at weighed_table (enter weighed_table depth) u v s ss (lead weighed_table (enter weighed_table depth) u ss)
      by_view token e = ap (λ (b : Bool). if b then Some (s ∷ ss) else None) (same s)
      by_view done e = ap (after s) e
      by_view (part p) e = rw (h p, e) refl

  pub enter_same : (depth : ℕ) (p : Part) → enter weighed_table depth p t ≡ enter weighed_table depth p u
  enter_same zero p = refl
  enter_same (suc depth) p =
      first_same (lead weighed_table (enter weighed_table depth) t) (lead weighed_table (enter weighed_table depth) u) (lead_same depth (enter_same depth)) (rows p)
