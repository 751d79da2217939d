-- The table with what limits see beside the values reads as the table without it.
use Rattle.std.proofs.Common.{◌≡◌, ℕ, zero, suc, List, [], ◌∷◌, refl, ap, Option, Some, None, option_map, Bool, true, false, if◌then◌else◌}
use Rattle.reading_table.specs.Machine.{first_some, after, hush_at, hush, lead_at, lead, enter, perform_at, perform, apply, performed, feed}
use Rattle.reading_table.specs.Reading.{reading_table}
use Rattle.reading_table.specs.Rows.{Part, Placed}
use Rattle.reading_table.specs.States.{Token, State}
use Rattle.reading_table.specs.Tables.{View, token, done, part}
use Rattle.reading_table.specs.Weighed.{Weighed, weighed_table}
use Rattle.reading_table.proofs.Sound.{IsQuiet}

pub quiet_same : (line : List Placed) → IsQuiet reading_table line → IsQuiet weighed_table line
quiet_same [] h = tt
quiet_same (s ∷ ss) h = (h.0, quiet_same ss h.1)

pub hush_same : (ss : List Placed) → hush weighed_table ss ≡ hush reading_table ss
hush_same [] = refl
hush_same (s ∷ ss) = ap (hush_at reading_table (reading_table.view s) s) (hush_same ss)

pub applied_same : (line : List Placed) (w : Weighed) → (apply weighed_table line w).state ≡ apply reading_table line w.state
applied_same [] w = refl
applied_same (s ∷ line) w = applied_same line (weighed_table.does s w)

first_same : {A B : Type 0} → (f g : A → Option B) → ((x : A) → f x ≡ g x) → (xs : List A) → first_some f xs ≡ first_some g xs
first_same f g h [] = refl
first_same f g h (x ∷ xs) = rw (h x, first_same f g h xs) refl

lead_same : (depth : ℕ) (t : Token) → ((p : Part) → enter weighed_table depth p t ≡ enter reading_table depth p t) → (line : List Placed)
    → lead weighed_table (enter weighed_table depth) t line ≡ lead reading_table (enter reading_table depth) t line
lead_same depth t h [] = refl
lead_same depth t h (s ∷ ss) = by_view (reading_table.view s) (lead_same depth t h ss)
  where
    by_view : (v : View Part) → lead weighed_table (enter weighed_table depth) t ss ≡ lead reading_table (enter reading_table depth) t ss
        → lead_at weighed_table (enter weighed_table depth) t v s ss (lead weighed_table (enter weighed_table depth) t ss)
        ≡ lead_at reading_table (enter reading_table depth) t v s ss (lead reading_table (enter reading_table depth) t ss)
    by_view token e = refl
    by_view done e = ap (after s) e
    by_view (part p) e = rw (h p, e) refl

enter_same : (depth : ℕ) (t : Token) (p : Part) → enter weighed_table depth p t ≡ enter reading_table depth p t
enter_same zero t p = refl
enter_same (suc depth) t p =
    first_same (lead weighed_table (enter weighed_table depth) t) (lead reading_table (enter reading_table depth) t) (lead_same depth t (enter_same depth t)) (reading_table.rows p)

-- without what limits see
abbrev pub bare : Option (List Placed × Weighed) → Option (List Placed × State)
bare o = option_map (λ (next : List Placed × Weighed). (next.0, next.1.state)) o

performed_same : (line : List Placed) (w : Weighed) (t : Token) → bare (perform weighed_table line w t) ≡ perform reading_table line w.state t
performed_same [] w t = refl
performed_same (s ∷ ss) w t = by_view (reading_table.view s) (performed_same ss (weighed_table.does s w) t)
  where
    by_test : (b : Bool) → bare (if b then Some (ss, weighed_table.taken s w t) else None) ≡ (if b then Some (ss, reading_table.taken s w.state t) else None)
    by_test true = refl
    by_test false = refl

    by_view : (v : View Part) → bare (perform weighed_table ss (weighed_table.does s w) t) ≡ perform reading_table ss (reading_table.does s w.state) t
        → bare (perform_at weighed_table v s ss w t (perform weighed_table ss (weighed_table.does s w) t)) ≡ perform_at reading_table v s ss w.state t (perform reading_table ss (reading_table.does s w.state) t)
    by_view token e = by_test (reading_table.fits s w.state t)
    by_view done e = e
    by_view (part p) e = refl

pub fed_same : (depth : ℕ) (ss : List Placed) (w : Weighed) (t : Token) → bare (feed weighed_table depth ss w t) ≡ feed reading_table depth ss w.state t
fed_same depth ss w t = rw (lead_same depth t (enter_same depth t) ss) (by_line (lead reading_table (enter reading_table depth) t ss))
  where
    by_line : (o : Option (List Placed)) → bare (performed weighed_table o w t) ≡ performed reading_table o w.state t
    by_line None = refl
    by_line (Some line) = performed_same line w t
