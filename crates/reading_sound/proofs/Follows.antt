-- A derivation, part by part.
use Rattle.std.proofs.Common.{◌≡◌, List, [], ◌∷◌, ◌++◌, subst, true, Option, Some, None}
use Rattle.ada_tree.specs.Tokens.{Event}
use Rattle.reading_table.specs.declared.held.Held.{Held}
use Rattle.reading_table.specs.Events.{event_view, event_fits, event_taken, of_values, Reads}
use Rattle.reading_table.specs.Rows.{Placed, Part, rows, silence}
use Rattle.reading_table.specs.States.{does}
use Rattle.reading_table.specs.Tables.{token, done, part, Has, first, ends, takes, acts, opens, omits}
use Rattle.reading_table.proofs.Predictive.{has_front, has_back}
use Rattle.reading_sound.proofs.Conditions.{lines, quiet_lines}

-- the line leads from the values and the events to those that are left
pub data Follows : List Placed → List Held → List Event → List Held → List Event → Type 0 where
  ended : {v : List Held} {e : List Event} → Follows [] v e v e
  reads : {s : Placed} {line : List Placed} {ev : Event} {v w : List Held} {e f : List Event} → event_view s.0 s.1 ≡ token → event_fits s v ev ≡ true → Follows line (event_taken s v ev) e w f → Follows (s ∷ line) v (ev ∷ e) w f
  changes : {s : Placed} {line : List Placed} {v w : List Held} {e f : List Event} → event_view s.0 s.1 ≡ done → Follows line (does s.1 (of_values v)).values e w f → Follows (s ∷ line) v e w f
  enters : {s : Placed} {p : Part} {own line : List Placed} {v u w : List Held} {e g f : List Event} → event_view s.0 s.1 ≡ part p → Has (lines p) own → Follows own v e u g → Follows line u g w f → Follows (s ∷ line) v e w f

pub record Split (back : List Placed) (front : List Placed) (v : List Held) (e : List Event) (w : List Held) (f : List Event) : Type 0 where
  pub values : List Held
  pub events : List Event
  pub before : Follows front v e values events
  pub behind : Follows back values events w f

pub split : {back : List Placed} {w : List Held} {f : List Event} (front : List Placed) {v : List Held} {e : List Event} → Follows (front ++ back) v e w f → Split back front v e w f
split [] {v = v} {e = e} d = record { values = v; events = e; before = ended; behind = d }
split (s ∷ front) (reads t h d) = let r = split front d in record { values = r.values; events = r.events; before = reads t h r.before; behind = r.behind }
split (s ∷ front) (changes t d) = let r = split front d in record { values = r.values; events = r.events; before = changes t r.before; behind = r.behind }
split (s ∷ front) (enters t m own d) = let r = split front d in record { values = r.values; events = r.events; before = enters t m own r.before; behind = r.behind }

through : {s : Placed} {p : Part} {own line : List Placed} {v w : List Held} {e f : List Event} → event_view s.0 s.1 ≡ part p → Has (lines p) own → Follows (own ++ line) v e w f → Follows (s ∷ line) v e w f
through {own = own} t m d = let r = split own d in enters t m r.before r.behind

silent : (o : Option (List Placed)) (line : List Placed) → o ≡ Some line → Has (quiet_lines o) line
silent (Some other) line q = let same : other ≡ line = cc in subst (Has (other ∷ [])) same first
silent None line q = absurd cc

pub follows : {line : List Placed} {v last : List Held} {e : List Event} → Reads line v e last → Follows line v e last []
follows ends = ended
follows (takes {ts = []} t h d) = reads t h (follows d)
follows (takes {ts = e ∷ es} t h d) = reads t h (follows d)
follows (acts t d) = changes t (follows d)
follows (opens {p = p} t m d) = through t (has_back (quiet_lines (silence p)) (rows p) _ m) (follows d)
follows (omits {p = p} {line = line} t q d) = through t (has_front (quiet_lines (silence p)) (rows p) line (silent (silence p) line q)) (follows d)
