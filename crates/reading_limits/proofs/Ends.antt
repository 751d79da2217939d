-- What is read to the end is as high as the stack says; and what is read, and is within the limits, is read within the limits.
use Rattle.std.proofs.Common.{◌≡◌, ℕ, ◌≤◌, List, [], ◌∷◌, refl, sym, ◌∙◌, ap, subst, Option, Some, None, Bool, true, false, append-nil, arith, Ok}
use Rattle.std.specs.Prelude.{slice_get, if◌then◌else◌}
use Rattle.std.specs.Option.{option_map_or}
use Rattle.std.proofs.lemmas.Bool.{and_parts}
use Rattle.ada_tree.specs.declared.limits.TheConstants.{MOST_OPEN}
use Rattle.ada_tree.specs.Reading.{open_after}
use Rattle.reading_table.specs.declared.symbol.Symbol.TheVariants as symbol
use Rattle.reading_table.specs.Heights.{masses, rise, least}
use Rattle.reading_table.specs.Limits.{read, later, ended, going_on, fed_to, admitted, deep, run_within}
use Rattle.reading_table.specs.Machine.{or_else, hush_at, hush, apply, feed, finished, run}
use Rattle.reading_table.specs.Machine.{going_on as run_on}
use Rattle.reading_table.specs.Reading.{reading_table, deepest, view_in}
use Rattle.reading_table.specs.Rows.{Placed, Part, rows, silence}
use Rattle.reading_table.specs.States.{Token, State, does}
use Rattle.reading_table.specs.Tables.{View, token, done, part, arrived}
use Rattle.reading_table.proofs.Answers.{after_some, both_some}
use Rattle.reading_table.proofs.Conditions.{table_is_predictive}
use Rattle.reading_table.proofs.Sound.{IsQuiet, apply_append, run_derives}
use Rattle.reading_limits.proofs.Bounds.{opened_by, weigh_as}
use Rattle.reading_limits.proofs.Changes.{change_done}
use Rattle.reading_limits.proofs.Conditions.{silence_passes, is_sound, each_sound, least_row, each_least}
use Rattle.reading_limits.proofs.Finishing.{capped}
use Rattle.reading_limits.proofs.Needs.{is_high_enough, is_least, part_is}
use Rattle.reading_limits.proofs.Opens.{open_along}
use Rattle.reading_limits.proofs.Runs.{with_comments, arrived_is, shifted_ok, standing, Low, fits_before}
use Rattle.reading_limits.proofs.Standing.{Fine, On, feed_fine}
use Rattle.reading_limits.proofs.Steps.{are_on, suits, suits_on, suit}
use Rattle.reading_limits.proofs.Tags.{Tag, move, moves, Steps, steps, stepped, keeps_tags, moves_in_place}

-- ---- to the end

pub record Applied (line ss : List Placed) (state : State) (out : List Tag) : Type 0 where
  pub weight : masses (apply reading_table line state).values ≡ least ss (masses state.values)
  pub suiting : suit (apply reading_table line state).values out ≡ true

quiet_applied : (q : List Placed) (state : State) (tags out : List Tag) → IsQuiet reading_table q → suit state.values tags ≡ true → moves q tags ≡ Some out → Applied q q state out
quiet_applied [] state tags out h g m = let z : tags ≡ out = cc in record { weight = refl; suiting = subst (λ t. suit state.values t ≡ true) z g }
quiet_applied (s ∷ q) state tags out h g m =
    let p = steps s q tags out m in
    let c = change_done s.0 s.1 state tags p.between h.0 g p.step in
    let n = quiet_applied q (does s.1 state) p.between out h.1 c.suiting p.onward in
    record { weight = n.weight ∙ ap (least q) c.weight; suiting = n.suiting }

silence_least : (p : Part) (line : List Placed) → silence p ≡ Some line → is_least p.1 line ≡ true
silence_least p line e = sym (ap (λ o. option_map_or (is_least p.1) (or_else o (slice_get (rows p) (least_row p.0 p.1))) false) e) ∙ each_least p

silence_applied : (note : Bool) (p : Part) (line : List Placed) (state : State) (tags between : List Tag) → silence p ≡ Some line → suit state.values tags ≡ true → move (symbol.Part p.1) tags ≡ Some between
    → Applied line ((note, symbol.Part p.1) ∷ []) state between
silence_applied note p line state tags between e g h =
    let r = p.1 in
    let kept = and_parts (keeps_tags r line) (is_high_enough r line) (silence_passes (is_sound r) p line (each_sound p) e) in
    let m = moves_in_place note r line [] tags between kept.0 (stepped (note, symbol.Part r) [] tags between (Some between) h refl) in
    let a = quiet_applied line state tags m.gives (table_is_predictive.quiet p line e) g (subst (λ line. moves line tags ≡ Some m.gives) (append-nil line) m.moves_to) in
    record {
      weight = a.weight ∙ part_is r line (masses state.values) tags between kept.0 kept.1 (silence_least p line e) (weigh_as state.values tags g) (capped state.values) h;
      suiting = are_on suits suits_on (apply reading_table line state).values m.gives between a.suiting m.serve;
    }

-- What is done at the end makes the values as high as the stack says.
pub hush_applied : (ss line : List Placed) (state : State) (tags out : List Tag) → hush reading_table ss ≡ Some line → suit state.values tags ≡ true → moves ss tags ≡ Some out → masses (apply reading_table line state).values ≡ least ss (masses state.values)
hush_applied [] line state tags out h g m = let z : [] ≡ line = cc in ap (λ line. masses (apply reading_table line state).values) (sym z)
hush_applied (s ∷ ss) line state tags out h g m = by (view_in s.0 s.1) refl h (steps s ss tags out m) (hush_applied ss)
  where
    by : (v : View Part) → view_in s.0 s.1 ≡ v → hush_at reading_table v s (hush reading_table ss) ≡ Some line → Steps s ss tags out
        → ((line : List Placed) (state : State) (tags out : List Tag) → hush reading_table ss ≡ Some line → suit state.values tags ≡ true → moves ss tags ≡ Some out → masses (apply reading_table line state).values ≡ least ss (masses state.values))
        → masses (apply reading_table line state).values ≡ least (s ∷ ss) (masses state.values)
    by token v h p go = absurd cc
    by done v h p go =
        let q = after_some s (hush reading_table ss) line h in
        let c = change_done s.0 s.1 state tags p.between v g p.step in
        let e : masses (apply reading_table q.0 (does s.1 state)).values ≡ least ss (masses (does s.1 state).values) = go q.0 (does s.1 state) p.between out q.1 c.suiting p.onward in
        ap (λ line. masses (apply reading_table line state).values) (sym q.2) ∙ e ∙ ap (least ss) c.weight
    by (part w) v h p go =
        let q = both_some (silence w) (hush reading_table ss) line h in
        let i = opened_by s w v in
        let a = silence_applied s.0 w q.0 state tags p.between q.2 g (subst (λ (z : Placed). move z.1 tags ≡ Some p.between) i p.step) in
        let e : masses (apply reading_table q.1 (apply reading_table q.0 state)).values ≡ least ss (masses (apply reading_table q.0 state).values) = go q.1 (apply reading_table q.0 state) p.between out q.3 a.suiting p.onward in
        let both_applied : masses (apply reading_table line state).values ≡ masses (apply reading_table q.1 (apply reading_table q.0 state)).values =
        ap (λ line. masses (apply reading_table line state).values) (sym q.4) ∙ ap (λ (state : State). masses state.values) (apply_append reading_table q.0 q.1 state) in
        both_applied ∙ e ∙ ap (least ss) (a.weight ∙ ap (λ (z : Placed). rise z.1 (masses state.values)) (sym i))

-- ---- what is read

module _ (round : ℕ) (tail : List (List ℕ)) where
  -- What is read, and is within the limits, is read within the limits.
  pub run_reads_within : (ts : List Token) (ss : List Placed) (state last : State) (a : List Tag × ℕ) (count : ℕ) → Fine a ss → On a state → run reading_table deepest (with_comments tail) ss state ts ≡ Ok last
      → Low round tail last → open_along count ts ≤ MOST_OPEN → run_within round (with_comments tail) (standing ss state count) ts ≡ read last
  run_reads_within [] ss state last a count f o h l w = by (hush reading_table ss) h
    where
      by : (q : Option (List Placed)) → finished reading_table q state ≡ Ok last → ended q state ≡ read last
      by None h = absurd cc
      by (Some line) h = let z : apply reading_table line state ≡ last = cc in ap read z
  run_reads_within (t ∷ ts) ss state last a count f o h l w =
      by (feed reading_table deepest ss state t) refl h (λ next b. run_reads_within ts next.0 (arrived reading_table (with_comments tail) ts next.1) last b (open_after count t.lexeme))
    where
      by : (q : Option (List Placed × State)) → feed reading_table deepest ss state t ≡ q
          → run_on reading_table q (λ ss state. run reading_table deepest (with_comments tail) ss (arrived reading_table (with_comments tail) ts state) ts) ≡ Ok last
          → ((next : List Placed × State) (b : List Tag × ℕ) → Fine b next.0 → On b (arrived reading_table (with_comments tail) ts next.1)
          → run reading_table deepest (with_comments tail) next.0 (arrived reading_table (with_comments tail) ts next.1) ts ≡ Ok last → Low round tail last → open_along (open_after count t.lexeme) ts ≤ MOST_OPEN
          → run_within round (with_comments tail) (standing next.0 (arrived reading_table (with_comments tail) ts next.1) (open_after count t.lexeme)) ts ≡ read last)
          → going_on (fed_to round (open_after count t.lexeme) q) (λ s. run_within round (with_comments tail) (record s { state = arrived reading_table (with_comments tail) ts s.state }) ts) ≡ read last
      by None e h go = absurd cc
      by (Some next) e h go =
          let n = feed_fine ss a state t next f o e in
          let r = shifted_ok (run reading_table deepest (with_comments tail) next.0 (arrived reading_table (with_comments tail) ts next.1) ts) last h in
          let d = run_derives reading_table (with_comments tail) table_is_predictive.quiet deepest ts next.0 (arrived reading_table (with_comments tail) ts next.1) last r in
          let few : open_along (open_after count t.lexeme) ts ≤ MOST_OPEN = omega (arith, w) in
          let fit = fits_before round tail next.0 next.1 last ts n.then_fine (open_after count t.lexeme) n.fine n.on d l few in
          let on : On n.then_fine (arrived reading_table (with_comments tail) ts next.1) = subst (λ vs. On n.then_fine record { values = vs; waiting = [] }) (sym (arrived_is tail ts next.1)) n.on in
          ap (λ b. going_on (if b then admitted (standing next.0 next.1 (open_after count t.lexeme)) else deep) (λ s. run_within round (with_comments tail) (record s { state = arrived reading_table (with_comments tail) ts s.state }) ts)) fit
          ∙ ap later (go next n.then_fine n.fine on r l few)
