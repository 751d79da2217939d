-- Whatever is read becomes at least as high as the stack says from the left.
use Rattle.std.proofs.Common.{◌≡◌, List, [], ◌∷◌, ◌++◌, refl, sym, ◌∙◌, ap, subst, Some, Bool, true}
use Rattle.std.proofs.lemmas.Bool.{and_parts, and_from}
use Rattle.reading_table.specs.declared.held.Held.{Held}
use Rattle.reading_table.specs.declared.held.Held.TheVariants as held
use Rattle.reading_table.specs.declared.need.Mass.{Mass}
use Rattle.reading_table.specs.declared.rule.Rule.{Rule}
use Rattle.reading_table.specs.declared.symbol.Symbol.TheVariants as symbol
use Rattle.reading_table.specs.Heights.{mass_of, masses, rise, least}
use Rattle.reading_table.specs.Reading.{reading_table, view_in}
use Rattle.reading_table.specs.Rows.{Placed, Part}
use Rattle.reading_table.specs.States.{Token, State, taken}
use Rattle.reading_table.specs.Tables.{View, token, done, part, arrived, Derives, ends, takes, acts, opens, omits}
use Rattle.reading_limits.proofs.Changes.{change_done, change_token}
use Rattle.reading_limits.proofs.Conditions.{row_passes, silence_passes, is_sound, each_sound}
use Rattle.reading_limits.proofs.Needs.{is_high_enough, part_below}
use Rattle.reading_limits.proofs.Order.{Below, below_itself, below_on, least_below, least-append}
use Rattle.reading_limits.proofs.Steps.{weighs, weigh, suits, suit}
use Rattle.reading_limits.proofs.Tags.{Tag, a_text, some_notes, a_list, a_tree, a_value, moves, steps, keeps_tags, moves_in_place}

-- which symbol a part is
pub opened_by : (s : Placed) (p : Part) → view_in s.0 s.1 ≡ part p → s ≡ (s.0, symbol.Part p.1)
opened_by (note, symbol.Part r) p v = ap (λ (v : View Part). (note, symbol.Part (rule_of v))) v
  where
    rule_of : View Part → Rule
    rule_of (part q) = q.1
    rule_of token = r
    rule_of done = r
opened_by (note, symbol.Take set) p v = absurd cc
opened_by (note, symbol.Keep set) p v = absurd cc
opened_by (note, symbol.Closing depth) p v = absurd cc
opened_by (note, symbol.Build k count) p v = absurd cc
opened_by (note, symbol.Join) p v = absurd cc
opened_by (note, symbol.Say w) p v = absurd cc
opened_by (note, symbol.Paste between) p v = absurd cc
opened_by (note, symbol.Lower) p v = absurd cc
opened_by (note, symbol.Recall depth) p v = absurd cc
opened_by (note, symbol.Notes) p v = absurd cc
opened_by (note, symbol.Noted) p v = absurd cc
opened_by (note, symbol.EndNotes) p v = absurd cc

weighs_as : (v : Held) (t : Tag) → suits v t ≡ true → weighs (mass_of v) t ≡ true
weighs_as v a_value h = refl
weighs_as (held.Text text) a_text h = refl
weighs_as (held.Comments comments) some_notes h = refl
weighs_as (held.Tree node) a_list h = refl
weighs_as (held.Tree node) a_tree h = refl
weighs_as _ _ h = absurd cc

pub weigh_as : (vs : List Held) (tags : List Tag) → suit vs tags ≡ true → weigh (masses vs) tags ≡ true
weigh_as [] [] h = refl
weigh_as (v ∷ vs) (t ∷ ts) h = let p = and_parts (suits v t) (suit vs ts) h in and_from (weighs (mass_of v) t) (weigh (masses vs) ts) (weighs_as v t p.0) (weigh_as vs ts p.1)
weigh_as [] (t ∷ ts) h = absurd cc
weigh_as (v ∷ vs) [] h = absurd cc

-- what comes with a token, or at the end, leaves the values
pub arrived_values : (end : State → State) → ((state : State) → (end state).values ≡ state.values) → (ts : List Token) (state : State) → (arrived reading_table end ts state).values ≡ state.values
arrived_values end keeps [] state = keeps state
arrived_values end keeps (t ∷ ts) state = refl

-- a line in the place of the part on top of a stack
line_below : (note : Bool) (r : Rule) (line ss : List Placed) (ms : List Mass) (tags out : List Tag) → is_sound r line ≡ true → weigh ms tags ≡ true → moves ((note, symbol.Part r) ∷ ss) tags ≡ Some out
    → Below (least ((note, symbol.Part r) ∷ ss) ms) (least (line ++ ss) ms)
line_below note r line ss ms tags out k w h =
    let both = and_parts (keeps_tags r line) (is_high_enough r line) k in
    let st = steps (note, symbol.Part r) ss tags out h in
    let b = part_below r line ms tags st.between both.0 both.1 w st.step in
    subst (λ x. Below (least ss (rise (symbol.Part r) ms)) x) (sym (least-append line ss ms)) (least_below ss b)

-- What is read from a stack, whose symbols find what they want among the values, is no lower than the stack says.
pub lower_bound : {end : State → State} {ss : List Placed} {state last : State} {ts : List Token} → Derives reading_table end ss state ts last → ((state : State) → (end state).values ≡ state.values)
    → (tags out : List Tag) → suit state.values tags ≡ true → moves ss tags ≡ Some out → Below (least ss (masses state.values)) (masses last.values)
lower_bound (ends {state = state}) keeps tags out g h = below_itself (masses state.values)
lower_bound {end = end} (takes {s = s} {ss = ss} {t = t} {ts = ts} {state = state} {last = last} v f d) keeps tags out g h =
    let p = steps s ss tags out h in
    let c = change_token s.0 s.1 state t.lexeme tags p.between v g p.step in
    let e : (arrived reading_table end ts (taken s.1 state t.lexeme)).values ≡ (taken s.1 state t.lexeme).values = arrived_values end keeps ts (taken s.1 state t.lexeme) in
    let go = lower_bound d keeps p.between out (subst (λ vs. suit vs p.between ≡ true) (sym e) c.suiting) p.onward in
    subst (λ ms. Below (least ss ms) (masses last.values)) (ap masses e ∙ c.weight) go
lower_bound (acts {s = s} {ss = ss} {state = state} {last = last} v d) keeps tags out g h =
    let p = steps s ss tags out h in
    let c = change_done s.0 s.1 state tags p.between v g p.step in
    subst (λ ms. Below (least ss ms) (masses last.values)) c.weight (lower_bound d keeps p.between out c.suiting p.onward)
lower_bound (opens {s = s} {p = p} {row = row} {ss = ss} {state = state} {last = last} v m d) keeps tags out g h =
    let e = opened_by s p v in
    let k = row_passes (is_sound p.1) p row (each_sound p) m in
    let h2 : moves ((s.0, symbol.Part p.1) ∷ ss) tags ≡ Some out = subst (λ s. moves (s ∷ ss) tags ≡ Some out) e h in
    let q = moves_in_place s.0 p.1 row ss tags out (and_parts (keeps_tags p.1 row) (is_high_enough p.1 row) k).0 h2 in
    let b = line_below s.0 p.1 row ss (masses state.values) tags out k (weigh_as state.values tags g) h2 in
    subst (λ s. Below (least (s ∷ ss) (masses state.values)) (masses last.values)) (sym e) (below_on b (lower_bound d keeps tags q.gives g q.moves_to))
lower_bound (omits {s = s} {p = p} {line = line} {ss = ss} {state = state} {last = last} v q d) keeps tags out g h =
    let e = opened_by s p v in
    let k = silence_passes (is_sound p.1) p line (each_sound p) q in
    let h2 : moves ((s.0, symbol.Part p.1) ∷ ss) tags ≡ Some out = subst (λ s. moves (s ∷ ss) tags ≡ Some out) e h in
    let q = moves_in_place s.0 p.1 line ss tags out (and_parts (keeps_tags p.1 line) (is_high_enough p.1 line) k).0 h2 in
    let b = line_below s.0 p.1 line ss (masses state.values) tags out k (weigh_as state.values tags g) h2 in
    subst (λ s. Below (least (s ∷ ss) (masses state.values)) (masses last.values)) (sym e) (below_on b (lower_bound d keeps tags q.gives g q.moves_to))
