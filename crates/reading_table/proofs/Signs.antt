-- Reading tokens with the comments before them is reading events to which those comments are attached.
use Rattle.std.proofs.Common.{◌≡◌, ℕ, List, [], ◌∷◌, ◌++◌, refl, sym, ◌∙◌, ap, subst, Bool, true, false, append_assoc, append-nil, ◌⊎◌, inl, inr}
use Rattle.ada_tree.specs.Tokens.{Lexeme, Sign, token, comment, Event, spelled, comments}
use Rattle.ada_tree.specs.Reading.{begins_with_comment, Attached, dropped, waits, taken as attached, passed}
use Rattle.reading_table.specs.declared.held.Held.{Held}
use Rattle.reading_table.specs.declared.symbol.Symbol.{Symbol}
use Rattle.reading_table.specs.declared.symbol.Symbol.TheVariants as symbol
use Rattle.reading_table.specs.Events.{event_view, event_fits, event_taken, event_table, of_values, Reads}
use Rattle.reading_table.specs.Reading.{reading_table, view_in}
use Rattle.reading_table.specs.Rows.{Placed, Part}
use Rattle.reading_table.specs.Signs.{leading, tokens_from, trailing_from, end_of}
use Rattle.reading_table.specs.States.{Token, State, does, taken}
use Rattle.reading_table.specs.Tables.{arrived, Derives, ends, takes, acts, opens, omits}
use Rattle.reading_table.specs.Tables.{token as a_token, done, part}

abbrev behind : List Sign → List Sign
behind [] = []
behind (comment text ∷ signs) = behind signs
behind (token note lexeme ∷ signs) = token note lexeme ∷ signs

-- ---- comments before a token

leading_behind : (signs : List Sign) → leading (behind signs) ≡ []
leading_behind [] = refl
leading_behind (comment text ∷ signs) = leading_behind signs
leading_behind (token note lexeme ∷ signs) = refl

tokens_behind : (waiting : List (List ℕ)) (signs : List Sign) → tokens_from waiting signs ≡ tokens_from (waiting ++ leading signs) (behind signs)
tokens_behind waiting [] = refl
tokens_behind waiting (comment text ∷ signs) = tokens_behind (waiting ++ text ∷ []) signs ∙ ap (λ w. tokens_from w (behind signs)) (append_assoc waiting (text ∷ []) (leading signs))
tokens_behind waiting (token note lexeme ∷ signs) = ap (λ w. tokens_from w (token note lexeme ∷ signs)) (sym (append-nil waiting))

trailing_behind : (waiting : List (List ℕ)) (signs : List Sign) → trailing_from waiting signs ≡ trailing_from (waiting ++ leading signs) (behind signs)
trailing_behind waiting [] = sym (append-nil waiting)
trailing_behind waiting (comment text ∷ signs) = trailing_behind (waiting ++ text ∷ []) signs ∙ ap (λ w. trailing_from w (behind signs)) (append_assoc waiting (text ∷ []) (leading signs))
trailing_behind waiting (token note lexeme ∷ signs) = refl

attached_behind : {waiting : List (List ℕ)} {events : List Event} {signs : List Sign} → Attached waiting events signs → Attached (waiting ++ leading signs) events (behind signs)
attached_behind {waiting = waiting} dropped = dropped
attached_behind {waiting = waiting} {events = events} (waits {text = text} {signs = signs} a) = subst (λ w. Attached w events (behind signs)) (append_assoc waiting (text ∷ []) (leading signs)) (attached_behind a)
attached_behind (attached {waiting = waiting} {events = events} {signs = signs} n a) = by signs n a
  where
    by : (signs : List Sign) → begins_with_comment signs ≡ false → Attached [] events signs → Attached (waiting ++ leading signs) (comments waiting ∷ events) (behind signs)
    by [] n a = subst (λ w. Attached w (comments waiting ∷ events) []) (sym (append-nil waiting)) (attached n a)
    by (comment text ∷ signs) n a = absurd cc
    by (token note lexeme ∷ signs) n a = subst (λ w. Attached w (comments waiting ∷ events) (token note lexeme ∷ signs)) (sym (append-nil waiting)) (attached n a)
attached_behind (passed {waiting = waiting} {note = note} {lexeme = lexeme} {events = events} {signs = signs} a) =
    subst (λ w. Attached w (spelled note lexeme ∷ events) (token note lexeme ∷ signs)) (sym (append-nil waiting)) (passed a)

-- the first token's own comments have come already
abbrev with_comments : List (List ℕ) → Token → Token
with_comments texts t = record t { comments = texts }

same_head : {end : State → State} {ss : List Placed} {state last : State} {t : Token} {ts : List Token} (texts : List (List ℕ))
    → Derives reading_table end ss state (t ∷ ts) last → Derives reading_table end ss state (with_comments texts t ∷ ts) last
same_head texts (takes v f d) = takes v f d
same_head texts (acts v d) = acts v (same_head texts d)
same_head texts (opens v m d) = opens v m (same_head texts d)
same_head texts (omits v e d) = omits v e (same_head texts d)

-- ---- quiet symbols touch no waiting comments

abbrev values_after : Symbol → List Held → List Held
values_after s values = (does s (of_values values)).values

quiet_does : (note : Bool) (s : Symbol) (values : List Held) (waiting : List (List ℕ)) → event_view note s ≡ done → does s record { values = values; waiting = waiting } ≡ record { values = values_after s values; waiting = waiting }
quiet_does note (symbol.Take set) values waiting v = absurd cc
quiet_does note (symbol.Keep set) values waiting v = absurd cc
quiet_does note (symbol.Closing depth) values waiting v = absurd cc
quiet_does note (symbol.Part r) values waiting v = absurd cc
quiet_does note (symbol.Build k count) values waiting v = refl
quiet_does note symbol.Join values waiting v = refl
quiet_does note (symbol.Say w) values waiting v = refl
quiet_does note (symbol.Paste between) values waiting v = refl
quiet_does note symbol.Lower values waiting v = refl
quiet_does note (symbol.Recall depth) values waiting v = refl
quiet_does note symbol.Notes values waiting v = absurd cc
quiet_does note symbol.Noted values waiting v = refl
quiet_does note symbol.EndNotes values waiting v = absurd cc

quiet_view : (note : Bool) (s : Symbol) → event_view note s ≡ done → view_in note s ≡ done
quiet_view note (symbol.Take set) v = absurd cc
quiet_view note (symbol.Keep set) v = absurd cc
quiet_view note (symbol.Closing depth) v = absurd cc
quiet_view note (symbol.Part r) v = absurd cc
quiet_view note symbol.Notes v = absurd cc
quiet_view note symbol.EndNotes v = absurd cc
quiet_view note (symbol.Build k count) v = refl
quiet_view note symbol.Join v = refl
quiet_view note (symbol.Say w) v = refl
quiet_view note (symbol.Paste between) v = refl
quiet_view note symbol.Lower v = refl
quiet_view note (symbol.Recall depth) v = refl
quiet_view note symbol.Noted v = refl

part_view : (note : Bool) (s : Symbol) (p : Part) → event_view note s ≡ part p → view_in note s ≡ part p
part_view note (symbol.Take set) p v = absurd cc
part_view note (symbol.Keep set) p v = absurd cc
part_view note (symbol.Closing depth) p v = absurd cc
part_view note (symbol.Part r) p v = v
part_view note symbol.Notes p v = absurd cc
part_view note symbol.EndNotes p v = absurd cc
part_view note (symbol.Build k count) p v = absurd cc
part_view note symbol.Join p v = absurd cc
part_view note (symbol.Say w) p v = absurd cc
part_view note (symbol.Paste between) p v = absurd cc
part_view note symbol.Lower p v = absurd cc
part_view note (symbol.Recall depth) p v = absurd cc
part_view note symbol.Noted p v = absurd cc

-- ---- from events to tokens

abbrev state_of : List Held → List (List ℕ) → State
state_of values waiting = record { values = values; waiting = waiting }

-- the signs are read to the values, where the comments before the first token have come
pub record Came (ss : List Placed) (values : List Held) (waiting : List (List ℕ)) (signs : List Sign) (last : List Held) : Type 0 where
  pub state : State
  pub values_are : state.values ≡ last
  pub derives : Derives reading_table (end_of signs) ss (state_of values (waiting ++ leading signs)) (tokens_from [] signs) state

-- what comes at the end matters only after a token
other_end : {end other : State → State} {ss : List Placed} {state last : State} {ts : List Token} → ts ≡ [] → Derives reading_table end ss state ts last → Derives reading_table other ss state ts last
other_end e ends = ends
other_end e (takes {t = t} {ts = ts} v f d) = absurd (let z : t ∷ ts ≡ [] = e in cc)
other_end e (acts v d) = acts v (other_end e d)
other_end e (opens v m d) = opens v m (other_end e d)
other_end e (omits v q d) = omits v q (other_end e d)

came_behind : (ss : List Placed) (values last : List Held) (waiting : List (List ℕ)) (signs : List Sign) → Came ss values (waiting ++ leading signs) (behind signs) last → Came ss values waiting signs last
came_behind ss values last waiting signs c = record { state = c.state; values_are = c.values_are; derives = by (behind signs) refl (tokens_behind [] signs) (trailing_behind [] signs) (subst (λ w. Derives reading_table (end_of (behind signs)) ss (state_of values w) (tokens_from [] (behind signs)) c.state) same_waiting c.derives) }
  where
    same_waiting : (waiting ++ leading signs) ++ leading (behind signs) ≡ waiting ++ leading signs
    same_waiting = ap (λ l. (waiting ++ leading signs) ++ l) (leading_behind signs) ∙ append-nil (waiting ++ leading signs)

    by : (b : List Sign) → behind signs ≡ b → tokens_from [] signs ≡ tokens_from (leading signs) (behind signs) → trailing_from [] signs ≡ trailing_from (leading signs) (behind signs)
        → Derives reading_table (end_of (behind signs)) ss (state_of values (waiting ++ leading signs)) (tokens_from [] (behind signs)) c.state
        → Derives reading_table (end_of signs) ss (state_of values (waiting ++ leading signs)) (tokens_from [] signs) c.state
    by [] e t r d =
        let none : tokens_from [] signs ≡ [] = t ∙ ap (tokens_from (leading signs)) e in
        subst (λ ts. Derives reading_table (end_of signs) ss (state_of values (waiting ++ leading signs)) ts c.state) (sym none)
        (other_end refl (subst (λ b. Derives reading_table (end_of b) ss (state_of values (waiting ++ leading signs)) (tokens_from [] b) c.state) e d))
    by (comment text ∷ b) e t r d = absurd (no_comment signs e)
      where
        no_comment : (signs : List Sign) → behind signs ≡ comment text ∷ b → ⊥
        no_comment [] e = cc
        no_comment (comment other ∷ signs) e = no_comment signs e
        no_comment (token note lexeme ∷ signs) e = cc
    by (token note lexeme ∷ b) e t r d =
        let ends : end_of (behind signs) ≡ end_of signs = ap (λ (texts : List (List ℕ)). λ (state : State). record state { waiting = state.waiting ++ texts }) (ap (trailing_from []) e ∙ ap (trailing_from (leading signs)) (sym e) ∙ sym r) in
        let tokens : tokens_from (leading signs) (behind signs) ≡ record { comments = leading signs; note = note; lexeme = lexeme } ∷ tokens_from [] b = ap (tokens_from (leading signs)) e in
        let own = subst (λ b. Derives reading_table (end_of (behind signs)) ss (state_of values (waiting ++ leading signs)) (tokens_from [] b) c.state) e d in
        subst (λ ts. Derives reading_table (end_of signs) ss (state_of values (waiting ++ leading signs)) ts c.state) (sym (t ∙ tokens))
        (subst (λ end. Derives reading_table end ss (state_of values (waiting ++ leading signs)) (record { comments = leading signs; note = note; lexeme = lexeme } ∷ tokens_from [] b) c.state) ends (same_head (leading signs) own))

pub came_is : (signs : List Sign) (values : List Held) (waiting : List (List ℕ)) → arrived reading_table (end_of signs) (tokens_from [] signs) (state_of values waiting) ≡ state_of values (waiting ++ leading signs)
came_is signs values waiting = by (behind signs) refl (tokens_behind [] signs) (trailing_behind [] signs)
  where
    by : (b : List Sign) → behind signs ≡ b → tokens_from [] signs ≡ tokens_from (leading signs) (behind signs) → trailing_from [] signs ≡ trailing_from (leading signs) (behind signs)
        → arrived reading_table (end_of signs) (tokens_from [] signs) (state_of values waiting) ≡ state_of values (waiting ++ leading signs)
    by [] e t r =
        ap (λ ts. arrived reading_table (end_of signs) ts (state_of values waiting)) (t ∙ ap (tokens_from (leading signs)) e)
        ∙ ap (λ texts. state_of values (waiting ++ texts)) (r ∙ ap (trailing_from (leading signs)) e)
    by (comment text ∷ b) e t r = absurd (no_comment signs e)
      where
        no_comment : (signs : List Sign) → behind signs ≡ comment text ∷ b → ⊥
        no_comment [] e = cc
        no_comment (comment other ∷ signs) e = no_comment signs e
        no_comment (token note lexeme ∷ signs) e = cc
    by (token note lexeme ∷ b) e t r = ap (λ ts. arrived reading_table (end_of signs) ts (state_of values waiting)) (t ∙ ap (tokens_from (leading signs)) e)

pub no_more : (events : List Event) (values : List Held) → arrived event_table (λ values. values) events values ≡ values
no_more [] values = refl
no_more (e ∷ events) values = refl

-- a token of a spelling, taken
record Taken (s : Placed) (values : List Held) (waiting : List (List ℕ)) (note : Bool) (lexeme : Lexeme) : Type 0 where
  sees : reading_table.view s ≡ a_token
  fits : (t : Token) → t.note ≡ note → t.lexeme ≡ lexeme → reading_table.fits s (state_of values waiting) t ≡ true
  gives : taken s.1 (state_of values waiting) lexeme ≡ state_of (event_taken s values (spelled note lexeme)) waiting

take_spelled : (s : Placed) (values : List Held) (waiting : List (List ℕ)) (note : Bool) (lexeme : Lexeme) → event_view s.0 s.1 ≡ a_token → event_fits s values (spelled note lexeme) ≡ true → Taken s values waiting note lexeme
take_spelled (side, symbol.Take set) values waiting note lexeme v f = record { sees = refl; fits = λ t n x. rw (n, x) f; gives = refl }
take_spelled (side, symbol.Keep set) values waiting note lexeme v f = record { sees = refl; fits = λ t n x. rw (n, x) f; gives = refl }
take_spelled (side, symbol.Closing depth) values waiting note lexeme v f = record { sees = refl; fits = λ t n x. rw (n, x) f; gives = refl }
take_spelled (side, symbol.Notes) values waiting note lexeme v f = absurd cc
take_spelled (side, symbol.EndNotes) values waiting note lexeme v f = absurd cc
take_spelled (side, symbol.Part r) values waiting note lexeme v f = absurd cc
take_spelled (side, symbol.Build k count) values waiting note lexeme v f = absurd cc
take_spelled (side, symbol.Join) values waiting note lexeme v f = absurd cc
take_spelled (side, symbol.Say w) values waiting note lexeme v f = absurd cc
take_spelled (side, symbol.Paste between) values waiting note lexeme v f = absurd cc
take_spelled (side, symbol.Lower) values waiting note lexeme v f = absurd cc
take_spelled (side, symbol.Recall depth) values waiting note lexeme v f = absurd cc
take_spelled (side, symbol.Noted) values waiting note lexeme v f = absurd cc

-- a place of comments, which takes those that wait
record Placing (s : Placed) (values : List Held) (texts : List (List ℕ)) : Type 0 where
  sees : reading_table.view s ≡ done
  gives : does s.1 (state_of values texts) ≡ state_of (event_taken s values (comments texts)) []

take_comments : (s : Placed) (values : List Held) (texts : List (List ℕ)) → event_view s.0 s.1 ≡ a_token → event_fits s values (comments texts) ≡ true → Placing s values texts
take_comments (side, symbol.Notes) values texts v f = record { sees = refl; gives = refl }
take_comments (side, symbol.EndNotes) values texts v f = record { sees = refl; gives = refl }
take_comments (side, symbol.Take set) values texts v f = absurd cc
take_comments (side, symbol.Keep set) values texts v f = absurd cc
take_comments (side, symbol.Closing depth) values texts v f = absurd cc
take_comments (side, symbol.Part r) values texts v f = absurd cc
take_comments (side, symbol.Build k count) values texts v f = absurd cc
take_comments (side, symbol.Join) values texts v f = absurd cc
take_comments (side, symbol.Say w) values texts v f = absurd cc
take_comments (side, symbol.Paste between) values texts v f = absurd cc
take_comments (side, symbol.Lower) values texts v f = absurd cc
take_comments (side, symbol.Recall depth) values texts v f = absurd cc
take_comments (side, symbol.Noted) values texts v f = absurd cc

-- what is attached where no comment stands first
ended_front : {values : List Held} (waiting : List (List ℕ)) (signs : List Sign) → leading signs ≡ [] → Attached waiting [] signs → Came [] values waiting signs values
ended_front {values = values} waiting signs n dropped = record { state = state_of values (waiting ++ []); values_are = refl; derives = ends }
ended_front waiting signs n (waits a) = absurd cc

record Passed (waiting : List (List ℕ)) (note : Bool) (lexeme : Lexeme) (events : List Event) (signs : List Sign) : Type 0 where
  rest : List Sign
  whole : token note lexeme ∷ rest ≡ signs
  attached_rest : Attached waiting events rest

passed_front : {waiting : List (List ℕ)} {note : Bool} {lexeme : Lexeme} {events : List Event} {signs : List Sign} → leading signs ≡ [] → Attached waiting (spelled note lexeme ∷ events) signs → Passed waiting note lexeme events signs
passed_front n (waits a) = absurd cc
passed_front n (passed {signs = signs} a) = record { rest = signs; whole = refl; attached_rest = a }

comments_front : {waiting texts : List (List ℕ)} {events : List Event} {signs : List Sign} → leading signs ≡ [] → Attached waiting (comments texts ∷ events) signs → (waiting ≡ texts) × Attached [] events signs
comments_front n (waits a) = absurd cc
comments_front n (attached m a) = (refl, a)

-- with no comment first, nothing more comes than waits
at_front : (values : List Held) (waiting : List (List ℕ)) (signs : List Sign) → leading signs ≡ [] → state_of values (waiting ++ leading signs) ≡ state_of values waiting
at_front values waiting signs n = ap (λ l. state_of values (waiting ++ l)) n ∙ ap (state_of values) (append-nil waiting)

from_front : {ss : List Placed} {values last : List Held} {events : List Event} → Reads ss values events last → (waiting : List (List ℕ)) (signs : List Sign) → leading signs ≡ [] → Attached waiting events signs → Came ss values waiting signs last
from_front ends waiting signs n a = ended_front waiting signs n a
from_front (takes {s = s} {ss = ss} {t = spelled note lexeme} {ts = events} {state = values} {last = last} v f d) waiting signs n a =
    let p = passed_front n a in
    let k = take_spelled s values waiting note lexeme v f in
    let onward = from_front d (waiting ++ leading p.rest) (behind p.rest) (leading_behind p.rest) (attached_behind p.attached_rest) in
    let c = came_behind ss (event_taken s values (spelled note lexeme)) last waiting p.rest (subst (λ vs. Came ss vs (waiting ++ leading p.rest) (behind p.rest) last) (no_more events (event_taken s values (spelled note lexeme))) onward) in
    let t : Token = record { comments = []; note = note; lexeme = lexeme } in
    let next : arrived reading_table (end_of p.rest) (tokens_from [] p.rest) (taken s.1 (state_of values waiting) lexeme) ≡ state_of (event_taken s values (spelled note lexeme)) (waiting ++ leading p.rest) =
    ap (arrived reading_table (end_of p.rest) (tokens_from [] p.rest)) k.gives ∙ came_is p.rest (event_taken s values (spelled note lexeme)) waiting in
    let taking : Derives reading_table (end_of p.rest) (s ∷ ss) (state_of values waiting) (t ∷ tokens_from [] p.rest) c.state =
    takes k.sees (k.fits t refl refl) (subst (λ state. Derives reading_table (end_of p.rest) ss state (tokens_from [] p.rest) c.state) (sym next) c.derives) in
    subst (λ signs. Came (s ∷ ss) values waiting signs last) p.whole
    record {
      state = c.state;
      values_are = c.values_are;
      derives = subst (λ w. Derives reading_table (end_of p.rest) (s ∷ ss) (state_of values w) (t ∷ tokens_from [] p.rest) c.state) (sym (append-nil waiting)) taking;
    }
from_front (takes {s = s} {ss = ss} {t = comments texts} {ts = events} {state = values} {last = last} v f d) waiting signs n a =
    let q = comments_front n a in
    let k = take_comments s values texts v f in
    let c = subst (λ vs. Came ss vs [] signs last) (no_more events (event_taken s values (comments texts))) (from_front d [] signs n q.1) in
    let start : state_of values (waiting ++ leading signs) ≡ state_of values texts = at_front values waiting signs n ∙ ap (state_of values) q.0 in
    let next : state_of (event_taken s values (comments texts)) ([] ++ leading signs) ≡ does s.1 (state_of values texts) = ap (state_of (event_taken s values (comments texts))) n ∙ sym k.gives in
    record {
      state = c.state;
      values_are = c.values_are;
      derives = subst (λ state. Derives reading_table (end_of signs) (s ∷ ss) state (tokens_from [] signs) c.state) (sym start)
          (acts k.sees (subst (λ state. Derives reading_table (end_of signs) ss state (tokens_from [] signs) c.state) next c.derives));
    }
from_front (acts {s = s} {ss = ss} {ts = events} {state = values} {last = last} v d) waiting signs n a =
    let c = from_front d waiting signs n a in
    record {
      state = c.state;
      values_are = c.values_are;
      derives = acts (quiet_view s.0 s.1 v) (subst (λ state. Derives reading_table (end_of signs) ss state (tokens_from [] signs) c.state) (sym (quiet_does s.0 s.1 values (waiting ++ leading signs) v)) c.derives);
    }
from_front (opens {s = s} {p = p} v m d) waiting signs n a = let c = from_front d waiting signs n a in record { state = c.state; values_are = c.values_are; derives = opens (part_view s.0 s.1 p v) m c.derives }
from_front (omits {s = s} {p = p} v e d) waiting signs n a = let c = from_front d waiting signs n a in record { state = c.state; values_are = c.values_are; derives = omits (part_view s.0 s.1 p v) e c.derives }

-- Events to which the comments of signs are attached are read as the signs are.
pub events_are_read : {ss : List Placed} {values last : List Held} {events : List Event} → Reads ss values events last → (waiting : List (List ℕ)) (signs : List Sign) → Attached waiting events signs → Came ss values waiting signs last
events_are_read {ss = ss} {values = values} {last = last} d waiting signs a = came_behind ss values last waiting signs (from_front d (waiting ++ leading signs) (behind signs) (leading_behind signs) (attached_behind a))

-- ---- from tokens to events

-- comments before a token wait
attached_before : (waiting : List (List ℕ)) (events : List Event) (signs : List Sign) → Attached (waiting ++ leading signs) events (behind signs) → Attached waiting events signs
attached_before waiting events [] a = subst (λ w. Attached w events []) (append-nil waiting) a
attached_before waiting events (comment text ∷ signs) a =
    waits (attached_before (waiting ++ text ∷ []) events signs (subst (λ w. Attached w events (behind signs)) (sym (append_assoc waiting (text ∷ []) (leading signs))) a))
attached_before waiting events (token note lexeme ∷ signs) a = subst (λ w. Attached w events (token note lexeme ∷ signs)) (append-nil waiting) a

front_is : (signs : List Sign) → begins_with_comment (behind signs) ≡ false
front_is [] = refl
front_is (comment text ∷ signs) = front_is signs
front_is (token note lexeme ∷ signs) = refl

-- the events that the signs are read as, where no comment stands first
pub record Front (ss : List Placed) (values : List Held) (waiting : List (List ℕ)) (signs : List Sign) (last : List Held) : Type 0 where
  pub events : List Event
  pub reads : Reads ss values events last
  pub attaches : Attached waiting events signs

-- what comes at the end, of signs that have a token
EndIs : (State → State) → List Sign → Type 0
EndIs end signs = (signs ≡ []) ⊎ (end ≡ end_of signs)

end_behind : (end : State → State) (signs : List Sign) → end ≡ end_of signs → EndIs end (behind signs)
unfolding EndIs
end_behind end signs e = by (behind signs) refl (trailing_behind [] signs)
  where
    by : (b : List Sign) → behind signs ≡ b → trailing_from [] signs ≡ trailing_from (leading signs) (behind signs) → (b ≡ []) ⊎ (end ≡ end_of b)
    by [] g r = inl refl
    by (comment text ∷ b) g r = absurd (let z : true ≡ false = sym (ap begins_with_comment g) ∙ front_is signs in cc)
    by (token note lexeme ∷ b) g r = inr (e ∙ ap (λ (texts : List (List ℕ)). λ (state : State). record state { waiting = state.waiting ++ texts }) (r ∙ ap (trailing_from (leading signs)) g))

-- which symbols act: those that act on values alone, and the places of comments
data Acting (s : Placed) : Type 0 where
  on_values : event_view s.0 s.1 ≡ done → Acting s
  on_comments : event_view s.0 s.1 ≡ a_token → ((values : List Held) (texts : List (List ℕ)) → (event_fits s values (comments texts) ≡ true) × (does s.1 (state_of values texts) ≡ state_of (event_taken s values (comments texts)) [])) → Acting s

acting : (s : Placed) → view_in s.0 s.1 ≡ done → Acting s
acting (side, symbol.Take set) v = absurd cc
acting (side, symbol.Keep set) v = absurd cc
acting (side, symbol.Closing depth) v = absurd cc
acting (side, symbol.Part r) v = absurd cc
acting (side, symbol.Build k count) v = on_values refl
acting (side, symbol.Join) v = on_values refl
acting (side, symbol.Say w) v = on_values refl
acting (side, symbol.Paste between) v = on_values refl
acting (side, symbol.Lower) v = on_values refl
acting (side, symbol.Recall depth) v = on_values refl
acting (side, symbol.Noted) v = on_values refl
acting (side, symbol.Notes) v = on_comments refl (λ values texts. (refl, refl))
acting (side, symbol.EndNotes) v = on_comments refl (λ values texts. (refl, refl))

taking : (s : Placed) (values : List Held) (waiting : List (List ℕ)) (t : Token) → view_in s.0 s.1 ≡ a_token → reading_table.fits s (state_of values waiting) t ≡ true
    → (event_view s.0 s.1 ≡ a_token) × (event_fits s values (spelled t.note t.lexeme) ≡ true) × (taken s.1 (state_of values waiting) t.lexeme ≡ state_of (event_taken s values (spelled t.note t.lexeme)) waiting)
taking (side, symbol.Take set) values waiting t v f = (refl, f, refl)
taking (side, symbol.Keep set) values waiting t v f = (refl, f, refl)
taking (side, symbol.Closing depth) values waiting t v f = (refl, f, refl)
taking (side, symbol.Part r) values waiting t v f = absurd cc
taking (side, symbol.Build k count) values waiting t v f = absurd cc
taking (side, symbol.Join) values waiting t v f = absurd cc
taking (side, symbol.Say w) values waiting t v f = absurd cc
taking (side, symbol.Paste between) values waiting t v f = absurd cc
taking (side, symbol.Lower) values waiting t v f = absurd cc
taking (side, symbol.Recall depth) values waiting t v f = absurd cc
taking (side, symbol.Noted) values waiting t v f = absurd cc
taking (side, symbol.Notes) values waiting t v f = absurd cc
taking (side, symbol.EndNotes) values waiting t v f = absurd cc

part_seen : (note : Bool) (s : Symbol) (p : Part) → view_in note s ≡ part p → event_view note s ≡ part p
part_seen note (symbol.Take set) p v = absurd cc
part_seen note (symbol.Keep set) p v = absurd cc
part_seen note (symbol.Closing depth) p v = absurd cc
part_seen note (symbol.Part r) p v = v
part_seen note symbol.Notes p v = absurd cc
part_seen note symbol.EndNotes p v = absurd cc
part_seen note (symbol.Build k count) p v = absurd cc
part_seen note symbol.Join p v = absurd cc
part_seen note (symbol.Say w) p v = absurd cc
part_seen note (symbol.Paste between) p v = absurd cc
part_seen note symbol.Lower p v = absurd cc
part_seen note (symbol.Recall depth) p v = absurd cc
part_seen note symbol.Noted p v = absurd cc

to_front : {end : State → State} {ss : List Placed} {state last : State} {ts : List Token} → Derives reading_table end ss state ts last
    → (values : List Held) (waiting u : List (List ℕ)) (signs : List Sign) → begins_with_comment signs ≡ false → state ≡ state_of values waiting → ts ≡ tokens_from u signs → EndIs end signs
    → Front ss values waiting signs last.values
unfolding EndIs
to_front (ends {state = state}) values waiting u signs n s e x = by signs n e
  where
    by : (signs : List Sign) → begins_with_comment signs ≡ false → [] ≡ tokens_from u signs → Front [] values waiting signs state.values
    by [] n e = record { events = []; reads = subst (λ (st : State). Reads [] values [] st.values) (sym s) ends; attaches = dropped }
    by (comment text ∷ signs) n e = absurd cc
    by (token note lexeme ∷ signs) n e = absurd cc
to_front {end = end} (takes {s = s} {ss = ss} {t = t} {ts = ts} {state = state} {last = last} v f d) values waiting u signs n st e x = by signs n e x (λ values waiting u signs n st e x. to_front d values waiting u signs n st e x)
  where
    by : (signs : List Sign) → begins_with_comment signs ≡ false → t ∷ ts ≡ tokens_from u signs → (signs ≡ []) ⊎ (end ≡ end_of signs)
        → ((values : List Held) (waiting u : List (List ℕ)) (signs : List Sign) → begins_with_comment signs ≡ false → arrived reading_table end ts (taken s.1 state t.lexeme) ≡ state_of values waiting
        → ts ≡ tokens_from u signs → (signs ≡ []) ⊎ (end ≡ end_of signs) → Front ss values waiting signs last.values) → Front (s ∷ ss) values waiting signs last.values
    by [] n e x go = absurd cc
    by (comment text ∷ signs) n e x go = absurd cc
    by (token note lexeme ∷ rest) n e (inl z) go = absurd cc
    by (token note lexeme ∷ rest) n e (inr z) go =
        let own : t ≡ record { comments = u; note = note; lexeme = lexeme } = cc in
        let others : ts ≡ tokens_from [] rest = cc in
        let k = taking s values waiting t v (subst (λ state. reading_table.fits s state t ≡ true) st f) in
        let next : arrived reading_table end ts (taken s.1 state t.lexeme) ≡ state_of (event_taken s values (spelled t.note t.lexeme)) (waiting ++ leading rest) =
        ap (λ state. arrived reading_table end ts (taken s.1 state t.lexeme)) st ∙ ap (arrived reading_table end ts) k.2 ∙ ap (λ end. arrived reading_table end ts (state_of (event_taken s values (spelled t.note t.lexeme)) waiting)) z
        ∙ ap (λ ts. arrived reading_table (end_of rest) ts (state_of (event_taken s values (spelled t.note t.lexeme)) waiting)) others ∙ came_is rest (event_taken s values (spelled t.note t.lexeme)) waiting in
        let g = go (event_taken s values (spelled t.note t.lexeme)) (waiting ++ leading rest) (leading rest) (behind rest) (front_is rest) next (others ∙ tokens_behind [] rest) (end_behind end rest z) in
        let whole : Front (s ∷ ss) values waiting (token t.note t.lexeme ∷ rest) last.values = record {
          events = spelled t.note t.lexeme ∷ g.events;
          reads = takes k.0 k.1 (subst (λ vs. Reads ss vs g.events last.values) (sym (no_more g.events (event_taken s values (spelled t.note t.lexeme)))) g.reads);
          attaches = passed (attached_before waiting g.events rest g.attaches);
        } in
        subst (λ (t : Token). Front (s ∷ ss) values waiting (token t.note t.lexeme ∷ rest) last.values) own whole
to_front (acts {s = s} {ss = ss} {ts = ts} {state = state} {last = last} v d) values waiting u signs n st e x = by (acting s v) (λ values waiting st. to_front d values waiting u signs n st e x)
  where
    by : Acting s → ((values : List Held) (waiting : List (List ℕ)) → does s.1 state ≡ state_of values waiting → Front ss values waiting signs last.values) → Front (s ∷ ss) values waiting signs last.values
    by (on_values q) go =
        let g = go (values_after s.1 values) waiting (ap (does s.1) st ∙ quiet_does s.0 s.1 values waiting q) in
        record { events = g.events; reads = acts q g.reads; attaches = g.attaches }
    by (on_comments q h) go =
        let k = h values waiting in
        let g = go (event_taken s values (comments waiting)) [] (ap (does s.1) st ∙ k.1) in
        record {
          events = comments waiting ∷ g.events;
          reads = takes q k.0 (subst (λ vs. Reads ss vs g.events last.values) (sym (no_more g.events (event_taken s values (comments waiting)))) g.reads);
          attaches = attached n g.attaches;
        }
to_front (opens {s = s} {p = p} v m d) values waiting u signs n st e x = let g = to_front d values waiting u signs n st e x in record { events = g.events; reads = opens (part_seen s.0 s.1 p v) m g.reads; attaches = g.attaches }
to_front (omits {s = s} {p = p} v q d) values waiting u signs n st e x = let g = to_front d values waiting u signs n st e x in record { events = g.events; reads = omits (part_seen s.0 s.1 p v) q g.reads; attaches = g.attaches }

-- Signs are read as events are to which their comments are attached.
pub signs_are_events : {ss : List Placed} {last : State} (values : List Held) (waiting : List (List ℕ)) (signs : List Sign)
    → Derives reading_table (end_of signs) ss (arrived reading_table (end_of signs) (tokens_from [] signs) (state_of values waiting)) (tokens_from [] signs) last → Front ss values waiting signs last.values
unfolding EndIs
signs_are_events values waiting signs d =
    let g = to_front d values (waiting ++ leading signs) (leading signs) (behind signs) (front_is signs) (came_is signs values waiting) (tokens_behind [] signs) (end_behind (end_of signs) signs refl) in
    record { events = g.events; reads = g.reads; attaches = attached_before waiting g.events signs g.attaches }
