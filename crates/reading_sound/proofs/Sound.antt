-- What a line reads, its traces say.
use Rattle.std.proofs.Common.{◌≡◌, List, [], ◌∷◌, ◌++◌, refl, sym, ap, subst, Bool, true, Option, Some, None}
use Rattle.std.specs.List.{list_all, list_any, flat_map}
use Rattle.ada_tree.specs.Tokens.{Event}
use Rattle.reading_table.specs.declared.held.Held.{Held}
use Rattle.reading_table.specs.declared.symbol.Symbol.{Symbol}
use Rattle.reading_table.specs.declared.symbol.Symbol.TheVariants as symbol
use Rattle.reading_table.specs.Events.{event_view}
use Rattle.reading_table.specs.Rows.{Placed, Part, side_in}
use Rattle.reading_table.specs.Spelled.{are_events}
use Rattle.reading_table.specs.Tables.{View, part, Has, first, later}
use Rattle.reading_table.proofs.Parts.{of_each_part}
use Rattle.reading_table.proofs.Predictive.{all_has, any_has, has_flat}
use Rattle.text_laws.proofs.round_trip.Places.{both}
use Rattle.reading_sound.proofs.Conditions.{step, step_part, left_on, walk, lines, keeps, passes, all_pass}
use Rattle.reading_sound.proofs.Follows.{Follows, ended, reads, changes, enters}
use Rattle.reading_sound.proofs.Meaning.{Runs, RunsOne, nothing, last, loses}
use Rattle.reading_sound.proofs.Situations.{Situation, situations}
use Rattle.reading_sound.proofs.Stacks.{stripped, on_top, given}
use Rattle.reading_sound.proofs.Steps.{read_runs, act_runs, has_mapped}
use Rattle.reading_sound.proofs.Traces.{Stack, strip, gives}

-- what is left of the events is there in texts too
events_left : {line : List Placed} {v w : List Held} {e f : List Event} → Follows line v e w f → are_events e ≡ true → are_events f ≡ true
events_left ended x = x
events_left (reads t h d) x = events_left d (both x).1
events_left (changes t d) x = events_left d x
events_left (enters t m own d) x = events_left d (events_left own x)

-- ---- a part

-- what is read from each situation, one of those that it leaves says
abbrev Keeps : List Situation → List Held → List Event → List Held → List Event → Type 0
Keeps ss v e w f = (s : Situation) → Has ss s → (u : List Held) (g : List Event) → Runs s.0 u g v e → RunsOne s.1 u g w f

part_runs : {v w x : List Held} {e f g : List Event} (ss : List Situation) (stack : Stack) → Keeps ss w f x g → Runs stack v e w f → RunsOne (step_part ss stack) v e x g
part_runs [] stack k r = (_, first, last nothing loses)
part_runs {v = v} {x = x} {e = e} {g = g} (s ∷ ss) stack k r = by (strip s.0 stack) refl (part_runs ss stack (λ s m. k s (later m)) r)
  where
    by : (o : Option Stack) → strip s.0 stack ≡ o → RunsOne (step_part ss stack) v e x g → RunsOne (left_on o s.1 (step_part ss stack)) v e x g
    by None q other = other
    by (Some below) q other =
        let b = stripped s.0 stack below q r in
        let left = k s first b.values b.events b.over in
        (left.0 ++ below, has_mapped (λ stack. stack ++ below) s.1 left.0 left.1, on_top b.under left.2)

entered : {v w x : List Held} {e f g : List Event} (note : Bool) (s : Symbol) (p : Part) (stack : Stack) → event_view note s ≡ part p → Keeps (situations p) w f x g → Runs stack v e w f → RunsOne (step note s stack) v e x g
entered {w = w} {x = x} {f = f} {g = g} note (symbol.Part r) p stack q k run =
    let same : (side_in note r, r) ≡ p = part_inside q in
    part_runs (situations (side_in note r, r)) stack (subst (λ p. Keeps (situations p) w f x g) (sym same) k) run
  where
    part_inside : {p q : Part} → part p ≡ part q → p ≡ q
    part_inside {p = p} h = ap (λ v. inside v p) h
      where
        inside : View Part → Part → Part
        inside (part q) p = q
        inside _ p = p
entered note _ p stack q k run = absurd cc

-- of the stacks that a row leads to, each says what one does that the part leaves
one_left : {v w : List Held} {e f : List Event} (p : Part) (own : List Placed) (s : Situation) → Has (lines p) own → Has (situations p) s → RunsOne (walk own s.0) v e w f → RunsOne s.1 v e w f
one_left p own s m n r =
    let all : list_all (keeps own) (situations p) ≡ true = all_has (λ line. list_all (keeps line) (situations p)) (lines p) own (of_each_part passes all_pass p) m in
    let kept : keeps own s ≡ true = all_has (keeps own) (situations p) s all n in
    let left = any_has (gives r.0) s.1 (all_has (λ stack. list_any (gives stack) s.1) (walk own s.0) r.0 kept r.1) in
    (left.0, left.1, given r.0 left.0 left.2 r.2)

onward : {v w : List Held} {e f : List Event} (line : List Placed) (stacks : List Stack) (stack : Stack) → Has stacks stack → RunsOne (walk line stack) v e w f → RunsOne (flat_map (walk line) stacks) v e w f
onward line stacks stack m r = (r.0, has_flat (walk line) stacks stack r.0 m r.1, r.2)

-- ---- lines

pub sound : (line : List Placed) (stack : Stack) {v w x : List Held} {e f g : List Event} → Follows line w f x g → are_events f ≡ true → Runs stack v e w f → RunsOne (walk line stack) v e x g
sound [] stack ended h r = (stack, first, r)
sound (s ∷ line) stack (reads {ev = ev} t q d) h r =
    let next = read_runs s.0 s.1 ev t q (both h).0 r in
    onward line (step s.0 s.1 stack) next.0 next.1 (sound line next.0 d (both h).1 next.2)
sound (s ∷ line) stack (changes t d) h r =
    let next = act_runs s.0 s.1 t r in
    onward line (step s.0 s.1 stack) next.0 next.1 (sound line next.0 d h next.2)
sound (s ∷ line) stack (enters {p = p} {own = own} t m inner d) h r =
    let next = entered s.0 s.1 p stack t (λ situation n u g run. one_left p own situation m n (sound own situation.0 inner h run)) r in
    onward line (step s.0 s.1 stack) next.0 next.1 (sound line next.0 d (events_left inner h) next.2)
