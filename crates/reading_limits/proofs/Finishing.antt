-- Whatever has been read goes on to something that is as low as the stack says, with as few parentheses; by tokens that there are in texts, without comments.
use Rattle.std.proofs.Common.{◌≡◌, ℕ, zero, suc, ◌+◌, ◌≤◌, List, [], ◌∷◌, ◌++◌, refl, sym, ◌∙◌, ap, subst, Option, Some, None, Bool, true, false, ◌&&◌, ◌||◌, append_assoc, append-nil, arith, eqb-true, leb-true}
use Rattle.std.specs.Prelude.{max, nat_eq, nat_le, slice_get, is_some, if◌then◌else◌}
use Rattle.std.specs.List.{list_all}
use Rattle.std.specs.Option.{option_map_or}
use Rattle.std.proofs.lemmas.Bool.{and_parts, and_from}
use Rattle.std.proofs.lemmas.List.Folds.{list_all-append}
use Rattle.ada_tree.specs.Nodes.{is_empty}
use Rattle.ada_tree.specs.Reading.{open_after}
use Rattle.lex_ada.specs.Rendered.{is_fitting}
use Rattle.reading_table.specs.declared.held.Held.{Held}
use Rattle.reading_table.specs.declared.held.Held.TheVariants as held
use Rattle.reading_table.specs.declared.rule.Rule.{Rule}
use Rattle.reading_table.specs.declared.symbol.Symbol.TheVariants as symbol
use Rattle.reading_table.specs.Heights.{masses, rise, least}
use Rattle.reading_table.specs.Limits.{open_behind, widest}
use Rattle.reading_table.specs.Machine.{or_else}
use Rattle.reading_table.specs.Reading.{reading_table, view_in}
use Rattle.reading_table.specs.Rows.{Placed, Part, need_of, rows, silence}
use Rattle.reading_table.specs.States.{Token, State, does, taken}
use Rattle.reading_table.specs.Tables.{View, token, done, part, Has, first, later, arrived, Derives, takes, acts, opens, omits}
use Rattle.reading_table.proofs.Faults.{AreExamples, can_be_at, can_be, rows_can_be, sample, same}
use Rattle.reading_table.proofs.Parts.{tests, of_each_part}
use Rattle.reading_table.proofs.Samples.{example, examples_serve, deepest_sample}
use Rattle.reading_limits.proofs.Bounds.{opened_by, weigh_as}
use Rattle.reading_limits.proofs.Changes.{change_done, change_token}
use Rattle.reading_limits.proofs.Conditions.{each_line, row_passes, silence_passes, is_sound, each_sound, chosen, least_row, each_least}
use Rattle.reading_limits.proofs.Needs.{is_high_enough, is_least, Capped, part_is}
use Rattle.reading_limits.proofs.Opens.{open_along, open_at_end, widest_from, of_symbol, opened_in, within_is, behind_is, opens_enough, each_opens_enough, closes_as, behind_token, behind_done}
use Rattle.reading_limits.proofs.Standing.{leads_to_types, at_rest, is_calm, calm_line, each_calm, calm_alone}
use Rattle.reading_limits.proofs.Steps.{are_on, suits, suits_on, suit}
use Rattle.reading_limits.proofs.Tags.{Tag, move, moves, Steps, steps, stepped, keeps_tags, moves_in_place}

-- ---- examples that there are in texts

abbrev pub is_plain_token : Token → Bool
is_plain_token t = is_fitting t.note t.lexeme && is_empty t.comments

abbrev fitting : Option Token → Option Token
fitting None = None
fitting (Some t) = if is_plain_token t then Some t else None

abbrev pub fitting_example : Placed → Option Token
fitting_example s = fitting (example s)

fitting_some : (o : Option Token) (t : Token) → fitting o ≡ Some t → (o ≡ Some t) × (is_plain_token t ≡ true)
fitting_some None t h = absurd cc
fitting_some (Some u) t h = by (is_plain_token u) refl h
  where
    by : (b : Bool) → is_plain_token u ≡ b → (if b then Some u else None) ≡ Some t → (Some u ≡ Some t) × (is_plain_token t ≡ true)
    by true e h = let z : u ≡ t = cc in (h, ap is_plain_token (sym z) ∙ e)
    by false e h = absurd cc

pub fitting_serve : AreExamples reading_table fitting_example
fitting_serve = record {
  serve = λ s t state h. examples_serve.serve s t state (fitting_some (example s) t h).0;
  plain = λ s t state h. examples_serve.plain s t state (fitting_some (example s) t h).0;
}

abbrev are_sampled : Part → Bool
are_sampled p = is_some (sample reading_table fitting_example deepest_sample p)

all_sampled : tests are_sampled ≡ true
all_sampled = refl

pub each_is_sampled : (p : Part) → is_some (sample reading_table fitting_example deepest_sample p) ≡ true
each_is_sampled p = of_each_part are_sampled all_sampled p

all_rows_can_be : tests (rows_can_be reading_table fitting_example) ≡ true
all_rows_can_be = refl

pub each_row_can_be : (p : Part) → rows_can_be reading_table fitting_example p ≡ true
each_row_can_be p = of_each_part (rows_can_be reading_table fitting_example) all_rows_can_be p

-- ---- the least lines end, with few parentheses: computed

abbrev lean_at : (Part → Bool) → View Part → Placed → Bool
lean_at f token s = is_some (fitting_example s)
lean_at f done s = true
lean_at f (part p) s = f p

abbrev pub lean_line : (Part → Bool) → List Placed → Bool
lean_line f [] = true
lean_line f (s ∷ ss) = lean_at f (view_in s.0 s.1) s && lean_line f ss

abbrev pub lean : ℕ → Part → Bool
lean zero p = false
lean (suc k) p = option_map_or (lean_line (lean k)) (chosen p) false

abbrev pub deepest_lean : ℕ
deepest_lean = 13

all_lean : tests (lean deepest_lean) ≡ true
all_lean = refl

each_lean : (p : Part) → lean deepest_lean p ≡ true
each_lean p = of_each_part (lean deepest_lean) all_lean p

-- how many more are open at once in it than before it, at most
abbrev upper : List Placed → ℕ
upper [] = 0
upper (s ∷ ss) = max (opened_in s.1) ((of_symbol s.1).1 + upper ss)

abbrev opens_least : Rule → List Placed → Bool
opens_least r line = nat_le (upper line) (need_of r).4 || (leads_to_types r && nat_le (widest 0 line) 1)

abbrev opens_few : Part → Bool
opens_few p = option_map_or (opens_least p.1) (chosen p) false

all_open_few : tests opens_few ≡ true
all_open_few = refl

each_opens_few : (p : Part) → option_map_or (opens_least p.1) (chosen p) false ≡ true
each_opens_few p = of_each_part opens_few all_open_few p

upper_is : (line : List Placed) (count : ℕ) → widest count line ≤ count + upper line
upper_is [] count = omega arith
upper_is (s ∷ ss) count = omega (arith, within_is count s.1, behind_is count s.1, upper_is ss (open_behind count s.1))

-- the chosen line opens no more than the part, or one alone
few_open : (note : Bool) (r : Rule) (line : List Placed) (count : ℕ) → opens_least r line ≡ true → at_rest count (symbol.Part r) ≡ true → widest count line ≤ max 1 (widest count ((note, symbol.Part r) ∷ []))
few_open note r line count h c = by (nat_le (upper line) (need_of r).4) refl h
  where
    at_none : (b : Bool) → leads_to_types r ≡ b → (b && nat_le (widest 0 line) 1) ≡ true → (if b then nat_eq count 0 else true) ≡ true → widest count line ≤ 1
    at_none true e h c = subst (λ n. widest n line ≤ 1) (sym (eqb-true count 0 c)) (leb-true (widest 0 line) 1 h)
    at_none false e h c = absurd cc

    by : (b : Bool) → nat_le (upper line) (need_of r).4 ≡ b → (b || (leads_to_types r && nat_le (widest 0 line) 1)) ≡ true → widest count line ≤ max 1 (widest count ((note, symbol.Part r) ∷ []))
    by true e h = let q = leb-true (upper line) (need_of r).4 e in omega (arith, q, upper_is line count)
    by false e h = let q = at_none (leads_to_types r) refl h c in omega (arith, q)

-- ---- the chosen line of a part

pub data Choice (p : Part) (line : List Placed) : Type 0 where
  a_row : Has (rows p) line → Choice p line
  silent : silence p ≡ Some line → Choice p line

got_has : {A : Type 0} → (xs : List A) (i : ℕ) (x : A) → slice_get xs i ≡ Some x → Has xs x
got_has [] zero x h = absurd cc
got_has [] (suc i) x h = absurd cc
got_has {A = A} (y ∷ xs) zero x h = let z : y ≡ x = cc in subst (λ (w : A). Has (y ∷ xs) w) z first
got_has (y ∷ xs) (suc i) x h = later (got_has xs i x h)

record Chosen (p : Part) (k : ℕ) : Type 0 where
  line : List Placed
  choice : Choice p line
  sound : is_sound p.1 line ≡ true
  enough : opens_enough p.1 line ≡ true
  calm : calm_line p.1 line ≡ true
  least_one : is_least p.1 line ≡ true
  few : opens_least p.1 line ≡ true
  ends : lean_line (lean k) line ≡ true

choice_passes : (test : List Placed → Bool) (p : Part) (line : List Placed) → each_line test p ≡ true → Choice p line → test line ≡ true
choice_passes test p line h (a_row m) = row_passes test p line h m
choice_passes test p line h (silent e) = silence_passes test p line h e

chosen_line : (p : Part) (k : ℕ) → lean (suc k) p ≡ true → Chosen p k
chosen_line p k h = by (chosen p) refl h (each_least p) (each_opens_few p)
  where
    choose : (o q : Option (List Placed)) (i : ℕ) (line : List Placed) → silence p ≡ o → slice_get (rows p) i ≡ q → or_else o q ≡ Some line → Choice p line
    choose (Some l) q i line e g h = silent (e ∙ h)
    choose None q i line e g h = a_row (got_has (rows p) i line (g ∙ h))

    by : (o : Option (List Placed)) → chosen p ≡ o → option_map_or (lean_line (lean k)) o false ≡ true → option_map_or (is_least p.1) o false ≡ true → option_map_or (opens_least p.1) o false ≡ true → Chosen p k
    by None e h l f = absurd cc
    by (Some line) e h l f =
        let c : Choice p line = choose (silence p) (slice_get (rows p) (least_row p.0 p.1)) (least_row p.0 p.1) line refl refl e in
        record {
          line = line;
          choice = c;
          sound = choice_passes (is_sound p.1) p line (each_sound p) c;
          enough = choice_passes (opens_enough p.1) p line (each_opens_enough p) c;
          calm = choice_passes (calm_line p.1) p line (each_calm p) c;
          least_one = l;
          few = f;
          ends = h;
        }

-- ---- tokens that finish a line

abbrev pub are_plain : List Token → Bool
are_plain ts = list_all is_plain_token ts

-- how many parentheses are open after the tokens
abbrev pub count_along : ℕ → List Token → ℕ
count_along count [] = count
count_along count (t ∷ ts) = count_along (open_after count t.lexeme) ts

pub open_along-append : (ts us : List Token) (count : ℕ) → open_along count (ts ++ us) ≡ max (open_along count ts) (open_along (count_along count ts) us)
open_along-append [] us count = omega (arith, along_from us count)
  where
    along_from : (us : List Token) (count : ℕ) → count ≤ open_along count us
    along_from [] count = omega arith
    along_from (u ∷ us) count = omega arith
open_along-append (t ∷ ts) us count = omega (arith, open_along-append ts us (open_after count t.lexeme))

pub count_along-append : (ts us : List Token) (count : ℕ) → count_along count (ts ++ us) ≡ count_along (count_along count ts) us
count_along-append [] us count = refl
count_along-append (t ∷ ts) us count = count_along-append ts us (open_after count t.lexeme)

pub none_waits : (comments : List (List ℕ)) → is_empty comments ≡ true → comments ≡ []
none_waits [] h = refl
none_waits (c ∷ cs) h = absurd cc

-- nothing comes with them
pub plain_arrive : (ts : List Token) → are_plain ts ≡ true → (state : State) → arrived reading_table (same reading_table fitting_example) ts state ≡ state
plain_arrive [] h state = refl
plain_arrive (t ∷ ts) h state =
    let e = none_waits t.comments (and_parts (is_fitting t.note t.lexeme) (is_empty t.comments) (and_parts (is_plain_token t) (are_plain ts) h).0).1 in
    ap (λ w. record state { waiting = state.waiting ++ w }) e ∙ ap (λ w. record state { waiting = w }) (append-nil state.waiting)

pub record Finish (line : List Placed) (state : State) (count : ℕ) (out : List Tag) : Type 0 where
  pub tokens : List Token
  pub after_it : State
  pub plain : are_plain tokens ≡ true
  pub does : (x : List Placed) (ts : List Token) (last : State) → are_plain ts ≡ true → Derives reading_table (same reading_table fitting_example) x after_it ts last
      → Derives reading_table (same reading_table fitting_example) (line ++ x) state (tokens ++ ts) last
  pub weight : masses after_it.values ≡ least line (masses state.values)
  pub suiting : suit after_it.values out ≡ true
  pub opened : open_along count tokens ≤ max 1 (widest count line)
  pub counted : count_along count tokens ≡ open_at_end count line

nothing_more : (state : State) (count : ℕ) (tags out : List Tag) → suit state.values tags ≡ true → moves [] tags ≡ Some out → Finish [] state count out
nothing_more state count tags out g h =
    let z : tags ≡ out = cc in
    record { tokens = []; after_it = state; plain = refl; does = λ x ts last p d. d; weight = refl; suiting = subst (λ t. suit state.values t ≡ true) z g; opened = omega arith; counted = refl }

finish_token : (s : Placed) (ss : List Placed) (state : State) (count : ℕ) (out : List Tag) (t : Token) → view_in s.0 s.1 ≡ token → fitting_example s ≡ Some t
    → masses (taken s.1 state t.lexeme).values ≡ rise s.1 (masses state.values) → Finish ss (taken s.1 state t.lexeme) (open_behind count s.1) out → Finish (s ∷ ss) state count out
finish_token s ss state count out t v e w f =
    let fits = fitting_serve.serve s t state e in
    let b = behind_token count s state t v fits in
    let c = b.0 in
    let i = b.1 in
    let o : open_along (open_after count t.lexeme) f.tokens ≡ open_along (open_behind count s.1) f.tokens = ap (λ n. open_along n f.tokens) (sym c) in
    let opens = f.opened in
    record {
      tokens = t ∷ f.tokens;
      after_it = f.after_it;
      plain = and_from (is_plain_token t) (are_plain f.tokens) (fitting_some (example s) t e).1 f.plain;
      does = λ x ts last p d.
          takes v fits (subst (λ u. Derives reading_table (same reading_table fitting_example) (ss ++ x) u (f.tokens ++ ts) last)
          (sym (plain_arrive (f.tokens ++ ts) (list_all-append is_plain_token f.tokens ts ∙ and_from (are_plain f.tokens) (are_plain ts) f.plain p) (taken s.1 state t.lexeme))) (f.does x ts last p d));
      weight = f.weight ∙ ap (least ss) w;
      suiting = f.suiting;
      opened = omega (arith, i, o, opens);
      counted = ap (λ n. count_along n f.tokens) (sym c) ∙ f.counted;
    }

finish_done : (s : Placed) (ss : List Placed) (state : State) (count : ℕ) (out : List Tag) → view_in s.0 s.1 ≡ done → masses (does s.1 state).values ≡ rise s.1 (masses state.values)
    → Finish ss (does s.1 state) (open_behind count s.1) out → Finish (s ∷ ss) state count out
finish_done s ss state count out v w f =
    let b = behind_done count s v in
    let o : open_along count f.tokens ≡ open_along (open_behind count s.1) f.tokens = ap (λ n. open_along n f.tokens) (sym b.0) in
    let opens = f.opened in
    record {
      tokens = f.tokens;
      after_it = f.after_it;
      plain = f.plain;
      does = λ x ts last p d. acts v (f.does x ts last p d);
      weight = f.weight ∙ ap (least ss) w;
      suiting = f.suiting;
      opened = omega (arith, o, opens);
      counted = ap (λ n. count_along n f.tokens) (sym b.0) ∙ f.counted;
    }

finish_both : (s : Placed) (ss : List Placed) (state : State) (count : ℕ) (between out : List Tag) (f : Finish (s ∷ []) state count between) → Finish ss f.after_it (open_behind count s.1) out → Finish (s ∷ ss) state count out
finish_both s ss state count between out f g =
    let a = open_along-append f.tokens g.tokens count in
    let c : open_along (count_along count f.tokens) g.tokens ≡ open_along (open_behind count s.1) g.tokens = ap (λ n. open_along n g.tokens) f.counted in
    let i = f.opened in
    let j = g.opened in
    let w = widest_from ss (open_behind count s.1) in
    record {
      tokens = f.tokens ++ g.tokens;
      after_it = g.after_it;
      plain = list_all-append is_plain_token f.tokens g.tokens ∙ and_from (are_plain f.tokens) (are_plain g.tokens) f.plain g.plain;
      does = λ x ts last p d.
          subst (λ u. Derives reading_table (same reading_table fitting_example) (s ∷ (ss ++ x)) state u last) (sym (append_assoc f.tokens g.tokens ts))
          (f.does (ss ++ x) (g.tokens ++ ts) last (list_all-append is_plain_token g.tokens ts ∙ and_from (are_plain g.tokens) (are_plain ts) g.plain p) (g.does x ts last p d));
      weight = g.weight ∙ ap (least ss) f.weight;
      suiting = g.suiting;
      opened = omega (arith, a, c, i, j, w);
      counted = count_along-append f.tokens g.tokens count ∙ ap (λ n. count_along n g.tokens) f.counted ∙ g.counted;
    }

FinishesParts : (Part → Bool) → Type 0
FinishesParts f = (s : Placed) (p : Part) (state : State) (count : ℕ) (tags between : List Tag) → view_in s.0 s.1 ≡ part p → f p ≡ true → suit state.values tags ≡ true → move s.1 tags ≡ Some between → at_rest count s.1 ≡ true
    → Finish (s ∷ []) state count between

finish_line : (f : Part → Bool) → FinishesParts f → (line : List Placed) (state : State) (count : ℕ) (tags out : List Tag) → lean_line f line ≡ true → suit state.values tags ≡ true → moves line tags ≡ Some out → is_calm count line ≡ true
    → Finish line state count out
unfolding FinishesParts
finish_line f hf [] state count tags out l g h c = nothing_more state count tags out g h
finish_line f hf (s ∷ ss) state count tags out l g h c = by (view_in s.0 s.1) refl (and_parts (lean_at f (view_in s.0 s.1) s) (lean_line f ss) l) (steps s ss tags out h) (finish_line f hf ss)
  where
    some_is : (o : Option Token) → is_some o ≡ true → (t : Token) × (o ≡ Some t)
    some_is None h = absurd cc
    some_is (Some t) h = (t, refl)

    by : (v : View Part) → view_in s.0 s.1 ≡ v → (lean_at f v s ≡ true) × (lean_line f ss ≡ true) → Steps s ss tags out
        → ((state : State) (count : ℕ) (tags out : List Tag) → lean_line f ss ≡ true → suit state.values tags ≡ true → moves ss tags ≡ Some out → is_calm count ss ≡ true → Finish ss state count out) → Finish (s ∷ ss) state count out
    by token v l p go =
        let e = some_is (fitting_example s) l.0 in
        let w = change_token s.0 s.1 state e.0.lexeme tags p.between v g p.step in
        finish_token s ss state count out e.0 v e.1 w.weight (go (taken s.1 state e.0.lexeme) (open_behind count s.1) p.between out l.1 w.suiting p.onward (and_parts (at_rest count s.1) (is_calm (open_behind count s.1) ss) c).1)
    by done v l p go =
        let w = change_done s.0 s.1 state tags p.between v g p.step in
        finish_done s ss state count out v w.weight (go (does s.1 state) (open_behind count s.1) p.between out l.1 w.suiting p.onward (and_parts (at_rest count s.1) (is_calm (open_behind count s.1) ss) c).1)
    by (part q) v l p go =
        let a = hf s q state count tags p.between v l.0 g p.step (and_parts (at_rest count s.1) (is_calm (open_behind count s.1) ss) c).0 in
        finish_both s ss state count p.between out a (go a.after_it (open_behind count s.1) p.between out l.1 a.suiting p.onward (and_parts (at_rest count s.1) (is_calm (open_behind count s.1) ss) c).1)

-- heights of nodes are capped
pub capped : (vs : List Held) → Capped (masses vs)
capped [] = tt
capped (held.Text text ∷ vs) = (record { nodes = omega arith; steps = omega arith }, capped vs)
capped (held.Comments comments ∷ vs) = (record { nodes = omega arith; steps = omega arith }, capped vs)
capped (held.Tree node ∷ vs) = (record { nodes = omega arith; steps = omega arith }, capped vs)

finish_part : (k : ℕ) → FinishesParts (lean k) → FinishesParts (lean (suc k))
unfolding FinishesParts
finish_part k hf s p state count tags between v l g h c =
    let e = opened_by s p v in
    subst (λ z. Finish (z ∷ []) state count between) (sym e) (by (subst (λ z. view_in z.0 z.1 ≡ part p) e v) (subst (λ (z : Placed). move z.1 tags ≡ Some between) e h) (subst (λ (z : Placed). at_rest count z.1 ≡ true) e c))
  where
    by : view_in s.0 (symbol.Part p.1) ≡ part p → move (symbol.Part p.1) tags ≡ Some between → at_rest count (symbol.Part p.1) ≡ true → Finish ((s.0, symbol.Part p.1) ∷ []) state count between
    by v h c =
        let r = p.1 in
        let q = chosen_line p k l in
        let kept = and_parts (keeps_tags r q.line) (is_high_enough r q.line) q.sound in
        let m = moves_in_place s.0 r q.line [] tags between kept.0 (stepped (s.0, symbol.Part r) [] tags between (Some between) h refl) in
        let f = finish_line (lean k) hf q.line state count tags m.gives q.ends g (subst (λ line. moves line tags ≡ Some m.gives) (append-nil q.line) m.moves_to) (calm_alone r q.line count q.calm c) in
        let w : least q.line (masses state.values) ≡ rise (symbol.Part r) (masses state.values) = part_is r q.line (masses state.values) tags between kept.0 kept.1 q.least_one (weigh_as state.values tags g) (capped state.values) h in
        let few = few_open s.0 r q.line count q.few c in
        let opens = f.opened in
        record {
          tokens = f.tokens;
          after_it = f.after_it;
          plain = f.plain;
          does = λ x ts last a d. unfolded q.choice (f.does x ts last a d);
          weight = f.weight ∙ w;
          suiting = are_on suits suits_on f.after_it.values m.gives between f.suiting m.serve;
          opened = omega (arith, few, opens);
          counted = f.counted ∙ closes_as r q.line count q.enough;
        }
      where
        unfolded : {line x : List Placed} {ts : List Token} {last : State} → Choice p line → Derives reading_table (same reading_table fitting_example) (line ++ x) state ts last
            → Derives reading_table (same reading_table fitting_example) ((s.0, symbol.Part p.1) ∷ x) state ts last
        unfolded (a_row m) d = opens v m d
        unfolded (silent e) d = omits v e d

finishes_parts : (k : ℕ) → FinishesParts (lean k)
unfolding FinishesParts
finishes_parts zero s p state count tags between v l g h c = absurd cc
finishes_parts (suc k) s p state count tags between v l g h c = finish_part k (finishes_parts k) s p state count tags between v l g h c

lean_stack : (ss : List Placed) → can_be reading_table fitting_example ss ≡ true → lean_line (lean deepest_lean) ss ≡ true
lean_stack [] h = refl
lean_stack (s ∷ ss) h = by (view_in s.0 s.1) refl (and_parts (can_be_at reading_table fitting_example (view_in s.0 s.1) s) (can_be reading_table fitting_example ss) h) (lean_stack ss)
  where
    by : (v : View Part) → view_in s.0 s.1 ≡ v → (can_be_at reading_table fitting_example v s ≡ true) × (can_be reading_table fitting_example ss ≡ true) → (can_be reading_table fitting_example ss ≡ true → lean_line (lean deepest_lean) ss ≡ true)
        → (lean_at (lean deepest_lean) v s && lean_line (lean deepest_lean) ss) ≡ true
    by token v p go = and_from (is_some (fitting_example s)) (lean_line (lean deepest_lean) ss) p.0 (go p.1)
    by done v p go = go p.1
    by (part q) v p go = and_from (lean deepest_lean q) (lean_line (lean deepest_lean) ss) (each_lean q) (go p.1)

-- A stack whose tokens have examples, whose symbols find what they want, and that is calm, is finished by tokens as low as it says.
pub finish_stack : (ss : List Placed) (state : State) (count : ℕ) (tags out : List Tag) → can_be reading_table fitting_example ss ≡ true → suit state.values tags ≡ true → moves ss tags ≡ Some out → is_calm count ss ≡ true → Finish ss state count out
finish_stack ss state count tags out l g h c = finish_line (lean deepest_lean) (finishes_parts deepest_lean) ss state count tags out (lean_stack ss l) g h c
