-- Reading by the table within the limits reads the texts within the limits, and stops at the first token that none of them admits.
use Rattle.std.proofs.Common.{◌≡◌, ℕ, ◌+◌, ◌≤◌, List, [], ◌∷◌, ◌++◌, refl, sym, ◌∙◌, ap, subst, Some, None, Bool, true, false, ◌&&◌, length, append-nil, arith, Result, Ok, Err, inl, inr}
use Rattle.std.specs.Prelude.{◌⊎◌, max}
use Rattle.std.proofs.lemmas.Bool.{and_parts, and_from}
use Rattle.std.proofs.lemmas.List.Folds.{list_all-append}
use Rattle.ada_tree.specs.declared.limits.TheConstants.{MOST_NESTED, MOST_NESTED_STEPS, MOST_OPEN}
use Rattle.ada_tree.specs.declared.node.Node.{Node}
use Rattle.ada_tree.specs.declared.part.Part.{Part as GrammarPart}
use Rattle.ada_tree.specs.Reading.{open_in, open_after}
use Rattle.ada_tree.specs.Tokens.{Sign, token}
use Rattle.reading_table.specs.declared.held.Held.{Held}
use Rattle.reading_table.specs.declared.need.Mass.TheVariants as mass
use Rattle.reading_table.specs.Heights.{height_of, masses, least}
use Rattle.reading_table.specs.Limits.{surely, fits, read, stopped, limited}
use Rattle.reading_table.specs.Machine.{hush, feed, finished, shifted, run}
use Rattle.reading_table.specs.Machine.{going_on as run_on}
use Rattle.reading_table.specs.Reading.{reading_table, deepest}
use Rattle.reading_table.specs.Rows.{Placed}
use Rattle.reading_table.specs.Signs.{tokens_from, tokens_of, trailing_from}
use Rattle.reading_table.specs.Spelled.{has_texts}
use Rattle.reading_table.specs.States.{Token, State}
use Rattle.reading_table.specs.Tables.{arrived}
use Rattle.reading_table.proofs.Conditions.{table_is_predictive}
use Rattle.reading_table.proofs.Sound.{run_derives}
use Rattle.reading_exact.specs.Whole.{is_sign, are_signs, whole_start, at_start, read_whole, GrammarReads}
use Rattle.reading_exact.proofs.Law.{is_read, is_derived}
use Rattle.reading_limits.specs.Viable.{ReadsWithin, GoesOnWithin, GoesOn, Refuses, Limits, StopsAt, IsLimitedAt, at_first, read_within, ReadsNode, TableReadsWithin}
use Rattle.reading_limits.proofs.Beginnings.{nothing_read, begins_part}
use Rattle.reading_limits.proofs.Ends.{hush_applied, run_reads_within}
use Rattle.reading_limits.proofs.Finishing.{count_along, open_along-append}
use Rattle.reading_limits.proofs.Opens.{open_along, open_in_is}
use Rattle.reading_limits.proofs.Readings.{start_state, Reached, reached_stands, continued, completed, low_node, fitting_is, reads_within}
use Rattle.reading_limits.proofs.Runs.{with_comments, Comes, front_arrives, arrived_is, shifted_ok, Passed, stays, goes, passed_none, standing, Stop, IsRefused, IsDeep, IsEnded, trace, fits_before}
use Rattle.reading_limits.proofs.Standing.{On, feed_fine}
use Rattle.reading_limits.proofs.Texts.{tokens-append, trailing-append, Split, Rest, split}

-- ---- what the grammar reads within the limits

pub starts_on : (signs : List Sign) → On ([], 0) (at_start signs)
starts_on signs = subst (λ vs. On ([], 0) record { values = vs; waiting = [] }) (sym (arrived_is (trailing_from [] signs) (tokens_of signs) nothing_read)) refl

few_open : (signs : List Sign) → open_in 0 signs ≤ MOST_OPEN → open_along 0 (tokens_of signs) ≤ MOST_OPEN
few_open signs h = subst (λ n. n ≤ MOST_OPEN) (open_in_is signs 0 []) h

pub is_read_within : (round : ℕ) (part : GrammarPart) (signs : List Sign) (node : Node) → has_texts part ≡ true → ReadsWithin round part signs node → TableReadsWithin round part signs node
is_read_within round part signs node h r =
    let t = is_read part signs node h r.reading in
    let tail = trailing_from [] signs in
    record {
      state = t.state;
      read_is = run_reads_within round tail (tokens_of signs) (whole_start part) (at_start signs) t.state ([], 0) 0 (begins_part part h).fine (starts_on signs) t.read (low_node round tail t.state node t.only r.nodes r.steps) (few_open signs r.opened);
      only = t.only;
    }

-- ---- where reading ends, on the text

-- the text is cut there
record CutAt (part : GrammarPart) (signs : List Sign) (pre post : List Token) (comments : List (List ℕ)) (stack : List Placed) (state : State) : Type 0 where
  cut : Split [] signs pre post comments
  fitting : are_signs cut.front ≡ true
  reached : Reached part pre comments stack state

cut_at : (part : GrammarPart) (signs : List Sign) (pre post : List Token) (comments : List (List ℕ)) (stack : List Placed) (state : State) → are_signs signs ≡ true → pre ++ post ≡ tokens_of signs → Comes comments (trailing_from [] signs) post
    → Passed (whole_start part) (at_start signs) pre comments stack state → CutAt part signs pre post comments stack state
cut_at part signs pre post comments stack state x w c p =
    let s = split signs [] pre post comments (sym w) c in
    let both : (are_signs s.front && are_signs s.rest) ≡ true = sym (list_all-append is_sign s.front s.rest) ∙ ap are_signs s.whole ∙ x in
    let start : at_start signs ≡ start_state comments pre = ap (start_state (trailing_from [] signs)) (sym w) ∙ front_arrives pre post comments (trailing_from [] signs) nothing_read c in
    record {
      cut = s;
      fitting = (and_parts (are_signs s.front) (are_signs s.rest) both).0;
      reached = subst (λ u. Passed (whole_start part) u pre comments stack state) start p;
    }

-- ---- what is read within the limits

passed_ok : {ss other : List Placed} {state between : State} {pre : List Token} {comments : List (List ℕ)} → Passed ss state pre comments other between → (post : List Token) (tail : List (List ℕ)) (last : State) → Comes comments tail post
    → run reading_table deepest (with_comments tail) other between post ≡ Ok last → run reading_table deepest (with_comments tail) ss state (pre ++ post) ≡ Ok last
passed_ok stays post tail last c h = h
passed_ok (goes {ss = ss} {state = state} {t = t} {ts = ts} {comments = comments} next e p) post tail last c h =
    let more : List Placed → State → Result State ℕ = λ ss state. run reading_table deepest (with_comments tail) ss (arrived reading_table (with_comments tail) (ts ++ post) state) (ts ++ post) in
    ap (λ o. run_on reading_table o more) e
    ∙ ap shifted (subst (λ u. run reading_table deepest (with_comments tail) next.0 u (ts ++ post) ≡ Ok last) (sym (front_arrives ts post comments tail next.1 c)) (passed_ok p post tail last c h))

-- the stack is as low as the limits say, where reading ends
record IsLow (round : ℕ) (stack : List Placed) (state : State) : Type 0 where
  nodes : round + (surely (standing stack state 0)).nodes ≤ MOST_NESTED
  steps : (surely (standing stack state 0)).steps ≤ MOST_NESTED_STEPS

pub is_derived_within : (round : ℕ) (part : GrammarPart) (signs : List Sign) (state : State) → (tokens_of signs ≡ [] → round ≤ MOST_NESTED) → has_texts part ≡ true → are_signs signs ≡ true → read_within round part signs ≡ read state → ReadsNode round part signs state
is_derived_within round part signs last small h x r = by (trace round (trailing_from [] signs) (tokens_of signs) (at_first part signs) (read last) r)
  where
    low_here : (pre : List Token) (comments : List (List ℕ)) (stack : List Placed) (state : State) (line : List Placed) → hush reading_table stack ≡ Some line → Reached part pre comments stack state
        → pre ++ [] ≡ tokens_of signs → (pre ≡ []) ⊎ (fits round (standing stack state (count_along 0 pre)) ≡ true) → IsLow round stack state
    low_here pre comments stack state line q p w (inr f) = let g = fitting_is round stack state (count_along 0 pre) f in record { nodes = g.nodes; steps = g.steps }
    low_here pre comments stack state line q p w (inl e) =
        let few : round ≤ MOST_NESTED = small (sym w ∙ append-nil pre ∙ e) in
        let z = passed_none p e in
        let begins = begins_part part h in
        let g = fitting_is 0 (whole_start part) nothing_read 0 begins.low in
        let flat = begins.flat line (ap (hush reading_table) z.0 ∙ q) in
        let first : IsLow round (whole_start part) nothing_read = record { nodes = omega (arith, flat, few); steps = g.steps } in
        let started : IsLow round (whole_start part) (start_state comments pre) = subst (λ vs. IsLow round (whole_start part) record { values = vs; waiting = (start_state comments pre).waiting }) (sym (arrived_is comments pre nothing_read)) record { nodes = first.nodes; steps = first.steps } in
        subst (λ ss. IsLow round ss state) z.0 (subst (λ u. IsLow round (whole_start part) u) z.1 started)

    at_end : (pre post : List Token) (comments : List (List ℕ)) (stack : List Placed) (state : State) → pre ++ post ≡ tokens_of signs → Comes comments (trailing_from [] signs) post → Passed (whole_start part) (at_start signs) pre comments stack state
        → (pre ≡ []) ⊎ (fits round (standing stack state (count_along 0 pre)) ≡ true) → open_along 0 pre ≤ max 0 MOST_OPEN → IsEnded last stack state (count_along 0 pre) post → ReadsNode round part signs last
    at_end pre (t ∷ post) comments stack state w c p l o why = absurd why
    at_end pre [] comments stack state w c p l o why =
        let tail = trailing_from [] signs in
        let cut = cut_at part signs pre [] comments stack state x w c p in
        let s = reached_stands part pre comments stack state h cut.reached in
        let done : run reading_table deepest (with_comments tail) stack state [] ≡ Ok last = ap (λ o. finished reading_table o state) why.1 ∙ ap Ok why.2 in
        let whole : read_whole part signs ≡ Ok last = subst (λ ts. run reading_table deepest (with_comments tail) (whole_start part) (at_start signs) ts ≡ Ok last) w (passed_ok p [] tail last c done) in
        let g = is_derived part signs last h x whole in
        let weight : mass.Tree (height_of g.node) ∷ [] ≡ least stack (masses state.values) =
        ap masses (sym g.only) ∙ ap (λ (u : State). masses u.values) (sym why.2) ∙ hush_applied stack why.0 state s.now.0 s.fine.out why.1 s.on s.fine.moves_to in
        let low = low_here pre comments stack state why.0 why.1 cut.reached w l in
        let along : open_in 0 signs ≡ open_along 0 pre = open_in_is signs 0 [] ∙ ap (open_along 0) (sym w ∙ append-nil pre) in
        record { node = g.node; only = g.only; reads = reads_within round part signs g.node stack state 0 g.reading weight low.nodes low.steps (omega (arith, along, o)) }

    by : Stop (IsEnded last) round (trailing_from [] signs) (at_first part signs) (tokens_of signs) (length (tokens_of signs)) → ReadsNode round part signs last
    by t = at_end t.pre t.post t.comments t.stack t.state t.whole t.comes t.passed t.low t.opened t.why

-- ---- what goes on

start_fits : (round : ℕ) (part : GrammarPart) → has_texts part ≡ true → GoesOnWithin round part [] → fits round (standing (whole_start part) nothing_read 0) ≡ true
start_fits round part h g =
    let r = g.reads in
    let t = is_read part g.more g.node h r.reading in
    let tail = trailing_from [] g.more in
    let d = run_derives reading_table (with_comments tail) table_is_predictive.quiet deepest (tokens_of g.more) (whole_start part) (at_start g.more) t.state t.read in
    fits_before round tail (whole_start part) nothing_read t.state (tokens_of g.more) ([], 0) 0 (begins_part part h).fine refl d (low_node round tail t.state g.node t.only r.nodes r.steps) (few_open g.more r.opened)

one_may_open : 1 ≤ MOST_OPEN
one_may_open = omega arith

-- a text up to here goes on, where the stack fits
fitting_goes_on : (round : ℕ) (part : GrammarPart) (front : List Sign) (pre : List Token) (comments : List (List ℕ)) (stack : List Placed) (state : State) → has_texts part ≡ true → are_signs front ≡ true → tokens_from [] front ≡ pre
    → trailing_from [] front ≡ comments → Reached part pre comments stack state → fits round (standing stack state (count_along 0 pre)) ≡ true → open_along 0 pre ≤ MOST_OPEN → GoesOnWithin round part front
fitting_goes_on round part front pre comments stack state h x e l p f o =
    let c = completed part front pre comments stack state h x e l p in
    let g = fitting_is round stack state (count_along 0 pre) f in
    let opens = g.opens in
    let opened = c.opened in
    record {
      more = c.more;
      fitting = c.fitting;
      node = c.node;
      reads = reads_within round part (front ++ c.more) c.node stack state (count_along 0 pre) c.reading c.weight g.nodes g.steps (omega (arith, opens, opened, o, one_may_open));
    }

pub some_text : (part : GrammarPart) → has_texts part ≡ true → GoesOnWithin 0 part []
some_text part h = fitting_goes_on 0 part [] [] [] (whole_start part) (start_state [] []) h refl refl refl stays (begins_part part h).low (omega arith)

goes_on_before : (round : ℕ) (part : GrammarPart) (front : List Sign) (pre : List Token) (comments : List (List ℕ)) (stack : List Placed) (state : State) → has_texts part ≡ true → are_signs front ≡ true → tokens_from [] front ≡ pre
    → trailing_from [] front ≡ comments → Reached part pre comments stack state → (pre ≡ []) ⊎ (fits round (standing stack state (count_along 0 pre)) ≡ true) → open_along 0 pre ≤ MOST_OPEN → (length pre ≡ 0 → GoesOnWithin round part []) → GoesOnWithin round part front
goes_on_before round part front pre comments stack state h x e l p (inr f) o g = fitting_goes_on round part front pre comments stack state h x e l p f o
goes_on_before round part front pre comments stack state h x e l p (inl n) o g =
    let z = passed_none p n in
    let at : List Placed → List Held → ℕ → Bool = λ ss vs count. fits round (standing ss record { values = vs; waiting = [] } count) in
    let first : at (whole_start part) (start_state comments pre).values 0 ≡ true = ap (λ vs. at (whole_start part) vs 0) (arrived_is comments pre nothing_read) ∙ start_fits round part h (g (ap length n)) in
    let here : at stack state.values 0 ≡ true = subst (λ ss. at ss state.values 0 ≡ true) z.0 (subst (λ (u : State). at (whole_start part) u.values 0 ≡ true) z.1 first) in
    fitting_goes_on round part front pre comments stack state h x e l p (subst (λ pre. at stack state.values (count_along 0 pre) ≡ true) (sym n) here) o

-- comments come before the first token of a text that goes on
pub comments_go_on : (round : ℕ) (part : GrammarPart) (front : List Sign) → has_texts part ≡ true → are_signs front ≡ true → tokens_of front ≡ [] → GoesOnWithin round part [] → GoesOnWithin round part front
comments_go_on round part front h x none text =
    goes_on_before round part front [] (trailing_from [] front) (whole_start part) (start_state (trailing_from [] front) []) h x none refl stays (inl refl) (omega arith) (λ zero. text)

-- ---- where reading stops

-- the token, with the comments before it
as_it_comes : (t : Token) (comments : List (List ℕ)) → t.comments ≡ comments → t ≡ record { comments = comments; note = t.note; lexeme = t.lexeme }
as_it_comes t comments c = ap (λ (w : List (List ℕ)). record { comments = w; note = t.note; lexeme = t.lexeme }) c

-- a fault is no answer
never : (r : Result State ℕ) (n : ℕ) (last : State) → r ≡ Err n → r ≡ Ok last → ⊥
never r n last e z = absurd (let y : Err n ≡ Ok last = sym e ∙ z in cc)

refuses : (part : GrammarPart) (front rest : List Sign) (pre post : List Token) (comments tail : List (List ℕ)) (stack : List Placed) (state : State) → has_texts part ≡ true → tokens_from [] front ≡ pre → trailing_from [] front ≡ comments
    → Reached part pre comments stack state → Comes comments tail post → Rest post rest → IsRefused stack state (count_along 0 pre) post → Refuses (GrammarReads part) front rest
refuses part front rest pre [] comments tail stack state h e l p c f why = subst (Refuses (GrammarReads part) front) (sym f) none
  where
    none : (node : Node) → GrammarReads part front node → ⊥
    none node g =
        let k = continued part front [] pre comments stack state node h e l p refl (subst (λ signs. GrammarReads part signs node) (sym (append-nil front)) g) in
        let z : finished reading_table None state ≡ Ok k.last = sym (ap (λ o. finished reading_table o state) why) ∙ k.runs in
        never (finished reading_table None state) 0 k.last refl z
refuses part front rest pre (t ∷ post) comments tail stack state h e l p c f why = subst (Refuses (GrammarReads part) front) (sym f.1) none
  where
    none : (other : List Sign) (node : Node) → GrammarReads part (front ++ token t.note t.lexeme ∷ other) node → ⊥
    none other node g =
        let k = continued part front (token t.note t.lexeme ∷ other) pre comments stack state node h e l p refl g in
        let n : feed reading_table deepest stack state record { comments = comments; note = t.note; lexeme = t.lexeme } ≡ None = subst (λ t. feed reading_table deepest stack state t ≡ None) (as_it_comes t comments c) why in
        let ts = tokens_from [] other in
        let tl = trailing_from comments (token t.note t.lexeme ∷ other) in
        let more : List Placed → State → Result State ℕ = λ ss state. run reading_table deepest (with_comments tl) ss (arrived reading_table (with_comments tl) ts state) ts in
        let z : run_on reading_table None more ≡ Ok k.last = sym (ap (λ o. run_on reading_table o more) n) ∙ k.runs in
        never (run_on reading_table None more) 0 k.last refl z

pub stops : (round : ℕ) (part : GrammarPart) (signs : List Sign) (n : ℕ) → has_texts part ≡ true → are_signs signs ≡ true → read_within round part signs ≡ stopped n → StopsAt round part signs n
stops round part signs n h x r = by (trace round (trailing_from [] signs) (tokens_of signs) (at_first part signs) (stopped n) r)
  where
    by : Stop IsRefused round (trailing_from [] signs) (at_first part signs) (tokens_of signs) n → StopsAt round part signs n
    by t =
        let c = cut_at part signs t.pre t.post t.comments t.stack t.state x t.whole t.comes t.passed in
        let s = c.cut in
        let few : open_along 0 t.pre ≤ MOST_OPEN = (let o = t.opened in omega (arith, o)) in
        record {
          front = s.front;
          rest = s.rest;
          whole = sym s.whole;
          before = ap length s.tokens ∙ t.many;
          goes_on = λ goes. goes_on_before round part s.front t.pre t.comments t.stack t.state h c.fitting s.tokens s.left c.reached t.low few (λ none. goes (sym t.many ∙ none));
          stops = refuses part s.front s.rest t.pre t.post t.comments (trailing_from [] signs) t.stack t.state h s.tokens s.left c.reached t.comes s.follows t.why;
        }

-- ---- where the limits stop it

passed_more : {ss other : List Placed} {state between : State} {pre : List Token} {comments : List (List ℕ)} → Passed ss state pre comments other between → (t : Token) (next : List Placed × State) → t.comments ≡ comments
    → feed reading_table deepest other between t ≡ Some next → Passed ss state (pre ++ t ∷ []) [] next.0 (with_comments [] next.1)
passed_more stays t next c f = goes next f stays
passed_more (goes {ts = ts} {comments = comments} between e p) t next c f =
    goes between e (subst (λ u. Passed between.0 u (ts ++ t ∷ []) [] next.0 (with_comments [] next.1)) (sym (front_arrives ts (t ∷ []) comments [] between.1 c)) (passed_more p t next c f))

deep_here : (round : ℕ) (part : GrammarPart) (front rest : List Sign) (pre post : List Token) (comments tail : List (List ℕ)) (stack : List Placed) (state : State) → has_texts part ≡ true → are_signs front ≡ true → are_signs rest ≡ true
    → tokens_from [] front ≡ pre → trailing_from [] front ≡ comments → Reached part pre comments stack state → Comes comments tail post → Rest post rest → IsDeep round stack state (count_along 0 pre) post → Limits (GrammarReads part) (ReadsWithin round part) front rest
deep_here round part front rest pre [] comments tail stack state h x y e l p c f why = absurd why
deep_here round part front rest pre (t ∷ post) comments tail stack state h x y e l p c f why = subst (Limits (GrammarReads part) (ReadsWithin round part) front) (sym f.1) (unlimited, none)
  where
    unlimited : GoesOn (GrammarReads part) (front ++ token t.note t.lexeme ∷ [])
    unlimited =
        let next = why.0 in
        let tokens : tokens_from [] (front ++ token t.note t.lexeme ∷ []) ≡ pre ++ t ∷ [] =
        tokens-append front (token t.note t.lexeme ∷ []) [] ∙ ap (λ ts. ts ++ tokens_from (trailing_from [] front) (token t.note t.lexeme ∷ [])) e ∙ ap (λ w. pre ++ tokens_from w (token t.note t.lexeme ∷ [])) l
        ∙ ap (λ (u : Token). pre ++ u ∷ []) (sym (as_it_comes t comments c)) in
        let trailing : trailing_from [] (front ++ token t.note t.lexeme ∷ []) ≡ [] = trailing-append front (token t.note t.lexeme ∷ []) [] in
        let reached : Reached part (pre ++ t ∷ []) [] next.0 (with_comments [] next.1) =
        subst (λ u. Passed (whole_start part) u (pre ++ t ∷ []) [] next.0 (with_comments [] next.1)) (sym (front_arrives pre (t ∷ []) comments [] nothing_read c)) (passed_more p t next c why.1) in
        let fit : are_signs (front ++ token t.note t.lexeme ∷ []) ≡ true =
        list_all-append is_sign front (token t.note t.lexeme ∷ []) ∙ and_from (are_signs front) (are_signs (token t.note t.lexeme ∷ [])) x
        (and_from (is_sign (token t.note t.lexeme)) true (and_parts (is_sign (token t.note t.lexeme)) (are_signs f.0) (ap are_signs (sym f.1) ∙ y)).0 refl) in
        let d = completed part (front ++ token t.note t.lexeme ∷ []) (pre ++ t ∷ []) [] next.0 (with_comments [] next.1) h fit tokens trailing reached in
        record { more = d.more; fitting = d.fitting; node = d.node; reads = d.reading }

    none : (other : List Sign) (node : Node) → ReadsWithin round part (front ++ token t.note t.lexeme ∷ other) node → ⊥
    none other node r =
        let next = why.0 in
        let k = continued part front (token t.note t.lexeme ∷ other) pre comments stack state node h e l p refl r.reading in
        let n : feed reading_table deepest stack state record { comments = comments; note = t.note; lexeme = t.lexeme } ≡ Some next = subst (λ t. feed reading_table deepest stack state t ≡ Some next) (as_it_comes t comments c) why.1 in
        let ts = tokens_from [] other in
        let tl = trailing_from comments (token t.note t.lexeme ∷ other) in
        let more : List Placed → State → Result State ℕ = λ ss state. run reading_table deepest (with_comments tl) ss (arrived reading_table (with_comments tl) ts state) ts in
        let z : shifted (more next.0 next.1) ≡ Ok k.last = sym (ap (λ o. run_on reading_table o more) n) ∙ k.runs in
        let d = run_derives reading_table (with_comments tl) table_is_predictive.quiet deepest ts next.0 (arrived reading_table (with_comments tl) ts next.1) k.last (shifted_ok (more next.0 next.1) k.last z) in
        let s = reached_stands part pre comments stack state h p in
        let b = feed_fine stack s.now state t next s.fine s.on why.1 in
        let tokens : tokens_of (front ++ token t.note t.lexeme ∷ other) ≡ pre ++ record { comments = comments; note = t.note; lexeme = t.lexeme } ∷ ts =
        tokens-append front (token t.note t.lexeme ∷ other) [] ∙ ap (λ ts. ts ++ tokens_from (trailing_from [] front) (token t.note t.lexeme ∷ other)) e ∙ ap (λ w. pre ++ tokens_from w (token t.note t.lexeme ∷ other)) l in
        let along : open_in 0 (front ++ token t.note t.lexeme ∷ other) ≡ open_along 0 (pre ++ record { comments = comments; note = t.note; lexeme = t.lexeme } ∷ ts) =
        open_in_is (front ++ token t.note t.lexeme ∷ other) 0 [] ∙ ap (open_along 0) tokens in
        let cut = open_along-append pre (record { comments = comments; note = t.note; lexeme = t.lexeme } ∷ ts) 0 in
        let o = r.opened in
        let few : open_along (open_after (count_along 0 pre) t.lexeme) ts ≤ MOST_OPEN = omega (arith, along, cut, o) in
        let fit = fits_before round tl next.0 next.1 k.last ts b.then_fine (open_after (count_along 0 pre) t.lexeme) b.fine b.on d (low_node round tl k.last node k.only r.nodes r.steps) few in
        let q : true ≡ false = sym fit ∙ why.2 in
        absurd cc

pub is_limited : (round : ℕ) (part : GrammarPart) (signs : List Sign) (n : ℕ) → has_texts part ≡ true → are_signs signs ≡ true → read_within round part signs ≡ limited n → IsLimitedAt round part signs n
is_limited round part signs n h x r = by (trace round (trailing_from [] signs) (tokens_of signs) (at_first part signs) (limited n) r)
  where
    by : Stop (IsDeep round) round (trailing_from [] signs) (at_first part signs) (tokens_of signs) n → IsLimitedAt round part signs n
    by t =
        let c = cut_at part signs t.pre t.post t.comments t.stack t.state x t.whole t.comes t.passed in
        let s = c.cut in
        let few : open_along 0 t.pre ≤ MOST_OPEN = (let o = t.opened in omega (arith, o)) in
        let both : (are_signs s.front && are_signs s.rest) ≡ true = sym (list_all-append is_sign s.front s.rest) ∙ ap are_signs s.whole ∙ x in
        record {
          front = s.front;
          rest = s.rest;
          whole = sym s.whole;
          before = ap length s.tokens ∙ t.many;
          goes_on = λ goes. goes_on_before round part s.front t.pre t.comments t.stack t.state h c.fitting s.tokens s.left c.reached t.low few (λ none. goes (sym t.many ∙ none));
          stops = deep_here round part s.front s.rest t.pre t.post t.comments (trailing_from [] signs) t.stack t.state h c.fitting (and_parts (are_signs s.front) (are_signs s.rest) both).1 s.tokens s.left c.reached t.comes s.follows t.why;
        }
