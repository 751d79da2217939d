-- Texts of the grammar against the stacks that reading by the table leads to.
use Rattle.std.proofs.Common.{◌≡◌, ℕ, ◌+◌, ◌≤◌, List, [], ◌∷◌, ◌++◌, refl, sym, ◌∙◌, ap, subst, true, ◌&&◌, map, append-nil, arith, leb-true, Result, Ok}
use Rattle.std.specs.Prelude.{max, nat_le}
use Rattle.std.proofs.lemmas.Bool.{and_parts, and_from}
use Rattle.std.proofs.lemmas.List.Folds.{list_all-append}
use Rattle.ada_tree.specs.declared.limits.TheConstants.{MOST_NESTED, MOST_NESTED_STEPS, MOST_OPEN}
use Rattle.ada_tree.specs.declared.node.Node.{Node}
use Rattle.ada_tree.specs.declared.part.Part.{Part as GrammarPart}
use Rattle.ada_tree.specs.Nodes.{nesting_of, is_nested, is_step}
use Rattle.ada_tree.specs.Reading.{open_in}
use Rattle.ada_tree.specs.Tokens.{Sign}
use Rattle.reading_table.specs.declared.held.Held.TheVariants as held
use Rattle.reading_table.specs.declared.need.Mass.{Mass}
use Rattle.reading_table.specs.declared.need.Mass.TheVariants as mass
use Rattle.reading_table.specs.Heights.{height_of, masses, highest, least}
use Rattle.reading_table.specs.Limits.{surely, fits, widest}
use Rattle.reading_table.specs.Machine.{run}
use Rattle.reading_table.specs.Reading.{reading_table, deepest}
use Rattle.reading_table.specs.Rows.{Placed}
use Rattle.reading_table.specs.Signs.{tokens_from, tokens_of, trailing_from}
use Rattle.reading_table.specs.Spelled.{has_texts}
use Rattle.reading_table.specs.States.{Token, State}
use Rattle.reading_table.specs.Tables.{arrived, Derives, ends}
use Rattle.reading_table.proofs.Complete.{run_reads}
use Rattle.reading_table.proofs.Conditions.{table_is_predictive}
use Rattle.reading_table.proofs.Faults.{same}
use Rattle.reading_exact.specs.Whole.{is_sign, are_signs, whole_start, read_whole, GrammarReads, GivesNode}
use Rattle.reading_exact.proofs.Law.{is_read, is_derived}
use Rattle.reading_limits.specs.Viable.{ReadsWithin}
use Rattle.reading_limits.proofs.Beginnings.{nothing_read, begins_part}
use Rattle.reading_limits.proofs.Finishing.{fitting_example, count_along, open_along-append, Finish, finish_stack}
use Rattle.reading_limits.proofs.Opens.{open_along, open_in_is}
use Rattle.reading_limits.proofs.Runs.{with_comments, Comes, front_arrives, arrived_is, Passed, passed_derives, passed_runs, Stands, passed_stands, passed_can_be, standing, Low}
use Rattle.reading_limits.proofs.Standing.{On, is_calm}
use Rattle.reading_limits.proofs.Tags.{Tag}
use Rattle.reading_limits.proofs.Texts.{tokens-append, trailing-append, sign_of, marked, left_over, marked_comes, signs_tokens, signs_left, signs_fit, open_marked, marked_derives}

-- ---- reading from the start

-- the state in which reading begins, where these comments come next behind the tokens
abbrev pub start_state : List (List ℕ) → List Token → State
start_state comments pre = arrived reading_table (with_comments comments) pre nothing_read

abbrev pub read_from : GrammarPart → List (List ℕ) → List Token → Result State ℕ
read_from part tail ts = run reading_table deepest (with_comments tail) (whole_start part) (start_state tail ts) ts

-- the tokens are read up to here, from the start
abbrev pub Reached : GrammarPart → List Token → List (List ℕ) → List Placed → State → Type 0
Reached part pre comments stack state = Passed (whole_start part) (start_state comments pre) pre comments stack state

pub reached_stands : (part : GrammarPart) (pre : List Token) (comments : List (List ℕ)) (stack : List Placed) (state : State) → has_texts part ≡ true → Reached part pre comments stack state → Stands pre ([], 0) stack state
reached_stands part pre comments stack state h p = passed_stands p ([], 0) (begins_part part h).fine (subst (λ vs. On ([], 0) record { values = vs; waiting = [] }) (sym (arrived_is comments pre nothing_read)) refl)

-- ---- a text that goes on

-- the text before here, and how reading goes on
pub record Continued (stack : List Placed) (state : State) (tail : List (List ℕ)) (post : List Token) (node : Node) : Type 0 where
  pub last : State
  pub only : last.values ≡ held.Tree node ∷ []
  pub runs : run reading_table deepest (with_comments tail) stack state post ≡ Ok last

pub continued : (part : GrammarPart) (front rest : List Sign) (pre : List Token) (comments : List (List ℕ)) (stack : List Placed) (state : State) (node : Node) → has_texts part ≡ true
    → tokens_from [] front ≡ pre → trailing_from [] front ≡ comments → Reached part pre comments stack state → Comes comments (trailing_from comments rest) (tokens_from comments rest)
    → GrammarReads part (front ++ rest) node → Continued stack state (trailing_from comments rest) (tokens_from comments rest) node
continued part front rest pre comments stack state node h e l p c g =
    let r = is_read part (front ++ rest) node h g in
    let tail = trailing_from comments rest in
    let post = tokens_from comments rest in
    let tokens : tokens_of (front ++ rest) ≡ pre ++ post = tokens-append front rest [] ∙ ap (λ ts. ts ++ tokens_from (trailing_from [] front) rest) e ∙ ap (λ w. pre ++ tokens_from w rest) l in
    let trailing : trailing_from [] (front ++ rest) ≡ tail = trailing-append front rest [] ∙ ap (λ w. trailing_from w rest) l in
    let whole : read_from part (trailing_from [] (front ++ rest)) (tokens_of (front ++ rest)) ≡ Ok r.state = r.read in
    let here : read_from part tail (pre ++ post) ≡ Ok r.state = subst (λ ts. read_from part tail ts ≡ Ok r.state) tokens (subst (λ tl. read_from part tl (tokens_of (front ++ rest)) ≡ Ok r.state) trailing whole) in
    record {
      last = r.state;
      only = r.only;
      runs = passed_runs p post tail r.state c
          (subst (λ u. run reading_table deepest (with_comments tail) (whole_start part) u (pre ++ post) ≡ Ok r.state) (front_arrives pre post comments tail nothing_read c) here);
    }

-- ---- a text that is finished

pub record Completed (part : GrammarPart) (front : List Sign) (pre : List Token) (stack : List Placed) (state : State) : Type 0 where
  pub more : List Sign
  pub fitting : are_signs more ≡ true
  pub node : Node
  pub reading : GrammarReads part (front ++ more) node
  pub weight : mass.Tree (height_of node) ∷ [] ≡ least stack (masses state.values)
  pub opened : open_in 0 (front ++ more) ≤ max (open_along 0 pre) (max 1 (widest (count_along 0 pre) stack))

-- the node that is read, and how high it is
gives_weight : (part : GrammarPart) (signs : List Sign) (last : State) (ms : List Mass) (g : GivesNode part signs last) → masses last.values ≡ ms → mass.Tree (height_of g.node) ∷ [] ≡ ms
gives_weight part signs last ms g w = subst (λ vs. masses vs ≡ ms) g.only w

-- by tokens that finish the stack
completed_by : (part : GrammarPart) (front : List Sign) (pre : List Token) (comments : List (List ℕ)) (stack : List Placed) (state : State) (out : List Tag) → has_texts part ≡ true → are_signs front ≡ true → tokens_from [] front ≡ pre
    → trailing_from [] front ≡ comments → Reached part pre comments stack state → Finish stack state (count_along 0 pre) out → Completed part front pre stack state
completed_by part front pre comments stack state out h x e l p f =
    let more = map sign_of f.tokens in
    let tail = left_over comments f.tokens in
    let post = marked comments f.tokens in
    let here : Derives reading_table (same reading_table fitting_example) stack state f.tokens f.after_it =
    subst (λ ss. Derives reading_table (same reading_table fitting_example) ss state f.tokens f.after_it) (append-nil stack)
    (subst (λ ts. Derives reading_table (same reading_table fitting_example) (stack ++ []) state ts f.after_it) (append-nil f.tokens) (f.does [] [] f.after_it refl ends)) in
    let comes = marked_comes comments f.tokens in
    let whole = passed_derives p post tail f.after_it comes (marked_derives comments f.tokens stack state f.after_it here) in
    let start : start_state tail (pre ++ post) ≡ start_state comments pre = front_arrives pre post comments tail nothing_read comes in
    let reads : read_from part tail (pre ++ post) ≡ Ok f.after_it =
    subst (λ u. run reading_table deepest (with_comments tail) (whole_start part) u (pre ++ post) ≡ Ok f.after_it) (sym start)
    (run_reads reading_table deepest table_is_predictive (with_comments tail) (pre ++ post) (whole_start part) (start_state comments pre) f.after_it (begins_part part h).good whole) in
    let tokens : tokens_of (front ++ more) ≡ pre ++ post =
    tokens-append front more [] ∙ ap (λ ts. ts ++ tokens_from (trailing_from [] front) more) e ∙ ap (λ w. pre ++ tokens_from w more) l ∙ ap (λ ts. pre ++ ts) (signs_tokens f.tokens comments f.plain) in
    let trailing : trailing_from [] (front ++ more) ≡ tail = trailing-append front more [] ∙ ap (λ w. trailing_from w more) l ∙ signs_left f.tokens comments in
    let text : read_whole part (front ++ more) ≡ Ok f.after_it =
    subst (λ tl. read_from part tl (tokens_of (front ++ more)) ≡ Ok f.after_it) (sym trailing) (subst (λ ts. read_from part tail ts ≡ Ok f.after_it) (sym tokens) reads) in
    let fit : are_signs (front ++ more) ≡ true = list_all-append is_sign front more ∙ and_from (are_signs front) (are_signs more) x (signs_fit f.tokens f.plain) in
    let g = is_derived part (front ++ more) f.after_it h fit text in
    let along : open_in 0 (front ++ more) ≡ open_along 0 (pre ++ post) = open_in_is (front ++ more) 0 [] ∙ ap (open_along 0) tokens in
    let cut = open_along-append pre post 0 in
    let behind = open_marked (count_along 0 pre) comments f.tokens in
    let opens = f.opened in
    record {
      more = more;
      fitting = signs_fit f.tokens f.plain;
      node = g.node;
      reading = g.reading;
      weight = gives_weight part (front ++ more) f.after_it (least stack (masses state.values)) g f.weight;
      opened = omega (arith, along, cut, behind, opens);
    }

-- Whatever is read up to here goes on to a text of the grammar that is as low as the stack says.
pub completed : (part : GrammarPart) (front : List Sign) (pre : List Token) (comments : List (List ℕ)) (stack : List Placed) (state : State) → has_texts part ≡ true → are_signs front ≡ true
    → tokens_from [] front ≡ pre → trailing_from [] front ≡ comments → Reached part pre comments stack state → Completed part front pre stack state
completed part front pre comments stack state h x e l p =
    let s = reached_stands part pre comments stack state h p in
    let calm : is_calm (count_along 0 pre) stack ≡ true = subst (λ n. is_calm n stack ≡ true) s.counted s.fine.calm in
    completed_by part front pre comments stack state s.fine.out h x e l p
    (finish_stack stack state (count_along 0 pre) s.now.0 s.fine.out (passed_can_be p (begins_part part h).can) s.on s.fine.moves_to calm)

-- ---- within the limits

-- a node that is so low, and a text with so few parentheses
pub low_node : (round : ℕ) (tail : List (List ℕ)) (last : State) (node : Node) → last.values ≡ held.Tree node ∷ [] → round + nesting_of is_nested node ≤ MOST_NESTED → nesting_of is_step node ≤ MOST_NESTED_STEPS → Low round tail last
low_node round tail last node e n s =
    let a : (highest (masses last.values)).nodes ≡ (highest (mass.Tree (height_of node) ∷ [])).nodes = ap (λ vs. (highest (masses vs)).nodes) e in
    let b : (highest (masses last.values)).steps ≡ (highest (mass.Tree (height_of node) ∷ [])).steps = ap (λ vs. (highest (masses vs)).steps) e in
    record { nodes = omega (arith, a, n); steps = omega (arith, b, s) }

pub record Fitting (round : ℕ) (stack : List Placed) (state : State) (count : ℕ) : Type 0 where
  pub nodes : round + (surely (standing stack state count)).nodes ≤ MOST_NESTED
  pub steps : (surely (standing stack state count)).steps ≤ MOST_NESTED_STEPS
  pub opens : widest count stack ≤ MOST_OPEN

pub fitting_is : (round : ℕ) (stack : List Placed) (state : State) (count : ℕ) → fits round (standing stack state count) ≡ true → Fitting round stack state count
fitting_is round stack state count h =
    let s = standing stack state count in
    let p = and_parts (nat_le (round + (surely s).nodes) MOST_NESTED && nat_le (surely s).steps MOST_NESTED_STEPS) (nat_le (widest count stack) MOST_OPEN) h in
    let q = and_parts (nat_le (round + (surely s).nodes) MOST_NESTED) (nat_le (surely s).steps MOST_NESTED_STEPS) p.0 in
    record {
      nodes = leb-true (round + (surely s).nodes) MOST_NESTED q.0;
      steps = leb-true (surely s).steps MOST_NESTED_STEPS q.1;
      opens = leb-true (widest count stack) MOST_OPEN p.1;
    }

-- Where the stack fits, and no more parentheses have been open, the grammar reads the text within the limits.
pub reads_within : (round : ℕ) (part : GrammarPart) (signs : List Sign) (node : Node) (stack : List Placed) (state : State) (count : ℕ) → GrammarReads part signs node → mass.Tree (height_of node) ∷ [] ≡ least stack (masses state.values)
    → round + (surely (standing stack state count)).nodes ≤ MOST_NESTED → (surely (standing stack state count)).steps ≤ MOST_NESTED_STEPS → open_in 0 signs ≤ MOST_OPEN → ReadsWithin round part signs node
reads_within round part signs node stack state count g w n s o =
    let a : (highest (mass.Tree (height_of node) ∷ [])).nodes ≡ (surely (standing stack state count)).nodes = ap (λ ms. (highest ms).nodes) w in
    let b : (highest (mass.Tree (height_of node) ∷ [])).steps ≡ (surely (standing stack state count)).steps = ap (λ ms. (highest ms).steps) w in
    record { reading = g; nodes = omega (arith, a, n); steps = omega (arith, b, s); opened = o }
