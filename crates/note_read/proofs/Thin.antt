-- Reading on with bare values is reading on: how it ends is the same, and so are the numbers of nodes.
use Rattle.std.proofs.Common.{arith, ◌≡◌, ℕ, zero, suc, ◌+◌, ◌≤◌, min, List, [], ◌∷◌, ◌++◌, take, drop, map, refl, sym, ◌∙◌, ap, subst, Bool, true, false, not, ◌&&◌, Option, Some, None, option_map, if◌then◌else◌}
use Rattle.std.proofs.lemmas.Bool.{and_parts, leb-true, le-leb}
use Rattle.std.specs.Prelude.{bytes_eq, nat_le}
use Rattle.ada_tree.specs.declared.doc.Counts.{Counts}
use Rattle.ada_tree.specs.declared.kind.Kind.{Kind}
use Rattle.ada_tree.specs.declared.node.Node.{Node, Node-F, out-roll-Node}
use Rattle.ada_tree.specs.Nodes.{node_of, kind_of, text_of, is_step}
use Rattle.note_read.specs.Counted.{CountedOutcome, kept, too_many, ended_with, counted_from}
use Rattle.reading_machine.specs.Bare.{bare, count_in, is_tree, passes, counts_with, more_counts, bare_progress, thinned, lost_with, lost_in, greatest_count}
use Rattle.reading_machine.proofs.Counting.{done_count, bare_counts}
use Rattle.reading_table.specs.declared.held.Held.{Held}
use Rattle.reading_table.specs.declared.held.Held.TheVariants as held
use Rattle.reading_table.specs.declared.symbol.Symbol.{Symbol}
use Rattle.reading_table.specs.declared.symbol.Symbol.TheVariants as symbol
use Rattle.std.proofs.lemmas.List.Concat.{flat_map-cons}
use Rattle.lex_ada.specs.declared.token.Token.{Token as SourceToken}
use Rattle.lex_ada.specs.Meanings.{meaning, meanings, bytes_of}
use Rattle.reading_machine.specs.declared.lexeme.Token.{Token as ReadToken}
use Rattle.reading_machine.specs.declared.machine.Fed.TheVariants as fed_as
use Rattle.reading_machine.specs.declared.machine.Machine.{Machine}
use Rattle.reading_machine.specs.Lexemes.{lexeme_of, token_of}
use Rattle.reading_machine.specs.Machines.{FeedsWithin, progress_of, commented, with_comment, ended}
use Rattle.note_read.specs.Signs.{read_signs, ended_at, behind}
use Rattle.ada_tree.specs.Tokens.{Sign, token, comment, Lexeme}
use Rattle.ada_tree.specs.Reading.{open_after}
use Rattle.ada_tree.specs.Rendering.{lexeme_text}
use Rattle.reading_table.specs.declared.need.Mass.TheVariants as mass
use Rattle.reading_table.specs.Heights.{rise}
use Rattle.reading_table.specs.Limits.{Outcome, read, stopped, limited, later}
use Rattle.reading_table.specs.Machine.{lead, enter, perform_at, perform, performed, feed, hush, apply}
use Rattle.reading_table.specs.Reading.{reading_table, deepest, may_be}
use Rattle.reading_table.specs.Rows.{Part, Placed}
use Rattle.reading_table.specs.Tables.{View, token as is_token, done, part}
use Rattle.reading_table.specs.Weighed.{Weighed, weighed_table, Progress, with_token, at_next, is_within, within_limits}
use Rattle.reading_table.specs.States.{Token, closes, State, nodes_in, text_in, text_below, joined, pasted, lowered, noted, end_noted, does}

-- ---- values that differ in what reading doesn't look at

pub data Alike : List Held → List Held → Type 0 where
  none : Alike [] []
  texts : {text : List ℕ} {a b : List Held} → Alike a b → Alike (held.Text text ∷ a) (held.Text text ∷ b)
  comments : {notes : List (List ℕ)} {a b : List Held} → Alike a b → Alike (held.Comments notes ∷ a) (held.Comments notes ∷ b)
  trees : {x y : Node} {a b : List Held} → text_of x ≡ text_of y → Alike a b → Alike (held.Tree x ∷ a) (held.Tree y ∷ b)

text_made : (k : Kind) (text : List ℕ) (notes : List (List ℕ)) (kids : List Node) → text_of (node_of k text notes kids) ≡ text
text_made k text notes kids = ap (λ (l : Node-F Node). l.text) (out-roll-Node record { kind = k; text = text; notes = notes; kids = kids })

alike_bare : (vs : List Held) → Alike vs (map bare vs)
alike_bare [] = none
alike_bare (held.Text text ∷ vs) = texts (alike_bare vs)
alike_bare (held.Comments notes ∷ vs) = comments (alike_bare vs)
alike_bare (held.Tree node ∷ vs) = trees (sym (text_made (kind_of node) (text_of node) [] [])) (alike_bare vs)

alike_take : (n : ℕ) (a b : List Held) → Alike a b → Alike (take n a) (take n b)
alike_take zero a b h = none
alike_take (suc n) _ _ none = none
alike_take (suc n) _ _ (texts {text} {a} {b} h) = texts (alike_take n a b h)
alike_take (suc n) _ _ (comments {notes} {a} {b} h) = comments (alike_take n a b h)
alike_take (suc n) _ _ (trees {x} {y} {a} {b} e h) = trees e (alike_take n a b h)

alike_drop : (n : ℕ) (a b : List Held) → Alike a b → Alike (drop n a) (drop n b)
alike_drop zero a b h = h
alike_drop (suc n) _ _ none = none
alike_drop (suc n) _ _ (texts {text} {a} {b} h) = alike_drop n a b h
alike_drop (suc n) _ _ (comments {notes} {a} {b} h) = alike_drop n a b h
alike_drop (suc n) _ _ (trees {x} {y} {a} {b} e h) = alike_drop n a b h

alike_text : (a b : List Held) → Alike a b → text_in a ≡ text_in b
alike_text _ _ none = refl
alike_text _ _ (texts {text} {a} {b} h) = refl
alike_text _ _ (comments {notes} {a} {b} h) = alike_text a b h
alike_text _ _ (trees {x} {y} {a} {b} e h) = alike_text a b h

alike_below : (n : ℕ) (a b : List Held) → Alike a b → text_below n a ≡ text_below n b
alike_below n _ _ none = refl
alike_below zero _ _ (texts {text} {a} {b} h) = refl
alike_below zero _ _ (comments {notes} {a} {b} h) = refl
alike_below zero _ _ (trees {x} {y} {a} {b} e h) = e
alike_below (suc n) _ _ (texts {text} {a} {b} h) = alike_below n a b h
alike_below (suc n) _ _ (comments {notes} {a} {b} h) = alike_below n a b h
alike_below (suc n) _ _ (trees {x} {y} {a} {b} e h) = alike_below n a b h

-- nodes that get other parts keep their texts
regrown : (x y : Node) (k l : Kind) (s t : List (List ℕ)) (xs ys : List Node) (a b : List Held) → text_of x ≡ text_of y → Alike a b → Alike (held.Tree (node_of k (text_of x) s xs) ∷ a) (held.Tree (node_of l (text_of y) t ys) ∷ b)
regrown x y k l s t xs ys a b e h = trees (text_made k (text_of x) s xs ∙ e ∙ sym (text_made l (text_of y) t ys)) h

alike_joined : (a b : List Held) → Alike a b → Alike (joined a) (joined b)
alike_joined _ _ (trees e (trees {x} {y} {a} {b} f h)) = regrown x y _ _ _ _ _ _ a b f h
alike_joined _ _ none = none
alike_joined _ _ (texts {text} {a} {b} h) = texts h
alike_joined _ _ (comments {notes} {a} {b} h) = comments h
alike_joined _ _ (trees e none) = trees e none
alike_joined _ _ (trees e (texts {text} {a} {b} h)) = trees e (texts h)
alike_joined _ _ (trees e (comments {notes} {a} {b} h)) = trees e (comments h)

alike_pasted : (between : ℕ) (a b : List Held) → Alike a b → Alike (pasted between a) (pasted between b)
alike_pasted between _ _ (texts (texts {text} {a} {b} h)) = texts h
alike_pasted between _ _ none = none
alike_pasted between _ _ (trees {x} {y} {a} {b} e h) = trees e h
alike_pasted between _ _ (comments {notes} {a} {b} h) = comments h
alike_pasted between _ _ (texts none) = texts none
alike_pasted between _ _ (texts (trees {x} {y} {a} {b} e h)) = texts (trees e h)
alike_pasted between _ _ (texts (comments {notes} {a} {b} h)) = texts (comments h)

alike_lowered : (a b : List Held) → Alike a b → Alike (lowered a) (lowered b)
alike_lowered _ _ none = none
alike_lowered _ _ (texts {text} {a} {b} h) = texts h
alike_lowered _ _ (trees {x} {y} {a} {b} e h) = trees e h
alike_lowered _ _ (comments {notes} {a} {b} h) = comments h

alike_noted : (a b : List Held) → Alike a b → Alike (noted a) (noted b)
alike_noted _ _ (trees {x} {y} e (comments h)) = regrown x y _ _ _ _ _ _ _ _ e h
alike_noted _ _ none = none
alike_noted _ _ (texts {text} {a} {b} h) = texts h
alike_noted _ _ (comments {notes} {a} {b} h) = comments h
alike_noted _ _ (trees e none) = trees e none
alike_noted _ _ (trees {x} {y} e (texts h)) = trees e (texts h)
alike_noted _ _ (trees {x} {y} e (trees f h)) = trees e (trees f h)

alike_end_noted : (own : List (List ℕ)) (a b : List Held) → Alike a b → Alike (end_noted own a) (end_noted own b)
alike_end_noted own _ _ (trees {x} {y} {a} {b} e h) = regrown x y _ _ _ _ _ _ _ _ e h
alike_end_noted own _ _ none = none
alike_end_noted own _ _ (texts {text} {a} {b} h) = texts h
alike_end_noted own _ _ (comments {notes} {a} {b} h) = comments h

alike_built : (k : Kind) (n : ℕ) (a b : List Held) → Alike a b
    → Alike (held.Tree (node_of k (text_in (take n a)) [] (nodes_in (take n a))) ∷ drop n a) (held.Tree (node_of k (text_in (take n b)) [] (nodes_in (take n b))) ∷ drop n b)
alike_built k n a b h =
    trees (text_made k (text_in (take n a)) [] (nodes_in (take n a)) ∙ alike_text (take n a) (take n b) (alike_take n a b h) ∙ sym (text_made k (text_in (take n b)) [] (nodes_in (take n b)))) (alike_drop n a b h)

alike_text_below : (n : ℕ) (a b : List Held) → Alike a b → Alike (held.Text (text_below n a) ∷ a) (held.Text (text_below n b) ∷ b)
alike_text_below n a b h = subst (λ text. Alike (held.Text (text_below n a) ∷ a) (held.Text text ∷ b)) (alike_below n a b h) (texts h)

-- what a symbol does, where the same comments wait
pub record AlikeStates (a b : State) : Type 0 where
  pub values : Alike a.values b.values
  pub waiting : a.waiting ≡ b.waiting

alike_done : (s : Symbol) (v w : List Held) (waiting : List (List ℕ)) → Alike v w → AlikeStates (does s record { values = v; waiting = waiting }) (does s record { values = w; waiting = waiting })
alike_done (symbol.Build k count) v w ns h = record { values = alike_built k count v w h; waiting = refl }
alike_done symbol.Join v w ns h = record { values = alike_joined v w h; waiting = refl }
alike_done (symbol.Say word) v w ns h = record { values = texts h; waiting = refl }
alike_done (symbol.Paste between) v w ns h = record { values = alike_pasted between v w h; waiting = refl }
alike_done symbol.Lower v w ns h = record { values = alike_lowered v w h; waiting = refl }
alike_done (symbol.Recall depth) v w ns h = record { values = alike_text_below depth v w h; waiting = refl }
alike_done symbol.Notes v w ns h = record { values = comments h; waiting = refl }
alike_done symbol.Noted v w ns h = record { values = alike_noted v w h; waiting = refl }
alike_done symbol.EndNotes v w ns h = record { values = alike_end_noted ns v w h; waiting = refl }
alike_done (symbol.Take set) v w ns h = record { values = h; waiting = refl }
alike_done (symbol.Keep set) v w ns h = record { values = h; waiting = refl }
alike_done (symbol.Closing depth) v w ns h = record { values = h; waiting = refl }
alike_done (symbol.Part r) v w ns h = record { values = h; waiting = refl }

same_closing : (s : Symbol) (v w : State) (lexeme : Lexeme) → Alike v.values w.values → closes s v lexeme ≡ closes s w lexeme
same_closing (symbol.Closing depth) v w lexeme h = ap (λ text. bytes_eq (lexeme_text lexeme) text) (alike_below depth v.values w.values h)
same_closing (symbol.Build k count) v w lexeme h = refl
same_closing symbol.Join v w lexeme h = refl
same_closing (symbol.Say word) v w lexeme h = refl
same_closing (symbol.Paste between) v w lexeme h = refl
same_closing symbol.Lower v w lexeme h = refl
same_closing (symbol.Recall depth) v w lexeme h = refl
same_closing symbol.Notes v w lexeme h = refl
same_closing symbol.Noted v w lexeme h = refl
same_closing symbol.EndNotes v w lexeme h = refl
same_closing (symbol.Take set) v w lexeme h = refl
same_closing (symbol.Keep set) v w lexeme h = refl
same_closing (symbol.Part r) v w lexeme h = refl

-- ---- reading on

-- One state has so many nodes more than the other, and at least so many.
module _ (more_trees more_steps least_trees least_steps : ℕ) where
  record Grown (v w : Weighed) : Type 0 where
    pub values : Alike v.state.values w.state.values
    pub waiting : v.state.waiting ≡ w.state.waiting
    pub masses : v.masses ≡ w.masses
    pub trees : count_in is_tree v.state.values ≡ more_trees + count_in is_tree w.state.values
    pub steps : count_in is_step v.state.values ≡ more_steps + count_in is_step w.state.values
    pub some_trees : least_trees ≤ count_in is_tree v.state.values
    pub some_steps : least_steps ≤ count_in is_step v.state.values

  data GrownNext : Option (List Placed × Weighed) → Option (List Placed × Weighed) → Type 0 where
    neither : GrownNext None None
    both : {ss : List Placed} {v w : Weighed} → Grown v w → GrownNext (Some (ss, v)) (Some (ss, w))

  data GrownOutcome : Outcome → Outcome → Type 0 where
    both_read : {v w : Weighed} → Grown v w → GrownOutcome (read v.state) (read w.state)
    both_stopped : (n : ℕ) → GrownOutcome (stopped n) (stopped n)
    both_limited : (n : ℕ) → GrownOutcome (limited n) (limited n)

  grown_done : (s : Placed) (v w : Weighed) → Grown v w → Grown (weighed_table.does s v) (weighed_table.does s w)
  grown_done s v w h =
      let alike : AlikeStates (does s.1 v.state) (does s.1 w.state) =
      subst (λ ns. AlikeStates (does s.1 v.state) (does s.1 record { values = w.state.values; waiting = ns })) h.waiting (alike_done s.1 v.state.values w.state.values v.state.waiting h.values) in
      let tree_v = done_count is_tree s.1 v.state in
      let tree_w = done_count is_tree s.1 w.state in
      let step_v = done_count is_step s.1 v.state in
      let step_w = done_count is_step s.1 w.state in
      let trees = h.trees in
      let steps = h.steps in
      let some_trees = h.some_trees in
      let some_steps = h.some_steps in
      record {
        values = alike.values;
        waiting = alike.waiting;
        masses = ap (rise s.1) h.masses;
        trees = omega (arith, tree_v, tree_w, trees);
        steps = omega (arith, step_v, step_w, steps);
        some_trees = omega (arith, tree_v, some_trees);
        some_steps = omega (arith, step_v, some_steps);
      }

  with_text : (text : List ℕ) (v w : Weighed) → Grown v w
      → Grown record { state = record { values = held.Text text ∷ v.state.values; waiting = v.state.waiting }; masses = mass.Text ∷ v.masses } record { state = record { values = held.Text text ∷ w.state.values; waiting = w.state.waiting }; masses = mass.Text ∷ w.masses }
  with_text text v w h = record {
    values = texts h.values;
    waiting = h.waiting;
    masses = ap (λ ms. mass.Text ∷ ms) h.masses;
    trees = h.trees;
    steps = h.steps;
    some_trees = h.some_trees;
    some_steps = h.some_steps;
  }

  risen : (s : Symbol) (v w : Weighed) → Grown v w → Grown record { state = v.state; masses = rise s v.masses } record { state = w.state; masses = rise s w.masses }
  risen s v w h = record {
    values = h.values;
    waiting = h.waiting;
    masses = ap (rise s) h.masses;
    trees = h.trees;
    steps = h.steps;
    some_trees = h.some_trees;
    some_steps = h.some_steps;
  }

  grown_taken : (note : Bool) (s : Symbol) (t : Token) (v w : Weighed) → Grown v w → Grown (weighed_table.taken (note, s) v t) (weighed_table.taken (note, s) w t)
  grown_taken note (symbol.Keep set) t v w h = with_text (lexeme_text t.lexeme) v w h
  grown_taken note (symbol.Build k count) t v w h = risen (symbol.Build k count) v w h
  grown_taken note symbol.Join t v w h = risen symbol.Join v w h
  grown_taken note (symbol.Say word) t v w h = risen (symbol.Say word) v w h
  grown_taken note (symbol.Paste between) t v w h = risen (symbol.Paste between) v w h
  grown_taken note symbol.Lower t v w h = risen symbol.Lower v w h
  grown_taken note (symbol.Recall depth) t v w h = risen (symbol.Recall depth) v w h
  grown_taken note symbol.Notes t v w h = risen symbol.Notes v w h
  grown_taken note symbol.Noted t v w h = risen symbol.Noted v w h
  grown_taken note symbol.EndNotes t v w h = risen symbol.EndNotes v w h
  grown_taken note (symbol.Take set) t v w h = risen (symbol.Take set) v w h
  grown_taken note (symbol.Closing depth) t v w h = risen (symbol.Closing depth) v w h
  grown_taken note (symbol.Part r) t v w h = risen (symbol.Part r) v w h

  grown_performed : (line : List Placed) (v w : Weighed) (t : Token) → Grown v w → GrownNext (perform weighed_table line v t) (perform weighed_table line w t)
  grown_performed [] v w t h = neither
  grown_performed ((note, s) ∷ ss) v w t h = by_view (reading_table.view (note, s)) (grown_performed ss (weighed_table.does (note, s) v) (weighed_table.does (note, s) w) t (grown_done (note, s) v w h))
    where
      by_fits : (a b : Bool) → a ≡ b → GrownNext (if a then Some (ss, weighed_table.taken (note, s) v t) else None) (if b then Some (ss, weighed_table.taken (note, s) w t) else None)
      by_fits true true e = both (grown_taken note s t v w h)
      by_fits false false e = neither
      by_fits true false e = absurd cc
      by_fits false true e = absurd cc

      by_view : (view : View Part) → GrownNext (perform weighed_table ss (weighed_table.does (note, s) v) t) (perform weighed_table ss (weighed_table.does (note, s) w) t)
          → GrownNext (perform_at weighed_table view (note, s) ss v t (perform weighed_table ss (weighed_table.does (note, s) v) t))
          (perform_at weighed_table view (note, s) ss w t (perform weighed_table ss (weighed_table.does (note, s) w) t))
      by_view is_token rest = by_fits (weighed_table.fits (note, s) v t) (weighed_table.fits (note, s) w t) (ap (λ b. may_be (note, s) t && b) (same_closing s v.state w.state t.lexeme h.values))
      by_view done rest = rest
      by_view (part p) rest = neither

  grown_fed : (ss : List Placed) (v w : Weighed) (t : Token) → Grown v w → GrownNext (feed weighed_table deepest ss v t) (feed weighed_table deepest ss w t)
  grown_fed ss v w t h = by (lead weighed_table (enter weighed_table deepest) t ss)
    where
      by : (o : Option (List Placed)) → GrownNext (performed weighed_table o v t) (performed weighed_table o w t)
      by None = neither
      by (Some line) = grown_performed line v w t h

  grown_applied : (line : List Placed) (v w : Weighed) → Grown v w → Grown (apply weighed_table line v) (apply weighed_table line w)
  grown_applied [] v w h = h
  grown_applied (s ∷ ss) v w h = grown_applied ss (weighed_table.does s v) (weighed_table.does s w) (grown_done s v w h)

  grown_ended : (ss : List Placed) (v w : Weighed) → Grown v w → GrownOutcome (ended_at (ended ss v)) (ended_at (ended ss w))
  grown_ended ss v w h = by (hush weighed_table ss)
    where
      by : (o : Option (List Placed)) → GrownOutcome (ended_at (option_map (λ line. apply weighed_table line v) o)) (ended_at (option_map (λ line. apply weighed_table line w) o))
      by None = both_stopped 0
      by (Some line) = both_read (grown_applied line v w h)

  grown_later : (a b : Outcome) → GrownOutcome a b → GrownOutcome (later a) (later b)
  grown_later _ _ (both_read h) = both_read h
  grown_later _ _ (both_stopped m) = both_stopped (suc m)
  grown_later _ _ (both_limited m) = both_limited (suc m)

  grown_behind : (n : ℕ) (a b : Outcome) → GrownOutcome a b → GrownOutcome (behind n a) (behind n b)
  grown_behind n _ _ (both_read h) = both_read h
  grown_behind n _ _ (both_stopped m) = both_stopped (n + m)
  grown_behind n _ _ (both_limited m) = both_limited (n + m)

  abbrev standing : List Placed → ℕ → Weighed → Progress
  standing ss count v = record { stack = ss; weighed = v; parentheses = count }

  grown_commented : (text : List ℕ) (v w : Weighed) → Grown v w → Grown (with_comment text v) (with_comment text w)
  grown_commented text v w h = record {
    values = h.values;
    waiting = ap (λ ns. ns ++ text ∷ []) h.waiting;
    masses = h.masses;
    trees = h.trees;
    steps = h.steps;
    some_trees = h.some_trees;
    some_steps = h.some_steps;
  }

  grown_read : (round : ℕ) (signs : List Sign) (ss : List Placed) (count : ℕ) (v w : Weighed) → Grown v w → GrownOutcome (read_signs round (standing ss count v) signs) (read_signs round (standing ss count w) signs)
  grown_read round [] ss count v w h = grown_ended ss v w h
  grown_read round (comment text ∷ signs) ss count v w h = grown_read round signs ss count (with_comment text v) (with_comment text w) (grown_commented text v w h)
  grown_read round (token note lexeme ∷ signs) ss count v w h =
      by_next (feed weighed_table deepest ss v record { comments = []; note = note; lexeme = lexeme }) (feed weighed_table deepest ss w record { comments = []; note = note; lexeme = lexeme }) (grown_fed ss v w record { comments = []; note = note; lexeme = lexeme } h) (grown_read round signs)
    where
      Goes : Type 0
      Goes = (ss : List Placed) (count : ℕ) (v w : Weighed) → Grown v w → GrownOutcome (read_signs round (standing ss count v) signs) (read_signs round (standing ss count w) signs)

      by_within : (a b : Bool) → a ≡ b → (x y : Outcome) → GrownOutcome x y → GrownOutcome (if a then later x else limited 0) (if b then later y else limited 0)
      by_within true true e x y g = grown_later x y g
      by_within false false e x y g = both_limited 0
      by_within true false e x y g = absurd cc
      by_within false true e x y g = absurd cc

      by_next : (a b : Option (List Placed × Weighed)) → GrownNext a b → Goes
          → GrownOutcome (within_limits round (at_next (open_after count lexeme) a) (λ next. read_signs round next signs)) (within_limits round (at_next (open_after count lexeme) b) (λ next. read_signs round next signs))
      by_next _ _ neither go = both_stopped 0
      by_next _ _ (both {ss} {v} {w} g) go =
          by_within (is_within round (standing ss (open_after count lexeme) v)) (is_within round (standing ss (open_after count lexeme) w)) (ap (λ ms. is_within round (standing ss (open_after count lexeme) record { state = w.state; masses = ms })) g.masses)
          (read_signs round (standing ss (open_after count lexeme) v) signs) (read_signs round (standing ss (open_after count lexeme) w) signs) (go ss (open_after count lexeme) v w g)

-- ---- what is counted

abbrev within : Counts → Counts → Bool
within most counts = nat_le counts.tree most.tree && nat_le counts.proof most.proof

-- fewer are within the limits too
fewer_within : (most a b : Counts) → a.tree ≤ b.tree → a.proof ≤ b.proof → within most b ≡ true → within most a ≡ true
fewer_within most a b t p h =
    let parts = and_parts (nat_le b.tree most.tree) (nat_le b.proof most.proof) h in
    let trees = leb-true b.tree most.tree parts.0 in
    let proofs = leb-true b.proof most.proof parts.1 in
    rw (le-leb a.tree most.tree (omega (arith, t, trees)), le-leb a.proof most.proof (omega (arith, p, proofs))) refl

more_passes : (most : Option Counts) (a b : Counts) → a.tree ≤ b.tree → a.proof ≤ b.proof → passes most a ≡ true → passes most b ≡ true
more_passes None a b t p h = absurd cc
more_passes (Some most) a b t p h = by (within most b) refl
  where
    by : (r : Bool) → within most b ≡ r → not r ≡ true
    by false e = refl
    by true e = let z : within most a ≡ true = fewer_within most a b t p e in absurd cc

-- what was lost, and what is left
regrouped : (lost more left : ℕ) → min (lost + (more + left)) greatest_count ≡ min (min (lost + more) greatest_count + left) greatest_count
regrouped lost more left = omega arith

wider : (lost a b : ℕ) → a ≤ b → min (lost + a) greatest_count ≤ min (lost + b) greatest_count
wider lost a b h = omega (arith, h)

same_counts : (lost : Counts) (tree proof a b : ℕ) (v w : List Held) → count_in is_tree v ≡ tree + count_in is_tree w → count_in is_step v ≡ proof + count_in is_step w → counts_with lost v ≡ counts_with (more_counts lost tree proof) w
same_counts lost tree proof a b v w t p =
    let trees : min (lost.tree + count_in is_tree v) greatest_count ≡ min (min (lost.tree + tree) greatest_count + count_in is_tree w) greatest_count = ap (λ n. min (lost.tree + n) greatest_count) t ∙ regrouped lost.tree tree (count_in is_tree w) in
    let proofs : min (lost.proof + count_in is_step v) greatest_count ≡ min (min (lost.proof + proof) greatest_count + count_in is_step w) greatest_count = ap (λ n. min (lost.proof + n) greatest_count) p ∙ regrouped lost.proof proof (count_in is_step w) in
    rw (trees, proofs) refl

too_many_alike : (most : Option Counts) (a b : Counts) (x y : State) → a ≡ b → passes most a ≡ true → (if passes most a then too_many a else kept (read x)) ≡ (if passes most b then too_many b else kept (read y))
too_many_alike most a b x y e h = subst (λ c. (if passes most a then too_many a else kept (read x)) ≡ (if passes most c then too_many c else kept (read y))) e (rw h refl)

-- what was too many stays too many, and is the same number
ends_alike : (most : Option Counts) (lost : Counts) (tree proof least_tree least_proof : ℕ) (a b : Outcome) → passes most (more_counts lost least_tree least_proof) ≡ true → GrownOutcome tree proof least_tree least_proof a b
    → counted_from most lost a ≡ counted_from most (more_counts lost tree proof) b
ends_alike most lost tree proof least_tree least_proof _ _ h (both_read {v} {w} g) =
    too_many_alike most (counts_with lost v.state.values) (counts_with (more_counts lost tree proof) w.state.values) v.state w.state (same_counts lost tree proof least_tree least_proof v.state.values w.state.values g.trees g.steps)
    (more_passes most (more_counts lost least_tree least_proof) (counts_with lost v.state.values) (wider lost.tree least_tree (count_in is_tree v.state.values) g.some_trees) (wider lost.proof least_proof (count_in is_step v.state.values) g.some_steps) h)
ends_alike most lost tree proof least_tree least_proof _ _ h (both_stopped n) = refl
ends_alike most lost tree proof least_tree least_proof _ _ h (both_limited n) = refl

bare_grown : (p : Progress) → Grown (lost_in is_tree p.weighed.state.values) (lost_in is_step p.weighed.state.values) (count_in is_tree p.weighed.state.values) (count_in is_step p.weighed.state.values) p.weighed (bare_progress p).weighed
bare_grown p = record {
  values = alike_bare p.weighed.state.values;
  waiting = refl;
  masses = refl;
  trees = bare_counts is_tree p.weighed.state.values;
  steps = bare_counts is_step p.weighed.state.values;
  some_trees = omega arith;
  some_steps = omega arith;
}

-- how reading ends behind so many tokens, where so much was lost
abbrev pub ends : Option Counts → Counts → ℕ → ℕ → Progress → List Sign → CountedOutcome
ends most lost n round p signs = counted_from most lost (behind n (read_signs round p signs))

abbrev bared : Progress → Counts → Progress × Counts
bared p lost = (bare_progress p, lost_with lost p.weighed.state.values)

-- what comes of the rest is the same with bare values
thinned_reads : (most : Option Counts) (round n : ℕ) (p : Progress) (lost : Counts) (signs : List Sign) → ends most lost n round p signs ≡ ends most (thinned most p lost).1 n round (thinned most p lost).0 signs
thinned_reads most round n p lost signs = by (passes most (counts_with lost p.weighed.state.values)) refl
  where
    by : (b : Bool) → passes most (counts_with lost p.weighed.state.values) ≡ b
        → ends most lost n round p signs ≡ (let q : Progress × Counts = if b then bared p lost else (p, lost) in ends most q.1 n round q.0 signs)
    by false e = refl
    by true e =
        let tree = lost_in is_tree p.weighed.state.values in
        let proof = lost_in is_step p.weighed.state.values in
        let least_tree = count_in is_tree p.weighed.state.values in
        let least_proof = count_in is_step p.weighed.state.values in
        ends_alike most lost tree proof least_tree least_proof (behind n (read_signs round p signs)) (behind n (read_signs round (bare_progress p) signs)) e
        (grown_behind tree proof least_tree least_proof n (read_signs round p signs) (read_signs round (bare_progress p) signs)
        (grown_read tree proof least_tree least_proof round signs p.stack p.parentheses p.weighed (bare_progress p).weighed (bare_grown p)))

pub thinned_ends : (most : Option Counts) (round n : ℕ) (p q : Progress) (lost more : Counts) (signs : List Sign) → (q, more) ≡ thinned most p lost → ends most lost n round p signs ≡ ends most more n round q signs
thinned_ends most round n p q lost more signs e = thinned_reads most round n p lost signs ∙ ap (λ (r : Progress × Counts). ends most r.1 n round r.0 signs) (sym e)

none_more : (n : ℕ) → n + 0 ≡ n
none_more n = omega arith

-- ---- one token

abbrev alone : Bool → Lexeme → Token
alone note lexeme = record { comments = []; note = note; lexeme = lexeme }

pub refused_ends : (most : Option Counts) (lost : Counts) (n round : ℕ) (p : Progress) (note : Bool) (lexeme : Lexeme) (signs : List Sign) → with_token deepest p (alone note lexeme) ≡ None
    → ends most lost n round p (token note lexeme ∷ signs) ≡ kept (stopped n)
refused_ends most lost n round p note lexeme signs h =
    ap (λ o. counted_from most lost (behind n (within_limits round o (λ next. read_signs round next signs)))) h ∙ ap (λ m. kept (stopped m)) (none_more n)

pub limited_ends : (most : Option Counts) (lost : Counts) (n round : ℕ) (p next : Progress) (note : Bool) (lexeme : Lexeme) (signs : List Sign) → with_token deepest p (alone note lexeme) ≡ Some next → is_within round next ≡ false
    → ends most lost n round p (token note lexeme ∷ signs) ≡ kept (limited n)
limited_ends most lost n round p next note lexeme signs h w =
    ap (λ o. counted_from most lost (behind n (within_limits round o (λ next. read_signs round next signs)))) h
    ∙ ap (λ b. counted_from most lost (behind n (if b then later (read_signs round next signs) else limited 0))) w ∙ ap (λ m. kept (limited m)) (none_more n)

pub behind_later : (n : ℕ) (o : Outcome) → behind n (later o) ≡ behind (n + 1) o
behind_later n (read state) = refl
behind_later n (stopped m) = ap stopped (omega arith)
behind_later n (limited m) = ap limited (omega arith)

pub admitted_ends : (most : Option Counts) (lost : Counts) (n round : ℕ) (p next : Progress) (note : Bool) (lexeme : Lexeme) (signs : List Sign) → with_token deepest p (alone note lexeme) ≡ Some next → is_within round next ≡ true
    → ends most lost n round p (token note lexeme ∷ signs) ≡ ends most lost (n + 1) round next signs
admitted_ends most lost n round p next note lexeme signs h w =
    ap (λ o. counted_from most lost (behind n (within_limits round o (λ next. read_signs round next signs)))) h
    ∙ ap (λ b. counted_from most lost (behind n (if b then later (read_signs round next signs) else limited 0))) w ∙ ap (counted_from most lost) (behind_later n (read_signs round next signs))

-- ---- the end

pub read_ends : (most : Option Counts) (lost : Counts) (n round : ℕ) (p : Progress) (w : Weighed) → ended p.stack p.weighed ≡ Some w → ends most lost n round p [] ≡ ended_with most lost w.state
read_ends most lost n round p w h = ap (λ o. counted_from most lost (behind n (ended_at o))) h

pub stopped_ends : (most : Option Counts) (lost : Counts) (n round : ℕ) (p : Progress) → ended p.stack p.weighed ≡ None → ends most lost n round p [] ≡ kept (stopped n)
stopped_ends most lost n round p h = ap (λ o. counted_from most lost (behind n (ended_at o))) h ∙ ap (λ m. kept (stopped m)) (none_more n)

-- ---- a token of the source

module _ (most : Option Counts) (lost : Counts) (n round : ℕ) (p : Progress) (source : List ℕ) (t : SourceToken) (ts : List SourceToken) where
  pub next_ends : (ss : List Sign) → ss ≡ meaning t.kind t.note (bytes_of source t) → ends most lost n round p (meanings source (t ∷ ts)) ≡ ends most lost n round p (ss ++ meanings source ts)
  next_ends ss e =
      ap (ends most lost n round p) (flat_map-cons (λ (t : SourceToken). meaning t.kind t.note (bytes_of source t)) t ts) ∙ ap (λ ss. ends most lost n round p (ss ++ meanings source ts)) (sym e)

-- ---- what the machine does with it

abbrev here : Option Counts → Counts → ℕ → ℕ → Machine → List ℕ → List SourceToken → CountedOutcome
here most lost n round m source ts = ends most lost n round (progress_of m) (meanings source ts)

module _ (most : Option Counts) (lost : Counts) (n round : ℕ) (source : List ℕ) (ts : List SourceToken) (t : SourceToken) (rest : List SourceToken) (cut : ts ≡ t ∷ rest) where
  pub none_here : (m : Machine) → [] ≡ meaning t.kind t.note (bytes_of source t) → here most lost n round m source ts ≡ here most lost n round m source rest
  none_here m e = ap (here most lost n round m source) cut ∙ next_ends most lost n round (progress_of m) source t rest [] e

  pub comment_here : (m o : Machine) (text : List ℕ) → comment text ∷ [] ≡ meaning t.kind t.note (bytes_of source t) → progress_of o ≡ commented text (progress_of m) → here most lost n round m source ts ≡ here most lost n round o source rest
  comment_here m o text e waits =
      ap (here most lost n round m source) cut ∙ next_ends most lost n round (progress_of m) source t rest (comment text ∷ []) e ∙ ap (λ p. ends most lost n round p (meanings source rest)) (sym waits)

  pub token_here : (m o : Machine) (found : ReadToken) → token found.note (lexeme_of found.lexeme) ∷ [] ≡ meaning t.kind t.note (bytes_of source t) → FeedsWithin round (token_of found) m fed_as.Admitted o
      → here most lost n round m source ts ≡ here most lost (n + 1) round o source rest
  token_here m o found e fed =
      ap (here most lost n round m source) cut ∙ next_ends most lost n round (progress_of m) source t rest (token found.note (lexeme_of found.lexeme) ∷ []) e
      ∙ admitted_ends most lost n round (progress_of m) (progress_of o) found.note (lexeme_of found.lexeme) (meanings source rest) fed.0 fed.1
