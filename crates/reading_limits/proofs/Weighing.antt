-- What limits see of the values, kept beside them, is what they would see in them. So reading with it is reading within the limits.
use Rattle.std.proofs.Common.{◌≡◌, ℕ, List, [], ◌∷◌, refl, sym, ◌∙◌, ap, subst, Option, Some, None, Bool, true, false}
use Rattle.std.specs.Prelude.{if◌then◌else◌}
use Rattle.ada_tree.specs.declared.part.Part.{Part as GrammarPart}
use Rattle.ada_tree.specs.Reading.{open_after}
use Rattle.ada_tree.specs.Tokens.{Sign}
use Rattle.reading_table.specs.declared.need.Mass.{Mass}
use Rattle.reading_table.specs.Heights.{masses, rise}
use Rattle.reading_table.specs.Limits.{Standing, Outcome, read, limited, later, admitted, deep, fits, fed_to, ended, going_on, run_within}
use Rattle.reading_table.specs.Limits.{with_next as with_next_token}
use Rattle.reading_table.specs.Machine.{hush, feed}
use Rattle.reading_table.specs.Reading.{reading_table, deepest}
use Rattle.reading_table.specs.Rows.{Placed}
use Rattle.reading_table.specs.Signs.{tokens_of, trailing_from}
use Rattle.reading_table.specs.Spelled.{has_texts}
use Rattle.reading_table.specs.States.{Token}
use Rattle.reading_table.specs.Tables.{arrived}
use Rattle.reading_table.specs.Weighed.{Weighed, weighed_table, Progress, is_within, at_next, ended_by, within_limits, at_beginning, with_next, run_weighed}
use Rattle.reading_table.proofs.Conditions.{table_is_predictive}
use Rattle.reading_table.proofs.WeighedTable.{quiet_same, hush_same, applied_same, bare, fed_same}
use Rattle.reading_limits.specs.Viable.{at_first, read_within, read_weighed}
use Rattle.reading_exact.specs.Whole.{whole_start}
use Rattle.reading_limits.proofs.Beginnings.{begins_part}
use Rattle.reading_limits.proofs.Changes.{change_done, change_token}
use Rattle.reading_limits.proofs.Keeping.{Kept, feed_keeps}
use Rattle.reading_limits.proofs.Law.{starts_on}
use Rattle.reading_limits.proofs.Runs.{with_comments, arrived_is}
use Rattle.reading_limits.proofs.Standing.{Fine, On, Goes, token_stays, done_stays, table_keeps}
use Rattle.reading_limits.proofs.Steps.{suit}
use Rattle.reading_limits.proofs.Tags.{Tag, steps}

-- ---- after each token

abbrev Sees : List Tag × ℕ → Weighed → Type 0
Sees a w = On a w.state × (w.masses ≡ masses w.state.values)

weighed_keeps : Kept weighed_table Fine Sees Goes
weighed_keeps = record {
  token_step = λ a s ss w t v g f o.
      let n = token_stays a s ss w.state t v g f o.0 in
      let p = steps s ss a.0 f.out f.moves_to in
      let c = change_token s.0 s.1 w.state t.lexeme a.0 p.between v o.0 p.step in
      record { then_fine = n.then_fine; fine = n.fine; on = (n.on, ap (rise s.1) o.1 ∙ sym c.weight); goes = n.goes };
  quiet = λ p q e. quiet_same q (table_is_predictive.quiet p q e);
  done_step = λ a s ss v f.
      let n = done_stays a s ss v f in
      let p = steps s ss a.0 f.out f.moves_to in
      record {
        then_fine = n.then_fine;
        fine = n.fine;
        back = n.back;
        on = λ w o. (n.on w.state o.0, ap (rise s.1) o.1 ∙ sym (change_done s.0 s.1 w.state a.0 p.between v o.0 p.step).weight);
        goes = n.goes;
      };
  row_step = table_keeps.row_step;
  silent_step = table_keeps.silent_step;
}

-- ---- all tokens

abbrev progress_at : Standing → Progress
progress_at s = record { stack = s.stack; weighed = record { state = s.state; masses = masses s.state.values }; parentheses = s.parentheses }

next_at : (tail : List (List ℕ)) (ts : List Token) (s : Standing) → with_next (with_comments tail) ts (progress_at s) ≡ progress_at (with_next_token (with_comments tail) ts s)
next_at tail [] s = refl
next_at tail (t ∷ ts) s = refl

ended_alike : (ss : List Placed) (w : Weighed) → ended_by (hush weighed_table ss) w ≡ ended (hush reading_table ss) w.state
ended_alike ss w = ap (λ o. ended_by o w) (hush_same ss) ∙ by (hush reading_table ss)
  where
    by : (o : Option (List Placed)) → ended_by o w ≡ ended o w.state
    by None = refl
    by (Some line) = ap read (applied_same line w)

abbrev more : ℕ → List (List ℕ) → List Token → Progress → Outcome
more round tail ts next = run_weighed round (with_comments tail) (with_next (with_comments tail) ts next) ts

abbrev more_within : ℕ → List (List ℕ) → List Token → Standing → Outcome
more_within round tail ts s = run_within round (with_comments tail) (with_next_token (with_comments tail) ts s) ts

-- within the limits or not
by_limits : (b : Bool) (round : ℕ) (tail : List (List ℕ)) (ts : List Token) (next : Progress) (s : Standing) → more round tail ts next ≡ more_within round tail ts s
    → (if b then later (more round tail ts next) else limited 0) ≡ going_on (if b then admitted s else deep) (more_within round tail ts)
by_limits true round tail ts next s e = ap later e
by_limits false round tail ts next s e = refl

weighed_alike : (round : ℕ) (tail : List (List ℕ)) (ts : List Token) (s : Standing) (a : List Tag × ℕ) → Fine a s.stack → On a s.state
    → run_weighed round (with_comments tail) (progress_at s) ts ≡ run_within round (with_comments tail) s ts
weighed_alike round tail [] s a f o = ended_alike s.stack (progress_at s).weighed
weighed_alike round tail (t ∷ ts) s a f o =
    by_feed (λ next b f o. weighed_alike round tail ts next b f o) (feed weighed_table deepest s.stack (progress_at s).weighed t) refl (fed_same deepest s.stack (progress_at s).weighed t)
  where
    Goes_on : Type 0
    Goes_on = (next : Standing) (b : List Tag × ℕ) → Fine b next.stack → On b next.state → run_weighed round (with_comments tail) (progress_at next) ts ≡ run_within round (with_comments tail) next ts

    by_feed : Goes_on → (q : Option (List Placed × Weighed)) → feed weighed_table deepest s.stack (progress_at s).weighed t ≡ q → bare q ≡ feed reading_table deepest s.stack s.state t
        → within_limits round (at_next (open_after s.parentheses t.lexeme) q) (more round tail ts) ≡ going_on (fed_to round (open_after s.parentheses t.lexeme) (feed reading_table deepest s.stack s.state t)) (more_within round tail ts)
    by_feed go None h e = ap (λ o. going_on (fed_to round (open_after s.parentheses t.lexeme) o) (more_within round tail ts)) e
    by_feed go (Some next) h e =
        let g = feed_keeps weighed_table Fine Sees Goes weighed_keeps deepest s.stack a (progress_at s).weighed t next f (o, refl) h in
        let count = open_after s.parentheses t.lexeme in
        let here : Standing = record { stack = next.0; state = next.1.state; parentheses = count } in
        let seen : Progress = record { stack = next.0; weighed = next.1; parentheses = count } in
        let same : seen ≡ progress_at here = ap (λ (ms : List Mass). record { stack = next.0; weighed = record { state = next.1.state; masses = ms }; parentheses = count }) g.on.1 in
        let on : On g.then_fine (with_next_token (with_comments tail) ts here).state = subst (λ vs. suit vs g.then_fine.0 ≡ true) (sym (arrived_is tail ts next.1.state)) g.on.0 in
        let onward : more round tail ts (progress_at here) ≡ more_within round tail ts here =
        ap (λ p. run_weighed round (with_comments tail) p ts) (next_at tail ts here) ∙ go (with_next_token (with_comments tail) ts here) g.then_fine g.fine on in
        ap (λ (p : Progress). if is_within round p then later (more round tail ts p) else limited 0) same
        ∙ by_limits (fits round here) round tail ts (progress_at here) here onward
        ∙ ap (λ o. going_on (fed_to round count o) (more_within round tail ts)) e

-- ---- texts of the grammar

begins_at : (tail : List (List ℕ)) (ts : List Token) (ss : List Placed)
    → with_next (with_comments tail) ts (at_beginning ss) ≡ progress_at record { stack = ss; state = arrived reading_table (with_comments tail) ts record { values = []; waiting = [] }; parentheses = 0 }
begins_at tail [] ss = refl
begins_at tail (t ∷ ts) ss = refl

pub weighed_is_within : (round : ℕ) (part : GrammarPart) (signs : List Sign) → has_texts part ≡ true → read_weighed round part signs ≡ read_within round part signs
weighed_is_within round part signs h =
    let tail = trailing_from [] signs in
    ap (λ p. run_weighed round (with_comments tail) p (tokens_of signs)) (begins_at tail (tokens_of signs) (whole_start part))
    ∙ weighed_alike round tail (tokens_of signs) (at_first part signs) ([], 0) (begins_part part h).fine (starts_on signs)
