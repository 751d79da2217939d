-- Reading signs one by one is reading the tokens that bring the comments before them.
use Rattle.std.proofs.Common.{◌≡◌, ℕ, List, [], ◌∷◌, ◌++◌, refl, sym, ◌∙◌, ap, Bool, Option, Some, None, option_map, if◌then◌else◌, append_assoc, append-nil}
use Rattle.ada_tree.specs.Tokens.{Lexeme, Sign, token, comment}
use Rattle.reading_machine.proofs.Alike.{lead_same, enter_same}
use Rattle.note_read.specs.Signs.{read_signs, ended_at, read_by_table}
use Rattle.reading_table.specs.Machine.{lead, enter, perform_at, perform, performed, feed, hush, apply}
use Rattle.reading_table.specs.Reading.{reading_table, deepest}
use Rattle.reading_table.specs.Rows.{Part, Placed}
use Rattle.reading_table.specs.Signs.{tokens_from, trailing_from}
use Rattle.reading_table.specs.States.{Token, State}
use Rattle.reading_table.specs.Tables.{View, token as is_token, done, part}
use Rattle.reading_table.specs.Limits.{later, limited}
use Rattle.reading_table.specs.Weighed.{at_beginning, Weighed, weighed_table, Progress, with_token, is_within, ended_by, within_limits, with_next, run_weighed}

-- ---- the comments before a token don't tell how it is read

module _ (texts : List (List ℕ)) (note : Bool) (lexeme : Lexeme) where
  abbrev with_them : Token
  with_them = record { comments = texts; note = note; lexeme = lexeme }

  abbrev without : Token
  without = record { comments = []; note = note; lexeme = lexeme }

  perform_same : (line : List Placed) (state : Weighed) → perform weighed_table line state with_them ≡ perform weighed_table line state without
  perform_same [] state = refl
  perform_same (s ∷ ss) state = by_view (reading_table.view s) (perform_same ss (weighed_table.does s state))
    where
      by_view : (v : View Part) → perform weighed_table ss (weighed_table.does s state) with_them ≡ perform weighed_table ss (weighed_table.does s state) without
          → perform_at weighed_table v s ss state with_them (perform weighed_table ss (weighed_table.does s state) with_them)
          ≡ perform_at weighed_table v s ss state without (perform weighed_table ss (weighed_table.does s state) without)
      by_view is_token e = refl
      by_view done e = e
      by_view (part p) e = refl

  feed_same : (depth : ℕ) (ss : List Placed) (state : Weighed) → feed weighed_table depth ss state with_them ≡ feed weighed_table depth ss state without
  feed_same depth ss state = rw (lead_same with_them without (λ s. refl) depth (enter_same with_them without (λ s. refl) depth) ss) (by_line (lead weighed_table (enter weighed_table depth) without ss))
    where
      by_line : (o : Option (List Placed)) → performed weighed_table o state with_them ≡ performed weighed_table o state without
      by_line None = refl
      by_line (Some line) = perform_same line state

-- ---- all signs

abbrev end_with : List (List ℕ) → List Sign → State → State
end_with waiting signs state = record state { waiting = state.waiting ++ trailing_from waiting signs }

-- these comments have come too
abbrev with_waiting : Progress → List (List ℕ) → Progress
with_waiting p texts =
    record { stack = p.stack; weighed = record { state = record { values = p.weighed.state.values; waiting = p.weighed.state.waiting ++ texts }; masses = p.weighed.masses }; parentheses = p.parentheses }

waits_longer : (p : Progress) (a b : List (List ℕ)) → with_waiting p (a ++ b) ≡ with_waiting (with_waiting p a) b
waits_longer p a b =
    ap (λ texts. record { stack = p.stack; weighed = record { state = record { values = p.weighed.state.values; waiting = texts }; masses = p.weighed.masses }; parentheses = p.parentheses }) (sym (append_assoc p.weighed.state.waiting a b))

waits_for_none : (p : Progress) → with_waiting p [] ≡ p
waits_for_none p =
    ap (λ texts. record { stack = p.stack; weighed = record { state = record { values = p.weighed.state.values; waiting = texts }; masses = p.weighed.masses }; parentheses = p.parentheses }) (append-nil p.weighed.state.waiting)

token_same : (texts : List (List ℕ)) (note : Bool) (lexeme : Lexeme) (p : Progress) → with_token deepest p (with_them texts note lexeme) ≡ with_token deepest p (without texts note lexeme)
token_same texts note lexeme p = rw (feed_same texts note lexeme deepest p.stack p.weighed) refl

run_reads : (round : ℕ) (signs : List Sign) (waiting : List (List ℕ)) (p : Progress)
    → run_weighed round (end_with waiting signs) (with_next (end_with waiting signs) (tokens_from waiting signs) p) (tokens_from waiting signs) ≡ read_signs round (with_waiting p waiting) signs
run_reads round [] waiting p = by_line (hush weighed_table p.stack)
  where
    by_line : (o : Option (List Placed)) → ended_by o (with_waiting p waiting).weighed ≡ ended_at (option_map (λ line. apply weighed_table line (with_waiting p waiting).weighed) o)
    by_line None = refl
    by_line (Some line) = refl
run_reads round (comment text ∷ signs) waiting p = run_reads round signs (waiting ++ text ∷ []) p ∙ ap (λ q. read_signs round q signs) (waits_longer p waiting (text ∷ []))
run_reads round (token note lexeme ∷ signs) waiting p =
    rw (token_same waiting note lexeme (with_waiting p waiting)) (by_fed (with_token deepest (with_waiting p waiting) record { comments = []; note = note; lexeme = lexeme }) (run_reads round signs []))
  where
    Goes : Type 0
    Goes = (p : Progress) → run_weighed round (end_with [] signs) (with_next (end_with [] signs) (tokens_from [] signs) p) (tokens_from [] signs) ≡ read_signs round (with_waiting p []) signs

    by_fed : (o : Option Progress) → Goes
        → within_limits round o (λ next. run_weighed round (end_with [] signs) (with_next (end_with [] signs) (tokens_from [] signs) next) (tokens_from [] signs))
        ≡ within_limits round o (λ next. read_signs round next signs)
    by_fed None go = refl
    by_fed (Some next) go = ap (λ o. if is_within round next then later o else limited 0) (go next ∙ ap (λ q. read_signs round q signs) (waits_for_none next))

-- reading signs one by one is a run over the tokens
pub read_is_run : (round : ℕ) (ss : List Placed) (signs : List Sign) → read_by_table round ss signs ≡ read_signs round (at_beginning ss) signs
read_is_run round ss signs = run_reads round signs [] (at_beginning ss) ∙ ap (λ q. read_signs round q signs) (waits_for_none (at_beginning ss))
