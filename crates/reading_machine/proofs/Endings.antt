-- What is read where the text ends, by what is next on the stack.
use Rattle.std.proofs.Common.{◌≡◌, List, ◌∷◌, refl, sym, ◌∙◌, ap, Bool, false, ◌&&◌, Option, Some, None, option_map}
use Rattle.std.specs.Prelude.{is_some}
use Rattle.std.specs.Borrow.{Bor}
use Rattle.reading_machine.specs.Machines.{may_end, ended}
use Rattle.reading_table.proofs.Sound.{apply_append}
use Rattle.reading_table.specs.declared.rule.Rule.{Rule}
use Rattle.reading_table.specs.declared.symbol.Symbol.{Symbol}
use Rattle.reading_table.specs.Machine.{after, both, hush, apply}
use Rattle.reading_table.specs.Reading.{view_in}
use Rattle.reading_table.specs.Rows.{Line, Placed, placed, side_in, silence}
use Rattle.reading_table.specs.Tables.{token, done, part}
use Rattle.reading_table.specs.Weighed.{Weighed, weighed_table}

-- ---- whether the text may end here

pub no_token_ends : (note : Bool) (s : Symbol) (ss : List Placed) → view_in note s ≡ token → may_end ((note, s) ∷ ss) ≡ false
no_token_ends note s ss v = rw v refl

pub quiet_ends : (note : Bool) (s : Symbol) (ss : List Placed) → view_in note s ≡ done → may_end ((note, s) ∷ ss) ≡ may_end ss
quiet_ends note s ss v = rw v (by_rest (hush weighed_table ss))
  where
    by_rest : (o : Option (List Placed)) → is_some (after (note, s) o) ≡ is_some o
    by_rest None = refl
    by_rest (Some line) = refl

pub part_ends : (note : Bool) (s : Symbol) (r : Rule) (ss : List Placed) (q : Option (Bor Line)) → view_in note s ≡ part (side_in note r, r)
    → option_map (λ line. placed (side_in note r) line.now) q ≡ silence (side_in note r, r) → may_end ((note, s) ∷ ss) ≡ (is_some q && may_end ss)
part_ends note s r ss q v g = rw (v, sym g) (by_rest q (hush weighed_table ss))
  where
    by_rest : (q : Option (Bor Line)) (o : Option (List Placed)) → is_some (both (option_map (λ (line : Bor Line). placed (side_in note r) line.now) q) o) ≡ (is_some q && is_some o)
    by_rest None o = refl
    by_rest (Some line) None = refl
    by_rest (Some line) (Some rest) = refl

-- ---- what is read then

pub token_end : (note : Bool) (s : Symbol) (ss : List Placed) (state : Weighed) → view_in note s ≡ token → ended ((note, s) ∷ ss) state ≡ None
token_end note s ss state v = rw v refl

pub quiet_end : (note : Bool) (s : Symbol) (ss : List Placed) (state : Weighed) → view_in note s ≡ done → ended ((note, s) ∷ ss) state ≡ ended ss (weighed_table.does (note, s) state)
quiet_end note s ss state v = rw v (by_rest (hush weighed_table ss))
  where
    by_rest : (o : Option (List Placed)) → option_map (λ line. apply weighed_table line state) (after (note, s) o) ≡ option_map (λ line. apply weighed_table line (weighed_table.does (note, s) state)) o
    by_rest None = refl
    by_rest (Some line) = refl

module _ (note : Bool) (s : Symbol) (r : Rule) (ss : List Placed) (state : Weighed) (q : Option (Bor Line)) (v : view_in note s ≡ part (side_in note r, r))
    (g : option_map (λ line. placed (side_in note r) line.now) q ≡ silence (side_in note r, r)) where
  pub no_end : q ≡ None → ended ((note, s) ∷ ss) state ≡ None
  no_end h =
      let i : silence (side_in note r, r) ≡ None = sym g ∙ ap (λ q. option_map (λ line. placed (side_in note r) line.now) q) h in
      rw (v, i) refl

  pub silent_end : (line : Bor Line) → q ≡ Some line → ended ((note, s) ∷ ss) state ≡ ended ss (apply weighed_table (placed (side_in note r) line.now) state)
  silent_end line h =
      let i : silence (side_in note r, r) ≡ Some (placed (side_in note r) line.now) = sym g ∙ ap (λ q. option_map (λ line. placed (side_in note r) line.now) q) h in
      rw (v, i) (by_rest (placed (side_in note r) line.now) (hush weighed_table ss))
    where
      by_rest : (line : List Placed) (o : Option (List Placed)) → option_map (λ line. apply weighed_table line state) (both (Some line) o) ≡ option_map (λ rest. apply weighed_table rest (apply weighed_table line state)) o
      by_rest line None = refl
      by_rest line (Some rest) = ap Some (apply_append weighed_table line rest state)
