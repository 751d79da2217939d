-- What holds of each stack that is met, and of what has been read: its symbols find what they want, and no parenthesis is open where the definition of a type may be read.
use Rattle.std.proofs.Common.{◌≡◌, ℕ, List, [], ◌∷◌, ◌++◌, refl, ◌∙◌, ap, subst, Some, Bool, true, false, ◌&&◌, eqb-true}
use Rattle.std.specs.Prelude.{◌-◌, not, nat_eq, if◌then◌else◌}
use Rattle.std.specs.List.{list_all}
use Rattle.std.proofs.lemmas.Bool.{and_parts, and_from, not-true}
use Rattle.ada_tree.specs.Reading.{open_after}
use Rattle.reading_table.specs.declared.rule.Rule.{Rule}
use Rattle.reading_table.specs.declared.rule.Rule.TheVariants as rule
use Rattle.reading_table.specs.declared.symbol.Symbol.{Symbol}
use Rattle.reading_table.specs.declared.symbol.Symbol.TheVariants as symbol
use Rattle.reading_table.specs.Limits.{open_behind}
use Rattle.reading_table.specs.Machine.{feed}
use Rattle.reading_table.specs.Reading.{reading_table, deepest, view_in}
use Rattle.reading_table.specs.Rows.{Placed, Part, need_of}
use Rattle.reading_table.specs.States.{Token, State, does, taken}
use Rattle.reading_table.specs.Tables.{token, done, part}
use Rattle.reading_table.proofs.Conditions.{table_is_predictive}
use Rattle.reading_table.proofs.Parts.{tests, of_each_part}
use Rattle.reading_limits.proofs.Bounds.{opened_by}
use Rattle.reading_limits.proofs.Changes.{change_done, change_token}
use Rattle.reading_limits.proofs.Conditions.{each_line, row_passes, silence_passes, is_sound, each_sound}
use Rattle.reading_limits.proofs.Keeping.{After, Fed, Kept, feed_keeps}
use Rattle.reading_limits.proofs.Needs.{is_high_enough}
use Rattle.reading_limits.proofs.Opens.{open_at_end, opens_enough, each_opens_enough, closes_as, behind_token, behind_done}
use Rattle.reading_limits.proofs.Steps.{suit}
use Rattle.reading_limits.proofs.Tags.{Tag, a_tree, serve_all, serve_all_on, moves, steps, stepped, keeps_tags, moves_in_place}

-- ---- no parenthesis is open

-- rules that the definition of a type may stand in
abbrev pub leads_to_types : Rule → Bool
leads_to_types rule.Alt = true
leads_to_types rule.Block = true
leads_to_types rule.BodyTail = true
leads_to_types rule.Case = true
leads_to_types rule.Decl = true
leads_to_types rule.Decls = true
leads_to_types rule.Elsif = true
leads_to_types rule.Elsifs = true
leads_to_types rule.Handler = true
leads_to_types rule.If = true
leads_to_types rule.Item = true
leads_to_types rule.Items = true
leads_to_types rule.Lib = true
leads_to_types rule.Loop = true
leads_to_types rule.MaybeDeclare = true
leads_to_types rule.MaybeElse = true
leads_to_types rule.MaybeHandlers = true
leads_to_types rule.MaybePrivate = true
leads_to_types rule.MoreAlts = true
leads_to_types rule.MoreDecls = true
leads_to_types rule.MoreHandlers = true
leads_to_types rule.MoreStmts = true
leads_to_types rule.PackRest = true
leads_to_types rule.PackTail = true
leads_to_types rule.Seq = true
leads_to_types rule.Stmt = true
leads_to_types rule.Stmts = true
leads_to_types rule.Sub = true
leads_to_types rule.SubBodyTail = true
leads_to_types rule.SubTail = true
leads_to_types rule.Tdef = true
leads_to_types rule.Type = true
leads_to_types rule.TypeRest = true
leads_to_types rule.TypeTail = true
leads_to_types rule.Unit = true
leads_to_types _ = false

abbrev pub at_rest : ℕ → Symbol → Bool
at_rest count (symbol.Part r) = if leads_to_types r then nat_eq count 0 else true
at_rest count _ = true

-- none is open where such a rule begins
abbrev pub is_calm : ℕ → List Placed → Bool
is_calm count [] = true
is_calm count (s ∷ ss) = at_rest count s.1 && is_calm (open_behind count s.1) ss

abbrev no_types : Symbol → Bool
no_types (symbol.Part r) = not (leads_to_types r)
no_types _ = true

abbrev pub calm_line : Rule → List Placed → Bool
calm_line r line = if leads_to_types r then is_calm 0 line else list_all (λ (s : Placed). no_types s.1) line

abbrev all_calm : Part → Bool
all_calm p = each_line (calm_line p.1) p

computed : tests all_calm ≡ true
computed = refl

pub each_calm : (p : Part) → each_line (calm_line p.1) p ≡ true
each_calm p = of_each_part all_calm computed p

no_types_calm : (line : List Placed) (count : ℕ) → list_all (λ (s : Placed). no_types s.1) line ≡ true → is_calm count line ≡ true
no_types_calm [] count h = refl
no_types_calm ((note, s) ∷ line) count h =
    let p = and_parts (no_types s) (list_all (λ (s : Placed). no_types s.1) line) h in
    and_from (at_rest count s) (is_calm (open_behind count s) line) (by s p.0) (no_types_calm line (open_behind count s) p.1)
  where
    by : (s : Symbol) → no_types s ≡ true → at_rest count s ≡ true
    by (symbol.Part r) h = ap (λ b. if b then nat_eq count 0 else true) (not-true (leads_to_types r) h)
    by _ h = refl

calm-append : (a b : List Placed) (count : ℕ) → is_calm count a ≡ true → is_calm (open_at_end count a) b ≡ true → is_calm count (a ++ b) ≡ true
calm-append [] b count g h = h
calm-append (s ∷ a) b count g h =
    let p = and_parts (at_rest count s.1) (is_calm (open_behind count s.1) a) g in
    and_from (at_rest count s.1) (is_calm (open_behind count s.1) (a ++ b)) p.0 (calm-append a b (open_behind count s.1) p.1 h)

pub calm_alone : (r : Rule) (line : List Placed) (count : ℕ) → calm_line r line ≡ true → at_rest count (symbol.Part r) ≡ true → is_calm count line ≡ true
calm_alone r line count k h = by (leads_to_types r) k h
  where
    by : (b : Bool) → (if b then is_calm 0 line else list_all (λ (s : Placed). no_types s.1) line) ≡ true → (if b then nat_eq count 0 else true) ≡ true → is_calm count line ≡ true
    by true k h = ap (λ n. is_calm n line) (eqb-true count 0 h) ∙ k
    by false k h = no_types_calm line count k

calm_in_place : (note : Bool) (r : Rule) (line ss : List Placed) (count : ℕ) → calm_line r line ≡ true → opens_enough r line ≡ true → is_calm count ((note, symbol.Part r) ∷ ss) ≡ true → is_calm count (line ++ ss) ≡ true
calm_in_place note r line ss count k o h =
    let p = and_parts (at_rest count (symbol.Part r)) (is_calm (count - (need_of r).5) ss) h in
    calm-append line ss count (calm_alone r line count k p.0) (ap (λ n. is_calm n ss) (closes_as r line count o) ∙ p.1)

-- ---- stacks that are met

-- of the tags of the values, and the number of open parentheses: the stack leaves one tree, and is calm
pub record Fine (a : List Tag × ℕ) (ss : List Placed) : Type 0 where
  pub out : List Tag
  pub moves_to : moves ss a.0 ≡ Some out
  pub one : serve_all out (a_tree ∷ []) ≡ true
  pub calm : is_calm a.1 ss ≡ true

abbrev pub On : List Tag × ℕ → State → Type 0
On a state = suit state.values a.0 ≡ true

abbrev pub Goes : List Tag × ℕ → Token → List Tag × ℕ → Type 0
Goes a t b = b.1 ≡ open_after a.1 t.lexeme

line_in_place : (a : List Tag × ℕ) (s : Placed) (p : Part) (line ss : List Placed) → view_in s.0 s.1 ≡ part p → is_sound p.1 line ≡ true → opens_enough p.1 line ≡ true → calm_line p.1 line ≡ true → Fine a (s ∷ ss) → Fine a (line ++ ss)
line_in_place a s p line ss v k o c f =
    let e = opened_by s p v in
    let m = moves_in_place s.0 p.1 line ss a.0 f.out (and_parts (keeps_tags p.1 line) (is_high_enough p.1 line) k).0 (subst (λ s. moves (s ∷ ss) a.0 ≡ Some f.out) e f.moves_to) in
    record {
      out = m.gives;
      moves_to = m.moves_to;
      one = serve_all_on m.gives f.out (a_tree ∷ []) m.serve f.one;
      calm = calm_in_place s.0 p.1 line ss a.1 c o (subst (λ s. is_calm a.1 (s ∷ ss) ≡ true) e f.calm);
    }

pub token_stays : (a : List Tag × ℕ) (s : Placed) (ss : List Placed) (state : State) (t : Token) → view_in s.0 s.1 ≡ token → reading_table.fits s state t ≡ true → Fine a (s ∷ ss) → On a state
    → Fed reading_table Fine On Goes a t (ss, taken s.1 state t.lexeme)
token_stays a s ss state t v g f o =
    let p = steps s ss a.0 f.out f.moves_to in
    let c = change_token s.0 s.1 state t.lexeme a.0 p.between v o p.step in
    record {
      then_fine = (p.between, open_behind a.1 s.1);
      fine = record { out = f.out; moves_to = p.onward; one = f.one; calm = (and_parts (at_rest a.1 s.1) (is_calm (open_behind a.1 s.1) ss) f.calm).1 };
      on = c.suiting;
      goes = (behind_token a.1 s state t v g).0;
    }

pub done_stays : (a : List Tag × ℕ) (s : Placed) (ss : List Placed) → view_in s.0 s.1 ≡ done → Fine a (s ∷ ss) → After reading_table Fine On Goes a s ss (λ state. does s.1 state)
done_stays a s ss v f =
    let p = steps s ss a.0 f.out f.moves_to in
    let q = and_parts (at_rest a.1 s.1) (is_calm (open_behind a.1 s.1) ss) f.calm in
    let b = behind_done a.1 s v in
    record {
      then_fine = (p.between, open_behind a.1 s.1);
      fine = record { out = f.out; moves_to = p.onward; one = f.one; calm = q.1 };
      back = λ other g. record {
        out = g.out;
        moves_to = stepped s other a.0 p.between (Some g.out) p.step g.moves_to;
        one = g.one;
        calm = and_from (at_rest a.1 s.1) (is_calm (open_behind a.1 s.1) other) q.0 g.calm;
      };
      on = λ state o. (change_done s.0 s.1 state a.0 p.between v o p.step).suiting;
      goes = λ t c g. g ∙ ap (λ n. open_after n t.lexeme) b.0;
    }

pub table_keeps : Kept reading_table Fine On Goes
table_keeps = record {
  token_step = token_stays;
  quiet = table_is_predictive.quiet;
  done_step = λ a s ss v f. done_stays a s ss v f;
  row_step = λ a s p row ss v m f. line_in_place a s p row ss v (row_passes (is_sound p.1) p row (each_sound p) m) (row_passes (opens_enough p.1) p row (each_opens_enough p) m) (row_passes (calm_line p.1) p row (each_calm p) m) f;
  silent_step = λ a s p line ss v e f.
      line_in_place a s p line ss v (silence_passes (is_sound p.1) p line (each_sound p) e) (silence_passes (opens_enough p.1) p line (each_opens_enough p) e) (silence_passes (calm_line p.1) p line (each_calm p) e) f;
}

-- After a token, too, the stack is such a one.
pub feed_fine : (ss : List Placed) (a : List Tag × ℕ) (state : State) (t : Token) (next : List Placed × State) → Fine a ss → On a state → feed reading_table deepest ss state t ≡ Some next → Fed reading_table Fine On Goes a t next
feed_fine ss a state t next f o h = feed_keeps reading_table Fine On Goes table_keeps deepest ss a state t next f o h
