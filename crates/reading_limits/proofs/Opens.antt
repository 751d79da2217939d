-- As many parentheses are open at once, at least, as the stack says from the left.
use Rattle.std.proofs.Common.{◌≡◌, ℕ, suc, ◌+◌, ◌≤◌, List, [], ◌∷◌, ◌++◌, refl, sym, ◌∙◌, ap, subst, Bool, true, false, ◌&&◌, arith, eqb-true, leb-true}
use Rattle.std.specs.Prelude.{◌-◌, ◌||◌, not, max, nat_eq, nat_le, if◌then◌else◌}
use Rattle.std.specs.List.{list_all, list_any}
use Rattle.std.proofs.lemmas.Bool.{and_parts, not-true}
use denote.Enum.Bare.{sameb, same_true}
use Rattle.ada_tree.specs.contracts.word.Mark as mark_row
use Rattle.ada_tree.specs.declared.word.Mark.{Mark}
use Rattle.ada_tree.specs.declared.word.Mark.TheVariants as mark
use Rattle.ada_tree.specs.Reading.{open_after, open_in}
use Rattle.ada_tree.specs.Tokens.{Lexeme, a_name, a_number, a_word, a_mark, Sign, comment}
use Rattle.ada_tree.specs.Tokens.{token as sign}
use Rattle.reading_table.specs.declared.rule.Rule.{Rule}
use Rattle.reading_table.specs.declared.symbol.Symbol.{Symbol}
use Rattle.reading_table.specs.declared.symbol.Symbol.TheVariants as symbol
use Rattle.reading_table.specs.declared.symbol.Tokens.{Tokens}
use Rattle.reading_table.specs.declared.symbol.Tokens.TheVariants as tokens
use Rattle.reading_table.specs.Limits.{opened, open_behind, open_within, widest}
use Rattle.reading_table.specs.Reading.{reading_table, view_in, may_be, is_side}
use Rattle.reading_table.specs.Rows.{Placed, Part, need_of}
use Rattle.reading_table.specs.Signs.{tokens_from}
use Rattle.reading_table.specs.States.{Token, State, is_of, closes}
use Rattle.reading_table.specs.Tables.{token, done, Derives, ends, takes, acts, opens, omits}
use Rattle.reading_table.specs.TokenSets.{marks_of}
use Rattle.reading_table.proofs.Parts.{tests, of_each_part}
use Rattle.reading_limits.proofs.Bounds.{opened_by}
use Rattle.reading_limits.proofs.Conditions.{each_line, row_passes, silence_passes}

-- the most that are open at once along the tokens
abbrev pub open_along : ℕ → List Token → ℕ
open_along count [] = count
open_along count (t ∷ ts) = max count (open_along (open_after count t.lexeme) ts)

pub open_in_is : (signs : List Sign) (count : ℕ) (waiting : List (List ℕ)) → open_in count signs ≡ open_along count (tokens_from waiting signs)
open_in_is [] count waiting = refl
open_in_is (comment text ∷ signs) count waiting = open_in_is signs count (waiting ++ text ∷ [])
open_in_is (sign note lexeme ∷ signs) count waiting = ap (max count) (open_in_is signs (open_after count lexeme) [])

-- ---- along lines

abbrev pub open_at_end : ℕ → List Placed → ℕ
open_at_end count [] = count
open_at_end count (s ∷ ss) = open_at_end (open_behind count s.1) ss

pub widest_from : (line : List Placed) (count : ℕ) → count ≤ widest count line
widest_from [] count = omega arith
widest_from ((note, s) ∷ ss) count = by s
  where
    by : (s : Symbol) → count ≤ max (open_within count s) (widest (open_behind count s) ss)
    by (symbol.Part r) = omega arith
    by _ = omega arith

pub widest-append : (a b : List Placed) (count : ℕ) → widest count (a ++ b) ≡ max (widest count a) (widest (open_at_end count a) b)
widest-append [] b count = omega (arith, widest_from b count)
widest-append (s ∷ a) b count = omega (arith, widest-append a b (open_behind count s.1))

pub open_at_end-append : (a b : List Placed) (count : ℕ) → open_at_end count (a ++ b) ≡ open_at_end (open_at_end count a) b
open_at_end-append [] b count = refl
open_at_end-append (s ∷ a) b count = open_at_end-append a b (open_behind count s.1)

-- how many are closed that were open before, and how many are then opened
abbrev pub of_tests : Bool → Bool → ℕ × ℕ
of_tests a b = if a then (0, 1) else if b then (1, 0) else (0, 0)

abbrev pub of_set : Tokens → ℕ × ℕ
of_set (tokens.Mark m) = of_tests (sameb mark_row.the_type mark.Open m) (sameb mark_row.the_type mark.Close m)
of_set _ = (0, 0)

abbrev pub of_symbol : Symbol → ℕ × ℕ
of_symbol (symbol.Take set) = of_set set
of_symbol (symbol.Keep set) = of_set set
of_symbol (symbol.Part r) = ((need_of r).5, 0)
of_symbol _ = (0, 0)

abbrev then_pair : ℕ × ℕ → ℕ × ℕ → ℕ × ℕ
then_pair a b = (a.0 + (b.0 - a.1), (a.1 - b.0) + b.1)

abbrev pub of_line : List Placed → ℕ × ℕ
of_line [] = (0, 0)
of_line (s ∷ ss) = then_pair (of_symbol s.1) (of_line ss)

abbrev pub opened_in : Symbol → ℕ
opened_in (symbol.Part r) = (need_of r).4
opened_in _ = 0

-- how many more are open at once in it than before it, at least
abbrev lift : List Placed → ℕ
lift [] = 0
lift (s ∷ ss) = max (opened_in s.1) (((of_symbol s.1).1 + lift ss) - (of_symbol s.1).0)

behind_set : (count : ℕ) (set : Tokens) → opened count set ≡ (count - (of_set set).0) + (of_set set).1
behind_set count (tokens.Mark m) = by (sameb mark_row.the_type mark.Open m) (sameb mark_row.the_type mark.Close m)
  where
    by : (a b : Bool) → (if a then suc count else if b then count - 1 else count) ≡ (count - (of_tests a b).0) + (of_tests a b).1
    by true b = omega arith
    by false true = omega arith
    by false false = omega arith
behind_set count _ = omega arith

pub behind_is : (count : ℕ) (s : Symbol) → open_behind count s ≡ (count - (of_symbol s).0) + (of_symbol s).1
behind_is count (symbol.Take set) = behind_set count set
behind_is count (symbol.Keep set) = behind_set count set
behind_is count (symbol.Part r) = omega arith
behind_is count _ = omega arith

pub at_end_is : (line : List Placed) (count : ℕ) → open_at_end count line ≡ (count - (of_line line).0) + (of_line line).1
at_end_is [] count = omega arith
at_end_is (s ∷ ss) count = omega (arith, behind_is count s.1, at_end_is ss (open_behind count s.1))

pub within_is : (count : ℕ) (s : Symbol) → open_within count s ≡ count + opened_in s
within_is count (symbol.Part r) = refl
within_is count _ = omega arith

lift_is : (line : List Placed) (count : ℕ) → count + lift line ≤ widest count line
lift_is [] count = omega arith
lift_is (s ∷ ss) count = omega (arith, within_is count s.1, behind_is count s.1, lift_is ss (open_behind count s.1))

-- ---- computed: a line closes what its rule says, and opens no less

abbrev pub opens_enough : Rule → List Placed → Bool
opens_enough r line = (nat_eq (of_line line).0 (need_of r).5 && nat_eq (of_line line).1 0) && nat_le (need_of r).4 (lift line)

abbrev all_open_enough : Part → Bool
all_open_enough p = each_line (opens_enough p.1) p

computed : tests all_open_enough ≡ true
computed = refl

pub each_opens_enough : (p : Part) → each_line (opens_enough p.1) p ≡ true
each_opens_enough p = of_each_part all_open_enough computed p

pub closes_as : (r : Rule) (line : List Placed) (count : ℕ) → opens_enough r line ≡ true → open_at_end count line ≡ count - (need_of r).5
closes_as r line count h =
    let p = and_parts (nat_eq (of_line line).0 (need_of r).5) (nat_eq (of_line line).1 0) (and_parts (nat_eq (of_line line).0 (need_of r).5 && nat_eq (of_line line).1 0) (nat_le (need_of r).4 (lift line)) h).0 in
    let a = eqb-true (of_line line).0 (need_of r).5 p.0 in
    let b = eqb-true (of_line line).1 0 p.1 in
    omega (arith, at_end_is line count, a, b)

line_wider : (note : Bool) (r : Rule) (line ss : List Placed) (count : ℕ) → opens_enough r line ≡ true → widest count ((note, symbol.Part r) ∷ ss) ≤ widest count (line ++ ss)
line_wider note r line ss count h =
    let q = leb-true (need_of r).4 (lift line) (and_parts (nat_eq (of_line line).0 (need_of r).5 && nat_eq (of_line line).1 0) (nat_le (need_of r).4 (lift line)) h).1 in
    let a = widest-append line ss count in
    let b : widest (open_at_end count line) ss ≡ widest (count - (need_of r).5) ss = ap (λ n. widest n ss) (closes_as r line count h) in
    omega (arith, q, a, b, lift_is line count)

-- ---- tokens

neither : Mark → Bool
neither m = not (sameb mark_row.the_type mark.Open m) && not (sameb mark_row.the_type mark.Close m)

among : (ms : List Mark) (m : Mark) → list_all neither ms ≡ true → list_any (sameb mark_row.the_type m) ms ≡ true → neither m ≡ true
among [] m h g = absurd cc
among (n ∷ ms) m h g = by (sameb mark_row.the_type m n) refl g (and_parts (neither n) (list_all neither ms) h) (among ms m)
  where
    by : (b : Bool) → sameb mark_row.the_type m n ≡ b → (b || list_any (sameb mark_row.the_type m) ms) ≡ true → (neither n ≡ true) × (list_all neither ms ≡ true)
        → (list_all neither ms ≡ true → list_any (sameb mark_row.the_type m) ms ≡ true → neither m ≡ true) → neither m ≡ true
    by true e g p go = subst (λ k. neither k ≡ true) (sym (same_true mark_row.the_type tt m n e)) p.0
    by false e g p go = go p.1 g

after_neither : (count : ℕ) (m : Mark) → neither m ≡ true → open_after count (a_mark m) ≡ count
unfolding neither
after_neither count m h =
    let p = and_parts (not (sameb mark_row.the_type mark.Open m)) (not (sameb mark_row.the_type mark.Close m)) h in
    let a = not-true (sameb mark_row.the_type mark.Open m) p.0 in
    let b = not-true (sameb mark_row.the_type mark.Close m) p.1 in
    ap (λ x. if x then suc count else if sameb mark_row.the_type mark.Close m then count - 1 else count) a ∙ ap (λ x. if x then count - 1 else count) b

-- A token of a set changes what is open as the set says.
pub opened_after : (count : ℕ) (set : Tokens) (lexeme : Lexeme) → is_of set lexeme ≡ true → opened count set ≡ open_after count lexeme
unfolding neither
opened_after count (tokens.Mark m) (a_mark n) h =
    let e : n ≡ m = same_true mark_row.the_type tt n m (by (sameb mark_row.the_type n m) h) in
    ap (λ k. open_after count (a_mark k)) (sym e)
  where
    by : (b : Bool) → (b || false) ≡ true → b ≡ true
    by true h = refl
    by false h = absurd cc
opened_after count (tokens.Mark m) (a_name text) h = absurd cc
opened_after count (tokens.Mark m) (a_number text) h = absurd cc
opened_after count (tokens.Mark m) (a_word w) h = absurd cc
opened_after count tokens.Relational (a_mark n) h = sym (after_neither count n (among (marks_of tokens.Relational) n refl h))
opened_after count tokens.Adding (a_mark n) h = sym (after_neither count n (among (marks_of tokens.Adding) n refl h))
opened_after count tokens.Multiplying (a_mark n) h = sym (after_neither count n (among (marks_of tokens.Multiplying) n refl h))
opened_after count (tokens.Word w) (a_mark n) h = absurd cc
opened_after count tokens.Name (a_mark n) h = absurd cc
opened_after count (tokens.NameOf f) (a_mark n) h = absurd cc
opened_after count tokens.Number (a_mark n) h = absurd cc
opened_after count tokens.Highest (a_mark n) h = absurd cc
opened_after count tokens.Maker (a_mark n) h = absurd cc
opened_after count _ (a_name text) h = refl
opened_after count _ (a_number text) h = refl
opened_after count _ (a_word w) h = refl

pub behind_token : (count : ℕ) (s : Placed) (state : State) (t : Token) → view_in s.0 s.1 ≡ token → reading_table.fits s state t ≡ true → (open_behind count s.1 ≡ open_after count t.lexeme) × (open_within count s.1 ≡ count)
behind_token count (note, symbol.Take set) state t v f = (opened_after count set t.lexeme (and_parts (is_side note t.note) (is_of set t.lexeme) (and_parts (may_be (note, symbol.Take set) t) true f).0).1, refl)
behind_token count (note, symbol.Keep set) state t v f = (opened_after count set t.lexeme (and_parts (is_side note t.note) (is_of set t.lexeme) (and_parts (may_be (note, symbol.Keep set) t) true f).0).1, refl)
behind_token count (note, symbol.Closing depth) state t v f =
    (opened_after count tokens.Name t.lexeme (and_parts (is_side note t.note) (is_of tokens.Name t.lexeme) (and_parts (may_be (note, symbol.Closing depth) t) (closes (symbol.Closing depth) state t.lexeme) f).0).1, refl)
behind_token count (note, _) state t v f = absurd cc

pub behind_done : (count : ℕ) (s : Placed) → view_in s.0 s.1 ≡ done → (open_behind count s.1 ≡ count) × (open_within count s.1 ≡ count)
behind_done count (note, symbol.Take set) v = absurd cc
behind_done count (note, symbol.Keep set) v = absurd cc
behind_done count (note, symbol.Closing depth) v = absurd cc
behind_done count (note, symbol.Part r) v = absurd cc
behind_done count (note, _) v = (refl, refl)

-- ---- the bound

pub open_bound : {end : State → State} {ss : List Placed} {state last : State} {ts : List Token} → Derives reading_table end ss state ts last → (count : ℕ) → widest count ss ≤ open_along count ts
open_bound ends count = omega arith
open_bound (takes {s = s} {ss = ss} {t = t} {ts = ts} {state = state} v f d) count =
    let p = behind_token count s state t v f in
    let e : widest (open_behind count s.1) ss ≡ widest (open_after count t.lexeme) ss = ap (λ n. widest n ss) p.0 in
    let w = p.1 in
    omega (arith, e, w, open_bound d (open_after count t.lexeme))
open_bound (acts {s = s} {ss = ss} {ts = ts} v d) count =
    let p = behind_done count s v in
    let e : widest (open_behind count s.1) ss ≡ widest count ss = ap (λ n. widest n ss) p.0 in
    let w = p.1 in
    omega (arith, e, w, open_bound d count, widest_from ss count)
open_bound (opens {s = s} {p = p} {row = row} {ss = ss} {ts = ts} v m d) count =
    let b = line_wider s.0 p.1 row ss count (row_passes (opens_enough p.1) p row (each_opens_enough p) m) in
    let g = open_bound d count in
    subst (λ s. widest count (s ∷ ss) ≤ open_along count ts) (sym (opened_by s p v)) (omega (arith, b, g))
open_bound (omits {s = s} {p = p} {line = line} {ss = ss} {ts = ts} v q d) count =
    let b = line_wider s.0 p.1 line ss count (silence_passes (opens_enough p.1) p line (each_opens_enough p) q) in
    let g = open_bound d count in
    subst (λ s. widest count (s ∷ ss) ≤ open_along count ts) (sym (opened_by s p v)) (omega (arith, b, g))
