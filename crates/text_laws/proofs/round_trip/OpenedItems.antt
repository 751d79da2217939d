-- Open parentheses in items: how many are open at once, and that own texts have none.
use Rattle.std.proofs.Common.{◌≡◌, ℕ, suc, ◌+◌, ◌-◌, ◌≤◌, List, [], ◌∷◌, ◌++◌, max, refl, sym, ◌∙◌, ap, Bool, true, false, not, ◌&&◌, ◌||◌, if◌then◌else◌, append_assoc, arith}
use Rattle.std.proofs.lemmas.Bool.{and_from}
use Rattle.std.specs.Prelude.{bytes_eq, codes}
use Rattle.std.specs.List.{list_any, list_all, slice_split, before_first, after_first}
use Rattle.std.proofs.lemmas.Slice.Eq.{bytes_eq-Decides}
use Rattle.ada_tree.specs.declared.word.Word.TheVariants as word
use Rattle.ada_tree.specs.declared.word.Mark.TheVariants as mark
use Rattle.ada_tree.specs.declared.grammar.Own.{Own as OwnText}
use Rattle.ada_tree.specs.declared.grammar.Own.TheVariants as own
use Rattle.ada_tree.specs.declared.operator.TheConstants.{OPERATORS}
use Rattle.ada_tree.specs.Operators.{OperatorRow}
use Rattle.ada_tree.specs.Tokens.{Lexeme, a_number, a_word, a_mark}
use Rattle.ada_tree.specs.Items.{Item, put, put_small, glue, line_break, indent, outdent, note_on, note_off, comment_line, signs}
use Rattle.ada_tree.specs.Reading.{is_mark, open_after, open_in}
use Rattle.ada_tree.specs.Texts.{fits_own, own_items, name_items, symbol_items, rule_items, key_items, dotted, is_at_sign, is_dot}
use Rattle.text_laws.proofs.round_trip.Places.{both}

-- ---- how many are open

-- how many parentheses are open at once, at most, where so many are open already
abbrev pub items_open : ℕ → List Item → ℕ
items_open count [] = count
items_open count (put lexeme ∷ items) = max count (items_open (open_after count lexeme) items)
items_open count (put_small text ∷ items) = max count (items_open count items)
items_open count (glue ∷ items) = items_open count items
items_open count (line_break ∷ items) = items_open count items
items_open count (indent ∷ items) = items_open count items
items_open count (outdent ∷ items) = items_open count items
items_open count (note_on ∷ items) = items_open count items
items_open count (note_off ∷ items) = items_open count items
items_open count (comment_line text ∷ items) = items_open count items

-- whether the items begin in an annotation doesn't matter
pub signs_open : (note : Bool) (count : ℕ) (items : List Item) → open_in count (signs note items) ≡ items_open count items
signs_open note count [] = refl
signs_open note count (put lexeme ∷ items) = ap (λ n. max count n) (signs_open note (open_after count lexeme) items)
signs_open note count (put_small text ∷ items) = ap (λ n. max count n) (signs_open note count items)
signs_open note count (glue ∷ items) = signs_open note count items
signs_open note count (line_break ∷ items) = signs_open note count items
signs_open note count (indent ∷ items) = signs_open note count items
signs_open note count (outdent ∷ items) = signs_open note count items
signs_open note count (note_on ∷ items) = signs_open true count items
signs_open note count (note_off ∷ items) = signs_open false count items
signs_open note count (comment_line text ∷ items) = signs_open note count items

least_open : (count : ℕ) (items : List Item) → count ≤ items_open count items
least_open count [] = omega arith
least_open count (put lexeme ∷ items) = omega arith
least_open count (put_small text ∷ items) = omega arith
least_open count (glue ∷ items) = least_open count items
least_open count (line_break ∷ items) = least_open count items
least_open count (indent ∷ items) = least_open count items
least_open count (outdent ∷ items) = least_open count items
least_open count (note_on ∷ items) = least_open count items
least_open count (note_off ∷ items) = least_open count items
least_open count (comment_line text ∷ items) = least_open count items

-- ---- items that close what they open

abbrev pub begun : Bool → ℕ → ℕ
begun true count = suc count
begun false count = count

-- After the items as many parentheses are open as before them, and in them at most so many more. `inside` tells that one more is open before them, which they close.
pub record IsWithin (inside : Bool) (items : List Item) (bound : ℕ) : Type 0 where
  pub within : (count limit : ℕ) (rest : List Item) → count + bound ≤ limit → items_open count rest ≤ limit → items_open (begun inside count) (items ++ rest) ≤ limit

pub nothing_opened : {bound : ℕ} → IsWithin false [] bound
nothing_opened = record { within = λ count limit rest b h. h }

pub append_opened : {inside : Bool} {front back : List Item} {less bound : ℕ} → IsWithin false front less → IsWithin inside back bound → begun inside less ≤ bound → IsWithin inside (front ++ back) bound
append_opened {inside = false} {front = front} {back = back} f b l = record {
  within = λ count limit rest r h. rw (append_assoc front back rest) (f.within count limit (back ++ rest) (omega arith) (b.within count limit rest r h));
}
append_opened {inside = true} {front = front} {back = back} f b l = record {
  within = λ count limit rest r h. rw (append_assoc front back rest) (f.within (suc count) limit (back ++ rest) (omega arith) (b.within count limit rest r h));
}

pub open_one : {items : List Item} {bound : ℕ} → IsWithin true items bound → IsWithin false (put (a_mark mark.Open) ∷ items) bound
open_one {items = items} i = record {
  within = λ count limit rest r h. let others = i.within count limit rest r h in omega arith;
}

pub close_one : {items : List Item} {bound : ℕ} → 1 ≤ bound → IsWithin false items bound → IsWithin true (put (a_mark mark.Close) ∷ items) bound
close_one {items = items} l i = record {
  within = λ count limit rest r h. let others = i.within count limit rest r h in let one_less : suc count - 1 ≡ count = omega arith in rw one_less (omega arith);
}

-- the items in parentheses
pub enclose : {items others : List Item} {less bound : ℕ} → suc less ≤ bound → IsWithin false items less → IsWithin false others bound → IsWithin false (put (a_mark mark.Open) ∷ (items ++ (put (a_mark mark.Close) ∷ others))) bound
enclose l i o = open_one (append_opened i (close_one (omega arith) o) l)

-- ---- items that are no parentheses

abbrev pub is_flat_lexeme : Lexeme → Bool
is_flat_lexeme lexeme = not (is_mark mark.Open lexeme) && not (is_mark mark.Close lexeme)

abbrev is_flat : Item → Bool
is_flat (put lexeme) = is_flat_lexeme lexeme
is_flat _ = true

abbrev pub are_flat : List Item → Bool
are_flat items = list_all is_flat items

flat_after : (count : ℕ) (lexeme : Lexeme) → is_flat_lexeme lexeme ≡ true → open_after count lexeme ≡ count
flat_after count lexeme h = by_tests (is_mark mark.Open lexeme) (is_mark mark.Close lexeme) h
  where
    by_tests : (a b : Bool) → not a && not b ≡ true → (if a then suc count else if b then count - 1 else count) ≡ count
    by_tests true b h = absurd cc
    by_tests false true h = absurd cc
    by_tests false false h = refl

flat_open : (count limit : ℕ) (front rest : List Item) → are_flat front ≡ true → items_open count rest ≤ limit → items_open count (front ++ rest) ≤ limit
flat_open count limit [] rest f h = h
flat_open count limit (put lexeme ∷ front) rest f h =
    let here = least_open count (front ++ rest) in
    let others : items_open count (front ++ rest) ≤ limit = flat_open count limit front rest (both {b = are_flat front} f).1 h in
    rw (flat_after count lexeme (both {b = are_flat front} f).0) (omega arith)
flat_open count limit (put_small text ∷ front) rest f h =
    let here = least_open count (front ++ rest) in
    let others : items_open count (front ++ rest) ≤ limit = flat_open count limit front rest f h in
    omega arith
flat_open count limit (glue ∷ front) rest f h = flat_open count limit front rest f h
flat_open count limit (line_break ∷ front) rest f h = flat_open count limit front rest f h
flat_open count limit (indent ∷ front) rest f h = flat_open count limit front rest f h
flat_open count limit (outdent ∷ front) rest f h = flat_open count limit front rest f h
flat_open count limit (note_on ∷ front) rest f h = flat_open count limit front rest f h
flat_open count limit (note_off ∷ front) rest f h = flat_open count limit front rest f h
flat_open count limit (comment_line text ∷ front) rest f h = flat_open count limit front rest f h

pub flat_append : {inside : Bool} {bound : ℕ} (front : List Item) {back : List Item} → are_flat front ≡ true → IsWithin inside back bound → IsWithin inside (front ++ back) bound
flat_append {inside = inside} front {back = back} f b = record {
  within = λ count limit rest r h. rw (append_assoc front back rest) (flat_open (begun inside count) limit front (back ++ rest) f (b.within count limit rest r h));
}

pub flat_opened : {bound : ℕ} (items : List Item) → are_flat items ≡ true → IsWithin false items bound
flat_opened items f = record { within = λ count limit rest r h. flat_open count limit items rest f h }

-- ---- own texts are no parentheses

either_flat : (b : Bool) (front back : List Item) → are_flat front ≡ true → are_flat back ≡ true → are_flat (if b then front else back) ≡ true
either_flat true front back f b = f
either_flat false front back f b = b

begin_flat : (b : Bool) (item other : Item) (items : List Item) → is_flat item ≡ true → is_flat other ≡ true → are_flat items ≡ true → are_flat ((if b then item else other) ∷ items) ≡ true
begin_flat true item other items i o t = rw i t
begin_flat false item other items i o t = rw o t

are_flat-append : (front back : List Item) → are_flat front ≡ true → are_flat back ≡ true → are_flat (front ++ back) ≡ true
are_flat-append [] back f b = b
are_flat-append (item ∷ front) back f b = and_from _ _ (both f).0 (are_flat-append front back (both f).1 b)

name_flat : (text : List ℕ) → are_flat (name_items text) ≡ true
name_flat text = either_flat (list_any is_at_sign text) _ _ (begin_flat (bytes_eq (before_first is_at_sign text) (codes "return")) _ _ (glue ∷ put (a_mark mark.AtSign) ∷ glue ∷ put_small (after_first is_at_sign text) ∷ []) refl refl refl) refl

dotted_flat : (front back : List Item) → are_flat front ≡ true → are_flat back ≡ true → are_flat (dotted front back) ≡ true
dotted_flat front back f b = are_flat-append front (put (a_mark mark.Dot) ∷ back) f b

label_flat : (label number : List ℕ) → are_flat ((if bytes_eq label (codes "entry") then put (a_word word.Entry) else put_small label) ∷ put (a_mark mark.Dot) ∷ put (a_number number) ∷ []) ≡ true
label_flat label number = begin_flat (bytes_eq label (codes "entry")) (put (a_word word.Entry)) (put_small label) (put (a_mark mark.Dot) ∷ put (a_number number) ∷ []) refl refl refl

key_flat : (parts : List (List ℕ)) → are_flat (key_items parts) ≡ true
key_flat (trait_name ∷ lemma ∷ []) = dotted_flat (name_items trait_name) (name_items lemma) (name_flat trait_name) (name_flat lemma)
key_flat (unit ∷ label ∷ number ∷ []) = dotted_flat (name_items unit) _ (name_flat unit) (label_flat label number)
key_flat (owner ∷ unit ∷ label ∷ number ∷ []) = dotted_flat (name_items owner) _ (name_flat owner) (dotted_flat (name_items unit) _ (name_flat unit) (label_flat label number))
key_flat _ = refl

rule_flat : (text : List ℕ) → are_flat (rule_items text) ≡ true
rule_flat text = either_flat (bytes_eq text (codes "range")) _ _ refl refl

-- from one of two
pub one_of : {P : Type 0} (a b : Bool) → a || b ≡ true → (a ≡ true → P) → (b ≡ true → P) → P
one_of true b h first second = first refl
one_of false b h first second = second h

abbrev symbols_flat : List ℕ → Bool
symbols_flat text = are_flat (symbol_items text)

flat_as : (text wanted : List ℕ) → symbols_flat wanted ≡ true → bytes_eq text wanted ≡ true → symbols_flat text ≡ true
flat_as text wanted f e = ap symbols_flat ((bytes_eq-Decides text wanted).0 e) ∙ f

operator_flat : (text : List ℕ) (rows : List OperatorRow) → list_all (λ row. symbols_flat row.1.now) rows ≡ true → list_any (λ row. bytes_eq row.1.now text) rows ≡ true → symbols_flat text ≡ true
operator_flat text [] f h = absurd cc
operator_flat text (row ∷ rows) f h =
    one_of (bytes_eq row.1.now text) _ h (λ e. ap symbols_flat (sym ((bytes_eq-Decides row.1.now text).0 e)) ∙ (both f).0) (operator_flat text rows (both f).1)

global_mode_flat : (text : List ℕ) → fits_own false own.GlobalMode text ≡ true → symbols_flat text ≡ true
global_mode_flat text h = one_of (bytes_eq text (codes "in")) _ h (flat_as text (codes "in") refl) (flat_as text (codes "in out") refl)

mode_flat : (text : List ℕ) → fits_own false own.Mode text ≡ true → symbols_flat text ≡ true
mode_flat text h =
    one_of (bytes_eq text (codes "in") || bytes_eq text (codes "out")) _ h
    (λ e. one_of (bytes_eq text (codes "in")) _ e (flat_as text (codes "in") refl) (flat_as text (codes "out") refl)) (flat_as text (codes "in out") refl)

pub own_flat : (note : Bool) (own : OwnText) (text : List ℕ) → fits_own note own text ≡ true → are_flat (own_items own text) ≡ true
own_flat note own.Id text h = name_flat text
own_flat note own.Closing text h = name_flat text
own_flat note own.Num text h = refl
own_flat note own.Mode text h = mode_flat text h
own_flat note own.GlobalMode text h = global_mode_flat text h
own_flat note own.Operator text h = operator_flat text OPERATORS refl h
own_flat note own.Rule text h = rule_flat text
own_flat note own.Key text h = key_flat (slice_split is_dot text)
