-- Each rest that a spelling of a node leaves is one that a way gives. So events that a test refuses don't spell the tree.
use Rattle.std.proofs.Common.{◌≡◌, ℕ, zero, suc, List, [], ◌∷◌, ◌++◌, drop, Bool, true, false, not, ◌&&◌, ◌||◌, refl, sym, ◌∙◌, ap, subst, Option, Some, flat_map, bytes_eq}
use Rattle.std.proofs.lemmas.Bool.{and_from}
use Rattle.std.specs.List.{list_all, list_any}
use Rattle.std.specs.Cmp.{booleans_Decides}
use Rattle.std.proofs.lemmas.Slice.Eq.{bytes_eq-Decides}
use mathlib.Core.Bool.{beq}
use denote.Enum.Bare.{true_same}
use Rattle.ada_tree.specs.contracts.word.Word as word_row
use Rattle.ada_tree.specs.contracts.word.Mark as mark_row
use Rattle.ada_tree.specs.declared.kind.Kind.{Kind}
use Rattle.ada_tree.specs.declared.kind.Kind.TheVariants as kind
use Rattle.ada_tree.specs.declared.word.Word.TheVariants as word
use Rattle.ada_tree.specs.declared.word.Mark.{Mark}
use Rattle.ada_tree.specs.declared.word.Mark.TheVariants as mark
use Rattle.ada_tree.specs.declared.grammar.Choice.{Choice}
use Rattle.ada_tree.specs.declared.grammar.Choice.TheVariants as choice
use Rattle.ada_tree.specs.declared.grammar.Shape.{Shape}
use Rattle.ada_tree.specs.declared.grammar.Piece.{Piece}
use Rattle.ada_tree.specs.declared.grammar.Piece.TheVariants.{End, Indent, Outdent, Glue}
use Rattle.ada_tree.specs.declared.grammar.Argument.{Argument}
use Rattle.ada_tree.specs.declared.grammar.Argument.TheVariants as argument
use Rattle.ada_tree.specs.declared.node.Node.{Node, Node-F, roll-Node, out-roll-Node}
use Rattle.ada_tree.specs.Nodes.{kind_of, text_of, notes_of, kids_of, node_of, is_empty, is_silent, is_list}
use Rattle.ada_tree.specs.Tokens.{Lexeme, a_name, a_number, a_word, a_mark, Event, spelled, comments, spell}
use Rattle.ada_tree.specs.Items.{lexemes}
use Rattle.ada_tree.specs.Choices.{stands, opens, comments_of}
use Rattle.ada_tree.specs.Lines.{line}
use Rattle.ada_tree.specs.Rules.{arguments_of}
use Rattle.ada_tree.specs.Texts.{fits_own, own_items, may_be_omitted, is_comment}
use Rattle.ada_tree.specs.Spelling.{is_layout, after_end, has_place, starts_with_comments, ends_with_comments, keeps_comments, argument_place, listed_place, SpellsNode, SpellsKid, SpellsMembers, SpellsListed, SpellsLine, SpellsArguments, by_line, in_parentheses, one, any, many, listed, some_listed, none_listed, some_variables, no_variables, end_with_comments, end_without, member_with_comments, member_without, last, and_more, done, its_word, its_mark, its_text, omitted, its_kid, its_members, its_arguments, given, left_out, shown, hidden, laid_out, note_begins, note_ends, no_more, an_argument, in_number, no_in_number, a_list, no_list}
use Rattle.ada_tree.proofs.Trees.{Tree, Forest, tree, no_trees, ◌&◌, grown, all_grown, folded, all_folded}
use Rattle.ada_tree.proofs.evaluator.Ways.{same_texts, same_lexeme, Way, fails, takes_nothing, sequence, either, choose, guarded, is_token, takes_token, takes_tokens, takes_comments}
use Rattle.ada_tree.proofs.evaluator.Lines.{Ways, silent, left_out_part, empty_lists, consistent, member_ways, listed_ways, placed, with_first, list_argument_ways, last_argument_ways, argument_ways, line_ways, plain_ways, bracketed, node_ways, all_ways, layer_ways}
use Rattle.ada_tree.proofs.evaluator.Sound.{Sound, AllSound, no_ways, some_ways, layer_sound, silent_same, none_same, empty_lists_same, empty_same, consistent_same}
use Rattle.ada_tree.proofs.evaluator.Tests.{is_spelled}

-- ---- elements

pub data Has {A : Type 0} (x : A) : List A → Type 0 where
  here : {xs : List A} → Has x (x ∷ xs)
  there : {y : A} {xs : List A} → Has x xs → Has x (y ∷ xs)

has_left : {A : Type 0} {x : A} {xs : List A} (ys : List A) → Has x xs → Has x (xs ++ ys)
has_left ys here = here
has_left ys (there h) = there (has_left ys h)

has_right : {A : Type 0} {x : A} (xs : List A) {ys : List A} → Has x ys → Has x (xs ++ ys)
has_right [] h = h
has_right (y ∷ xs) h = there (has_right xs h)

has_flat : {A B : Type 0} {x : A} {y : B} {ys : List B} (f : B → List A) → Has y ys → Has x (f y) → Has x (flat_map f ys)
has_flat f (here {xs = ys}) h = has_left (flat_map f ys) h
has_flat f (there {y = z} g) h = has_right (f z) (has_flat f g h)

empty_found : {A : Type 0} {xs : List (List A)} → Has [] xs → list_any is_empty xs ≡ true
empty_found here = refl
empty_found (there {y = []} h) = refl
empty_found (there {y = y ∷ ys} h) = empty_found h

-- ---- ways

-- of these events the way may leave this rest
pub record Leaves (way : Way) (events rest : List Event) : Type 0 where
  pub at : Has rest (way events)

nothing_leaves : (events : List Event) → Leaves takes_nothing events events
nothing_leaves events = record { at = here }

sequence_leaves : {p q : Way} {events middle rest : List Event} → Leaves p events middle → Leaves q middle rest → Leaves (sequence p q) events rest
sequence_leaves {q = q} g h = record { at = has_flat q g.at h.at }

left_leaves : {p : Way} (q : Way) {events rest : List Event} → Leaves p events rest → Leaves (either p q) events rest
left_leaves q {events = events} g = record { at = has_left (q events) g.at }

right_leaves : (p : Way) {q : Way} {events rest : List Event} → Leaves q events rest → Leaves (either p q) events rest
right_leaves p {events = events} h = record { at = has_right (p events) h.at }

first_leaves : {p : Way} (q : Way) {events rest : List Event} (test : Bool) → test ≡ true → Leaves p events rest → Leaves (choose test p q) events rest
first_leaves q true e h = h
first_leaves q false e h = absurd cc

second_leaves : (p : Way) {q : Way} {events rest : List Event} (test : Bool) → test ≡ false → Leaves q events rest → Leaves (choose test p q) events rest
second_leaves p false e h = h
second_leaves p true e h = absurd cc

guard_leaves : {p : Way} {events rest : List Event} (test : Bool) → test ≡ true → Leaves p events rest → Leaves (guarded test p) events rest
guard_leaves test e h = first_leaves fails test e h

same_texts_self : (xs : List (List ℕ)) → same_texts xs xs ≡ true
same_texts_self [] = refl
same_texts_self (x ∷ xs) = and_from (bytes_eq x x) (same_texts xs xs) ((bytes_eq-Decides x x).1 refl) (same_texts_self xs)

same_lexeme_self : (a : Lexeme) → same_lexeme a a ≡ true
same_lexeme_self (a_name a) = (bytes_eq-Decides a a).1 refl
same_lexeme_self (a_number a) = (bytes_eq-Decides a a).1 refl
same_lexeme_self (a_word a) = true_same word_row.the_type a a refl
same_lexeme_self (a_mark a) = true_same mark_row.the_type a a refl

is_token_self : (note : Bool) (lexeme : Lexeme) → is_token note lexeme (spelled note lexeme) ≡ true
is_token_self note lexeme = and_from (beq note note) (same_lexeme lexeme lexeme) ((booleans_Decides note note).1 refl) (same_lexeme_self lexeme)

token_leaves : (note : Bool) (lexeme : Lexeme) (events : List Event) → Leaves (takes_token note lexeme) (spelled note lexeme ∷ events) events
token_leaves note lexeme events = record { at = (first_leaves {p = takes_nothing} fails (is_token note lexeme (spelled note lexeme)) (is_token_self note lexeme) (nothing_leaves events)).at }

tokens_leave : (note : Bool) (those : List Lexeme) (events : List Event) → Leaves (takes_tokens note those) (spell note those events) events
tokens_leave note [] events = nothing_leaves events
tokens_leave note (lexeme ∷ those) events = sequence_leaves (token_leaves note lexeme (spell note those events)) (tokens_leave note those events)

comments_leave : (notes : List (List ℕ)) (events : List Event) → Leaves (takes_comments notes) (comments notes ∷ events) events
comments_leave notes events = record { at = (first_leaves {p = takes_nothing} fails (same_texts notes notes) (same_texts_self notes) (nothing_leaves events)).at }

-- ---- ways to read a node are complete

pub record Complete (w : Ways) (n : Node) : Type 0 where
  pub sound : Sound w n
  pub node : (note : Bool) (place : Choice) (events rest : List Event) → SpellsNode note place n events rest → Leaves (w.node note place) events rest
  pub kid : (note : Bool) (shape : Shape) (events rest : List Event) → SpellsKid note shape n events rest → Leaves (w.kid note shape) events rest
  pub arguments : (note : Bool) (those : List Argument) (events rest : List Event) → is_list n ≡ true → is_silent n ≡ true → SpellsArguments note those (kids_of n) events rest → Leaves (w.arguments note those) events rest

pub data AllComplete : List Ways → List Node → Type 0 where
  no_complete : AllComplete [] []
  some_complete : {w : Ways} {n : Node} {ws : List Ways} {ns : List Node} → Complete w n → AllComplete ws ns → AllComplete (w ∷ ws) (n ∷ ns)

all_sound : {ws : List Ways} {ns : List Node} → AllComplete ws ns → AllSound ws ns
all_sound no_complete = no_ways
all_sound (some_complete s all) = some_ways s.sound (all_sound all)

drop_complete : (count : ℕ) {ws : List Ways} {ns : List Node} → AllComplete ws ns → AllComplete (drop count ws) (drop count ns)
drop_complete zero all = all
drop_complete (suc count) no_complete = no_complete
drop_complete (suc count) (some_complete s all) = drop_complete count all

none_left : {ws : List Ways} → AllComplete ws [] → is_empty ws ≡ true
none_left no_complete = refl

-- ---- lists

members_complete : {ws : List Ways} {ns : List Node} → AllComplete ws ns → (note : Bool) (place : Choice) (first : Bool) (notes : List (List ℕ)) (events rest : List Event)
    → SpellsMembers note place first ns notes events rest → Leaves (member_ways ws note place first notes) events rest
members_complete no_complete note place first notes events rest (end_with_comments e c) =
    first_leaves (guarded (is_empty notes) takes_nothing) (ends_with_comments (comments_of place)) e (guard_leaves (list_all is_comment notes) c (comments_leave notes rest))
members_complete no_complete note place first notes events rest (end_without e) = second_leaves (guarded true (takes_comments [])) (ends_with_comments (comments_of place)) e (nothing_leaves events)
members_complete (some_complete {w = w} {n = n} {ws = ws} s all) note place first notes events rest (member_with_comments {events = others} {middle = middle} e c d ds) =
    first_leaves (guarded (keeps_comments (comments_of place) || silent w) (sequence (w.node note place) (member_ways ws note place false notes)))
    (starts_with_comments (comments_of place) first) e (guard_leaves (list_all is_comment w.notes) (sym (ap (list_all is_comment) s.sound.notes) ∙ c)
    (sequence_leaves (subst (λ (xs : List (List ℕ)). Leaves (takes_comments xs) (comments (notes_of n) ∷ others) others) s.sound.notes (comments_leave (notes_of n) others))
    (sequence_leaves (s.node note place others middle d) (members_complete all note place false notes middle rest ds))))
members_complete (some_complete {w = w} {ws = ws} s all) note place first notes events rest (member_without {middle = middle} e q d ds) =
    second_leaves (guarded (list_all is_comment w.notes) (sequence (takes_comments w.notes) (sequence (w.node note place) (member_ways ws note place false notes))))
    (starts_with_comments (comments_of place) first) e (guard_leaves (keeps_comments (comments_of place) || silent w)
    (ap (λ (b : Bool). keeps_comments (comments_of place) || b) (sym (silent_same s.sound)) ∙ q)
    (sequence_leaves (s.node note place events middle d) (members_complete all note place false notes middle rest ds)))

listed_complete : {ws : List Ways} {ns : List Node} → AllComplete ws ns → (note : Bool) (place : Choice) (m : Mark) (events rest : List Event)
    → SpellsListed note place m ns events rest → Leaves (listed_ways ws note place m) events rest
listed_complete no_complete note place m events rest d = elim d [ ]
listed_complete (some_complete {w = w} {ws = ws} s all) note place m events rest (last q d) =
    guard_leaves (silent w) (sym (silent_same s.sound) ∙ q)
    (left_leaves (sequence (sequence (w.node note place) (takes_token note (a_mark m))) (listed_ways ws note place m)) (guard_leaves (is_empty ws) (none_left all) (s.node note place events rest d)))
listed_complete (some_complete {w = w} {ws = ws} s all) note place m events rest (and_more {middle = middle} q d ds) =
    guard_leaves (silent w) (sym (silent_same s.sound) ∙ q) (right_leaves (guarded (is_empty ws) (w.node note place))
    (sequence_leaves (sequence_leaves (s.node note place events (spelled note (a_mark m) ∷ middle) d) (token_leaves note (a_mark m) middle)) (listed_complete all note place m middle rest ds)))

-- ---- arguments

placed_leaves : (way : Choice → Way) {events rest : List Event} (o : Option Choice) (place : Choice) → o ≡ Some place → Leaves (way place) events rest → Leaves (placed o way) events rest
placed_leaves way {events = events} {rest = rest} o place e h = subst (λ (x : Option Choice). Leaves (placed x way) events rest) (sym e) h

last_leaves : (a : Argument) (place : Choice) (ws : List Ways) (note : Bool) (events rest : List Event) → listed_place a ≡ Some place → Leaves (list_argument_ways ws note place) events rest → Leaves (last_argument_ways a [] ws note) events rest
last_leaves argument.InNumber place ws note events rest e h = absurd cc
last_leaves a place ws note events rest e h = placed_leaves (list_argument_ways ws note) (listed_place a) place e h

list_argument_leaves : {ws : List Ways} {ns : List Node} → AllComplete ws ns → (note : Bool) (place : Choice) (others rest : List Event) → SpellsListed note place mark.Comma ns others (spelled note (a_mark mark.Close) ∷ rest)
    → Leaves (list_argument_ways ws note place) (spelled note (a_mark mark.Open) ∷ others) rest
list_argument_leaves no_complete note place others rest d = elim d [ ]
list_argument_leaves (some_complete s more) note place others rest d =
    sequence_leaves (token_leaves note (a_mark mark.Open) others)
    (sequence_leaves (listed_complete (some_complete s more) note place mark.Comma others (spelled note (a_mark mark.Close) ∷ rest) d) (token_leaves note (a_mark mark.Close) rest))

abbrev first_ways : Argument → List Argument → Bool → Ways → List Ways → Way
first_ways a others note w more = placed (argument_place a) (λ place. guarded (silent w) (sequence (w.node note place) (argument_ways others more note)))

arguments_complete : (those : List Argument) {ws : List Ways} {ns : List Node} → AllComplete ws ns → (note : Bool) (events rest : List Event) → SpellsArguments note those ns events rest → Leaves (argument_ways those ws note) events rest
arguments_complete [] no_complete note events rest no_more = nothing_leaves rest
arguments_complete [] (some_complete s all) note events rest d = elim d [ ]
arguments_complete (a ∷ others) (some_complete {w = w} {ws = ws} s all) note events rest (an_argument {place = place} {middle = middle} p q d ds) =
    left_leaves (last_argument_ways a others (w ∷ ws) note)
    (placed_leaves (λ place. guarded (silent w) (sequence (w.node note place) (argument_ways others ws note))) (argument_place a) place p (guard_leaves (silent w) (sym (silent_same s.sound) ∙ q)
    (sequence_leaves (s.node note place events middle d) (arguments_complete others all note middle rest ds))))
arguments_complete (a ∷ []) (some_complete {w = w} s no_complete) note events rest (in_number {events = others} q d) =
    right_leaves (with_first (w ∷ []) (first_ways argument.InNumber [] note))
    (guard_leaves (silent w) (sym (silent_same s.sound) ∙ q) (sequence_leaves (token_leaves note (a_word word.In) others) (s.node note (choice.Only kind.Int) others rest d)))
arguments_complete (a ∷ []) no_complete note events rest no_in_number = right_leaves (with_first [] (first_ways argument.InNumber [] note)) (nothing_leaves rest)
arguments_complete (a ∷ []) {ws = ws} all note events rest (a_list {place = place} {events = others} p d) =
    right_leaves (with_first ws (first_ways a [] note)) (last_leaves a place ws note events rest p (list_argument_leaves all note place others rest d))
arguments_complete (a ∷ []) no_complete note events rest (no_list {place = place} p) =
    right_leaves (with_first [] (first_ways a [] note)) (last_leaves a place [] note events rest p (nothing_leaves rest))

-- ---- lines

abbrev rest_ways : List Piece → Bool → Bool → Node → List Ways → Way
rest_ways pieces skips note n ws = line_ways pieces skips note (text_of n) (notes_of n) ws

skipped : (pieces : List Piece) (note : Bool) (n : Node) (ws : List Ways) (events rest : List Event) → Leaves (rest_ways (after_end pieces) false note n ws) events rest → Leaves (rest_ways pieces true note n ws) events rest
skipped [] note n ws events rest h = h
skipped (End ∷ pieces) note n ws events rest h = h
skipped (_ ∷ pieces) note n ws events rest h = skipped pieces note n ws events rest h

-- a piece of layout changes nothing
laid : (piece : Piece) (pieces : List Piece) (note : Bool) (n : Node) (ws : List Ways) (events rest : List Event) → is_layout piece ≡ true → Leaves (rest_ways pieces false note n ws) events rest → Leaves (rest_ways (piece ∷ pieces) false note n ws) events rest
laid Indent pieces note n ws events rest e h = h
laid Outdent pieces note n ws events rest e h = h
laid Glue pieces note n ws events rest e h = h
laid End pieces note n ws events rest e h = h
laid _ pieces note n ws events rest e h = absurd cc

line_complete : {pieces : List Piece} {note : Bool} {n : Node} {ns : List Node} {events rest : List Event} → SpellsLine note pieces n ns events rest → (ws : List Ways) → AllComplete ws ns
    → Leaves (rest_ways pieces false note n ws) events rest
line_complete {rest = rest} done ws no_complete = nothing_leaves rest
line_complete {note = note} (its_word {w = w} {events = others} d) ws all = sequence_leaves (token_leaves note (a_word w) others) (line_complete d ws all)
line_complete {note = note} (its_mark {m = m} {events = others} d) ws all = sequence_leaves (token_leaves note (a_mark m) others) (line_complete d ws all)
line_complete {note = note} {n = n} {rest = rest} (its_text {own = own} {pieces = pieces} {middle = middle} f e d) ws all =
    guard_leaves (fits_own note own (text_of n)) f (left_leaves (guarded (may_be_omitted own (text_of n)) (rest_ways pieces false note n ws))
    (sequence_leaves (subst (λ (xs : List Event). Leaves (takes_tokens note (lexemes (own_items own (text_of n)))) xs middle) (sym e) (tokens_leave note (lexemes (own_items own (text_of n))) middle)) (line_complete d ws all)))
line_complete {note = note} {n = n} (omitted {own = own} {pieces = pieces} f o d) ws all =
    guard_leaves (fits_own note own (text_of n)) f (right_leaves (sequence (takes_tokens note (lexemes (own_items own (text_of n)))) (rest_ways pieces false note n ws))
    (guard_leaves (may_be_omitted own (text_of n)) o (line_complete d ws all)))
line_complete {note = note} {events = events} (its_kid {shape = shape} {middle = middle} d ds) those (some_complete {w = w} {ws = ws} s all) = sequence_leaves (s.kid note shape events middle d) (line_complete ds ws all)
line_complete {note = note} {n = n} {events = events} {rest = rest} (its_members {place = place} d) ws all = members_complete all note place true (notes_of n) events rest d
line_complete {note = note} {n = n} {events = events} (its_arguments {middle = middle} l q d ds) those (some_complete {w = w} {ws = ws} s all) =
    sequence_leaves (s.arguments note (arguments_of (text_of n)) events middle l q d) (line_complete ds ws all)
line_complete {note = note} {n = n} (given {pieces = pieces} d) ws all =
    left_leaves (with_first ws (λ w more. guarded (left_out_part w) (rest_ways pieces true note n more))) (line_complete d ws all)
line_complete {note = note} {n = n} {events = events} {rest = rest} (left_out {pieces = pieces} e d) those (some_complete {w = w} {ws = ws} s all) =
    right_leaves (rest_ways pieces false note n (w ∷ ws)) (guard_leaves (left_out_part w) (sym (none_same s.sound) ∙ e) (skipped pieces note n ws events rest (line_complete d ws all)))
line_complete {note = note} {n = n} (shown {count = count} {pieces = pieces} e d) ws all =
    second_leaves (rest_ways pieces true note n (drop count ws)) (empty_lists count ws) (sym (empty_lists_same count (all_sound all)) ∙ e) (line_complete d ws all)
line_complete {note = note} {n = n} {events = events} {rest = rest} (hidden {count = count} {pieces = pieces} e d) ws all =
    first_leaves (rest_ways pieces false note n ws) (empty_lists count ws) (sym (empty_lists_same count (all_sound all)) ∙ e)
    (skipped pieces note n (drop count ws) events rest (line_complete d (drop count ws) (drop_complete count all)))
line_complete {note = note} {n = n} {events = events} {rest = rest} (laid_out {piece = piece} {pieces = pieces} e d) ws all = laid piece pieces note n ws events rest e (line_complete d ws all)
line_complete (note_begins d) ws all = line_complete d ws all
line_complete (note_ends d) ws all = line_complete d ws all

-- ---- nodes

node_complete : {note : Bool} {place : Choice} {n : Node} {events rest : List Event} → SpellsNode note place n events rest → (ws : List Ways) → AllComplete ws (kids_of n)
    → Leaves (node_ways (kind_of n) (text_of n) (notes_of n) ws note place) events rest
node_complete {note = note} {place = place} {n = n} {events = events} {rest = rest} (by_line stood h c d) ws all = around events (plainly events rest d)
  where
    plain : Choice → Way
    plain = plain_ways (kind_of n) (text_of n) (notes_of n) ws note

    plainly : (events rest : List Event) → SpellsLine note (line place (kind_of n) (text_of n)) n (kids_of n) events rest → Leaves (plain_ways (kind_of n) (text_of n) (notes_of n) ws note place) events rest
    plainly events rest d = guard_leaves (stands note place (kind_of n) (text_of n)) stood
        (guard_leaves (has_place (line place (kind_of n) (text_of n)) (text_of n) && consistent (kind_of n) (text_of n) ws)
        (and_from (has_place (line place (kind_of n) (text_of n)) (text_of n)) (consistent (kind_of n) (text_of n) ws) h (sym (consistent_same (kind_of n) (text_of n) (all_sound all)) ∙ c))
        (line_complete d ws all))

    around : (events : List Event) → Leaves (plain_ways (kind_of n) (text_of n) (notes_of n) ws note place) events rest → Leaves (node_ways (kind_of n) (text_of n) (notes_of n) ws note place) events rest
    around [] d = record { at = d.at }
    around (event ∷ events) d = record {
      at = has_left (guarded (opens place && is_token note (a_mark mark.Open) event)
          (λ all. flat_map (takes_token note (a_mark mark.Close)) (bracketed note (plain_ways (kind_of n) (text_of n) (notes_of n) ws note) choice.Expr events)) (event ∷ events)) d.at;
    }
node_complete {note = note} {place = place} {n = n} {rest = rest} (in_parentheses {events = events} o d) ws all = record {
  at = has_right (plain_ways (kind_of n) (text_of n) (notes_of n) ws note place (spelled note (a_mark mark.Open) ∷ events))
      (guard_leaves {p = λ all. flat_map (takes_token note (a_mark mark.Close)) (bracketed note (plain_ways (kind_of n) (text_of n) (notes_of n) ws note) choice.Expr events)} {events = spelled note (a_mark mark.Open) ∷ events}
      (opens place && is_token note (a_mark mark.Open) (spelled note (a_mark mark.Open)))
      (and_from (opens place) (is_token note (a_mark mark.Open) (spelled note (a_mark mark.Open))) o (is_token_self note (a_mark mark.Open)))
      record { at = has_flat (takes_token note (a_mark mark.Close)) (node_complete d ws all).at (token_leaves note (a_mark mark.Close) rest).at }).at;
}

kid_complete : {note : Bool} {shape : Shape} {n : Node} {events rest : List Event} → SpellsKid note shape n events rest → (ws : List Ways) → AllComplete ws (kids_of n)
    → Leaves ((all_ways (kind_of n) (text_of n) (notes_of n) ws).kid note shape) events rest
kid_complete {n = n} (one q d) ws all = guard_leaves (is_silent n) q (node_complete d ws all)
kid_complete {note = note} {n = n} {events = events} {rest = rest} (any {place = place} l d) ws all = guard_leaves (is_list n) l (members_complete all note place true (notes_of n) events rest d)
kid_complete {note = note} {n = n} {events = events} {rest = rest} (many {place = place} l z d) ws all =
    guard_leaves (is_list n && not (is_empty ws)) (and_from (is_list n) (not (is_empty ws)) l (ap not (sym (empty_same (all_sound all)) ∙ z)))
    (members_complete all note place true (notes_of n) events rest d)
kid_complete {note = note} {n = n} {events = events} {rest = rest} (listed {place = place} {m = m} l q d) ws all =
    guard_leaves (is_list n && is_silent n) (and_from (is_list n) (is_silent n) l q) (listed_complete all note place m events rest d)
kid_complete {note = note} {n = n} {events = events} {rest = rest} (some_listed {place = place} {m = m} l q d) ws all =
    left_leaves (guarded (is_list n && is_silent n && is_empty ws) takes_nothing)
    (guard_leaves (is_list n && is_silent n) (and_from (is_list n) (is_silent n) l q) (listed_complete all note place m events rest d))
kid_complete {note = note} {n = n} {rest = rest} (none_listed {place = place} {m = m} e) ws all =
    right_leaves (guarded (is_list n && is_silent n) (listed_ways ws note place m))
    (guard_leaves (is_list n && is_silent n && is_empty ws) (ap (λ (b : Bool). is_list n && is_silent n && b) (sym (empty_same (all_sound all))) ∙ e) (nothing_leaves rest))
kid_complete {note = note} {n = n} {rest = rest} (some_variables {events = events} l q d) ws all =
    left_leaves (guarded (is_list n && is_silent n && is_empty ws) takes_nothing)
    (guard_leaves (is_list n && is_silent n) (and_from (is_list n) (is_silent n) l q)
    (sequence_leaves (token_leaves note (a_word word.For) (spelled note (a_word word.All) ∷ events)) (sequence_leaves (token_leaves note (a_word word.All) events)
    (listed_complete all note (choice.Only kind.Vars) mark.Semicolon events rest d))))
kid_complete {note = note} {n = n} {rest = rest} (no_variables e) ws all =
    right_leaves (guarded (is_list n && is_silent n) (sequence (takes_token note (a_word word.For)) (sequence (takes_token note (a_word word.All)) (listed_ways ws note (choice.Only kind.Vars) mark.Semicolon))))
    (guard_leaves (is_list n && is_silent n && is_empty ws) (ap (λ (b : Bool). is_list n && is_silent n && b) (sym (empty_same (all_sound all))) ∙ e) (nothing_leaves rest))

layer_complete : (n : Node) (ws : List Ways) → AllComplete ws (kids_of n) → Complete (all_ways (kind_of n) (text_of n) (notes_of n) ws) n
layer_complete n ws all = record {
  sound = layer_sound n ws (all_sound all);
  node = λ note place events rest d. node_complete d ws all;
  kid = λ note shape events rest d. kid_complete d ws all;
  arguments = λ note those events rest l q d. guard_leaves (is_list n && is_silent n) (and_from (is_list n) (is_silent n) l q) (arguments_complete those all note events rest d);
}

grown_complete : (k : Kind) (text : List ℕ) (notes : List (List ℕ)) (ns : List Node) (ws : List Ways) → AllComplete ws ns → Complete (all_ways k text notes ws) (node_of k text notes ns)
grown_complete k text notes ns ws all =
    let layer : Node-F Node = record { kind = k; text = text; notes = notes; kids = ns } in
    subst (λ (l : Node-F Node). Complete (all_ways l.kind l.text l.notes ws) (roll-Node layer)) (out-roll-Node layer)
    (layer_complete (roll-Node layer) ws (subst (λ (l : Node-F Node). AllComplete ws l.kids) (sym (out-roll-Node layer)) all))

mutual
  pub tree_complete : (t : Tree) → Complete (folded Ways layer_ways t) (grown t)
  tree_complete (tree k text notes kids) = grown_complete k text notes (all_grown kids) (all_folded Ways layer_ways kids) (forest_complete kids)

  pub forest_complete : (ts : Forest) → AllComplete (all_folded Ways layer_ways ts) (all_grown ts)
  forest_complete no_trees = no_complete
  forest_complete (t & ts) = some_complete (tree_complete t) (forest_complete ts)

pub refused : (note : Bool) (place : Choice) (t : Tree) (events : List Event) → is_spelled note place t events ≡ false → SpellsNode note place (grown t) events [] → ⊥
refused note place t events h d = let e : is_spelled note place t events ≡ true = empty_found ((tree_complete t).node note place events [] d).at in cc
