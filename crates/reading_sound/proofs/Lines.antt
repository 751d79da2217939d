-- The line of a node, read from its traces.
use Rattle.std.proofs.Common.{◌≡◌, ℕ, zero, suc, ◌+◌, List, [], ◌∷◌, ◌++◌, refl, sym, ◌∙◌, ap, subst, Bool, true, false, not, ◌&&◌, ◌||◌, nat_eq, Option, Some, None, append_assoc, length-append, length, arith, eqb-true}
use Rattle.std.specs.Prelude.{cond, take, drop, option_and_then}
use Rattle.std.specs.Option.{option_map_or}
use Rattle.std.specs.List.{list_any}
use Rattle.std.proofs.lemmas.Bool.{not-true}
use Rattle.ada_tree.specs.declared.grammar.Argument.{Argument}
use Rattle.ada_tree.specs.declared.grammar.Own.{Own as OwnText}
use Rattle.ada_tree.specs.declared.grammar.Own.TheVariants as own
use Rattle.ada_tree.specs.declared.grammar.Piece.{Piece}
use Rattle.ada_tree.specs.declared.grammar.Piece.TheVariants.{Word as a_word_piece, Mark as a_mark_piece, Own, Kid, Members, Arguments, Option as Optional, Shown, End, Indent, Outdent, Glue, NoteOn, NoteOff}
use Rattle.ada_tree.specs.declared.kind.Kind.TheVariants as kind
use Rattle.ada_tree.specs.declared.node.Node.{Node, Node-F, out-roll-Node}
use denote.Enum.Bare.{same_true}
use Rattle.ada_tree.specs.contracts.kind.Kind as kind_row
use Rattle.ada_tree.specs.Kinds.{is_kind}
use Rattle.ada_tree.specs.Nodes.{text_of, kids_of, is_empty, is_empty_list, is_none, are_empty, node_of}
use Rattle.ada_tree.specs.Rules.{arguments_of}
use Rattle.ada_tree.specs.Spelling.{SpellsLine, SpellsArguments, after_end, done, its_word, its_mark, its_text, omitted, its_kid, its_arguments, given, left_out, shown, hidden, laid_out, note_begins, note_ends}
use Rattle.ada_tree.specs.Texts.{is_name, is_big, fits_own, own_items, may_be_omitted, name_items}
use Rattle.ada_tree.specs.Tokens.{Event, Lexeme, spelled, spell, a_name, a_word, a_mark}
use Rattle.ada_tree.specs.Items.{lexemes}
use Rattle.reading_table.specs.declared.held.Held.{Held}
use Rattle.reading_table.specs.declared.held.Held.TheVariants as held
use Rattle.reading_table.specs.Reading.{is_side}
use Rattle.reading_table.specs.States.{text_in, nodes_in, text_below}
use Rattle.text_laws.proofs.round_trip.Places.{both}
use Rattle.ada_tree.proofs.evaluator.Sound.{seen}
use Rattle.reading_sound.proofs.Arguments.{argument_list_read}
use Rattle.ada_tree.proofs.evaluator.Ways.{same_lexeme, same_lexeme_is}
use Rattle.reading_sound.proofs.Equal.{if_so_some, one_side}
use Rattle.reading_sound.proofs.Kids.{kid_read, holds_none, holds_list, holds_kids, holds_silent}
use Rattle.reading_sound.proofs.Lists.{holding, path_at}
use Rattle.reading_sound.proofs.Meaning.{IsText, writes, tells, begins, omits, closes, recalls, Path, at_end, next}
use Rattle.reading_sound.proofs.Traces.{Trace, written, told, begun, absent, closing, recalled, if_so}
use Rattle.reading_sound.proofs.Owned.{expected, owned, omitted_text, named_text, arguments_known}
use Rattle.reading_sound.proofs.Words.{big_is_named}
use Rattle.reading_sound.proofs.Walks.{omits as omits_text}
use Rattle.reading_sound.proofs.Walks.{values_of, may_be, is_list_kind, owns, is_name_text, arguments_told, past_text, past_closing, Place, before, after, one_more, more_ago, is_due, fills, falses, if_full, past_token, past_empty, past_own, past_recall, past_kid, past_argument_list, arguments_at}

-- ---- the text of the node

-- what is known of the values at a place in the line
abbrev pub IsKnown : Place → List Held → Type 0
IsKnown (before due known) v = Unit {0}
IsKnown (after n name due args) v = (name ≡ true → is_name false (text_below n v) ≡ true) × ((known : List Argument) → args ≡ Some known → arguments_of (text_below n v) ≡ known)

-- the node's text is the one that has been read, if it has been
abbrev pub IsKept : Place → List Held → List ℕ → Type 0
IsKept (before due known) v text = (due ≡ false → text ≡ []) × (due ≡ true → (t : List ℕ) → known ≡ Some t → text ≡ t)
IsKept (after n name due args) v text = text ≡ text_below n v

-- the text among the values that are still to come
abbrev pub Tells : Place → Bool → List Held → List ℕ → Type 0
Tells (before due known) again pushed text = text_in pushed ≡ text
Tells (after n name due args) again pushed text = (others : List Held) → text_in (pushed ++ others) ≡ cond again text (text_in others)

-- kids that are lists with members
pub data AreFull : List Bool → List Node → Type 0 where
  no_kids : AreFull [] []
  a_kid : {b : Bool} {kid : Node} {fulls : List Bool} {kids : List Node} → (b ≡ true → is_empty_list kid ≡ false) → AreFull fulls kids → AreFull (b ∷ fulls) (kid ∷ kids)

-- ---- lines

-- from these values, kids have been read of which S holds, where the node's text is theirs
pub record Read (S : Node → List Node → Type 0) (place : Place) (v : List Held) (fulls : List Bool) (w : List Held) : Type 0 where
  pub kids : List Node
  pub pushed : List Held
  pub text : List ℕ
  pub again : Bool
  pub values : w ≡ pushed ++ v
  pub nodes : nodes_in pushed ≡ kids
  pub count : length pushed ≡ values_of (is_due place) fulls
  pub tells : Tells place again pushed text
  pub kept : IsKept place v text
  pub due : is_due place ≡ true → again ≡ true
  pub spelled : (node : Node) → text_of node ≡ text → S node kids
  pub full : AreFull fulls kids

abbrev pub LineRead : Bool → List Piece → Place → List Held → List Event → List Bool → List Held → List Event → Type 0
LineRead note pieces place v e fulls w f = Read (λ node kids. SpellsLine note pieces node kids e f) place v fulls w

-- the same values, of which something else holds
said : {S T : Node → List Node → Type 0} {place : Place} {v w : List Held} {fulls : List Bool} (r : Read S place v fulls w) → ((node : Node) → text_of node ≡ r.text → S node r.kids → T node r.kids) → Read T place v fulls w
said r s = record {
  kids = r.kids;
  pushed = r.pushed;
  text = r.text;
  again = r.again;
  values = r.values;
  nodes = r.nodes;
  count = r.count;
  tells = r.tells;
  kept = r.kept;
  due = r.due;
  spelled = λ node t. s node t (r.spelled node t);
  full = r.full;
}

pub nodes_behind : (pushed : List Held) (kid : Node) → nodes_in (pushed ++ held.Tree kid ∷ []) ≡ kid ∷ nodes_in pushed
nodes_behind [] kid = refl
nodes_behind (held.Text text ∷ pushed) kid = nodes_behind pushed kid
nodes_behind (held.Comments notes ∷ pushed) kid = nodes_behind pushed kid
nodes_behind (held.Tree node ∷ pushed) kid = ap (λ nodes. nodes ++ node ∷ []) (nodes_behind pushed kid)

texts_behind : (pushed : List Held) (text : List ℕ) → nodes_in (pushed ++ held.Text text ∷ []) ≡ nodes_in pushed
texts_behind [] text = refl
texts_behind (held.Text other ∷ pushed) text = texts_behind pushed text
texts_behind (held.Comments notes ∷ pushed) text = texts_behind pushed text
texts_behind (held.Tree node ∷ pushed) text = ap (λ nodes. nodes ++ node ∷ []) (texts_behind pushed text)

text_before : (pushed : List Held) (kid : Node) → text_in (pushed ++ held.Tree kid ∷ []) ≡ text_in pushed
text_before [] kid = refl
text_before (held.Text text ∷ pushed) kid = refl
text_before (held.Comments notes ∷ pushed) kid = text_before pushed kid
text_before (held.Tree node ∷ pushed) kid = text_before pushed kid

-- one more kid, before the others
with_kid : {S T : Node → List Node → Type 0} {place : Place} {kid : Node} {b : Bool} {v w : List Held} {fulls : List Bool} (r : Read S (one_more place) (held.Tree kid ∷ v) fulls w)
    → (b ≡ true → is_empty_list kid ≡ false) → ((node : Node) → text_of node ≡ r.text → S node r.kids → T node (kid ∷ r.kids)) → Read T place v (b ∷ fulls) w
with_kid {place = place} {kid = kid} {v = v} {fulls = fulls} r b s = record {
  kids = kid ∷ r.kids;
  pushed = r.pushed ++ held.Tree kid ∷ [];
  text = r.text;
  again = r.again;
  values = r.values ∙ sym (append_assoc r.pushed (held.Tree kid ∷ []) v);
  nodes = nodes_behind r.pushed kid ∙ ap (λ nodes. kid ∷ nodes) r.nodes;
  count = counted place (length-append r.pushed (held.Tree kid ∷ [])) r.count;
  tells = told_at place r.again r.pushed r.text r.tells;
  kept = kept_at place r.text r.kept;
  due = due_at place r.again r.due;
  spelled = λ node t. s node t (r.spelled node t);
  full = a_kid b r.full;
}
  where
    counted : (place : Place) {a b : ℕ} → a ≡ b + 1 → b ≡ values_of (is_due (one_more place)) fulls → a ≡ values_of (is_due place) (true ∷ fulls)
    counted (before true known) h g = omega (arith, h, g)
    counted (before false known) h g = omega (arith, h, g)
    counted (after n name true args) h g = omega (arith, h, g)
    counted (after n name false args) h g = omega (arith, h, g)

    told_at : (place : Place) (again : Bool) (pushed : List Held) (text : List ℕ) → Tells (one_more place) again pushed text → Tells place again (pushed ++ held.Tree kid ∷ []) text
    told_at (before due known) again pushed text h = text_before pushed kid ∙ h
    told_at (after n name due args) again pushed text h = λ others. ap text_in (append_assoc pushed (held.Tree kid ∷ []) others) ∙ h (held.Tree kid ∷ others)

    kept_at : (place : Place) (text : List ℕ) → IsKept (one_more place) (held.Tree kid ∷ v) text → IsKept place v text
    kept_at (before due known) text h = h
    kept_at (after n name due args) text h = h

    due_at : (place : Place) (again : Bool) → (is_due (one_more place) ≡ true → again ≡ true) → is_due place ≡ true → again ≡ true
    due_at (before due known) again h = h
    due_at (after n name due args) again h = h

still_known : (place : Place) (node : Node) (v : List Held) → IsKnown place v → IsKnown (one_more place) (held.Tree node ∷ v)
still_known (before due known) node v k = tt
still_known (after n name due args) node v k = k

-- ---- lists without members

abbrev none_node : Node
none_node = node_of kind.None [] [] []

is_none_node : is_none none_node ≡ true
is_none_node = ap (λ (l : Node-F Node). is_kind l.kind kind.None && is_empty l.text && is_empty l.notes && is_empty l.kids) (out-roll-Node record { kind = kind.None; text = []; notes = []; kids = [] })

some_full : (n : ℕ) {fulls : List Bool} {kids : List Node} → list_any (λ b. b) (take n fulls) ≡ true → AreFull fulls kids → are_empty n kids ≡ false
some_full zero {fulls = fulls} h a = absurd cc
some_full (suc n) h no_kids = refl
some_full (suc n) h (a_kid {b = b} {kid = kid} {fulls = fulls} {kids = kids} full a) = by b full h (λ h. some_full n h a)
  where
    by : (b : Bool) → (b ≡ true → is_empty_list kid ≡ false) → (b || list_any (λ b. b) (take n fulls)) ≡ true → (list_any (λ b. b) (take n fulls) ≡ true → are_empty n kids ≡ false) → (is_empty_list kid && are_empty n kids) ≡ false
    by true full h more = ap (λ b. b && are_empty n kids) (full refl)
    by false full h more = after (is_empty_list kid) (more h)
      where
        after : (a : Bool) {c : Bool} → c ≡ false → (a && c) ≡ false
        after true h = h
        after false h = refl

-- ---- tokens and texts

token_read : {note : Bool} {l : Lexeme} {v w : List Held} {e f : List Event} (traces others : List Trace) → past_token note l traces ≡ Some others → Path traces v e w f
    → (g : List Event) × (spelled note l ∷ g ≡ e) × Path others v g w f
token_read {note = note} {l = l} (written n m ∷ traces) others h (next (writes {e = e}) path) =
    let g = if_so_some (is_side note n && same_lexeme m l) (Some traces) others h in
    let same : traces ≡ others = cc in
    (e, (ap (λ n. spelled n l ∷ e) (one_side note n (both g.0).0) ∙ ap (λ l. spelled n l ∷ e) (sym (same_lexeme_is m l (both g.0).1))), path_at same refl path)
token_read _ others h path = absurd cc

pub some_inside : {A : Type 0} {x y : A} → Some x ≡ Some y → x ≡ y
some_inside {x = x} h = ap (λ o. option_map_or (λ y. y) o x) h

-- what is read from here on
abbrev Onward : Bool → List Piece → Place × List Trace → List Bool → List Held → List Event → Type 0
Onward note pieces r fulls w f = (v : List Held) (e : List Event) → IsKnown r.0 v → Path r.1 v e w f → LineRead note pieces r.0 v e fulls w f

onward : {note : Bool} {pieces : List Piece} {place : Place} {traces : List Trace} {fulls : List Bool} {v w : List Held} {e f : List Event} (r : Place × List Trace) → (place, traces) ≡ r → Onward note pieces r fulls w f
    → IsKnown place v → Path traces v e w f → LineRead note pieces place v e fulls w f
onward {note = note} {pieces = pieces} {fulls = fulls} {v = v} {w = w} {e = e} {f = f} r q more = subst (λ (r : Place × List Trace). Onward note pieces r fulls w f) (sym q) more v e

one_counted : {a b : ℕ} (fulls : List Bool) → a ≡ b + 1 → b ≡ values_of false fulls → a ≡ values_of true fulls
one_counted fulls h g = omega (arith, h, g)

cond_same : (b : Bool) (x y : List ℕ) → x ≡ y → cond b x y ≡ x
cond_same true x y h = refl
cond_same false x y h = sym h

-- a text that is a value once more
recall_read : {note : Bool} {pieces : List Piece} {fulls : List Bool} {v w : List Held} {e f : List Event} (place : Place) (traces : List Trace) (r : Place × List Trace) → past_recall place traces ≡ Some r
    → Onward note pieces r fulls w f → IsKnown place v → Path traces v e w f → LineRead note pieces place v e fulls w f
recall_read {note = note} {pieces = pieces} {fulls = fulls} {v = v} {w = w} {e = e} {f = f} (after n name due args) (recalled d ∷ traces) r h more k (next recalls path) =
    let g = if_so_some (due && nat_eq n d) (Some (after (suc n) name false args, traces)) r h in
    again (both g.0).0 (onward r (some_inside g.1) more k path) (ap (λ d. text_below d v) (sym (eqb-true n d (both g.0).1)))
  where
    again : due ≡ true → (r : LineRead note pieces (after (suc n) name false args) (held.Text (text_below d v) ∷ v) e fulls w f) → text_below d v ≡ text_below n v → LineRead note pieces (after n name due args) v e fulls w f
    again x r q = record {
      kids = r.kids;
      pushed = r.pushed ++ held.Text (text_below d v) ∷ [];
      text = r.text;
      again = true;
      values = r.values ∙ sym (append_assoc r.pushed (held.Text (text_below d v) ∷ []) v);
      nodes = texts_behind r.pushed (text_below d v) ∙ r.nodes;
      count = one_counted fulls (length-append r.pushed (held.Text (text_below d v) ∷ [])) r.count ∙ ap (λ b. values_of b fulls) (sym x);
      tells = λ others. ap text_in (append_assoc r.pushed (held.Text (text_below d v) ∷ []) others) ∙ r.tells (held.Text (text_below d v) ∷ others) ∙ cond_same r.again r.text (text_below d v) (r.kept ∙ sym q);
      kept = r.kept;
      due = λ h. refl;
      spelled = r.spelled;
      full = r.full;
    }
recall_read (before due known) traces r h more k path = onward r (some_inside h) more k path
recall_read (after n name due args) _ r h more k path = onward r (some_inside h) more k path

-- a text, and its piece
text_read : {note : Bool} {pieces : List Piece} {fulls : List Bool} {v w : List Held} {e f : List Event} (o : OwnText) (place : Place) (traces : List Trace) (r : Place × List Trace) → past_text note o place traces ≡ Some r
    → Onward note pieces r fulls w f → Path traces v e w f → LineRead note (Own o ∷ pieces) place v e fulls w f
text_read {note = note} {pieces = pieces} {fulls = fulls} {v = v} {w = w} {e = e} {f = f} o (before true known) (told n t ∷ traces) r h more (next (tells {text = text} {f = g} ls m q) path) =
    let s = if_so_some (is_side note n && (owns note o t || omits_text note o t) && may_be known t) (Some (after 0 (is_name_text note t) false (arguments_told t), traces)) r h in
    let side = one_side note n (both (both s.0).0).0 in
    let m = subst (λ n. IsText n t text ls) (sym side) m in
    by (expected note known t text ls (both s.0).1 m) (owns note o t) refl (both (both s.0).0).1 m (q ∙ ap (λ n. spell n ls g) (sym side))
    (onward {v = held.Text text ∷ v} r (some_inside s.1) more ((λ h. named_text note t text ls h m), (λ known h. arguments_known note t text ls known h m)) path)
  where
    told_here : {d : List Event} → ((u : List ℕ) → known ≡ Some u → text ≡ u) → (r : LineRead note pieces (after 0 (is_name_text note t) false (arguments_told t)) (held.Text text ∷ v) g fulls w f)
        → ((node : Node) → text_of node ≡ text → SpellsLine note pieces node r.kids g f → SpellsLine note (Own o ∷ pieces) node r.kids d f) → LineRead note (Own o ∷ pieces) (before true known) v d fulls w f
    told_here x r s = record {
      kids = r.kids;
      pushed = r.pushed ++ held.Text text ∷ [];
      text = r.text;
      again = true;
      values = r.values ∙ sym (append_assoc r.pushed (held.Text text ∷ []) v);
      nodes = texts_behind r.pushed text ∙ r.nodes;
      count = one_counted fulls (length-append r.pushed (held.Text text ∷ [])) r.count;
      tells = r.tells (held.Text text ∷ []) ∙ cond_same r.again r.text text r.kept;
      kept = ((λ h. absurd cc), (λ h u g. r.kept ∙ x u g));
      due = λ h. refl;
      spelled = λ node t. s node (t ∙ r.kept) (r.spelled node t);
      full = r.full;
    }

    by : ((u : List ℕ) → known ≡ Some u → text ≡ u) → (b : Bool) {d : List Event} → owns note o t ≡ b → (b || omits_text note o t) ≡ true → IsText note t text ls → d ≡ spell note ls g
        → LineRead note pieces (after 0 (is_name_text note t) false (arguments_told t)) (held.Text text ∷ v) g fulls w f → LineRead note (Own o ∷ pieces) (before true known) v d fulls w f
    by z true x y m q r =
        let p = owned note o t text ls x m in
        told_here z r (λ node z s. its_text (ap (fits_own note o) z ∙ p.0) (q ∙ ap (λ ls. spell note ls g) p.1 ∙ ap (λ t. spell note (lexemes (own_items o t)) g) (sym z)) s)
    by z false x y m q r =
        let p = omitted_text note o t text ls y m in
        told_here z r (λ node z s. subst (λ d. SpellsLine note (Own o ∷ pieces) node r.kids d f) (sym (q ∙ ap (λ ls. spell note ls g) p.2)) (omitted (ap (fits_own note o) z ∙ p.0) (ap (may_be_omitted o) z ∙ p.1) s))
text_read o _ _ r h more path = absurd cc

-- a closing name, or none
closing_read : {pieces : List Piece} {fulls : List Bool} {v w : List Held} {e f : List Event} (place : Place) (traces : List Trace) (r : Place × List Trace) → past_closing place traces ≡ Some r
    → Onward false pieces r fulls w f → IsKnown place v → Path traces v e w f → LineRead false (Own own.Closing ∷ pieces) place v e fulls w f
closing_read {v = v} {f = f} (after n true due args) (closing o d ∷ traces) r h more k (next (closes {e = e} b) path) =
    let g = if_so_some (not o && nat_eq n d) (past_recall (after n true due args) traces) r h in
    let l = recall_read (after n true due args) traces r g.1 more k path in
    let same : text_below d v ≡ l.text = ap (λ d. text_below d v) (sym (eqb-true n d (both g.0).1)) ∙ sym l.kept in
    let side : o ≡ false = not-true _ (both g.0).0 in
    let big : is_big false l.text ≡ true = subst (λ t. is_big false t ≡ true) same (subst (λ o. is_big o (text_below d v) ≡ true) side b) in
    let named = big_is_named false l.text (a_name l.text ∷ []) (big, refl) in
    said l (λ node z s. its_text (ap (fits_own false own.Closing) z ∙ named.0)
    (ap (λ o. spelled o (a_name (text_below d v)) ∷ e) side ∙ ap (λ t. spelled false (a_name t) ∷ e) same ∙ ap (λ ls. spell false ls e) named.2 ∙ ap (λ t. spell false (lexemes (name_items t)) e) (sym z)) s)
closing_read (after n true due args) _ r h more k path =
    let l = recall_read (after n true due args) _ r h more k path in
    said l (λ node z s. omitted (ap (fits_own false own.Closing) (z ∙ l.kept) ∙ k.0 refl) refl s)
closing_read (before due known) traces r h more k path = absurd cc
closing_read (after n false due args) traces r h more k path = absurd cc

own_read : {note : Bool} {pieces : List Piece} {fulls : List Bool} {v w : List Held} {e f : List Event} (o : OwnText) (place : Place) (traces : List Trace) (r : Place × List Trace) → past_own note o place traces ≡ Some r
    → Onward note pieces r fulls w f → IsKnown place v → Path traces v e w f → LineRead note (Own o ∷ pieces) place v e fulls w f
own_read {note = true} own.Closing place traces r h more k path = absurd cc
own_read {note = false} own.Closing place traces r h more k path = closing_read place traces r h more k path
own_read _ place traces r h more k path = text_read _ place traces r h more path

-- ---- the whole line

some_then : {A B : Type 0} (f : A → Option B) (o : Option A) (b : B) → option_and_then f o ≡ Some b → (a : A) × (o ≡ Some a) × (f a ≡ Some b)
some_then f (Some a) b h = (a, refl, h)
some_then f None b h = absurd cc

with_fulls : {note : Bool} {pieces : List Piece} {place : Place} {fulls others : List Bool} {v w : List Held} {e f : List Event} → fulls ≡ others → LineRead note pieces place v e fulls w f → LineRead note pieces place v e others w f
with_fulls {note = note} {pieces = pieces} {place = place} {v = v} {w = w} {e = e} {f = f} q r = subst (λ fulls. LineRead note pieces place v e fulls w f) q r

at_end_of : {note : Bool} {v w : List Held} {e f : List Event} (place : Place) (fulls : List Bool) → if_so (not (is_due place)) (Some []) ≡ Some fulls → Path [] v e w f → LineRead note [] place v e fulls w f
at_end_of (before due known) fulls h at_end =
    let g = if_so_some (not due) (Some []) fulls h in
    let none : due ≡ false = not-true due g.0 in
    with_fulls (some_inside g.1)
    record {
      kids = [];
      pushed = [];
      text = [];
      again = false;
      values = refl;
      nodes = refl;
      count = ap (λ b. values_of b []) (sym none);
      tells = refl;
      kept = ((λ h. refl), (λ h. absurd (let z : true ≡ false = sym h ∙ none in cc)));
      due = λ h. absurd (let z : true ≡ false = sym h ∙ none in cc);
      spelled = λ node t. done;
      full = no_kids;
    }
at_end_of {v = v} (after n name due args) fulls h at_end =
    let g = if_so_some (not due) (Some []) fulls h in
    let none : due ≡ false = not-true due g.0 in
    with_fulls (some_inside g.1)
    record {
      kids = [];
      pushed = [];
      text = text_below n v;
      again = false;
      values = refl;
      nodes = refl;
      count = ap (λ b. values_of b []) (sym none);
      tells = λ others. refl;
      kept = refl;
      due = λ h. absurd (let z : true ≡ false = sym h ∙ none in cc);
      spelled = λ node t. done;
      full = no_kids;
    }

-- a token before the others
token_said : {note : Bool} {l : Lexeme} {pieces others : List Piece} {place : Place} {fulls : List Bool} {v w : List Held} {d e f : List Event} → spelled note l ∷ d ≡ e → (r : LineRead note pieces place v d fulls w f)
    → ((node : Node) → SpellsLine note pieces node r.kids d f → SpellsLine note others node r.kids (spelled note l ∷ d) f) → LineRead note others place v e fulls w f
token_said {note = note} {others = others} {f = f} q r s = said r (λ node t x. subst (λ e. SpellsLine note others node r.kids e f) q (s node x))

-- what follows lists without members
abbrev Follows : ℕ → Bool → List Piece → List Event → List Event → Node → List Node → Type 0
Follows n note pieces e f node kids = (are_empty n kids ≡ true) × SpellsLine note pieces node (drop n kids) e f

hidden_read : {note : Bool} {pieces : List Piece} {fulls : List Bool} {w : List Held} {f : List Event} (n : ℕ) (place : Place) (traces others : List Trace) {v : List Held} {e : List Event} → past_empty n traces ≡ Some others
    → Onward note pieces (more_ago n place, others) fulls w f → IsKnown place v → Path traces v e w f → Read (Follows n note pieces e f) place v (falses n ++ fulls) w
hidden_read {note = note} {pieces = pieces} {fulls = fulls} {w = w} {f = f} zero place traces others {v = v} {e = e} h more k path = said (more v e k (path_at (some_inside h) refl path)) (λ node t s. (refl, s))
hidden_read {w = w} (suc n) place (begun l ∷ traces) others {v = v} h more k (next begins path) =
    let g = if_so_some (is_list_kind l) (past_empty n traces) others h in
    let list : l ≡ kind.List = same_true kind_row.the_type tt l kind.List g.0 in
    let r = hidden_read n (one_more place) traces others g.1 more (still_known place (holding kind.List [] []) v k) (path_at refl (ap (λ l. held.Tree (holding l [] []) ∷ v) list) path) in
    with_kid r (λ h. absurd cc) (λ node t s. (ap (λ b. b && are_empty n r.kids) holds_none ∙ s.0, s.1))
hidden_read (suc n) place _ others h more k path = absurd cc

if_full_some : (n : ℕ) (o : Option (List Bool)) (fulls : List Bool) → if_full n o ≡ Some fulls → (o ≡ Some fulls) × (list_any (λ b. b) (take n fulls) ≡ true)
if_full_some n None fulls h = absurd cc
if_full_some n (Some others) fulls h =
    let g = if_so_some (list_any (λ b. b) (take n others)) (Some others) fulls h in
    (g.1, ap (λ fulls. list_any (λ b. b) (take n fulls)) (sym (some_inside g.1)) ∙ g.0)

arguments_kept : (place : Place) (args : List Argument) (kid : Node) (v : List Held) (text : List ℕ) → arguments_at place ≡ Some args → IsKnown place v → IsKept (one_more place) (held.Tree kid ∷ v) text → arguments_of text ≡ args
arguments_kept (before due known) args kid v text h k same = absurd cc
arguments_kept (after n name due known) args kid v text h k same = ap arguments_of same ∙ k.1 args h

-- a part that is left out
absent_kid : {note : Bool} {pieces : List Piece} {place : Place} {v w : List Held} {e f : List Event} {fulls : List Bool}
    → LineRead note (after_end pieces) (one_more place) (held.Tree none_node ∷ v) e fulls w f → LineRead note (Optional ∷ pieces) place v e (false ∷ fulls) w f
absent_kid r = with_kid r (λ h. absurd cc) (λ node t s. left_out is_none_node s)

pub line_read : (note skip : Bool) (pieces : List Piece) (place : Place) (traces : List Trace) (fulls : List Bool) {v w : List Held} {e f : List Event} → fills note skip pieces place traces ≡ Some fulls → IsKnown place v → Path traces v e w f
    → LineRead note (seen skip pieces) place v e fulls w f
line_read note true [] place [] fulls h k path = at_end_of place fulls h path
line_read note false [] place [] fulls h k path = at_end_of place fulls h path
line_read note skip [] place (trace ∷ traces) fulls h k path = absurd cc
line_read note true (End ∷ pieces) place traces fulls h k path = line_read note false pieces place traces fulls h k path
line_read note true (_ ∷ pieces) place traces fulls h k path = line_read note true pieces place traces fulls h k path
line_read note false (a_word_piece w ∷ pieces) place traces fulls h k path =
    let o = some_then (fills note false pieces place) (past_token note (a_word w) traces) fulls h in
    let t = token_read traces o.0 o.1 path in
    token_said t.1 (line_read note false pieces place o.0 fulls o.2 k t.2) (λ node s. its_word s)
line_read note false (a_mark_piece m ∷ pieces) place traces fulls h k path =
    let o = some_then (fills note false pieces place) (past_token note (a_mark m) traces) fulls h in
    let t = token_read traces o.0 o.1 path in
    token_said t.1 (line_read note false pieces place o.0 fulls o.2 k t.2) (λ node s. its_mark s)
line_read note false (Own o ∷ pieces) place traces fulls h k path =
    let r = some_then (λ (r : Place × List Trace). fills note false pieces r.0 r.1) (past_own note o place traces) fulls h in
    own_read o place traces r.0 r.1 (λ v e k path. line_read note false pieces r.0.0 r.0.1 fulls r.2 k path) k path
line_read note false (Kid shape ∷ pieces) place traces fulls {v = v} h k path =
    let r = some_then (λ (r : List Trace × Bool). option_and_then (λ fulls. Some (r.1 ∷ fulls)) (fills note false pieces (one_more place) r.0)) (past_kid note shape traces) fulls h in
    let g = some_then (λ fulls. Some (r.0.1 ∷ fulls)) (fills note false pieces (one_more place) r.0.0) fulls r.2 in
    let a = kid_read shape traces r.0.0 r.0.1 r.1 path in
    with_fulls (some_inside g.2) (with_kid (line_read note false pieces (one_more place) r.0.0 g.0 g.1 (still_known place a.kid v k) a.after) a.is_full (λ node t s. its_kid a.spelled s))
line_read note false (Members p ∷ pieces) place traces fulls h k path = absurd cc
line_read note false (Arguments ∷ pieces) place traces fulls {v = v} {e = e} h k path =
    let r = some_then (λ traces. option_and_then (λ fulls. Some (false ∷ fulls)) (fills note false pieces (one_more place) traces)) (option_and_then (λ args. past_argument_list note args traces) (arguments_at place)) fulls h in
    let a = some_then (λ args. past_argument_list note args traces) (arguments_at place) r.0 r.1 in
    let g = some_then (λ fulls. Some (false ∷ fulls)) (fills note false pieces (one_more place) r.0) fulls r.2 in
    let x = argument_list_read a.0 traces r.0 a.2 path in
    let list = holding kind.List x.nodes [] in
    let rest = line_read note false pieces (one_more place) r.0 g.0 g.1 (still_known place list v k) x.after in
    with_fulls (some_inside g.2) (with_kid rest (λ h. absurd cc) (λ node t s.
    its_arguments (holds_list x.nodes []) (holds_silent x.nodes)
    (subst (λ args. SpellsArguments note args (kids_of list) e x.events) (sym (ap arguments_of t ∙ arguments_kept place a.0 list v rest.text a.1 k rest.kept))
    (subst (λ nodes. SpellsArguments note a.0 nodes e x.events) (sym (holds_kids x.nodes [])) x.spelled)) s))
line_read note false (Optional ∷ pieces) place [] fulls h k path = let r = line_read note false pieces place [] fulls h k path in said r (λ node t s. given s)
line_read note false (Optional ∷ pieces) place (absent ∷ traces) fulls {v = v} h k (next omits path) =
    let g = some_then (λ fulls. Some (false ∷ fulls)) (fills note true pieces (one_more place) traces) fulls h in
    with_fulls (some_inside g.2) (absent_kid (line_read note true pieces (one_more place) traces g.0 g.1 (still_known place none_node v k) path))
line_read note false (Optional ∷ pieces) place (_ ∷ traces) fulls h k path = let r = line_read note false pieces place (_ ∷ traces) fulls h k path in said r (λ node t s. given s)
line_read note false (Shown n ∷ pieces) place (written o l ∷ traces) fulls h k path =
    let g = if_full_some n (fills note false pieces place (written o l ∷ traces)) fulls h in
    let r = line_read note false pieces place (written o l ∷ traces) fulls g.0 k path in
    said r (λ node t s. shown (some_full n g.1 r.full) s)
line_read note false (Shown n ∷ pieces) place _ fulls h k path =
    let r = some_then (λ traces. option_and_then (λ fulls. Some (falses n ++ fulls)) (fills note true pieces (more_ago n place) traces)) (past_empty n _) fulls h in
    let g = some_then (λ fulls. Some (falses n ++ fulls)) (fills note true pieces (more_ago n place) r.0) fulls r.2 in
    with_fulls (some_inside g.2) (said (hidden_read n place _ r.0 r.1 (λ v e k path. line_read note true pieces (more_ago n place) r.0 g.0 g.1 k path) k path) (λ node t s. hidden s.0 s.1))
line_read note false (End ∷ pieces) place traces fulls h k path = said (line_read note false pieces place traces fulls h k path) (λ node t s. laid_out refl s)
line_read note false (Indent ∷ pieces) place traces fulls h k path = said (line_read note false pieces place traces fulls h k path) (λ node t s. laid_out refl s)
line_read note false (Outdent ∷ pieces) place traces fulls h k path = said (line_read note false pieces place traces fulls h k path) (λ node t s. laid_out refl s)
line_read note false (Glue ∷ pieces) place traces fulls h k path = said (line_read note false pieces place traces fulls h k path) (λ node t s. laid_out refl s)
line_read false false (NoteOn ∷ pieces) place traces fulls h k path = said (line_read true false pieces place traces fulls h k path) (λ node t s. note_begins s)
line_read true false (NoteOn ∷ pieces) place traces fulls h k path = absurd cc
line_read true false (NoteOff ∷ pieces) place traces fulls h k path = said (line_read false false pieces place traces fulls h k path) (λ node t s. note_ends s)
line_read false false (NoteOff ∷ pieces) place traces fulls h k path = absurd cc
