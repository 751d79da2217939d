-- How the canonical text of a file begins: by the grammar's lines of what may stand first in it.
use Rattle.std.proofs.Common.{◌≡◌, ℕ, List, [], ◌∷◌, ◌++◌, drop, length, refl, sym, ◌∙◌, ap, subst, Bool, true, false, ◌&&◌, ◌||◌, Some, append_assoc}
use Rattle.std.specs.Prelude.{nat_eq, codes}
use Rattle.std.specs.List.{list_all, list_any, starts_with}
use Rattle.std.proofs.lemmas.Bool.{or_left, or_right, eqb-true, eq-eqb}
use Rattle.std.proofs.lemmas.Slice.Eq.{starts_is}
use Rattle.ada_tree.specs.declared.kind.Kind.{Kind}
use Rattle.ada_tree.specs.declared.kind.Kind.TheVariants as kind
use Rattle.ada_tree.specs.declared.grammar.Choice.{Choice}
use Rattle.ada_tree.specs.declared.grammar.Choice.TheVariants as choice
use Rattle.ada_tree.specs.declared.grammar.Shape.TheVariants.{One, Any}
use Rattle.ada_tree.specs.declared.grammar.Piece.{Piece}
use Rattle.ada_tree.specs.declared.grammar.Piece.TheVariants.{Word, Kid, Members, NoteOn}
use Rattle.ada_tree.specs.declared.node.Node.{Node}
use Rattle.ada_tree.specs.Kinds.{is_kind, is_among}
use Rattle.ada_tree.specs.Nodes.{kind_of, text_of, notes_of, kids_of, is_empty, is_silent}
use Rattle.ada_tree.specs.Texts.{begins, is_comment}
use Rattle.ada_tree.specs.Tokens.{Event}
use Rattle.ada_tree.specs.Items.{Item, put, comment_line, note_on}
use Rattle.ada_tree.specs.Choices.{kinds, comments_of, on_side, stands, opens}
use Rattle.ada_tree.specs.Lines.{line}
use Rattle.ada_tree.specs.Words.{word_text}
use Rattle.ada_tree.specs.Spelling.{keeps_comments, SpellsNode, SpellsMembers, SpellsLine, by_line, in_parentheses, one, any, end_with_comments, end_without, member_with_comments, member_without, its_kid, its_members, laid_out}
use Rattle.ada_tree.specs.Canonical.{Written, comment_lines, is_wrapped, items_of}
use Rattle.ada_tree.specs.Rendering.{lexeme_text, render, start, file_text}
use Rattle.text_laws.proofs.round_trip.Places.{both, same_kind, all_among, left_of_three}
use Rattle.text_laws.proofs.round_trip.OpenedItems.{one_of}
use Rattle.text_laws.proofs.round_trip.Layouts.{kid_at, nothing}
use Rattle.text_laws.proofs.round_trip.Lists.{notes_at}
use Rattle.text_laws.proofs.round_trip.Written.{as_written, opened, node_items, line_items, member_items}
use Rattle.file_laws.specs.Documents.{file_fronts, is_opened, has_file_front, is_first_byte, begins_a_file}

-- ---- bytes

front_of : (text front : List ℕ) → starts_with nat_eq text front ≡ true → text ≡ front ++ drop (length front) text
front_of text front h = (starts_is {E = nat_eq} (λ a b. (eqb-true a b, eq-eqb a b)) text front _ refl).0 h

has_front : (text front rest : List ℕ) → text ≡ front ++ rest → starts_with nat_eq text front ≡ true
has_front text front rest e = (starts_is {E = nat_eq} (λ a b. (eqb-true a b, eq-eqb a b)) text front _ refl).1 rest e

front_stays : (text more front : List ℕ) → starts_with nat_eq text front ≡ true → starts_with nat_eq (text ++ more) front ≡ true
front_stays text more front h = has_front (text ++ more) front (drop (length front) text ++ more) (ap (λ bytes. bytes ++ more) (front_of text front h) ∙ append_assoc front (drop (length front) text) more)

some_front_stays : (fronts : List (List ℕ)) (text more : List ℕ) → list_any (starts_with nat_eq text) fronts ≡ true → list_any (starts_with nat_eq (text ++ more)) fronts ≡ true
some_front_stays [] text more h = absurd cc
some_front_stays (front ∷ fronts) text more h =
    one_of (starts_with nat_eq text front) _ h (λ e. or_left _ _ (front_stays text more front e)) (λ e. or_right (starts_with nat_eq (text ++ more) front) _ (some_front_stays fronts text more e))

opened_by : (text more : List ℕ) → is_opened text ≡ true → has_file_front (text ++ more) ≡ true
opened_by text more h = or_right (is_empty (text ++ more)) _ (some_front_stays file_fronts text more h)

comment_opens : (text : List ℕ) → is_comment text ≡ true → is_opened text ≡ true
comment_opens text h = or_left (starts_with nat_eq text (codes "--")) _ (both (both (both h).0).0).0

-- the first byte of such a front

begins-append : (front rest : List ℕ) → begins is_first_byte front ≡ true → begins_a_file (front ++ rest) ≡ true
begins-append [] rest h = absurd cc
begins-append (b ∷ front) rest h = h

front_begins : (fronts : List (List ℕ)) (text : List ℕ) → list_all (begins is_first_byte) fronts ≡ true → list_any (starts_with nat_eq text) fronts ≡ true → begins_a_file text ≡ true
front_begins [] text all h = absurd cc
front_begins (front ∷ fronts) text all h =
    one_of (starts_with nat_eq text front) _ h (λ e. subst (λ bytes. begins_a_file bytes ≡ true) (sym (front_of text front e)) (begins-append front (drop (length front) text) (both all).0)) (front_begins fronts text (both all).1)

pub first_byte : (text : List ℕ) → has_file_front text ≡ true → begins_a_file text ≡ true
first_byte [] h = refl
first_byte (b ∷ text) h = front_begins file_fronts (b ∷ text) refl h

-- lines of other output begin otherwise, though some with one of these bytes
others_begin_otherwise : (rest : List ℕ) → (has_file_front (codes "fault " ++ rest) ≡ false) × (has_file_front (codes "usage: " ++ rest) ≡ false) × (has_file_front (codes "unit " ++ rest) ≡ false)
others_begin_otherwise rest = (refl, refl, refl)

-- ---- items

abbrev are_put : List Item → Bool
are_put (put lexeme ∷ items) = true
are_put _ = false

-- a comment, a token of an annotation, or one whose text opens a file, comes first
abbrev begun : List Item → Bool
begun (put lexeme ∷ items) = is_opened (lexeme_text lexeme)
begun (comment_line text ∷ items) = is_opened text
begun (note_on ∷ items) = are_put items
begun _ = false

-- or there are no items
abbrev may_begin : List Item → Bool
may_begin items = is_empty items || begun items

begun-append : (items more : List Item) → begun items ≡ true → begun (items ++ more) ≡ true
begun-append (put lexeme ∷ items) more h = h
begun-append (comment_line text ∷ items) more h = h
begun-append (note_on ∷ put lexeme ∷ items) more h = refl
begun-append _ more h = absurd cc

begun_behind : (front items : List Item) → may_begin front ≡ true → begun items ≡ true → begun (front ++ items) ≡ true
begun_behind [] items f h = h
begun_behind (item ∷ front) items f h = begun-append (item ∷ front) items f

comments_may_begin : (notes : List (List ℕ)) → list_all is_comment notes ≡ true → may_begin (comment_lines notes) ≡ true
comments_may_begin [] h = refl
comments_may_begin (text ∷ notes) h = comment_opens text (both h).0

rendered_begin : (items : List Item) → may_begin items ≡ true → has_file_front (render start items) ≡ true
rendered_begin [] h = refl
rendered_begin (put lexeme ∷ items) h = opened_by (lexeme_text lexeme) _ h
rendered_begin (comment_line text ∷ items) h = opened_by text _ h
rendered_begin (note_on ∷ put lexeme ∷ items) h = refl
rendered_begin _ h = absurd cc

-- ---- places and lines

-- what stands there may come first in a file
abbrev is_first : Choice → Bool
is_first choice.Item = true
is_first choice.Clause = true
is_first choice.Lib = true
is_first choice.Spec = true
is_first _ = false

abbrev is_first_kind : Kind → Bool
is_first_kind k = is_among k (kinds choice.Item) || is_among k (kinds choice.Clause) || is_among k (kinds choice.Lib) || is_among k (kinds choice.Spec)

-- what holds of each of these places
of_first : (P : Choice → Type 0) → P choice.Item → P choice.Clause → P choice.Lib → P choice.Spec → (place : Choice) → is_first place ≡ true → P place
of_first P item clause lib spec choice.Item p = item
of_first P item clause lib spec choice.Clause p = clause
of_first P item clause lib spec choice.Lib p = lib
of_first P item clause lib spec choice.Spec p = spec
of_first P item clause lib spec _ p = absurd cc

first_stands : (note : Bool) (place : Choice) (k : Kind) (text : List ℕ) → is_first place ≡ true → stands note place k text ≡ true → is_first_kind k ≡ true
first_stands note place k text = of_first (λ place. stands note place k text ≡ true → is_first_kind k ≡ true) (one_of_them choice.Item refl) (one_of_them choice.Clause refl) (one_of_them choice.Lib refl) (one_of_them choice.Spec refl) place
  where
    one_of_them : (place : Choice) → list_all is_first_kind (kinds place) ≡ true → is_among k (kinds place) || false || false ≡ true → is_first_kind k ≡ true
    one_of_them place all h = all_among is_first_kind (kinds place) all k (left_of_three (is_among k (kinds place)) (or_left _ false h))

first_closed : (place : Choice) → is_first place ≡ true → opens place ≡ false
first_closed = of_first (λ place. opens place ≡ false) refl refl refl refl

first_unkept : (place : Choice) → is_first place ≡ true → keeps_comments (comments_of place) ≡ false
first_unkept = of_first (λ place. keeps_comments (comments_of place) ≡ false) refl refl refl refl

first_bare : (place : Choice) (k : Kind) (text : List ℕ) → is_first place ≡ true → is_wrapped place k text ≡ false
first_bare place k text = of_first (λ place. is_wrapped place k text ≡ false) refl refl refl refl place

abbrev is_word_first : List Piece → Bool
is_word_first (Word w ∷ pieces) = true
is_word_first _ = false

-- A line that begins with such a word, with a word of an annotation, or with what stands at such a place.
abbrev begins_line : List Piece → Bool
begins_line (Word w ∷ pieces) = is_opened (word_text w)
begins_line (NoteOn ∷ pieces) = is_word_first pieces
begins_line (Kid (One place) ∷ pieces) = is_first place
begins_line (Kid (Any place) ∷ pieces) = is_first place && begins_line pieces
begins_line _ = false

first_line : (place : Choice) (k : Kind) (text : List ℕ) → is_first_kind k ≡ true → begins_line (line place k text) ≡ true
first_line place kind.Binary text h = absurd cc
first_line place kind.Unary text h = absurd cc
first_line place kind.Member text h = absurd cc
first_line place kind.Make text h = absurd cc
first_line place kind.Select text h = absurd cc
first_line place _ text h = cc

noted_word : (pieces : List Piece) (node : Node) (kids : List Node) → is_word_first pieces ≡ true → are_put (line_items pieces node kids) ≡ true
noted_word (Word w ∷ pieces) node kids h = refl
noted_word _ node kids h = absurd cc

-- ---- what is spelled

first_items : (place : Choice) (node : Node) → is_first place ≡ true → node_items place node ≡ line_items (line place (kind_of node) (text_of node)) node (kids_of node)
first_items place node p = ap (λ (w : Written). w.at (One place)) (opened node) ∙ rw (first_bare place (kind_of node) (text_of node) p) refl

-- its comments, and then its own items
member_begins : (place : Choice) (node : Node) (later notes : List Item) → may_begin (comment_lines (notes_of node)) ≡ true → begun (node_items place node) ≡ true
    → may_begin (((comment_lines (as_written node).notes ++ node_items place node) ++ later) ++ notes) ≡ true
member_begins place node later notes c h =
    let own = comment_lines (as_written node).notes ++ node_items place node in
    let begin : begun own ≡ true = begun_behind (comment_lines (as_written node).notes) (node_items place node) (rw (notes_at node) c) h in
    or_right (is_empty ((own ++ later) ++ notes)) (begun ((own ++ later) ++ notes)) (begun-append (own ++ later) notes (begun-append own later begin))

silent_may_begin : (place : Choice) (node : Node) → is_first place ≡ true → keeps_comments (comments_of place) || is_silent node ≡ true → may_begin (comment_lines (notes_of node)) ≡ true
silent_may_begin place node p h = rw (nothing (notes_of node) (rw (first_unkept place p) at h)) refl

mutual
  node_begins : {note : Bool} {place : Choice} {node : Node} {events rest : List Event} → SpellsNode note place node events rest → is_first place ≡ true → begun (node_items place node) ≡ true
  node_begins {note = note} {place = place} {node = node} (by_line s h c d) p =
      rw (first_items place node p) (line_begins (line place (kind_of node) (text_of node)) d (first_line place (kind_of node) (text_of node) (first_stands note place (kind_of node) (text_of node) p s)))
  node_begins {place = place} (in_parentheses o d) p = let e = first_closed place p in absurd cc

  members_begin : {note first : Bool} {place : Choice} {nodes : List Node} {notes : List (List ℕ)} {events rest : List Event} → SpellsMembers note place first nodes notes events rest → is_first place ≡ true
      → may_begin (member_items place nodes notes) ≡ true
  members_begin (end_with_comments {notes = notes} e c) p = comments_may_begin notes c
  members_begin (end_without e) p = refl
  members_begin {place = place} (member_with_comments {node = node} b c d ds) p = member_begins place node _ _ (comments_may_begin (notes_of node) c) (node_begins d p)
  members_begin {place = place} (member_without {node = node} b c d ds) p = member_begins place node _ _ (silent_may_begin place node p c) (node_begins d p)

  line_begins : {note : Bool} {node : Node} {kids : List Node} {events rest : List Event} (pieces : List Piece) → SpellsLine note pieces node kids events rest → begins_line pieces ≡ true → begun (line_items pieces node kids) ≡ true
  line_begins (Word w ∷ pieces) d h = h
  line_begins {node = node} {kids = kids} (NoteOn ∷ pieces) d h = noted_word pieces node kids h
  line_begins {node = node} (Kid (One place) ∷ pieces) (its_kid {kid = kid} {kids = kids} (one s d) e) h = begun-append (node_items place kid) (line_items pieces node kids) (node_begins d h)
  line_begins (Kid (One place) ∷ pieces) (laid_out l d) h = absurd cc
  line_begins {node = node} (Kid (Any place) ∷ pieces) (its_kid {kid = kid} {kids = kids} (any l ds) e) h =
      begun_behind ((as_written kid).at (Any place)) (line_items pieces node kids) (rw (kid_at (Any place) kid) (members_begin ds (both h).0)) (line_begins pieces e (both h).1)
  line_begins (Kid (Any place) ∷ pieces) (laid_out l d) h = absurd cc
  line_begins _ d h = absurd cc

-- ---- a file

only_file : (k : Kind) (text : List ℕ) → stands false (choice.Only kind.File) k text ≡ true → kind.File ≡ k
only_file k text h = same_kind kind.File k (both (left_of_three (is_kind kind.File k && on_side false k text) h)).0

file_line : {node : Node} {events rest : List Event} → SpellsLine false (Members choice.Item ∷ []) node (kids_of node) events rest → may_begin (line_items (Members choice.Item ∷ []) node (kids_of node)) ≡ true
file_line (its_members ds) = members_begin ds refl
file_line (laid_out l d) = absurd cc

pub spelled_file_begins : {events rest : List Event} (file : Node) → SpellsNode false (choice.Only kind.File) file events rest → has_file_front (file_text (Some file)) ≡ true
unfolding items_of
spelled_file_begins file (in_parentheses o d) = absurd cc
spelled_file_begins {events = events} {rest = rest} file (by_line s h c d) =
    let place = choice.Only kind.File in
    let by_kind = λ (k : Kind). line_items (line place k (text_of file)) file (kids_of file) in
    let items : node_items place file ≡ by_kind (kind_of file) = ap (λ (w : Written). w.at (One place)) (opened file) in
    let begin : may_begin (by_kind (kind_of file)) ≡ true =
    subst (λ k. SpellsLine false (line place k (text_of file)) file (kids_of file) events rest → may_begin (by_kind k) ≡ true) (only_file (kind_of file) (text_of file) s) file_line d in
    rendered_begin (node_items place file) (rw items begin)
