-- Lines of the grammar, piece by piece, where a stage reads them.
use Rattle.std.proofs.Common.{◌≡◌, ℕ, zero, suc, List, [], ◌∷◌, ◌++◌, refl, sym, ◌∙◌, ap, subst, Bool, true, false, not, ◌&&◌, Option, None, append_assoc, drop}
use Rattle.std.specs.List.{list_any}
use Rattle.std.proofs.lemmas.Bool.{and_parts, not-true}
use Rattle.std.proofs.lemmas.List.{append-nil}
use denote.Enum.Bare.{same_true}
use Rattle.ada_tree.specs.contracts.kind.Kind as kind_row
use Rattle.ada_tree.specs.declared.kind.Kind.TheVariants as kind
use Rattle.ada_tree.specs.declared.word.Mark.{Mark}
use Rattle.ada_tree.specs.declared.word.Word.{Word}
use Rattle.ada_tree.specs.declared.grammar.Choice.{Choice}
use Rattle.ada_tree.specs.declared.grammar.Own.{Own as OwnText}
use Rattle.ada_tree.specs.declared.grammar.Piece.{Piece}
use Rattle.ada_tree.specs.declared.grammar.Piece.TheVariants.{Word as a_word_piece, Mark as a_mark_piece, Own, Kid, Members, Arguments, Option as Optional, Shown, End, Indent, Outdent, Glue, NoteOn, NoteOff}
use Rattle.ada_tree.specs.declared.grammar.Shape.{Shape}
use Rattle.ada_tree.specs.declared.node.Node.{Node}
use Rattle.ada_tree.specs.Kinds.{is_kind}
use Rattle.ada_tree.specs.Nodes.{kind_of, text_of, notes_of, kids_of, node_of, is_empty, is_silent, is_list, is_none, is_empty_list, are_empty}
use Rattle.ada_tree.specs.Items.{lexemes}
use Rattle.ada_tree.specs.Rules.{arguments_of}
use Rattle.ada_tree.specs.Spelling.{after_end, is_layout, is_own}
use Rattle.ada_tree.specs.Texts.{fits_own, own_items, may_be_omitted}
use Rattle.ada_tree.specs.Tokens.{Event, spelled, spell, a_word, a_mark}
use Rattle.reading_table.specs.declared.held.Held.{Held}
use Rattle.reading_table.specs.declared.held.Held.TheVariants as held
use Rattle.reading_table.specs.Events.{Reads}
use Rattle.reading_table.specs.Rows.{Placed}
use Rattle.reading_table.specs.TokenSets.{arguments_in}
use Rattle.reading_complete.specs.Bare.{bare}
use Rattle.reading_complete.proofs.Arguments.{AreRead}
use Rattle.reading_complete.proofs.Classes.{Class, Sort, by_form}
use Rattle.reading_complete.proofs.Held.{from_parts, bare_file, none_is, empty_list_is, silent_list_is}
use Rattle.reading_complete.proofs.Kids.{Filled, IsAhead, IsKidRead, sought_empty, empty_reads}
use Rattle.reading_complete.proofs.Lazy.{both_parts}
use Rattle.reading_complete.proofs.Lists.{MembersRead, LeadsMembers, over_some, over_no}
use Rattle.reading_complete.proofs.Own.{own_reads, own_left_out}
use Rattle.reading_complete.proofs.Routes.{routes}
use Rattle.reading_complete.proofs.Stages.{in_order, from_last, Stands, a_kid, a_nothing, the_whole, begun_stands, ReadsFrom, IsOf}
use Rattle.reading_complete.proofs.Texts.{sought, feeds_reads}
use Rattle.reading_complete.proofs.Seeking.{kid, nothing, begun, whole, Stage, seek}
use Rattle.reading_complete.proofs.Walks.{at_nothing, at_begun, empties, some_members, ending, arguments_piece, arguments_read, walk}

-- What is left of a line, and of the kids, is read, whatever walk passes along it.
pub record IsLineRead (note : Bool) (pieces : List Piece) (node : Node) (kids : List Node) (events rest : List Event) : Type 0 where
  -- the class of the first kid, where that is a node
  pub first : Option Class
  pub alone : is_empty pieces ≡ true → kids ≡ []
  pub reads : (c : Class) (front : Bool) (some : ℕ) (ks : List Node) → IsAhead node c front some first ks kids → (ss : List Placed) (below last : List Held) (finish : Stage → Bool)
      → ((all : List Node) (s : Stage) → finish s ≡ true → in_order all ≡ kids_of node → ReadsFrom node ss below last all rest s) → (stage : Stage) → walk routes pieces false c note front some finish stage ≡ true
      → ReadsFrom node ss below last ks events stage

ahead_of : {node : Node} {c : Class} {front : Bool} {some : ℕ} {first : Option Class} {ks : List Node} {k : Node} {kids : List Node} (n : ℕ) (other : Option Class) → Filled n kids → IsAhead node c front some first ks (k ∷ kids) → IsAhead node c false n other (k ∷ ks) kids
ahead_of {ks = ks} {k = k} {kids = kids} n other f a = record {
  of = a.of;
  consistent = a.consistent;
  fits = λ e. absurd cc;
  at_front = λ e. absurd cc;
  so_far = append_assoc (in_order ks) (k ∷ []) kids ∙ a.so_far;
  filled = f;
}

ahead_with : {node : Node} {c : Class} {front : Bool} {some : ℕ} {first : Option Class} {ks kids : List Node} (n : ℕ) → Filled n kids → IsAhead node c front some first ks kids → IsAhead node c front n first ks kids
ahead_with n f a = record { of = a.of; consistent = a.consistent; fits = a.fits; at_front = a.at_front; so_far = a.so_far; filled = f }

pub line_done : (note : Bool) (node : Node) (events : List Event) → IsLineRead note [] node [] events events
line_done note node events = record {
  first = None;
  alone = λ e. refl;
  reads = λ c front some ks a ss below last finish go stage h. go ks stage h (sym (append-nil (in_order ks)) ∙ a.so_far);
}

pub line_word : {note : Bool} {pieces : List Piece} {node : Node} {kids : List Node} {events rest : List Event} (w : Word) → IsLineRead note pieces node kids events rest → IsLineRead note (a_word_piece w ∷ pieces) node kids (spelled note (a_word w) ∷ events) rest
line_word {note = note} {pieces = pieces} {node = node} {events = events} w d = record {
  first = d.first;
  alone = λ e. absurd cc;
  reads = λ c front some ks a ss below last finish go stage h.
      feeds_reads node c ss below last ks note (a_word w) events (λ s. walk routes pieces false c note front some finish s) (λ s g. d.reads c front some ks a ss below last finish go s g) stage h;
}

pub line_mark : {note : Bool} {pieces : List Piece} {node : Node} {kids : List Node} {events rest : List Event} (m : Mark) → IsLineRead note pieces node kids events rest → IsLineRead note (a_mark_piece m ∷ pieces) node kids (spelled note (a_mark m) ∷ events) rest
line_mark {note = note} {pieces = pieces} {node = node} {events = events} m d = record {
  first = d.first;
  alone = λ e. absurd cc;
  reads = λ c front some ks a ss below last finish go stage h.
      feeds_reads node c ss below last ks note (a_mark m) events (λ s. walk routes pieces false c note front some finish s) (λ s g. d.reads c front some ks a ss below last finish go s g) stage h;
}

pub line_text : {note : Bool} {pieces : List Piece} {node : Node} {kids : List Node} {events middle rest : List Event} (text : OwnText) → fits_own note text (text_of node) ≡ true → events ≡ spell note (lexemes (own_items text (text_of node))) middle
    → IsLineRead note pieces node kids middle rest → IsLineRead note (Own text ∷ pieces) node kids events rest
line_text {note = note} {pieces = pieces} {node = node} {kids = kids} {middle = middle} text f e d = record {
  first = d.first;
  alone = λ x. absurd cc;
  reads = λ c front some ks a ss below last finish go stage h. subst (λ es. ReadsFrom node ss below last ks es stage) (sym e)
      (own_reads node c a.of ss below last ks middle (λ s. walk routes pieces false c note front some finish s) (λ s g. d.reads c front some ks a ss below last finish go s g) note (is_empty pieces) text stage f
      (λ x. sym (append-nil (in_order ks)) ∙ (ap (λ ns. in_order ks ++ ns) (sym (d.alone x)) ∙ a.so_far)) h);
}

pub line_omitted : {note : Bool} {pieces : List Piece} {node : Node} {kids : List Node} {events rest : List Event} (text : OwnText) → may_be_omitted text (text_of node) ≡ true → IsLineRead note pieces node kids events rest
    → IsLineRead note (Own text ∷ pieces) node kids events rest
line_omitted {note = note} {pieces = pieces} {node = node} {events = events} text m d = record {
  first = d.first;
  alone = λ x. absurd cc;
  reads = λ c front some ks a ss below last finish go stage h.
      own_left_out node c a.of ss below last ks events (λ s. walk routes pieces false c note front some finish s) (λ s g. d.reads c front some ks a ss below last finish go s g) note (is_empty pieces) text stage m h;
}

pub line_kid : {note : Bool} {shape : Shape} {pieces : List Piece} {node k : Node} {kids : List Node} {events middle rest : List Event} → IsKidRead note shape k events middle → IsLineRead note pieces node kids middle rest
    → IsLineRead note (Kid shape ∷ pieces) node (k ∷ kids) events rest
line_kid {note = note} {pieces = pieces} {node = node} {kids = kids} r d = record {
  first = r.first;
  alone = λ e. absurd cc;
  reads = λ c front some ks a ss below last finish go stage h.
      r.reads node c front some ks kids a ss below last (λ n s. walk routes pieces false c note false n finish s)
      (λ n s g f. d.reads c false n _ (ahead_of n d.first f a) ss below last finish go s g) stage h;
}

pub line_arguments : {note : Bool} {pieces : List Piece} {node k : Node} {kids : List Node} {events middle rest : List Event} → is_list k ≡ true → is_silent k ≡ true → AreRead note (arguments_of (text_of node)) (kids_of k) events middle
    → IsLineRead note pieces node kids middle rest → IsLineRead note (Arguments ∷ pieces) node (k ∷ kids) events rest
line_arguments {note = note} {pieces = pieces} {node = node} {k = k} {kids = kids} {events = events} {middle = middle} {rest = rest} l s ns d = record {
  first = None;
  alone = λ e. absurd cc;
  reads = λ c front some ks a ss below last finish go stage h. by c.sort c refl front some ks a ss below last finish go stage h;
}
  where
    by : (sort : Sort) (c : Class) → sort ≡ c.sort → (front : Bool) (some : ℕ) (ks : List Node) → IsAhead node c front some None ks (k ∷ kids) → (ss : List Placed) (below last : List Held) (finish : Stage → Bool)
        → ((all : List Node) (s : Stage) → finish s ≡ true → in_order all ≡ kids_of node → ReadsFrom node ss below last all rest s) → (stage : Stage)
        → arguments_piece routes sort c note (λ s. walk routes pieces false c note false zero finish s) stage ≡ true → ReadsFrom node ss below last ks events stage
    by (by_form f) c e front some ks a ss below last finish go stage h =
        sought_empty node c ss below last ks k events middle (λ line values. arguments_read routes (arguments_in f) note (λ l. walk routes pieces false c note false zero finish (l, kid ∷ values)) line)
        (λ line values g hs t.
        let o = ns.reads (λ l. walk routes pieces false c note false zero finish (l, kid ∷ values)) line (subst (λ as_. arguments_read routes as_ note (λ l. walk routes pieces false c note false zero finish (l, kid ∷ values)) line ≡ true) (sym (a.of.steps f (sym e))) g) in
        o.over kind.List [] ss (hs ++ below) last
        (subst (λ x. Reads (o.to ++ ss) (held.Tree x ∷ (hs ++ below)) middle last) (sym (silent_list_is k l s))
        (d.reads c false zero (k ∷ ks) (ahead_of zero d.first tt a) ss below last finish go (o.to, kid ∷ values) o.passed (held.Tree k ∷ hs) (a_kid t)))) stage h
    by _ c e front some ks a ss below last finish go stage h = absurd cc

-- ---- members of the node itself

-- any number of items, and then all is spelled
abbrev items_pass : Bool → Choice → (Stage → Bool) → List Placed → Bool
items_pass note place finish line =
    elim (ending routes place (λ l. finish (l, whole ∷ [])) line) as (λ b. Bool) [ true ↦ some_members routes note place (λ l. finish (l, whole ∷ [])) line | false ↦ false ]

pub line_members : {note : Bool} {place : Choice} {node : Node} {kids : List Node} {events rest : List Event} → MembersRead note place true kids (notes_of node) events rest → IsLineRead note (Members place ∷ []) node kids events rest
line_members {note = note} {place = place} {node = node} {kids = kids} {events = events} {rest = rest} ms = record {
  first = None;
  alone = λ e. absurd cc;
  reads = λ c front some ks a ss below last finish go stage h. by c front some ks a ss below last finish go stage (both_parts (is_kind c.kind kind.File && not (list_any is_own c.line)) _ h);
}
  where
    over : (ns : List Node) → MembersRead note place true ns (notes_of node) events rest → (next : List Placed → Bool) (line : List Placed) → (ending routes place next line ≡ true) × (some_members routes note place next line ≡ true)
        → LeadsMembers next ns (notes_of node) events rest line
    over [] ms next line g = over_no ms next line g.0
    over (first ∷ ns) ms next line g = over_some ms next line g.1

    by : (c : Class) (front : Bool) (some : ℕ) (ks : List Node) → IsAhead node c front some None ks kids → (ss : List Placed) (below last : List Held) (finish : Stage → Bool)
        → ((all : List Node) (s : Stage) → finish s ≡ true → in_order all ≡ kids_of node → ReadsFrom node ss below last all rest s) → (stage : Stage)
        → ((is_kind c.kind kind.File && not (list_any is_own c.line)) ≡ true)
        × (seek c false (at_begun routes (λ line. items_pass note place finish line)) stage ≡ true)
        → ReadsFrom node ss below last ks events stage
    by c front some ks a ss below last finish go stage h =
        sought node c ss below last ks events (at_begun routes (λ line. items_pass note place finish line))
        (λ s g. at s g) stage h.1
      where
        file : is_kind c.kind kind.File ≡ true
        file = (and_parts (is_kind c.kind kind.File) (not (list_any is_own c.line)) h.0).0

        a_file : c.kind ≡ kind.File
        a_file = same_true kind_row.the_type tt c.kind kind.File file

        of_kind : kind.File ≡ kind_of node
        of_kind = sym a_file ∙ a.of.kind

        untold : text_of node ≡ []
        untold = a.of.untold (not-true (list_any is_own c.line) (and_parts (is_kind c.kind kind.File) (not (list_any is_own c.line)) h.0).1)

        at_line : (line : List Placed) → (ending routes place (λ l. finish (l, whole ∷ [])) line ≡ true) × (some_members routes note place (λ l. finish (l, whole ∷ [])) line ≡ true) → ReadsFrom node ss below last ks events (line, begun ∷ [])
        at_line line g = λ hs t.
            let none = begun_stands t in
            let kids_so : kids ≡ kids_of node = ap (λ ns. in_order ns ++ kids) (sym none.0) ∙ a.so_far in
            let l = over kids ms (λ l. finish (l, whole ∷ [])) line g in
            let order = from_last (kids_of node) in
            let same : node_of kind.File [] (notes_of node) kids ≡ bare node =
            ap (λ ns. node_of kind.File [] (notes_of node) ns) kids_so ∙ (from_parts node kind.File [] (notes_of node) of_kind (sym untold) refl ∙ sym (bare_file node (ap (λ k. is_kind k kind.File) (sym a.of.kind) ∙ file))) in
            subst (λ x. Reads (line ++ ss) (x ++ below) events last) (sym none.1)
            (l.over kind.File [] ss below last (subst (λ x. Reads (l.to ++ ss) (held.Tree x ∷ below) rest last) (sym same) (go order.0 (l.to, whole ∷ []) l.passed order.1 (held.Tree (bare node) ∷ []) the_whole)))

        at : (s : Stage) → at_begun routes (λ line. items_pass note place finish line) s ≡ true → ReadsFrom node ss below last ks events s
        at (line, begun ∷ []) g = at_line line (both_parts (ending routes place (λ l. finish (l, whole ∷ [])) line) (some_members routes note place (λ l. finish (l, whole ∷ [])) line) g)
        at _ g = absurd cc

-- ---- parts that may be left out

skipped : (pieces : List Piece) (c : Class) (note front : Bool) (some : ℕ) (finish : Stage → Bool) (stage : Stage) → walk routes pieces true c note front some finish stage ≡ walk routes (after_end pieces) false c note front some finish stage
skipped [] c note front some finish stage = refl
skipped (End ∷ pieces) c note front some finish stage = refl
skipped (_ ∷ pieces) c note front some finish stage = skipped pieces c note front some finish stage

pub line_given : {note : Bool} {pieces : List Piece} {node : Node} {kids : List Node} {events rest : List Event} → IsLineRead note pieces node kids events rest → IsLineRead note (Optional ∷ pieces) node kids events rest
line_given {note = note} {pieces = pieces} d = record {
  first = d.first;
  alone = λ e. absurd cc;
  reads = λ c front some ks a ss below last finish go stage h.
      d.reads c front zero ks (ahead_with zero tt a) ss below last finish go stage (both_parts (walk routes pieces false c note front zero finish stage) _ h).0;
}

pub line_left_out : {note : Bool} {node k : Node} {kids : List Node} {events rest : List Event} (pieces : List Piece) → is_none k ≡ true → IsLineRead note (after_end pieces) node kids events rest → IsLineRead note (Optional ∷ pieces) node (k ∷ kids) events rest
line_left_out {note = note} {node = node} {k = k} {kids = kids} {events = events} {rest = rest} pieces n d = record {
  first = None;
  alone = λ e. absurd cc;
  reads = λ c front some ks a ss below last finish go stage h.
      sought node c ss below last ks events (at_nothing routes (λ line values. walk routes pieces true c note false zero finish (line, kid ∷ values)))
      (λ s g. at c front some ks a ss below last finish go s g) stage (both_parts (walk routes pieces false c note front zero finish stage) _ h).1;
}
  where
    at : (c : Class) (front : Bool) (some : ℕ) (ks : List Node) → IsAhead node c front some None ks (k ∷ kids) → (ss : List Placed) (below last : List Held) (finish : Stage → Bool)
        → ((all : List Node) (s : Stage) → finish s ≡ true → in_order all ≡ kids_of node → ReadsFrom node ss below last all rest s) → (s : Stage)
        → at_nothing routes (λ line values. walk routes pieces true c note false zero finish (line, kid ∷ values)) s ≡ true → (hs : List Held) → Stands node s.1 ks hs → Reads (s.0 ++ ss) (hs ++ below) events last
    at c front some ks a ss below last finish go (line, nothing ∷ values) g _ (a_nothing {hs = hs} t) =
        subst (λ x. Reads (line ++ ss) (held.Tree x ∷ (hs ++ below)) events last) (sym (none_is k n))
        (d.reads c false zero (k ∷ ks) (ahead_of zero d.first tt a) ss below last finish go (line, kid ∷ values) (sym (skipped pieces c note false zero finish (line, kid ∷ values)) ∙ g) (held.Tree k ∷ hs) (a_kid t))
    at c front some ks a ss below last finish go _ g _ _ = absurd cc

pub line_shown : {note : Bool} {pieces : List Piece} {node : Node} {kids : List Node} {events rest : List Event} (count : ℕ) → are_empty count kids ≡ false → IsLineRead note pieces node kids events rest → IsLineRead note (Shown count ∷ pieces) node kids events rest
line_shown {note = note} {pieces = pieces} {kids = kids} count e d = record {
  first = d.first;
  alone = λ e. absurd cc;
  reads = λ c front some ks a ss below last finish go stage h.
      d.reads c front count ks (ahead_with count (filled count e) a) ss below last finish go stage (both_parts (walk routes pieces false c note front count finish stage) _ h).0;
}
  where
    filled : (count : ℕ) → are_empty count kids ≡ false → Filled count kids
    filled zero e = tt
    filled (suc n) e = e

hidden_reads : {events : List Event} (node : Node) (c : Class) (o : IsOf c node) (ss : List Placed) (below last : List Held) (pieces : List Piece) (count : ℕ) (kids ks : List Node) (front : Bool) (some : ℕ) (other : Option Class) → IsAhead node c front some other ks kids
    → are_empty count kids ≡ true → (next : Stage → Bool) → ((ks : List Node) (s : Stage) → next s ≡ true → (in_order ks ++ drop count kids ≡ kids_of node) → ReadsFrom node ss below last ks events s) → (stage : Stage) → empties routes count c next stage ≡ true
    → ReadsFrom node ss below last ks events stage
hidden_reads node c o ss below last pieces zero kids ks front some other a e next go stage h = go ks stage h a.so_far
hidden_reads node c o ss below last pieces (suc n) [] ks front some other a e next go stage h = absurd cc
hidden_reads {events = events} node c o ss below last pieces (suc n) (k ∷ kids) ks front some other a e next go stage h =
    let parts = and_parts (is_empty_list k) (are_empty n kids) e in
    empty_reads node c ss below last ks k events events (λ s. empties routes n c next s)
    (λ s g. hidden_reads node c o ss below last pieces n kids (k ∷ ks) false zero None (ahead_of zero None tt a) parts.1 next go s g) (empty_list_is k parts.0) refl stage h

pub line_hidden : {note : Bool} {node : Node} {kids : List Node} {events rest : List Event} (count : ℕ) (pieces : List Piece) → are_empty count kids ≡ true → IsLineRead note (after_end pieces) node (drop count kids) events rest
    → IsLineRead note (Shown count ∷ pieces) node kids events rest
line_hidden {note = note} {node = node} {kids = kids} {events = events} {rest = rest} count pieces e d = record {
  first = None;
  alone = λ e. absurd cc;
  reads = λ c front some ks a ss below last finish go stage h.
      hidden_reads node c a.of ss below last pieces count kids ks front some None a e (λ s. walk routes pieces true c note false zero finish s)
      (λ all s g f. d.reads c false zero all (later a f) ss below last finish go s (sym (skipped pieces c note false zero finish s) ∙ g)) stage (both_parts (walk routes pieces false c note front count finish stage) _ h).1;
}
  where
    later : {c : Class} {front : Bool} {some : ℕ} {ks all : List Node} → IsAhead node c front some None ks kids → in_order all ++ drop count kids ≡ kids_of node → IsAhead node c false zero d.first all (drop count kids)
    later a f = record { of = a.of; consistent = a.consistent; fits = λ e. absurd cc; at_front = λ e. absurd cc; so_far = f; filled = tt }

-- ---- layout, and the borders of annotations

pub line_laid_out : {note : Bool} {pieces : List Piece} {node : Node} {kids : List Node} {events rest : List Event} (piece : Piece) → is_layout piece ≡ true → IsLineRead note pieces node kids events rest → IsLineRead note (piece ∷ pieces) node kids events rest
line_laid_out Indent l d = record { first = d.first; alone = λ e. absurd cc; reads = d.reads }
line_laid_out Outdent l d = record { first = d.first; alone = λ e. absurd cc; reads = d.reads }
line_laid_out Glue l d = record { first = d.first; alone = λ e. absurd cc; reads = d.reads }
line_laid_out End l d = record { first = d.first; alone = λ e. absurd cc; reads = d.reads }
line_laid_out _ l d = absurd cc

pub line_note_begins : {pieces : List Piece} {node : Node} {kids : List Node} {events rest : List Event} → IsLineRead true pieces node kids events rest → IsLineRead false (NoteOn ∷ pieces) node kids events rest
line_note_begins d = record { first = d.first; alone = λ e. absurd cc; reads = d.reads }

pub line_note_ends : {pieces : List Piece} {node : Node} {kids : List Node} {events rest : List Event} → IsLineRead false pieces node kids events rest → IsLineRead true (NoteOff ∷ pieces) node kids events rest
line_note_ends d = record { first = d.first; alone = λ e. absurd cc; reads = d.reads }
