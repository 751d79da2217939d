-- What is spelled is read: by induction on the spelling.
use Rattle.std.proofs.Common.{◌≡◌, ℕ, zero, List, [], ◌∷◌, ◌++◌, refl, sym, ◌∙◌, ap, subst, Bool, true, false, not, ◌&&◌, ◌||◌}
use Rattle.std.specs.List.{list_any}
use Rattle.std.proofs.lemmas.Bool.{not-true}
use Rattle.std.proofs.lemmas.List.{append-nil}
use denote.Enum.Bare.{same_true, true_same}
use Rattle.ada_tree.specs.contracts.kind.Kind as kind_row
use Rattle.ada_tree.specs.declared.kind.Kind.{Kind}
use Rattle.ada_tree.specs.declared.kind.Kind.TheVariants as kind
use Rattle.ada_tree.specs.declared.word.Mark.{Mark}
use Rattle.ada_tree.specs.declared.word.Mark.TheVariants as mark
use Rattle.ada_tree.specs.declared.grammar.Argument.{Argument}
use Rattle.ada_tree.specs.declared.grammar.Choice.{Choice}
use Rattle.ada_tree.specs.declared.grammar.Choice.TheVariants as choice
use Rattle.ada_tree.specs.declared.grammar.Piece.{Piece}
use Rattle.ada_tree.specs.declared.grammar.Shape.{Shape}
use Rattle.ada_tree.specs.declared.node.Node.{Node}
use Rattle.ada_tree.specs.declared.part.Part.{Part as GrammarPart}
use Rattle.ada_tree.specs.Choices.{stands, opens, comments_of, on_side}
use Rattle.ada_tree.specs.Kinds.{is_kind}
use Rattle.ada_tree.specs.Lines.{line, line_of_kind}
use Rattle.ada_tree.specs.Nodes.{kind_of, text_of, kids_of, is_empty, is_silent}
use Rattle.ada_tree.specs.Spelling.{SpellsNode, SpellsKid, SpellsMembers, SpellsListed, SpellsLine, SpellsArguments, by_line, in_parentheses, one, any, many, listed, some_listed, none_listed, some_variables, no_variables, end_with_comments, end_without, member_with_comments, member_without, last as last_member, and_more, done, its_word, its_mark, its_text, omitted, its_kid, its_members, its_arguments, given, left_out, shown, hidden, laid_out, note_begins, note_ends, no_more, an_argument, in_number, no_in_number, a_list, no_list, line_of, has_place, is_consistent, is_own, keeps_comments}
use Rattle.ada_tree.specs.Texts.{is_mode, is_global_mode}
use Rattle.ada_tree.specs.Tokens.{Event, spelled, a_mark}
use Rattle.reading_table.specs.declared.held.Held.{Held}
use Rattle.reading_table.specs.declared.held.Held.TheVariants as held
use Rattle.reading_table.specs.Events.{Reads}
use Rattle.reading_table.specs.Rows.{Placed}
use Rattle.reading_table.specs.Spelled.{SpelledAs, has_texts, start_of}
use Rattle.reading_table.specs.Tables.{later, first, ends}
use Rattle.reading_complete.specs.Bare.{bare}
use Rattle.reading_complete.proofs.Arguments.{AreRead, no_arguments, one_argument, in_a_number, no_number, a_list_so, no_list_so}
use Rattle.reading_complete.proofs.Classes.{Sort, plain, in_brackets, Class, classes, bracket_class, admits}
use Rattle.reading_complete.proofs.Classify.{class_of}
use Rattle.reading_complete.proofs.Held.{empty_is, bare_silent, bare_file}
use Rattle.reading_complete.proofs.Kids.{IsAhead, IsKidRead, node_reads, one_kid, any_kid, many_kid, listed_so, some_listed_kid, none_listed_kid, some_variables_kid, no_variables_kid}
use Rattle.reading_complete.proofs.Lists.{MembersRead, ended_with, ended, and_member}
use Rattle.reading_complete.proofs.Lazy.{all_of, all_of_has}
use Rattle.reading_complete.proofs.Members.{ListedRead, MoreRead, no_more as no_more_members, one_more, commented}
use Rattle.reading_complete.proofs.Moves.{seek_reads}
use Rattle.reading_complete.proofs.Nodes.{IsRead}
use Rattle.reading_complete.proofs.Pieces.{IsLineRead, line_done, line_word, line_mark, line_text, line_omitted, line_kid, line_arguments, line_members, line_given, line_left_out, line_shown, line_hidden, line_laid_out, line_note_begins, line_note_ends}
use Rattle.reading_complete.proofs.Places.{HasClass, has_other}
use Rattle.reading_complete.proofs.Routes.{routes, is_bracket}
use Rattle.reading_complete.proofs.Stages.{in_order, no_values, kid_alone, whole_stands, ReadsFrom, IsOf}
use Rattle.reading_complete.proofs.Starts.{start_leads}
use Rattle.reading_complete.proofs.Symbols.{same_line, line_told}
use Rattle.reading_complete.proofs.Tests.{if_true}
use Rattle.reading_complete.proofs.Texts.{sought, feeds_reads}
use Rattle.reading_complete.proofs.Seeking.{kid, whole, Stage, seek, feeds}
use Rattle.reading_complete.proofs.Walks.{kid_read, walk, is_whole, is_the_kid, finishes, passed}

-- ---- the text of a node with a mode

formal_mode : {note : Bool} {node : Node} {kids : List Node} {events rest : List Event} → SpellsLine note (line_of_kind kind.Formal) node kids events rest → is_mode (text_of node) ≡ true
formal_mode (its_kid k (its_mark (its_text f e d))) = f
formal_mode (its_kid k (its_mark (omitted f m d))) = f
formal_mode (its_kid k (its_mark (laid_out l d))) = absurd cc
formal_mode (its_kid k (laid_out l d)) = absurd cc
formal_mode (laid_out l d) = absurd cc

global_mode : {note : Bool} {node : Node} {kids : List Node} {events rest : List Event} → SpellsLine note (line_of_kind kind.Global) node kids events rest → is_global_mode (text_of node) ≡ true
global_mode (its_word (its_text f e d)) = f
global_mode (its_word (omitted f m d)) = f
global_mode (its_word (laid_out l d)) = absurd cc
global_mode (laid_out l d) = absurd cc

-- ---- a node by its line

-- where the line of a class passes, its walk does
walk_of : (note : Bool) (c : Class) (sort : Sort) (front goal : List Placed) → is_bracket sort ≡ false → passed routes sort note c front goal ≡ walk routes c.line false c note true zero (finishes routes c goal) (front, [])
walk_of note c in_brackets front goal e = absurd cc
walk_of note c plain front goal e = refl
walk_of note c _ front goal e = refl

finish_reads : (node : Node) (c : Class) → IsOf c node → (goal ss : List Placed) (below last : List Held) (all : List Node) (events : List Event) → in_order all ≡ kids_of node → Reads (goal ++ ss) (held.Tree (bare node) ∷ below) events last → (stage : Stage)
    → finishes routes c goal stage ≡ true → ReadsFrom node ss below last all events stage
finish_reads node c o goal ss below last all events e d stage h =
    seek_reads node c true (λ x. o) ss below last all (λ x. e) events (λ s. elim (is_whole routes s.1) as (λ b. Bool) [ true ↦ same_line s.0 goal | false ↦ false ]) (λ s g. at s g) stage h
  where
    at_line : (line : List Placed) → same_line line goal ≡ true → ReadsFrom node ss below last all events (line, whole ∷ [])
    at_line line g = λ hs t. subst (λ x. Reads (line ++ ss) (x ++ below) events last) (sym (whole_stands t))
        (subst (λ l. Reads (l ++ ss) (held.Tree (bare node) ∷ below) events last) (sym (line_told line goal g)) d)

    at : (s : Stage) → elim (is_whole routes s.1) as (λ b. Bool) [ true ↦ same_line s.0 goal | false ↦ false ] ≡ true → ReadsFrom node ss below last all events s
    at (line, whole ∷ []) g = at_line line g
    at _ g = absurd cc

read_by_line : {note : Bool} {place : Choice} {node : Node} {events rest : List Event} → stands note place (kind_of node) (text_of node) ≡ true → has_place (line_of place node) (text_of node) ≡ true
    → is_consistent (kind_of node) (text_of node) (kids_of node) ≡ true → SpellsLine note (line_of place node) node (kids_of node) events rest → IsLineRead note (line_of place node) node (kids_of node) events rest → IsRead note place node events rest
read_by_line {note = note} {place = place} {node = node} {events = events} {rest = rest} s h c d r = record {
  class = k.class;
  there = k.there;
  stands = k.stands;
  association = λ e. ap (λ x. is_kind x kind.Assoc) k.kind_so ∙ e;
  reads = λ front goal p ss below last g.
      let w : walk routes (line_of place node) false k.class note true zero (finishes routes k.class goal) (front, []) ≡ true =
      subst (λ l. walk routes l false k.class note true zero (finishes routes k.class goal) (front, []) ≡ true) k.line_so (sym (walk_of note k.class k.class.sort front goal k.unbracketed) ∙ p) in
      r.reads k.class true zero [] ahead ss below last (finishes routes k.class goal) (λ all st f e. finish_reads node k.class of goal ss below last all rest e g st f) (front, []) w [] no_values;
}
  where
    k : HasClass note place (kind_of node) (text_of node) r.first
    k = class_of note place (kind_of node) (text_of node) r.first s
        (λ e. formal_mode (subst (λ x. SpellsLine note (line place x (text_of node)) node (kids_of node) events rest) e d)) (λ e. global_mode (subst (λ x. SpellsLine note (line place x (text_of node)) node (kids_of node) events rest) e d))

    no_text : (a b : Bool) → a ≡ false → (a || b) ≡ true → b ≡ true
    no_text true b e h = absurd cc
    no_text false b e h = h

    of : IsOf k.class node
    of = record {
      kind = k.kind_so;
      told = k.told;
      untold = λ e. empty_is (text_of node) (no_text (list_any is_own (line_of place node)) (is_empty (text_of node)) (ap (list_any is_own) (sym k.line_so) ∙ e) h);
      steps = k.steps;
      unranged = k.unranged;
    }

    ahead : IsAhead node k.class true zero r.first [] (kids_of node)
    ahead = record { of = of; consistent = c; fits = λ e. k.fits; at_front = λ e. refl; so_far = refl; filled = tt }

-- ---- a node in parentheses

abbrev at_goal : List Placed → Stage → Bool
at_goal goal u = elim (is_the_kid routes u.1) [ true ↦ same_line u.0 goal | false ↦ false ]

abbrev closed : Bool → List Placed → Stage → Bool
closed note goal t = feeds bracket_class note (a_mark mark.Close) (seek bracket_class false (at_goal goal)) t

abbrev inside : Bool → List Placed → Stage → Bool
inside note goal s = kid_read routes bracket_class false note choice.Expr (closed note goal) s

no_association : (note : Bool) → all_of classes (λ c. elim (admits note choice.Expr c) [ true ↦ not (is_kind c.kind kind.Assoc) | false ↦ true ]) ≡ true
no_association false = refl
no_association true = refl

read_in_parentheses : {note : Bool} {place : Choice} {node : Node} {events rest : List Event} → opens place ≡ true → IsRead note choice.Expr node events (spelled note (a_mark mark.Close) ∷ rest) → IsRead note place node (spelled note (a_mark mark.Open) ∷ events) rest
read_in_parentheses {note = note} {place = place} {node = node} {events = events} {rest = rest} o n = record {
  class = bracket_class;
  there = has_other bracket_class (later (later (later (later (later (later (later (later (later (later (later first)))))))))));
  stands = o;
  association = λ e. let wrong : true ≡ false = sym (n.association e) ∙ (not-true (is_kind n.class.kind kind.Assoc) (if_true (admits note choice.Expr n.class) (not (is_kind n.class.kind kind.Assoc))
      (all_of_has classes (λ c. elim (admits note choice.Expr c) as (λ b. Bool) [ true ↦ not (is_kind c.kind kind.Assoc) | false ↦ true ]) n.class (no_association note) n.there) n.stands)) in absurd cc;
  reads = λ front goal p ss below last g.
      feeds_reads node bracket_class ss below last [] note (a_mark mark.Open) events (inside note goal)
      (λ s q. node_reads node bracket_class ss below last [] (bare node) events (spelled note (a_mark mark.Close) ∷ rest) false (λ e. absurd cc) node refl (closed note goal)
      (λ t q. feeds_reads node bracket_class ss below last (bare node ∷ []) note (a_mark mark.Close) rest (seek bracket_class false (at_goal goal))
      (λ v q. sought node bracket_class ss below last (bare node ∷ []) rest (at_goal goal) (λ u q. at ss below last goal g u q) v q) t q) n refl s q)
      (front, []) p [] no_values;
}
  where
    at_line : (ss : List Placed) (below last : List Held) (goal : List Placed) → Reads (goal ++ ss) (held.Tree (bare node) ∷ below) rest last → (line : List Placed) → same_line line goal ≡ true → ReadsFrom node ss below last (bare node ∷ []) rest (line, kid ∷ [])
    at_line ss below last goal g line q = λ hs t. subst (λ x. Reads (line ++ ss) (x ++ below) rest last) (sym (kid_alone t))
        (subst (λ l. Reads (l ++ ss) (held.Tree (bare node) ∷ below) rest last) (sym (line_told line goal q)) g)

    at : (ss : List Placed) (below last : List Held) (goal : List Placed) → Reads (goal ++ ss) (held.Tree (bare node) ∷ below) rest last → (u : Stage) → at_goal goal u ≡ true → ReadsFrom node ss below last (bare node ∷ []) rest u
    at ss below last goal g (line, kid ∷ []) q = at_line ss below last goal g line q
    at ss below last goal g _ q = absurd cc

-- ---- lists

kept_file : {note : Bool} {node : Node} {events rest : List Event} (place : Choice) → keeps_comments (comments_of place) ≡ true → SpellsNode note place node events rest → is_kind (kind_of node) kind.File ≡ true
kept_file (choice.Only k) e d = by_kind k e d
  where
    by_only : {note : Bool} {node : Node} {events rest : List Event} → SpellsNode note (choice.Only kind.File) node events rest → is_kind (kind_of node) kind.File ≡ true
    by_only {note = note} {node = node} (by_line s h c d) = true_same kind_row.the_type (kind_of node) kind.File (sym (same_true kind_row.the_type tt kind.File (kind_of node) (at (is_kind kind.File (kind_of node)) (on_side note (kind_of node) (text_of node)) s)))
      where
        at : (a b : Bool) → ((a && b) || false || false || false) ≡ true → a ≡ true
        at true b h = refl
        at false b h = absurd cc
    by_only (in_parentheses o d) = absurd cc

    by_kind : {note : Bool} {node : Node} {events rest : List Event} (k : Kind) → keeps_comments (comments_of (choice.Only k)) ≡ true → SpellsNode note (choice.Only k) node events rest → is_kind (kind_of node) kind.File ≡ true
    by_kind kind.File e d = by_only d
    by_kind _ e d = absurd cc
kept_file _ e d = absurd cc

pub bare_member : {note : Bool} {place : Choice} {node : Node} {events rest : List Event} → keeps_comments (comments_of place) || is_silent node ≡ true → SpellsNode note place node events rest → bare node ≡ node
bare_member {place = place} {node = node} h d = by (keeps_comments (comments_of place)) refl h
  where
    by : (b : Bool) → keeps_comments (comments_of place) ≡ b → (b || is_silent node) ≡ true → bare node ≡ node
    by true e h = bare_file node (kept_file place e d)
    by false e h = bare_silent node h

more_listed : {note : Bool} {place : Choice} {m : Mark} {node : Node} {nodes : List Node} {events middle rest : List Event} → is_silent node ≡ true → IsRead note place node events (spelled note (a_mark m) ∷ middle) → ListedRead note place m nodes middle rest
    → ListedRead note place m (node ∷ nodes) events rest
more_listed {note = note} {place = place} {m = m} {node = node} {nodes = nodes} {middle = middle} {rest = rest} s n l = record {
  first = node;
  others = nodes;
  middle = spelled note (a_mark m) ∷ middle;
  are = refl;
  same = bare_silent node s;
  read = n;
  more = subst (λ ns. MoreRead note place m ns (spelled note (a_mark m) ∷ middle) rest) l.are (one_more l.same l.read l.more);
}

-- ---- the induction

mutual
  pub node_read : {note : Bool} {place : Choice} {node : Node} {events rest : List Event} → SpellsNode note place node events rest → IsRead note place node events rest
  node_read (by_line s h c d) = read_by_line s h c d (line_read d)
  node_read (in_parentheses o d) = read_in_parentheses o (node_read d)

  kid_read_so : {note : Bool} {shape : Shape} {node : Node} {events rest : List Event} → SpellsKid note shape node events rest → IsKidRead note shape node events rest
  kid_read_so (one s d) = one_kid s (node_read d)
  kid_read_so (any l d) = any_kid l (members_read d)
  kid_read_so (many l n d) = many_kid l n (members_read d)
  kid_read_so (listed l s d) = listed_so l s (listed_read_so d)
  kid_read_so (some_listed l s d) = some_listed_kid l s (listed_read_so d)
  kid_read_so (none_listed {place = place} {m = m} h) = none_listed_kid place m h
  kid_read_so (some_variables l s d) = some_variables_kid l s (listed_read_so d)
  kid_read_so (no_variables h) = no_variables_kid h

  members_read : {note : Bool} {place : Choice} {first : Bool} {nodes : List Node} {notes : List (List ℕ)} {events rest : List Event} → SpellsMembers note place first nodes notes events rest → MembersRead note place first nodes notes events rest
  members_read (end_with_comments e c) = ended_with e
  members_read (end_without e) = ended e
  members_read (member_with_comments {node = node} {events = events} b c d ds) = and_member (ap (λ b. commented b node events) b) (λ f. let wrong : true ≡ false = sym b ∙ f in absurd cc) (node_read d) (members_read ds)
  members_read (member_without {node = node} {events = events} b c d ds) = and_member (ap (λ b. commented b node events) b) (λ f. bare_member c d) (node_read d) (members_read ds)

  listed_read_so : {note : Bool} {place : Choice} {m : Mark} {nodes : List Node} {events rest : List Event} → SpellsListed note place m nodes events rest → ListedRead note place m nodes events rest
  listed_read_so (last_member {node = node} s d) = record { first = node; others = []; middle = _; are = refl; same = bare_silent node s; read = node_read d; more = no_more_members }
  listed_read_so (and_more s d ds) = more_listed s (node_read d) (listed_read_so ds)

  line_read : {note : Bool} {pieces : List Piece} {node : Node} {kids : List Node} {events rest : List Event} → SpellsLine note pieces node kids events rest → IsLineRead note pieces node kids events rest
  line_read (done {note = note} {node = node} {events = events}) = line_done note node events
  line_read (its_word {w = w} d) = line_word w (line_read d)
  line_read (its_mark {m = m} d) = line_mark m (line_read d)
  line_read (its_text {own = own} t e d) = line_text own t e (line_read d)
  line_read (omitted {own = own} t m d) = line_omitted own m (line_read d)
  line_read (its_kid k d) = line_kid (kid_read_so k) (line_read d)
  line_read (its_members ds) = line_members (members_read ds)
  line_read (its_arguments l s ds d) = line_arguments l s (arguments_read_so ds) (line_read d)
  line_read (given d) = line_given (line_read d)
  line_read (left_out {pieces = pieces} z d) = line_left_out pieces z (line_read d)
  line_read (shown {count = count} e d) = line_shown count e (line_read d)
  line_read (hidden {count = count} {pieces = pieces} e d) = line_hidden count pieces e (line_read d)
  line_read (laid_out {piece = piece} l d) = line_laid_out piece l (line_read d)
  line_read (note_begins d) = line_note_begins (line_read d)
  line_read (note_ends d) = line_note_ends (line_read d)

  arguments_read_so : {note : Bool} {line : List Argument} {nodes : List Node} {events rest : List Event} → SpellsArguments note line nodes events rest → AreRead note line nodes events rest
  arguments_read_so (no_more {note = note} {events = events}) = no_arguments note events
  arguments_read_so (an_argument h s d ds) = one_argument h s (node_read d) (arguments_read_so ds)
  arguments_read_so (in_number s d) = in_a_number s (node_read d)
  arguments_read_so (no_in_number {note = note} {events = events}) = no_number events
  arguments_read_so (a_list h ds) = a_list_so h (listed_read_so ds)
  arguments_read_so (no_list {a = a} {place = place} {events = events} h) = no_list_so a place events h

-- a part is read from where its reading begins
pub spelled_reads : (part : GrammarPart) (node : Node) (events rest : List Event) (ss : List Placed) (below last : List Held) → has_texts part ≡ true → SpelledAs part node events rest → Reads ss (held.Tree (bare node) ∷ below) rest last
    → Reads (start_of part ++ ss) below events last
spelled_reads part node events rest ss below last h d r =
    let n = node_read d in
    n.reads (start_of part) [] (start_leads part n.class h n.there n.stands) ss below last r

pub silent_reads : (part : GrammarPart) (node : Node) (events rest : List Event) (ss : List Placed) (below result : List Held) → has_texts part ≡ true → is_silent node ≡ true → SpelledAs part node events rest
    → Reads ss (held.Tree node ∷ below) rest result → Reads (start_of part ++ ss) below events result
silent_reads part node events rest ss below result h s d r =
    spelled_reads part node events rest ss below result h d (subst (λ x. Reads ss (held.Tree x ∷ below) rest result) (sym (bare_silent node s)) r)

-- all events of a spelling
pub whole_reads : (part : GrammarPart) (node : Node) (events : List Event) → has_texts part ≡ true → SpelledAs part node events [] → Reads (start_of part) [] events (held.Tree (bare node) ∷ [])
whole_reads part node events h d =
    subst (λ line. Reads line [] events (held.Tree (bare node) ∷ [])) (append-nil (start_of part)) (spelled_reads part node events [] [] [] (held.Tree (bare node) ∷ []) h d ends)
