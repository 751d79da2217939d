-- The tokens of each file's canonical text can be told apart.
use Rattle.std.proofs.Common.{◌≡◌, ℕ, List, [], refl, subst, Bool, true, false, None}
use Rattle.std.proofs.lemmas.List.{append-nil}
use Rattle.std.specs.Prelude.{Contains}
use Rattle.ada_tree.specs.declared.kind.Kind.TheVariants as kind
use Rattle.ada_tree.specs.declared.word.Mark.{Mark}
use Rattle.ada_tree.specs.declared.grammar.Choice.{Choice}
use Rattle.ada_tree.specs.declared.grammar.Choice.TheVariants.{Only}
use Rattle.ada_tree.specs.declared.grammar.Argument.{Argument}
use Rattle.ada_tree.specs.declared.grammar.Shape.{Shape}
use Rattle.ada_tree.specs.declared.grammar.Shape.TheVariants.{One}
use Rattle.ada_tree.specs.declared.grammar.Piece.{Piece}
use Rattle.ada_tree.specs.declared.node.Node.{Node}
use Rattle.ada_tree.specs.Nodes.{kids_of}
use Rattle.ada_tree.specs.Tokens.{Event}
use Rattle.ada_tree.specs.Items.{Item}
use Rattle.ada_tree.specs.Fits.{Fits}
use Rattle.ada_tree.specs.Spelling.{SpellsNode, SpellsKid, SpellsMembers, SpellsListed, SpellsLine, SpellsArguments, by_line, in_parentheses, one, any, many, listed, some_listed, none_listed, some_variables, no_variables, end_with_comments, end_without, member_with_comments, member_without, last, and_more, done, its_word, its_mark, its_text, omitted, its_kid, its_members, its_arguments, given, left_out, shown, hidden, laid_out, note_begins, note_ends, no_more, an_argument, in_number, no_in_number, a_list, no_list}
use Rattle.ada_tree.specs.Canonical.{items_of}
use Rattle.text_laws.proofs.round_trip.Written.{node_items, as_it_is}
use Rattle.text_laws.proofs.round_trip.Law.{line_back}
use Rattle.text_laws.proofs.round_trip.Whole.{file_spelled}
use Rattle.lex_ada.specs.Rendered.{are_apart}
use Rattle.text_laws.proofs.apart.Fronts.{usual, after_mark, admits_given, fresh_admits}
use Rattle.text_laws.proofs.apart.Parts.{IsBareApart, IsKidApart, AreMembersApart, AreListedApart, IsLineApart, AreArgumentsApart, node_apart, bare_in_them}
use Rattle.text_laws.proofs.apart.Lists.{no_members_commented, no_members, member_commented, member_uncommented, last_apart, more_apart, no_arguments, one_argument, number_after_in, no_number_after_in, list_argument, no_list_argument, one_kid, any_kid, many_kid, listed_kid, some_listed_kid, none_listed_kid, some_variables_kid, no_variables_kid}
use Rattle.text_laws.proofs.apart.Pieces.{line_done, line_word, line_mark, line_laid_out, line_note_begins, line_note_ends, line_text, line_kid, line_members, line_arguments, line_given, line_left_out, line_shown, line_hidden}

-- from any spelling of a node follows that the tokens of its canonical text can be told apart
mutual
  tell_node : {note : Bool} {place : Choice} {node : Node} {events rest : List Event} → SpellsNode note place node events rest → IsBareApart note place node
  tell_node (by_line s h c d) = record { admitted = as_it_is s; line = tell_line d }
  tell_node (in_parentheses o d) = bare_in_them o (tell_node d)

  tell_kid : {note : Bool} {shape : Shape} {node : Node} {events rest : List Event} → SpellsKid note shape node events rest → IsKidApart note shape node
  tell_kid (one s d) = one_kid (node_apart (tell_node d))
  tell_kid (any l d) = any_kid (tell_members d)
  tell_kid (many l n d) = many_kid (tell_members d)
  tell_kid (listed l s d) = listed_kid (tell_listed d)
  tell_kid (some_listed l s d) = some_listed_kid (tell_listed d)
  tell_kid (none_listed {note = note} {place = place} {m = m} h) = none_listed_kid note place m h
  tell_kid (some_variables l s d) = some_variables_kid (tell_listed d)
  tell_kid (no_variables {note = note} h) = no_variables_kid note h

  tell_members : {note : Bool} {place : Choice} {first : Bool} {nodes : List Node} {notes : List (List ℕ)} {events rest : List Event} → SpellsMembers note place first nodes notes events rest → AreMembersApart note place nodes notes
  tell_members (end_with_comments {note = note} {place = place} {notes = notes} e c) = no_members_commented note place notes e c
  tell_members (end_without {note = note} {place = place} e) = no_members note place
  tell_members (member_with_comments {first = first} b c d ds) = member_commented first b c (node_apart (tell_node d)) (tell_members ds)
  tell_members (member_without b c d ds) = member_uncommented c (node_apart (tell_node d)) (tell_members ds)

  tell_listed : {note : Bool} {place : Choice} {m : Mark} {nodes : List Node} {events rest : List Event} → SpellsListed note place m nodes events rest → AreListedApart note place m nodes
  tell_listed (last {m = m} s d) = last_apart m (node_apart (tell_node d))
  tell_listed (and_more s d ds) = more_apart (node_apart (tell_node d)) (tell_listed ds)

  tell_line : {note : Bool} {pieces : List Piece} {node : Node} {kids : List Node} {events rest : List Event} → SpellsLine note pieces node kids events rest → IsLineApart note pieces node kids
  tell_line (done {note = note} {node = node}) = line_done note node
  tell_line (its_word {w = w} d) = line_word w (tell_line d)
  tell_line (its_mark {m = m} d) = line_mark m (tell_line d)
  tell_line (its_text {own = own} t e d) = line_text own t (tell_line d)
  tell_line (omitted {own = own} t m d) = line_text own t (tell_line d)
  tell_line (its_kid k d) = line_kid (tell_kid k) (tell_line d)
  tell_line (its_members ds) = line_members (tell_members ds)
  tell_line (its_arguments l s ds d) = line_arguments (tell_arguments ds) (tell_line d)
  tell_line (given d) = line_given (line_back d) (tell_line d)
  tell_line (left_out {pieces = pieces} z d) = line_left_out pieces z (tell_line d)
  tell_line (shown {count = count} e d) = line_shown count e (line_back d) (tell_line d)
  tell_line (hidden {count = count} {pieces = pieces} e d) = line_hidden count pieces e (tell_line d)
  tell_line (laid_out {piece = piece} l d) = line_laid_out piece l (tell_line d)
  tell_line (note_begins d) = line_note_begins (tell_line d)
  tell_line (note_ends d) = line_note_ends (tell_line d)

  tell_arguments : {note : Bool} {line : List Argument} {nodes : List Node} {events rest : List Event} → SpellsArguments note line nodes events rest → AreArgumentsApart note line nodes
  tell_arguments (no_more {note = note}) = no_arguments note
  tell_arguments (an_argument h s d ds) = one_argument h (node_apart (tell_node d)) (tell_arguments ds)
  tell_arguments (in_number s d) = number_after_in (node_apart (tell_node d))
  tell_arguments (no_in_number {note = note}) = no_number_after_in note
  tell_arguments (a_list h ds) = list_argument h (tell_listed ds)
  tell_arguments (no_list {note = note} h) = no_list_argument note h

-- the canonical text of a file that some text spells
told_apart : {events rest : List Event} (file : Node) → SpellsNode false (Only kind.File) file events rest → are_apart false None false (items_of (One (Only kind.File)) file) ≡ true
unfolding items_of
told_apart file d =
    let own = (node_apart (tell_node d)).apart refl in
    subst (λ (items : List Item). are_apart false None false items ≡ true) (append-nil (node_items (Only kind.File) file))
    (own.apart [] (λ last tight a. refl) None false (admits_given after_mark usual None false refl fresh_admits))

-- the canonical text of each file of a document
pub canonical_are_apart : (root file : Node) → Fits root → Contains (kids_of root) file → are_apart false None false (items_of (One (Only kind.File)) file) ≡ true
canonical_are_apart root file fits i =
    let found = file_spelled root file fits i in
    told_apart file found.spelling
