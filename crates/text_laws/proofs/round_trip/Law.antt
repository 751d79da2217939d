-- What is written canonically is read back: from any spelling of a node follows its canonical one, and its comments stand in the canonical text where they belong.
use Rattle.std.proofs.Common.{◌≡◌, ℕ, List, [], refl, subst, Bool, true, false}
use Rattle.std.proofs.lemmas.List.{append-nil}
use Rattle.ada_tree.specs.declared.kind.Kind.TheVariants as kind
use Rattle.ada_tree.specs.declared.word.Mark.{Mark}
use Rattle.ada_tree.specs.declared.grammar.Choice.{Choice}
use Rattle.ada_tree.specs.declared.grammar.Choice.TheVariants.{Only}
use Rattle.ada_tree.specs.declared.grammar.Shape.{Shape}
use Rattle.ada_tree.specs.declared.grammar.Shape.TheVariants.{One}
use Rattle.ada_tree.specs.declared.grammar.Piece.{Piece}
use Rattle.ada_tree.specs.declared.grammar.Argument.{Argument}
use Rattle.ada_tree.specs.declared.node.Node.{Node}
use Rattle.ada_tree.specs.Tokens.{Event}
use Rattle.ada_tree.specs.Items.{signs}
use Rattle.ada_tree.specs.Reading.{Attached, dropped}
use Rattle.ada_tree.specs.Spelling.{SpellsNode, SpellsKid, SpellsMembers, SpellsListed, SpellsLine, SpellsArguments, by_line, in_parentheses, one, any, many, listed, some_listed, none_listed, some_variables, no_variables, end_with_comments, end_without, member_with_comments, member_without, last, and_more, done, its_word, its_mark, its_text, omitted, its_kid, its_members, its_arguments, given, left_out, shown, hidden, laid_out, note_begins, note_ends, no_more, an_argument, in_number, no_in_number, a_list, no_list}
use Rattle.ada_tree.specs.Canonical.{items_of}
use Rattle.text_laws.proofs.round_trip.Places.{is_proper}
use Rattle.text_laws.proofs.round_trip.Written.{as_it_is, IsLineWritten, IsStripped, IsNodeWritten, IsKidWritten, AreMembersWritten, AreListedWritten, AreArgumentsWritten, node_items}
use Rattle.text_laws.proofs.round_trip.Nodes.{node_written, in_superfluous}
use Rattle.text_laws.proofs.round_trip.Lists.{no_members_commented, no_members, member_commented, member_uncommented, last_listed, more_listed, no_arguments, one_argument, number_after_in, no_number_after_in, list_argument, no_list_argument}
use Rattle.text_laws.proofs.round_trip.Kids.{one_kid, any_kid, many_kid, listed_kid, some_listed_kid, none_listed_kid, some_variables_kid, no_variables_kid}
use Rattle.text_laws.proofs.round_trip.Pieces.{line_done, line_word, line_mark, line_laid_out, line_note_begins, line_note_ends, line_text, line_kid, line_members, line_arguments, line_given, line_left_out, line_shown, line_hidden}

mutual
  pub node_back : {note : Bool} {place : Choice} {node : Node} {events rest : List Event} → SpellsNode note place node events rest → IsStripped note place node
  node_back (by_line s h c d) = record { admitted = as_it_is s; placed = h; consistent = c; line = line_back d }
  node_back (in_parentheses o d) = in_superfluous o (node_back d)

  pub kid_back : {note : Bool} {shape : Shape} {node : Node} {events rest : List Event} → SpellsKid note shape node events rest → IsKidWritten note shape node
  kid_back (one s d) = one_kid s (node_written (node_back d))
  kid_back (any l d) = any_kid l (members_back d)
  kid_back (many l n d) = many_kid l n (members_back d)
  kid_back (listed l s d) = listed_kid l s (listed_back d)
  kid_back (some_listed l s d) = some_listed_kid l s (listed_back d)
  kid_back (none_listed {place = place} {m = m} h) = none_listed_kid place m h
  kid_back (some_variables l s d) = some_variables_kid l s (listed_back d)
  kid_back (no_variables h) = no_variables_kid h

  pub members_back : {note : Bool} {place : Choice} {first : Bool} {nodes : List Node} {notes : List (List ℕ)} {events rest : List Event} → SpellsMembers note place first nodes notes events rest → AreMembersWritten note place first nodes notes
  members_back (end_with_comments {note = note} {place = place} {first = first} {notes = notes} e c) = no_members_commented note place first notes e c
  members_back (end_without {note = note} {place = place} {first = first} e) = no_members note place first e
  members_back (member_with_comments b c d ds) = member_commented b c (node_written (node_back d)) (members_back ds)
  members_back (member_without b c d ds) = member_uncommented b c (node_written (node_back d)) (members_back ds)

  pub listed_back : {note : Bool} {place : Choice} {m : Mark} {nodes : List Node} {events rest : List Event} → SpellsListed note place m nodes events rest → AreListedWritten note place m nodes
  listed_back (last {m = m} s d) = last_listed m s (node_written (node_back d))
  listed_back (and_more s d ds) = more_listed s (node_written (node_back d)) (listed_back ds)

  pub line_back : {note : Bool} {pieces : List Piece} {node : Node} {kids : List Node} {events rest : List Event} → SpellsLine note pieces node kids events rest → IsLineWritten note pieces node kids
  line_back (done {note = note} {node = node}) = line_done note node
  line_back (its_word {w = w} d) = line_word w (line_back d)
  line_back (its_mark {m = m} d) = line_mark m (line_back d)
  line_back (its_text {own = own} t e d) = line_text own t (line_back d)
  line_back (omitted {own = own} t m d) = line_text own t (line_back d)
  line_back (its_kid k d) = line_kid (kid_back k) (line_back d)
  line_back (its_members ds) = line_members (members_back ds)
  line_back (its_arguments l s ds d) = line_arguments l s (arguments_back ds) (line_back d)
  line_back (given d) = line_given (line_back d)
  line_back (left_out {pieces = pieces} z d) = line_left_out pieces z (line_back d)
  line_back (shown {count = count} e d) = line_shown count e (line_back d)
  line_back (hidden {count = count} {pieces = pieces} e d) = line_hidden count pieces e (line_back d)
  line_back (laid_out {piece = piece} l d) = line_laid_out piece l (line_back d)
  line_back (note_begins d) = line_note_begins (line_back d)
  line_back (note_ends d) = line_note_ends (line_back d)

  pub arguments_back : {note : Bool} {line : List Argument} {nodes : List Node} {events rest : List Event} → SpellsArguments note line nodes events rest → AreArgumentsWritten note line nodes
  arguments_back (no_more {note = note}) = no_arguments note
  arguments_back (an_argument h s d ds) = one_argument h s (node_written (node_back d)) (arguments_back ds)
  arguments_back (in_number s d) = number_after_in s (node_written (node_back d))
  arguments_back (no_in_number {note = note}) = no_number_after_in note
  arguments_back (a_list h ds) = list_argument h (listed_back ds)
  arguments_back (no_list {note = note} {a = a} {place = place} h) = no_list_argument note a place h

-- the canonical spelling, which any events may follow
pub canonical_spelling : {note : Bool} {place : Choice} {node : Node} {events rest : List Event} → SpellsNode note place node events rest → IsNodeWritten note place node
canonical_spelling d = node_written (node_back d)

-- the canonical spelling of a node that some text spells: it spells the node, and its comments stand in the canonical text where they belong
pub record IsWrittenAs (note : Bool) (place : Choice) (node : Node) : Type 0 where
  pub events : List Event
  pub spelling : SpellsNode note place node events []
  pub attached : Attached [] events (signs note (items_of (One place) node))

-- a node at any place but that of a document
pub written_as : {note : Bool} {place : Choice} {node : Node} {events rest : List Event} → is_proper place ≡ true → SpellsNode note place node events rest → IsWrittenAs note place node
unfolding items_of
written_as {note = note} {place = place} {node = node} p d =
    let own = canonical_spelling d in
    record {
      events = own.events [];
      spelling = own.spelling [];
      attached = subst (λ items. Attached [] (own.events []) (signs note items)) (append-nil (node_items place node)) (own.attached [] [] p (λ o. refl) dropped);
    }

pub reads_back : (node : Node) (events : List Event) → SpellsNode false (Only kind.File) node events [] → IsWrittenAs false (Only kind.File) node
reads_back node events d = written_as refl d
