-- The canonical text of a file stays within the limit on open parentheses, where its nodes are nested within theirs.
use Rattle.std.proofs.Common.{ℕ, ◌≤◌, List, [], subst, Bool, false, arith}
use Rattle.std.proofs.lemmas.List.{append-nil}
use Rattle.ada_tree.specs.declared.kind.Kind.TheVariants as kind
use Rattle.ada_tree.specs.declared.word.Mark.{Mark}
use Rattle.ada_tree.specs.declared.grammar.Choice.{Choice}
use Rattle.ada_tree.specs.declared.grammar.Choice.TheVariants.{Only}
use Rattle.ada_tree.specs.declared.grammar.Argument.{Argument}
use Rattle.ada_tree.specs.declared.grammar.Shape.{Shape}
use Rattle.ada_tree.specs.declared.grammar.Shape.TheVariants.{One}
use Rattle.ada_tree.specs.declared.grammar.Piece.{Piece}
use Rattle.ada_tree.specs.declared.node.Node.{Node}
use Rattle.ada_tree.specs.Nodes.{nesting_of, is_nested}
use Rattle.ada_tree.specs.Tokens.{Event}
use Rattle.ada_tree.specs.Items.{Item, signs}
use Rattle.ada_tree.specs.declared.limits.TheConstants.{MOST_NESTED, MOST_OPEN}
use Rattle.ada_tree.specs.Reading.{open_in}
use Rattle.ada_tree.specs.Spelling.{SpellsNode, SpellsKid, SpellsMembers, SpellsListed, SpellsLine, SpellsArguments, by_line, in_parentheses, one, any, many, listed, some_listed, none_listed, some_variables, no_variables, end_with_comments, end_without, member_with_comments, member_without, last, and_more, done, its_word, its_mark, its_text, omitted, its_kid, its_members, its_arguments, given, left_out, shown, hidden, laid_out, note_begins, note_ends, no_more, an_argument, in_number, no_in_number, a_list, no_list}
use Rattle.ada_tree.specs.Canonical.{items_of}
use Rattle.text_laws.proofs.round_trip.Written.{node_items, as_it_is}
use Rattle.text_laws.proofs.round_trip.Law.{line_back}
use Rattle.text_laws.proofs.round_trip.OpenedItems.{items_open, signs_open}
use Rattle.text_laws.proofs.round_trip.OpenedParts.{IsBareOpened, IsKidOpened, AreMembersOpened, AreListedOpened, IsLineOpened, AreArgumentsOpened, node_opened, bare_in_them}
use Rattle.text_laws.proofs.round_trip.OpenedLists.{no_members_opened, more_members_opened, last_opened, more_opened, no_arguments_opened, one_argument_opened, number_opened, no_number_opened, list_opened, no_list_opened, one_opened, any_opened, many_opened, listed_opened, maybe_listed_opened, none_opened, variables_opened, no_variables_opened}
use Rattle.text_laws.proofs.round_trip.OpenedPieces.{done_opened, word_opened, mark_opened, laid_out_opened, note_on_opened, note_off_opened, text_opened, kid_opened, members_opened, arguments_opened, given_opened, left_out_opened, shown_opened, hidden_opened}

-- from any spelling of a node follows how many parentheses its canonical text opens
mutual
  open_node : {note : Bool} {place : Choice} {node : Node} {events rest : List Event} → SpellsNode note place node events rest → IsBareOpened note place node
  open_node (by_line s h c d) = record { admitted = as_it_is s; line = open_line d }
  open_node (in_parentheses o d) = bare_in_them o (open_node d)

  open_kid : {note : Bool} {shape : Shape} {node : Node} {events rest : List Event} → SpellsKid note shape node events rest → IsKidOpened shape node
  open_kid (one s d) = one_opened (node_opened (open_node d))
  open_kid (any l d) = any_opened (open_members d)
  open_kid (many l n d) = many_opened (open_members d)
  open_kid (listed l s d) = listed_opened (open_listed d)
  open_kid (some_listed l s d) = maybe_listed_opened (open_listed d)
  open_kid (none_listed {place = place} {m = m} h) = none_opened place m h
  open_kid (some_variables l s d) = variables_opened (open_listed d)
  open_kid (no_variables h) = no_variables_opened h

  open_members : {note : Bool} {place : Choice} {first : Bool} {nodes : List Node} {notes : List (List ℕ)} {events rest : List Event} → SpellsMembers note place first nodes notes events rest → AreMembersOpened place nodes
  open_members (end_with_comments e c) = no_members_opened
  open_members (end_without e) = no_members_opened
  open_members (member_with_comments b c d ds) = more_members_opened (node_opened (open_node d)) (open_members ds)
  open_members (member_without b c d ds) = more_members_opened (node_opened (open_node d)) (open_members ds)

  open_listed : {note : Bool} {place : Choice} {m : Mark} {nodes : List Node} {events rest : List Event} → SpellsListed note place m nodes events rest → AreListedOpened place m nodes
  open_listed (last {m = m} s d) = last_opened m (node_opened (open_node d))
  open_listed (and_more s d ds) = more_opened (node_opened (open_node d)) (open_listed ds)

  open_line : {note : Bool} {pieces : List Piece} {node : Node} {kids : List Node} {events rest : List Event} → SpellsLine note pieces node kids events rest → IsLineOpened pieces node kids
  open_line (done {node = node}) = done_opened node
  open_line (its_word {w = w} d) = word_opened w (open_line d)
  open_line (its_mark {m = m} d) = mark_opened m (open_line d)
  open_line (its_text {note = note} {own = own} t e d) = text_opened note own t (open_line d)
  open_line (omitted {note = note} {own = own} t m d) = text_opened note own t (open_line d)
  open_line (its_kid k d) = kid_opened (open_kid k) (open_line d)
  open_line (its_members ds) = members_opened (open_members ds)
  open_line (its_arguments l s ds d) = arguments_opened (open_arguments ds) (open_line d)
  open_line (given d) = given_opened (line_back d) (open_line d)
  open_line (left_out {pieces = pieces} z d) = left_out_opened pieces z (open_line d)
  open_line (shown {count = count} e d) = shown_opened count e (line_back d) (open_line d)
  open_line (hidden {count = count} {pieces = pieces} e d) = hidden_opened count pieces e (open_line d)
  open_line (laid_out {piece = piece} l d) = laid_out_opened piece l (open_line d)
  open_line (note_begins d) = note_on_opened (open_line d)
  open_line (note_ends d) = note_off_opened (open_line d)

  open_arguments : {note : Bool} {line : List Argument} {nodes : List Node} {events rest : List Event} → SpellsArguments note line nodes events rest → AreArgumentsOpened line nodes
  open_arguments no_more = no_arguments_opened
  open_arguments (an_argument h s d ds) = one_argument_opened h (node_opened (open_node d)) (open_arguments ds)
  open_arguments (in_number s d) = number_opened (node_opened (open_node d))
  open_arguments no_in_number = no_number_opened
  open_arguments (a_list h ds) = list_opened h (open_listed ds)
  open_arguments (no_list h) = no_list_opened h

-- the canonical text of a node that some text spells opens no more parentheses than a bound on the nodes nested in it
pub opened_at : {note : Bool} {place : Choice} {node : Node} {events rest : List Event} (bound : ℕ) → SpellsNode note place node events rest → 1 ≤ bound → nesting_of is_nested node ≤ bound → open_in 0 (signs note (items_of (One place) node)) ≤ bound
unfolding items_of
opened_at {note = note} {place = place} {node = node} bound d l h =
    let own = (node_opened (open_node d)).loose bound l h in
    rw (signs_open note 0 (node_items place node)) (subst (λ (items : List Item). items_open 0 items ≤ bound) (append-nil (node_items place node)) (own.within 0 bound [] (omega arith) (omega arith)))

pub opened_within : {events rest : List Event} (node : Node) → SpellsNode false (Only kind.File) node events rest → nesting_of is_nested node ≤ MOST_NESTED → open_in 0 (signs false (items_of (One (Only kind.File)) node)) ≤ MOST_OPEN
opened_within node d h = opened_at MOST_OPEN d (omega arith) h
