-- How nodes are spelled: `SpellsNode note place node events rest` says that the events begin with a spelling of the node at this place of the grammar, and that `rest` is left of them. `note` tells that the place is in an annotation.
use Rattle.std.specs.Prelude.{◌≡◌, ℕ, List, [], ◌∷◌, drop, Bool, true, false, ◌||◌, bytes_eq, Option, Some, None}
use Rattle.std.specs.List.{list_all, list_any}
use Rattle.ada_tree.specs.declared.kind.Kind.{Kind}
use Rattle.ada_tree.specs.declared.kind.Kind.TheVariants as kind
use Rattle.ada_tree.specs.declared.word.Word.{Word}
use Rattle.ada_tree.specs.declared.word.Word.TheVariants as word
use Rattle.ada_tree.specs.declared.word.Mark.{Mark}
use Rattle.ada_tree.specs.declared.word.Mark.TheVariants as mark
use Rattle.ada_tree.specs.declared.grammar.Choice.{Choice}
use Rattle.ada_tree.specs.declared.grammar.Choice.TheVariants as choice
use Rattle.ada_tree.specs.declared.grammar.Comments.{Comments}
use Rattle.ada_tree.specs.declared.grammar.Comments.TheVariants.{Each, First, Kept, Nowhere}
use Rattle.ada_tree.specs.declared.grammar.Own.{Own as OwnText}
use Rattle.ada_tree.specs.declared.grammar.Shape.{Shape}
use Rattle.ada_tree.specs.declared.grammar.Shape.TheVariants.{One, Any, Many, Listed, MaybeListed, ForAll}
use Rattle.ada_tree.specs.declared.grammar.Piece.{Piece}
use Rattle.ada_tree.specs.declared.grammar.Piece.TheVariants.{Word as a_word_piece, Mark as a_mark_piece, Own, Kid, Members, Arguments, Option as Optional, Shown, End, Indent, Outdent, Glue, NoteOn, NoteOff}
use Rattle.ada_tree.specs.declared.grammar.Argument.{Argument}
use Rattle.ada_tree.specs.declared.grammar.Argument.TheVariants as argument
use Rattle.ada_tree.specs.declared.node.Node.{Node}
use Rattle.ada_tree.specs.Kinds.{is_kind}
use Rattle.ada_tree.specs.Nodes.{kind_of, text_of, notes_of, kids_of, is_empty, is_silent, is_list, is_empty_list, is_none, are_empty}
use Rattle.ada_tree.specs.Tokens.{a_word, a_mark, Event, spelled, comments, spell}
use Rattle.ada_tree.specs.Items.{lexemes}
use Rattle.ada_tree.specs.Choices.{stands, opens, comments_of}
use Rattle.ada_tree.specs.Lines.{line}
use Rattle.ada_tree.specs.Rules.{arguments_of}
use Rattle.ada_tree.specs.Texts.{fits_own, own_items, may_be_omitted, is_comment}

-- ---- what a line says of the node whole

-- what follows the end of a part that is left out
abbrev pub after_end : List Piece → List Piece
after_end [] = []
after_end (End ∷ pieces) = pieces
after_end (_ ∷ pieces) = after_end pieces

abbrev pub is_own : Piece → Bool
is_own (Own own) = true
is_own _ = false

abbrev pub is_layout : Piece → Bool
is_layout Indent = true
is_layout Outdent = true
is_layout Glue = true
is_layout End = true
is_layout _ = false

-- a node has a text of its own only where its line has a place for it
abbrev pub has_place : List Piece → List ℕ → Bool
has_place pieces text = list_any is_own pieces || is_empty text

-- two members or more, or one association
abbrev pub are_components : List Node → Bool
are_components [] = false
are_components (node ∷ []) = is_kind (kind_of node) kind.Assoc
are_components (node ∷ other ∷ nodes) = true

abbrev pub is_named_as : List Node → List ℕ → Bool
is_named_as [] text = false
is_named_as (spec ∷ kids) text = bytes_eq (text_of spec) text

abbrev pub has_components : List Node → Bool
has_components [] = false
has_components (list ∷ kids) = are_components (kids_of list)

-- a subprogram ends with its own name, and an aggregate isn't an expression in parentheses
abbrev pub is_consistent : Kind → List ℕ → List Node → Bool
is_consistent kind.SubBody text kids = is_named_as kids text
is_consistent kind.Aggr text kids = has_components kids
is_consistent _ text kids = true

abbrev pub line_of : Choice → Node → List Piece
line_of place node = line place (kind_of node) (text_of node)

-- ---- comments at the members and at the end of a list; `first` tells that the member is the first one

abbrev pub starts_with_comments : Comments → Bool → Bool
starts_with_comments Each first = true
starts_with_comments First first = first
starts_with_comments Kept first = false
starts_with_comments Nowhere first = false

abbrev pub ends_with_comments : Comments → Bool
ends_with_comments Each = true
ends_with_comments _ = false

abbrev pub keeps_comments : Comments → Bool
keeps_comments Kept = true
keeps_comments _ = false

-- ---- arguments of proof steps

-- the place of an argument that is one node
abbrev pub argument_place : Argument → Option Choice
argument_place argument.Number = Some (choice.Only kind.Int)
argument_place argument.Name = Some (choice.Only kind.Name)
argument_place argument.LemmaName = Some choice.LemmaName
argument_place argument.Term = Some choice.Expr
argument_place _ = None

-- the place of the members of an argument that is a list
abbrev pub listed_place : Argument → Option Choice
listed_place argument.Names = Some (choice.Only kind.Name)
listed_place argument.Terms = Some choice.Expr
listed_place argument.Coefficients = Some choice.Coefficient
listed_place _ = None

-- ---- the spellings

mutual
  pub data SpellsNode : Bool → Choice → Node → List Event → List Event → Type 0 where
    by_line : {note : Bool} {place : Choice} {node : Node} {events rest : List Event}
        → stands note place (kind_of node) (text_of node) ≡ true
        → has_place (line_of place node) (text_of node) ≡ true
        → is_consistent (kind_of node) (text_of node) (kids_of node) ≡ true
        → SpellsLine note (line_of place node) node (kids_of node) events rest
        → SpellsNode note place node events rest
    -- superfluous ones too
    in_parentheses : {note : Bool} {place : Choice} {node : Node} {events rest : List Event}
        → opens place ≡ true
        → SpellsNode note choice.Expr node events (spelled note (a_mark mark.Close) ∷ rest)
        → SpellsNode note place node (spelled note (a_mark mark.Open) ∷ events) rest

  -- a kid, by its shape
  pub data SpellsKid : Bool → Shape → Node → List Event → List Event → Type 0 where
    one : {note : Bool} {place : Choice} {node : Node} {events rest : List Event}
        → is_silent node ≡ true → SpellsNode note place node events rest → SpellsKid note (One place) node events rest
    any : {note : Bool} {place : Choice} {node : Node} {events rest : List Event}
        → is_list node ≡ true → SpellsMembers note place true (kids_of node) (notes_of node) events rest
        → SpellsKid note (Any place) node events rest
    many : {note : Bool} {place : Choice} {node : Node} {events rest : List Event}
        → is_list node ≡ true → is_empty (kids_of node) ≡ false → SpellsMembers note place true (kids_of node) (notes_of node) events rest
        → SpellsKid note (Many place) node events rest
    listed : {note : Bool} {place : Choice} {m : Mark} {node : Node} {events rest : List Event}
        → is_list node ≡ true → is_silent node ≡ true → SpellsListed note place m (kids_of node) events rest
        → SpellsKid note (Listed place m) node events rest
    some_listed : {note : Bool} {place : Choice} {m : Mark} {node : Node} {events rest : List Event}
        → is_list node ≡ true → is_silent node ≡ true → SpellsListed note place m (kids_of node) events rest
        → SpellsKid note (MaybeListed place m) node events rest
    none_listed : {note : Bool} {place : Choice} {m : Mark} {node : Node} {events : List Event}
        → is_empty_list node ≡ true → SpellsKid note (MaybeListed place m) node events events
    some_variables : {note : Bool} {node : Node} {events rest : List Event}
        → is_list node ≡ true → is_silent node ≡ true → SpellsListed note (choice.Only kind.Vars) mark.Semicolon (kids_of node) events rest
        → SpellsKid note ForAll node (spelled note (a_word word.For) ∷ spelled note (a_word word.All) ∷ events) rest
    no_variables : {note : Bool} {node : Node} {events : List Event}
        → is_empty_list node ≡ true → SpellsKid note ForAll node events events

  -- members without marks between them, and the comments that belong to them and to the list
  pub data SpellsMembers : Bool → Choice → Bool → List Node → List (List ℕ) → List Event → List Event → Type 0 where
    end_with_comments : {note : Bool} {place : Choice} {first : Bool} {notes : List (List ℕ)} {events : List Event}
        → ends_with_comments (comments_of place) ≡ true → list_all is_comment notes ≡ true
        → SpellsMembers note place first [] notes (comments notes ∷ events) events
    end_without : {note : Bool} {place : Choice} {first : Bool} {events : List Event}
        → ends_with_comments (comments_of place) ≡ false
        → SpellsMembers note place first [] [] events events
    member_with_comments : {note : Bool} {place : Choice} {first : Bool} {node : Node} {nodes : List Node} {notes : List (List ℕ)} {events middle rest : List Event}
        → starts_with_comments (comments_of place) first ≡ true → list_all is_comment (notes_of node) ≡ true
        → SpellsNode note place node events middle → SpellsMembers note place false nodes notes middle rest
        → SpellsMembers note place first (node ∷ nodes) notes (comments (notes_of node) ∷ events) rest
    member_without : {note : Bool} {place : Choice} {first : Bool} {node : Node} {nodes : List Node} {notes : List (List ℕ)} {events middle rest : List Event}
        → starts_with_comments (comments_of place) first ≡ false → keeps_comments (comments_of place) || is_silent node ≡ true
        → SpellsNode note place node events middle → SpellsMembers note place false nodes notes middle rest
        → SpellsMembers note place first (node ∷ nodes) notes events rest

  -- one member or more, with the mark between them
  pub data SpellsListed : Bool → Choice → Mark → List Node → List Event → List Event → Type 0 where
    last : {note : Bool} {place : Choice} {m : Mark} {node : Node} {events rest : List Event}
        → is_silent node ≡ true → SpellsNode note place node events rest
        → SpellsListed note place m (node ∷ []) events rest
    and_more : {note : Bool} {place : Choice} {m : Mark} {node : Node} {nodes : List Node} {events middle rest : List Event}
        → is_silent node ≡ true → SpellsNode note place node events (spelled note (a_mark m) ∷ middle) → SpellsListed note place m nodes middle rest
        → SpellsListed note place m (node ∷ nodes) events rest

  -- what is left of the node's line, and of its kids
  pub data SpellsLine : Bool → List Piece → Node → List Node → List Event → List Event → Type 0 where
    done : {note : Bool} {node : Node} {events : List Event} → SpellsLine note [] node [] events events
    its_word : {note : Bool} {w : Word} {pieces : List Piece} {node : Node} {kids : List Node} {events rest : List Event}
        → SpellsLine note pieces node kids events rest
        → SpellsLine note (a_word_piece w ∷ pieces) node kids (spelled note (a_word w) ∷ events) rest
    its_mark : {note : Bool} {m : Mark} {pieces : List Piece} {node : Node} {kids : List Node} {events rest : List Event}
        → SpellsLine note pieces node kids events rest
        → SpellsLine note (a_mark_piece m ∷ pieces) node kids (spelled note (a_mark m) ∷ events) rest
    its_text : {note : Bool} {own : OwnText} {pieces : List Piece} {node : Node} {kids : List Node} {events middle rest : List Event}
        → fits_own note own (text_of node) ≡ true → events ≡ spell note (lexemes (own_items own (text_of node))) middle
        → SpellsLine note pieces node kids middle rest
        → SpellsLine note (Own own ∷ pieces) node kids events rest
    omitted : {note : Bool} {own : OwnText} {pieces : List Piece} {node : Node} {kids : List Node} {events rest : List Event}
        → fits_own note own (text_of node) ≡ true → may_be_omitted own (text_of node) ≡ true
        → SpellsLine note pieces node kids events rest
        → SpellsLine note (Own own ∷ pieces) node kids events rest
    its_kid : {note : Bool} {shape : Shape} {pieces : List Piece} {node kid : Node} {kids : List Node} {events middle rest : List Event}
        → SpellsKid note shape kid events middle → SpellsLine note pieces node kids middle rest
        → SpellsLine note (Kid shape ∷ pieces) node (kid ∷ kids) events rest
    its_members : {note : Bool} {place : Choice} {node : Node} {kids : List Node} {events rest : List Event}
        → SpellsMembers note place true kids (notes_of node) events rest
        → SpellsLine note (Members place ∷ []) node kids events rest
    its_arguments : {note : Bool} {pieces : List Piece} {node kid : Node} {kids : List Node} {events middle rest : List Event}
        → is_list kid ≡ true → is_silent kid ≡ true → SpellsArguments note (arguments_of (text_of node)) (kids_of kid) events middle
        → SpellsLine note pieces node kids middle rest
        → SpellsLine note (Arguments ∷ pieces) node (kid ∷ kids) events rest
    -- a part that may be left out
    given : {note : Bool} {pieces : List Piece} {node : Node} {kids : List Node} {events rest : List Event}
        → SpellsLine note pieces node kids events rest
        → SpellsLine note (Optional ∷ pieces) node kids events rest
    left_out : {note : Bool} {pieces : List Piece} {node kid : Node} {kids : List Node} {events rest : List Event}
        → is_none kid ≡ true → SpellsLine note (after_end pieces) node kids events rest
        → SpellsLine note (Optional ∷ pieces) node (kid ∷ kids) events rest
    -- a part that is there exactly where one of its lists has a member
    shown : {note : Bool} {count : ℕ} {pieces : List Piece} {node : Node} {kids : List Node} {events rest : List Event}
        → are_empty count kids ≡ false → SpellsLine note pieces node kids events rest
        → SpellsLine note (Shown count ∷ pieces) node kids events rest
    hidden : {note : Bool} {count : ℕ} {pieces : List Piece} {node : Node} {kids : List Node} {events rest : List Event}
        → are_empty count kids ≡ true → SpellsLine note (after_end pieces) node (drop count kids) events rest
        → SpellsLine note (Shown count ∷ pieces) node kids events rest
    -- layout is no part of a spelling
    laid_out : {note : Bool} {piece : Piece} {pieces : List Piece} {node : Node} {kids : List Node} {events rest : List Event}
        → is_layout piece ≡ true → SpellsLine note pieces node kids events rest
        → SpellsLine note (piece ∷ pieces) node kids events rest
    -- the tokens of an annotation, and no others, stand in annotation text
    note_begins : {pieces : List Piece} {node : Node} {kids : List Node} {events rest : List Event}
        → SpellsLine true pieces node kids events rest → SpellsLine false (NoteOn ∷ pieces) node kids events rest
    note_ends : {pieces : List Piece} {node : Node} {kids : List Node} {events rest : List Event}
        → SpellsLine false pieces node kids events rest → SpellsLine true (NoteOff ∷ pieces) node kids events rest

  -- the arguments of a proof step, by the line of its rule
  pub data SpellsArguments : Bool → List Argument → List Node → List Event → List Event → Type 0 where
    no_more : {note : Bool} {events : List Event} → SpellsArguments note [] [] events events
    an_argument : {note : Bool} {a : Argument} {others : List Argument} {place : Choice} {node : Node} {nodes : List Node} {events middle rest : List Event}
        → argument_place a ≡ Some place → is_silent node ≡ true → SpellsNode note place node events middle → SpellsArguments note others nodes middle rest
        → SpellsArguments note (a ∷ others) (node ∷ nodes) events rest
    in_number : {note : Bool} {node : Node} {events rest : List Event}
        → is_silent node ≡ true → SpellsNode note (choice.Only kind.Int) node events rest
        → SpellsArguments note (argument.InNumber ∷ []) (node ∷ []) (spelled note (a_word word.In) ∷ events) rest
    no_in_number : {note : Bool} {events : List Event} → SpellsArguments note (argument.InNumber ∷ []) [] events events
    a_list : {note : Bool} {a : Argument} {place : Choice} {nodes : List Node} {events rest : List Event}
        → listed_place a ≡ Some place → SpellsListed note place mark.Comma nodes events (spelled note (a_mark mark.Close) ∷ rest)
        → SpellsArguments note (a ∷ []) nodes (spelled note (a_mark mark.Open) ∷ events) rest
    no_list : {note : Bool} {a : Argument} {place : Choice} {events : List Event}
        → listed_place a ≡ Some place → SpellsArguments note (a ∷ []) [] events events
