-- What it is for the tokens and comments of a text to be read as a node.
use Rattle.std.specs.Prelude.{◌≡◌, ℕ, suc, ◌-◌, ◌≤◌, List, [], ◌∷◌, ◌++◌, max, Bool, true, false, ◌||◌, if◌then◌else◌}
use Rattle.std.specs.List.{list_all}
use denote.Enum.Bare.{sameb}
use Rattle.ada_tree.specs.contracts.word.Mark as mark_row
use Rattle.ada_tree.specs.declared.limits.TheConstants.{MOST_NESTED, MOST_NESTED_STEPS, MOST_OPEN}
use Rattle.ada_tree.specs.declared.word.Mark.{Mark}
use Rattle.ada_tree.specs.declared.word.Mark.TheVariants as mark
use Rattle.ada_tree.specs.declared.kind.Kind.{Kind}
use Rattle.ada_tree.specs.declared.grammar.Choice.{Choice}
use Rattle.ada_tree.specs.declared.grammar.Choice.TheVariants as choice
use Rattle.ada_tree.specs.declared.node.Node.{Node}
use Rattle.ada_tree.specs.Nodes.{notes_of, is_silent, nesting_of, is_nested, is_step}
use Rattle.ada_tree.specs.Tokens.{Lexeme, a_mark, Sign, token, comment, Event, spelled, comments}
use Rattle.ada_tree.specs.Kinds.{is_among}
use Rattle.ada_tree.specs.Choices.{kinds, comments_of}
use Rattle.ada_tree.specs.Texts.{is_comment}
use Rattle.ada_tree.specs.Spelling.{starts_with_comments, keeps_comments, SpellsNode}

abbrev pub begins_with_comment : List Sign → Bool
begins_with_comment [] = false
begins_with_comment (token note lexeme ∷ signs) = false
begins_with_comment (comment text ∷ signs) = true

-- Each comment belongs to the first place that follows it, and one that no place follows is dropped. The first list has the comments that wait for their place.
pub data Attached : List (List ℕ) → List Event → List Sign → Type 0 where
  dropped : {waiting : List (List ℕ)} → Attached waiting [] []
  waits : {waiting : List (List ℕ)} {text : List ℕ} {events : List Event} {signs : List Sign}
      → Attached (waiting ++ text ∷ []) events signs → Attached waiting events (comment text ∷ signs)
  taken : {waiting : List (List ℕ)} {events : List Event} {signs : List Sign}
      → begins_with_comment signs ≡ false → Attached [] events signs → Attached waiting (comments waiting ∷ events) signs
  passed : {waiting : List (List ℕ)} {note : Bool} {lexeme : Lexeme} {events : List Event} {signs : List Sign}
      → Attached waiting events signs → Attached waiting (spelled note lexeme ∷ events) (token note lexeme ∷ signs)

-- ---- limits

abbrev pub is_mark : Mark → Lexeme → Bool
is_mark wanted (a_mark m) = sameb mark_row.the_type wanted m
is_mark wanted _ = false

-- how many parentheses are open after a token
abbrev pub open_after : ℕ → Lexeme → ℕ
open_after count lexeme = if is_mark mark.Open lexeme then suc count else if is_mark mark.Close lexeme then count - 1 else count

-- how many parentheses are open at once, at most, where so many are open already
abbrev pub open_in : ℕ → List Sign → ℕ
open_in count [] = count
open_in count (comment text ∷ signs) = open_in count signs
open_in count (token note lexeme ∷ signs) = max count (open_in (open_after count lexeme) signs)

-- expressions, terms and statements, and proof steps, contain each other no deeper than the limits
pub record IsNested (node : Node) : Type 0 where
  pub nodes : nesting_of is_nested node ≤ MOST_NESTED
  pub steps : nesting_of is_step node ≤ MOST_NESTED_STEPS

-- the kinds of the members that take comments in their lists
abbrev pub is_commented : Kind → Bool
is_commented k = is_among k (kinds choice.Item) || is_among k (kinds choice.Decl) || is_among k (kinds choice.Stmt)

abbrev is_commented_alone : Choice → Bool
is_commented_alone (choice.Only k) = is_commented k
is_commented_alone _ = false

-- A node that stands by itself takes the comments before it where the members of a list at this place do, and where it is of a kind of such members; elsewhere it has none, but for a file, which has those at its end.
abbrev pub takes_comments : Choice → Bool
takes_comments place = starts_with_comments (comments_of place) true || is_commented_alone place

abbrev pub standing : Choice → Node → List Event → List Event
standing place node events = if takes_comments place then comments (notes_of node) ∷ events else events

abbrev pub has_fitting_comments : Choice → Node → Bool
has_fitting_comments place node = if takes_comments place then list_all is_comment (notes_of node) else keeps_comments (comments_of place) || is_silent node

-- Apart from the limits, the tokens and comments are read as the node, at this place of the grammar. `note` tells that the place is in an annotation.
pub record IsUnlimitedReading (note : Bool) (place : Choice) (signs : List Sign) (node : Node) : Type 0 where
  pub events : List Event
  pub spelling : SpellsNode note place node events []
  pub fitting : has_fitting_comments place node ≡ true
  pub attached : Attached [] (standing place node events) signs

-- The tokens and comments are read as the node, within the limits.
pub record IsReading (note : Bool) (place : Choice) (signs : List Sign) (node : Node) : Type 0 where
  pub reading : IsUnlimitedReading note place signs node
  pub nested : IsNested node
  pub opened : open_in 0 signs ≤ MOST_OPEN
