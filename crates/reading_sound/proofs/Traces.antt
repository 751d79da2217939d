-- What is left of what has been read, where the node that it belongs to isn't built yet.
use Rattle.std.proofs.Common.{ℕ, List, [], ◌∷◌, ◌++◌, Bool, true, false, not, ◌&&◌, nat_eq, Option, Some, None}
use Rattle.std.specs.Prelude.{bytes_eq, if◌then◌else◌, filter}
use Rattle.std.specs.List.{list_any, list_all}
use Rattle.std.specs.Cmp.Lexicographic.{pointwise}
use denote.Enum.Bare.{sameb}
use Rattle.base_kit.specs.Sameness.{same_tree}
use Rattle.ada_tree.specs.contracts.grammar.Choice as choice_row
use Rattle.ada_tree.specs.contracts.word.Mark as mark_row
use Rattle.ada_tree.specs.declared.kind.Kind.{Kind}
use Rattle.ada_tree.specs.declared.grammar.Choice.{Choice}
use Rattle.ada_tree.specs.declared.grammar.Choice.TheVariants as choice
use Rattle.ada_tree.specs.declared.operator.Level.TheVariants as level
use Rattle.ada_tree.specs.declared.operator.Operator.TheVariants as operator
use Rattle.ada_tree.specs.declared.word.Mark.TheVariants as mark
use Rattle.ada_tree.specs.declared.word.Mark.{Mark}
use Rattle.ada_tree.proofs.evaluator.Ways.{same_lexeme}
use Rattle.ada_tree.specs.Choices.{comments_of, opens}
use Rattle.ada_tree.specs.Kinds.{is_kind}
use Rattle.ada_tree.specs.Spelling.{starts_with_comments, ends_with_comments}
use Rattle.ada_tree.specs.Tokens.{Lexeme, a_mark}
use Rattle.reading_table.specs.contracts.symbol.Form as form_row
use Rattle.reading_table.specs.declared.symbol.Form.{Form}
use Rattle.reading_table.specs.Reading.{is_side}

-- ---- texts

-- a part of a key: an identifier, one that may be joined by `@`, one in lower case, a number, `entry`
pub data Word : Type 0 where
  big named small number entry : Word

-- What is known of a text: what it is a part of a key as, or itself with its tokens, or the name of a rule of proof, as it is
-- written and in lower case, or that it is such parts with dots between them.
pub data Text : Type 0 where
  simple : Word → Text
  says : List ℕ → List Lexeme → Text
  ruled by_rule : Form → Text
  dotted : List Word → Text

-- ---- traces

-- What a symbol or a part leaves: tokens and comments that were read, and what was done to the values.
pub data Trace : Type 0 where
  -- a token that wasn't kept
  written : Bool → Lexeme → Trace
  told : Bool → Text → Trace
  -- a node that stands at these places, with the comments before it or without any
  stood : Bool → Bool → List Choice → Trace
  -- such a node that has become the last member of the list before it
  joined : Bool → Bool → List Choice → Trace
  -- an empty list or file, and a part that is left out
  begun : Kind → Trace
  absent : Trace
  -- more members, and the comments at the end of the list
  rest : Bool → Choice → Trace
  -- more members, each with the mark before it
  tail : Bool → Choice → Mark → Trace
  -- a closing name: the text of the value so many below
  closing : Bool → ℕ → Trace
  -- the text of the value so many below, once more
  recalled : ℕ → Trace
  -- comments that are a value, and those that became the last list's
  waiting ended : Trace
  -- nothing is known
  lost : Trace

-- the last one first
abbrev pub Stack : Type 0
Stack = List Trace

-- ---- places

-- the places of the grammar, apart from those of one kind
abbrev levels : List Choice
levels = choice.Operand level.Term ∷ choice.Operand level.Equivalence ∷ choice.Operand level.Implication ∷ choice.Operand level.Logical ∷ choice.Operand level.Relation ∷ choice.Operand level.Sum
    ∷ choice.Operand level.Signed ∷ choice.Operand level.Product ∷ choice.Operand level.Factor ∷ choice.Operand level.Primary ∷ choice.Operand level.Prefix ∷ []

abbrev chains : List Choice
chains = choice.Chain operator.And ∷ choice.Chain operator.Or ∷ choice.Chain operator.Xor ∷ choice.Chain operator.AndThen ∷ choice.Chain operator.OrElse ∷ []

abbrev pub places : List Choice
places = choice.Item ∷ choice.Clause ∷ choice.Lib ∷ choice.Spec ∷ choice.Mark ∷ choice.Decl ∷ choice.Tdef ∷ choice.Dis ∷ choice.Choices ∷ choice.Choice ∷ choice.Stmt ∷ choice.Head ∷ choice.Expr
    ∷ choice.Arg ∷ choice.Wclause ∷ choice.Bound ∷ choice.Coefficient ∷ choice.LemmaName ∷ levels ++ chains

-- ---- when one says as much as another

abbrev pub same_place : Choice → Choice → Bool
same_place p q = same_tree (choice_row.the_row.coded.code p) (choice_row.the_row.coded.code q)

abbrev pub stands_in : List Choice → Choice → Bool
stands_in places p = list_any (same_place p) places

abbrev pub covers : List Choice → List Choice → Bool
covers places wanted = list_all (stands_in places) wanted

abbrev pub gives_word : Word → Word → Bool
gives_word big big = true
gives_word big named = true
gives_word named named = true
gives_word small small = true
gives_word number number = true
gives_word _ _ = false

abbrev pub gives_text : Text → Text → Bool
gives_text (simple a) (simple b) = gives_word a b
gives_text (says t ls) (says u ms) = bytes_eq t u && pointwise same_lexeme ls ms
gives_text (by_rule f) (by_rule g) = sameb form_row.the_type f g
gives_text _ _ = false

abbrev pub gives_trace : Trace → Trace → Bool
gives_trace (written n l) (written o m) = is_side n o && same_lexeme l m
gives_trace (told n t) (told o u) = is_side n o && gives_text t u
gives_trace (stood n c ps) (stood o d qs) = (is_side n o && is_side c d) && covers ps qs
gives_trace (joined n c ps) (joined o d qs) = (is_side n o && is_side c d) && covers ps qs
gives_trace (begun k) (begun l) = is_kind k l
gives_trace absent absent = true
gives_trace (rest n p) (rest o q) = is_side n o && same_place p q
gives_trace ended (rest o q) = ends_with_comments (comments_of q)
gives_trace (tail n p m) (tail o q l) = (is_side n o && same_place p q) && sameb mark_row.the_type m l
gives_trace (closing n d) (closing o e) = is_side n o && nat_eq d e
gives_trace _ _ = false

abbrev pub if_so : {A : Type 0} → Bool → Option A → Option A
if_so true o = o
if_so false o = None

-- what is left of a stack below these traces, where it has them
abbrev pub strip : Stack → Stack → Option Stack
strip [] stack = Some stack
strip (x ∷ wanted) [] = None
strip (x ∷ wanted) (y ∷ stack) = if_so (gives_trace y x) (strip wanted stack)

abbrev pub is_bare : Option Stack → Bool
is_bare (Some []) = true
is_bare _ = false

-- a member that stands at the place has the comments that it is to have there
abbrev pub is_member : Choice → Bool → Bool → List Choice → Bool
is_member p first c ps = is_side c (starts_with_comments (comments_of p) first) && stands_in ps p

-- the same traces said shorter
abbrev pub settle : Stack → Stack → Stack
settle other (rest n p ∷ joined o c ps ∷ []) = if is_side n o && is_member p false c ps then rest n p ∷ [] else other
settle other (tail n p m ∷ joined o c ps ∷ written q l ∷ []) =
    if ((is_side n o && is_side n q) && (not c && stands_in ps p)) && same_lexeme l (a_mark m) then tail n p m ∷ [] else other
settle other (written n l ∷ stood o c ps ∷ written q m ∷ []) =
    if ((is_side o n && is_side o q) && (not c && stands_in ps choice.Expr)) && (same_lexeme m (a_mark mark.Open) && same_lexeme l (a_mark mark.Close)) then stood o false (filter opens places) ∷ [] else other
settle other _ = other

-- where nothing is left, there are no more members
abbrev pub is_optional : Stack → Bool
is_optional [] = true
is_optional (rest n p ∷ []) = not (ends_with_comments (comments_of p))
is_optional (tail n p m ∷ []) = true
is_optional _ = false

-- a stack says as much as another
abbrev pub gives : Stack → Stack → Bool
gives [] wanted = is_optional wanted
gives stack wanted = is_bare (strip wanted (settle stack stack))
