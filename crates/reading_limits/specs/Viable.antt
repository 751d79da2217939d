-- Which texts are read within the limits, and where reading stops: by what tokens and comments can still follow.
use Rattle.std.specs.Prelude.{◌≡◌, ℕ, ◌+◌, ◌≤◌, List, [], ◌∷◌, ◌++◌, length, true}
use Rattle.ada_tree.specs.declared.limits.TheConstants.{MOST_NESTED, MOST_NESTED_STEPS, MOST_OPEN}
use Rattle.ada_tree.specs.declared.node.Node.{Node}
use Rattle.ada_tree.specs.declared.part.Part.{Part as GrammarPart}
use Rattle.ada_tree.specs.Nodes.{nesting_of, is_nested, is_step}
use Rattle.ada_tree.specs.Reading.{open_in}
use Rattle.ada_tree.specs.Tokens.{Sign, token, comment}
use Rattle.reading_exact.specs.Whole.{are_signs, whole_start, at_start, GrammarReads}
use Rattle.reading_table.specs.Limits.{Standing, Outcome, run_within}
use Rattle.reading_table.specs.Signs.{tokens_of, end_of}
use Rattle.reading_table.specs.States.{State}
use Rattle.reading_table.specs.Weighed.{at_beginning, with_next, run_weighed}
use Rattle.reading_table.specs.declared.held.Held.TheVariants as held

-- The grammar reads the tokens and comments as the node, within the limits, where so many nodes that count are round it.
pub record ReadsWithin (round : ℕ) (part : GrammarPart) (signs : List Sign) (node : Node) : Type 0 where
  pub reading : GrammarReads part signs node
  pub nodes : round + nesting_of is_nested node ≤ MOST_NESTED
  pub steps : nesting_of is_step node ≤ MOST_NESTED_STEPS
  pub opened : open_in 0 signs ≤ MOST_OPEN

-- some text that begins so is read
pub record GoesOn (Reads : List Sign → Node → Type 0) (front : List Sign) : Type 0 where
  pub more : List Sign
  pub fitting : are_signs more ≡ true
  pub node : Node
  pub reads : Reads (front ++ more) node

-- the same within the limits
abbrev pub GoesOnWithin : ℕ → GrammarPart → List Sign → Type 0
GoesOnWithin round part front = GoesOn (ReadsWithin round part) front

-- ---- where reading stops

-- With the next token no text is read, or the text ends here and isn't. No comment is at fault.
abbrev pub Refuses : (List Sign → Node → Type 0) → List Sign → List Sign → Type 0
Refuses Reads front [] = (node : Node) → Reads front node → ⊥
Refuses Reads front (token note lexeme ∷ rest) = (other : List Sign) (node : Node) → Reads (front ++ token note lexeme ∷ other) node → ⊥
Refuses Reads front (comment text ∷ rest) = ⊥

-- the same within the limits, where texts without these limits go on
abbrev pub Limits : (List Sign → Node → Type 0) → (List Sign → Node → Type 0) → List Sign → List Sign → Type 0
Limits Reads Within front [] = ⊥
Limits Reads Within front (token note lexeme ∷ rest) =
    GoesOn Reads (front ++ token note lexeme ∷ []) × ((other : List Sign) (node : Node) → Within (front ++ token note lexeme ∷ other) node → ⊥)
Limits Reads Within front (comment text ∷ rest) = ⊥

-- The signs before a fault, with so many tokens among them, begin a text, unless there are none of these tokens and no text at all; `Stops` says what is wrong with what follows.
pub record StopsBehind (Goes : List Sign → Type 0) (Stops : List Sign → List Sign → Type 0) (signs : List Sign) (n : ℕ) : Type 0 where
  pub front : List Sign
  pub rest : List Sign
  pub whole : signs ≡ front ++ rest
  pub before : length (tokens_of front) ≡ n
  pub goes_on : (n ≡ 0 → Goes []) → Goes front
  pub stops : Stops front rest

abbrev pub StopsAt : ℕ → GrammarPart → List Sign → ℕ → Type 0
StopsAt round part signs n = StopsBehind (GoesOnWithin round part) (Refuses (GrammarReads part)) signs n

abbrev pub IsLimitedAt : ℕ → GrammarPart → List Sign → ℕ → Type 0
IsLimitedAt round part signs n = StopsBehind (GoesOnWithin round part) (Limits (GrammarReads part) (ReadsWithin round part)) signs n

-- ---- what the table says

-- nothing has been read, but the comments before the first token have come
abbrev pub at_first : GrammarPart → List Sign → Standing
at_first part signs = record { stack = whole_start part; state = at_start signs; parentheses = 0 }

-- how a text of the part is read whole within the limits, from the left, one token at a time
abbrev pub read_within : ℕ → GrammarPart → List Sign → Outcome
read_within round part signs = run_within round (end_of signs) (at_first part signs) (tokens_of signs)

-- one node is read
pub record ReadsNode (round : ℕ) (part : GrammarPart) (signs : List Sign) (state : State) : Type 0 where
  pub node : Node
  pub only : state.values ≡ held.Tree node ∷ []
  pub reads : ReadsWithin round part signs node

-- the table reads this node
pub record TableReadsWithin (round : ℕ) (part : GrammarPart) (signs : List Sign) (node : Node) : Type 0 where
  pub state : State
  pub read_is : read_within round part signs ≡ Outcome.read state
  pub only : state.values ≡ held.Tree node ∷ []

-- the same with what limits see kept beside the values
abbrev pub read_weighed : ℕ → GrammarPart → List Sign → Outcome
read_weighed round part signs = run_weighed round (end_of signs) (with_next (end_of signs) (tokens_of signs) (at_beginning (whole_start part))) (tokens_of signs)
