-- The answer to a text, as a function of it.
use Rattle.std.specs.Prelude.{◌≡◌, ◌↔◌, ℕ, List, [], ◌∷◌, drop, false, IsSomeAnd, Option, Some, None, Result, Ok, Err}
use Rattle.base_kit.specs.declared.fault.Code.TheVariants.{F03, F04}
use Rattle.base_kit.specs.declared.fault.Fault.{Fault}
use Rattle.ada_tree.specs.declared.node.Node.{Node}
use Rattle.ada_tree.specs.declared.part.Part.{Part}
use Rattle.lex_ada.specs.declared.scan.Refusal.{Refusal}
use Rattle.lex_ada.specs.declared.token.Token.{Token}
use Rattle.lex_ada.specs.Cutting.{scanned}
use Rattle.lex_ada.specs.Faults.{code_at, fault_in}
use Rattle.reading_machine.specs.Values.{only_node}
use Rattle.reading_limits.specs.Viable.{read_within}
use Rattle.reading_table.specs.declared.held.Held.TheVariants as held
use Rattle.reading_table.specs.Limits.{Outcome, read, stopped, limited}
use Rattle.text_read.specs.Faults.{IsFaultOf, line_behind, code_behind}
use Rattle.text_read.specs.Fragments.{tokens_in, signs_in, IsText}

-- one node is read of each text
abbrev pub node_read : Option Node → Result Node Fault
node_read (Some node) = Ok node
node_read None = Err (fault_in F03 0)

-- what is read is one node
abbrev pub IsOneNode : Outcome → Type 0
IsOneNode (read state) = IsSomeAnd (only_node state.values) (λ node. state.values ≡ held.Tree node ∷ [])
IsOneNode outcome = Unit {0}

-- these are the part's own tokens
abbrev pub answer_at : List ℕ → List Token → Outcome → Result Node Fault
answer_at bytes tokens (read state) = node_read (only_node state.values)
answer_at bytes tokens (stopped n) = Err (fault_in (code_behind bytes tokens n) (line_behind bytes tokens n))
answer_at bytes tokens (limited n) = Err (fault_in F04 (line_behind bytes tokens n))

abbrev pub answer_from : Part → List ℕ → Result (List Token) Refusal → Result Node Fault
answer_from part bytes (Ok tokens) = answer_at bytes (tokens_in part bytes tokens) (read_within 0 part (signs_in part bytes tokens))
answer_from part bytes (Err refusal) = Err (fault_in (code_at (drop refusal.at bytes)) refusal.line)

-- the node that a text of a part is read as, or its fault
abbrev pub answer_of : Part → List ℕ → Result Node Fault
answer_of part bytes = answer_from part bytes (scanned 0 false 0 1 bytes)

-- the function answers a node exactly where the text spells it, and a fault exactly where it has that fault
pub record IsAnswer (part : Part) (bytes : List ℕ) : Type 0 where
  pub node : (node : Node) → (answer_of part bytes ≡ Ok node) ↔ IsText part bytes node
  pub fault : (fault : Fault) → (answer_of part bytes ≡ Err fault) ↔ IsFaultOf part bytes fault
