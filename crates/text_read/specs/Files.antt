-- Files: texts that are read whole, and have no more nodes than a document may have.
use Rattle.std.specs.Prelude.{◌≡◌, ◌↔◌, ℕ, List, [], min, Bool, true, false, ◌&&◌, nat_le, if◌then◌else◌, Result, Ok, Err}
use Rattle.base_kit.specs.declared.fault.Code.TheVariants.{F27}
use Rattle.base_kit.specs.declared.fault.Fault.{Fault as AFault}
use Rattle.base_kit.specs.declared.fault.Place.TheVariants.{At}
use Rattle.ada_tree.specs.declared.doc.Counts.{Counts}
use Rattle.ada_tree.specs.declared.kind.Kind.TheVariants as kind
use Rattle.ada_tree.specs.declared.node.Node.{Node}
use Rattle.ada_tree.specs.declared.part.Part.{Part}
use Rattle.ada_tree.specs.declared.part.Rule.TheVariants as rule
use Rattle.ada_tree.specs.Nodes.{count_of, is_step}
use Rattle.reading_machine.specs.Bare.{is_tree, greatest_count}
use Rattle.text_read.specs.declared.limits.TheConstants.{MOST_NODES, MOST_STEPS}
use Rattle.text_read.specs.Answers.{answer_of}
use Rattle.text_read.specs.Faults.{IsFaultOf}
use Rattle.text_read.specs.Fragments.{IsText}

abbrev pub file_part : Part
file_part = record { rule = rule.Of kind.File; note = false }

-- how many nodes it has apart from proof steps, and how many of these
abbrev pub trees_in : Node → ℕ
trees_in node = count_of is_tree node

abbrev pub steps_in : Node → ℕ
steps_in node = count_of is_step node

abbrev pub is_small : Node → Bool
is_small node = nat_le (trees_in node) MOST_NODES && nat_le (steps_in node) MOST_STEPS

-- the fault of a file that has more: the number of its nodes, or of its steps where the nodes are within
abbrev pub too_many : Node → AFault
too_many node = record { code = F27; place = At []; count = min (if nat_le (trees_in node) MOST_NODES then steps_in node else trees_in node) greatest_count }

-- the bytes are those of a file, which is this node
pub record IsFile (bytes : List ℕ) (node : Node) : Type 0 where
  pub text : IsText file_part bytes node
  pub small : is_small node ≡ true

-- the text has a fault, or it has none and too many nodes
pub data IsFaultOfFile (bytes : List ℕ) : AFault → Type 0 where
  in_text : {fault : AFault} → IsFaultOf file_part bytes fault → IsFaultOfFile bytes fault
  large : {node : Node} → IsText file_part bytes node → is_small node ≡ false → IsFaultOfFile bytes (too_many node)

-- the same fault by counts that are past the limit
abbrev pub fault_of_counts : Counts → AFault
fault_of_counts counts = record { code = F27; place = At []; count = if nat_le counts.tree MOST_NODES then counts.proof else counts.tree }

-- ---- the answer as a function

abbrev pub if_small : Result Node AFault → Result Node AFault
if_small (Ok node) = if is_small node then Ok node else Err (too_many node)
if_small (Err fault) = Err fault

abbrev pub file_answer : List ℕ → Result Node AFault
file_answer bytes = if_small (answer_of file_part bytes)

-- the function answers a node exactly where the bytes are those of that file, and a fault exactly where they have it
pub record IsFileAnswer (bytes : List ℕ) : Type 0 where
  pub node : (node : Node) → (file_answer bytes ≡ Ok node) ↔ IsFile bytes node
  pub fault : (fault : AFault) → (file_answer bytes ≡ Err fault) ↔ IsFaultOfFile bytes fault
