-- The tree that a term is written as: a term of annotations, with names for the numbers of operators, types and components. So its text is that of the tree, by the same lines, levels and parentheses.
use Rattle.std.specs.Prelude.{ℕ, suc, ℤ, pos, negsuc, List, [], ◌∷◌, ◌++◌, ◌==◌, length, take, drop, Bool, true, false, if◌then◌else◌, codes, slice_get, nat_eq}
use Rattle.std.specs.Option.{option_map_or}
use Rattle.std.specs.List.{starts_with}
use Rattle.std.specs.Fmt.{decimal}
use Rattle.ada_tree.specs.declared.kind.Kind.{Kind}
use Rattle.ada_tree.specs.declared.kind.Kind.TheVariants as kind
use Rattle.ada_tree.specs.declared.operator.Operator.{Operator}
use Rattle.ada_tree.specs.declared.operator.Operator.TheVariants as operator
use Rattle.ada_tree.specs.declared.node.Node.{Node}
use Rattle.ada_tree.specs.Nodes.{node_of}
use Rattle.ada_tree.specs.Operators.{operator_text}
use Rattle.term_core.specs.declared.names.OpNames.{OpNames}
use Rattle.term_core.specs.declared.term.Oper.{Oper}
use Rattle.term_core.specs.declared.term.Oper.TheVariants as oper
use Rattle.term_core.specs.declared.term.Term.{Term}
use Rattle.term_core.specs.declared.term.Term.TheOpen.{Term-F}
use Rattle.term_core.specs.declared.term.Term.TheFolds.{fold-Term}

abbrev pub tree : Kind → List ℕ → List Node → Node
tree k text kids = node_of k text [] kids

abbrev pub name : List ℕ → Node
name text = tree kind.Name text []

abbrev pub list : List Node → Node
list nodes = tree kind.List [] nodes

-- the name of a number; the number itself where none is given
abbrev pub named : List (List ℕ) → ℕ → List ℕ
named names number = option_map_or (λ text. text) (slice_get names number) (decimal number)

-- a name applied to arguments, if there are any
abbrev pub applied : List ℕ → List Node → Node
applied text [] = name text
applied text (node ∷ nodes) = tree kind.Apply [] (name text ∷ list (node ∷ nodes) ∷ [])

abbrev pub made : Operator → List Node → Node
made o nodes = tree kind.Make (operator_text o) (list nodes ∷ [])

-- ---- operators

-- how an operator stands with its operands
pub data Form : Type 0 where
  between before : Operator → Form
  conditional index : Form
  -- a component of this name
  component : List ℕ → Form
  -- arguments in parentheses, with these before the others
  maker : Operator → List Node → Form
  -- the same, with the component of this name after the first
  updater : List ℕ → Form
  -- a declared operator of this name
  call : List ℕ → Form

abbrev pub form_of : OpNames → Oper → Form
form_of names oper.Add = between operator.Add
form_of names oper.Sub = between operator.Subtract
form_of names oper.Mul = between operator.Multiply
form_of names oper.Div = between operator.Divide
form_of names oper.Rem = between operator.Rem
form_of names oper.Mod = between operator.Mod
form_of names oper.Neg = before operator.Minus
form_of names oper.Abs = before operator.Abs
form_of names oper.Eq = between operator.Equal
form_of names oper.Lt = between operator.Less
form_of names oper.Le = between operator.LessEqual
form_of names oper.Gt = between operator.Greater
form_of names oper.Ge = between operator.GreaterEqual
form_of names oper.And = between operator.And
form_of names oper.Or = between operator.Or
form_of names oper.Xor = between operator.Xor
form_of names oper.Not = before operator.Not
form_of names oper.Implies = between operator.Implies
form_of names oper.Iff = between operator.Iff
form_of names oper.If = conditional
form_of names oper.Select = index
form_of names oper.Store = maker operator.Store []
form_of names (oper.Field number) = component (named names.parts number)
form_of names (oper.Update number) = updater (named names.parts number)
form_of names (oper.Fill number) = maker operator.Fill (name (named names.types number) ∷ [])
form_of names (oper.Make number) = maker operator.Make (name (named names.types number) ∷ [])
form_of names (oper.User number) = call (named names.ops number)

-- so many operands make such a node; another number is written as an application of the operator's name
abbrev pub operands : ℕ → Kind → List ℕ → List ℕ → List Node → Node
operands count k own called nodes = if length nodes == count then tree k own nodes else applied called nodes

abbrev pub operation : Form → List Node → Node
operation (between o) nodes = operands 2 kind.Binary (operator_text o) (operator_text o) nodes
operation (before o) nodes = operands 1 kind.Unary (operator_text o) (operator_text o) nodes
operation conditional nodes = operands 3 kind.Cond [] (codes "if") nodes
operation (component text) nodes = operands 1 kind.Select text text nodes
operation index nodes = tree kind.Apply [] (take 1 nodes ++ list (drop 1 nodes) ∷ [])
operation (maker o names) nodes = made o (names ++ nodes)
operation (updater text) nodes = made operator.Update (take 1 nodes ++ name text ∷ drop 1 nodes)
operation (call text) nodes = applied text nodes

-- ---- terms

abbrev pub number : ℤ → Node
number (pos n) = tree kind.Int (decimal n) []
number (negsuc n) = tree kind.Unary (operator_text operator.Minus) (tree kind.Int (decimal (suc n)) [] ∷ [])

abbrev pub truth_text : Bool → List ℕ
truth_text true = codes "true"
truth_text false = codes "false"

-- a value at entry, or a name
abbrev pub variable : List ℕ → Node
variable text = if starts_with nat_eq text (codes "in ") then tree kind.Old [] (name (drop 3 text) ∷ []) else name text

abbrev pub tree_step : OpNames → Term-F Node → Node
tree_step names (Term-F.Int value) = number value
tree_step names (Term-F.Truth value) = name (truth_text value)
tree_step names (Term-F.Var text) = variable text
tree_step names (Term-F.Op o nodes) = operation (form_of names o) nodes
tree_step names (Term-F.All text low high body) = tree kind.All text (low ∷ high ∷ body ∷ [])
tree_step names (Term-F.Some text low high body) = tree kind.Exists text (low ∷ high ∷ body ∷ [])

abbrev pub tree_of : OpNames → Term → Node
tree_of names = fold-Term Node (tree_step names)
