-- Worked examples of canonical text: where parentheses stand.
use Rattle.std.proofs.Common.{◌≡◌, ℕ, List, refl}
use Rattle.std.specs.Prelude.{codes}
use Rattle.ada_tree.specs.declared.kind.Kind.TheVariants as kind
use Rattle.ada_tree.specs.declared.grammar.Choice.TheVariants as choice
use Rattle.ada_tree.specs.declared.grammar.Shape.TheVariants.{One}
use Rattle.ada_tree.specs.Rendering.{start, render}
use Rattle.ada_tree.proofs.Trees.{Tree, no_trees, ◌&◌, tree_items, texted, plain, list, name, int, binary, unary, old, apply}

-- an expression or a term, on a line of its own
abbrev expression : Tree → List ℕ
expression t = render start (tree_items (One choice.Expr) t)

-- an operand that has operands of its own stands in parentheses, whatever the levels
sum_of_product : expression (binary (codes "+") (name (codes "A")) (binary (codes "*") (name (codes "B")) (name (codes "C")))) ≡ codes "A + (B * C)\n"
sum_of_product = refl

product_of_sum : expression (binary (codes "*") (binary (codes "+") (name (codes "A")) (name (codes "B"))) (name (codes "C"))) ≡ codes "(A + B) * C\n"
product_of_sum = refl

-- a sign as an operand, and a sign before one
signs : expression (binary (codes "+") (name (codes "A")) (unary (codes "-") (name (codes "B")))) ≡ codes "A + (-B)\n"
signs = refl

sign_of_remainder : expression (unary (codes "-") (binary (codes "mod") (int (codes "7")) (int (codes "2")))) ≡ codes "-(7 mod 2)\n"
sign_of_remainder = refl

words_before_operands : expression (unary (codes "not") (unary (codes "abs") (name (codes "A")))) ≡ codes "not (abs A)\n"
words_before_operands = refl

-- operators of two words, and membership
short_circuit : expression (binary (codes "and then") (name (codes "A")) (texted kind.Member (codes "not in") (name (codes "B") & plain kind.Span (int (codes "1") & binary (codes "+") (name (codes "N")) (int (codes "1")) & no_trees) & no_trees))) ≡ codes "A and then (B not in 1 .. N + 1)\n"
short_circuit = refl

-- a bound of a range has parentheses where it binds looser than a sum
loose_bound : expression (texted kind.Member (codes "in") (name (codes "B") & plain kind.Span (binary (codes "and") (name (codes "C")) (name (codes "D")) & int (codes "2") & no_trees) & no_trees)) ≡ codes "B in (C and D) .. 2\n"
loose_bound = refl

-- arguments have none; a prefix that has operands has
arguments : expression (apply (codes "F") (binary (codes "+") (name (codes "A")) (int (codes "1")) & texted kind.Select (codes "C") (binary (codes "=") (name (codes "A")) (name (codes "B")) & no_trees) & no_trees)) ≡ codes "F(A + 1, (A = B).C)\n"
arguments = refl

-- aggregates, with positions, with names and with others alone
positions : expression (plain kind.Aggr (list (int (codes "1") & int (codes "2") & no_trees) & no_trees)) ≡ codes "(1, 2)\n"
positions = refl

associations : expression (plain kind.Aggr (list (
    plain kind.Assoc (plain kind.Choices (list (int (codes "1") & plain kind.Span (int (codes "3") & int (codes "4") & no_trees) & no_trees) & no_trees) & binary (codes "+") (name (codes "A")) (int (codes "1")) & no_trees)
    & plain kind.Assoc (plain kind.Others no_trees & int (codes "0") & no_trees)
    & no_trees) & no_trees)) ≡ codes "(1 | 3 .. 4 => A + 1, others => 0)\n"
associations = refl

attributes : expression (texted kind.Attr (codes "SUCC") (name (codes "T") & no_trees)) ≡ codes "T'SUCC\n"
attributes = refl

-- in terms: a quantifier with a bound that has operands, and a body without parentheses
quantifier : expression (texted kind.Exists (codes "I") (int (codes "1") & binary (codes "-") (name (codes "N")) (int (codes "1")) & binary (codes "=") (apply (codes "A") (name (codes "I") & no_trees)) (int (codes "0")) & no_trees)) ≡ codes "exists I in 1 .. (N - 1) : A(I) = 0\n"
quantifier = refl

quantifier_as_operand : expression (binary (codes "implies") (name (codes "B")) (texted kind.All (codes "I") (int (codes "1") & int (codes "3") & name (codes "B") & no_trees))) ≡ codes "B implies (for all I in 1 .. 3 : B)\n"
quantifier_as_operand = refl

-- the value at entry stands as it is as an operand, and in parentheses as a prefix
entry_value : expression (binary (codes "=") (old (codes "A")) (plain kind.Apply (old (codes "A") & list (name (codes "I") & no_trees) & no_trees))) ≡ codes "in A = (in A)(I)\n"
entry_value = refl

-- store and its like, and a name at a cut point, whose label is in lower case
stored : expression (texted kind.Make (codes "store") (list (name (codes "A@loop1") & name (codes "I@loop1") & name (codes "return@call2") & no_trees) & no_trees)) ≡ codes "store(A@loop1, I@loop1, return@call2)\n"
stored = refl
