-- Bodies, what they number, and whether they are well formed.
use Rattle.std.proofs.Common.{◌≡◌, ℕ, pos, List, [], ◌∷◌, Bool, true, false, Some, None, refl}
use Rattle.std.specs.Prelude.{codes}
use Rattle.term_core.specs.declared.sequent.Var.{Var}
use Rattle.term_core.specs.declared.term.Term.{Term}
use Rattle.term_core.specs.declared.term.Oper.TheVariants as oper
use Rattle.term_core.specs.Terms as term
use Rattle.term_core.specs.Sorts.{whole}
use Rattle.core_tree.specs.Trees.{Expr, lit, get, binary, call, fill, put, aggregate, given, end, ◌&◌, Starts, none, start, Stmt, null, assign, branch, choose, forever, count, block, exit, raise, claim, Stmts, done, next, no_choice, choice, no_catch, catch}
use Rattle.core_tree.specs.Marks.{in_stmt, calls, loops, asserts, objects, units_called}
use Rattle.core_tree.specs.Formed.{Around, Here, stmt_formed, counts_from}

abbrev true_term : Term
true_term = term.truth true

abbrev only : Stmt → Stmts
only s = next s done

-- a block without handlers
abbrev plain_block : Starts → Stmt → Stmt
plain_block is s = block is (only s) no_catch

-- ---- numbers

-- X := F (G (1)) + F (2): F is call 1, G call 2, and F again call 3
abbrev nested : Stmt
nested = assign (get 0) (binary oper.Add (call 1 10 (call 2 11 (lit (pos 1) & end) & end)) (call 3 10 (lit (pos 2) & end)))

calls_in_text_order : calls (in_stmt nested) ≡ 1 ∷ 2 ∷ 3 ∷ []
calls_in_text_order = refl

units_in_text_order : units_called (in_stmt nested) ≡ 10 ∷ 11 ∷ 10 ∷ []
units_in_text_order = refl

-- a loop with an assert and a loop with a parameter in it, whose number is 2, and then an assert
abbrev loops_within : Stmt
loops_within = block none
    (next (forever 1 true_term (next (claim 1 true_term) (next (count 2 3 false (lit (pos 0)) (lit (pos 9)) true_term (only null)) done)))
    (next (claim 2 true_term) done)) no_catch

loops_in_text_order : loops (in_stmt loops_within) ≡ 1 ∷ 2 ∷ []
loops_in_text_order = refl

asserts_in_text_order : asserts (in_stmt loops_within) ≡ 1 ∷ 2 ∷ []
asserts_in_text_order = refl

declared : objects (in_stmt loops_within) ≡ 3 ∷ []
declared = refl

numbered_from_the_inside : counts_from 1 (2 ∷ 1 ∷ []) ≡ false
numbered_from_the_inside = refl

-- ---- forms

-- objects X, Y and Z, of which X is an `in` formal and Y an `in out` one
abbrev variable : List ℕ → Var
variable name = record { name = name; label = codes "INTEGER"; sort = whole }

abbrev vars : List Var
vars = variable (codes "X") ∷ variable (codes "Y") ∷ variable (codes "Z") ∷ variable (codes "Y") ∷ []

abbrev around : Around
around = record { specs = []; ops = []; exceptions = 3; constants = [] }

abbrev here : Here
here = record { scope = 0 ∷ 1 ∷ []; fixed = 0 ∷ []; in_loop = false; handles = false }

abbrev formed : Stmt → Bool
formed = stmt_formed around vars here

writes_a_variable : formed (assign (get 1) (get 0)) ≡ true
writes_a_variable = refl

writes_an_in_formal : formed (assign (get 0) (get 1)) ≡ false
writes_an_in_formal = refl

-- Z isn't in scope
reads_out_of_scope : formed (assign (get 1) (get 2)) ≡ false
reads_out_of_scope = refl

reads_a_local : formed (plain_block (start 2 (get 0) none) (assign (get 2) (get 1))) ≡ true
reads_a_local = refl

initial_value_of_itself : formed (plain_block (start 2 (get 2) none) null) ≡ false
initial_value_of_itself = refl

-- a local object Y, where Y is in scope
declared_again : formed (plain_block (start 3 (get 0) none) null) ≡ false
declared_again = refl

-- twice one name, one block after the other
declared_side_by_side : formed (block none (next (plain_block (start 2 (get 0) none) null) (next (plain_block (start 2 (get 0) none) null) done)) no_catch) ≡ true
declared_side_by_side = refl

exit_in_a_loop : formed (forever 1 true_term (only exit)) ≡ true
exit_in_a_loop = refl

exit_outside : formed (branch (get 0) (only exit) done) ≡ false
exit_outside = refl

writes_a_parameter : formed (count 1 2 false (lit (pos 0)) (lit (pos 9)) true_term (only (assign (get 2) (get 0)))) ≡ false
writes_a_parameter = refl

again_in_a_handler : formed (block none (only null) (catch [] (only (raise None)) no_catch)) ≡ true
again_in_a_handler = refl

again_outside : formed (raise None) ≡ false
again_outside = refl

again_with_a_loop : formed (block none (only null) (catch [] (next (forever 1 true_term (only exit)) (only (raise None))) no_catch)) ≡ false
again_with_a_loop = refl

-- the loop stands in the handler outside, and `raise;` in one within it
again_within : formed (block none (only null) (catch [] (next (forever 1 true_term (only (block none (only null) (catch [] (only (raise None)) no_catch)))) done) no_catch)) ≡ true
again_within = refl

unknown_exception : formed (raise (Some 3)) ≡ false
unknown_exception = refl

others_first : formed (block none (only null) (catch [] (only null) (catch (0 ∷ []) (only null) no_catch))) ≡ false
others_first = refl

twice_caught : formed (block none (only null) (catch (0 ∷ []) (only null) (catch (1 ∷ 0 ∷ []) (only null) no_catch))) ≡ false
twice_caught = refl

others_alternative_first : formed (choose (get 0) (choice [] [] (only null) (choice (pos 1 ∷ []) (pos 2 ∷ []) (only null) no_choice))) ≡ false
others_alternative_first = refl

-- (1 => X, others => Y), and a value that stands outside its aggregate
abbrev elements : Expr
elements = aggregate (get 0 & get 1 & end) (put (fill 4 (given 1)) (pos 1) (given 0))

aggregate_formed : formed (assign (get 1) elements) ≡ true
aggregate_formed = refl

given_outside : formed (assign (get 1) (given 0)) ≡ false
given_outside = refl
