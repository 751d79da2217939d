-- What each operator gives.
use Rattle.std.proofs.Common.{ℕ, ℤ, pos, negsuc, neg_ℤ, List, [], ◌∷◌, Bool, true, false, Option, Some, None, refl}
use Rattle.std.specs.Prelude.{codes}
use denote.Hole.Carrier as Carrier
use Rattle.term_core.specs.declared.sort.Sort.TheViews.{out-Sort, roll-Sort}
use Rattle.term_core.specs.declared.term.Oper.TheVariants as oper
use Rattle.term_core.specs.Evaluation.{Meaning, value}
use Rattle.term_core.specs.Sorts.{whole, truths, array, record_of, generated}
use Rattle.term_core.specs.Terms.{int, for_all, exists}
use Rattle.term_core.specs.Values.{Value, a_number, a_truth, a_list, a_record, a_made, values, Generator, Env, bind_all}
use Rattle.term_core.proofs.examples.Trees.{Tree, number, truth_value, name, apply, over_range, nothing, also, grown, one, two, three, value_at, value-grown, Rows, rows_by}

-- EMPTY, and ADD of a number and a list
abbrev generators : List Generator
generators = record { operator = 0; sort = 0; parts = [] } ∷ record { operator = 1; sort = 0; parts = whole ∷ generated 0 ∷ [] } ∷ []

-- the types are a list of whole numbers from 1 to 3, and a record with two components
abbrev me : Meaning
me = record {
  types = record { name = codes "LIST"; sort = array (pos 1) (pos 3) whole; seen = true; parts = []; base = 0 }
      ∷ record { name = codes "PAIR"; sort = record_of 1 (whole ∷ truths ∷ []); seen = true; parts = codes "FIRST" ∷ codes "SECOND" ∷ []; base = 1 } ∷ [];
  generators = generators;
  equations = [];
}

abbrev empty : Value
empty = a_made 0 (values [])

abbrev list_of : ℤ → ℤ → ℤ → Value
list_of a b c = a_list (pos 1) (values (a_number a ∷ a_number b ∷ a_number c ∷ []))

-- X is the number 4, A a list, P a record, L a list of lists, and every other name 0
abbrev env : Env
env = bind_all (codes "X" ∷ codes "A" ∷ codes "P" ∷ codes "L" ∷ [])
    (a_number (pos 4) ∷ list_of (pos 7) (pos 8) (pos 9) ∷ a_record (values (a_number (pos 5) ∷ a_truth true ∷ []))
    ∷ a_list (pos 0) (values (a_made 1 (values (a_number (pos 6) ∷ empty ∷ [])) ∷ [])) ∷ [])

abbrev n : ℕ → Tree
n k = number (pos k)

-- the number below zero
abbrev minus : ℕ → Tree
minus k = number (neg_ℤ (pos k))

abbrev t : Tree
t = truth_value true

abbrev f : Tree
f = truth_value false

abbrev number_is : ℤ → Option Value
number_is z = Some (a_number z)

abbrev truth_is : Bool → Option Value
truth_is b = Some (a_truth b)

-- division truncates toward zero, `rem` has the sign of the first operand, `mod` that of the second, and each is 0 where the second is 0
abbrev numbers_table : List (Tree × Option Value)
numbers_table =
    (two oper.Add (n 7) (minus 2), number_is (pos 5))
    ∷ (two oper.Sub (n 2) (n 7), number_is (negsuc 4))
    ∷ (two oper.Mul (minus 3) (n 4), number_is (negsuc 11))
    ∷ (two oper.Div (minus 7) (n 2), number_is (negsuc 2))
    ∷ (two oper.Div (n 7) (minus 2), number_is (negsuc 2))
    ∷ (two oper.Div (n 7) (n 0), number_is (pos 0))
    ∷ (two oper.Rem (minus 7) (n 2), number_is (negsuc 0))
    ∷ (two oper.Rem (n 7) (minus 2), number_is (pos 1))
    ∷ (two oper.Rem (n 7) (n 0), number_is (pos 0))
    ∷ (two oper.Mod (minus 7) (n 2), number_is (pos 1))
    ∷ (two oper.Mod (n 7) (minus 2), number_is (negsuc 0))
    ∷ (two oper.Mod (minus 8) (n 2), number_is (pos 0))
    ∷ (two oper.Mod (n 7) (n 0), number_is (pos 0))
    ∷ (one oper.Neg (two oper.Mod (n 7) (n 2)), number_is (negsuc 0))
    ∷ (one oper.Abs (minus 7), number_is (pos 7))
    ∷ (name (codes "X"), number_is (pos 4)) ∷ []

numbers : Rows (λ u. value 0 me (grown u) env) numbers_table
numbers = rows_by _ (value_at 0 me env) (value-grown 0 me env) numbers_table refl

abbrev relations_table : List (Tree × Option Value)
relations_table =
    (two oper.Eq (n 4) (name (codes "X")), truth_is true)
    ∷ (two oper.Eq (n 4) (n 5), truth_is false)
    ∷ (two oper.Eq t f, truth_is false)
    ∷ (two oper.Eq (name (codes "A")) (three oper.Store (name (codes "A")) (n 2) (n 8)), truth_is true)
    ∷ (two oper.Eq (apply (oper.Make 1) (also (n 5) (also t nothing))) (name (codes "P")), truth_is true)
    ∷ (two oper.Lt (n 4) (n 4), truth_is false)
    ∷ (two oper.Lt (minus 1) (n 0), truth_is true)
    ∷ (two oper.Le (n 4) (n 4), truth_is true)
    ∷ (two oper.Le (n 5) (n 4), truth_is false)
    ∷ (two oper.Gt (n 5) (n 4), truth_is true)
    ∷ (two oper.Gt (n 4) (n 4), truth_is false)
    ∷ (two oper.Ge (n 4) (n 4), truth_is true)
    ∷ (two oper.Ge (n 3) (n 4), truth_is false) ∷ []

relations : Rows (λ u. value 0 me (grown u) env) relations_table
relations = rows_by _ (value_at 0 me env) (value-grown 0 me env) relations_table refl

abbrev connectives_table : List (Tree × Option Value)
connectives_table =
    (two oper.And t t, truth_is true) ∷ (two oper.And t f, truth_is false) ∷ (two oper.And f t, truth_is false)
    ∷ (two oper.Or f f, truth_is false) ∷ (two oper.Or t f, truth_is true) ∷ (two oper.Or f t, truth_is true)
    ∷ (two oper.Xor t t, truth_is false) ∷ (two oper.Xor t f, truth_is true) ∷ (two oper.Xor f f, truth_is false)
    ∷ (two oper.Implies t f, truth_is false) ∷ (two oper.Implies f f, truth_is true) ∷ (two oper.Implies t t, truth_is true)
    ∷ (two oper.Iff t f, truth_is false) ∷ (two oper.Iff f f, truth_is true)
    ∷ (one oper.Not t, truth_is false) ∷ (one oper.Not f, truth_is true) ∷ []

connectives : Rows (λ u. value 0 me (grown u) env) connectives_table
connectives = rows_by _ (value_at 0 me env) (value-grown 0 me env) connectives_table refl

abbrev conditionals_table : List (Tree × Option Value)
conditionals_table =
    (three oper.If t (n 1) (n 2), number_is (pos 1)) ∷ (three oper.If f (n 1) (n 2), number_is (pos 2)) ∷ []

conditionals : Rows (λ u. value 0 me (grown u) env) conditionals_table
conditionals = rows_by _ (value_at 0 me env) (value-grown 0 me env) conditionals_table refl

-- a select outside the list is the default of an element, and a store there changes nothing
abbrev lists_table : List (Tree × Option Value)
lists_table =
    (two oper.Select (name (codes "A")) (n 1), number_is (pos 7))
    ∷ (two oper.Select (name (codes "A")) (n 3), number_is (pos 9))
    ∷ (two oper.Select (name (codes "A")) (n 0), number_is (pos 0))
    ∷ (two oper.Select (name (codes "A")) (n 4), number_is (pos 0))
    ∷ (two oper.Select (name (codes "L")) (n 5), Some empty)
    ∷ (three oper.Store (name (codes "A")) (n 2) (n 1), Some (list_of (pos 7) (pos 1) (pos 9)))
    ∷ (three oper.Store (name (codes "A")) (n 4) (n 1), Some (list_of (pos 7) (pos 8) (pos 9)))
    ∷ (three oper.Store (name (codes "A")) (n 0) (n 1), Some (list_of (pos 7) (pos 8) (pos 9)))
    ∷ (one (oper.Fill 0) (n 6), Some (list_of (pos 6) (pos 6) (pos 6))) ∷ []

lists : Rows (λ u. value 0 me (grown u) env) lists_table
unfolding out-Sort roll-Sort Carrier.out Carrier.roll
lists = rows_by _ (value_at 0 me env) (value-grown 0 me env) lists_table refl

abbrev records_table : List (Tree × Option Value)
records_table =
    (one (oper.Field 0) (name (codes "P")), number_is (pos 5))
    ∷ (one (oper.Field 1) (name (codes "P")), truth_is true)
    ∷ (two (oper.Update 1) (name (codes "P")) f, Some (a_record (values (a_number (pos 5) ∷ a_truth false ∷ []))))
    ∷ (apply (oper.Make 1) (also (n 1) (also f nothing)), Some (a_record (values (a_number (pos 1) ∷ a_truth false ∷ [])))) ∷ []

records : Rows (λ u. value 0 me (grown u) env) records_table
records = rows_by _ (value_at 0 me env) (value-grown 0 me env) records_table refl

-- a quantifier ranges over its bounds, none of them included where the low one is above the high one
abbrev quantifiers_table : List (Tree × Option Value)
quantifiers_table =
    (over_range for_all (codes "I") (n 1) (n 3) (two oper.Lt (name (codes "I")) (name (codes "X"))), truth_is true)
    ∷ (over_range for_all (codes "I") (n 1) (n 4) (two oper.Lt (name (codes "I")) (name (codes "X"))), truth_is false)
    ∷ (over_range for_all (codes "I") (n 1) (n 0) f, truth_is true)
    ∷ (over_range exists (codes "I") (n 1) (n 4) (two oper.Eq (name (codes "I")) (name (codes "X"))), truth_is true)
    ∷ (over_range exists (codes "I") (n 1) (n 3) (two oper.Eq (name (codes "I")) (name (codes "X"))), truth_is false)
    ∷ (over_range exists (codes "I") (n 1) (n 0) t, truth_is false)
    ∷ (over_range for_all (codes "X") (n 1) (n 1) (two oper.Eq (name (codes "X")) (n 1)), truth_is true) ∷ []

quantifiers : Rows (λ u. value 0 me (grown u) env) quantifiers_table
quantifiers = rows_by _ (value_at 0 me env) (value-grown 0 me env) quantifiers_table refl

-- a generator makes a value of its operands, and an operator without an equation is 0
abbrev made_table : List (Tree × Option Value)
made_table =
    (apply (oper.User 0) nothing, Some empty)
    ∷ (two (oper.User 1) (n 6) (apply (oper.User 0) nothing), Some (a_made 1 (values (a_number (pos 6) ∷ empty ∷ []))))
    ∷ (one (oper.User 7) (n 6), number_is (pos 0)) ∷ []

made : Rows (λ u. value 0 me (grown u) env) made_table
made = rows_by _ (value_at 0 me env) (value-grown 0 me env) made_table refl

-- ---- an equation, with no unfolding left

abbrev with_equation : Meaning
with_equation = record { types = []; generators = []; equations = record { operator = 5; generator = None; params = []; right = int (pos 3) } ∷ [] }

abbrev unknown : Tree
unknown = apply (oper.User 5) nothing

-- `if` takes the chosen side alone, and every other operator and the quantifiers all their operands and instances
abbrev lazy_table : List (Tree × Option Value)
lazy_table =
    (unknown, None)
    ∷ (three oper.If t (n 1) unknown, number_is (pos 1))
    ∷ (three oper.If f unknown (n 2), number_is (pos 2))
    ∷ (three oper.If f (n 1) unknown, None)
    ∷ (two oper.And f unknown, None)
    ∷ (two oper.Or t unknown, None)
    ∷ (over_range exists (codes "I") (n 1) (n 2) (three oper.If (two oper.Eq (name (codes "I")) (n 1)) t (two oper.Eq unknown (n 3))), None) ∷ []

lazy : Rows (λ u. value 0 with_equation (grown u) env) lazy_table
lazy = rows_by _ (value_at 0 with_equation env) (value-grown 0 with_equation env) lazy_table refl
