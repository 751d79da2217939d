-- Terms as forms: sums of whole numbers times atoms, and a constant.
use Rattle.std.specs.Prelude.{ℤ, pos, ◌+ℤ◌, ◌-ℤ◌, ◌*ℤ◌, neg_ℤ, List, [], ◌∷◌, ◌++◌, Bool, if◌then◌else◌, Option, Some, None}
use Rattle.term_core.specs.declared.term.Oper.{Oper}
use Rattle.term_core.specs.declared.term.Oper.TheVariants as oper
use Rattle.term_core.specs.declared.term.Term.{Term}
use Rattle.term_core.specs.declared.term.Term.TheOpen.{Term-F}
use Rattle.term_core.specs.declared.term.Term.TheViews.{out-Term, roll-Term}
use Rattle.term_core.specs.declared.term.Term.TheFolds.{para-Term, map-Term}
use Rattle.term_core.specs.Terms.{int}
use Rattle.term_core.specs.contracts.term.Term as term
use Rattle.base_kit.specs.Sameness.{same}

-- ---- how a term is taken apart

pub data Shape (A : Type 0) : Type 0 where
  -- a whole number
  literal : ℤ → Shape A
  -- a + b, a - b, - a
  sum : A → A → Shape A
  difference : A → A → Shape A
  opposite : A → Shape A
  -- n * a or a * n
  multiple : ℤ → A → Shape A
  -- every other term
  whole : Shape A

abbrev pub number_in : Term-F Term → Option ℤ
number_in (Term-F.Int n) = Some n
number_in _ = None

-- a product is taken apart where one of its operands is a literal
abbrev pub product : {A : Type 0} → Option ℤ → Option ℤ → A → A → Shape A
product (Some n) _ a b = multiple n b
product None (Some n) a b = multiple n a
product None None a b = whole

-- an operator, over operands of which `number` tells the literals
abbrev pub applied : {A : Type 0} → (A → Option ℤ) → Oper → List A → Shape A
applied number oper.Add (a ∷ b ∷ []) = sum a b
applied number oper.Sub (a ∷ b ∷ []) = difference a b
applied number oper.Neg (a ∷ []) = opposite a
applied number oper.Mul (a ∷ b ∷ []) = product (number a) (number b) a b
applied number _ _ = whole

abbrev pub shaped : {A : Type 0} → (A → Option ℤ) → Term-F A → Shape A
shaped number (Term-F.Int n) = literal n
shaped number (Term-F.Op o xs) = applied number o xs
shaped number _ = whole

abbrev pub literal_of : Term → Option ℤ
literal_of t = number_in (out-Term t)

abbrev pub product_of : Term → Term → Shape Term
product_of a b = product (literal_of a) (literal_of b) a b

abbrev pub shape_of : Term → Shape Term
shape_of t = shaped literal_of (out-Term t)

abbrev pub within_shape : {A B : Type 0} → (A → B) → Shape A → Shape B
within_shape f (literal n) = literal n
within_shape f (sum a b) = sum (f a) (f b)
within_shape f (difference a b) = difference (f a) (f b)
within_shape f (opposite a) = opposite (f a)
within_shape f (multiple n a) = multiple n (f a)
within_shape f whole = whole

-- what a term gives, from what the terms give that it is taken apart into
unfoldable pub over_shapes : {A : Type 0} → (Term → Shape A → A) → Term → A
over_shapes {A = A} step = para-Term A (λ layer. step (roll-Term (map-Term (Term × A) Term (λ p. p.0) layer)) (within_shape (λ p. p.1) (shaped (λ p. literal_of p.0) layer)))

-- ---- forms

-- whether two terms are the same, as they are written
abbrev pub same_term : Term → Term → Bool
same_term = same term.the_row.coded

-- what a number of a form stands before
pub data Part : Type 0 where
  atom : Term → Part
  constant : Part

-- the number of each atom, and the constant
abbrev pub Form : Type 0
Form = Part → ℤ

abbrev pub number : ℤ → Form
number n (atom t) = pos 0
number n constant = n

-- once this atom; equal atoms are one
abbrev pub once : Term → Form
once t (atom u) = if same_term t u then pos 1 else pos 0
once t constant = pos 0

abbrev pub plus : Form → Form → Form
plus f g = λ p. f p +ℤ g p

abbrev pub minus : Form → Form → Form
minus f g = λ p. f p -ℤ g p

abbrev pub negative : Form → Form
negative f = λ p. neg_ℤ (f p)

abbrev pub times : ℤ → Form → Form
times n f = λ p. n *ℤ f p

abbrev pub form_by : Term → Shape Form → Form
form_by t (literal n) = number n
form_by t (sum f g) = plus f g
form_by t (difference f g) = minus f g
form_by t (opposite f) = negative f
form_by t (multiple n f) = times n f
form_by t whole = once t

abbrev pub form : Term → Form
form = over_shapes form_by

-- ---- the terms that are taken apart: the term itself, what it is taken apart into, and so on; literals among them

abbrev pub parts_by : Term → Shape (List Term) → List Term
parts_by t (literal n) = t ∷ []
parts_by t (sum ts us) = t ∷ ts ++ us
parts_by t (difference ts us) = t ∷ ts ++ us
parts_by t (opposite ts) = t ∷ ts
parts_by t (multiple n ts) = t ∷ int n ∷ ts
parts_by t whole = []

abbrev pub taken_apart : Term → List Term
taken_apart = over_shapes parts_by
