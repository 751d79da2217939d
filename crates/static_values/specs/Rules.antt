-- The rules of expressions: what each means, given what its parts mean, and what is asked there.
use Rattle.std.specs.Prelude.{ℕ, ℤ, pos, ◌+ℤ◌, ◌-ℤ◌, ◌*ℤ◌, neg_ℤ, int_le, List, [], ◌∷◌, Bool, true, false, not, ◌&&◌, ◌||◌, if◌then◌else◌, Option, Some, None, is_none, unwrap_or, nat_eq, bytes_eq, ◌+◌, ◌-◌, ◌*◌}
use Rattle.base_kit.specs.Bytes.{digit_zero}
use Rattle.base_kit.specs.declared.fault.Code.TheVariants as code
use Rattle.ada_tree.specs.Tables.{first_value}
use Rattle.ada_tree.specs.declared.operator.Operator.{Operator}
use Rattle.ada_tree.specs.declared.operator.Operator.TheVariants as op
use Rattle.term_core.specs.Operations.{is_zero, quotient, remainder, modulus}
use Rattle.static_values.specs.declared.limits.TheConstants.{BASE_LOW, BASE_HIGH}
use Rattle.static_values.specs.declared.attribute.Attribute.{Attribute}
use Rattle.static_values.specs.declared.attribute.Attribute.TheVariants as attr
use Rattle.static_values.specs.declared.attribute.TheConstants.{ATTRIBUTES}
use Rattle.static_values.specs.declared.attributes.Range.{Range}
use Rattle.static_values.specs.declared.attributes.Range.TheVariants as range
use Rattle.static_values.specs.declared.entity.BaseType.{BaseType}
use Rattle.static_values.specs.declared.entity.BaseType.TheVariants as base
use Rattle.static_values.specs.declared.entity.Subtype.{Subtype}
use Rattle.static_values.specs.declared.entity.Class.{Class}
use Rattle.static_values.specs.declared.entity.Class.TheVariants as class
use Rattle.static_values.specs.declared.entity.Named.{Named}
use Rattle.static_values.specs.declared.entity.Named.TheVariants as named
use Rattle.static_values.specs.declared.meaning.Family.{Family}
use Rattle.static_values.specs.declared.meaning.Family.TheVariants as family
use Rattle.static_values.specs.declared.meaning.Use.{Use}
use Rattle.static_values.specs.declared.meaning.Use.TheVariants as use_of
use Rattle.static_values.specs.declared.meaning.Meaning.{Meaning}
use Rattle.static_values.specs.Judging.{Rows}

-- ---- types

abbrev pub is_unjudged : BaseType → Bool
is_unjudged base.Unjudged = true
is_unjudged _ = false

abbrev pub is_universal : BaseType → Bool
is_universal base.Universal = true
is_universal _ = false

abbrev pub is_integer : BaseType → Bool
is_integer base.Universal = true
is_integer (base.Integer a) = true
is_integer base.Unjudged = true
is_integer _ = false

-- an integer or enumeration type other than BOOLEAN
abbrev pub is_discrete : BaseType → Bool
is_discrete (base.Enumeration a) = true
is_discrete b = is_integer b

abbrev pub is_truth : BaseType → Bool
is_truth base.Truth = true
is_truth base.Unjudged = true
is_truth _ = false

-- types are equal by declaration alone
abbrev pub is_same_type : BaseType → BaseType → Bool
is_same_type (base.Integer a) (base.Integer b) = nat_eq a b
is_same_type (base.Enumeration a) (base.Enumeration b) = nat_eq a b
is_same_type (base.Composite a) (base.Composite b) = nat_eq a b
is_same_type base.Truth base.Truth = true
is_same_type _ base.Unjudged = true
is_same_type base.Unjudged _ = true
is_same_type _ _ = false

-- an expression of the first type has the second too
abbrev pub fits : BaseType → BaseType → Bool
fits a b = if is_universal a then is_integer b else is_same_type a b

-- two sides have a type in common
abbrev pub agree : BaseType → BaseType → Bool
agree a b = fits a b || fits b a

-- the type of an operation on two that agree
abbrev pub joined : BaseType → BaseType → BaseType
joined a b = if is_universal a then b else a

-- that of the type of this number
abbrev pub base_type : Class → ℕ → BaseType
base_type class.Integer id = base.Integer id
base_type class.Enumeration id = base.Enumeration id
base_type class.Truth id = base.Truth
base_type (class.Array index) id = base.Composite id
base_type class.Record id = base.Composite id
base_type class.Private id = base.Composite id
base_type class.Unknown id = base.Unjudged

-- the subtype that a mark stands for, and its type
abbrev pub subtype_of : Named → Subtype
subtype_of (named.Mark s c) = s
subtype_of _ = record { base = 0; entry = 0; low = pos 0; high = pos 0 }

abbrev pub type_of : Named → BaseType
type_of (named.Mark s c) = base_type c s.base
type_of _ = base.Unjudged

-- INTEGER, the type where nothing else decides
abbrev pub integer : BaseType
integer = base.Integer 0

-- ---- static values: whole numbers of any size

abbrev pub is_within : ℤ → ℤ → ℤ → Bool
is_within low high v = int_le low v && int_le v high

abbrev pub in_base : ℤ → Bool
in_base = is_within BASE_LOW BASE_HIGH

-- ---- meanings

-- of an expression that isn't static
abbrev pub whole : BaseType → Meaning
whole b = record { base = b; value = None; overflows = false }

abbrev pub unknown : Meaning
unknown = whole base.Unjudged

-- of a static expression without a value
abbrev pub overflow : BaseType → Meaning
overflow b = record { base = b; value = None; overflows = true }

-- of a static expression; a value outside the base range is none
abbrev pub static : BaseType → ℤ → Meaning
static b v = if in_base v then record { base = b; value = Some v; overflows = false } else overflow b

-- the value of what has one
abbrev pub value_of : Meaning → ℤ
value_of m = unwrap_or m.value (pos 0)

-- what a name means as an expression
abbrev pub meant : Named → Meaning
meant (named.Object s c) = whole (base_type c s.base)
meant (named.Static s c v) = static (base_type c s.base) v
meant (named.Number v) = static base.Universal v
meant (named.Part b) = whole b
meant _ = unknown

-- a type or an exception is no expression
abbrev pub has_no_value : Named → Bool
has_no_value (named.Mark s c) = true
has_no_value named.Valueless = true
has_no_value _ = false

abbrev pub name_rows : Named → Rows
name_rows n = (code.F08, has_no_value n) ∷ []

abbrev pub number_of : ℕ → List ℕ → ℕ
number_of n [] = n
number_of n (digit ∷ digits) = number_of (10 * n + (digit - digit_zero)) digits

abbrev pub literal : List ℕ → Meaning
literal digits = static base.Universal (pos (number_of 0 digits))

-- ---- operators with one operand

abbrev pub computed1 : Operator → ℤ → ℤ
computed1 op.Minus a = neg_ℤ a
computed1 op.Abs a = if int_le (pos 0) a then a else neg_ℤ a
computed1 _ a = a

abbrev pub static1 : Operator → BaseType → Option ℤ → Meaning
static1 o b (Some a) = static b (computed1 o a)
static1 o b None = whole b

abbrev pub unary_meaning : Operator → Meaning → Meaning
unary_meaning op.Not a = whole base.Truth
unary_meaning o a = static1 o a.base a.value

abbrev pub takes1 : Operator → BaseType → Bool
takes1 op.Not b = is_truth b
takes1 o b = is_integer b

abbrev pub unary_rows : Operator → Meaning → Rows
unary_rows o a = (code.F09, not (takes1 o a.base)) ∷ []

-- ---- operators with two operands

abbrev pub family_of : Operator → Family
family_of op.Equal = family.Equality
family_of op.NotEqual = family.Equality
family_of op.Less = family.Order
family_of op.LessEqual = family.Order
family_of op.Greater = family.Order
family_of op.GreaterEqual = family.Order
family_of op.Add = family.Arithmetic
family_of op.Subtract = family.Arithmetic
family_of op.Multiply = family.Arithmetic
family_of op.Divide = family.Arithmetic
family_of op.Mod = family.Arithmetic
family_of op.Rem = family.Arithmetic
family_of _ = family.Logical

-- the operands of an operator of this family have a type in common that it takes
abbrev pub takes2 : Family → BaseType → BaseType → Bool
takes2 family.Logical a b = is_truth a && is_truth b
takes2 family.Equality a b = agree a b
takes2 family.Order a b = agree a b && is_discrete a && is_discrete b
takes2 family.Arithmetic a b = agree a b && is_integer a && is_integer b

-- `/` truncates toward zero, `rem` has the sign of its first operand, `mod` that of its second
abbrev pub computed2 : Operator → ℤ → ℤ → ℤ
computed2 op.Add a b = a +ℤ b
computed2 op.Subtract a b = a -ℤ b
computed2 op.Multiply a b = a *ℤ b
computed2 op.Divide a b = quotient a b
computed2 op.Mod a b = modulus a b
computed2 op.Rem a b = remainder a b
computed2 _ a b = a

abbrev pub divides : Operator → Bool
divides op.Divide = true
divides op.Mod = true
divides op.Rem = true
divides _ = false

-- a zero divisor gives no value
abbrev pub static2 : Operator → BaseType → Option ℤ → Option ℤ → Meaning
static2 o b (Some x) (Some y) = if divides o && is_zero y then overflow b else static b (computed2 o x y)
static2 o b _ _ = whole b

abbrev pub binary_by_family : Family → Operator → Meaning → Meaning → Meaning
binary_by_family family.Arithmetic o a b = static2 o (joined a.base b.base) a.value b.value
binary_by_family _ o a b = whole base.Truth

abbrev pub binary_meaning : Operator → Meaning → Meaning → Meaning
binary_meaning o a b = binary_by_family (family_of o) o a b

abbrev pub binary_rows : Operator → Meaning → Meaning → Rows
binary_rows o a b = (code.F09, not (takes2 (family_of o) a.base b.base)) ∷ []

-- ---- attributes

abbrev pub attribute_of : List ℕ → Option Attribute
attribute_of text = first_value (λ (row : Attribute × record { now : List ℕ }). row.0) (λ (row : Attribute × record { now : List ℕ }). bytes_eq row.1.now text) ATTRIBUTES

-- the range that FIRST and LAST tell
pub data Bounds : Type 0 where
  bounds : BaseType → (low high : ℤ) → Bounds
  without : Bounds
  unjudged : Bounds

-- as the code has it
abbrev pub bounds_in : Range → Bounds
bounds_in (range.Bounds b low high) = bounds b low high
bounds_in range.Without = without
bounds_in range.Unjudged = unjudged

abbrev pub bounds_of_class : Class → Subtype → Bounds
bounds_of_class class.Integer s = bounds (base.Integer s.base) s.low s.high
bounds_of_class class.Enumeration s = bounds (base.Enumeration s.base) s.low s.high
bounds_of_class (class.Array index) s = bounds index.base index.low index.high
bounds_of_class class.Truth s = without
bounds_of_class class.Record s = without
bounds_of_class class.Private s = without
bounds_of_class class.Unknown s = unjudged

-- of an object, an array's alone
abbrev pub bounds_of_object : Class → Bounds
bounds_of_object (class.Array index) = bounds index.base index.low index.high
bounds_of_object class.Unknown = unjudged
bounds_of_object _ = without

-- types and subtypes have them, and objects of array types
abbrev pub bounds_of : Named → Bounds
bounds_of (named.Mark s c) = bounds_of_class c s
bounds_of (named.Object s c) = bounds_of_object c
bounds_of named.Unkept = unjudged
bounds_of _ = without

abbrev pub is_without : Bounds → Bool
is_without without = true
is_without _ = false

abbrev pub lacks : Option Attribute → Bounds → Bool
lacks (Some attr.First) b = is_without b
lacks (Some attr.Last) b = is_without b
lacks _ b = true

abbrev pub attribute_rows : List ℕ → Named → Rows
attribute_rows text n = (code.F08, lacks (attribute_of text) (bounds_of n)) ∷ []

abbrev pub bound_meaning : Option Attribute → Bounds → Meaning
bound_meaning (Some attr.First) (bounds b low high) = static b low
bound_meaning (Some attr.Last) (bounds b low high) = static b high
bound_meaning _ _ = unknown

abbrev pub attribute_meaning : List ℕ → Named → Meaning
attribute_meaning text n = bound_meaning (attribute_of text) (bounds_of n)

-- ---- attributes with an argument

-- a type or subtype of integers or of an enumeration has SUCC, PRED and POS
abbrev pub has_positions : Named → Bool
has_positions (named.Mark s class.Integer) = true
has_positions (named.Mark s class.Enumeration) = true
has_positions (named.Mark s class.Unknown) = true
has_positions named.Unkept = true
has_positions _ = false

-- An attribute that an argument follows: a range's bound isn't judged so.
abbrev pub lacks_positions : Option Attribute → Named → Bool
lacks_positions (Some attr.Succ) n = not (has_positions n)
lacks_positions (Some attr.Pred) n = not (has_positions n)
lacks_positions (Some attr.Pos) n = not (has_positions n)
lacks_positions (Some _) n = false
lacks_positions None n = true

abbrev pub prefix_rows : List ℕ → Named → Rows
prefix_rows text n = (code.F08, lacks_positions (attribute_of text) n) ∷ []

-- the type of the argument
abbrev pub taken : Option Attribute → Named → BaseType
taken (Some attr.Succ) (named.Mark s c) = base_type c s.base
taken (Some attr.Pred) (named.Mark s c) = base_type c s.base
taken (Some attr.Pos) (named.Mark s c) = base_type c s.base
taken _ _ = base.Unjudged

abbrev pub applied_rows : List ℕ → Named → Meaning → Rows
applied_rows text n a = (code.F09, not (fits a.base (taken (attribute_of text) n))) ∷ []

abbrev pub position : Option ℤ → Meaning
position (Some v) = static integer v
position None = whole integer

-- T'POS(E) is the position of a static E; T'SUCC(E) and T'PRED(E) aren't static
abbrev pub applied_by : Option Attribute → Named → Meaning → Meaning
applied_by (Some attr.Pos) n a = position a.value
applied_by a n m = whole (taken a n)

abbrev pub applied_meaning : List ℕ → Named → Meaning → Meaning
applied_meaning text n a = applied_by (attribute_of text) n a

-- ---- what is asked of an expression for its use

abbrev pub must_be_static : Use → Bool
must_be_static use_of.Static = true
must_be_static (use_of.Stored s b) = true
must_be_static _ = false

abbrev pub is_outside : Subtype → Option ℤ → Bool
is_outside s (Some v) = not (is_within s.low s.high v)
is_outside s None = false

-- a static constant has a value of its subtype, and so has an object of a package
abbrev pub misses : Use → Meaning → Bool
misses (use_of.Initial s b) m = fits m.base b && is_outside s m.value
misses (use_of.Stored s b) m = fits m.base b && is_outside s m.value
misses _ m = false

abbrev pub is_not_static : Use → Meaning → Bool
is_not_static u m = must_be_static u && is_none m.value && not m.overflows

abbrev pub has_bad_value : Use → Meaning → Bool
has_bad_value u m = m.overflows || misses u m

abbrev pub use_rows : Use → Meaning → Rows
use_rows u m = (code.F10, is_not_static u m) ∷ (code.F11, has_bad_value u m) ∷ []
