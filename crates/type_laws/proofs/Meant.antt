-- An expression that is judged whole and has no fault has each type that its meaning fits.
use Rattle.std.proofs.Common.{◌≡◌, ℕ, List, [], ◌∷◌, Bool, true, false, not, ◌&&◌, Option, Some, None, refl, sym, ap, subst, ◌⊎◌, inl, inr}
use Rattle.std.proofs.lemmas.Bool.{false≢true, true≢false, eqb-true, and_parts, not-false, or_cases}
use Rattle.base_kit.specs.declared.fault.Code.{Code}
use Rattle.base_kit.specs.declared.fault.Code.TheVariants as code
use Rattle.ada_tree.specs.declared.operator.Operator.{Operator}
use Rattle.ada_tree.specs.declared.operator.Operator.TheVariants as op
use Rattle.ada_names.specs.Places.{◌▸◌}
use Rattle.static_values.specs.declared.attribute.Attribute.{Attribute}
use Rattle.static_values.specs.declared.attribute.Attribute.TheVariants as attr
use Rattle.static_values.specs.declared.entity.BaseType.{BaseType}
use Rattle.static_values.specs.declared.entity.BaseType.TheVariants as base
use Rattle.static_values.specs.declared.entity.Class.{Class}
use Rattle.static_values.specs.declared.entity.Class.TheVariants as class
use Rattle.static_values.specs.declared.entity.Subtype.{Subtype}
use Rattle.static_values.specs.declared.entity.Named.{Named}
use Rattle.static_values.specs.declared.entity.Named.TheVariants as named
use Rattle.static_values.specs.declared.meaning.Family.{Family}
use Rattle.static_values.specs.declared.meaning.Family.TheVariants as family
use Rattle.static_values.specs.declared.meaning.Meaning.{Meaning}
use Rattle.static_values.specs.declared.meaning.Use.{Use}
use Rattle.static_values.specs.declared.meaning.Use.TheVariants as use_of
use Rattle.static_values.specs.Judging.{Rows, asks, ◌⊕◌}
use Rattle.static_values.specs.Syntax.{Parts, Expr, int, name, unary, binary, attribute, applied, component, other}
use Rattle.static_values.specs.declared.entity.Selected.{Selected}
use Rattle.static_values.specs.declared.entity.Selected.TheVariants as selected
use Rattle.static_values.specs.Entities.{Declared, World}
use Rattle.static_values.specs.Components.{selected_of, selected_type, selected_meaning, is_missing, is_no_record}
use Rattle.static_values.specs.Rules.{fits, agree, joined, is_universal, is_unjudged, is_integer, is_discrete, is_truth, takes1, takes2, base_type, family_of, Bounds, bounds, without, unjudged, bounds_of, attribute_of, integer, meant, has_no_value, unary_meaning, binary_by_family, bound_meaning, lacks, has_positions, lacks_positions, taken, applied_by, literal, use_rows, prefix_rows}
use Rattle.static_values.specs.Expressions.{meaning, denoted, faults, name_faults, prefix_faults, at_node}
use Rattle.static_values.proofs.Firsts.{none_before, none_behind}
use Rattle.type_laws.specs.Typed.{is_declared, Is, is_number, is_scalar, Common, named_typed, unary_typed, binary_typed, attribute_typed, applied_typed, component_typed, Typed}
use Rattle.type_laws.specs.Judged.{is_kept, has_type, takes_argument, is_told, is_judged}
use Rattle.type_laws.proofs.Bases.{static_base, literal_base, static2_base, sign_base, position_base}
use Rattle.type_laws.proofs.Fits.{fits_self, universal_fits}

-- a condition that is asked and is no fault doesn't hold
pub no_fault : (path : List ℕ) (c : Code) (b : Bool) (rows : Rows) → asks path ((c, b) ∷ rows) ≡ [] → b ≡ false
no_fault path c true rows h = cc
no_fault path c false rows h = refl

-- ---- types that fit

-- a declared type that fits a declared one is it
same_is : (b t : BaseType) → is_declared b ≡ true → is_declared t ≡ true → fits b t ≡ true → t ≡ b
same_is (base.Integer a) (base.Integer b) d e h = ap base.Integer (sym (eqb-true a b h))
same_is (base.Enumeration a) (base.Enumeration b) d e h = ap base.Enumeration (sym (eqb-true a b h))
same_is (base.Composite a) (base.Composite b) d e h = ap base.Composite (sym (eqb-true a b h))
same_is base.Truth base.Truth d e h = refl
same_is base.Universal t d e h = absurd (false≢true d)
same_is base.Unjudged t d e h = absurd (false≢true d)
same_is (base.Integer a) base.Universal d e h = absurd (false≢true e)
same_is (base.Integer a) base.Unjudged d e h = absurd (false≢true e)
same_is (base.Integer a) (base.Enumeration b) d e h = absurd (false≢true h)
same_is (base.Integer a) (base.Composite b) d e h = absurd (false≢true h)
same_is (base.Integer a) base.Truth d e h = absurd (false≢true h)
same_is (base.Enumeration a) base.Universal d e h = absurd (false≢true e)
same_is (base.Enumeration a) base.Unjudged d e h = absurd (false≢true e)
same_is (base.Enumeration a) (base.Integer b) d e h = absurd (false≢true h)
same_is (base.Enumeration a) (base.Composite b) d e h = absurd (false≢true h)
same_is (base.Enumeration a) base.Truth d e h = absurd (false≢true h)
same_is (base.Composite a) base.Universal d e h = absurd (false≢true e)
same_is (base.Composite a) base.Unjudged d e h = absurd (false≢true e)
same_is (base.Composite a) (base.Integer b) d e h = absurd (false≢true h)
same_is (base.Composite a) (base.Enumeration b) d e h = absurd (false≢true h)
same_is (base.Composite a) base.Truth d e h = absurd (false≢true h)
same_is base.Truth base.Universal d e h = absurd (false≢true e)
same_is base.Truth base.Unjudged d e h = absurd (false≢true e)
same_is base.Truth (base.Integer b) d e h = absurd (false≢true h)
same_is base.Truth (base.Enumeration b) d e h = absurd (false≢true h)
same_is base.Truth (base.Composite b) d e h = absurd (false≢true h)

is_it : (b t : BaseType) → is_declared b ≡ true → is_declared t ≡ true → fits b t ≡ true → Is b t
is_it b t d e h = (d, same_is b t d e h)

-- an integer type, where what it fits is one or all
number_is : (b t : BaseType) → is_unjudged b ≡ false → is_integer b ≡ true → is_declared t ≡ true → fits b t ≡ true → is_number t ≡ true
number_is base.Universal (base.Integer a) k i d h = refl
number_is base.Universal (base.Enumeration a) k i d h = absurd (false≢true h)
number_is base.Universal (base.Composite a) k i d h = absurd (false≢true h)
number_is base.Universal base.Truth k i d h = absurd (false≢true h)
number_is base.Universal base.Universal k i d h = absurd (false≢true d)
number_is base.Universal base.Unjudged k i d h = absurd (false≢true d)
number_is (base.Integer n) t k i d h = subst (λ (x : BaseType). is_number x ≡ true) (sym (same_is (base.Integer n) t refl d h)) refl
number_is (base.Enumeration n) t k i d h = absurd (false≢true i)
number_is (base.Composite n) t k i d h = absurd (false≢true i)
number_is base.Truth t k i d h = absurd (false≢true i)
number_is base.Unjudged t k i d h = absurd (true≢false k)

truth_is : (b : BaseType) → is_unjudged b ≡ false → is_truth b ≡ true → fits b base.Truth ≡ true
truth_is base.Truth k h = refl
truth_is base.Universal k h = absurd (false≢true h)
truth_is (base.Integer n) k h = absurd (false≢true h)
truth_is (base.Enumeration n) k h = absurd (false≢true h)
truth_is (base.Composite n) k h = absurd (false≢true h)
truth_is base.Unjudged k h = absurd (true≢false k)

-- ---- what is to be shown of a meaning: it is judged, and where it fits a type that can be declared, that is a type

abbrev pub Meant : Meaning → (BaseType → Type 0) → Type 0
Meant m A = (is_unjudged m.base ≡ false) × ((t : BaseType) → is_declared t ≡ true → fits m.base t ≡ true → A t)

judged : (b : BaseType) → is_declared b ≡ true → is_unjudged b ≡ false
judged (base.Integer n) d = refl
judged (base.Enumeration n) d = refl
judged (base.Composite n) d = refl
judged base.Truth d = refl
judged base.Universal d = absurd (false≢true d)
judged base.Unjudged d = absurd (false≢true d)

-- a meaning of a declared type
of_own : (m : Meaning) (b : BaseType) (A : BaseType → Type 0) → m.base ≡ b → is_declared b ≡ true → ((t : BaseType) → Is b t → A t) → Meant m A
of_own m b A e d f =
    (subst (λ (x : BaseType). is_unjudged x ≡ false) (sym e) (judged b d), λ t dt h. f t (is_it b t d dt (subst (λ (x : BaseType). fits x t ≡ true) e h)))

of_universal : (m : Meaning) (A : BaseType → Type 0) → m.base ≡ base.Universal → ((t : BaseType) → is_number t ≡ true → A t) → Meant m A
of_universal m A e f =
    (subst (λ (x : BaseType). is_unjudged x ≡ false) (sym e) refl, λ t dt h. f t (number_is base.Universal t refl refl dt (subst (λ (x : BaseType). fits x t ≡ true) e h)))

named_meant : (n : Named) → is_kept n ≡ true → has_no_value n ≡ false → Meant (meant n) (named_typed n)
named_meant (named.Object s c) k v = of_own (meant (named.Object s c)) (base_type c s.base) (named_typed (named.Object s c)) refl k (λ t h. h)
named_meant (named.Static s c u) k v = of_own (meant (named.Static s c u)) (base_type c s.base) (named_typed (named.Static s c u)) (static_base (base_type c s.base) u) k (λ t h. h)
named_meant (named.Number u) k v = of_universal (meant (named.Number u)) (named_typed (named.Number u)) (static_base base.Universal u) (λ t h. h)
named_meant (named.Mark s c) k v = absurd (true≢false v)
named_meant named.Valueless k v = absurd (true≢false v)
named_meant (named.Part b) k v = of_own (meant (named.Part b)) b (named_typed (named.Part b)) refl k (λ t h. h)
named_meant named.Unkept k v = absurd (false≢true k)

unary_meant : (o : Operator) (A : BaseType → Type 0) (a : Meaning) → takes1 o a.base ≡ true → Meant a A → Meant (unary_meaning o a) (unary_typed o A)
unary_meant op.Not A a h m =
    of_own (unary_meaning op.Not a) base.Truth (unary_typed op.Not A) refl refl (λ t i. (i, m.1 base.Truth refl (truth_is a.base m.0 h)))
unary_meant o A a h m = (
  subst (λ (x : BaseType). is_unjudged x ≡ false) (sym (sign_base o a refl)) m.0,
  λ t d f. let g : fits a.base t ≡ true = subst (λ (x : BaseType). fits x t ≡ true) (sign_base o a refl) f in (number_is a.base t m.0 h d g, m.1 t d g),
)

-- ---- two operands

known : (b : BaseType) → is_unjudged b ≡ false → (b ≡ base.Universal) ⊎ (is_declared b ≡ true)
known base.Universal k = inl refl
known (base.Integer n) k = inr refl
known (base.Enumeration n) k = inr refl
known (base.Composite n) k = inr refl
known base.Truth k = inr refl
known base.Unjudged k = absurd (true≢false k)

-- what agrees with every integer type is one
universal_agrees : (b : BaseType) → is_declared b ≡ true → agree base.Universal b ≡ true → fits base.Universal b ≡ true
universal_agrees (base.Integer n) d h = refl
universal_agrees (base.Enumeration n) d h = absurd (false≢true h)
universal_agrees (base.Composite n) d h = absurd (false≢true h)
universal_agrees base.Truth d h = absurd (false≢true h)
universal_agrees base.Universal d h = absurd (false≢true d)
universal_agrees base.Unjudged d h = absurd (false≢true d)

agrees_universal : (b : BaseType) → is_declared b ≡ true → agree b base.Universal ≡ true → fits base.Universal b ≡ true
agrees_universal (base.Integer n) d h = refl
agrees_universal (base.Enumeration n) d h = absurd (false≢true h)
agrees_universal (base.Composite n) d h = absurd (false≢true h)
agrees_universal base.Truth d h = absurd (false≢true h)
agrees_universal base.Universal d h = absurd (false≢true d)
agrees_universal base.Unjudged d h = absurd (false≢true d)

declared_agree : (a b : BaseType) → is_declared a ≡ true → is_declared b ≡ true → agree a b ≡ true → b ≡ a
declared_agree a b d e h = by (or_cases (fits a b) (fits b a) h)
  where
    by : (fits a b ≡ true) ⊎ (fits b a ≡ true) → b ≡ a
    by (inl f) = same_is a b d e f
    by (inr f) = sym (same_is b a e d f)

-- one type that both sides have
abbrev Shared : (BaseType → Bool) → BaseType → BaseType → Type 0
Shared is a b = (u : BaseType) × ((is u ≡ true) × ((is_declared u ≡ true) × ((fits a u ≡ true) × (fits b u ≡ true))))

shared : (is : BaseType → Bool) (a b : BaseType) → is integer ≡ true → (is_declared a ≡ true → is a ≡ true) → (is_declared b ≡ true → is b ≡ true)
    → is_unjudged a ≡ false → is_unjudged b ≡ false → agree a b ≡ true → Shared is a b
shared is a b i f g ka kb h = by (known a ka) (known b kb)
  where
    by : (a ≡ base.Universal) ⊎ (is_declared a ≡ true) → (b ≡ base.Universal) ⊎ (is_declared b ≡ true) → Shared is a b
    by (inl p) (inl q) = (integer, (i, (refl, (subst (λ (x : BaseType). fits x integer ≡ true) (sym p) refl, subst (λ (x : BaseType). fits x integer ≡ true) (sym q) refl))))
    by (inl p) (inr d) = (b, (g d, (d, (subst (λ (x : BaseType). fits x b ≡ true) (sym p) (universal_agrees b d (subst (λ (x : BaseType). agree x b ≡ true) p h)), fits_self b d))))
    by (inr d) (inl q) = (a, (f d, (d, (fits_self a d, subst (λ (x : BaseType). fits x a ≡ true) (sym q) (agrees_universal a d (subst (λ (x : BaseType). agree a x ≡ true) q h))))))
    by (inr d) (inr e) = (a, (f d, (d, (fits_self a d, subst (λ (x : BaseType). fits x a ≡ true) (sym (declared_agree a b d e h)) (fits_self a d)))))

joined_own : (a b : BaseType) → is_declared a ≡ true → joined a b ≡ a
joined_own (base.Integer n) b d = refl
joined_own (base.Enumeration n) b d = refl
joined_own (base.Composite n) b d = refl
joined_own base.Truth b d = refl
joined_own base.Universal b d = absurd (false≢true d)
joined_own base.Unjudged b d = absurd (false≢true d)

-- integer operands that agree have each type that what they make fits
abbrev Each : BaseType → BaseType → BaseType → Type 0
Each a b t = (is_number t ≡ true) × ((fits a t ≡ true) × (fits b t ≡ true))

integers_fit : (a b t : BaseType) → is_unjudged a ≡ false → is_unjudged b ≡ false → is_integer a ≡ true → is_integer b ≡ true → agree a b ≡ true → is_declared t ≡ true → fits (joined a b) t ≡ true → Each a b t
integers_fit a b t ka kb ia ib h dt f = by (known a ka) (known b kb)
  where
    by : (a ≡ base.Universal) ⊎ (is_declared a ≡ true) → (b ≡ base.Universal) ⊎ (is_declared b ≡ true) → Each a b t
    by (inl p) q =
        let g : fits b t ≡ true = subst (λ (x : BaseType). fits (joined x b) t ≡ true) p f in
        let n : is_number t ≡ true = number_is b t kb ib dt g in
        (n, (subst (λ (x : BaseType). fits x t ≡ true) (sym p) (universal_fits t n), g))
    by (inr d) (inl q) =
        let g : fits a t ≡ true = subst (λ (x : BaseType). fits x t ≡ true) (joined_own a b d) f in
        let n : is_number t ≡ true = number_is a t ka ia dt g in
        (n, (g, subst (λ (x : BaseType). fits x t ≡ true) (sym q) (universal_fits t n)))
    by (inr d) (inr e) =
        let g : fits a t ≡ true = subst (λ (x : BaseType). fits x t ≡ true) (joined_own a b d) f in
        (number_is a t ka ia dt g, (g, subst (λ (x : BaseType). fits x t ≡ true) (sym (declared_agree a b d e h)) g))

joined_judged : (a b : BaseType) → is_unjudged a ≡ false → is_unjudged b ≡ false → is_unjudged (joined a b) ≡ false
joined_judged a b ka kb = by (is_universal a) refl
  where
    by : (u : Bool) → is_universal a ≡ u → is_unjudged (joined a b) ≡ false
    by true h = subst (λ (x : BaseType). is_unjudged x ≡ false) (sym (rw h refl)) kb
    by false h = subst (λ (x : BaseType). is_unjudged x ≡ false) (sym (rw h refl)) ka

scalar_is : (b : BaseType) → is_declared b ≡ true → is_discrete b ≡ true → is_scalar b ≡ true
scalar_is (base.Integer n) d h = refl
scalar_is (base.Enumeration n) d h = refl
scalar_is (base.Composite n) d h = absurd (false≢true h)
scalar_is base.Truth d h = absurd (false≢true h)
scalar_is base.Universal d h = absurd (false≢true d)
scalar_is base.Unjudged d h = absurd (false≢true d)

of_shared : (is : BaseType → Bool) (A B : BaseType → Type 0) (a b : Meaning) → Meant a A → Meant b B → Shared is a.base b.base → Common is A B
of_shared is A B a b m n s = (s.0, (s.1.0, (m.1 s.0 s.1.1.0 s.1.1.1.0, n.1 s.0 s.1.1.0 s.1.1.1.1)))

binary_meant : (f : Family) (o : Operator) (A B : BaseType → Type 0) (a b : Meaning) → takes2 f a.base b.base ≡ true → Meant a A → Meant b B
    → Meant (binary_by_family f o a b) (binary_typed f A B)
binary_meant family.Logical o A B a b h m n =
    let p : (is_truth a.base ≡ true) × (is_truth b.base ≡ true) = and_parts (is_truth a.base) (is_truth b.base) h in
    of_own (binary_by_family family.Logical o a b) base.Truth (binary_typed family.Logical A B) refl refl
    (λ t i. (i, (m.1 base.Truth refl (truth_is a.base m.0 p.0), n.1 base.Truth refl (truth_is b.base n.0 p.1))))
binary_meant family.Equality o A B a b h m n =
    of_own (binary_by_family family.Equality o a b) base.Truth (binary_typed family.Equality A B) refl refl
    (λ t i. (i, of_shared is_declared A B a b m n (shared is_declared a.base b.base refl (λ d. d) (λ d. d) m.0 n.0 h)))
binary_meant family.Order o A B a b h m n =
    let p : ((agree a.base b.base && is_discrete a.base) ≡ true) × (is_discrete b.base ≡ true) = and_parts (agree a.base b.base && is_discrete a.base) (is_discrete b.base) h in
    let q : (agree a.base b.base ≡ true) × (is_discrete a.base ≡ true) = and_parts (agree a.base b.base) (is_discrete a.base) p.0 in
    of_own (binary_by_family family.Order o a b) base.Truth (binary_typed family.Order A B) refl refl
    (λ t i. (i, of_shared is_scalar A B a b m n (shared is_scalar a.base b.base refl (λ d. scalar_is a.base d q.1) (λ d. scalar_is b.base d p.1) m.0 n.0 q.0)))
binary_meant family.Arithmetic o A B a b h m n =
    let p : ((agree a.base b.base && is_integer a.base) ≡ true) × (is_integer b.base ≡ true) = and_parts (agree a.base b.base && is_integer a.base) (is_integer b.base) h in
    let q : (agree a.base b.base ≡ true) × (is_integer a.base ≡ true) = and_parts (agree a.base b.base) (is_integer a.base) p.0 in
    let e : (binary_by_family family.Arithmetic o a b).base ≡ joined a.base b.base = static2_base o (joined a.base b.base) a.value b.value in (
      subst (λ (x : BaseType). is_unjudged x ≡ false) (sym e) (joined_judged a.base b.base m.0 n.0),
      λ t d f. let r : Each a.base b.base t = integers_fit a.base b.base t m.0 n.0 q.1 p.1 q.0 d (subst (λ (x : BaseType). fits x t ≡ true) e f) in (r.0, (m.1 t d r.1.0, n.1 t d r.1.1)),
    )

-- ---- attributes

attribute_meant : (a : Option Attribute) (b : Bounds) → lacks a b ≡ false → has_type b ≡ true → Meant (bound_meaning a b) (attribute_typed a b)
attribute_meant (Some attr.First) (bounds b low high) l k = of_own (bound_meaning (Some attr.First) (bounds b low high)) b (attribute_typed (Some attr.First) (bounds b low high)) (static_base b low) k (λ t i. i)
attribute_meant (Some attr.Last) (bounds b low high) l k = of_own (bound_meaning (Some attr.Last) (bounds b low high)) b (attribute_typed (Some attr.Last) (bounds b low high)) (static_base b high) k (λ t i. i)
attribute_meant (Some attr.First) without l k = absurd (true≢false l)
attribute_meant (Some attr.Last) without l k = absurd (true≢false l)
attribute_meant (Some attr.First) unjudged l k = absurd (false≢true k)
attribute_meant (Some attr.Last) unjudged l k = absurd (false≢true k)
attribute_meant (Some attr.Succ) b l k = absurd (true≢false l)
attribute_meant (Some attr.Pred) b l k = absurd (true≢false l)
attribute_meant (Some attr.Pos) b l k = absurd (true≢false l)
attribute_meant None b l k = absurd (true≢false l)

-- what has positions and is kept is the mark of a scalar type
at_mark : (P : Named → Type 0) → ((s : Subtype) (c : Class) → is_scalar (base_type c s.base) ≡ true → is_declared (base_type c s.base) ≡ true → P (named.Mark s c))
    → (n : Named) → is_kept n ≡ true → not (has_positions n) ≡ false → P n
at_mark P f (named.Mark s class.Integer) k h = f s class.Integer refl refl
at_mark P f (named.Mark s class.Enumeration) k h = f s class.Enumeration refl refl
at_mark P f (named.Mark s class.Truth) k h = absurd (true≢false h)
at_mark P f (named.Mark s (class.Array index)) k h = absurd (true≢false h)
at_mark P f (named.Mark s class.Record) k h = absurd (true≢false h)
at_mark P f (named.Mark s class.Private) k h = absurd (true≢false h)
at_mark P f (named.Mark s class.Unknown) k h = absurd (false≢true k)
at_mark P f (named.Object s c) k h = absurd (true≢false h)
at_mark P f (named.Static s c v) k h = absurd (true≢false h)
at_mark P f (named.Number v) k h = absurd (true≢false h)
at_mark P f named.Valueless k h = absurd (true≢false h)
at_mark P f (named.Part b) k h = absurd (true≢false h)
at_mark P f named.Unkept k h = absurd (false≢true k)

abbrev Argued : Option Attribute → (BaseType → Type 0) → Meaning → Named → Type 0
Argued a A m n = fits m.base (taken a n) ≡ true → Meant (applied_by a n m) (applied_typed a n A)

applied_meant : (a : Option Attribute) (n : Named) (A : BaseType → Type 0) (m : Meaning) → takes_argument a ≡ true → is_kept n ≡ true → lacks_positions a n ≡ false → Meant m A → Argued a A m n
applied_meant (Some attr.Pos) n A m r k l d =
    at_mark (Argued (Some attr.Pos) A m)
    (λ s c i e h. of_own (applied_by (Some attr.Pos) (named.Mark s c) m) integer (applied_typed (Some attr.Pos) (named.Mark s c) A) (position_base m.value) refl (λ t j. (i, (j, d.1 (base_type c s.base) e h))))
    n k l
applied_meant (Some attr.Succ) n A m r k l d =
    at_mark (Argued (Some attr.Succ) A m)
    (λ s c i e h. of_own (applied_by (Some attr.Succ) (named.Mark s c) m) (base_type c s.base) (applied_typed (Some attr.Succ) (named.Mark s c) A) refl e (λ t j. (i, (j, d.1 (base_type c s.base) e h))))
    n k l
applied_meant (Some attr.Pred) n A m r k l d =
    at_mark (Argued (Some attr.Pred) A m)
    (λ s c i e h. of_own (applied_by (Some attr.Pred) (named.Mark s c) m) (base_type c s.base) (applied_typed (Some attr.Pred) (named.Mark s c) A) refl e (λ t j. (i, (j, d.1 (base_type c s.base) e h))))
    n k l
applied_meant (Some attr.First) n A m r k l d = absurd (false≢true r)
applied_meant (Some attr.Last) n A m r k l d = absurd (false≢true r)
applied_meant None n A m r k l d = absurd (true≢false l)

-- ---- components

-- what is selected is a component of a kept type, where it is told and has no fault
told_type : (s : Selected) → is_told s ≡ true → is_missing s ≡ false → is_no_record s ≡ false → is_declared (selected_type s) ≡ true
told_type (selected.Component b) k m n = k
told_type selected.Missing k m n = absurd (true≢false m)
told_type selected.NoRecord k m n = absurd (true≢false n)
told_type selected.Unjudged k m n = absurd (false≢true k)

-- only of a composite type
selected_declared : (es : Declared) (text : List ℕ) (b : BaseType) → is_declared (selected_type (selected_of es b text)) ≡ true → is_declared b ≡ true
selected_declared es text (base.Composite n) h = refl
selected_declared es text (base.Integer n) h = refl
selected_declared es text (base.Enumeration n) h = refl
selected_declared es text base.Truth h = refl
selected_declared es text base.Universal h = h
selected_declared es text base.Unjudged h = h

component_meant : (es : Declared) (A : BaseType → Type 0) (text : List ℕ) (a : Meaning) → is_told (selected_of es a.base text) ≡ true
    → is_missing (selected_of es a.base text) ≡ false → is_no_record (selected_of es a.base text) ≡ false → Meant a A
    → Meant (selected_meaning (selected_of es a.base text)) (component_typed es A text)
component_meant es A text a k m n f =
    let d : is_declared (selected_type (selected_of es a.base text)) ≡ true = told_type (selected_of es a.base text) k m n in
    let b : is_declared a.base ≡ true = selected_declared es text a.base d in
    of_own (selected_meaning (selected_of es a.base text)) (selected_type (selected_of es a.base text)) (component_typed es A text) refl d
    (λ t i. (a.base, (f.1 a.base b (fits_self a.base b), i)))

-- the second of two conditions that are asked and are no faults
second : (path : List ℕ) (c d : Code) (b e : Bool) (rows : Rows) → asks path ((c, b) ∷ (d, e) ∷ rows) ≡ [] → e ≡ false
second path c d true e rows h = cc
second path c d false e rows h = no_fault path d e rows h

-- ---- whole expressions

module _ (w : World) where
  -- the attribute before an argument is one of its prefix
  asked : (path : List ℕ) (parts : Parts) (text : List ℕ) → prefix_faults w path parts text ≡ [] → lacks_positions (attribute_of text) (denoted w (path ▸ 0 ▸ 0) parts) ≡ false
  unfolding prefix_faults
  asked path parts text h =
      no_fault (path ▸ 0) code.F08 (lacks_positions (attribute_of text) (denoted w (path ▸ 0 ▸ 0) parts)) []
      (none_behind (name_faults w (path ▸ 0 ▸ 0) parts) (asks (path ▸ 0) (prefix_rows text (denoted w (path ▸ 0 ▸ 0) parts))) h)

  pub types : (u : Use) (path : List ℕ) (e : Expr) → is_judged w path e ≡ true → faults w u path e ≡ [] → Meant (meaning w path e) (Typed w path e)
  types u path (int digits) j h = of_universal (literal digits) (Typed w path (int digits)) (literal_base digits) (λ t i. i)
  types u path (name parts) j h =
      let own : at_node w u path (name parts) ≡ [] = none_behind (name_faults w path parts) (at_node w u path (name parts)) h in
      named_meant (denoted w path parts) j (no_fault path code.F08 (has_no_value (denoted w path parts)) (use_rows u (meaning w path (name parts))) own)
  types u path (unary o a) j h =
      let below : faults w use_of.Read (path ▸ 0) a ≡ [] = none_before (faults w use_of.Read (path ▸ 0) a) (at_node w u path (unary o a)) h in
      let own : at_node w u path (unary o a) ≡ [] = none_behind (faults w use_of.Read (path ▸ 0) a) (at_node w u path (unary o a)) h in
      unary_meant o (Typed w (path ▸ 0) a) (meaning w (path ▸ 0) a)
      (not-false (takes1 o (meaning w (path ▸ 0) a).base) (no_fault path code.F09 (not (takes1 o (meaning w (path ▸ 0) a).base)) (use_rows u (meaning w path (unary o a))) own))
      (types use_of.Read (path ▸ 0) a j below)
  types u path (binary o a b) j h =
      let left : faults w use_of.Read (path ▸ 0) a ≡ [] = none_before (faults w use_of.Read (path ▸ 0) a) (faults w use_of.Read (path ▸ 1) b ⊕ at_node w u path (binary o a b)) h in
      let more : faults w use_of.Read (path ▸ 1) b ⊕ at_node w u path (binary o a b) ≡ [] = none_behind (faults w use_of.Read (path ▸ 0) a) (faults w use_of.Read (path ▸ 1) b ⊕ at_node w u path (binary o a b)) h in
      let right : faults w use_of.Read (path ▸ 1) b ≡ [] = none_before (faults w use_of.Read (path ▸ 1) b) (at_node w u path (binary o a b)) more in
      let own : at_node w u path (binary o a b) ≡ [] = none_behind (faults w use_of.Read (path ▸ 1) b) (at_node w u path (binary o a b)) more in
      let both : (is_judged w (path ▸ 0) a ≡ true) × (is_judged w (path ▸ 1) b ≡ true) = and_parts (is_judged w (path ▸ 0) a) (is_judged w (path ▸ 1) b) j in
      binary_meant (family_of o) o (Typed w (path ▸ 0) a) (Typed w (path ▸ 1) b) (meaning w (path ▸ 0) a) (meaning w (path ▸ 1) b)
      (not-false (takes2 (family_of o) (meaning w (path ▸ 0) a).base (meaning w (path ▸ 1) b).base)
      (no_fault path code.F09 (not (takes2 (family_of o) (meaning w (path ▸ 0) a).base (meaning w (path ▸ 1) b).base)) (use_rows u (meaning w path (binary o a b))) own))
      (types use_of.Read (path ▸ 0) a both.0 left) (types use_of.Read (path ▸ 1) b both.1 right)
  types u path (attribute parts text) j h =
      let own : at_node w u path (attribute parts text) ≡ [] = none_behind (name_faults w (path ▸ 0) parts) (at_node w u path (attribute parts text)) h in
      attribute_meant (attribute_of text) (bounds_of (denoted w (path ▸ 0) parts))
      (no_fault path code.F08 (lacks (attribute_of text) (bounds_of (denoted w (path ▸ 0) parts))) (use_rows u (meaning w path (attribute parts text))) own) j
  types u path (applied parts text a) j h =
      let before : prefix_faults w path parts text ≡ [] = none_before (prefix_faults w path parts text) (faults w use_of.Read (path ▸ 1 ▸ 0) a ⊕ at_node w u path (applied parts text a)) h in
      let more : faults w use_of.Read (path ▸ 1 ▸ 0) a ⊕ at_node w u path (applied parts text a) ≡ [] = none_behind (prefix_faults w path parts text) (faults w use_of.Read (path ▸ 1 ▸ 0) a ⊕ at_node w u path (applied parts text a)) h in
      let below : faults w use_of.Read (path ▸ 1 ▸ 0) a ≡ [] = none_before (faults w use_of.Read (path ▸ 1 ▸ 0) a) (at_node w u path (applied parts text a)) more in
      let own : at_node w u path (applied parts text a) ≡ [] = none_behind (faults w use_of.Read (path ▸ 1 ▸ 0) a) (at_node w u path (applied parts text a)) more in
      let n : Named = denoted w (path ▸ 0 ▸ 0) parts in
      let first : (takes_argument (attribute_of text) ≡ true) × ((is_kept n && is_judged w (path ▸ 1 ▸ 0) a) ≡ true) = and_parts (takes_argument (attribute_of text)) (is_kept n && is_judged w (path ▸ 1 ▸ 0) a) j in
      let then_ : (is_kept n ≡ true) × (is_judged w (path ▸ 1 ▸ 0) a ≡ true) = and_parts (is_kept n) (is_judged w (path ▸ 1 ▸ 0) a) first.1 in
      applied_meant (attribute_of text) n (Typed w (path ▸ 1 ▸ 0) a) (meaning w (path ▸ 1 ▸ 0) a) first.0 then_.0 (asked path parts text before)
      (types use_of.Read (path ▸ 1 ▸ 0) a then_.1 below)
      (not-false (fits (meaning w (path ▸ 1 ▸ 0) a).base (taken (attribute_of text) n))
      (no_fault path code.F09 (not (fits (meaning w (path ▸ 1 ▸ 0) a).base (taken (attribute_of text) n))) (use_rows u (meaning w path (applied parts text a))) own))
  types u path (component a text) j h =
      let s : Selected = selected_of w.entities (meaning w (path ▸ 0) a).base text in
      let below : faults w use_of.Read (path ▸ 0) a ≡ [] = none_before (faults w use_of.Read (path ▸ 0) a) (at_node w u path (component a text)) h in
      let own : at_node w u path (component a text) ≡ [] = none_behind (faults w use_of.Read (path ▸ 0) a) (at_node w u path (component a text)) h in
      let rows : Rows = use_rows u (meaning w path (component a text)) in
      let both : (is_judged w (path ▸ 0) a ≡ true) × (is_told s ≡ true) = and_parts (is_judged w (path ▸ 0) a) (is_told s) j in
      component_meant w.entities (Typed w (path ▸ 0) a) text (meaning w (path ▸ 0) a) both.1
      (no_fault path code.F08 (is_missing s) ((code.F09, is_no_record s) ∷ rows) own)
      (second path code.F08 code.F09 (is_missing s) (is_no_record s) rows own)
      (types use_of.Read (path ▸ 0) a both.0 below)
  types u path other j h = absurd (false≢true j)
