-- What a type definition without a fault gives lies in the ranges of its types.
use Rattle.std.proofs.Common.{◌≡◌, ℕ, ℤ, suc, pos, ◌<◌, ◌-ℤ◌, int_le, List, [], ◌∷◌, length, true, false, not, ◌&&◌, Option, Some, None, refl, sym, ap, subst, ◌∙◌, nat_eq, arith, zero, ◌⊎◌, inl, inr}
use Rattle.std.specs.Map.{lookup}
use Rattle.std.proofs.lemmas.Bool.{false≢true, true≢false, and_parts, and_from, not-false, or_cases, le-leb, le-ltb, eqb-true}
use Rattle.base_kit.specs.declared.fault.Fault.{Fault}
use Rattle.base_kit.specs.declared.fault.Code.TheVariants as code
use Rattle.ada_tree.specs.declared.kind.Kind.{Kind}
use Rattle.ada_tree.specs.declared.kind.Kind.TheVariants as kind
use Rattle.ada_tree.specs.declared.node.Node.{Node}
use Rattle.ada_tree.specs.Nodes.{kind_of, kids_of, is_empty}
use Rattle.ada_names.specs.Places.{◌▸◌}
use Rattle.static_values.specs.declared.entity.BaseType.{BaseType}
use Rattle.static_values.specs.declared.entity.BaseType.TheVariants as base
use Rattle.static_values.specs.declared.entity.Class.{Class}
use Rattle.static_values.specs.declared.entity.Class.TheVariants as class
use Rattle.static_values.specs.declared.entity.Subtype.{Subtype}
use Rattle.static_values.specs.declared.entity.Index.{Index}
use Rattle.static_values.specs.declared.entity.Shape.{Shape}
use Rattle.static_values.specs.declared.entity.Shape.TheVariants as shape
use Rattle.static_values.specs.declared.entity.Entity.{Entity}
use Rattle.static_values.specs.declared.entity.Entity.TheVariants as entity
use Rattle.static_values.specs.declared.entity.Named.TheVariants as named
use Rattle.static_values.specs.Judging.{asks, ◌⊕◌}
use Rattle.static_values.specs.Entities.{Declared, World, class_of, class_of_shape, class_kept, predefined}
use Rattle.static_values.specs.Rules.{agree, joined, is_integer, is_discrete, is_within, in_base, base_type, bounds, bounds_of_class, value_of}
use Rattle.type_definitions.specs.declared.definitions.Limits.{Limits}
use Rattle.type_definitions.specs.declared.definitions.Defined.{Defined}
use Rattle.type_definitions.specs.Definitions.{or_integer, is_null, span_index, mark_index, array_rows, span_rows, integer_rows, nothing_defined, enumeration, enumeration_faults, enumeration_in, members_of, integers, array_in, record_in, definition_in, definition_faults, bounds_faults, bounds_of, integer_faults, span_faults, range_of_faults, index_faults, index_in, array_faults, mark_in, mark_in_faults}
use Rattle.ada_types.specs.Declarations.{first_subtype, literals_of}
use Rattle.type_laws.specs.Ranges.{is_position, lies_in_type, ClassIsKept, BoundsLie, NameLies, AllLie}
use Rattle.type_laws.proofs.Meant.{no_fault}
use Rattle.type_laws.proofs.Growing.{Extends, class_at_none, bounds_grow, public_class}
use Rattle.type_laws.proofs.Marked.{LimitsLie, Fits, by_mark, marks, limits_lie}
use Rattle.static_values.proofs.Firsts.{none_before, none_behind}

-- the class of a type that is kept
shape_is_kept : (es : Declared) (s t : Subtype) (sh : Shape) → class_of es s.base ≡ class_kept (Some (entity.Type t sh)) → ClassIsKept es s (class_of_shape sh)
shape_is_kept es s t shape.Integer h = inr (h, refl)
shape_is_kept es s t shape.Enumeration h = inr (h, refl)
shape_is_kept es s t shape.Truth h = inr (h, refl)
shape_is_kept es s t (shape.Array i e) h = inr (h, refl)
shape_is_kept es s t (shape.Record cs) h = inr (h, refl)
shape_is_kept es s t shape.Private h = inl refl

module _ (es : Declared) where
  abbrev IndexLies : Index → Type 0
  IndexLies i = BoundsLie es (bounds i.base i.low i.high)

  integer_in_base : (b : BaseType) (v : ℤ) → is_integer b ≡ true → lies_in_type es b v ≡ true → in_base v ≡ true
  integer_in_base base.Universal v i h = h
  integer_in_base (base.Integer n) v i h = h
  integer_in_base (base.Enumeration n) v i h = absurd (false≢true i)
  integer_in_base (base.Composite n) v i h = absurd (false≢true i)
  integer_in_base base.Truth v i h = absurd (false≢true i)
  integer_in_base base.Unjudged v i h = absurd (false≢true h)

  -- both bounds of a span lie in the range of the type that they have in common
  span_lies : (a b : BaseType) (x y : ℤ) → agree a b ≡ true → lies_in_type es a x ≡ true → lies_in_type es b y ≡ true
      → (lies_in_type es (or_integer (joined a b)) x ≡ true) × (lies_in_type es (or_integer (joined a b)) y ≡ true)
  span_lies base.Universal base.Universal x y g h k = (h, k)
  span_lies base.Universal (base.Integer m) x y g h k = (h, k)
  span_lies base.Universal (base.Enumeration m) x y g h k = absurd (false≢true g)
  span_lies base.Universal base.Truth x y g h k = absurd (false≢true g)
  span_lies (base.Integer n) base.Universal x y g h k = (h, k)
  span_lies (base.Integer n) (base.Integer m) x y g h k = (h, k)
  span_lies (base.Integer n) (base.Enumeration m) x y g h k = absurd (false≢true g)
  span_lies (base.Integer n) base.Truth x y g h k = absurd (false≢true g)
  span_lies (base.Enumeration n) base.Universal x y g h k = absurd (false≢true g)
  span_lies (base.Enumeration n) (base.Integer m) x y g h k = absurd (false≢true g)
  span_lies (base.Enumeration n) (base.Enumeration m) x y g h k = (h, by (or_cases (nat_eq n m) (nat_eq m n) g))
    where
      by : (nat_eq n m ≡ true) ⊎ (nat_eq m n ≡ true) → lies_in_type es (base.Enumeration n) y ≡ true
      by (inl p) = subst (λ (i : ℕ). lies_in_type es (base.Enumeration i) y ≡ true) (sym (eqb-true n m p)) k
      by (inr p) = subst (λ (i : ℕ). lies_in_type es (base.Enumeration i) y ≡ true) (eqb-true m n p) k
  span_lies (base.Enumeration n) base.Truth x y g h k = absurd (false≢true g)
  span_lies base.Truth base.Universal x y g h k = absurd (false≢true g)
  span_lies base.Truth (base.Integer m) x y g h k = absurd (false≢true g)
  span_lies base.Truth (base.Enumeration m) x y g h k = absurd (false≢true g)
  span_lies base.Truth base.Truth x y g h k = (h, k)
  span_lies (base.Composite n) b x y g h k = absurd (false≢true h)
  span_lies base.Unjudged b x y g h k = absurd (false≢true h)
  span_lies base.Universal (base.Composite m) x y g h k = absurd (false≢true k)
  span_lies (base.Integer n) (base.Composite m) x y g h k = absurd (false≢true k)
  span_lies (base.Enumeration n) (base.Composite m) x y g h k = absurd (false≢true k)
  span_lies base.Truth (base.Composite m) x y g h k = absurd (false≢true k)
  span_lies base.Universal base.Unjudged x y g h k = absurd (false≢true k)
  span_lies (base.Integer n) base.Unjudged x y g h k = absurd (false≢true k)
  span_lies (base.Enumeration n) base.Unjudged x y g h k = absurd (false≢true k)
  span_lies base.Truth base.Unjudged x y g h k = absurd (false≢true k)

-- a mark of a discrete type has the range of its subtype
mark_index_lies : (es : Declared) (s : Subtype) (c : Class) → NameLies es (named.Mark s c) → is_discrete (base_type c s.base) ≡ true → IndexLies es (mark_index (named.Mark s c))
mark_index_lies es s class.Integer m d = m.bounds_lie
mark_index_lies es s class.Enumeration m d = m.bounds_lie
mark_index_lies es s class.Truth m d = absurd (false≢true d)
mark_index_lies es s (class.Array index) m d = absurd (false≢true d)
mark_index_lies es s class.Record m d = absurd (false≢true d)
mark_index_lies es s class.Private m d = absurd (false≢true d)
mark_index_lies es s class.Unknown m d = absurd (false≢true (public_class es s class.Unknown m.type_is_kept refl).1)

module _ (w : World) (all : AllLie w.entities) where
  span_index_lies : (path : List ℕ) (kids : List Node) → span_faults w path kids ≡ [] → IndexLies w.entities (span_index (bounds_of w path kids))
  span_index_lies path kids h =
      let l : Limits = bounds_of w path kids in
      let k : LimitsLie w.entities l = limits_lie w all path kids (none_before (bounds_faults w path kids) (asks path (span_rows l)) h) in
      span_lies w.entities l.low.base l.high.base (value_of l.low) (value_of l.high)
      (not-false (agree l.low.base l.high.base)
      (no_fault path code.F09 (not (agree l.low.base l.high.base)) ((code.F11, is_null l) ∷ []) (none_behind (bounds_faults w path kids) (asks path (span_rows l)) h)))
      k.0 k.1

  no_range : (path : List ℕ) (kids : List Node) → range_of_faults w path kids ≡ [] → ⊥
  no_range path (m ∷ []) h = true≢false (no_fault path code.F08 true [] (none_behind (mark_in_faults w (path ▸ 0) m) (asks path ((code.F08, true) ∷ [])) h))
  no_range path [] h = true≢false (no_fault path code.F08 true [] h)
  no_range path (a ∷ b ∷ ks) h = true≢false (no_fault path code.F08 true [] h)

  -- the index of an array
  index_lies : (path : List ℕ) (d : Node) → index_faults w path d ≡ [] → is_discrete (index_in w path d).base ≡ true → IndexLies w.entities (index_in w path d)
  index_lies path d h i = by (kind_of d) refl
    where
      by : (k : Kind) → kind_of d ≡ k → IndexLies w.entities (index_in w path d)
      by kind.Span e =
          let f : index_faults w path d ≡ span_faults w path (kids_of d) = rw e refl in
          let g : index_in w path d ≡ span_index (bounds_of w path (kids_of d)) = rw e refl in
          subst (λ (x : Index). IndexLies w.entities x) (sym g) (span_index_lies path (kids_of d) (sym f ∙ h))
      by kind.RangeOf e =
          let f : index_faults w path d ≡ range_of_faults w path (kids_of d) = rw e refl in
          absurd (no_range path (kids_of d) (sym f ∙ h))
      by _ e =
          let f : (x : List Fault) → x ≡ mark_in_faults w path d → index_faults w path d ≡ x = λ x q. rw e (sym q) in
          let g : (x : Index) → x ≡ mark_index (mark_in w path d) → index_in w path d ≡ x = λ x q. rw e (sym q) in
          subst (λ (x : Index). IndexLies w.entities x) (sym (g (mark_index (mark_in w path d)) refl))
          (by_mark w all (λ n. is_discrete (mark_index n).base ≡ true → IndexLies w.entities (mark_index n)) (λ s c m. mark_index_lies w.entities s c m) (mark_in w path d) (marks w all path d (sym (f (mark_in_faults w path d) refl) ∙ h))
          (subst (λ (x : Index). is_discrete x.base ≡ true) (g (mark_index (mark_in w path d)) refl) i))

  module _ (more : Declared) (ext : Extends w.entities more) where
    abbrev TypeIsThere : ℕ → ℕ → Defined → Type 0
    TypeIsThere id number d = lookup (nat_eq id) more ≡ Some (entity.Type (first_subtype id number d) d.shape)

    -- the bounds of the type that is defined
    abbrev Bounded : Defined → Type 0
    Bounded d = (id number : ℕ) → TypeIsThere id number d → BoundsLie more (bounds_of_class (class_of_shape d.shape) (first_subtype id number d))

    last_of : (n : ℕ) → pos (suc n) -ℤ pos 1 ≡ pos n
    last_of n = rw (le-ltb (suc n) 1 (omega arith)) (ap pos (omega arith))

    first_and_last : (count : ℕ) (id number : ℕ) → TypeIsThere id number (enumeration (suc count)) → BoundsLie more (bounds_of_class class.Enumeration (first_subtype id number (enumeration (suc count))))
    first_and_last count id number h = (
      subst (λ (o : Option Entity). is_position o (pos 0) ≡ true) (sym h) (and_from (int_le (pos 0) (pos 0)) (int_le (pos 0) (pos (suc count) -ℤ pos 1)) refl (subst (λ (z : ℤ). int_le (pos 0) z ≡ true) (sym (last_of count)) (le-leb 0 count (omega arith)))),
      subst (λ (o : Option Entity). is_position o (pos (suc count) -ℤ pos 1) ≡ true) (sym h)
          (and_from (int_le (pos 0) (pos (suc count) -ℤ pos 1)) (int_le (pos (suc count) -ℤ pos 1) (pos (suc count) -ℤ pos 1)) (subst (λ (z : ℤ). int_le (pos 0) z ≡ true) (sym (last_of count)) (le-leb 0 count (omega arith)))
          (subst (λ (z : ℤ). int_le z z ≡ true) (sym (last_of count)) (le-leb count count (omega arith)))),
    )

    of_members : (kids : List Node) → is_empty (members_of kids) ≡ false → Bounded (enumeration_in kids)
    of_members kids t id number h = by (members_of kids) refl t
      where
        by : (ls : List Node) → members_of kids ≡ ls → is_empty ls ≡ false → BoundsLie more (bounds_of_class class.Enumeration (first_subtype id number (enumeration (length (members_of kids)))))
        by (x ∷ xs) e t =
            subst (λ (n : ℕ). BoundsLie more (bounds_of_class class.Enumeration (first_subtype id number (enumeration n)))) (sym (ap length e))
            (first_and_last (length xs) id number (subst (λ (n : ℕ). TypeIsThere id number (enumeration n)) (ap length e) h))
        by [] e t = absurd (true≢false t)

    of_range : (path : List ℕ) (kids : List Node) → integer_faults w path kids ≡ [] → Bounded (integers (bounds_of w path kids))
    of_range path kids h id number q =
        let l : Limits = bounds_of w path kids in
        let k : LimitsLie w.entities l = limits_lie w all path kids (none_before (bounds_faults w path kids) (asks path (integer_rows l)) h) in
        let o : (is_integer l.low.base && is_integer l.high.base) ≡ true =
        not-false (is_integer l.low.base && is_integer l.high.base)
        (no_fault path code.F09 (not (is_integer l.low.base && is_integer l.high.base)) ((code.F11, is_null l) ∷ []) (none_behind (bounds_faults w path kids) (asks path (integer_rows l)) h)) in
        let p : (is_integer l.low.base ≡ true) × (is_integer l.high.base ≡ true) = and_parts (is_integer l.low.base) (is_integer l.high.base) o in
        (integer_in_base w.entities l.low.base (value_of l.low) p.0 k.0, integer_in_base w.entities l.high.base (value_of l.high) p.1 k.1)

    of_array : (path : List ℕ) (kids : List Node) → array_faults w path kids ≡ [] → Bounded (array_in w path kids)
    of_array path (d ∷ m ∷ []) h id number q =
        let rest : mark_in_faults w (path ▸ 1) m ⊕ asks path (array_rows (index_in w (path ▸ 0) d)) ≡ [] =
        none_behind (index_faults w (path ▸ 0) d) (mark_in_faults w (path ▸ 1) m ⊕ asks path (array_rows (index_in w (path ▸ 0) d))) h in
        let i : Index = index_in w (path ▸ 0) d in
        bounds_grow w.entities more ext (bounds i.base i.low i.high)
        (index_lies (path ▸ 0) d (none_before (index_faults w (path ▸ 0) d) (mark_in_faults w (path ▸ 1) m ⊕ asks path (array_rows (index_in w (path ▸ 0) d))) h)
        (not-false (is_discrete i.base) (no_fault path code.F09 (not (is_discrete i.base)) [] (none_behind (mark_in_faults w (path ▸ 1) m) (asks path (array_rows i)) rest))))
    of_array path [] h id number q = tt
    of_array path (a ∷ []) h id number q = tt
    of_array path (a ∷ b ∷ c ∷ ks) h id number q = tt

    of_record : (path : List ℕ) (kids : List Node) → Bounded (record_in w path kids)
    of_record path (cs ∷ []) id number q = tt
    of_record path [] id number q = tt
    of_record path (a ∷ b ∷ ks) id number q = tt

    pub of_definition : (path : List ℕ) (d : Node) → definition_faults w path d ≡ [] → Bounded (definition_in w path d)
    of_definition path d h = by (kind_of d) refl
      where
        by : (k : Kind) → kind_of d ≡ k → Bounded (definition_in w path d)
        by kind.Enum e =
            let g : definition_in w path d ≡ enumeration_in (kids_of d) = rw e refl in
            let f : definition_faults w path d ≡ enumeration_faults path (kids_of d) = rw e refl in
            subst (λ (x : Defined). Bounded x) (sym g) (of_members (kids_of d) (no_fault path code.F08 (is_empty (members_of (kids_of d))) [] (sym f ∙ h)))
        by kind.Range e =
            let f : definition_faults w path d ≡ integer_faults w path (kids_of d) = rw e refl in
            let g : definition_in w path d ≡ integers (bounds_of w path (kids_of d)) = rw e refl in
            subst (λ (x : Defined). Bounded x) (sym g) (of_range path (kids_of d) (sym f ∙ h))
        by kind.Arr e =
            let f : definition_faults w path d ≡ array_faults w path (kids_of d) = rw e refl in
            let g : definition_in w path d ≡ array_in w path (kids_of d) = rw e refl in
            subst (λ (x : Defined). Bounded x) (sym g) (of_array path (kids_of d) (sym f ∙ h))
        by kind.Rec e =
            let g : definition_in w path d ≡ record_in w path (kids_of d) = rw e refl in
            subst (λ (x : Defined). Bounded x) (sym g) (of_record path (kids_of d))
        by _ e = let g : definition_in w path d ≡ nothing_defined = rw e refl in subst (λ (x : Defined). Bounded x) (sym g) (λ id number q. tt)

    -- ---- the type, and its literals

    class_there : (id number : ℕ) (d : Defined) → predefined id ≡ None → TypeIsThere id number d → class_of more id ≡ class_kept (Some (entity.Type (first_subtype id number d) d.shape))
    class_there id number d p q = class_at_none more id p ∙ ap class_kept q

    pub type_fits : (id number : ℕ) (d : Defined) → predefined id ≡ None → TypeIsThere id number d → Bounded d → Fits w all more ext (entity.Type (first_subtype id number d) d.shape)
    type_fits id number d p q b = record {
      type_is_kept = shape_is_kept more (first_subtype id number d) (first_subtype id number d) d.shape (class_there id number d p q);
      bounds_lie = b id number q;
      value_lies = tt;
    }

    literal_fits : (id number count j : ℕ) → predefined id ≡ None → TypeIsThere id number (enumeration count) → j < count → Fits w all more ext (entity.Static (first_subtype id number (enumeration count)) (pos j))
    literal_fits id number count j p q h =
        let k : class_of more id ≡ class.Enumeration = class_there id number (enumeration count) p q in
        subst (λ (c : Class). NameLies more (named.Static (first_subtype id number (enumeration count)) c (pos j))) (sym k)
        (record { type_is_kept = inr (k, refl); bounds_lie = tt; value_lies = subst (λ (o : Option Entity). is_position o (pos j) ≡ true) (sym q) (within count h) })
      where
        within : (n : ℕ) → j < n → is_within (pos 0) (pos n -ℤ pos 1) (pos j) ≡ true
        within (suc n) h = and_from (int_le (pos 0) (pos j)) (int_le (pos j) (pos (suc n) -ℤ pos 1)) (le-leb 0 j (omega arith)) (subst (λ (z : ℤ). int_le (pos j) z ≡ true) (sym (last_of n)) (le-leb j n (omega arith)))
        within zero h = absurd (omega arith)

    abbrev pub LiteralFits : ℕ → ℕ → Defined → ℕ → Type 0
    LiteralFits id number d j = Fits w all more ext (entity.Static (first_subtype id number d) (pos j))

    members_fit : (id number : ℕ) (kids : List Node) → predefined id ≡ None → TypeIsThere id number (enumeration_in kids) → (j : ℕ) → j < length (members_of kids) → LiteralFits id number (enumeration_in kids) j
    members_fit id number kids p q j h = literal_fits id number (length (members_of kids)) j p q h

    pub literals_fit : (path : List ℕ) (d : Node) (id number : ℕ) → predefined id ≡ None → TypeIsThere id number (definition_in w path d) → (j : ℕ) → j < length (literals_of d) → LiteralFits id number (definition_in w path d) j
    literals_fit path d id number p q j h = by (kind_of d) refl
      where
        none : (j : ℕ) → j < 0 → ⊥
        none j h = omega arith

        by : (k : Kind) → kind_of d ≡ k → LiteralFits id number (definition_in w path d) j
        by kind.Enum e =
            let g : definition_in w path d ≡ enumeration_in (kids_of d) = rw e refl in
            let l : literals_of d ≡ members_of (kids_of d) = rw e refl in
            subst (λ (x : Defined). LiteralFits id number x j) (sym g)
            (members_fit id number (kids_of d) p (subst (λ (x : Defined). TypeIsThere id number x) g q) j (subst (λ (ns : List Node). j < length ns) l h))
        by _ e = let l : literals_of d ≡ [] = rw e refl in absurd (none j (subst (λ (ns : List Node). j < length ns) l h))
