-- What marks, ranges and values without a fault give lies in the ranges of their types.
use Rattle.std.proofs.Common.{◌≡◌, ℕ, ℤ, List, [], ◌∷◌, Bool, true, false, not, Option, Some, None, inl, inr, refl, sym, subst, ◌∙◌}
use Rattle.std.specs.Prelude.{if◌then◌else◌}
use Rattle.std.proofs.lemmas.Bool.{false≢true, true≢false, and_parts, not-false, eqb-true}
use Rattle.base_kit.specs.declared.fault.Code.TheVariants as code
use Rattle.ada_tree.specs.declared.kind.Kind.{Kind}
use Rattle.ada_tree.specs.declared.kind.Kind.TheVariants as kind
use Rattle.ada_tree.specs.declared.node.Node.{Node}
use Rattle.ada_tree.specs.Nodes.{kind_of, kids_of}
use Rattle.ada_tree.specs.Sights.{parts_of}
use Rattle.ada_names.specs.Places.{◌▸◌}
use Rattle.static_values.specs.declared.entity.BaseType.{BaseType}
use Rattle.static_values.specs.declared.entity.BaseType.TheVariants as base
use Rattle.static_values.specs.declared.entity.Class.{Class}
use Rattle.static_values.specs.declared.entity.Class.TheVariants as class
use Rattle.static_values.specs.declared.entity.Subtype.{Subtype}
use Rattle.static_values.specs.declared.entity.Entity.{Entity}
use Rattle.static_values.specs.declared.entity.Entity.TheVariants as entity
use Rattle.static_values.specs.declared.entity.Named.{Named}
use Rattle.static_values.specs.declared.entity.Named.TheVariants as named
use Rattle.static_values.specs.declared.meaning.Meaning.{Meaning}
use Rattle.static_values.specs.declared.meaning.Use.TheVariants as use_of
use Rattle.static_values.specs.Judging.{asks, ◌⊕◌}
use Rattle.static_values.specs.Syntax.{Parts, Expr, expr_of}
use Rattle.static_values.specs.Entities.{Declared, World, class_of, is_private, named_kept}
use Rattle.static_values.specs.Rules.{fits, is_unjudged, base_type, bounds_of_class, value_of, type_of}
use Rattle.static_values.specs.Expressions.{meaning, faults, stands, marked, mark_faults, own_mark_faults, package_faults, sight_faults, is_mark}
use Rattle.static_values.proofs.Firsts.{none_before, none_behind}
use Rattle.static_values.proofs.Statics.{has_value as has_static_value}
use Rattle.type_definitions.specs.declared.definitions.Limits.{Limits}
use Rattle.ada_types.specs.declared.declarations.Constrained.{Constrained}
use Rattle.ada_types.specs.declared.declarations.Initial.{Initial}
use Rattle.type_definitions.specs.Definitions.{bounds_faults, bounds_of, mark_in, mark_in_faults}
use Rattle.ada_types.specs.Declarations.{of_mark, range_faults, range_in, limits_faults, range_rows, bounds_fit, lies_within, narrowed, ranged_faults, value_faults, value_in, is_held_too_often, value_rows, has_value, object_by, constant_by, subtype_by, entity_by}
use Rattle.type_laws.specs.Ranges.{lies_in_type, is_known, ClassIsKept, BoundsLie, NameLies, AllLie}
use Rattle.type_laws.proofs.Meant.{no_fault}
use Rattle.type_laws.proofs.Lying.{seen_lies, lies}
use Rattle.type_laws.proofs.Growing.{Extends, EntityLies, class_grows, lies_grows, bounds_grow, object_bounds, public_class}

judged_class : (c : Class) (id : ℕ) → is_known c ≡ true → is_unjudged (base_type c id) ≡ false
judged_class class.Integer id k = refl
judged_class class.Enumeration id k = refl
judged_class class.Truth id k = refl
judged_class (class.Array index) id k = refl
judged_class class.Record id k = refl
judged_class class.Private id k = refl
judged_class class.Unknown id k = absurd (false≢true k)

judged_private : (c : Class) (id : ℕ) → is_private c ≡ true → is_unjudged (base_type c id) ≡ false
judged_private class.Private id k = refl
judged_private class.Integer id k = absurd (false≢true k)
judged_private class.Enumeration id k = absurd (false≢true k)
judged_private class.Truth id k = absurd (false≢true k)
judged_private (class.Array index) id k = absurd (false≢true k)
judged_private class.Record id k = absurd (false≢true k)
judged_private class.Unknown id k = absurd (false≢true k)

judged_kept : (es : Declared) (s : Subtype) (c : Class) → ClassIsKept es s c → is_unjudged (base_type c s.base) ≡ false
judged_kept es s c (inl p) = judged_private c s.base p
judged_kept es s c (inr k) = judged_class c s.base k.1

module _ (es : Declared) where
  -- a value lies in the range of each type that its own fits
  pub fits_lies : (a b : BaseType) (v : ℤ) → is_unjudged b ≡ false → fits a b ≡ true → lies_in_type es a v ≡ true → lies_in_type es b v ≡ true
  fits_lies base.Universal base.Universal v k f h = h
  fits_lies base.Universal (base.Integer m) v k f h = h
  fits_lies base.Universal (base.Enumeration m) v k f h = absurd (false≢true f)
  fits_lies base.Universal (base.Composite m) v k f h = absurd (false≢true f)
  fits_lies base.Universal base.Truth v k f h = absurd (false≢true f)
  fits_lies base.Universal base.Unjudged v k f h = absurd (true≢false k)
  fits_lies (base.Integer n) (base.Integer m) v k f h = h
  fits_lies (base.Integer n) base.Universal v k f h = absurd (false≢true f)
  fits_lies (base.Integer n) (base.Enumeration m) v k f h = absurd (false≢true f)
  fits_lies (base.Integer n) (base.Composite m) v k f h = absurd (false≢true f)
  fits_lies (base.Integer n) base.Truth v k f h = absurd (false≢true f)
  fits_lies (base.Integer n) base.Unjudged v k f h = absurd (true≢false k)
  fits_lies (base.Enumeration n) (base.Enumeration m) v k f h = subst (λ (i : ℕ). lies_in_type es (base.Enumeration i) v ≡ true) (eqb-true n m f) h
  fits_lies (base.Enumeration n) base.Universal v k f h = absurd (false≢true f)
  fits_lies (base.Enumeration n) (base.Integer m) v k f h = absurd (false≢true f)
  fits_lies (base.Enumeration n) (base.Composite m) v k f h = absurd (false≢true f)
  fits_lies (base.Enumeration n) base.Truth v k f h = absurd (false≢true f)
  fits_lies (base.Enumeration n) base.Unjudged v k f h = absurd (true≢false k)
  fits_lies base.Truth base.Truth v k f h = h
  fits_lies base.Truth base.Universal v k f h = absurd (false≢true f)
  fits_lies base.Truth (base.Integer m) v k f h = absurd (false≢true f)
  fits_lies base.Truth (base.Enumeration m) v k f h = absurd (false≢true f)
  fits_lies base.Truth (base.Composite m) v k f h = absurd (false≢true f)
  fits_lies base.Truth base.Unjudged v k f h = absurd (true≢false k)
  fits_lies (base.Composite n) b v k f h = absurd (false≢true h)
  fits_lies base.Unjudged b v k f h = absurd (false≢true h)

  abbrev pub LimitsLie : Limits → Type 0
  LimitsLie l = (lies_in_type es l.low.base (value_of l.low) ≡ true) × (lies_in_type es l.high.base (value_of l.high) ≡ true)

  -- bounds of the type that a range has
  narrowed_lie : (s : Subtype) (c : Class) (l : Limits) → BoundsLie es (bounds_of_class c s) → bounds_fit (base_type c s.base) l ≡ true → LimitsLie l
      → BoundsLie es (bounds_of_class c (narrowed s l))
  narrowed_lie s class.Integer l b f h =
      let p : (fits l.low.base (base.Integer s.base) ≡ true) × (fits l.high.base (base.Integer s.base) ≡ true) = and_parts (fits l.low.base (base.Integer s.base)) (fits l.high.base (base.Integer s.base)) f in
      (fits_lies l.low.base (base.Integer s.base) (value_of l.low) refl p.0 h.0, fits_lies l.high.base (base.Integer s.base) (value_of l.high) refl p.1 h.1)
  narrowed_lie s class.Enumeration l b f h =
      let p : (fits l.low.base (base.Enumeration s.base) ≡ true) × (fits l.high.base (base.Enumeration s.base) ≡ true) = and_parts (fits l.low.base (base.Enumeration s.base)) (fits l.high.base (base.Enumeration s.base)) f in
      (fits_lies l.low.base (base.Enumeration s.base) (value_of l.low) refl p.0 h.0, fits_lies l.high.base (base.Enumeration s.base) (value_of l.high) refl p.1 h.1)
  narrowed_lie s class.Truth l b f h = tt
  narrowed_lie s (class.Array index) l b f h = b
  narrowed_lie s class.Record l b f h = tt
  narrowed_lie s class.Private l b f h = tt
  narrowed_lie s class.Unknown l b f h = tt

module _ (w : World) (all : AllLie w.entities) where
  -- ---- marks

  abbrev pub Marked : Named → Type 0
  Marked n = (is_mark n ≡ true) × NameLies w.entities n

  own_mark : (path : List ℕ) (parts : Parts) → own_mark_faults w path parts ≡ [] → is_mark (stands w parts path) ≡ true
  own_mark path parts h =
      not-false (is_mark (stands w parts path))
      (no_fault path code.F08 (not (is_mark (stands w parts path))) [] (none_behind (sight_faults (w.sees parts path) path) (asks path ((code.F08, not (is_mark (stands w parts path))) ∷ [])) h))

  of_parts : (path : List ℕ) (parts : Parts) → mark_faults w path parts ≡ [] → Marked (marked w path parts)
  of_parts path (x ∷ []) h = (own_mark path (x ∷ []) h, seen_lies w all (w.sees (x ∷ []) path))
  of_parts path (p ∷ x ∷ []) h = (own_mark path (p ∷ x ∷ []) (none_behind (package_faults w (path ▸ 0) (p ∷ [])) (own_mark_faults w path (p ∷ x ∷ [])) h), seen_lies w all (w.sees (p ∷ x ∷ []) path))
  of_parts path [] h = cc
  of_parts path (p ∷ x ∷ y ∷ ys) h = cc

  pub marks : (path : List ℕ) (node : Node) → mark_in_faults w path node ≡ [] → Marked (mark_in w path node)
  marks path node h = of_parts path (parts_of node) h

  pub by_mark : (P : Named → Type 0) → ((s : Subtype) (c : Class) → NameLies w.entities (named.Mark s c) → P (named.Mark s c)) → (n : Named) → Marked n → P n
  by_mark P f (named.Mark s c) m = f s c m.1
  by_mark P f (named.Object s c) m = absurd (false≢true m.0)
  by_mark P f (named.Static s c v) m = absurd (false≢true m.0)
  by_mark P f (named.Number v) m = absurd (false≢true m.0)
  by_mark P f named.Valueless m = absurd (false≢true m.0)
  by_mark P f (named.Part b) m = absurd (false≢true m.0)
  by_mark P f named.Unkept m = absurd (false≢true m.0)

  pub judged_mark : (n : Named) → Marked n → is_unjudged (type_of n) ≡ false
  judged_mark n m = by_mark (λ x. is_unjudged (type_of x) ≡ false) (λ s c k. judged_kept w.entities s c k.type_is_kept) n m

  -- ---- bounds and ranges

  limit_lies : (path : List ℕ) (e : Expr) → faults w use_of.Static path e ≡ [] → lies_in_type w.entities (meaning w path e).base (value_of (meaning w path e)) ≡ true
  limit_lies path e h = lies w all use_of.Static path e h (value_of (meaning w path e)) (has_static_value w path e h)

  pub limits_lie : (path : List ℕ) (kids : List Node) → bounds_faults w path kids ≡ [] → LimitsLie w.entities (bounds_of w path kids)
  limits_lie path (a ∷ b ∷ []) h = (
    limit_lies (path ▸ 0) (expr_of a) (none_before (faults w use_of.Static (path ▸ 0) (expr_of a)) (faults w use_of.Static (path ▸ 1) (expr_of b)) h),
    limit_lies (path ▸ 1) (expr_of b) (none_behind (faults w use_of.Static (path ▸ 0) (expr_of a)) (faults w use_of.Static (path ▸ 1) (expr_of b)) h),
  )
  limits_lie path [] h = absurd (true≢false (no_fault path code.F08 true [] h))
  limits_lie path (a ∷ []) h = absurd (true≢false (no_fault path code.F08 true [] h))
  limits_lie path (a ∷ b ∷ c ∷ ks) h = absurd (true≢false (no_fault path code.F08 true [] h))

  pub range_base : (at : List ℕ) (s : Subtype) (r : Node) → (range_in w at s r).base ≡ s.base
  range_base at s r = by (kind_of r) refl
    where
      by : (k : Kind) → kind_of r ≡ k → (range_in w at s r).base ≡ s.base
      by kind.Range e = rw e refl
      by _ e = rw e refl

  pub range_lies : (at : List ℕ) (s : Subtype) (c : Class) (r : Node) → NameLies w.entities (named.Mark s c) → range_faults w at (of_mark (named.Mark s c)) r ≡ []
      → BoundsLie w.entities (bounds_of_class c (range_in w at s r))
  range_lies at s c r m h = by (kind_of r) refl h
    where
      by : (k : Kind) → kind_of r ≡ k → range_faults w at (of_mark (named.Mark s c)) r ≡ [] → BoundsLie w.entities (bounds_of_class c (range_in w at s r))
      by kind.Range e h =
          let f : range_faults w at (of_mark (named.Mark s c)) r ≡ limits_faults w at (of_mark (named.Mark s c)) (kids_of r) = rw e refl in
          let g : limits_faults w at (of_mark (named.Mark s c)) (kids_of r) ≡ [] = sym f ∙ h in
          let l : Limits = bounds_of w at (kids_of r) in
          let i : range_in w at s r ≡ narrowed s l = rw e refl in
          let o : bounds_fit (base_type c s.base) l ≡ true =
          not-false (bounds_fit (base_type c s.base) l)
          (no_fault at code.F09 (not (bounds_fit (base_type c s.base) l)) ((code.F11, not (lies_within s l)) ∷ []) (none_behind (bounds_faults w at (kids_of r)) (asks at (range_rows (of_mark (named.Mark s c)) l)) g)) in
          subst (λ (x : Subtype). BoundsLie w.entities (bounds_of_class c x)) (sym i)
          (narrowed_lie w.entities s c l m.bounds_lie o
          (limits_lie at (kids_of r) (none_before (bounds_faults w at (kids_of r)) (asks at (range_rows (of_mark (named.Mark s c)) l)) g)))
      by _ e h = let i : range_in w at s r ≡ s = rw e refl in subst (λ (x : Subtype). BoundsLie w.entities (bounds_of_class c x)) (sym i) m.bounds_lie

  -- ---- initial values

  pub values : (i : Initial) (path : List ℕ) (v : Node) → is_unjudged i.made.base ≡ false → value_faults w i path v ≡ [] → (x : ℤ) → value_in w path v ≡ Some x → lies_in_type w.entities i.made.base x ≡ true
  values i path v j h x k = by (has_value w v) h k
    where
      by : (t : Bool) → (if t then faults w i.usage (path ▸ 3) (expr_of v) ⊕ asks path (value_rows i (meaning w (path ▸ 3) (expr_of v)) v) else []) ≡ [] → (if t then (meaning w (path ▸ 3) (expr_of v)).value else None) ≡ Some x
          → lies_in_type w.entities i.made.base x ≡ true
      by true h k =
          let m : Meaning = meaning w (path ▸ 3) (expr_of v) in
          let own : asks path (value_rows i m v) ≡ [] = none_behind (faults w i.usage (path ▸ 3) (expr_of v)) (asks path (value_rows i m v)) h in
          fits_lies w.entities m.base i.made.base x j
          (not-false (fits m.base i.made.base) (no_fault path code.F09 (not (fits m.base i.made.base)) ((code.F11, is_held_too_often i.times v) ∷ []) own))
          (lies w all i.usage (path ▸ 3) (expr_of v) (none_before (faults w i.usage (path ▸ 3) (expr_of v)) (asks path (value_rows i m v)) h) x k)
      by false h k = cc

  -- ---- what names declare, of a mark's type

  module _ (more : Declared) (ext : Extends w.entities more) where
    abbrev pub Fits : Entity → Type 0
    Fits e = NameLies more (named_kept more (Some e))

    class_of_mark : (s : Subtype) (c : Class) → NameLies w.entities (named.Mark s c) → is_private c ≡ false → (r : Subtype) → r.base ≡ s.base → class_of more r.base ≡ c
    class_of_mark s c m p r e =
        let k : (class_of w.entities s.base ≡ c) × (is_known c ≡ true) = public_class w.entities s c m.type_is_kept p in
        subst (λ (b : ℕ). class_of more b ≡ c) (sym e) (class_grows w.entities more ext s.base c k.0 k.1)

    mark_is_kept : (s : Subtype) (c : Class) → NameLies w.entities (named.Mark s c) → is_private c ≡ false → (r : Subtype) → r.base ≡ s.base → ClassIsKept more r c
    mark_is_kept s c m p r e = inr (class_of_mark s c m p r e, (public_class w.entities s c m.type_is_kept p).1)

    object_fits : (s : Subtype) (c : Class) → NameLies w.entities (named.Mark s c) → is_private c ≡ false → (r : Subtype) → r.base ≡ s.base → Fits (entity.Object r)
    object_fits s c m p r e =
        subst (λ (x : Class). NameLies more (named.Object r x)) (sym (class_of_mark s c m p r e))
        (record {
          type_is_kept = mark_is_kept s c m p r e;
          bounds_lie = object_bounds more c s (bounds_grow w.entities more ext (bounds_of_class c s) m.bounds_lie);
          value_lies = tt;
        })

    static_fits : (s : Subtype) (c : Class) → NameLies w.entities (named.Mark s c) → is_private c ≡ false → (r : Subtype) → r.base ≡ s.base → (v : ℤ) → lies_in_type w.entities (base_type c s.base) v ≡ true → Fits (entity.Static r v)
    static_fits s c m p r e v h =
        subst (λ (x : Class). NameLies more (named.Static r x v)) (sym (class_of_mark s c m p r e))
        (record {
          type_is_kept = mark_is_kept s c m p r e;
          bounds_lie = tt;
          value_lies = subst (λ (b : ℕ). lies_in_type more (base_type c b) v ≡ true) (sym e) (lies_grows w.entities more ext (base_type c s.base) v h);
        })

    subtype_fits : (s : Subtype) (c : Class) → NameLies w.entities (named.Mark s c) → is_private c ≡ false → (r : Subtype) → r.base ≡ s.base → BoundsLie w.entities (bounds_of_class c r) → Fits (entity.Subtype r)
    subtype_fits s c m p r e b =
        subst (λ (x : Class). NameLies more (named.Mark r x)) (sym (class_of_mark s c m p r e))
        (record { type_is_kept = mark_is_kept s c m p r e; bounds_lie = bounds_grow w.entities more ext (bounds_of_class c r) b; value_lies = tt })

    -- no value is of a private type
    private_has_none : (c : Class) (id : ℕ) (v : ℤ) → is_private c ≡ true → lies_in_type w.entities (base_type c id) v ≡ true → ⊥
    private_has_none class.Private id v p h = false≢true h
    private_has_none class.Integer id v p h = false≢true p
    private_has_none class.Enumeration id v p h = false≢true p
    private_has_none class.Truth id v p h = false≢true p
    private_has_none (class.Array index) id v p h = false≢true p
    private_has_none class.Record id v p h = false≢true p
    private_has_none class.Unknown id v p h = false≢true p

    abbrev pub of : Subtype → BaseType → Class → Constrained
    of r b c = record { subtype = r; base = b; class = c }

    pub object_fits_by : (s : Subtype) (c : Class) → NameLies w.entities (named.Mark s c) → (r : Subtype) → r.base ≡ s.base → (b : BaseType) (j : ℕ) → EntityLies more (entity_by (object_by (of r b c)) j)
    object_fits_by s c m r e b j = by (is_private c) refl
      where
        by : (t : Bool) → is_private c ≡ t → EntityLies more (entity_by (object_by (of r b c)) j)
        by true p = rw p tt
        by false p = rw p (object_fits s c m p r e)

    pub constant_fits : (s : Subtype) (c : Class) → NameLies w.entities (named.Mark s c) → (r : Subtype) → r.base ≡ s.base → (b : BaseType) (o : Option ℤ) → ((v : ℤ) → o ≡ Some v → lies_in_type w.entities (base_type c s.base) v ≡ true)
        → (j : ℕ) → EntityLies more (entity_by (constant_by (of r b c) o) j)
    constant_fits s c m r e b (Some v) f j = by (is_private c) refl
      where
        by : (t : Bool) → is_private c ≡ t → Fits (entity.Static r v)
        by true p = absurd (private_has_none c s.base v p (f v refl))
        by false p = static_fits s c m p r e v (f v refl)
    constant_fits s c m r e b None f j = object_fits_by s c m r e b j

    pub subtype_fits_by : (s : Subtype) (c : Class) → NameLies w.entities (named.Mark s c) → (r : Subtype) → r.base ≡ s.base → (b : BaseType) (number : ℕ) → BoundsLie w.entities (bounds_of_class c (record r { entry = number }))
        → EntityLies more (subtype_by (of r b c) number)
    subtype_fits_by s c m r e b number h = by (is_private c) refl
      where
        by : (t : Bool) → is_private c ≡ t → EntityLies more (subtype_by (of r b c) number)
        by true p = rw p tt
        by false p = rw p (subtype_fits s c m p (record r { entry = number }) e h)

-- the mark before a range has no fault where both have none
pub ranged_mark : (w : World) (path at : List ℕ) (m r : Node) → ranged_faults w path at m r ≡ [] → mark_in_faults w path m ≡ []
unfolding ranged_faults
ranged_mark w path at m r h = none_before (mark_in_faults w path m) (range_faults w at (of_mark (mark_in w path m)) r) h

pub ranged_range : (w : World) (path at : List ℕ) (m r : Node) → ranged_faults w path at m r ≡ [] → range_faults w at (of_mark (mark_in w path m)) r ≡ []
unfolding ranged_faults
ranged_range w path at m r h = none_behind (mark_in_faults w path m) (range_faults w at (of_mark (mark_in w path m)) r) h
