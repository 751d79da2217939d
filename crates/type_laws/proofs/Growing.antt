-- What lies in its type's range still does when more is kept, under new numbers.
use Rattle.std.proofs.Common.{◌≡◌, ◌⊎◌, inl, inr, ℕ, ℤ, zero, suc, [], ◌∷◌, Bool, true, false, Option, Some, None, is_none, refl, sym, ap, subst, ◌∙◌, nat_eq}
use Rattle.std.specs.Map.{lookup}
use Rattle.std.proofs.lemmas.Bool.{false≢true, true≢false, eqb-true, and_parts}
use Rattle.indexmap.specs.IndexMap.{insert_all}
use Rattle.static_values.specs.declared.entity.BaseType.{BaseType}
use Rattle.static_values.specs.declared.entity.BaseType.TheVariants as base
use Rattle.static_values.specs.declared.entity.Class.{Class}
use Rattle.static_values.specs.declared.entity.Class.TheVariants as class
use Rattle.static_values.specs.declared.entity.Shape.{Shape}
use Rattle.static_values.specs.declared.entity.Shape.TheVariants as shape
use Rattle.static_values.specs.declared.entity.Subtype.{Subtype}
use Rattle.static_values.specs.declared.entity.Entity.{Entity}
use Rattle.static_values.specs.declared.entity.Entity.TheVariants as entity
use Rattle.static_values.specs.declared.entity.Named.{Named}
use Rattle.static_values.specs.declared.entity.Named.TheVariants as named
use Rattle.static_values.specs.Entities.{Declared, predefined, class_named, class_kept, class_of, class_of_shape, mark_kept, mark_of, as_object, as_subtype, is_private, may_take, is_new, named_kept, named_of}
use Rattle.static_values.specs.Rules.{Bounds, bounds, without, unjudged, bounds_of, bounds_of_class, bounds_of_object, base_type}
use Rattle.ada_types.specs.Declarations.{is_private_kept, are_new}
use Rattle.type_laws.specs.Ranges.{is_position, lies_in_type, is_known, ClassIsKept, BoundsLie, NameLies, AllLie}
use Rattle.type_laws.proofs.Lookups.{Each, all_stay, found}

pub class_at_some : (es : Declared) (id : ℕ) (n : Named) → predefined id ≡ Some n → class_of es id ≡ class_named n
class_at_some es id n h = rw h refl

pub class_at_none : (es : Declared) (id : ℕ) → predefined id ≡ None → class_of es id ≡ class_kept (lookup (nat_eq id) es)
class_at_none es id h = rw h refl

named_at_some : (es : Declared) (id : ℕ) (n : Named) → predefined id ≡ Some n → named_of es id ≡ n
named_at_some es id n h = rw h refl

named_at_none : (es : Declared) (id : ℕ) → predefined id ≡ None → named_of es id ≡ named_kept es (lookup (nat_eq id) es)
named_at_none es id h = rw h refl

pub nothing_lies : (es : Declared) → NameLies es named.Unkept
nothing_lies es = record { type_is_kept = tt; bounds_lie = tt; value_lies = tt }

mark_at_some : (es : Declared) (id : ℕ) (n : Named) → predefined id ≡ Some n → mark_of es id ≡ n
mark_at_some es id n h = rw h refl

mark_at_none : (es : Declared) (id : ℕ) → predefined id ≡ None → mark_of es id ≡ mark_kept (lookup (nat_eq id) es)
mark_at_none es id h = rw h refl

-- ---- private types

-- that of a kept name's type isn't private
abbrev private_name : Option Named → Bool
private_name (Some n) = is_private (class_named n)
private_name None = false

predefined_public : (id : ℕ) → private_name (predefined id) ≡ false
predefined_public zero = refl
predefined_public (suc zero) = refl
predefined_public (suc (suc zero)) = refl
predefined_public (suc (suc (suc zero))) = refl
predefined_public (suc (suc (suc (suc zero)))) = refl
predefined_public (suc (suc (suc (suc (suc zero))))) = refl
predefined_public (suc (suc (suc (suc (suc (suc zero)))))) = refl
predefined_public (suc (suc (suc (suc (suc (suc (suc zero))))))) = refl
predefined_public (suc (suc (suc (suc (suc (suc (suc (suc zero)))))))) = refl
predefined_public (suc (suc (suc (suc (suc (suc (suc (suc (suc n))))))))) = refl

shape_public : (s : Subtype) (sh : Shape) → is_private (class_kept (Some (entity.Type s sh))) ≡ false
shape_public s shape.Integer = refl
shape_public s shape.Enumeration = refl
shape_public s shape.Truth = refl
shape_public s (shape.Array i e) = refl
shape_public s (shape.Record cs) = refl
shape_public s shape.Private = refl

kept_public : (o : Option Entity) → is_private (class_kept o) ≡ false
kept_public (Some (entity.Type s sh)) = shape_public s sh
kept_public (Some (entity.Subtype s)) = refl
kept_public (Some (entity.Object s)) = refl
kept_public (Some (entity.PrivateSubtype id n)) = refl
kept_public (Some (entity.PrivateObject id)) = refl
kept_public (Some (entity.Static s v)) = refl
kept_public (Some (entity.Number v)) = refl
kept_public (Some entity.Exception) = refl
kept_public None = refl

class_public : (es : Declared) (id : ℕ) → is_private (class_of es id) ≡ false
class_public es id = by (predefined id) refl
  where
    by : (o : Option Named) → predefined id ≡ o → is_private (class_of es id) ≡ false
    by (Some n) p =
        subst (λ (c : Class). is_private c ≡ false) (sym (class_at_some es id n p)) (subst (λ (o : Option Named). private_name o ≡ false) p (predefined_public id))
    by None p = subst (λ (c : Class). is_private c ≡ false) (sym (class_at_none es id p)) (kept_public (lookup (nat_eq id) es))

-- the class of what isn't private is kept
pub public_class : (es : Declared) (s : Subtype) (c : Class) → ClassIsKept es s c → is_private c ≡ false → (class_of es s.base ≡ c) × (is_known c ≡ true)
public_class es s c (inl p) q = absurd (true≢false (sym p ∙ q))
public_class es s c (inr k) q = k

-- ---- what is the same of a type and of what has all its values

-- the entry of a subtype is none of its bounds
pub with_entry : (es : Declared) (c : Class) (s : Subtype) (n : ℕ) → BoundsLie es (bounds_of_class c s) → BoundsLie es (bounds_of_class c (record s { entry = n }))
with_entry es class.Integer s n h = h
with_entry es class.Enumeration s n h = h
with_entry es class.Truth s n h = tt
with_entry es (class.Array index) s n h = h
with_entry es class.Record s n h = tt
with_entry es class.Private s n h = tt
with_entry es class.Unknown s n h = tt

pub object_bounds : (es : Declared) (c : Class) (s : Subtype) → BoundsLie es (bounds_of_class c s) → BoundsLie es (bounds_of_object c)
object_bounds es class.Integer s h = tt
object_bounds es class.Enumeration s h = tt
object_bounds es class.Truth s h = tt
object_bounds es (class.Array index) s h = h
object_bounds es class.Record s h = tt
object_bounds es class.Private s h = tt
object_bounds es class.Unknown s h = tt

subtype_lies : (es : Declared) (number : ℕ) (n : Named) → NameLies es n → NameLies es (as_subtype number n)
subtype_lies es number (named.Mark s c) h = record { type_is_kept = h.type_is_kept; bounds_lie = with_entry es c s number h.bounds_lie; value_lies = tt }
subtype_lies es number (named.Object s c) h = nothing_lies es
subtype_lies es number (named.Static s c v) h = nothing_lies es
subtype_lies es number (named.Number v) h = nothing_lies es
subtype_lies es number (named.Part b) h = nothing_lies es
subtype_lies es number named.Valueless h = nothing_lies es
subtype_lies es number named.Unkept h = nothing_lies es

object_lies : (es : Declared) (n : Named) → NameLies es n → NameLies es (as_object n)
object_lies es (named.Mark s c) h = record { type_is_kept = h.type_is_kept; bounds_lie = object_bounds es c s h.bounds_lie; value_lies = tt }
object_lies es (named.Object s c) h = nothing_lies es
object_lies es (named.Static s c v) h = nothing_lies es
object_lies es (named.Number v) h = nothing_lies es
object_lies es (named.Part b) h = nothing_lies es
object_lies es named.Valueless h = nothing_lies es
object_lies es named.Unkept h = nothing_lies es

-- ---- more that is kept

-- what is no private type stays
abbrev pub Extends : Declared → Declared → Type 0
Extends es more = (id : ℕ) (e : Entity) → lookup (nat_eq id) es ≡ Some e → is_private_kept (Some e) ≡ false → lookup (nat_eq id) more ≡ Some e

-- What is to be shown of what is added: of what has all values of a private type, nothing.
abbrev pub EntityLies : Declared → Entity → Type 0
EntityLies es (entity.PrivateSubtype id n) = Unit {0}
EntityLies es (entity.PrivateObject id) = Unit {0}
EntityLies es (entity.Type s sh) = NameLies es (named_kept es (Some (entity.Type s sh)))
EntityLies es (entity.Subtype s) = NameLies es (named_kept es (Some (entity.Subtype s)))
EntityLies es (entity.Object s) = NameLies es (named_kept es (Some (entity.Object s)))
EntityLies es (entity.Static s v) = NameLies es (named_kept es (Some (entity.Static s v)))
EntityLies es (entity.Number v) = Unit {0}
EntityLies es entity.Exception = Unit {0}

module _ (es more : Declared) (ext : Extends es more) where
  type_position : (id : ℕ) (v : ℤ) (s : Subtype) (sh : Shape) → lookup (nat_eq id) es ≡ Some (entity.Type s sh) → is_position (Some (entity.Type s sh)) v ≡ true → is_position (lookup (nat_eq id) more) v ≡ true
  type_position id v s shape.Enumeration e h = subst (λ (o : Option Entity). is_position o v ≡ true) (sym (ext id (entity.Type s shape.Enumeration) e refl)) h
  type_position id v s shape.Integer e h = absurd (false≢true h)
  type_position id v s shape.Truth e h = absurd (false≢true h)
  type_position id v s (shape.Array i x) e h = absurd (false≢true h)
  type_position id v s (shape.Record cs) e h = absurd (false≢true h)
  type_position id v s shape.Private e h = absurd (false≢true h)

  position_grows : (id : ℕ) (v : ℤ) (o : Option Entity) → lookup (nat_eq id) es ≡ o → is_position o v ≡ true → is_position (lookup (nat_eq id) more) v ≡ true
  position_grows id v (Some (entity.Type s sh)) e h = type_position id v s sh e h
  position_grows id v (Some (entity.Subtype s)) e h = absurd (false≢true h)
  position_grows id v (Some (entity.Object s)) e h = absurd (false≢true h)
  position_grows id v (Some (entity.PrivateSubtype b n)) e h = absurd (false≢true h)
  position_grows id v (Some (entity.PrivateObject b)) e h = absurd (false≢true h)
  position_grows id v (Some (entity.Static s u)) e h = absurd (false≢true h)
  position_grows id v (Some (entity.Number u)) e h = absurd (false≢true h)
  position_grows id v (Some entity.Exception) e h = absurd (false≢true h)
  position_grows id v None e h = absurd (false≢true h)

  pub lies_grows : (b : BaseType) (v : ℤ) → lies_in_type es b v ≡ true → lies_in_type more b v ≡ true
  lies_grows base.Universal v h = h
  lies_grows (base.Integer id) v h = h
  lies_grows (base.Enumeration id) v h = position_grows id v (lookup (nat_eq id) es) refl h
  lies_grows base.Truth v h = h
  lies_grows (base.Composite id) v h = absurd (false≢true h)
  lies_grows base.Unjudged v h = absurd (false≢true h)

  pub bounds_grow : (b : Bounds) → BoundsLie es b → BoundsLie more b
  bounds_grow (bounds b low high) h = (lies_grows b low h.0, lies_grows b high h.1)
  bounds_grow without h = tt
  bounds_grow unjudged h = tt

  -- what has a known class is no private type
  known_stays : (o : Option Entity) → is_known (class_kept o) ≡ true → is_private_kept o ≡ false
  known_stays (Some (entity.Type s shape.Private)) k = absurd (false≢true k)
  known_stays (Some (entity.Type s shape.Integer)) k = refl
  known_stays (Some (entity.Type s shape.Enumeration)) k = refl
  known_stays (Some (entity.Type s shape.Truth)) k = refl
  known_stays (Some (entity.Type s (shape.Array i e))) k = refl
  known_stays (Some (entity.Type s (shape.Record cs))) k = refl
  known_stays (Some (entity.Subtype s)) k = refl
  known_stays (Some (entity.Object s)) k = refl
  known_stays (Some (entity.PrivateSubtype b n)) k = refl
  known_stays (Some (entity.PrivateObject b)) k = refl
  known_stays (Some (entity.Static s v)) k = refl
  known_stays (Some (entity.Number v)) k = refl
  known_stays (Some entity.Exception) k = refl
  known_stays None k = refl

  kept_grows : (id : ℕ) (c : Class) (o : Option Entity) → predefined id ≡ None → lookup (nat_eq id) es ≡ o → class_kept o ≡ c → is_known c ≡ true → class_of more id ≡ c
  kept_grows id c (Some e) p q r k =
      class_at_none more id p ∙ (ap class_kept (ext id e q (known_stays (Some e) (subst (λ (x : Class). is_known x ≡ true) (sym r) k))) ∙ r)
  kept_grows id c None p q r k = absurd (false≢true (subst (λ (x : Class). is_known x ≡ true) (sym r) k))

  pub class_grows : (id : ℕ) (c : Class) → class_of es id ≡ c → is_known c ≡ true → class_of more id ≡ c
  class_grows id c h k = by (predefined id) refl
    where
      by : (o : Option Named) → predefined id ≡ o → class_of more id ≡ c
      by (Some n) p = class_at_some more id n p ∙ (sym (class_at_some es id n p) ∙ h)
      by None p = kept_grows id c (lookup (nat_eq id) es) p refl (sym (class_at_none es id p) ∙ h) k

  kept : (s : Subtype) (c : Class) → ClassIsKept es s c → ClassIsKept more s c
  kept s c (inl p) = inl p
  kept s c (inr h) = inr (class_grows s.base c h.0 h.1, h.1)

  pub name_grows : (n : Named) → NameLies es n → NameLies more n
  name_grows (named.Mark s c) h = record { type_is_kept = kept s c h.type_is_kept; bounds_lie = bounds_grow (bounds_of (named.Mark s c)) h.bounds_lie; value_lies = tt }
  name_grows (named.Object s c) h = record { type_is_kept = kept s c h.type_is_kept; bounds_lie = bounds_grow (bounds_of (named.Object s c)) h.bounds_lie; value_lies = tt }
  name_grows (named.Static s c v) h = record { type_is_kept = kept s c h.type_is_kept; bounds_lie = tt; value_lies = lies_grows (base_type c s.base) v h.value_lies }
  name_grows (named.Number v) h = record { type_is_kept = tt; bounds_lie = tt; value_lies = tt }
  name_grows named.Valueless h = record { type_is_kept = tt; bounds_lie = tt; value_lies = tt }
  name_grows (named.Part b) h = record { type_is_kept = tt; bounds_lie = tt; value_lies = tt }
  name_grows named.Unkept h = record { type_is_kept = tt; bounds_lie = tt; value_lies = tt }

  -- the class of a kept name's type is what it was
  again : (P : Class → Named) (s : Subtype) → ClassIsKept es s (class_of es s.base) → NameLies es (P (class_of es s.base)) → NameLies more (P (class_of more s.base))
  again P s k h =
      subst (λ (c : Class). NameLies more (P c)) (sym (class_grows s.base (class_of es s.base) refl (public_class es s (class_of es s.base) k (class_public es s.base)).1))
      (name_grows (P (class_of es s.base)) h)

  -- ---- whole lists

  -- what is kept, but for what has all values of a private type
  entity_grows : (e : Entity) → NameLies es (named_kept es (Some e)) → EntityLies more e
  entity_grows (entity.Type s sh) h = name_grows (named.Mark s (class_of_shape sh)) h
  entity_grows (entity.Subtype s) h = again (λ c. named.Mark s c) s h.type_is_kept h
  entity_grows (entity.Object s) h = again (λ c. named.Object s c) s h.type_is_kept h
  entity_grows (entity.Static s v) h = again (λ c. named.Static s c v) s h.type_is_kept h
  entity_grows (entity.PrivateSubtype id n) h = tt
  entity_grows (entity.PrivateObject id) h = tt
  entity_grows (entity.Number v) h = tt
  entity_grows entity.Exception h = tt

  module _ (all : AllLie es) (each : (id : ℕ) (e : Entity) → lookup (nat_eq id) more ≡ Some e → (lookup (nat_eq id) es ≡ Some e) ⊎ EntityLies more e) where
    predefined_lies : (id : ℕ) (n : Named) → predefined id ≡ Some n → NameLies more n
    predefined_lies id n p = name_grows n (subst (λ (x : Named). NameLies es x) (named_at_some es id n p) (all id))

    entity_lies : (id : ℕ) (e : Entity) → predefined id ≡ None → lookup (nat_eq id) more ≡ Some e → EntityLies more e
    entity_lies id e p q = by (each id e q)
      where
        by : (lookup (nat_eq id) es ≡ Some e) ⊎ EntityLies more e → EntityLies more e
        by (inl old) = entity_grows e (subst (λ (n : Named). NameLies es n) (named_at_none es id p ∙ ap (named_kept es) old) (all id))
        by (inr new) = new

    type_lies : (id : ℕ) (o : Option Entity) → predefined id ≡ None → lookup (nat_eq id) more ≡ o → NameLies more (mark_kept o)
    type_lies id (Some (entity.Type s sh)) p q = entity_lies id (entity.Type s sh) p q
    type_lies id (Some (entity.Subtype s)) p q = nothing_lies more
    type_lies id (Some (entity.Object s)) p q = nothing_lies more
    type_lies id (Some (entity.PrivateSubtype b n)) p q = nothing_lies more
    type_lies id (Some (entity.PrivateObject b)) p q = nothing_lies more
    type_lies id (Some (entity.Static s v)) p q = nothing_lies more
    type_lies id (Some (entity.Number v)) p q = nothing_lies more
    type_lies id (Some entity.Exception) p q = nothing_lies more
    type_lies id None p q = nothing_lies more

    mark_lies : (id : ℕ) → NameLies more (mark_of more id)
    mark_lies id = by (predefined id) refl
      where
        by : (o : Option Named) → predefined id ≡ o → NameLies more (mark_of more id)
        by (Some n) p = subst (λ (x : Named). NameLies more x) (sym (mark_at_some more id n p)) (predefined_lies id n p)
        by None p = subst (λ (x : Named). NameLies more x) (sym (mark_at_none more id p)) (type_lies id (lookup (nat_eq id) more) p refl)

    kept_lies : (e : Entity) → EntityLies more e → NameLies more (named_kept more (Some e))
    kept_lies (entity.Type s sh) h = h
    kept_lies (entity.Subtype s) h = h
    kept_lies (entity.Object s) h = h
    kept_lies (entity.Static s v) h = h
    kept_lies (entity.PrivateSubtype id n) h = subtype_lies more n (mark_of more id) (mark_lies id)
    kept_lies (entity.PrivateObject id) h = object_lies more (mark_of more id) (mark_lies id)
    kept_lies (entity.Number v) h = record { type_is_kept = tt; bounds_lie = tt; value_lies = tt }
    kept_lies entity.Exception h = record { type_is_kept = tt; bounds_lie = tt; value_lies = tt }

    at_lookup : (id : ℕ) (o : Option Entity) → predefined id ≡ None → lookup (nat_eq id) more ≡ o → NameLies more (named_kept more o)
    at_lookup id (Some e) p q = kept_lies e (entity_lies id e p q)
    at_lookup id None p q = nothing_lies more

    pub all_lie : AllLie more
    all_lie id = by (predefined id) refl
      where
        by : (o : Option Named) → predefined id ≡ o → NameLies more (named_of more id)
        by (Some n) p = subst (λ (x : Named). NameLies more x) (sym (named_at_some more id n p)) (predefined_lies id n p)
        by None p = subst (λ (x : Named). NameLies more x) (sym (named_at_none more id p)) (at_lookup id (lookup (nat_eq id) more) p refl)

-- ---- new numbers

abbrev pub IsNew : Declared → ℕ → Entity → Type 0
IsNew es id e = is_new es id e ≡ true

pub each_new : (es ds : Declared) → are_new es ds ≡ true → Each (IsNew es) ds
each_new es [] h = tt
each_new es (d ∷ ds) h = let p : (is_new es d.0 d.1 ≡ true) × (are_new es ds ≡ true) = and_parts (is_new es d.0 d.1) (are_new es ds) h in (p.0, each_new es ds p.1)

pub new_is_declared : (es : Declared) (id : ℕ) (e : Entity) → IsNew es id e → predefined id ≡ None
new_is_declared es id e h = none (predefined id) (and_parts (is_none (predefined id)) (may_take (lookup (nat_eq id) es) e) h).0
  where
    none : (o : Option Named) → is_none o ≡ true → o ≡ None
    none None h = refl
    none (Some n) h = absurd (false≢true h)

-- what has a number gives it to nothing but its full type
taken : (e x : Entity) → is_private_kept (Some e) ≡ false → may_take (Some e) x ≡ false
taken (entity.Type s shape.Private) x h = absurd (true≢false h)
taken (entity.Type s shape.Integer) x h = refl
taken (entity.Type s shape.Enumeration) x h = refl
taken (entity.Type s shape.Truth) x h = refl
taken (entity.Type s (shape.Array i e)) x h = refl
taken (entity.Type s (shape.Record cs)) x h = refl
taken (entity.Subtype s) x h = refl
taken (entity.Object s) x h = refl
taken (entity.PrivateSubtype b n) x h = refl
taken (entity.PrivateObject b) x h = refl
taken (entity.Static s v) x h = refl
taken (entity.Number v) x h = refl
taken entity.Exception x h = refl

other : (es : Declared) (id k : ℕ) (e x : Entity) → lookup (nat_eq id) es ≡ Some e → is_private_kept (Some e) ≡ false → IsNew es k x → nat_eq id k ≡ false
other es id k e x h p n = by (nat_eq id k) refl
  where
    by : (t : Bool) → nat_eq id k ≡ t → nat_eq id k ≡ false
    by false q = q
    by true q =
        let f : may_take (lookup (nat_eq k) es) x ≡ true = (and_parts (is_none (predefined k)) (may_take (lookup (nat_eq k) es) x) n).1 in
        let g : may_take (Some e) x ≡ true = subst (λ (o : Option Entity). may_take o x ≡ true) (subst (λ (i : ℕ). lookup (nat_eq i) es ≡ Some e) (eqb-true id k q) h) f in
        absurd (true≢false (sym g ∙ taken e x p))

others : (es : Declared) (id : ℕ) (e : Entity) → lookup (nat_eq id) es ≡ Some e → is_private_kept (Some e) ≡ false → (ds : Declared) → Each (IsNew es) ds → Each (λ k x. nat_eq id k ≡ false) ds
others es id e h p [] f = tt
others es id e h p (d ∷ ds) f = (other es id d.0 e d.1 h p f.0, others es id e h p ds f.1)

-- new numbers keep what was kept
pub extends : (es ds : Declared) → Each (IsNew es) ds → Extends es (insert_all nat_eq es ds)
extends es ds f id e h p = all_stay es ds id (others es id e h p ds f) ∙ h

-- where what is added lies in its types' ranges, all does
pub grown : (es ds : Declared) → Each (IsNew es) ds → AllLie es → Each (λ id e. EntityLies (insert_all nat_eq es ds) e) ds → AllLie (insert_all nat_eq es ds)
grown es ds f all added =
    all_lie es (insert_all nat_eq es ds) (extends es ds f) all
    (λ id e q. found (λ k x. EntityLies (insert_all nat_eq es ds) x) ((lookup (nat_eq id) es ≡ Some e) ⊎ EntityLies (insert_all nat_eq es ds) e) es ds id e added q (λ old. inl old) (λ new. inr new))
