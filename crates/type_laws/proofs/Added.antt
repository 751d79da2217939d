-- What is kept lies in its types' ranges before the first declaration, and after each declaration without a fault.
use Rattle.std.proofs.Common.{◌≡◌, ℕ, ℤ, zero, suc, ◌+◌, ◌<◌, List, [], ◌∷◌, length, Bool, true, false, Option, Some, None, is_some, inl, inr, refl, sym, ap, subst, ◌∙◌, nat_eq, arith}
use Rattle.std.specs.Map.{lookup}
use Rattle.std.specs.Prelude.{if◌then◌else◌}
use Rattle.std.proofs.lemmas.Bool.{eqb-true, eq-eqb, true≢false}
use Rattle.indexmap.specs.IndexMap.{insert_entry, insert_all}
use Rattle.ada_tree.specs.declared.kind.Kind.{Kind}
use Rattle.ada_tree.specs.declared.kind.Kind.TheVariants as kind
use Rattle.ada_tree.specs.declared.node.Node.{Node}
use Rattle.ada_tree.specs.Nodes.{kind_of, kids_of, text_of, node_at}
use Rattle.ada_tree.specs.Sights.{Sight}
use Rattle.ada_names.specs.Places.{◌▸◌}
use Rattle.term_core.specs.declared.names.SortEntry.{SortEntry}
use Rattle.static_values.specs.declared.entity.Subtype.{Subtype}
use Rattle.static_values.specs.declared.entity.Entity.{Entity}
use Rattle.static_values.specs.declared.entity.Entity.TheVariants as entity
use Rattle.static_values.specs.declared.meaning.Use.{Use}
use Rattle.static_values.specs.Judging.{asks, ◌⊕◌}
use Rattle.static_values.specs.Entities.{Declared, World, world, predefined, class_named}
use Rattle.static_values.specs.Rules.{base_type, subtype_of, type_of}
use Rattle.static_values.proofs.Firsts.{none_before, none_behind}
use Rattle.type_definitions.specs.declared.definitions.Defined.{Defined}
use Rattle.base_kit.specs.declared.fault.Fault.{Fault}
use Rattle.ada_types.specs.declared.declarations.Initial.{Initial}
use Rattle.ada_types.specs.declared.declarations.Declares.{Declares}
use Rattle.ada_types.specs.declared.declarations.Declares.TheVariants as declares
use Rattle.ada_types.specs.declared.types.Types.{Types}
use Rattle.ada_types.specs.SortLists.{begun, is_packaged}
use Rattle.type_definitions.specs.Definitions.{mark_in, mark_in_faults, definition_in, definition_faults}
use Rattle.ada_types.specs.Declarations.{beside, number_of_name, number_faults, ids_faults, declared_ids, entity_by, and_first, are_new, object_by, of_mark, constant_by, subtype_by, constant_use, initial, object_type, object_type_faults, ranged_faults, range_in, range_faults, value_faults, value_in, literals_of, first_subtype, type_entities, sized_faults, size_rows, faults_of, addition_of, node_faults, node_addition, decl_faults, decl_after}
use Rattle.type_laws.specs.Ranges.{lies_in_type, AllLie}
use Rattle.type_laws.proofs.Lookups.{Each, first_found, insert_fits, insert_keys}
use Rattle.type_laws.proofs.Growing.{Extends, EntityLies, IsNew, each_new, new_is_declared, extends, grown, with_entry}
use Rattle.type_laws.proofs.Marked.{Marked, marks, by_mark, judged_mark, range_base, range_lies, values, of, object_fits_by, constant_fits, subtype_fits_by, ranged_mark, ranged_range}
use Rattle.type_laws.proofs.Defining.{type_fits, of_definition, literals_fit}

-- ---- before the first declaration

pub none_lie : AllLie []
none_lie zero = record { type_is_kept = inr (refl, refl); bounds_lie = (refl, refl); value_lies = tt }
none_lie (suc zero) = record { type_is_kept = inr (refl, refl); bounds_lie = (refl, refl); value_lies = tt }
none_lie (suc (suc zero)) = record { type_is_kept = inr (refl, refl); bounds_lie = (refl, refl); value_lies = tt }
none_lie (suc (suc (suc zero))) = record { type_is_kept = inr (refl, refl); bounds_lie = tt; value_lies = tt }
none_lie (suc (suc (suc (suc zero)))) = record { type_is_kept = inr (refl, refl); bounds_lie = tt; value_lies = refl }
none_lie (suc (suc (suc (suc (suc zero))))) = record { type_is_kept = inr (refl, refl); bounds_lie = tt; value_lies = refl }
none_lie (suc (suc (suc (suc (suc (suc zero)))))) = record { type_is_kept = tt; bounds_lie = tt; value_lies = tt }
none_lie (suc (suc (suc (suc (suc (suc (suc zero))))))) = record { type_is_kept = tt; bounds_lie = tt; value_lies = tt }
none_lie (suc (suc (suc (suc (suc (suc (suc (suc zero)))))))) = record { type_is_kept = tt; bounds_lie = tt; value_lies = tt }
none_lie (suc (suc (suc (suc (suc (suc (suc (suc (suc n))))))))) = record { type_is_kept = tt; bounds_lie = tt; value_lies = tt }

-- ---- names that declare alike

-- what a list begins with, with other numbers behind
pub record BeginsWith (id : ℕ) (e : Entity) (all : Declared) : Type 0 where
  pub rest : Declared
  pub begins : all ≡ (id, e) ∷ rest
  pub apart : Each (λ k x. nat_eq id k ≡ false) rest

module _ (sees : List (List ℕ) → List ℕ → Sight) (after : List ℕ) where
  and_first_fits : (P : Entity → Type 0) (es : Declared) (k : ℕ) (e : Entity) → Each (λ n x. P x) es → P e → Each (λ n x. P x) (and_first es k e)
  and_first_fits P es k e a h = by (is_some (lookup (nat_eq k) es))
    where
      by : (t : Bool) → Each (λ n x. P x) (if t then es else insert_entry nat_eq es k e)
      by true = a
      by false = insert_fits P es k e a h

  ids_fit : (P : Entity → Type 0) (d : Declares) (i : ℕ) (es : Declared) (ids : List Node) → ((j : ℕ) → j < i + length ids → P (entity_by d j)) → Each (λ k e. P e) es
      → Each (λ k e. P e) (declared_ids sees after d i es ids)
  ids_fit P d i es [] f a = a
  ids_fit P d i es (x ∷ xs) f a =
      ids_fit P d (i + 1) (and_first es (number_of_name sees after (text_of x)) (entity_by d i)) xs (λ j h. f j (omega arith))
      (and_first_fits P es (number_of_name sees after (text_of x)) (entity_by d i) a (f i (omega arith)))

  -- numbers that aren't this one
  turned : (a b : ℕ) → nat_eq a b ≡ false → nat_eq b a ≡ false
  turned a b h = by (nat_eq b a) refl
    where
      by : (t : Bool) → nat_eq b a ≡ t → nat_eq b a ≡ false
      by false p = p
      by true p = absurd (true≢false (sym (eq-eqb a b (sym (eqb-true b a p))) ∙ h))

  -- what is there first stays there
  and_first_begins : (id : ℕ) (e : Entity) (es : Declared) (k : ℕ) (x : Entity) → Each (λ n y. nat_eq id n ≡ false) es → BeginsWith id e (and_first ((id, e) ∷ es) k x)
  and_first_begins id e es k x a = by (nat_eq k id) refl
    where
      others : (t : Bool) → nat_eq k id ≡ false → BeginsWith id e (if t then (id, e) ∷ es else (id, e) ∷ insert_entry nat_eq es k x)
      others true p = record { rest = es; begins = refl; apart = a }
      others false p = record { rest = insert_entry nat_eq es k x; begins = refl; apart = insert_keys (λ n. nat_eq id n ≡ false) es k x a (turned k id p) }

      by : (t : Bool) → nat_eq k id ≡ t → BeginsWith id e (and_first ((id, e) ∷ es) k x)
      by true p = rw p (record { rest = es; begins = refl; apart = a })
      by false p = rw p (others (is_some (lookup (nat_eq k) es)) p)

  stays_first : (id : ℕ) (e : Entity) (d : Declares) (i : ℕ) (es : Declared) (ids : List Node) → BeginsWith id e es → BeginsWith id e (declared_ids sees after d i es ids)
  stays_first id e d i es [] b = b
  stays_first id e d i es (x ∷ xs) b =
      stays_first id e d (i + 1) (and_first es (number_of_name sees after (text_of x)) (entity_by d i)) xs
      (subst (λ (ds : Declared). BeginsWith id e (and_first ds (number_of_name sees after (text_of x)) (entity_by d i))) (sym b.begins)
      (and_first_begins id e b.rest (number_of_name sees after (text_of x)) (entity_by d i) b.apart))

-- the definition of a type has no fault where it and its size have none
sized_definition : (w : World) (names : List SortEntry) (path : List ℕ) (d : Node) → sized_faults w names path d ≡ [] → definition_faults w (path ▸ 0) d ≡ []
unfolding sized_faults
sized_definition w names path d h = none_before (definition_faults w (path ▸ 0) d) (asks path (size_rows names (definition_in w (path ▸ 0) d))) h

-- ---- each kind of declaration

module _ (w : World) (all : AllLie w.entities) (names : List SortEntry) (doc : Node) (path : List ℕ) where
  module _ (more : Declared) (ext : Extends w.entities more) where
    abbrev AllFit : Declared → Type 0
    AllFit ds = Each (λ id e. EntityLies more e) ds

    plain_ids : (d : Declares) (ids : Node) → ((j : ℕ) → EntityLies more (entity_by d j)) → AllFit (declared_ids w.sees (beside path) d 0 [] (kids_of ids))
    plain_ids d ids f = ids_fit w.sees (beside path) (EntityLies more) d 0 [] (kids_of ids) (λ j h. f j) tt

    -- an object of a mark's type, with the range that stands there
    one_object : (m r : Node) → Marked w all (mark_in w (path ▸ 1) m) → (j : ℕ) → EntityLies more (entity_by (object_by (object_type w path m r)) j)
    one_object m r k j =
        by_mark w all (λ n. EntityLies more (entity_by (object_by (of w all more ext (range_in w (path ▸ 2) (subtype_of n) r) (type_of n) (class_named n))) j))
        (λ s c i. object_fits_by w all more ext s c i (range_in w (path ▸ 2) s r) (range_base w all (path ▸ 2) s r) (base_type c s.base) j) (mark_in w (path ▸ 1) m) k

    objects : (kids : List Node) → faults_of w names doc path kind.Obj [] kids ≡ [] → AllFit (addition_of w names doc path kind.Obj [] kids).entities
    objects (ids ∷ m ∷ r ∷ v ∷ []) h =
        let f : object_type_faults w path m r ≡ [] = none_before (object_type_faults w path m r) _ h in
        plain_ids (object_by (object_type w path m r)) ids (one_object m r (marks w all (path ▸ 1) m (ranged_mark w (path ▸ 1) (path ▸ 2) m r f)))
    objects [] h = tt
    objects (a ∷ []) h = tt
    objects (a ∷ b ∷ []) h = tt
    objects (a ∷ b ∷ c ∷ []) h = tt
    objects (a ∷ b ∷ c ∷ d ∷ e ∷ ks) h = tt

    formals : (kids : List Node) → faults_of w names doc path kind.Formal [] kids ≡ [] → AllFit (addition_of w names doc path kind.Formal [] kids).entities
    formals (ids ∷ m ∷ []) h =
        plain_ids (object_by (of_mark (mark_in w (path ▸ 1) m))) ids
        (λ j. by_mark w all (λ n. EntityLies more (entity_by (object_by (of_mark n)) j)) (λ s c k. object_fits_by w all more ext s c k s refl (base_type c s.base) j) (mark_in w (path ▸ 1) m)
        (marks w all (path ▸ 1) m (none_before (mark_in_faults w (path ▸ 1) m) (ids_faults w.sees (beside path) (kids_of ids)) h)))
    formals [] h = tt
    formals (a ∷ []) h = tt
    formals (a ∷ b ∷ c ∷ ks) h = tt

    one_constant : (u : Use) (times : ℕ) (m r v : Node) → Marked w all (mark_in w (path ▸ 1) m) → value_faults w (initial u (object_type w path m r) times) path v ≡ [] → (j : ℕ)
        → EntityLies more (entity_by (constant_by (object_type w path m r) (value_in w path v)) j)
    one_constant u times m r v k h j =
        by_mark w all
        (λ n. ((x : ℤ) → value_in w path v ≡ Some x → lies_in_type w.entities (type_of n) x ≡ true)
        → EntityLies more (entity_by (constant_by (of w all more ext (range_in w (path ▸ 2) (subtype_of n) r) (type_of n) (class_named n)) (value_in w path v)) j))
        (λ s c i f. constant_fits w all more ext s c i (range_in w (path ▸ 2) s r) (range_base w all (path ▸ 2) s r) (base_type c s.base) (value_in w path v) f j)
        (mark_in w (path ▸ 1) m) k
        (values w all (initial u (object_type w path m r) times) path v (judged_mark w all (mark_in w (path ▸ 1) m) k) h)

    constants : (kids : List Node) → faults_of w names doc path kind.Const [] kids ≡ [] → AllFit (addition_of w names doc path kind.Const [] kids).entities
    constants (ids ∷ m ∷ r ∷ v ∷ []) h =
        let u : Use = constant_use (is_packaged doc path) (object_type w path m r) v in
        let i : Initial = initial u (object_type w path m r) (length (kids_of ids)) in
        let names_of : List Fault = ids_faults w.sees (beside path) (kids_of ids) in
        let f : object_type_faults w path m r ≡ [] = none_before (object_type_faults w path m r) (value_faults w i path v ⊕ names_of) h in
        let g : value_faults w i path v ⊕ names_of ≡ [] = none_behind (object_type_faults w path m r) (value_faults w i path v ⊕ names_of) h in
        plain_ids (constant_by (object_type w path m r) (value_in w path v)) ids
        (one_constant u (length (kids_of ids)) m r v (marks w all (path ▸ 1) m (ranged_mark w (path ▸ 1) (path ▸ 2) m r f)) (none_before (value_faults w i path v) names_of g))
    constants [] h = tt
    constants (a ∷ []) h = tt
    constants (a ∷ b ∷ []) h = tt
    constants (a ∷ b ∷ c ∷ []) h = tt
    constants (a ∷ b ∷ c ∷ d ∷ e ∷ ks) h = tt

    numbers : (kids : List Node) → AllFit (addition_of w names doc path kind.Num [] kids).entities
    numbers (ids ∷ v ∷ []) = plain_ids (declares.Number _) ids (λ j. tt)
    numbers [] = tt
    numbers (a ∷ []) = tt
    numbers (a ∷ b ∷ c ∷ ks) = tt

    exceptions : (kids : List Node) → AllFit (addition_of w names doc path kind.Exc [] kids).entities
    exceptions (ids ∷ []) = plain_ids declares.Exception ids (λ j. tt)
    exceptions [] = tt
    exceptions (a ∷ b ∷ ks) = tt

    subtypes : (text : List ℕ) (kids : List Node) → faults_of w names doc path kind.Subtype text kids ≡ [] → AllFit (addition_of w names doc path kind.Subtype text kids).entities
    subtypes text (m ∷ r ∷ []) h =
        let f : ranged_faults w (path ▸ 0) (path ▸ 1) m r ≡ [] = none_before (ranged_faults w (path ▸ 0) (path ▸ 1) m r) (number_faults w.sees (beside path) text) h in
        let number : ℕ = length names in (
          by_mark w all
              (λ n. range_faults w (path ▸ 1) (of_mark n) r ≡ [] → EntityLies more (subtype_by (of w all more ext (range_in w (path ▸ 1) (subtype_of n) r) (type_of n) (class_named n)) (length names)))
              (λ s c k g. subtype_fits_by w all more ext s c k (range_in w (path ▸ 1) s r) (range_base w all (path ▸ 1) s r) (base_type c s.base) (length names)
              (with_entry w.entities c (range_in w (path ▸ 1) s r) (length names) (range_lies w all (path ▸ 1) s c r k g)))
              (mark_in w (path ▸ 0) m) (marks w all (path ▸ 0) m (ranged_mark w (path ▸ 0) (path ▸ 1) m r f)) (ranged_range w (path ▸ 0) (path ▸ 1) m r f),
          tt,
        )
    subtypes text [] h = tt
    subtypes text (a ∷ []) h = tt
    subtypes text (a ∷ b ∷ c ∷ ks) h = tt

    types : (text : List ℕ) (kids : List Node) → more ≡ insert_all nat_eq w.entities (addition_of w names doc path kind.TypeDecl text kids).entities
        → Each (IsNew w.entities) (addition_of w names doc path kind.TypeDecl text kids).entities → faults_of w names doc path kind.TypeDecl text kids ≡ []
        → AllFit (addition_of w names doc path kind.TypeDecl text kids).entities
    types text (d ∷ []) m free h =
        let after : List ℕ = beside path in
        let id : ℕ = number_of_name w.sees after text in
        let made : Defined = definition_in w (path ▸ 0) d in
        let s : Subtype = first_subtype id (length names) made in
        let ds : Declared = type_entities w.sees after id (length names) made (literals_of d) in
        let b : BeginsWith id (entity.Type s made.shape) ds =
        stays_first w.sees after id (entity.Type s made.shape) (declares.Literal s) 0 ((id, entity.Type s made.shape) ∷ []) (literals_of d) (record { rest = []; begins = refl; apart = tt }) in
        let f : definition_faults w (path ▸ 0) d ≡ [] =
        sized_definition w names path d (none_before (sized_faults w names path d) (number_faults w.sees after text ⊕ ids_faults w.sees after (literals_of d)) h) in
        let p : predefined id ≡ None = new_is_declared w.entities id (entity.Type s made.shape) (subst (λ (xs : Declared). Each (IsNew w.entities) xs) b.begins free).0 in
        let q : lookup (nat_eq id) more ≡ Some (entity.Type s made.shape) =
        ap (λ (xs : Declared). lookup (nat_eq id) xs) (m ∙ ap (λ (xs : Declared). insert_all nat_eq w.entities xs) b.begins)
        ∙ first_found w.entities b.rest id (entity.Type s made.shape) b.apart in
        ids_fit w.sees after (EntityLies more) (declares.Literal s) 0 ((id, entity.Type s made.shape) ∷ []) (literals_of d)
        (λ j g. literals_fit w all more ext (path ▸ 0) d id (length names) p q j (omega arith))
        (type_fits w all more ext id (length names) made p q (of_definition w all more ext (path ▸ 0) d f), tt)
    types text [] m free h = tt
    types text (a ∷ b ∷ ks) m free h = tt

    added : (k : Kind) (text : List ℕ) (kids : List Node) → more ≡ insert_all nat_eq w.entities (addition_of w names doc path k text kids).entities
        → Each (IsNew w.entities) (addition_of w names doc path k text kids).entities → faults_of w names doc path k text kids ≡ [] → AllFit (addition_of w names doc path k text kids).entities
    added kind.TypeDecl text kids m free h = types text kids m free h
    added kind.Private text kids m free h = (record { type_is_kept = inl refl; bounds_lie = tt; value_lies = tt }, tt)
    added kind.Subtype text kids m free h = subtypes text kids h
    added kind.Obj text kids m free h = objects kids h
    added kind.Const text kids m free h = constants kids h
    added kind.Formal text kids m free h = formals kids h
    added kind.Num text kids m free h = numbers kids
    added kind.Exc text kids m free h = exceptions kids
    added _ text kids m free h = tt

    node_added : (o : Option Node) → more ≡ insert_all nat_eq w.entities (node_addition w names doc path o).entities
        → Each (IsNew w.entities) (node_addition w names doc path o).entities → node_faults w names doc path o ≡ [] → AllFit (node_addition w names doc path o).entities
    node_added (Some node) m free h = added (kind_of node) (text_of node) (kids_of node) m free h
    node_added None m free h = tt

module _ (sees : List (List ℕ) → List ℕ → Sight) (t : Types) (doc : Node) (path : List ℕ) (all : AllLie t.entities) (h : decl_faults sees t doc path ≡ []) where
  abbrev Adds : Declared
  Adds = (node_addition (world sees t.entities) (begun t.names) doc path (node_at path doc)).entities

  if_new : (x : Bool) → are_new t.entities Adds ≡ x → AllLie (insert_all nat_eq t.entities (if x then Adds else []))
  if_new true p =
      let new : Each (IsNew t.entities) Adds = each_new t.entities Adds p in
      grown t.entities Adds new all
      (node_added (world sees t.entities) all (begun t.names) doc path (insert_all nat_eq t.entities Adds) (extends t.entities Adds new) (node_at path doc) refl new h)
  if_new false p = all

  pub kept : AllLie (decl_after sees t doc path).entities
  kept = if_new (are_new t.entities Adds) refl
