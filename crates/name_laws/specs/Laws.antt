-- What the laws speak of.
use Rattle.std.specs.Prelude.{◌≡◌, ℕ, suc, ◌<◌, List, [], ◌∷◌, ◌++◌, take, length, true, false, ◌&&◌, bytes_eq, Option, Some, None, Contains, if◌then◌else◌}
use Rattle.std.specs.List.{AllByRecursion}
use Rattle.ada_tree.specs.declared.kind.Kind.{Kind}
use Rattle.ada_tree.specs.declared.kind.Kind.TheVariants as kind
use Rattle.ada_tree.specs.declared.node.Node.{Node}
use Rattle.ada_tree.specs.declared.doc.DeclId.{DeclId}
use Rattle.ada_tree.specs.Kinds.{is_kind}
use Rattle.ada_tree.specs.Nodes.{node_of}
use Rattle.ada_names.specs.declared.entry.Entry.{Entry}
use Rattle.ada_names.specs.declared.entry.Space.TheVariants as space
use Rattle.ada_names.specs.Places.{◌▸◌, has_ended, is_in}
use Rattle.ada_names.specs.Entries.{is_space, first_of}
use Rattle.ada_names.specs.Sees.{is_visible, is_in_context, is_in_trait, region_of, used_package, shown_by, uses_from, Found, unseen, one, several, found, plainly, named, earlier_unit, directly}

-- A package shows a declaration at a place: the first of the name in its region, which stands in its visible part and has ended.
pub record Shows (es : List Entry) (place name : List ℕ) (pack e : Entry) : Type 0 where
  pub first : first_of es space.Names pack.place name ≡ Some e
  pub in_visible_part : is_in (pack.place ▸ 0) e.place ≡ true
  pub ended : has_ended e.from place ≡ true

-- Why a name sees a declaration at a place.
pub data Visible (es : List Entry) (place name : List ℕ) (e : Entry) : Type 0 where
  -- it is the first of the name in a region round the place, and visible there
  in_region_round : (n : ℕ) → n < length place → first_of es space.Names (region_of es (take (suc n) place)) name ≡ Some e → is_visible place e ≡ true → Visible es place name e
  -- it is a library unit that the context of the place shows
  in_library : first_of es space.Names [] name ≡ Some e → is_visible place e ≡ true → is_in_context es place e ≡ true → Visible es place name e
  -- the place is in a `with` clause, and it is an earlier library unit
  named_by_with : first_of es space.Names [] name ≡ Some e → has_ended e.from place ≡ true → Visible es place name e
  predefined_name : first_of es space.Predefined [] name ≡ Some e → Visible es place name e
  -- a package that a `use` clause before the place names shows it
  by_use_of : (clause pack : Entry) → Contains (uses_from es place (length place)) clause → has_ended clause.from place ≡ true → used_package es clause ≡ Some pack → Shows es place name pack e → Visible es place name e
  -- it is an earlier operator, in a term
  operator_before : first_of es space.Operators [] name ≡ Some e → has_ended e.from place ≡ true → Visible es place name e

-- Why the parts of a mark see a declaration at a place.
pub data VisibleAs (es : List Entry) (place : List ℕ) : List (List ℕ) → Entry → Type 0 where
  alone : (name : List ℕ) (e : Entry) → Visible es place name e → VisibleAs es place (name ∷ []) e
  -- before the dot stands what sees a package, and the package shows it
  of_package : (prefix name : List ℕ) (pack e : Entry) → Visible es place prefix pack → is_kind pack.kind kind.Pack ≡ true → Shows es place name pack e → VisibleAs es place (prefix ∷ name ∷ []) e
  -- the place is in a trait, and it is a type that an earlier package shows
  type_of_package : (prefix name : List ℕ) (pack e : Entry) → is_in_trait es place ≡ true → first_of es space.Names [] prefix ≡ Some pack → has_ended pack.from place ≡ true → is_kind pack.kind kind.Pack ≡ true → Shows es place name pack e → is_kind e.kind kind.TypeDecl ≡ true → VisibleAs es place (prefix ∷ name ∷ []) e

-- the last of the parts is this name
abbrev pub EndsIn : List (List ℕ) → List ℕ → Type 0
EndsIn parts name = (before : List (List ℕ)) × (parts ≡ before ++ name ∷ [])

-- The declaration of this number is visible at the place under these parts.
pub record IsVisible (es : List Entry) (place : List ℕ) (parts : List (List ℕ)) (id : DeclId) : Type 0 where
  pub declaration : Entry
  pub number : declaration.number ≡ Some id
  pub visible : VisibleAs es place parts declaration

-- The first tree is the second up to some place: what follows there is left out.
pub data IsFront : Node → Node → Type 0 where
  ends : (k : Kind) (text : List ℕ) (notes other : List (List ℕ)) (kids more : List Node) → IsFront (node_of k text notes kids) (node_of k text other (kids ++ more))
  goes_on : (k : Kind) (text : List ℕ) (notes other : List (List ℕ)) (kids : List Node) (front whole : Node) (more : List Node) → IsFront front whole → IsFront (node_of k text notes (kids ++ front ∷ [])) (node_of k text other (kids ++ whole ∷ more))

-- the second list begins with the first
abbrev pub BeginsWith : List Entry → List Entry → Type 0
BeginsWith front all = (more : List Entry) × (all ≡ front ++ more)

-- the entry of the node at a path under another name
abbrev pub renamed : List ℕ → List ℕ → Entry → Entry
renamed at new e = if bytes_eq e.place at then record e { name = new } else e

-- it isn't the entry at the path under this name
abbrev pub IsApart : List ℕ → List ℕ → Entry → Type 0
IsApart at name e = (bytes_eq e.place at && bytes_eq e.name name) ≡ false

-- this name is neither the new name nor the old one of the entry at the path
pub record Apart (at new : List ℕ) (es : List Entry) (name : List ℕ) : Type 0 where
  pub new_name : bytes_eq new name ≡ false
  pub old_name : AllByRecursion (IsApart at name) es

-- nor does a `use` clause name either
abbrev pub ClausesApart : List ℕ → List ℕ → List Entry → Type 0
ClausesApart at new es = AllByRecursion (λ u. is_space u.space space.Uses ≡ true → (bytes_eq u.place at ≡ false) × Apart at new es u.name) es

-- ---- a document with another name at one node

-- The second tree is the first with this text at the node of the path.
pub data IsRenamed (new : List ℕ) : List ℕ → Node → Node → Type 0 where
  here : (k : Kind) (old : List ℕ) (notes : List (List ℕ)) (kids : List Node) → IsRenamed new [] (node_of k old notes kids) (node_of k new notes kids)
  inside : (k : Kind) (text : List ℕ) (notes : List (List ℕ)) (before : List Node) (old changed : Node) (after : List Node) (path : List ℕ) → IsRenamed new path old changed → IsRenamed new (length before ∷ path) (node_of k text notes (before ++ old ∷ after)) (node_of k text notes (before ++ changed ∷ after))

-- What stands at the path shares its region and name with nothing else, and nothing has the new name.
pub record IsAlone (at new : List ℕ) (es : List Entry) : Type 0 where
  pub alone : (d e : Entry) → Contains es d → Contains es e → bytes_eq d.place at ≡ true → bytes_eq e.place at ≡ false → (bytes_eq d.region e.region && bytes_eq d.name e.name) ≡ false
  pub fresh : (e : Entry) → Contains es e → bytes_eq new e.name ≡ false

-- ---- a declaration that nothing sees

-- what is looked up isn't the entry at the path
abbrev pub IsNot : List ℕ → Option Entry → Type 0
IsNot at (Some e) = bytes_eq e.place at ≡ false
IsNot at None = Unit {0}

-- nor is what a name is found to be
abbrev pub IsOther : List ℕ → Found → Type 0
IsOther at (one e) = bytes_eq e.place at ≡ false
IsOther at unseen = Unit {0}
IsOther at several = Unit {0}

-- A name at a place passes the entry at the path by: the name doesn't see it, nor would it if no operator came first; and where several used packages show the name, none shows the entry.
pub record PassesBy (at : List ℕ) (es : List Entry) (place name : List ℕ) : Type 0 where
  pub seen : IsOther at (named es place name)
  pub meant : IsOther at (plainly es place name)
  pub used : plainly es place name ≡ several → (clause : Entry) → Contains (uses_from es place (length place)) clause → IsNot at (shown_by es place name clause)

-- What stands before a dot passes it by too, in a trait also as the name of an earlier package.
pub record PrefixPassesBy (at : List ℕ) (es : List Entry) (place name : List ℕ) : Type 0 where
  pub prefix : PassesBy at es place name
  pub earlier : is_in_trait es place ≡ true → IsNot at (earlier_unit es place name)

-- The parts of a mark don't see it.
abbrev pub PassBy : List ℕ → List Entry → List ℕ → List (List ℕ) → Type 0
PassBy at es place (name ∷ []) = PassesBy at es place name
PassBy at es place (prefix ∷ name ∷ []) = PrefixPassesBy at es place prefix × IsOther at (found es (prefix ∷ name ∷ []) place)
PassBy at es place _ = Unit {0}

-- the name isn't the new one
abbrev pub IsNew : List ℕ → List ℕ → Type 0
IsNew new name = bytes_eq new name ≡ false

-- What stands at the path is no name in a `with` or a `use` clause, it is alone, and no `use` clause sees it.
pub record IsUnused (at new : List ℕ) (es : List Entry) : Type 0 where
  pub alone : IsAlone at new es
  pub no_mention : (e : Entry) → Contains es e → bytes_eq e.place at ≡ true → (is_space e.space space.Withs ≡ false) × (is_space e.space space.Uses ≡ false)
  pub clauses : (u : Entry) → Contains es u → is_space u.space space.Uses ≡ true → IsNot at (directly es u.place u.name)
