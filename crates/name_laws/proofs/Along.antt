-- The entries of a tree with another text at one node.
use Rattle.std.proofs.Common.{◌≡◌, ℕ, suc, ◌+◌, ◌<◌, ◌≤◌, List, [], ◌∷◌, ◌++◌, map, length, append_assoc, append-nil, true, false, ◌&&◌, ◌⊎◌, inl, inr, Option, Some, None, refl, sym, ap, ◌∙◌, subst, arith}
use Rattle.std.specs.Prelude.{bytes_eq, nat_eq, Contains}
use Rattle.std.specs.List.{AllByRecursion}
use Rattle.std.proofs.lemmas.Bool.{and_parts, and_left, and_right, and_from, false_from_ne_true}
use Rattle.std.proofs.lemmas.List.{map-append, length-map}
use Rattle.std.proofs.lemmas.List.Elements.{Contains-append_left, Contains-push, Contains-push_cases}
use lib.Pointwise.{bytes_decides}
use Rattle.ada_tree.specs.declared.kind.Kind.{Kind}
use Rattle.ada_tree.specs.declared.node.Node.{Node, Node-F}
use Rattle.ada_tree.specs.Nodes.{node_of}
use Rattle.ada_names.specs.declared.entry.Entry.{Entry}
use Rattle.ada_names.specs.Places.{◌▸◌, is_in}
use Rattle.ada_names.specs.declared.entry.Space.TheVariants as space
use Rattle.ada_names.specs.Collecting.{Around, Within, of_kids, of_layer, entries_in, down, own, home_of, with_own, saying, Saying, silent, says, said}
use Rattle.ada_names.specs.Entries.{first_of, next_number, entry}
use Rattle.name_laws.specs.Laws.{renamed, BeginsWith, IsRenamed, here, inside, IsAlone}
use Rattle.name_laws.proofs.Renaming.{keeps, fixed_place}
use Rattle.name_laws.proofs.Fronts.{Adds, kids_add, layer_adds, shifted, node_entries, all_add, by_layers}
use Rattle.name_laws.proofs.Retold.{head_in, tail_in, turned, completed_by, kept_field, said_place, said_after, said_here}

-- ---- places below a node

in_itself : (path : List ℕ) → is_in path path ≡ true
in_itself [] = refl
in_itself (x ∷ path) = and_from (nat_eq x x) (is_in path path) (and_parts (nat_eq x x) true ((bytes_decides (x ∷ []) (x ∷ [])).1 refl)).0 (in_itself path)

in_kid : (path : List ℕ) (number : ℕ) (place : List ℕ) → is_in (path ▸ number) place ≡ true → is_in path place ≡ true
in_kid [] number place h = refl
in_kid (x ∷ path) number [] h = absurd cc
in_kid (x ∷ path) number (y ∷ place) h =
    let both : (nat_eq x y ≡ true) × (is_in (path ▸ number) place ≡ true) = and_parts (nat_eq x y) (is_in (path ▸ number) place) h in
    and_from (nat_eq x y) (is_in path place) both.0 (in_kid path number place both.1)

below : (path : List ℕ) (number : ℕ) → is_in (path ▸ number) path ≡ false
below [] number = refl
below (x ∷ path) number = and_right (nat_eq x x) (is_in (path ▸ number) path) (below path number)

not_same : (a b : ℕ) → (a ≡ b → ⊥) → nat_eq a b ≡ false
not_same a b h = false_from_ne_true (nat_eq a b) (λ t. h (ap first ((bytes_decides (a ∷ []) (b ∷ [])).0 (and_from (nat_eq a b) true t refl))))
  where
    first : List ℕ → ℕ
    first xs = elim xs [ [] ↦ 0 | x ∷ rest ↦ x ]

beside : (path : List ℕ) (a b : ℕ) (rest : List ℕ) → (a ≡ b → ⊥) → is_in (path ▸ a) (path ++ b ∷ rest) ≡ false
beside [] a b rest h = and_left (nat_eq a b) true (not_same a b h)
beside (x ∷ path) a b rest h = and_right (nat_eq x x) (is_in (path ▸ a) (path ++ b ∷ rest)) (beside path a b rest h)

-- what isn't inside a node isn't at it
other_place : (path at : List ℕ) → is_in path at ≡ false → bytes_eq path at ≡ false
other_place path at h = false_from_ne_true (bytes_eq path at) (λ t.
    let same : path ≡ at = (bytes_decides path at).0 t in
    let inner : is_in path at ≡ true = subst (λ (q : List ℕ). is_in path q ≡ true) same (in_itself path) in
    cc)

-- ---- entries stand in their nodes

abbrev StandsIn : List ℕ → List Entry → Entry → Type 0
StandsIn path es e = Contains es e ⊎ (is_in path e.place ≡ true)

abbrev Inside : Within → Type 0
Inside g = (path : List ℕ) (a : Around) (es : List Entry) (e : Entry) → Contains (g path a es) e → StandsIn path es e

-- one of the kids from this number on
abbrev InKid : List ℕ → ℕ → ℕ → Entry → Type 0
InKid path number many e = (m : ℕ) × (number ≤ m) × (m < number + many) × (is_in (path ▸ m) e.place ≡ true)

kids_inside : (gs : List Within) → AllByRecursion Inside gs → (k : Kind) (home path : List ℕ) (number : ℕ) (a : Around) (es : List Entry) (e : Entry) → Contains (of_kids gs k home path number a es) e → Contains es e ⊎ InKid path number (length gs) e
kids_inside [] h k home path number a es e has = inl has
kids_inside (g ∷ gs) h k home path number a es e has = by (kids_inside gs h.1 k home path (number + 1) a (g (path ▸ number) (down k home path number a) es) e has)
  where
    by_first : StandsIn (path ▸ number) es e → Contains es e ⊎ InKid path number (suc (length gs)) e
    by_first (inl before) = inl before
    by_first (inr below) = inr (number, omega arith, omega arith, below)

    by : Contains (g (path ▸ number) (down k home path number a) es) e ⊎ InKid path (number + 1) (length gs) e → Contains es e ⊎ InKid path number (suc (length gs)) e
    by (inl first) = by_first (h.0 (path ▸ number) (down k home path number a) es e first)
    by (inr (m, low, high, is)) = inr (m, omega arith, omega arith, is)

own_inside : (text path : List ℕ) (es : List Entry) (s : Saying) (e : Entry) → Contains (with_own es (said text path es s)) e → Contains es e ⊎ (e.place ≡ path)
own_inside text path es s e = by (said text path es s) refl
  where
    by : (o : Option Entry) → said text path es s ≡ o → Contains (with_own es o) e → Contains es e ⊎ (e.place ≡ path)
    by None is has = inl has
    by (Some x) is has = by_cases (Contains-push_cases es x e has)
      where
        by_cases : Contains es e ⊎ (x ≡ e) → Contains es e ⊎ (e.place ≡ path)
        by_cases (inl before) = inl before
        by_cases (inr same) = inr (sym (ap (λ (y : Entry). y.place) same) ∙ said_place text path es s x is)

layer_inside : (layer : Node-F Within) → AllByRecursion Inside layer.kids → Inside (of_layer layer)
layer_inside layer h path a es e has =
    let mine : Option Entry = own layer.kind layer.text path a es in
    by (kids_inside layer.kids h layer.kind (home_of path mine) path 0 a (with_own es mine) e has)
  where
    by_own : Contains es e ⊎ (e.place ≡ path) → StandsIn path es e
    by_own (inl before) = inl before
    by_own (inr same) = inr (subst (λ (q : List ℕ). is_in path q ≡ true) (sym same) (in_itself path))

    by : Contains (with_own es (own layer.kind layer.text path a es)) e ⊎ InKid path 0 (length layer.kids) e → StandsIn path es e
    by (inl own_or_before) = by_own (own_inside layer.text path es (saying layer.kind path a) e own_or_before)
    by (inr (m, low, high, is)) = inr (in_kid path m e.place is)

entries_inside : (node : Node) → Inside (entries_in node)
entries_inside = by_layers Inside layer_inside

all_inside : (nodes : List Node) → AllByRecursion Inside (map entries_in nodes)
all_inside [] = tt
all_inside (node ∷ nodes) = (entries_inside node, all_inside nodes)

-- ---- parts that the path isn't in

module _ (at new : List ℕ) where
  abbrev f : Entry → Entry
  f e = renamed at new e

  alone_front : (front all : List Entry) → BeginsWith front all → IsAlone at new all → IsAlone at new front
  alone_front front all (more, is) h =
      let P : List Entry → Type 0 = λ es. IsAlone at new es in
      let whole : IsAlone at new (front ++ more) = subst P is h in
      record {
        alone = λ d e has_d has_e. whole.alone d e (Contains-append_left front more d has_d) (Contains-append_left front more e has_e);
        fresh = λ e has. whole.fresh e (Contains-append_left front more e has);
      }

  abbrev Keeps : Within → Type 0
  Keeps g = (path : List ℕ) (a : Around) (es : List Entry) → is_in path at ≡ false → IsAlone at new (g path a es) → g path a (map f es) ≡ map f (g path a es)

  abbrev AddsAndKeeps : Within → Type 0
  AddsAndKeeps g = Adds g × Keeps g

  only_adds : (gs : List Within) → AllByRecursion AddsAndKeeps gs → AllByRecursion Adds gs
  only_adds [] h = tt
  only_adds (g ∷ gs) h = (h.0.0, only_adds gs h.1)

  kids_keep : (gs : List Within) → AllByRecursion AddsAndKeeps gs → (k : Kind) (home path : List ℕ) (number : ℕ) (a : Around) (es : List Entry) → ((m : ℕ) → number ≤ m → is_in (path ▸ m) at ≡ false) → IsAlone at new (of_kids gs k home path number a es) → of_kids gs k home path number a (map f es) ≡ map f (of_kids gs k home path number a es)
  kids_keep [] h k home path number a es out is = refl
  kids_keep (g ∷ gs) h k home path number a es out is =
      let first : List Entry = g (path ▸ number) (down k home path number a) es in
      let front : IsAlone at new first = alone_front first (of_kids gs k home path (number + 1) a first) (kids_add gs (only_adds gs h.1) k home path (number + 1) a first) is in
      ap (λ (xs : List Entry). of_kids gs k home path (number + 1) a xs) (h.0.1 (path ▸ number) (down k home path number a) es (out number (omega arith)) front)
      ∙ kids_keep gs h.1 k home path (number + 1) a first (λ m low. out m (omega arith)) is

  with_own_after : (es : List Entry) (o : Option Entry) → ((e : Entry) → o ≡ Some e → bytes_eq e.place at ≡ false) → with_own (map f es) o ≡ map f (with_own es o)
  with_own_after es None h = refl
  with_own_after es (Some e) h = ap (λ (x : Entry). map f es ++ x ∷ []) (sym (fixed_place at new e (h e refl))) ∙ sym (map-append f es (e ∷ []))

  -- what a node elsewhere says
  own_after : (text path : List ℕ) (es : List Entry) (s : Saying) → bytes_eq path at ≡ false → IsAlone at new (with_own es (said text path es s)) → said text path (map f es) s ≡ said text path es s
  own_after text path es s elsewhere is = said_after at new text path es s (λ e made.
      let P : Option Entry → Type 0 = λ o. IsAlone at new (with_own es o) in
      let whole : IsAlone at new (es ++ e ∷ []) = subst P made is in
      let here : bytes_eq e.place at ≡ false = subst (λ (q : List ℕ). bytes_eq q at ≡ false) (sym (said_place text path es s e made)) elsewhere in
      (whole.fresh e (Contains-push es e), λ x has there. whole.alone x e (Contains-append_left es (e ∷ []) x has) (Contains-push es e) there here))

  place_elsewhere : (text path : List ℕ) (es : List Entry) (s : Saying) → bytes_eq path at ≡ false → (e : Entry) → said text path es s ≡ Some e → bytes_eq e.place at ≡ false
  place_elsewhere text path es s elsewhere e made = subst (λ (q : List ℕ). bytes_eq q at ≡ false) (sym (said_place text path es s e made)) elsewhere

  layer_keeps : (layer : Node-F Within) → AllByRecursion AddsAndKeeps layer.kids → Keeps (of_layer layer)
  layer_keeps layer h path a es out is =
      let s : Saying = saying layer.kind path a in
      let mine : Option Entry = said layer.text path es s in
      let elsewhere : bytes_eq path at ≡ false = other_place path at out in
      let start : IsAlone at new (with_own es mine) = alone_front (with_own es mine) (of_layer layer path a es) (kids_add layer.kids (only_adds layer.kids h) layer.kind (home_of path mine) path 0 a (with_own es mine)) is in
      ap (λ (o : Option Entry). of_kids layer.kids layer.kind (home_of path o) path 0 a (with_own (map f es) o)) (own_after layer.text path es s elsewhere start)
      ∙ ap (λ (xs : List Entry). of_kids layer.kids layer.kind (home_of path mine) path 0 a xs) (with_own_after es mine (place_elsewhere layer.text path es s elsewhere))
      ∙ kids_keep layer.kids h layer.kind (home_of path mine) path 0 a (with_own es mine) (λ m low. false_from_ne_true (is_in (path ▸ m) at) (λ t. let inner : is_in path at ≡ true = in_kid path m at t in cc)) is

  adds_and_keeps : (node : Node) → AddsAndKeeps (entries_in node)
  adds_and_keeps = by_layers AddsAndKeeps (λ layer h. (layer_adds layer (only_adds layer.kids h), layer_keeps layer h))

  all_keep : (nodes : List Node) → AllByRecursion AddsAndKeeps (map entries_in nodes)
  all_keep [] = tt
  all_keep (node ∷ nodes) = (adds_and_keeps node, all_keep nodes)

  -- ---- entries before the path

  abbrev Before : List Entry → Type 0
  Before es = (e : Entry) → Contains es e → bytes_eq e.place at ≡ false

  before_same : (es : List Entry) → Before es → map f es ≡ es
  before_same [] h = refl
  before_same (x ∷ es) h = ap (λ (y : Entry). y ∷ map f es) (fixed_place at new x (h x (head_in x es))) ∙ ap (λ (ys : List Entry). x ∷ ys) (before_same es (λ y has. h y (tail_in x es y has)))

  -- ---- the node at the path

  both_turned : (a b c d : List ℕ) → (bytes_eq a b && bytes_eq c d) ≡ false → (bytes_eq b a && bytes_eq d c) ≡ false
  both_turned a b c d h = false_from_ne_true (bytes_eq b a && bytes_eq d c) (λ t.
      let parts : (bytes_eq b a ≡ true) × (bytes_eq d c ≡ true) = and_parts (bytes_eq b a) (bytes_eq d c) t in
      let same : (bytes_eq a b && bytes_eq c d) ≡ true = and_from (bytes_eq a b) (bytes_eq c d) ((bytes_decides a b).1 (sym ((bytes_decides b a).0 parts.0))) ((bytes_decides c d).1 (sym ((bytes_decides d c).0 parts.1))) in
      cc)

  module _ (k : Kind) (old : List ℕ) (kids : List Node) (a : Around) (es : List Entry) (before : Before es) where
    abbrev after : List ℕ → Saying → List Entry
    after text s = of_kids (map entries_in kids) k (home_of at (said text at es s)) at 0 a (with_own es (said text at es s))

    kids_below : (home : List ℕ) (start : List Entry) → IsAlone at new (of_kids (map entries_in kids) k home at 0 a start) → of_kids (map entries_in kids) k home at 0 a (map f start) ≡ map f (of_kids (map entries_in kids) k home at 0 a start)
    kids_below home start is = kids_keep (map entries_in kids) (all_keep kids) k home at 0 a start (λ m low. below at m) is

    -- the one entry more, under its new name
    one_more : (e : Entry) → es ++ f e ∷ [] ≡ map f (es ++ e ∷ [])
    one_more e = ap (λ (xs : List Entry). xs ++ f e ∷ []) (sym (before_same es before)) ∙ sym (map-append f es (e ∷ []))

    made_here : (e made : Entry) → made ≡ f e → IsAlone at new (of_kids (map entries_in kids) k e.origin at 0 a (es ++ e ∷ [])) → of_kids (map entries_in kids) k made.origin at 0 a (es ++ made ∷ []) ≡ map f (of_kids (map entries_in kids) k e.origin at 0 a (es ++ e ∷ []))
    made_here e made same is =
        ap (λ (x : Entry). of_kids (map entries_in kids) k x.origin at 0 a (es ++ x ∷ [])) same
        ∙ ap (λ (home : List ℕ). of_kids (map entries_in kids) k home at 0 a (es ++ f e ∷ [])) (keeps at new (λ (x : Entry). x.origin) (λ x. refl) e)
        ∙ ap (λ (xs : List Entry). of_kids (map entries_in kids) k e.origin at 0 a xs) (one_more e)
        ∙ kids_below e.origin (es ++ e ∷ []) is

    said_new : (s : Saying) → IsAlone at new (after old s) → after new s ≡ map f (after old s)
    said_new silent is = ap (λ (xs : List Entry). of_kids (map entries_in kids) k at at 0 a xs) (sym (before_same es before)) ∙ kids_below at es is
    said_new (says kind region from within) is =
        let e : Entry = entry es kind old at region from within in
        let o : Option Entry = completed_by kind region at (first_of es space.Names region old) in
        let its_region : e.region ≡ region = kept_field (λ x. x.region) kind old at region from within (next_number es) region (λ s origin n. refl) o in
        let its_name : e.name ≡ old = kept_field (λ x. x.name) kind old at region from within (next_number es) old (λ s origin n. refl) o in
        let its_place : e.place ≡ at = kept_field (λ x. x.place) kind old at region from within (next_number es) at (λ s origin n. refl) o in
        let there : bytes_eq e.place at ≡ true = (bytes_decides e.place at).1 its_place in
        let start : IsAlone at new (es ++ e ∷ []) = alone_front (es ++ e ∷ []) (after old (says kind region from within)) (kids_add (map entries_in kids) (all_add kids) k e.origin at 0 a (es ++ e ∷ [])) is in
        let P : Entry → List ℕ → Type 0 = λ x r. (bytes_eq r x.region && bytes_eq e.name x.name) ≡ false in
        let Q : Entry → List ℕ → Type 0 = λ x n. (bytes_eq region x.region && bytes_eq n x.name) ≡ false in
        let apart : (x : Entry) → Contains es x → Q x old = λ x has. subst (Q x) its_name (subst (P x) its_region (start.alone e x (Contains-push es e) (Contains-append_left es (e ∷ []) x has) there (before x has))) in
        made_here e (entry es kind new at region from within) (said_here at new old es kind region from within (λ x has. both_turned region x.region old x.name (apart x has)) (λ x has. turned new x.name (start.fresh x (Contains-append_left es (e ∷ []) x has)))) is

  node_here : (k : Kind) (old : List ℕ) (notes : List (List ℕ)) (kids : List Node) (a : Around) (es : List Entry) → Before es → IsAlone at new (entries_in (node_of k old notes kids) at a es) → entries_in (node_of k new notes kids) at a es ≡ map f (entries_in (node_of k old notes kids) at a es)
  node_here k old notes kids a es before =
      let layer : List ℕ → Within = λ text. of_layer record { kind = k; text = text; notes = notes; kids = map entries_in kids } in
      let P : Within → Type 0 = λ g. IsAlone at new (g at a es) → entries_in (node_of k new notes kids) at a es ≡ map f (g at a es) in
      let Q : Within → Type 0 = λ g. IsAlone at new (layer old at a es) → g at a es ≡ map f (layer old at a es) in
      subst P (sym (node_entries k old notes kids)) (subst Q (sym (node_entries k new notes kids)) (said_new k old kids a es before (saying k at a)))

  -- ---- the nodes above

  longer_path : (front : List ℕ) (number : ℕ) (rest : List ℕ) → bytes_eq front (front ++ number ∷ rest) ≡ false
  longer_path [] number rest = refl
  longer_path (x ∷ front) number rest = and_right (nat_eq x x) (bytes_eq front (front ++ number ∷ rest)) (longer_path front number rest)

  module _ (k : Kind) (text : List ℕ) (front : List ℕ) (a : Around) (es : List Entry) (before : Before es) (nodes later : List Node) (rest : List ℕ) (there : front ++ length nodes ∷ rest ≡ at) where
    -- the number of the kid with the path in it
    abbrev n : ℕ
    n = 0 + length (map entries_in nodes)

    many : n ≡ length nodes
    many = omega (arith, length-map nodes entries_in)

    abbrev mine : Option Entry
    mine = own k text front a es

    abbrev home : List ℕ
    home = home_of front mine

    abbrev middle : List Entry
    middle = of_kids (map entries_in nodes) k home front 0 a (with_own es mine)

    abbrev with_kid : Within → List Entry
    with_kid g = g (front ▸ n) (down k home front n a) middle

    abbrev whole : Within → List Entry
    whole g = of_kids (map entries_in nodes ++ g ∷ map entries_in later) k home front 0 a (with_own es mine)

    beside_it : (m : ℕ) → (m ≡ n → ⊥) → is_in (front ▸ m) at ≡ false
    beside_it m differ = subst (λ (q : List ℕ). is_in (front ▸ m) q ≡ false) there (beside front m (length nodes) rest (λ same. differ (same ∙ sym many)))

    not_at : bytes_eq front at ≡ false
    not_at = subst (λ (q : List ℕ). bytes_eq front q ≡ false) there (longer_path front (length nodes) rest)

    middle_before : Before middle
    middle_before e has = by (kids_inside (map entries_in nodes) (all_inside nodes) k home front 0 a (with_own es mine) e has)
      where
        by_own : Contains es e ⊎ (e.place ≡ front) → bytes_eq e.place at ≡ false
        by_own (inl old) = before e old
        by_own (inr same) = subst (λ (q : List ℕ). bytes_eq q at ≡ false) (sym same) not_at

        by : Contains (with_own es mine) e ⊎ InKid front 0 (length (map entries_in nodes)) e → bytes_eq e.place at ≡ false
        by (inl old) = by_own (own_inside text front es (saying k front a) e old)
        by (inr (m, low, high, is)) = false_from_ne_true (bytes_eq e.place at) (λ t.
            let same : e.place ≡ at = (bytes_decides e.place at).0 t in
            let inner : is_in (front ▸ m) at ≡ true = subst (λ (q : List ℕ). is_in (front ▸ m) q ≡ true) same is in
            let outer : is_in (front ▸ m) at ≡ false = beside_it m (λ equal. omega (arith, equal, high)) in
            cc)

    kid_renamed : (old new_one : Within) → (IsAlone at new (with_kid old) → with_kid new_one ≡ map f (with_kid old)) → IsAlone at new (whole old) → whole new_one ≡ map f (whole old)
    kid_renamed old new_one further is =
        let gs : List Within = map entries_in later in
        let split : (g : Within) → whole g ≡ of_kids gs k home front (n + 1) a (with_kid g) = λ g. shifted (map entries_in nodes) (g ∷ gs) k home front 0 a (with_own es mine) in
        let all : IsAlone at new (of_kids gs k home front (n + 1) a (with_kid old)) = subst (λ (xs : List Entry). IsAlone at new xs) (split old) is in
        let kid : IsAlone at new (with_kid old) = alone_front (with_kid old) (of_kids gs k home front (n + 1) a (with_kid old)) (kids_add gs (all_add later) k home front (n + 1) a (with_kid old)) all in
        split new_one
        ∙ ap (λ (xs : List Entry). of_kids gs k home front (n + 1) a xs) (further kid)
        ∙ kids_keep gs (all_keep later) k home front (n + 1) a (with_kid old) (λ m low. beside_it m (λ equal. omega (arith, equal, low))) all
        ∙ ap (map f) (sym (split old))

  pub along : (path : List ℕ) (x y : Node) → IsRenamed new path x y → (front : List ℕ) (a : Around) (es : List Entry) → front ++ path ≡ at → Before es → IsAlone at new (entries_in x front a es) → entries_in y front a es ≡ map f (entries_in x front a es)
  along path x y (here k old notes kids) front a es there before =
      let same : front ≡ at = sym (append-nil front) ∙ there in
      let P : List ℕ → Type 0 = λ q. IsAlone at new (entries_in (node_of k old notes kids) q a es) → entries_in (node_of k new notes kids) q a es ≡ map f (entries_in (node_of k old notes kids) q a es) in
      subst P (sym same) (node_here k old notes kids a es before)
  along path x y (inside k text notes nodes old renamed_one later rest is) front a es there before =
      let layer : List Within → List Entry = λ gs. of_kids gs k (home_of front (own k text front a es)) front 0 a (with_own es (own k text front a es)) in
      let P : Within → Type 0 = λ g. IsAlone at new (g front a es) → entries_in (node_of k text notes (nodes ++ renamed_one ∷ later)) front a es ≡ map f (g front a es) in
      let Q : Within → Type 0 = λ g. IsAlone at new (layer (map entries_in (nodes ++ old ∷ later))) → g front a es ≡ map f (layer (map entries_in (nodes ++ old ∷ later))) in
      let R : List Within → Type 0 = λ gs. IsAlone at new (layer gs) → layer (map entries_in (nodes ++ renamed_one ∷ later)) ≡ map f (layer gs) in
      let S : List Within → Type 0 = λ gs. IsAlone at new (layer (map entries_in nodes ++ entries_in old ∷ map entries_in later)) → layer gs ≡ map f (layer (map entries_in nodes ++ entries_in old ∷ map entries_in later)) in
      let n : ℕ = 0 + length (map entries_in nodes) in
      let inner : (front ▸ n) ++ rest ≡ at = append_assoc front (n ∷ []) rest ∙ ap (λ (m : ℕ). front ++ m ∷ rest) (many k text front a es before nodes later rest there) ∙ there in
      subst P (sym (node_entries k text notes (nodes ++ old ∷ later))) (subst Q (sym (node_entries k text notes (nodes ++ renamed_one ∷ later)))
      (subst R (sym (map-append entries_in nodes (old ∷ later))) (subst S (sym (map-append entries_in nodes (renamed_one ∷ later)))
      (kid_renamed k text front a es before nodes later rest there (entries_in old) (entries_in renamed_one)
      (along rest old renamed_one is (front ▸ n) (down k (home_of front (own k text front a es)) front n a) (of_kids (map entries_in nodes) k (home_of front (own k text front a es)) front 0 a (with_own es (own k text front a es))) inner (middle_before k text front a es before nodes later rest there))))))
