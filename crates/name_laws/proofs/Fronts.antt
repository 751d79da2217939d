-- The entries of a front of a tree.
use Rattle.std.proofs.Common.{◌≡◌, ℕ, suc, ◌+◌, List, [], ◌∷◌, ◌++◌, map, length, append_assoc, Option, Some, None, refl, sym, ap, ◌∙◌, subst}
use Rattle.std.proofs.Common.{append-nil, arith}
use Rattle.std.proofs.lemmas.List.{map-append}
use Rattle.std.specs.List.{AllByRecursion}
use Rattle.ada_tree.specs.declared.kind.Kind.{Kind}
use Rattle.ada_tree.specs.declared.node.Node.{Node, Node-F, fold-roll-Node, ind-Node}
use Rattle.ada_tree.specs.Nodes.{node_of}
use Rattle.ada_names.specs.declared.entry.Entry.{Entry}
use Rattle.ada_names.specs.Places.{◌▸◌}
use Rattle.ada_names.specs.Collecting.{Around, Within, of_kids, of_layer, entries_in, down, own, home_of, with_own}
use Rattle.name_laws.specs.Laws.{IsFront, ends, goes_on, BeginsWith}

-- ---- lists that begin with others

pub itself : (es : List Entry) → BeginsWith es es
itself es = ([], sym (append-nil es))

pub longer : (a b c : List Entry) → BeginsWith a b → BeginsWith b c → BeginsWith a c
longer a b c (x, p) (y, q) = (x ++ y, q ∙ ap (λ (es : List Entry). es ++ y) p ∙ append_assoc a x y)

own_begins : (es : List Entry) (mine : Option Entry) → BeginsWith es (with_own es mine)
own_begins es (Some e) = (e ∷ [], refl)
own_begins es None = itself es

-- ---- entries are added at the end

abbrev pub Adds : Within → Type 0
Adds f = (path : List ℕ) (a : Around) (es : List Entry) → BeginsWith es (f path a es)

pub kids_add : (fs : List Within) → AllByRecursion Adds fs → (k : Kind) (home path : List ℕ) (number : ℕ) (a : Around) (es : List Entry) → BeginsWith es (of_kids fs k home path number a es)
kids_add [] h k home path number a es = itself es
kids_add (f ∷ fs) h k home path number a es = longer es (f (path ▸ number) (down k home path number a) es) (of_kids (f ∷ fs) k home path number a es) (h.0 (path ▸ number) (down k home path number a) es) (kids_add fs h.1 k home path (number + 1) a (f (path ▸ number) (down k home path number a) es))

pub layer_adds : (layer : Node-F Within) → AllByRecursion Adds layer.kids → Adds (of_layer layer)
layer_adds layer h path a es =
    let mine : Option Entry = own layer.kind layer.text path a es in
    longer es (with_own es mine) (of_layer layer path a es) (own_begins es mine) (kids_add layer.kids h layer.kind (home_of path mine) path 0 a (with_own es mine))

-- what every layer has, if its kids have it, every node has
pub by_layers : (P : Within → Type 0) → ((layer : Node-F Within) → AllByRecursion P layer.kids → P (of_layer layer)) → (node : Node) → P (entries_in node)
by_layers P layers = ind-Node (λ node. P (entries_in node)) (λ x y is.
    let R : Node-F Node → Type 0 = λ layer. P (of_layer record { kind = layer.kind; text = layer.text; notes = layer.notes; kids = map entries_in layer.kids }) in
    subst P (sym (fold-roll-Node Within of_layer x)) (subst R is (layers record { kind = y.kind; text = y.text; notes = y.notes; kids = map entries_in (map (λ y. y.0) y.kids) } (each y.kids))))
  where
    each : (ys : List ((node : Node) × P (entries_in node))) → AllByRecursion P (map entries_in (map (λ y. y.0) ys))
    each [] = tt
    each (y ∷ ys) = (y.1, each ys)

-- a node adds its entries after those that stand before it
pub adds : (node : Node) → Adds (entries_in node)
adds = by_layers Adds layer_adds

pub all_add : (nodes : List Node) → AllByRecursion Adds (map entries_in nodes)
all_add [] = tt
all_add (node ∷ nodes) = (adds node, all_add nodes)

-- ---- kids in two parts

pub shifted : (fs gs : List Within) (k : Kind) (home path : List ℕ) (number : ℕ) (a : Around) (es : List Entry) → of_kids (fs ++ gs) k home path number a es ≡ of_kids gs k home path (number + length fs) a (of_kids fs k home path number a es)
shifted [] gs k home path number a es = let e : number ≡ number + 0 = omega arith in ap (λ (n : ℕ). of_kids gs k home path n a es) e
shifted (f ∷ fs) gs k home path number a es =
    let e : number + 1 + length fs ≡ number + suc (length fs) = omega arith in
    let first : List Entry = f (path ▸ number) (down k home path number a) es in
    shifted fs gs k home path (number + 1) a first
    ∙ ap (λ (n : ℕ). of_kids gs k home path n a (of_kids fs k home path (number + 1) a first)) e

pub node_entries : (k : Kind) (text : List ℕ) (notes : List (List ℕ)) (kids : List Node) → entries_in (node_of k text notes kids) ≡ of_layer record { kind = k; text = text; notes = notes; kids = map entries_in kids }
node_entries k text notes kids = fold-roll-Node Within of_layer record { kind = k; text = text; notes = notes; kids = kids }

module _ (k : Kind) (text : List ℕ) (path : List ℕ) (a : Around) (es : List Entry) where
  abbrev mine : Option Entry
  mine = own k text path a es

  -- what the kids leave
  abbrev after : List Within → List Entry
  after fs = of_kids fs k (home_of path mine) path 0 a (with_own es mine)

  more_kids : (fs gs : List Within) → AllByRecursion Adds gs → BeginsWith (after fs) (after (fs ++ gs))
  more_kids fs gs h =
      let P : List Entry → Type 0 = λ all. BeginsWith (after fs) all in
      subst P (sym (shifted fs gs k (home_of path mine) path 0 a (with_own es mine))) (kids_add gs h k (home_of path mine) path (0 + length fs) a (after fs))

  longer_kid : (fs : List Within) (f g : Within) (gs : List Within) → ((path : List ℕ) (a : Around) (es : List Entry) → BeginsWith (f path a es) (g path a es)) → AllByRecursion Adds gs → BeginsWith (after (fs ++ f ∷ [])) (after (fs ++ g ∷ gs))
  longer_kid fs f g gs further h =
      let n : ℕ = 0 + length fs in
      let home : List ℕ = home_of path mine in
      let start : List Entry = with_own es mine in
      let P : List Entry → Type 0 = λ all. BeginsWith all (after (fs ++ g ∷ gs)) in
      let Q : List Entry → Type 0 = λ all. BeginsWith (f (path ▸ n) (down k home path n a) (after fs)) all in
      subst P (sym (shifted fs (f ∷ []) k home path 0 a start)) (subst Q (sym (shifted fs (g ∷ gs) k home path 0 a start))
      (longer (f (path ▸ n) (down k home path n a) (after fs)) (g (path ▸ n) (down k home path n a) (after fs)) (of_kids (g ∷ gs) k home path n a (after fs)) (further (path ▸ n) (down k home path n a) (after fs)) (kids_add gs h k home path (n + 1) a (g (path ▸ n) (down k home path n a) (after fs)))))

abbrev pub IsLonger : Within → Within → Type 0
IsLonger f g = (path : List ℕ) (a : Around) (es : List Entry) → BeginsWith (f path a es) (g path a es)

pub fronts : (front whole : Node) → IsFront front whole → IsLonger (entries_in front) (entries_in whole)
fronts front whole (ends k text notes other kids more) =
    let P : Within → Type 0 = λ f. IsLonger f (entries_in (node_of k text other (kids ++ more))) in
    let Q : Within → Type 0 = λ g. IsLonger (of_layer record { kind = k; text = text; notes = notes; kids = map entries_in kids }) g in
    let R : List Within → Type 0 = λ fs. IsLonger (of_layer record { kind = k; text = text; notes = notes; kids = map entries_in kids }) (of_layer record { kind = k; text = text; notes = other; kids = fs }) in
    subst P (sym (node_entries k text notes kids)) (subst Q (sym (node_entries k text other (kids ++ more))) (subst R (sym (map-append entries_in kids more))
    (λ path a es. more_kids k text path a es (map entries_in kids) (map entries_in more) (all_add more))))
fronts front whole (goes_on k text notes other kids x y more h) =
    let P : Within → Type 0 = λ f. IsLonger f (entries_in (node_of k text other (kids ++ y ∷ more))) in
    let Q : Within → Type 0 = λ g. IsLonger (of_layer record { kind = k; text = text; notes = notes; kids = map entries_in (kids ++ x ∷ []) }) g in
    let R : List Within → Type 0 = λ fs. IsLonger (of_layer record { kind = k; text = text; notes = notes; kids = fs }) (of_layer record { kind = k; text = text; notes = other; kids = map entries_in (kids ++ y ∷ more) }) in
    let S : List Within → Type 0 = λ fs. IsLonger (of_layer record { kind = k; text = text; notes = notes; kids = map entries_in kids ++ entries_in x ∷ [] }) (of_layer record { kind = k; text = text; notes = other; kids = fs }) in
    subst P (sym (node_entries k text notes (kids ++ x ∷ []))) (subst Q (sym (node_entries k text other (kids ++ y ∷ more)))
    (subst R (sym (map-append entries_in kids (x ∷ []))) (subst S (sym (map-append entries_in kids (y ∷ more)))
    (λ path a es. longer_kid k text path a es (map entries_in kids) (entries_in x) (entries_in y) (map entries_in more) (fronts x y h) (all_add more)))))
