-- What symbols do to values shows in what limits see of them as `rise` says.
use Rattle.std.proofs.Common.{◌≡◌, ℕ, ◌+◌, List, [], ◌∷◌, ◌++◌, refl, sym, ◌∙◌, ap, map, take, drop, Bool, true, false, arith}
use Rattle.std.specs.Prelude.{min, max, if◌then◌else◌}
use Rattle.std.specs.Prelude.{not, ◌&&◌}
use Rattle.std.proofs.lemmas.Bool.{and_parts, not-true}
use Rattle.std.proofs.lemmas.List.{take-map, drop-map, map-append}
use Rattle.ada_tree.specs.declared.kind.Kind.{Kind}
use Rattle.ada_tree.specs.declared.node.Node.{Node, fold-roll-Node, fold_out-Node}
use Rattle.ada_tree.specs.Nodes.{kind_of, text_of, notes_of, kids_of, node_of, greatest, nesting_of, is_nested, is_step}
use Rattle.reading_table.specs.declared.held.Held.{Held}
use Rattle.reading_table.specs.declared.held.Held.TheVariants as held
use Rattle.reading_table.specs.declared.need.Height.{Height}
use Rattle.reading_table.specs.declared.need.Mass.TheVariants as mass
use Rattle.reading_table.specs.Heights.{tallest, raised, higher, own_height, height_of, mass_of, masses, highest, built_mass}
use Rattle.reading_table.specs.States.{nodes_in, text_in, built, with_notes}

-- ---- heights of nodes that are made

pub height_is : (a b : Height) → a.nodes ≡ b.nodes → a.steps ≡ b.steps → a ≡ b
height_is a b e f = ap (λ n. record a { nodes = n }) e ∙ ap (λ n. record b { steps = n }) f

greatest-append : (xs ys : List ℕ) → greatest (xs ++ ys) ≡ max (greatest xs) (greatest ys)
greatest-append [] ys = omega arith
greatest-append (x ∷ xs) ys = omega (arith, greatest-append xs ys)

-- one node more
nesting_in : (test : Kind → Bool) (nodes : List Node) (node : Node) → greatest (map (nesting_of test) (nodes ++ node ∷ [])) ≡ max (nesting_of test node) (greatest (map (nesting_of test) nodes))
nesting_in test nodes node =
    let e = ap greatest (map-append (nesting_of test) nodes (node ∷ [])) ∙ greatest-append (map (nesting_of test) nodes) (nesting_of test node ∷ []) in
    omega (arith, e)

nesting_at : (test : Kind → Bool) (k : Kind) (text : List ℕ) (notes : List (List ℕ)) (kids : List Node) → nesting_of test (node_of k text notes kids) ≡ (if test k then 1 else 0) + greatest (map (nesting_of test) kids)
nesting_at test k text notes kids = fold-roll-Node ℕ (λ layer. (if test layer.kind then 1 else 0) + greatest layer.kids) record { kind = k; text = text; notes = notes; kids = kids }

nesting_out : (test : Kind → Bool) (node : Node) → nesting_of test node ≡ (if test (kind_of node) then 1 else 0) + greatest (map (nesting_of test) (kids_of node))
nesting_out test node = fold_out-Node ℕ (λ layer. (if test layer.kind then 1 else 0) + greatest layer.kids) node

-- the nesting, as far as limits go
abbrev capped : (Kind → Bool) → List Node → ℕ
capped test nodes = min (greatest (map (nesting_of test) nodes)) tallest

highest_is : (values : List Held) → highest (masses values) ≡ record { nodes = capped is_nested (nodes_in values); steps = capped is_step (nodes_in values) }
highest_is [] = refl
highest_is (held.Text text ∷ values) = height_is _ _ (ap (λ (h : Height). max 0 h.nodes) (highest_is values) ∙ omega arith) (ap (λ (h : Height). max 0 h.steps) (highest_is values) ∙ omega arith)
highest_is (held.Comments comments ∷ values) = height_is _ _ (ap (λ (h : Height). max 0 h.nodes) (highest_is values) ∙ omega arith) (ap (λ (h : Height). max 0 h.steps) (highest_is values) ∙ omega arith)
highest_is (held.Tree node ∷ values) =
    let e = highest_is values in
    let n = ap (λ (h : Height). h.nodes) e in
    let s = ap (λ (h : Height). h.steps) e in
    let a = nesting_in is_nested (nodes_in values) node in
    let b = nesting_in is_step (nodes_in values) node in
    height_is _ _ (omega (arith, n, a)) (omega (arith, s, b))

-- ---- what symbols do

pub built_is : (k : Kind) (count : ℕ) (values : List Held) → masses (built k count values) ≡ built_mass k count (masses values)
built_is k count values =
    let vs = take count values in
    let text = text_in vs in
    let kids = nodes_in vs in
    let e : highest (take count (masses values)) ≡ record { nodes = capped is_nested kids; steps = capped is_step kids } = ap highest (take-map mass_of count values) ∙ highest_is vs in
    let n = ap (λ (h : Height). h.nodes) e in
    let s = ap (λ (h : Height). h.steps) e in
    let a = nesting_at is_nested k text [] kids in
    let b = nesting_at is_step k text [] kids in
    let h : height_of (node_of k text [] kids) ≡ raised (highest (take count (masses values))) (own_height k) = height_is _ _ (omega (arith, n, a)) (omega (arith, s, b)) in
    ap (λ (h : Height). mass.Tree h ∷ masses (drop count values)) h ∙ ap (λ ms. mass.Tree (raised (highest (take count (masses values))) (own_height k)) ∷ ms) (sym (drop-map mass_of count values))

-- a kind that limits don't count
abbrev pub is_plain : Kind → Bool
is_plain k = not (is_nested k) && not (is_step k)

counted_joined : (test : Kind → Bool) (member list : Node) → test (kind_of list) ≡ false
    → nesting_of test (node_of (kind_of list) (text_of list) (notes_of list) (kids_of list ++ member ∷ [])) ≡ max (nesting_of test member) (nesting_of test list)
counted_joined test member list h =
    let a = nesting_at test (kind_of list) (text_of list) (notes_of list) (kids_of list ++ member ∷ []) in
    let b = nesting_out test list in
    let c = nesting_in test (kids_of list) member in
    let counted : Bool → ℕ = λ b. if b then 1 else 0 in
    let z : counted (test (kind_of list)) ≡ counted false = ap counted h in
    omega (arith, a, b, c, z)

pub height_joined : (member list : Node) → is_plain (kind_of list) ≡ true
    → height_of (node_of (kind_of list) (text_of list) (notes_of list) (kids_of list ++ member ∷ [])) ≡ higher (height_of member) (height_of list)
height_joined member list h =
    let p = and_parts (not (is_nested (kind_of list))) (not (is_step (kind_of list))) h in
    let n = counted_joined is_nested member list (not-true (is_nested (kind_of list)) p.0) in
    let s = counted_joined is_step member list (not-true (is_step (kind_of list)) p.1) in
    height_is _ _ (omega (arith, n)) (omega (arith, s))

nesting_noted : (test : Kind → Bool) (notes : List (List ℕ)) (node : Node) → nesting_of test (with_notes notes node) ≡ nesting_of test node
nesting_noted test notes node = nesting_at test (kind_of node) (text_of node) notes (kids_of node) ∙ sym (nesting_out test node)

pub height_noted : (notes : List (List ℕ)) (node : Node) → height_of (with_notes notes node) ≡ height_of node
height_noted notes node =
    let n = nesting_noted is_nested notes node in
    let s = nesting_noted is_step notes node in
    height_is _ _ (omega (arith, n)) (omega (arith, s))
