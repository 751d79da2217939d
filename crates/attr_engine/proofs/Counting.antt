-- The nodes that moved.
use Rattle.std.proofs.Common.{◌≡◌, ℕ, ◌+◌, List, [], ◌∷◌, map, sum, Bool, true, false, ◌&&◌, if◌then◌else◌, refl, sym, ◌∙◌, ap, subst, arith}
use lib.Pointwise.{pointwise}
use Rattle.std.proofs.lemmas.List.{map-id}
use Rattle.std.proofs.lemmas.Simd.{map-map}
use Rattle.attr_engine.specs.declared.node.Node.{Node, Node-F, out-Node, out-roll-Node, roll-Node, roll-out-Node, fold_out-Node, para-roll-Node, ind-Node}
use Rattle.attr_engine.specs.Nodes.{input_of, kids_of, outs}
use Rattle.attr_engine.specs.Moved.{sum_at, all_new, moved_from, moved, moved_below}

module _ {Label Need In Out : Type 0} where
  pub all_new_out : (node : Node Label Need In Out) → all_new node ≡ sum (map all_new (kids_of node)) + 1
  unfolding all_new
  all_new_out node = fold_out-Node _ _ _ _ ℕ (λ layer. sum layer.kids + 1) node

pub pointwise_same : {A : Type 0} (same : A → A → Bool) → ((x : A) → same x x ≡ true) → (xs : List A) → pointwise same xs xs ≡ true
pointwise_same same h [] = refl
pointwise_same same h (x ∷ xs) = ap (λ b. b && pointwise same xs xs) (h x) ∙ pointwise_same same h xs

module _ {Label Need In Out : Type 0} (same_in : In → In → Bool) (same_out : Out → Out → Bool) where
  pub moved_roll : (layer : Node-F Label Need In Out (Node Label Need In Out)) →
      moved same_in same_out (roll-Node _ _ _ _ layer) ≡ moved_from same_in same_out layer.input (outs layer.kids) (map (moved same_in same_out) layer.kids)
  unfolding moved
  moved_roll layer =
      let pair : Node Label Need In Out → Node Label Need In Out × (Node Label Need In Out → ℕ) = λ kid. (kid, moved same_in same_out kid) in
      let first = λ (p : Node Label Need In Out × (Node Label Need In Out → ℕ)). p.0 in
      let second = λ (p : Node Label Need In Out × (Node Label Need In Out → ℕ)). p.1 in
      let firsts : map first (map pair layer.kids) ≡ layer.kids = map-map first pair layer.kids ∙ map-id layer.kids in
      let seconds : map second (map pair layer.kids) ≡ map (moved same_in same_out) layer.kids = map-map second pair layer.kids in
      para-roll-Node _ _ _ _ (Node Label Need In Out → ℕ)
      (λ layer. moved_from same_in same_out layer.input (outs (map (λ kid. kid.0) layer.kids)) (map (λ kid. kid.1) layer.kids)) layer
      ∙ ap (λ kids. moved_from same_in same_out layer.input (outs kids) (map second (map pair layer.kids))) firsts
      ∙ ap (moved_from same_in same_out layer.input (outs layer.kids)) seconds

  pub moved_out : (old : Node Label Need In Out) → moved same_in same_out old ≡ moved_below same_in same_out old (map (moved same_in same_out) (kids_of old))
  moved_out old = sym (ap (moved same_in same_out) (roll-out-Node _ _ _ _ old)) ∙ moved_roll (out-Node _ _ _ _ old)

  -- where the inherited attribute differs
  pub moved_otherwise : (old node : Node Label Need In Out) → same_in (input_of old) (input_of node) ≡ false →
      moved same_in same_out old node ≡ 1 + sum_at (map (moved same_in same_out) (kids_of old)) (kids_of node)
  moved_otherwise old node h =
      let below = sum_at (map (moved same_in same_out) (kids_of old)) (kids_of node) in
      let alike = pointwise same_out (outs (kids_of old)) (outs (kids_of node)) in
      ap (λ (count : Node Label Need In Out → ℕ). count node) (moved_out old) ∙ ap (λ b. (if b && alike then 0 else 1) + below) h

  none_moved : (ys : List ((node : Node Label Need In Out) × (moved same_in same_out node node ≡ 0))) →
      let nodes = map (λ y. y.0) ys in sum_at (map (moved same_in same_out) nodes) nodes ≡ 0
  none_moved [] = refl
  none_moved (y ∷ ys) = omega (arith, y.1, none_moved ys)

  -- a tree that stays
  pub moved_same : ((x : In) → same_in x x ≡ true) → ((x : Out) → same_out x x ≡ true) → (node : Node Label Need In Out) → moved same_in same_out node node ≡ 0
  moved_same in_same out_same = ind-Node _ _ _ _ (λ node. moved same_in same_out node node ≡ 0) (λ x y is.
      let whole = roll-Node _ _ _ _ x in
      let at = λ (layer : Node-F Label Need In Out (Node Label Need In Out)).
      (if same_in x.input layer.input && pointwise same_out (outs x.kids) (outs layer.kids) then 0 else 1) + sum_at (map (moved same_in same_out) x.kids) layer.kids in
      let below = λ (layer : Node-F Label Need In Out (Node Label Need In Out)). sum_at (map (moved same_in same_out) layer.kids) layer.kids ≡ 0 in
      ap (λ (count : Node Label Need In Out → ℕ). count whole) (moved_roll x) ∙ ap at (out-roll-Node _ _ _ _ x)
      ∙ ap (λ b. (if b && pointwise same_out (outs x.kids) (outs x.kids) then 0 else 1) + sum_at (map (moved same_in same_out) x.kids) x.kids) (in_same x.input)
      ∙ ap (λ b. (if b then 0 else 1) + sum_at (map (moved same_in same_out) x.kids) x.kids) (pointwise_same same_out out_same (outs x.kids))
      ∙ (let e : sum_at (map (moved same_in same_out) x.kids) x.kids ≡ 0 = subst below is (none_moved y.kids) in omega (arith, e)))
