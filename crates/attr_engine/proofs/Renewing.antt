-- Old trees under another inherited attribute.
use Rattle.std.proofs.Common.{◌≡◌, ℕ, ◌+◌, ◌<◌, ◌≤◌, List, ◌∷◌, length, get_or, map, drop, Bool, false, sym, ◌∙◌, ap, subst, arith}
use Rattle.std.specs.List.{AllByRecursion}
use Rattle.std.proofs.lemmas.List.Elements.{All-from_recursion}
use Rattle.attr_engine.specs.declared.node.Node.{Node, Node-F, out-roll-Node}
use Rattle.attr_engine.specs.Rules.{Rules}
use Rattle.attr_engine.specs.Nodes.{label_of, need_of, input_of, kids_of, done}
use Rattle.attr_engine.specs.Fresh.{Growth, finished, regrowth, IsFresh}
use Rattle.attr_engine.specs.Moved.{sum_at, moved}
use Rattle.attr_engine.proofs.Counting.{moved_otherwise}
use Rattle.attr_engine.proofs.Growths.{regrowth_out, fresh_layer, fresh_kids, lawful}
use Rattle.attr_engine.proofs.SoFar.{nodes_from, cost_from, next, IsSoFar, one_more, so_far_le, part_le}

module _ {Label Need In Out : Type 0} (rules : Rules Label Need In Out) where
  pub fresh_need : (node : Node Label Need In Out) → IsFresh rules node → (regrowth rules node).need ≡ need_of node
  fresh_need node h =
      ap (λ (g : Growth Label Need In Out). g.need) (regrowth_out rules node)
      ∙ sym (ap (λ (layer : Node-F Label Need In Out (Node Label Need In Out)). layer.need) (fresh_layer rules node h))

  pub fresh_kid : (node old kid : Node Label Need In Out) (kids : List (Node Label Need In Out)) (number : ℕ) → IsFresh rules node → old ≡ node → kids ≡ kids_of old →
      number < length kids → kid ≡ get_or kids number kid → IsFresh rules kid
  fresh_kid node old kid kids number h o k within at =
      let P = λ (nodes : List (Node Label Need In Out)). AllByRecursion (IsFresh rules) nodes in
      let all = subst P (sym (k ∙ ap kids_of o)) (fresh_kids rules node h) in
      subst (λ (n : Node Label Need In Out). IsFresh rules n) (sym at) (All-from_recursion (IsFresh rules) kids all number kid within)

module _ {Label Need In Out : Type 0} (rules : Rules Label Need In Out) (same_in : In → In → Bool) (same_out : Out → Out → Bool) where
  -- the children of an old node under another inherited attribute
  abbrev pub below : Node Label Need In Out → In → List (Node Label Need In Out) → List (Node Label Need In Out)
  below old input kids = nodes_from rules (label_of old) input (regrowth rules) (moved same_in same_out) 0 kids

  abbrev pub cost_below : Node Label Need In Out → In → List (Node Label Need In Out) → ℕ
  cost_below old input kids = cost_from rules (label_of old) input (regrowth rules) (moved same_in same_out) 0 kids

  abbrev pub IsRenewed : Node Label Need In Out → In → ℕ → List (Node Label Need In Out) → List (Node Label Need In Out) → ℕ → ℕ → Type 0
  IsRenewed old input number kids later start steps = IsSoFar rules (label_of old) input (regrowth rules) (moved same_in same_out) number kids later start steps

  pub whole : (node : Node Label Need In Out) (input : In) → IsFresh rules node →
      (regrowth rules node).under input ≡ finished rules (label_of node) (need_of node) input (below node input (kids_of node))
  whole node input h =
      let kids = below node input (kids_of node) in
      ap (λ (g : Growth Label Need In Out). g.under input) (regrowth_out rules node)
      ∙ ap (λ need. finished rules (label_of node) need input kids) (sym (ap (λ (layer : Node-F Label Need In Out (Node Label Need In Out)). layer.need) (fresh_layer rules node h)))

  kids_of_whole : (node : Node Label Need In Out) (input : In) → IsFresh rules node →
      kids_of ((regrowth rules node).under input) ≡ below node input (kids_of node)
  kids_of_whole node input h =
      ap kids_of (whole node input h) ∙ ap (λ (layer : Node-F Label Need In Out (Node Label Need In Out)). layer.kids) (out-roll-Node _ _ _ _ _)

  cost : (node : Node Label Need In Out) (input : In) → IsFresh rules node → same_in (input_of node) input ≡ false →
      moved same_in same_out node ((regrowth rules node).under input) ≡ 1 + cost_below node input (kids_of node)
  cost node input h other =
      let new = (regrowth rules node).under input in
      moved_otherwise same_in same_out node new (ap (same_in (input_of node)) ((lawful rules node).stands input) ∙ other)
      ∙ ap (λ nodes. 1 + sum_at (map (moved same_in same_out) (kids_of node)) nodes) (kids_of_whole node input h)

  -- what the code knows where the old tree doesn't serve
  pub record IsOther (node old : Node Label Need In Out) (kids : List (Node Label Need In Out)) (input : In) : Type 0 where
    pub fresh : IsFresh rules node
    pub opened : old ≡ node
    pub listed : kids ≡ kids_of old
    pub other : same_in (input_of old) input ≡ false

  pub cost_at : (node old : Node Label Need In Out) (kids : List (Node Label Need In Out)) (input : In) → IsOther node old kids input →
      moved same_in same_out node ((regrowth rules node).under input) ≡ 1 + cost_below old input kids
  cost_at node old kids input h =
      cost node input h.fresh (ap (λ n. same_in (input_of n) input) (sym h.opened) ∙ h.other)
      ∙ ap (λ n. 1 + cost_below n input (kids_of n)) (sym h.opened) ∙ ap (λ nodes. 1 + cost_below old input nodes) (sym h.listed)

  pub so_far_bound : (node old : Node Label Need In Out) (kids later : List (Node Label Need In Out)) (input : In) (number start steps : ℕ) → IsOther node old kids input →
      IsRenewed old input number kids later start steps → steps ≤ start + moved same_in same_out node ((regrowth rules node).under input)
  so_far_bound node old kids later input number start steps h s =
      let most : steps ≤ start + cost_below old input kids = so_far_le rules (label_of old) input (regrowth rules) (moved same_in same_out) number kids later start steps s in
      omega (arith, most, cost_at node old kids input h)

  pub next_is : (old kid : Node Label Need In Out) (later : List (Node Label Need In Out)) (input under : In) (number : ℕ) → IsFresh rules kid →
      under ≡ rules.down (label_of old) input number (need_of kid) (done later) →
      (regrowth rules kid).under under ≡ next rules (label_of old) input (regrowth rules) (moved same_in same_out) number kid later
  next_is old kid later input under number h e =
      ap (regrowth rules kid).under (e ∙ ap (λ need. rules.down (label_of old) input number need (done later)) (sym (fresh_need rules kid h)))

  -- what the code knows of the child that it comes to
  pub record IsNext (old kid : Node Label Need In Out) (kids later : List (Node Label Need In Out)) (input under : In) (before number : ℕ) : Type 0 where
    pub down_by_one : before ≡ number + 1
    pub within : number < length kids
    pub at : kid ≡ get_or kids number kid
    pub serves : under ≡ rules.down (label_of old) input number (need_of kid) (done later)

  pub part_bound : (node old kid : Node Label Need In Out) (kids later : List (Node Label Need In Out)) (input under : In) (before number start steps after : ℕ) →
      IsOther node old kids input → IsNext old kid kids later input under before number → IsRenewed old input before kids later start steps →
      after ≤ steps + moved same_in same_out kid ((regrowth rules kid).under under) →
      after ≤ start + moved same_in same_out node ((regrowth rules node).under input)
  part_bound node old kid kids later input under before number start steps after h n s t =
      let kid_fresh = fresh_kid rules node old kid kids number h.fresh h.opened h.listed n.within n.at in
      let here = ap (moved same_in same_out kid) (next_is old kid later input under number kid_fresh n.serves) in
      let most : after ≤ start + cost_below old input kids = part_le rules (label_of old) input (regrowth rules) (moved same_in same_out) before number kids kid later start steps after
      n.down_by_one n.within n.at s (omega (arith, t, here)) in
      omega (arith, most, cost_at node old kids input h)

  pub one_renewed : (node old kid new : Node Label Need In Out) (kids later : List (Node Label Need In Out)) (input under : In) (before number start steps after : ℕ) →
      IsOther node old kids input → IsNext old kid kids later input under before number → IsRenewed old input before kids later start steps →
      new ≡ (regrowth rules kid).under under → after ≡ steps + moved same_in same_out kid new →
      IsRenewed old input number kids (new ∷ later) start after
  one_renewed node old kid new kids later input under before number start steps after h n s e t =
      let kid_fresh = fresh_kid rules node old kid kids number h.fresh h.opened h.listed n.within n.at in
      one_more rules (label_of old) input (regrowth rules) (moved same_in same_out) before number kids kid later new start steps after
      n.down_by_one n.within n.at s (e ∙ next_is old kid later input under number kid_fresh n.serves) t

  pub served : (l l' : Label) (input : In) (number : ℕ) (n n' : Need) (ds ds' : List Out) (under : In) →
      under ≡ rules.down l input number n ds → l ≡ l' → n ≡ n' → ds ≡ ds' → under ≡ rules.down l' input number n' ds'
  served l l' input number n n' ds ds' under e el en ed =
      e ∙ ap (λ x. rules.down x input number n ds) el ∙ ap (λ x. rules.down l' input number x ds) en ∙ ap (rules.down l' input number n') ed

  -- all children are done
  pub finished_is : (node old : Node Label Need In Out) (kids later : List (Node Label Need In Out)) (input : In) (number start steps : ℕ) (label : Label) (need : Need) →
      IsOther node old kids input → IsRenewed old input number kids later start steps → number ≡ 0 → label ≡ label_of old → need ≡ need_of old →
      finished rules label need input later ≡ (regrowth rules node).under input
  finished_is node old kids later input number start steps label need h s z l n =
      let children_are : later ≡ below old input kids = s.nodes ∙ ap (λ k. nodes_from rules (label_of old) input (regrowth rules) (moved same_in same_out) k (drop k kids)) z in
      ap (λ x. finished rules x need input later) l ∙ ap (λ x. finished rules (label_of old) x input later) n ∙ ap (finished rules (label_of old) (need_of old) input) children_are
      ∙ ap (finished rules (label_of old) (need_of old) input) (ap (below old input) h.listed)
      ∙ ap (λ o. finished rules (label_of o) (need_of o) input (below o input (kids_of o))) h.opened ∙ sym (whole node input h.fresh)

  pub all_ticks : (node old : Node Label Need In Out) (kids later : List (Node Label Need In Out)) (input : In) (number start steps : ℕ) →
      IsOther node old kids input → IsRenewed old input number kids later start steps → number ≡ 0 →
      steps + 1 ≡ start + moved same_in same_out node ((regrowth rules node).under input)
  all_ticks node old kids later input number start steps h s z =
      let t : steps ≡ start + cost_below old input kids =
      s.ticks ∙ ap (λ k. start + cost_from rules (label_of old) input (regrowth rules) (moved same_in same_out) k (drop k kids)) z in
      omega (arith, t, cost_at node old kids input h)
