-- The plans of shapes and edits are right, and become what they stand for.
use Rattle.std.proofs.Common.{◌≡◌, ℕ, ◌+◌, List, [], ◌∷◌, length, map, sum, replicate, Bool, refl, sym, ◌∙◌, ap, subst}
use Rattle.std.specs.List.{AllByRecursion}
use Rattle.attr_engine.specs.declared.shape.Shape.{Shape, Shape-F, out-roll-Shape, fold-roll-Shape, ind-Shape}
use Rattle.attr_engine.specs.declared.node.Node.{Node, Node-F, fold_out-Node, fold-roll-Node, ind-Node}
use Rattle.attr_engine.specs.declared.plan.Plan.{Plan, Plan-F, out-roll-Plan, every_made-Plan}
use Rattle.attr_engine.specs.Rules.{Rules}
use Rattle.attr_engine.specs.Nodes.{shape, shape_label, parts_of, count, label_of, kids_of, node_of, done}
use Rattle.attr_engine.specs.Fresh.{Growth, children, finished, needs, grown, regrowth, growth, shape_of, IsFresh}
use Rattle.attr_engine.specs.Edits.{placed, replaced, spliced}
use Rattle.attr_engine.specs.Moved.{all_new, moved, moved_below, moved_spliced}
use Rattle.attr_engine.specs.Plans.{plan_need, kept_plan, new_plan, paired_plan, plan_growth, plan_moved, IsRightHere, IsRight, planned, planned_along}
use Rattle.attr_engine.proofs.Counting.{all_new_out}
use Rattle.attr_engine.proofs.Growths.{IsLawful, regrowth_node, growth_shape, lawful_grown, kids_of_finished, fresh_kids}
use Rattle.attr_engine.proofs.Lists.{map-placed, placed-map, map-replaced, replaced-map, all_placed, all_replaced, proved, proved_are}
use Rattle.attr_engine.proofs.Planning.{planned_out}
use Rattle.attr_engine.proofs.Settling.{growth_of_layer, moved_of_layer, right_need}

-- ---- shapes

module _ {G Label Need In Out : Type 0} (rules : Rules Label Need In Out) where
  lawful_each : (ys : List ((whole : Shape G Label Need In Out) × IsLawful rules (growth rules whole))) →
      AllByRecursion (IsLawful rules) (map (growth rules) (map (λ y. y.0) ys))
  lawful_each [] = tt
  lawful_each (y ∷ ys) = (y.1, lawful_each ys)

  pub lawful_shape : (whole : Shape G Label Need In Out) → IsLawful rules (growth rules whole)
  lawful_shape = ind-Shape _ _ _ _ _ (λ whole. IsLawful rules (growth rules whole)) (λ x y is.
      let P = λ (layer : Shape-F G Label Need In Out (Shape G Label Need In Out)). IsLawful rules (grown rules layer.label (map (growth rules) layer.kids)) in
      let Q = λ (g : Growth Label Need In Out). IsLawful rules g in
      subst Q (sym (growth_shape rules x.label x.kids)) (subst P is (lawful_grown rules y.label _ (lawful_each y.kids))))

  count_each : (label : Label) (input : In) (number : ℕ)
      (ys : List ((whole : Shape G Label Need In Out) × ((under : In) → all_new ((growth rules whole).under under) ≡ count whole))) →
      let parts = map (λ y. y.0) ys in map all_new (children rules label input number (map (growth rules) parts)) ≡ map count parts
  count_each label input number [] = refl
  count_each label input number (y ∷ ys) =
      let later = children rules label input (number + 1) (map (growth rules) (map (λ z. z.0) ys)) in
      ap (λ n. n ∷ map all_new later) (y.1 (rules.down label input number (growth rules y.0).need (done later)))
      ∙ ap (λ ns. count y.0 ∷ ns) (count_each label input (number + 1) ys)

  count_roll : (label : Label) (parts : List (Shape G Label Need In Out)) → count (shape label parts) ≡ sum (map count parts) + 1
  unfolding count
  count_roll label parts = fold-roll-Shape _ _ _ _ _ ℕ (λ layer. sum layer.kids + 1) record { label = label; kids = parts }

  pub all_new_count : (whole : Shape G Label Need In Out) (under : In) → all_new ((growth rules whole).under under) ≡ count whole
  all_new_count = ind-Shape _ _ _ _ _ (λ whole. (under : In) → all_new ((growth rules whole).under under) ≡ count whole) (λ x y is. λ under.
      let parts = x.kids in
      let P = λ (layer : Shape-F G Label Need In Out (Shape G Label Need In Out)).
      map all_new (children rules x.label under 0 (map (growth rules) layer.kids)) ≡ map count layer.kids in
      let kids = children rules x.label under 0 (map (growth rules) parts) in
      ap (λ (g : Growth Label Need In Out). all_new (g.under under)) (growth_shape rules x.label x.kids)
      ∙ all_new_out (finished rules x.label _ under kids)
      ∙ ap (λ ns. sum (map all_new ns) + 1) (kids_of_finished rules x.label _ under kids)
      ∙ ap (λ ns. sum ns + 1) (subst P is (count_each x.label under 0 y.kids))
      ∙ sym (count_roll x.label x.kids))

-- ---- old trees by their shapes

module _ (G : Type 0) {Label Need In Out : Type 0} (rules : Rules Label Need In Out) where
  shape_roll : (label : Label) (need : Need) (input : In) (out : Out) (kids : List (Node Label Need In Out)) →
      shape_of {G = G} (node_of label need input out kids) ≡ shape label (map shape_of kids)
  unfolding shape_of
  shape_roll label need input out kids = fold-roll-Node _ _ _ _ (Shape G Label Need In Out) (λ layer. shape layer.label layer.kids)
      record { label = label; need = need; input = input; out = out; kids = kids }

  pub shape_out : (node : Node Label Need In Out) → shape_of {G = G} node ≡ shape (label_of node) (map shape_of (kids_of node))
  unfolding shape_of
  shape_out node = fold_out-Node _ _ _ _ (Shape G Label Need In Out) (λ layer. shape layer.label layer.kids) node

  regrown_each : (ys : List ((node : Node Label Need In Out) × (regrowth rules node ≡ growth rules (shape_of {G = G} node)))) →
      let nodes = map (λ y. y.0) ys in map (regrowth rules) nodes ≡ map (growth rules) (map (shape_of {G = G}) nodes)
  regrown_each [] = refl
  regrown_each (y ∷ ys) = ap (λ g. g ∷ map (regrowth rules) (map (λ z. z.0) ys)) y.1 ∙ ap (λ gs. growth rules (shape_of {G = G} y.0) ∷ gs) (regrown_each ys)

  pub regrown : (node : Node Label Need In Out) → regrowth rules node ≡ growth rules (shape_of {G = G} node)
  regrown = ind-Node _ _ _ _ (λ node. regrowth rules node ≡ growth rules (shape_of {G = G} node)) (λ x y is.
      let P = λ (layer : Node-F Label Need In Out (Node Label Need In Out)). map (regrowth rules) layer.kids ≡ map (growth rules) (map (shape_of {G = G}) layer.kids) in
      regrowth_node rules x.label x.need x.input x.out x.kids ∙ ap (grown rules x.label) (subst P is (regrown_each y.kids))
      ∙ sym (growth_shape rules x.label (map shape_of x.kids)) ∙ ap (growth rules) (sym (shape_roll x.label x.need x.input x.out x.kids)))

-- ---- plans, by how they are made

module _ {Label Need In Out : Type 0} (rules : Rules Label Need In Out) (same_in : In → In → Bool) (same_out : Out → Out → Bool) where
  needs_are : (kids : List (Plan Label Need In Out)) → AllByRecursion (IsRight rules same_in same_out) kids → map plan_need kids ≡ needs (map (plan_growth rules) kids)
  needs_are [] h = refl
  needs_are (kid ∷ kids) h = ap (λ n. n ∷ map plan_need kids) (right_need rules same_in same_out kid h.0) ∙ ap (λ ns. (plan_growth rules kid).need ∷ ns) (needs_are kids h.1)

  pub right_kept : (node : Node Label Need In Out) → IsFresh rules node → IsRight rules same_in same_out (kept_plan node)
  unfolding IsRight
  right_kept node h = every_made-Plan _ _ _ _ (IsRightHere rules same_in same_out) (Plan-F.Kept node) (Plan-F.Kept node) refl h

  pub right_new : (label : Label) (kids : List (Plan Label Need In Out)) → AllByRecursion (IsRight rules same_in same_out) kids →
      map (plan_moved same_in same_out) kids ≡ map (λ kid. all_new) kids → IsRight rules same_in same_out (new_plan rules label kids)
  unfolding IsRight
  right_new label kids h e =
      let need = rules.need label (map plan_need kids) in
      every_made-Plan _ _ _ _ (IsRightHere rules same_in same_out) (Plan-F.New label need kids) (Plan-F.New label need (proved (IsRight rules same_in same_out) kids h))
      (ap (λ ks. Plan-F.New label need ks) (proved_are (IsRight rules same_in same_out) kids h))
      (ap (rules.need label) (needs_are kids h), e)

  pub right_paired : (old : Node Label Need In Out) (kids : List (Plan Label Need In Out)) → IsFresh rules old → AllByRecursion (IsRight rules same_in same_out) kids →
      IsRight rules same_in same_out (paired_plan rules old kids)
  unfolding IsRight
  right_paired old kids f h =
      let need = rules.need (label_of old) (map plan_need kids) in
      every_made-Plan _ _ _ _ (IsRightHere rules same_in same_out) (Plan-F.Paired old need kids) (Plan-F.Paired old need (proved (IsRight rules same_in same_out) kids h))
      (ap (λ ks. Plan-F.Paired old need ks) (proved_are (IsRight rules same_in same_out) kids h))
      (f, ap (rules.need (label_of old)) (needs_are kids h))

  pub kept_growth : (node : Node Label Need In Out) → plan_growth rules (kept_plan node) ≡ regrowth rules node
  kept_growth node = growth_of_layer rules same_in same_out (kept_plan node) (Plan-F.Kept node) (out-roll-Plan _ _ _ _ _)

  pub kept_moved : (node : Node Label Need In Out) → plan_moved same_in same_out (kept_plan node) ≡ moved same_in same_out node
  kept_moved node = moved_of_layer rules same_in same_out (kept_plan node) (Plan-F.Kept node) (out-roll-Plan _ _ _ _ _)

  pub paired_growth : (old : Node Label Need In Out) (kids : List (Plan Label Need In Out)) → plan_growth rules (paired_plan rules old kids) ≡ grown rules (label_of old) (map (plan_growth rules) kids)
  paired_growth old kids = growth_of_layer rules same_in same_out (paired_plan rules old kids) _ (out-roll-Plan _ _ _ _ _)

  pub paired_moved : (old : Node Label Need In Out) (kids : List (Plan Label Need In Out)) →
      plan_moved same_in same_out (paired_plan rules old kids) ≡ moved_below same_in same_out old (map (plan_moved same_in same_out) kids)
  paired_moved old kids = moved_of_layer rules same_in same_out (paired_plan rules old kids) _ (out-roll-Plan _ _ _ _ _)

  pub right_along : (path : List ℕ) (from to : ℕ) (made : List (Plan Label Need In Out)) → AllByRecursion (IsRight rules same_in same_out) made →
      (old : Node Label Need In Out) → IsFresh rules old → IsRight rules same_in same_out (planned_along rules path from to made old)
  right_along [] from to made m old f =
      right_paired old _ f (all_replaced (IsFresh rules) (IsRight rules same_in same_out) from to made kept_plan m right_kept (kids_of old) (fresh_kids rules old f))
  right_along (number ∷ path) from to made m old f =
      right_paired old _ f (all_placed (IsFresh rules) (IsRight rules same_in same_out) number (planned_along rules path from to made) kept_plan
      (right_along path from to made m) right_kept (kids_of old) (fresh_kids rules old f))

module _ (S : Type 0) {Label Need In Out : Type 0} (rules : Rules Label Need In Out) (same_in : In → In → Bool) (same_out : Out → Out → Bool) where
  pub kept_as_shape : (node : Node Label Need In Out) → plan_growth rules (kept_plan node) ≡ growth rules (shape_of {G = S} node)
  kept_as_shape node = kept_growth rules same_in same_out node ∙ regrown S rules node

-- ---- the plan of a shape

module _ {G Label Need In Out : Type 0} (rules : Rules Label Need In Out) (same_in : In → In → Bool) (same_out : Out → Out → Bool) where
  planned_roll : (label : Label) (parts : List (Shape G Label Need In Out)) → planned rules (shape label parts) ≡ new_plan rules label (map (planned rules) parts)
  unfolding planned
  planned_roll label parts = fold-roll-Shape _ _ _ _ _ (Plan Label Need In Out) (λ layer. new_plan rules layer.label layer.kids) record { label = label; kids = parts }

  pub planned_moved : (whole : Shape G Label Need In Out) → plan_moved same_in same_out (planned rules whole) ≡ all_new
  planned_moved whole =
      ap (plan_moved same_in same_out) (planned_out rules whole)
      ∙ moved_of_layer rules same_in same_out (new_plan rules (shape_label whole) (map (planned rules) (parts_of whole))) _ (out-roll-Plan _ _ _ _ _)

  all_planned_moved : (parts : List (Shape G Label Need In Out)) → map (plan_moved same_in same_out) (map (planned rules) parts) ≡ map (λ kid. all_new) (map (planned rules) parts)
  all_planned_moved [] = refl
  all_planned_moved (part ∷ parts) = ap (λ m. m ∷ map (plan_moved same_in same_out) (map (planned rules) parts)) (planned_moved part) ∙ ap (λ ms. all_new ∷ ms) (all_planned_moved parts)

  pub planned_new_ones : (parts : List (Shape G Label Need In Out)) → map (plan_moved same_in same_out) (map (planned rules) parts) ≡ replicate (length parts) all_new
  planned_new_ones [] = refl
  planned_new_ones (part ∷ parts) = ap (λ m. m ∷ map (plan_moved same_in same_out) (map (planned rules) parts)) (planned_moved part) ∙ ap (λ ms. all_new ∷ ms) (planned_new_ones parts)

  right_each : (ys : List ((whole : Shape G Label Need In Out) × IsRight rules same_in same_out (planned rules whole))) →
      AllByRecursion (IsRight rules same_in same_out) (map (planned rules) (map (λ y. y.0) ys))
  right_each [] = tt
  right_each (y ∷ ys) = (y.1, right_each ys)

  pub planned_right : (whole : Shape G Label Need In Out) → IsRight rules same_in same_out (planned rules whole)
  planned_right = ind-Shape _ _ _ _ _ (λ whole. IsRight rules same_in same_out (planned rules whole)) (λ x y is.
      let P = λ (layer : Shape-F G Label Need In Out (Shape G Label Need In Out)). AllByRecursion (IsRight rules same_in same_out) (map (planned rules) layer.kids) in
      let Q = λ (plan : Plan Label Need In Out). IsRight rules same_in same_out plan in
      subst Q (sym (planned_roll x.label x.kids)) (right_new rules same_in same_out x.label (map (planned rules) x.kids) (subst P is (right_each y.kids)) (all_planned_moved x.kids)))

  pub all_planned_right : (parts : List (Shape G Label Need In Out)) → AllByRecursion (IsRight rules same_in same_out) (map (planned rules) parts)
  all_planned_right [] = tt
  all_planned_right (part ∷ parts) = (planned_right part, all_planned_right parts)

  growth_each : (ys : List ((whole : Shape G Label Need In Out) × (plan_growth rules (planned rules whole) ≡ growth rules whole))) →
      let parts = map (λ y. y.0) ys in map (plan_growth rules) (map (planned rules) parts) ≡ map (growth rules) parts
  growth_each [] = refl
  growth_each (y ∷ ys) = ap (λ g. g ∷ map (plan_growth rules) (map (planned rules) (map (λ z. z.0) ys))) y.1 ∙ ap (λ gs. growth rules y.0 ∷ gs) (growth_each ys)

  pub planned_growth : (whole : Shape G Label Need In Out) → plan_growth rules (planned rules whole) ≡ growth rules whole
  planned_growth = ind-Shape _ _ _ _ _ (λ whole. plan_growth rules (planned rules whole) ≡ growth rules whole) (λ x y is.
      let P = λ (layer : Shape-F G Label Need In Out (Shape G Label Need In Out)). map (plan_growth rules) (map (planned rules) layer.kids) ≡ map (growth rules) layer.kids in
      ap (plan_growth rules) (planned_roll x.label x.kids)
      ∙ growth_of_layer rules same_in same_out (new_plan rules x.label (map (planned rules) x.kids)) _ (out-roll-Plan _ _ _ _ _)
      ∙ ap (grown rules x.label) (subst P is (growth_each y.kids)) ∙ sym (growth_shape rules x.label x.kids))

  -- ---- the plan of an edit

  all_planned_growth : (parts : List (Shape G Label Need In Out)) → map (plan_growth rules) (map (planned rules) parts) ≡ map (growth rules) parts
  all_planned_growth [] = refl
  all_planned_growth (part ∷ parts) = ap (λ g. g ∷ map (plan_growth rules) (map (planned rules) parts)) (planned_growth part) ∙ ap (λ gs. growth rules part ∷ gs) (all_planned_growth parts)

  pub along_growth : (path : List ℕ) (from to : ℕ) (parts : List (Shape G Label Need In Out)) (old : Node Label Need In Out) →
      plan_growth rules (planned_along rules path from to (map (planned rules) parts) old) ≡ growth rules (spliced path from to parts (shape_of old))
  along_growth [] from to parts old =
      let kept = λ (node : Node Label Need In Out). growth rules (shape_of {G = G} node) in
      let same : (λ (node : Node Label Need In Out). plan_growth rules (kept_plan node)) ≡ kept = λ i node. kept_as_shape G rules same_in same_out node i in
      let opened : spliced [] from to parts (shape_of old) ≡ shape (label_of old) (replaced from to parts (λ part. part) (map shape_of (kids_of old))) =
      ap (spliced [] from to parts) (shape_out G rules old)
      ∙ ap (λ (layer : Shape-F G Label Need In Out (Shape G Label Need In Out)). shape layer.label (replaced from to parts (λ part. part) layer.kids)) (out-roll-Shape _ _ _ _ _ _) in
      paired_growth rules same_in same_out old _
      ∙ ap (grown rules (label_of old))
      (map-replaced (plan_growth rules) from to (map (planned rules) parts) kept_plan (kids_of old)
      ∙ ap (λ made. replaced from to made (λ node. plan_growth rules (kept_plan node)) (kids_of old)) (all_planned_growth parts)
      ∙ ap (λ others. replaced from to (map (growth rules) parts) others (kids_of old)) same
      ∙ sym (replaced-map from to (map (growth rules) parts) (growth rules) shape_of (kids_of old))
      ∙ sym (map-replaced (growth rules) from to parts (λ part. part) (map shape_of (kids_of old))))
      ∙ sym (growth_shape rules (label_of old) _) ∙ ap (growth rules) (sym opened)
  along_growth (number ∷ path) from to parts old =
      let along = planned_along rules path from to (map (planned rules) parts) in
      let kept = λ (node : Node Label Need In Out). growth rules (shape_of {G = G} node) in
      let same : (λ (node : Node Label Need In Out). plan_growth rules (kept_plan node)) ≡ kept = λ i node. kept_as_shape G rules same_in same_out node i in
      let below = λ (node : Node Label Need In Out). growth rules (spliced path from to parts (shape_of node)) in
      let deeper : (λ (node : Node Label Need In Out). plan_growth rules (along node)) ≡ below = λ i node. along_growth path from to parts node i in
      let opened : spliced (number ∷ path) from to parts (shape_of old) ≡ shape (label_of old) (placed number (spliced path from to parts) (λ part. part) (map shape_of (kids_of old))) =
      ap (spliced (number ∷ path) from to parts) (shape_out G rules old)
      ∙ ap (λ (layer : Shape-F G Label Need In Out (Shape G Label Need In Out)). shape layer.label (placed number (spliced path from to parts) (λ part. part) layer.kids)) (out-roll-Shape _ _ _ _ _ _) in
      paired_growth rules same_in same_out old _
      ∙ ap (grown rules (label_of old))
      (map-placed (plan_growth rules) number along kept_plan (kids_of old)
      ∙ ap (λ here. placed number here (λ node. plan_growth rules (kept_plan node)) (kids_of old)) deeper
      ∙ ap (λ others. placed number below others (kids_of old)) same
      ∙ sym (placed-map number (λ part. growth rules (spliced path from to parts part)) (growth rules) shape_of (kids_of old))
      ∙ sym (map-placed (growth rules) number (spliced path from to parts) (λ part. part) (map shape_of (kids_of old))))
      ∙ sym (growth_shape rules (label_of old) _) ∙ ap (growth rules) (sym opened)

  pub along_moved : (path : List ℕ) (from to : ℕ) (parts : List (Shape G Label Need In Out)) (old : Node Label Need In Out) →
      plan_moved same_in same_out (planned_along rules path from to (map (planned rules) parts) old) ≡ moved_spliced same_in same_out path from to (length parts) old
  along_moved [] from to parts old =
      let same : (λ (node : Node Label Need In Out). plan_moved same_in same_out (kept_plan node)) ≡ moved same_in same_out = λ i node. kept_moved rules same_in same_out node i in
      paired_moved rules same_in same_out old _
      ∙ ap (moved_below same_in same_out old)
      (map-replaced (plan_moved same_in same_out) from to (map (planned rules) parts) kept_plan (kids_of old)
      ∙ ap (λ made. replaced from to made (λ node. plan_moved same_in same_out (kept_plan node)) (kids_of old)) (planned_new_ones parts)
      ∙ ap (λ others. replaced from to (replicate (length parts) all_new) others (kids_of old)) same)
  along_moved (number ∷ path) from to parts old =
      let along = planned_along rules path from to (map (planned rules) parts) in
      let same : (λ (node : Node Label Need In Out). plan_moved same_in same_out (kept_plan node)) ≡ moved same_in same_out = λ i node. kept_moved rules same_in same_out node i in
      let deeper : (λ (node : Node Label Need In Out). plan_moved same_in same_out (along node)) ≡ moved_spliced same_in same_out path from to (length parts) =
      λ i node. along_moved path from to parts node i in
      paired_moved rules same_in same_out old _
      ∙ ap (moved_below same_in same_out old)
      (map-placed (plan_moved same_in same_out) number along kept_plan (kids_of old)
      ∙ ap (λ here. placed number here (λ node. plan_moved same_in same_out (kept_plan node)) (kids_of old)) deeper
      ∙ ap (λ others. placed number (moved_spliced same_in same_out path from to (length parts)) others (kids_of old)) same)
