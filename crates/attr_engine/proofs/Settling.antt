-- Plans, by their variants, and what becomes of them.
use Rattle.std.proofs.Common.{◌≡◌, ℕ, ◌+◌, List, [], ◌∷◌, map, sum, Bool, refl, sym, ◌∙◌, ap, subst}
use Rattle.std.specs.List.{AllByRecursion}
use Rattle.std.proofs.lemmas.List.Sums.{sum_by-cons}
use Rattle.attr_engine.specs.declared.node.Node.{Node}
use Rattle.attr_engine.specs.declared.plan.Plan.{Plan, Plan-F, out-Plan, roll-Plan, out-roll-Plan, map-Plan, fold_out-Plan, every-Plan, every_here-Plan, every_held-Plan}
use Rattle.attr_engine.specs.declared.plan.Plan.TheVariants.{Kept, New, Paired, rolls-Kept, rolls-New, rolls-Paired}
use Rattle.attr_engine.specs.Rules.{Rules}
use Rattle.attr_engine.specs.Nodes.{label_of, input_of, kids_of, outs, done}
use Rattle.attr_engine.specs.Fresh.{Growth, children, finished}
use Rattle.attr_engine.specs.Moved.{sum_at, all_new, moved_here, moved_below}
use Rattle.attr_engine.specs.Plans.{layer_need, layer_kids, plan_need, growth_step, plan_growth, moved_step, plan_moved, settled, settled_moved, IsRightHere, IsRight}
use Rattle.attr_engine.proofs.Counting.{all_new_out}
use Rattle.attr_engine.proofs.Growths.{kids_of_finished, input_of_finished}
use Rattle.attr_engine.proofs.Renewing.{fresh_need}
use Rattle.attr_engine.proofs.SoFar.{next}

module _ {Label Need In Out : Type 0} where
  abbrev layer_of : Plan Label Need In Out → Plan-F Label Need In Out (Plan Label Need In Out)
  layer_of plan = out-Plan _ _ _ _ plan

  pub layer_from : (plan : Plan Label Need In Out) (layer : Plan-F Label Need In Out (Plan Label Need In Out)) → plan ≡ roll-Plan _ _ _ _ layer → layer_of plan ≡ layer
  layer_from plan layer e = ap layer_of e ∙ out-roll-Plan _ _ _ _ layer

  pub kept_layer : (plan : Plan Label Need In Out) (node : Node Label Need In Out) → plan ≡ Kept node → layer_of plan ≡ Plan-F.Kept node
  kept_layer plan node e = layer_from plan _ (e ∙ sym (rolls-Kept node))

  pub new_layer : (plan : Plan Label Need In Out) (label : Label) (need : Need) (kids : List (Plan Label Need In Out)) → plan ≡ New label need kids → layer_of plan ≡ Plan-F.New label need kids
  new_layer plan label need kids e = layer_from plan _ (e ∙ sym (rolls-New label need kids))

  pub paired_layer : (plan : Plan Label Need In Out) (old : Node Label Need In Out) (need : Need) (kids : List (Plan Label Need In Out)) → plan ≡ Paired old need kids → layer_of plan ≡ Plan-F.Paired old need kids
  paired_layer plan old need kids e = layer_from plan _ (e ∙ sym (rolls-Paired old need kids))

module _ {Label Need In Out : Type 0} (rules : Rules Label Need In Out) (same_in : In → In → Bool) (same_out : Out → Out → Bool) where
  -- ---- one layer

  pub growth_of_layer : (plan : Plan Label Need In Out) (layer : Plan-F Label Need In Out (Plan Label Need In Out)) → layer_of plan ≡ layer →
      plan_growth rules plan ≡ growth_step rules (map-Plan _ _ _ _ _ _ (plan_growth rules) layer)
  unfolding plan_growth
  growth_of_layer plan layer e =
      fold_out-Plan _ _ _ _ (Growth Label Need In Out) (growth_step rules) plan ∙ ap (λ l. growth_step rules (map-Plan _ _ _ _ _ _ (plan_growth rules) l)) e

  pub moved_of_layer : (plan : Plan Label Need In Out) (layer : Plan-F Label Need In Out (Plan Label Need In Out)) → layer_of plan ≡ layer →
      plan_moved same_in same_out plan ≡ moved_step same_in same_out (map-Plan _ _ _ _ _ _ (plan_moved same_in same_out) layer)
  unfolding plan_moved
  moved_of_layer plan layer e =
      fold_out-Plan _ _ _ _ (Node Label Need In Out → ℕ) (moved_step same_in same_out) plan
      ∙ ap (λ l. moved_step same_in same_out (map-Plan _ _ _ _ _ _ (plan_moved same_in same_out) l)) e

  pub right_here : (plan : Plan Label Need In Out) (layer : Plan-F Label Need In Out (Plan Label Need In Out)) → layer_of plan ≡ layer →
      IsRight rules same_in same_out plan → IsRightHere rules same_in same_out layer
  unfolding IsRight
  right_here plan layer e h =
      subst (λ (l : Plan-F Label Need In Out (Plan Label Need In Out)). IsRightHere rules same_in same_out l) e
      (every_here-Plan _ _ _ _ (IsRightHere rules same_in same_out) plan h)

  -- ---- the parts are right

  each_right : (ys : List ((plan : Plan Label Need In Out) × every-Plan _ _ _ _ (IsRightHere rules same_in same_out) plan)) →
      AllByRecursion (IsRight rules same_in same_out) (map (λ y. y.0) ys)
  unfolding IsRight
  each_right [] = tt
  each_right (y ∷ ys) = (y.1, each_right ys)

  parts_right : (y : Plan-F Label Need In Out ((plan : Plan Label Need In Out) × every-Plan _ _ _ _ (IsRightHere rules same_in same_out) plan)) →
      AllByRecursion (IsRight rules same_in same_out) (layer_kids (map-Plan _ _ _ _ _ _ (λ e. e.0) y))
  parts_right (Plan-F.Kept node) = tt
  parts_right (Plan-F.New label need kids) = each_right kids
  parts_right (Plan-F.Paired old need kids) = each_right kids

  pub right_kids : (plan : Plan Label Need In Out) (layer : Plan-F Label Need In Out (Plan Label Need In Out)) → layer_of plan ≡ layer →
      IsRight rules same_in same_out plan → AllByRecursion (IsRight rules same_in same_out) (layer_kids layer)
  unfolding IsRight
  right_kids plan layer e h =
      let held = every_held-Plan _ _ _ _ (IsRightHere rules same_in same_out) plan h in
      subst (λ (l : Plan-F Label Need In Out (Plan Label Need In Out)). AllByRecursion (every-Plan _ _ _ _ (IsRightHere rules same_in same_out)) (layer_kids l)) (held.1 ∙ e) (parts_right held.0)

  -- ---- new nodes

  pub new_growth : (plan : Plan Label Need In Out) (label : Label) (need : Need) (kids : List (Plan Label Need In Out)) (input : In) → plan ≡ New label need kids →
      IsRight rules same_in same_out plan → finished rules label need input (settled rules label input kids) ≡ (plan_growth rules plan).under input
  new_growth plan label need kids input e h =
      let layer = new_layer plan label need kids e in
      ap (λ n. finished rules label n input (settled rules label input kids)) (right_here plan _ layer h).0
      ∙ sym (ap (λ (g : Growth Label Need In Out). g.under input) (growth_of_layer plan _ layer))

  sum_of_new : (number : ℕ) (label : Label) (input : In) (kids : List (Plan Label Need In Out)) →
      let nodes = children rules label input number (map (plan_growth rules) kids) in
      sum_at (map (λ kid. all_new) kids) nodes ≡ sum (map all_new nodes)
  sum_of_new number label input [] = refl
  sum_of_new number label input (kid ∷ kids) =
      let nodes = children rules label input (number + 1) (map (plan_growth rules) kids) in
      let node = (plan_growth rules kid).under (rules.down label input number (plan_growth rules kid).need (done nodes)) in
      ap (λ n. all_new node + n) (sum_of_new (number + 1) label input kids) ∙ sym (sum_by-cons (λ n. n) (all_new node) (map all_new nodes))

  pub new_moved : (plan : Plan Label Need In Out) (label : Label) (need : Need) (kids : List (Plan Label Need In Out)) (input : In) → plan ≡ New label need kids →
      IsRight rules same_in same_out plan →
      plan_moved same_in same_out plan ((plan_growth rules plan).under input) ≡ settled_moved rules same_in same_out label input kids + 1
  new_moved plan label need kids input e h =
      let layer = new_layer plan label need kids e in
      let nodes = settled rules label input kids in
      ap (λ (count : Node Label Need In Out → ℕ). count ((plan_growth rules plan).under input)) (moved_of_layer plan _ layer)
      ∙ ap all_new (sym (new_growth plan label need kids input e h)) ∙ all_new_out (finished rules label need input nodes)
      ∙ ap (λ ns. sum (map all_new ns) + 1) (kids_of_finished rules label need input nodes)
      ∙ ap (λ n. n + 1) (sym (sum_of_new 0 label input kids) ∙ ap (λ counts. sum_at counts nodes) (sym (right_here plan _ layer h).1))

  -- ---- old nodes over other children

  pub paired_growth : (plan : Plan Label Need In Out) (old : Node Label Need In Out) (need : Need) (kids : List (Plan Label Need In Out)) (input : In) → plan ≡ Paired old need kids →
      IsRight rules same_in same_out plan → finished rules (label_of old) need input (settled rules (label_of old) input kids) ≡ (plan_growth rules plan).under input
  paired_growth plan old need kids input e h =
      let layer = paired_layer plan old need kids e in
      ap (λ n. finished rules (label_of old) n input (settled rules (label_of old) input kids)) (right_here plan _ layer h).1
      ∙ sym (ap (λ (g : Growth Label Need In Out). g.under input) (growth_of_layer plan _ layer))

  pub paired_moved : (plan : Plan Label Need In Out) (old : Node Label Need In Out) (need : Need) (kids : List (Plan Label Need In Out)) (input : In) → plan ≡ Paired old need kids →
      IsRight rules same_in same_out plan → let nodes = settled rules (label_of old) input kids in
      plan_moved same_in same_out plan ((plan_growth rules plan).under input)
      ≡ moved_here same_in same_out (input_of old) (outs (kids_of old)) input (outs nodes) + settled_moved rules same_in same_out (label_of old) input kids
  paired_moved plan old need kids input e h =
      let layer = paired_layer plan old need kids e in
      let nodes = settled rules (label_of old) input kids in
      let counts = map (plan_moved same_in same_out) kids in
      let at = λ (i : In) (ns : List (Node Label Need In Out)). moved_here same_in same_out (input_of old) (outs (kids_of old)) i (outs ns) + sum_at counts ns in
      ap (λ (count : Node Label Need In Out → ℕ). count ((plan_growth rules plan).under input)) (moved_of_layer plan _ layer)
      ∙ ap (moved_below same_in same_out old counts) (sym (paired_growth plan old need kids input e h))
      ∙ ap (λ i. at i (kids_of (finished rules (label_of old) need input nodes))) (input_of_finished rules (label_of old) need input nodes)
      ∙ ap (at input) (kids_of_finished rules (label_of old) need input nodes)

  -- ---- a child

  need_of_layer : (layer : Plan-F Label Need In Out (Plan Label Need In Out)) → IsRightHere rules same_in same_out layer →
      layer_need layer ≡ (growth_step rules (map-Plan _ _ _ _ _ _ (plan_growth rules) layer)).need
  need_of_layer (Plan-F.Kept node) h = sym (fresh_need rules node h)
  need_of_layer (Plan-F.New label need kids) h = h.0
  need_of_layer (Plan-F.Paired old need kids) h = h.1

  pub right_need : (plan : Plan Label Need In Out) → IsRight rules same_in same_out plan → plan_need plan ≡ (plan_growth rules plan).need
  right_need plan h =
      need_of_layer (layer_of plan) (right_here plan (layer_of plan) refl h)
      ∙ sym (ap (λ (g : Growth Label Need In Out). g.need) (growth_of_layer plan (layer_of plan) refl))

  pub next_plan : (label : Label) (input under : In) (number : ℕ) (plan : Plan Label Need In Out) (later : List (Node Label Need In Out)) →
      IsRight rules same_in same_out plan → under ≡ rules.down label input number (plan_need plan) (done later) →
      (plan_growth rules plan).under under ≡ next rules label input (plan_growth rules) (plan_moved same_in same_out) number plan later
  next_plan label input under number plan later h e =
      ap (plan_growth rules plan).under (e ∙ ap (λ need. rules.down label input number need (done later)) (right_need plan h))
