-- Plans: trees whose labels and needs are there, and what becomes of them.
use Rattle.std.specs.Prelude.{◌≡◌, ℕ, List, [], ◌∷◌, map, Bool}
use Rattle.attr_engine.specs.declared.shape.Shape.{Shape, fold-Shape}
use Rattle.attr_engine.specs.declared.node.Node.{Node}
use Rattle.attr_engine.specs.declared.plan.Plan.{Plan, Plan-F, out-Plan, roll-Plan, fold-Plan, every-Plan}
use Rattle.attr_engine.specs.Rules.{Rules}
use Rattle.attr_engine.specs.Nodes.{label_of, need_of, kids_of}
use Rattle.attr_engine.specs.Fresh.{Growth, children, needs, grown, regrowth, IsFresh}
use Rattle.attr_engine.specs.Edits.{placed, replaced}
use Rattle.attr_engine.specs.Moved.{sum_at, all_new, moved, moved_below}

module _ {Label Need In Out : Type 0} where
  -- ---- what a plan has

  abbrev pub layer_need : {A : Type 0} → Plan-F Label Need In Out A → Need
  layer_need (Plan-F.Kept node) = need_of node
  layer_need (Plan-F.New label need kids) = need
  layer_need (Plan-F.Paired old need kids) = need

  abbrev pub plan_need : Plan Label Need In Out → Need
  plan_need plan = layer_need (out-Plan _ _ _ _ plan)

  abbrev pub layer_kids : {A : Type 0} → Plan-F Label Need In Out A → List A
  layer_kids (Plan-F.Kept node) = []
  layer_kids (Plan-F.New label need kids) = kids
  layer_kids (Plan-F.Paired old need kids) = kids

  -- ---- what becomes of it

  abbrev pub growth_step : Rules Label Need In Out → Plan-F Label Need In Out (Growth Label Need In Out) → Growth Label Need In Out
  growth_step rules (Plan-F.Kept node) = regrowth rules node
  growth_step rules (Plan-F.New label need kids) = grown rules label kids
  growth_step rules (Plan-F.Paired old need kids) = grown rules (label_of old) kids

  unfoldable pub plan_growth : Rules Label Need In Out → Plan Label Need In Out → Growth Label Need In Out
  plan_growth rules plan = fold-Plan _ _ _ _ (Growth Label Need In Out) (growth_step rules) plan

  abbrev pub moved_step : (In → In → Bool) → (Out → Out → Bool) → Plan-F Label Need In Out (Node Label Need In Out → ℕ) → Node Label Need In Out → ℕ
  moved_step same_in same_out (Plan-F.Kept node) = moved same_in same_out node
  moved_step same_in same_out (Plan-F.New label need kids) = all_new
  moved_step same_in same_out (Plan-F.Paired old need kids) = moved_below same_in same_out old kids

  -- the number of nodes that moved, of what a plan became
  unfoldable pub plan_moved : (In → In → Bool) → (Out → Out → Bool) → Plan Label Need In Out → Node Label Need In Out → ℕ
  plan_moved same_in same_out plan = fold-Plan _ _ _ _ (Node Label Need In Out → ℕ) (moved_step same_in same_out) plan

  -- what becomes of children, of a node with this label and inherited attribute
  abbrev pub settled : Rules Label Need In Out → Label → In → List (Plan Label Need In Out) → List (Node Label Need In Out)
  settled rules label input plans = children rules label input 0 (map (plan_growth rules) plans)

  -- the number of nodes that moved among these and below
  abbrev pub settled_moved : Rules Label Need In Out → (In → In → Bool) → (Out → Out → Bool) → Label → In → List (Plan Label Need In Out) → ℕ
  settled_moved rules same_in same_out label input plans = sum_at (map (plan_moved same_in same_out) plans) (settled rules label input plans)

  -- ---- the plans that are right: old trees are fresh, needs are those of the children, and below a new node all is new

  abbrev pub IsRightHere : Rules Label Need In Out → (In → In → Bool) → (Out → Out → Bool) → Plan-F Label Need In Out (Plan Label Need In Out) → Type 0
  IsRightHere rules same_in same_out (Plan-F.Kept node) = IsFresh rules node
  IsRightHere rules same_in same_out (Plan-F.New label need kids) =
      (need ≡ rules.need label (needs (map (plan_growth rules) kids))) × (map (plan_moved same_in same_out) kids ≡ map (λ kid. all_new) kids)
  IsRightHere rules same_in same_out (Plan-F.Paired old need kids) =
      IsFresh rules old × (need ≡ rules.need (label_of old) (needs (map (plan_growth rules) kids)))

  unfoldable pub IsRight : Rules Label Need In Out → (In → In → Bool) → (Out → Out → Bool) → Plan Label Need In Out → Type 0
  IsRight rules same_in same_out plan = every-Plan _ _ _ _ (IsRightHere rules same_in same_out) plan

  -- ---- the plan of a shape, and the one of an edit

  abbrev pub kept_plan : Node Label Need In Out → Plan Label Need In Out
  kept_plan node = roll-Plan _ _ _ _ (Plan-F.Kept node)

  abbrev pub new_plan : Rules Label Need In Out → Label → List (Plan Label Need In Out) → Plan Label Need In Out
  new_plan rules label kids = roll-Plan _ _ _ _ (Plan-F.New label (rules.need label (map plan_need kids)) kids)

  abbrev pub paired_plan : Rules Label Need In Out → Node Label Need In Out → List (Plan Label Need In Out) → Plan Label Need In Out
  paired_plan rules old kids = roll-Plan _ _ _ _ (Plan-F.Paired old (rules.need (label_of old) (map plan_need kids)) kids)

  abbrev pub planned_along : Rules Label Need In Out → List ℕ → ℕ → ℕ → List (Plan Label Need In Out) → Node Label Need In Out → Plan Label Need In Out
  planned_along rules [] from to made old = paired_plan rules old (replaced from to made kept_plan (kids_of old))
  planned_along rules (number ∷ path) from to made old = paired_plan rules old (placed number (planned_along rules path from to made) kept_plan (kids_of old))

module _ {G Label Need In Out : Type 0} where
  unfoldable pub planned : Rules Label Need In Out → Shape G Label Need In Out → Plan Label Need In Out
  planned rules whole = fold-Shape _ _ _ _ _ (Plan Label Need In Out) (λ layer. new_plan rules layer.label layer.kids) whole
