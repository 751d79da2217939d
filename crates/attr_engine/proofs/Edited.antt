-- What the plans of shapes and edits become, and at which cost.
use Rattle.std.proofs.Common.{◌≡◌, ℕ, List, length, map, Bool, sym, ◌∙◌, ap, subst}
use Rattle.std.specs.List.{AllByRecursion}
use Rattle.attr_engine.specs.declared.shape.Shape.{Shape}
use Rattle.attr_engine.specs.declared.node.Node.{Node}
use Rattle.attr_engine.specs.declared.plan.Plan.{Plan}
use Rattle.attr_engine.specs.Rules.{Rules}
use Rattle.attr_engine.specs.Nodes.{count}
use Rattle.attr_engine.specs.Fresh.{Growth, growth, shape_of, IsFresh}
use Rattle.attr_engine.specs.Edits.{spliced}
use Rattle.attr_engine.specs.Moved.{all_new, moved_spliced}
use Rattle.attr_engine.specs.Plans.{plan_growth, plan_moved, IsRight, planned, planned_along}
use Rattle.attr_engine.proofs.Growths.{fresh_from}
use Rattle.attr_engine.proofs.Planned.{lawful_shape, all_new_count, planned_right, all_planned_right, planned_growth, planned_moved, right_along, along_growth, along_moved}

module _ {G Label Need In Out : Type 0} (rules : Rules Label Need In Out) (same_in : In → In → Bool) (same_out : Out → Out → Bool) where
  pub fresh_is_fresh : (whole : Shape G Label Need In Out) (input : In) (node : Node Label Need In Out) → node ≡ (growth rules whole).under input → IsFresh rules node
  fresh_is_fresh whole input node e = subst (λ (n : Node Label Need In Out). IsFresh rules n) (sym e) (fresh_from rules (growth rules whole) input (lawful_shape rules whole))

  -- ---- a shape

  module _ (whole : Shape G Label Need In Out) (plan : Plan Label Need In Out) (is : plan ≡ planned rules whole) where
    pub shape_right : IsRight rules same_in same_out plan
    shape_right = subst (λ (p : Plan Label Need In Out). IsRight rules same_in same_out p) (sym is) (planned_right rules same_in same_out whole)

    pub shape_tree : (input : In) → (plan_growth rules plan).under input ≡ (growth rules whole).under input
    shape_tree input = ap (λ (g : Growth Label Need In Out). g.under input) (ap (plan_growth rules) is ∙ planned_growth rules same_in same_out whole)

    pub shape_cost : (input : In) → plan_moved same_in same_out plan ((plan_growth rules plan).under input) ≡ count whole
    shape_cost input =
        ap (λ (counts : Node Label Need In Out → ℕ). counts ((plan_growth rules plan).under input)) (ap (plan_moved same_in same_out) is ∙ planned_moved rules same_in same_out whole)
        ∙ ap all_new (shape_tree input) ∙ all_new_count rules whole input

  -- ---- an edit

  module _ (path : List ℕ) (from to : ℕ) (parts : List (Shape G Label Need In Out)) (old : Node Label Need In Out) (made : List (Plan Label Need In Out)) (plan : Plan Label Need In Out)
      (are : made ≡ map (planned rules) parts) (is : plan ≡ planned_along rules path from to made old) where
    pub edit_right : IsFresh rules old → IsRight rules same_in same_out plan
    edit_right h =
        subst (λ (p : Plan Label Need In Out). IsRight rules same_in same_out p) (sym is)
        (right_along rules same_in same_out path from to made
        (subst (λ (ps : List (Plan Label Need In Out)). AllByRecursion (IsRight rules same_in same_out) ps) (sym are) (all_planned_right rules same_in same_out parts)) old h)

    along : plan ≡ planned_along rules path from to (map (planned rules) parts) old
    along = is ∙ ap (λ ps. planned_along rules path from to ps old) are

    pub edit_tree : (input : In) → (plan_growth rules plan).under input ≡ (growth rules (spliced path from to parts (shape_of old))).under input
    edit_tree input = ap (λ (g : Growth Label Need In Out). g.under input) (ap (plan_growth rules) along ∙ along_growth rules same_in same_out path from to parts old)

    pub edit_counts : (node : Node Label Need In Out) → plan_moved same_in same_out plan node ≡ moved_spliced same_in same_out path from to (length parts) old node
    edit_counts node =
        ap (λ (counts : Node Label Need In Out → ℕ). counts node) (ap (plan_moved same_in same_out) along ∙ along_moved rules same_in same_out path from to parts old)

    pub edit_cost : (input : In) → plan_moved same_in same_out plan ((plan_growth rules plan).under input)
        ≡ moved_spliced same_in same_out path from to (length parts) old ((growth rules (spliced path from to parts (shape_of old))).under input)
    edit_cost input = edit_counts _ ∙ ap (moved_spliced same_in same_out path from to (length parts) old) (edit_tree input)
