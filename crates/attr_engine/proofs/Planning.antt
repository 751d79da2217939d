-- Plans of shapes and edits.
use Rattle.std.proofs.Common.{◌≡◌, ℕ, ◌+◌, ◌<◌, List, [], ◌∷◌, length, get_or, map, sym, ◌∙◌, ap, add-one}
use Rattle.attr_engine.specs.declared.shape.Shape.{Shape, fold_out-Shape}
use Rattle.attr_engine.specs.declared.node.Node.{Node}
use Rattle.attr_engine.specs.declared.plan.Plan.{Plan, Plan-F, roll-Plan}
use Rattle.attr_engine.specs.declared.plan.Plan.TheVariants.{New, rolls-New}
use Rattle.attr_engine.specs.Rules.{Rules}
use Rattle.attr_engine.specs.Nodes.{shape_label, parts_of, kids_of}
use Rattle.attr_engine.specs.Edits.{replaced}
use Rattle.attr_engine.specs.Plans.{plan_need, kept_plan, new_plan, paired_plan, planned, planned_along}
use Rattle.attr_engine.proofs.Lists.{placed-replaced}

module _ {G Label Need In Out : Type 0} where
  pub planned_out : (rules : Rules Label Need In Out) (whole : Shape G Label Need In Out) →
      planned rules whole ≡ new_plan rules (shape_label whole) (map (planned rules) (parts_of whole))
  unfolding planned
  planned_out rules whole = fold_out-Shape _ _ _ _ _ (Plan Label Need In Out) (λ layer. new_plan rules layer.label layer.kids) whole

  pub planned_new : (rules : Rules Label Need In Out) (whole : Shape G Label Need In Out) (label : Label) (need : Need) (kids : List (Plan Label Need In Out)) →
      label ≡ shape_label whole → kids ≡ map (planned rules) (parts_of whole) → need ≡ rules.need label (map plan_need kids) →
      New label need kids ≡ planned rules whole
  planned_new rules whole label need kids l k n =
      let e : roll-Plan _ _ _ _ (Plan-F.New label need kids) ≡ new_plan rules (shape_label whole) (map (planned rules) (parts_of whole)) = cc (l, k, n) in
      sym (rolls-New label need kids) ∙ e ∙ sym (planned_out rules whole)

module _ {Label Need In Out : Type 0} where
  -- a step of the path
  pub planned_step : (rules : Rules Label Need In Out) (old : Node Label Need In Out) (path rest : List ℕ) (number from to : ℕ)
      (made one kids : List (Plan Label Need In Out)) (kid : Node Label Need In Out) →
      path ≡ number ∷ rest → number < length (kids_of old) → kid ≡ get_or (kids_of old) number kid → one ≡ planned_along rules rest from to made kid ∷ [] →
      kids ≡ replaced number (number + 1) one kept_plan (kids_of old) →
      paired_plan rules old kids ≡ planned_along rules path from to made old
  planned_step rules old path rest number from to made one kids kid p within at o k =
      let placed = placed-replaced (planned_along rules rest from to made) kept_plan number (kids_of old) kid within at in
      let along = λ (steps : List ℕ). planned_along rules steps from to made old in
      let put = λ (after : ℕ) (plans : List (Plan Label Need In Out)). replaced number after plans kept_plan (kids_of old) in
      ap (paired_plan rules old) (k ∙ ap (put (number + 1)) o ∙ ap (λ after. put after (planned_along rules rest from to made kid ∷ [])) (add-one number) ∙ sym placed) ∙ ap along (sym p)
