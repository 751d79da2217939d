use Rattle.std.proofs.Common.{◌≡◌, IfOk, Option, Some, if◌then◌else◌, subst, sym, ◌∙◌, ap}
use Rattle.term_core.specs.declared.sort.Sort.{Sort}
use Rattle.term_core.specs.declared.sort.Sort.TheVariants as sort
use Rattle.term_core.specs.Sorts.{whole}
use Rattle.term_sorts.specs.Sorting.{scope_of}
use Rattle.term_sorts.proofs.SortingLaws.{within_is}
use Rattle.term_sorts.proofs.sorting.name_sort.Goals as goal

pub returns-then-has_name : goal.returns-then-has_name
returns-then-has_name c =
    let scope = scope_of c.args.vars.now in
    ap Some (sym sort.rolls-Whole) ∙ (ap (λ b. if b then Some whole else scope c.args.name.now) (sym (sym c.has_name.ensures ∙ c.if-has_name.true)) ∙ sym (within_is c.args.bound.now c.args.name.now scope))

pub returns-else-has_name : goal.returns-else-has_name
returns-else-has_name c =
    let scope = scope_of c.args.vars.now in
    let same = ap (λ b. if b then Some whole else scope c.args.name.now) (sym (sym c.has_name.ensures ∙ c.if-has_name.false)) ∙ sym (within_is c.args.bound.now c.args.name.now scope) in
    subst (λ (o : Option Sort). IfOk c.variable_sort.result (λ sort. sort ≡ o)) same c.variable_sort.ensures
