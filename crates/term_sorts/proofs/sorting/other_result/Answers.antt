use Rattle.std.proofs.Common.{◌≡◌, IfOk, Option, subst, sym, ◌∙◌, ap}
use Rattle.term_core.specs.declared.sort.Sort.{Sort}
use Rattle.term_sorts.specs.Sorting.{listed_sort}
use Rattle.term_sorts.proofs.SortingLaws.{other_default}
use Rattle.term_sorts.proofs.sorting.other_result.Goals as goal

pub returns-in_default : goal.returns-in_default
returns-in_default c =
    let same = ap (λ entry. listed_sort entry c.args.sorts.now) c.entry_of.ensures
    ∙ sym (other_default c.args.ops.now c.args.oper c.args.sorts.now c.in_default.not-Eq c.in_default.not-If c.in_default.not-Select c.in_default.not-Store) in
    subst (λ (o : Option Sort). IfOk c.listed_result.result (λ sort. sort ≡ o)) same c.listed_result.ensures
