use Rattle.std.proofs.Common.{◌≡◌, IfOk, Option, subst, sym, ◌∙◌, ap}
use Rattle.term_core.specs.declared.sort.Sort.{Sort}
use Rattle.term_core.specs.Options.{all_some}
use Rattle.term_sorts.specs.Sorting.{scope_of, within, sorts_each, sort_with, result_sort}
use Rattle.term_sorts.proofs.SortingLaws.{inside, is_int, is_truth, is_var, is_op, is_all, is_some}
use Rattle.term_sorts.proofs.sorting.+sort.Goals as goal

pub sort_within-returns-in-Int-clause-sort : goal.sort_within-returns-in-Int-clause-sort
sort_within-returns-in-Int-clause-sort t c = is_int c.args.ops.now c.args.term.now _ (within (scope_of c.args.vars.now) c.args.bound.now.items) c.in-Int.is

pub sort_within-returns-in-Truth-clause-sort : goal.sort_within-returns-in-Truth-clause-sort
sort_within-returns-in-Truth-clause-sort t c = is_truth c.args.ops.now c.args.term.now _ (within (scope_of c.args.vars.now) c.args.bound.now.items) c.in-Truth.is

pub sort_within-returns-in-Var-clause-sort : goal.sort_within-returns-in-Var-clause-sort
sort_within-returns-in-Var-clause-sort t c =
    let scope = scope_of c.args.vars.now in
    let same = ap (λ xs. within scope xs c.in-Var.name) c.as_slice.ensures.value ∙ is_var c.args.ops.now c.args.term.now c.in-Var.name (within scope c.args.bound.now.items) c.in-Var.is in
    subst (λ (o : Option Sort). IfOk c.name_sort.result (λ sort. sort ≡ o)) same c.name_sort.ensures

pub sort_within-returns-in-Some-2-clause-sort : goal.sort_within-returns-in-Some-2-clause-sort
sort_within-returns-in-Some-2-clause-sort t c =
    let scope = within (scope_of c.args.vars.now) c.args.bound.now.items in
    let found = sym c.in-Some-2.is ∙ (c.in_ok-sorts-in-Op.ensures.sorts ∙ ap (λ ts. all_some (sorts_each c.args.ops.now scope ts)) c.as_slice-in-Op.ensures) in
    let same = ap (result_sort c.args.ops.now c.in-Op.oper) c.as_slice-in-Some-2.ensures ∙ is_op c.args.ops.now c.args.term.now c.in-Op.oper c.in-Op.terms scope _ c.in-Op.is found in
    subst (λ (o : Option Sort). IfOk c.result_of.result (λ sort. sort ≡ o)) same c.result_of.ensures

pub sort_within-returns-in-None-clause-sort : goal.sort_within-returns-in-None-clause-sort
sort_within-returns-in-None-clause-sort t c =
    let scope = within (scope_of c.args.vars.now) c.args.bound.now.items in
    let found = sym c.in-None.is ∙ (c.in_ok-sorts-in-Op.ensures.sorts ∙ ap (λ ts. all_some (sorts_each c.args.ops.now scope ts)) c.as_slice-in-Op.ensures) in
    is_op c.args.ops.now c.args.term.now c.in-Op.oper c.in-Op.terms scope _ c.in-Op.is found

pub sort_within-returns-in_ok-body-in-All-clause-sort : goal.sort_within-returns-in_ok-body-in-All-clause-sort
sort_within-returns-in_ok-body-in-All-clause-sort t c =
    let scope = scope_of c.args.vars.now in
    let ops = c.args.ops.now in
    let k1 = c.in_ok-low-in-All.ensures.kept in
    let k2 = c.in_ok-high-in-All.ensures.kept ∙ k1 in
    let low = c.in_ok-low-in-All.ensures.sort ∙ ap (λ u. sort_with ops u (within scope c.args.bound.now.items)) c.get.ensures in
    let high = c.in_ok-high-in-All.ensures.sort ∙ (λ i. sort_with ops (c.get-in-All.ensures i) (within scope (k1 i))) in
    let scoped = inside scope c.args.bound.now.items _ _ c.in-All.name c.in_ok-open_bound-in-All.ensures k2 in
    let body = c.in_ok-body-in-All.ensures.sort ∙ (λ i. sort_with ops (c.get-in-All-2.ensures i) (scoped i)) in
    c.quantifier_result.ensures ∙ is_all ops c.args.term.now c.in-All.name c.in-All.low c.in-All.high c.in-All.body (within scope c.args.bound.now.items) _ _ _ c.in-All.is low high body

pub sort_within-returns-in_ok-body-in-Some-clause-sort : goal.sort_within-returns-in_ok-body-in-Some-clause-sort
sort_within-returns-in_ok-body-in-Some-clause-sort t c =
    let scope = scope_of c.args.vars.now in
    let ops = c.args.ops.now in
    let k1 = c.in_ok-low-in-Some.ensures.kept in
    let k2 = c.in_ok-high-in-Some.ensures.kept ∙ k1 in
    let low = c.in_ok-low-in-Some.ensures.sort ∙ ap (λ u. sort_with ops u (within scope c.args.bound.now.items)) c.get-in-Some.ensures in
    let high = c.in_ok-high-in-Some.ensures.sort ∙ (λ i. sort_with ops (c.get-in-Some-2.ensures i) (within scope (k1 i))) in
    let scoped = inside scope c.args.bound.now.items _ _ c.in-Some.name c.in_ok-open_bound-in-Some.ensures k2 in
    let body = c.in_ok-body-in-Some.ensures.sort ∙ (λ i. sort_with ops (c.get-in-Some-3.ensures i) (scoped i)) in
    c.quantifier_result-in-Some.ensures ∙ is_some ops c.args.term.now c.in-Some.name c.in-Some.low c.in-Some.high c.in-Some.body (within scope c.args.bound.now.items) _ _ _ c.in-Some.is low high body
