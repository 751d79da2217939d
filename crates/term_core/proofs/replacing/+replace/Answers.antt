use Rattle.std.proofs.Common.{◌≡◌, ap, sym, ◌∙◌, rules, subst, IfOk, ◌++◌, ◌∷◌, []}
use Rattle.term_core.specs.declared.term.Term.{Term}
use Rattle.term_core.specs.declared.term.Term.TheVariants as variant
use mir.Val.{to_z, of_z}
use mir.Syntax.{w128}
use Rattle.term_core.specs.Names.{without}
use Rattle.term_core.specs.Substitution.{put, new_name, free}
use Rattle.term_core.specs.Substitution.{sub_of}
use Rattle.term_core.proofs.PutLaws.{made_op, made_all, made_some, put_each, kept_int, kept_truth, made_name, each_more, each_done}
use Rattle.term_core.proofs.SubLaws.{on_ok, under}
use Rattle.term_core.proofs.replacing.+replace.Goals as goal

pub loop-part-preserved : goal.loop-part-preserved
loop-part-preserved t c =
    let s = sub_of c.args.entries.now.items in
    let k = c.loop-part.invariant.0 in
    let m = c.in_ok-replace-in-Op.ensures.made in (
      c.in_ok-replace-in-Op.ensures.kept ∙ k,
      c.in_ok-push-in-Op.ensures.ok ∙ ((λ i. c.loop-part.invariant.1 i ++ (m ∙ ap (λ es. put c.part-item.result (sub_of es)) k) i ∷ []) ∙ sym (each_more s c.as_slice-part-items.result.now c.loop-part.part-index c.part-item.result c.loop-part-test.true c.part-item.is)),
    )

pub returns-after-loop-part-clause-made : goal.returns-after-loop-part-clause-made
returns-after-loop-part-clause-made t c =
    let s = sub_of c.args.entries.now.items in
    made_op c.args.term.now s c.in-Op.oper c.in-Op.terms c.loop-part.made c.in-Op.is
    (c.loop-part.invariant.1 ∙ (each_done s c.as_slice-part-items.result.now c.loop-part.part-index c.loop-part-test.false ∙ ap (put_each s) c.as_slice-part-items.ensures))

pub returns-after-loop-part-clause-kept : goal.returns-after-loop-part-clause-kept
returns-after-loop-part-clause-kept t c = c.loop-part.invariant.0

pub returns-in_ok-new_body-in-All-clause-made : goal.returns-in_ok-new_body-in-All-clause-made
returns-in_ok-new_body-in-All-clause-made t c =
    let es = c.args.entries.now.items in
    let x = c.in-All.name in
    let y = c.in_ok-to-in-All.to in
    let k1 = c.in_ok-new_low-in-All.ensures.kept in
    let k2 = c.in_ok-new_high-in-All.ensures.kept ∙ k1 in
    let low = c.in_ok-new_low-in-All.ensures.made ∙ ap (λ u. put u (sub_of es)) c.get.ensures in
    let high = c.in_ok-new_high-in-All.ensures.made ∙ (λ i. put (c.get-in-All.ensures i) (sub_of (k1 i))) in
    let name = c.in_ok-to-in-All.ensures.name ∙ (λ i. new_name (sub_of (k2 i)) x (without x (free (c.get-in-All-2.ensures i)))) in
    let scope = under es _ x y _ c.in_ok-to-in-All.ensures.entry k2 in
    let body = c.in_ok-new_body-in-All.ensures.made ∙ (λ i. put (c.get-in-All-3.ensures i) (scope i)) in
    let e = made_all c.args.term.now (sub_of es) x y c.in-All.low c.in-All.high c.in-All.body c.in_ok-new_low-in-All.new_low c.in_ok-new_high-in-All.new_high c.in_ok-new_body-in-All.new_body c.in-All.is name low high body in
    subst (λ (u : Term). IfOk c.all_of.result (λ made. made ≡ u)) e c.all_of.ensures

pub returns-in_ok-new_body-in-All-clause-kept : goal.returns-in_ok-new_body-in-All-clause-kept
returns-in_ok-new_body-in-All-clause-kept t c =
    let k2 = c.in_ok-new_high-in-All.ensures.kept ∙ c.in_ok-new_low-in-All.ensures.kept in
    on_ok c.all_of.result _ (c.close_scope.ensures _ _ (c.in_ok-new_body-in-All.ensures.kept ∙ c.in_ok-to-in-All.ensures.entry) ∙ k2)

pub returns-in_ok-new_body-in-Some-clause-made : goal.returns-in_ok-new_body-in-Some-clause-made
returns-in_ok-new_body-in-Some-clause-made t c =
    let es = c.args.entries.now.items in
    let x = c.in-Some.name in
    let y = c.in_ok-to-in-Some.to in
    let k1 = c.in_ok-new_low-in-Some.ensures.kept in
    let k2 = c.in_ok-new_high-in-Some.ensures.kept ∙ k1 in
    let low = c.in_ok-new_low-in-Some.ensures.made ∙ ap (λ u. put u (sub_of es)) c.get-in-Some.ensures in
    let high = c.in_ok-new_high-in-Some.ensures.made ∙ (λ i. put (c.get-in-Some-2.ensures i) (sub_of (k1 i))) in
    let name = c.in_ok-to-in-Some.ensures.name ∙ (λ i. new_name (sub_of (k2 i)) x (without x (free (c.get-in-Some-3.ensures i)))) in
    let scope = under es _ x y _ c.in_ok-to-in-Some.ensures.entry k2 in
    let body = c.in_ok-new_body-in-Some.ensures.made ∙ (λ i. put (c.get-in-Some-4.ensures i) (scope i)) in
    let e = made_some c.args.term.now (sub_of es) x y c.in-Some.low c.in-Some.high c.in-Some.body c.in_ok-new_low-in-Some.new_low c.in_ok-new_high-in-Some.new_high c.in_ok-new_body-in-Some.new_body c.in-Some.is name low high body in
    subst (λ (u : Term). IfOk c.some_of.result (λ made. made ≡ u)) e c.some_of.ensures

pub returns-in_ok-new_body-in-Some-clause-kept : goal.returns-in_ok-new_body-in-Some-clause-kept
returns-in_ok-new_body-in-Some-clause-kept t c =
    let k2 = c.in_ok-new_high-in-Some.ensures.kept ∙ c.in_ok-new_low-in-Some.ensures.kept in
    on_ok c.some_of.result _ (c.close_scope-in-Some.ensures _ _ (c.in_ok-new_body-in-Some.ensures.kept ∙ c.in_ok-to-in-Some.ensures.entry) ∙ k2)

pub returns-in-Int-clause-made : goal.returns-in-Int-clause-made
returns-in-Int-clause-made t c = let h : variant.Int (to_z w128 (of_z w128 c.in-Int.value)) ≡ c.args.term.now = search rules in h ∙ kept_int c.args.term.now (sub_of c.args.entries.now.items) c.in-Int.value c.in-Int.is

pub returns-in-Truth-clause-made : goal.returns-in-Truth-clause-made
returns-in-Truth-clause-made t c = sym c.in-Truth.is ∙ kept_truth c.args.term.now (sub_of c.args.entries.now.items) c.in-Truth.value c.in-Truth.is

pub returns-in-Var-clause-made : goal.returns-in-Var-clause-made
returns-in-Var-clause-made t c = subst (λ (u : Term). IfOk c.put_name.result (λ made. made ≡ u)) ((λ i. sub_of (c.as_slice.ensures.value i) c.in-Var.name) ∙ made_name c.args.term.now (sub_of c.args.entries.now.items) c.in-Var.name c.in-Var.is) c.put_name.ensures
