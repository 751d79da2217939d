use Rattle.std.proofs.Common.{rules, ◌≡◌, ◌+◌, ◌-◌, ap, sym, ◌∙◌, refl, subst, arith}
use Rattle.attr_engine.specs.declared.node.Node.{the_lemmas}
use Rattle.attr_engine.specs.Nodes.{label_of, need_of}
use Rattle.attr_engine.specs.Fresh.{finished, IsFresh}
use Rattle.attr_engine.specs.Moved.{moved}
use Rattle.attr_engine.proofs.Counting.{moved_same}
use Rattle.attr_engine.proofs.Renewing.{IsOther, IsNext, IsRenewed, fresh_kid, served, so_far_bound, part_bound, one_renewed, finished_is, all_ticks}
use Rattle.attr_engine.proofs.Results.{if_ok_is, if_ok_from, if_ok_also}
use Rattle.attr_engine.proofs.engine.+renew.Goals as goal

pub returns-then-eq-clause-ticks : goal.returns-then-eq-clause-ticks
returns-then-eq-clause-ticks g t c =
    let the_rules = g.G.Grammar.rules in
    let same_in = g.G.In.PartialEq.eq in
    let same_out = g.G.Out.PartialEq.eq in
    let node = c.args.node.now in
    let old = c.get-old.result.now in
    let input = c.args.input in
    if_ok_from (λ new. new ≡ node) _ c.share.result
    (λ new e. let z : moved same_in same_out node new ≡ 0 = ap (moved same_in same_out node) e
    ∙ moved_same same_in same_out (λ x. (g.met.G.Grammar.same_in x x).1 refl) (λ x. (g.met.G.Grammar.same_out x x).1 refl) node in omega (arith, z)) c.share.ensures

pub returns-in_err-below-clause-at_most : goal.returns-in_err-below-clause-at_most
returns-in_err-below-clause-at_most g t c =
    let the_rules = g.G.Grammar.rules in
    let same_in = g.G.In.PartialEq.eq in
    let same_out = g.G.Out.PartialEq.eq in
    let node = c.args.node.now in
    let old = c.get-old.result.now in
    let input = c.args.input in
    let kids = c.as_slice-kids.result.now in
    let other : IsOther the_rules same_in same_out node old kids input = record {
      fresh = c.requires.old_is_fresh;
      opened = c.get-old.ensures;
      listed = c.as_slice-kids.ensures;
      other = ap (λ x. same_in x input) (sym c.get.ensures) ∙ sym c.eq.ensures ∙ c.if-eq.false;
    } in
    so_far_bound the_rules same_in same_out node old kids c.loop-number.later.nodes input c.loop-number.number c.args.steps.now c.loop-number.steps other c.loop-number.invariant.so_far

pub renew-requires : goal.renew-requires
renew-requires g t c =
    let kid = c.index-kids-number.result in
    let kid_is_fresh : IsFresh g.G.Grammar.rules kid =
    fresh_kid g.G.Grammar.rules c.args.node.now c.get-old.result.now kid c.as_slice-kids.result.now (c.loop-number.number - 1) c.requires.old_is_fresh
    c.get-old.ensures c.as_slice-kids.ensures (omega (arith, c.loop-number.invariant.within, c.loop-number-test.true)) c.index-kids-number.is in
    λ κs w. (search (rules, the_lemmas), (search rules, (search rules, (search rules, (search rules, (search rules, (search rules, kid_is_fresh)))))))

pub returns-in_err-renew-clause-at_most : goal.returns-in_err-renew-clause-at_most
returns-in_err-renew-clause-at_most g t c =
    let the_rules = g.G.Grammar.rules in
    let same_in = g.G.In.PartialEq.eq in
    let same_out = g.G.Out.PartialEq.eq in
    let node = c.args.node.now in
    let old = c.get-old.result.now in
    let input = c.args.input in
    let kids = c.as_slice-kids.result.now in
    let other : IsOther the_rules same_in same_out node old kids input = record {
      fresh = c.requires.old_is_fresh;
      opened = c.get-old.ensures;
      listed = c.as_slice-kids.ensures;
      other = ap (λ x. same_in x input) (sym c.get.ensures) ∙ sym c.eq.ensures ∙ c.if-eq.false;
    } in
    let number = c.loop-number.number - 1 in
    let later = c.loop-number.later.nodes in
    let kid = c.index-kids-number.result in
    let under = c.in_ok-below.below in
    let next : IsNext the_rules same_in same_out old kid kids later input under c.loop-number.number number = record {
      down_by_one = omega (arith, c.loop-number-test.true);
      within = omega (arith, c.loop-number.invariant.within, c.loop-number-test.true);
      at = c.index-kids-number.is;
      serves = served the_rules same_in same_out _ (label_of old) input number _ (need_of kid) _ _ under c.in_ok-below.ensures
          c.get-in-loop-number-2.ensures (c.get-need.ensures ∙ ap need_of c.get-in-loop-number.ensures) c.results.ensures;
    } in
    part_bound the_rules same_in same_out node old kid kids later input under c.loop-number.number number c.args.steps.now c.loop-number.steps c.renew.new.steps
    other next c.loop-number.invariant.so_far c.renew.ensures.at_most

pub returns-in_err-later-clause-at_most : goal.returns-in_err-later-clause-at_most
returns-in_err-later-clause-at_most g t c =
    let the_rules = g.G.Grammar.rules in
    let same_in = g.G.In.PartialEq.eq in
    let same_out = g.G.Out.PartialEq.eq in
    let node = c.args.node.now in
    let old = c.get-old.result.now in
    let input = c.args.input in
    let kids = c.as_slice-kids.result.now in
    let other : IsOther the_rules same_in same_out node old kids input = record {
      fresh = c.requires.old_is_fresh;
      opened = c.get-old.ensures;
      listed = c.as_slice-kids.ensures;
      other = ap (λ x. same_in x input) (sym c.get.ensures) ∙ sym c.eq.ensures ∙ c.if-eq.false;
    } in
    let number = c.loop-number.number - 1 in
    let later = c.loop-number.later.nodes in
    let kid = c.index-kids-number.result in
    let under = c.in_ok-below.below in
    let next : IsNext the_rules same_in same_out old kid kids later input under c.loop-number.number number = record {
      down_by_one = omega (arith, c.loop-number-test.true);
      within = omega (arith, c.loop-number.invariant.within, c.loop-number-test.true);
      at = c.index-kids-number.is;
      serves = served the_rules same_in same_out _ (label_of old) input number _ (need_of kid) _ _ under c.in_ok-below.ensures
          c.get-in-loop-number-2.ensures (c.get-need.ensures ∙ ap need_of c.get-in-loop-number.ensures) c.results.ensures;
    } in
    part_bound the_rules same_in same_out node old kid kids later input under c.loop-number.number number c.args.steps.now c.loop-number.steps c.renew.new.steps
    other next c.loop-number.invariant.so_far c.renew.ensures.at_most

pub loop-number-preserved : goal.loop-number-preserved
loop-number-preserved g t c =
    let the_rules = g.G.Grammar.rules in
    let same_in = g.G.In.PartialEq.eq in
    let same_out = g.G.Out.PartialEq.eq in
    let node = c.args.node.now in
    let old = c.get-old.result.now in
    let input = c.args.input in
    let kids = c.as_slice-kids.result.now in
    let other : IsOther the_rules same_in same_out node old kids input = record {
      fresh = c.requires.old_is_fresh;
      opened = c.get-old.ensures;
      listed = c.as_slice-kids.ensures;
      other = ap (λ x. same_in x input) (sym c.get.ensures) ∙ sym c.eq.ensures ∙ c.if-eq.false;
    } in
    let number = c.loop-number.number - 1 in
    let later = c.loop-number.later.nodes in
    let kid = c.index-kids-number.result in
    let under = c.in_ok-below.below in
    let next : IsNext the_rules same_in same_out old kid kids later input under c.loop-number.number number = record {
      down_by_one = omega (arith, c.loop-number-test.true);
      within = omega (arith, c.loop-number.invariant.within, c.loop-number-test.true);
      at = c.index-kids-number.is;
      serves = served the_rules same_in same_out _ (label_of old) input number _ (need_of kid) _ _ under c.in_ok-below.ensures
          c.get-in-loop-number-2.ensures (c.get-need.ensures ∙ ap need_of c.get-in-loop-number.ensures) c.results.ensures;
    } in
    record {
      within = omega (arith, c.loop-number.invariant.within);
      so_far = subst (λ nodes. IsRenewed the_rules same_in same_out old input number kids nodes c.args.steps.now c.renew.new.steps) (sym c.in_ok-later.ensures)
          (one_renewed the_rules same_in same_out node old kid c.in_ok-renew.field-0 kids later input under c.loop-number.number number c.args.steps.now c.loop-number.steps c.renew.new.steps
          other next c.loop-number.invariant.so_far c.in_ok-renew.ensures.fresh c.in_ok-renew.ensures.ticks);
    }

pub returns-in_err-label-clause-at_most : goal.returns-in_err-label-clause-at_most
returns-in_err-label-clause-at_most g t c =
    let the_rules = g.G.Grammar.rules in
    let same_in = g.G.In.PartialEq.eq in
    let same_out = g.G.Out.PartialEq.eq in
    let node = c.args.node.now in
    let old = c.get-old.result.now in
    let input = c.args.input in
    let kids = c.as_slice-kids.result.now in
    let other : IsOther the_rules same_in same_out node old kids input = record {
      fresh = c.requires.old_is_fresh;
      opened = c.get-old.ensures;
      listed = c.as_slice-kids.ensures;
      other = ap (λ x. same_in x input) (sym c.get.ensures) ∙ sym c.eq.ensures ∙ c.if-eq.false;
    } in
    so_far_bound the_rules same_in same_out node old kids c.loop-number.later.nodes input c.loop-number.number c.args.steps.now c.loop-number.steps other c.loop-number.invariant.so_far

pub returns-in_err-need-clause-at_most : goal.returns-in_err-need-clause-at_most
returns-in_err-need-clause-at_most g t c =
    let the_rules = g.G.Grammar.rules in
    let same_in = g.G.In.PartialEq.eq in
    let same_out = g.G.Out.PartialEq.eq in
    let node = c.args.node.now in
    let old = c.get-old.result.now in
    let input = c.args.input in
    let kids = c.as_slice-kids.result.now in
    let other : IsOther the_rules same_in same_out node old kids input = record {
      fresh = c.requires.old_is_fresh;
      opened = c.get-old.ensures;
      listed = c.as_slice-kids.ensures;
      other = ap (λ x. same_in x input) (sym c.get.ensures) ∙ sym c.eq.ensures ∙ c.if-eq.false;
    } in
    so_far_bound the_rules same_in same_out node old kids c.loop-number.later.nodes input c.loop-number.number c.args.steps.now c.loop-number.steps other c.loop-number.invariant.so_far

pub returns-clause-fresh : goal.returns-clause-fresh
returns-clause-fresh g t c =
    let the_rules = g.G.Grammar.rules in
    let same_in = g.G.In.PartialEq.eq in
    let same_out = g.G.Out.PartialEq.eq in
    let node = c.args.node.now in
    let old = c.get-old.result.now in
    let input = c.args.input in
    let kids = c.as_slice-kids.result.now in
    let other : IsOther the_rules same_in same_out node old kids input = record {
      fresh = c.requires.old_is_fresh;
      opened = c.get-old.ensures;
      listed = c.as_slice-kids.ensures;
      other = ap (λ x. same_in x input) (sym c.get.ensures) ∙ sym c.eq.ensures ∙ c.if-eq.false;
    } in
    let later = c.loop-number.later.nodes in
    let none : c.loop-number.number ≡ 0 = omega (arith, c.loop-number-test.false) in
    let done = finished_is the_rules same_in same_out node old kids later input c.loop-number.number c.args.steps.now c.loop-number.steps c.in_ok-label.label c.in_ok-need.need
    other c.loop-number.invariant.so_far none c.in_ok-label.ensures c.in_ok-need.ensures in
    if_ok_is c.finish.result _ _ done c.finish.ensures.node

pub returns-clause-ticks : goal.returns-clause-ticks
returns-clause-ticks g t c =
    let the_rules = g.G.Grammar.rules in
    let same_in = g.G.In.PartialEq.eq in
    let same_out = g.G.Out.PartialEq.eq in
    let node = c.args.node.now in
    let old = c.get-old.result.now in
    let input = c.args.input in
    let kids = c.as_slice-kids.result.now in
    let other : IsOther the_rules same_in same_out node old kids input = record {
      fresh = c.requires.old_is_fresh;
      opened = c.get-old.ensures;
      listed = c.as_slice-kids.ensures;
      other = ap (λ x. same_in x input) (sym c.get.ensures) ∙ sym c.eq.ensures ∙ c.if-eq.false;
    } in
    let later = c.loop-number.later.nodes in
    let none : c.loop-number.number ≡ 0 = omega (arith, c.loop-number-test.false) in
    let done = finished_is the_rules same_in same_out node old kids later input c.loop-number.number c.args.steps.now c.loop-number.steps c.in_ok-label.label c.in_ok-need.need
    other c.loop-number.invariant.so_far none c.in_ok-label.ensures c.in_ok-need.ensures in
    let ticks = all_ticks the_rules same_in same_out node old kids later input c.loop-number.number c.args.steps.now c.loop-number.steps other c.loop-number.invariant.so_far none in
    if_ok_also (λ new. new ≡ finished the_rules c.in_ok-label.label c.in_ok-need.need input later) _ (c.finish.new.steps ≡ c.loop-number.steps + 1) c.finish.result
    (λ new e once. once ∙ ticks ∙ ap (λ n. c.args.steps.now + moved same_in same_out node n) (sym (e ∙ done))) c.finish.ensures.node c.finish.ensures.once

pub returns-clause-at_most : goal.returns-clause-at_most
returns-clause-at_most g t c =
    let the_rules = g.G.Grammar.rules in
    let same_in = g.G.In.PartialEq.eq in
    let same_out = g.G.Out.PartialEq.eq in
    let node = c.args.node.now in
    let old = c.get-old.result.now in
    let input = c.args.input in
    let kids = c.as_slice-kids.result.now in
    let other : IsOther the_rules same_in same_out node old kids input = record {
      fresh = c.requires.old_is_fresh;
      opened = c.get-old.ensures;
      listed = c.as_slice-kids.ensures;
      other = ap (λ x. same_in x input) (sym c.get.ensures) ∙ sym c.eq.ensures ∙ c.if-eq.false;
    } in
    let later = c.loop-number.later.nodes in
    let none : c.loop-number.number ≡ 0 = omega (arith, c.loop-number-test.false) in
    let ticks = all_ticks the_rules same_in same_out node old kids later input c.loop-number.number c.args.steps.now c.loop-number.steps other c.loop-number.invariant.so_far none in
    omega (arith, c.finish.ensures.at_most_once, ticks)
