use Rattle.std.proofs.Common.{rules, ◌≡◌, ◌+◌, ◌-◌, ◌≤◌, ◌<◌, length, ap, sym, ◌∙◌, refl, subst, arith}
use Rattle.std.specs.List.{AllByRecursion}
use Rattle.std.proofs.lemmas.List.Elements.{All-from_recursion}
use Rattle.attr_engine.specs.declared.plan.Plan.{Plan-F, the_lemmas}
use Rattle.attr_engine.specs.Nodes.{label_of, input_of, kids_of, outs, done}
use Rattle.attr_engine.specs.Fresh.{finished, IsFresh}
use Rattle.attr_engine.specs.Moved.{moved, moved_here}
use Rattle.attr_engine.specs.Plans.{plan_need, plan_growth, plan_moved, settled, settled_moved, IsRight}
use Rattle.attr_engine.proofs.Renewing.{served}
use Rattle.attr_engine.proofs.Results.{if_ok_is, if_ok_from, if_ok_also}
use Rattle.attr_engine.proofs.Settling.{kept_layer, new_layer, paired_layer, growth_of_layer, moved_of_layer, right_here, right_kids, new_growth, new_moved, paired_growth, paired_moved, next_plan}
use Rattle.attr_engine.proofs.SoFar.{IsSoFar, one_more, so_far_le, part_le}
use Rattle.attr_engine.proofs.engine.+settle.Goals as goal

pub settle-renew-requires : goal.settle-renew-requires
settle-renew-requires g t c =
    let the_rules = g.G.Grammar.rules in
    let same_in = g.G.In.PartialEq.eq in
    let same_out = g.G.Out.PartialEq.eq in
    let plan = c.args.plan.now in
    let input = c.args.input in
    let right = c.requires.plan_is_right in
    let node = c.in-Kept.node in
    let layer = kept_layer plan node c.in-Kept.is in
    record { old_is_fresh = right_here the_rules same_in same_out plan (Plan-F.Kept node) layer right }

pub settle-returns-in-Kept-clause-fresh : goal.settle-returns-in-Kept-clause-fresh
settle-returns-in-Kept-clause-fresh g t c =
    let the_rules = g.G.Grammar.rules in
    let same_in = g.G.In.PartialEq.eq in
    let same_out = g.G.Out.PartialEq.eq in
    let plan = c.args.plan.now in
    let input = c.args.input in
    let right = c.requires.plan_is_right in
    let node = c.in-Kept.node in
    let layer = kept_layer plan node c.in-Kept.is in
    let grown = growth_of_layer the_rules same_in same_out plan (Plan-F.Kept node) layer in
    let counted = moved_of_layer the_rules same_in same_out plan (Plan-F.Kept node) layer in
    if_ok_is c.renew.result _ _ (sym (ap (λ h. h.under input) grown)) c.renew.ensures.fresh

pub settle-returns-in-Kept-clause-ticks : goal.settle-returns-in-Kept-clause-ticks
settle-returns-in-Kept-clause-ticks g t c =
    let the_rules = g.G.Grammar.rules in
    let same_in = g.G.In.PartialEq.eq in
    let same_out = g.G.Out.PartialEq.eq in
    let plan = c.args.plan.now in
    let input = c.args.input in
    let right = c.requires.plan_is_right in
    let node = c.in-Kept.node in
    let layer = kept_layer plan node c.in-Kept.is in
    let grown = growth_of_layer the_rules same_in same_out plan (Plan-F.Kept node) layer in
    let counted = moved_of_layer the_rules same_in same_out plan (Plan-F.Kept node) layer in
    if_ok_from _ _ c.renew.result (λ new e. e ∙ ap (λ count. c.args.steps.now + count new) (sym counted)) c.renew.ensures.ticks

pub settle-returns-in-Kept-clause-at_most : goal.settle-returns-in-Kept-clause-at_most
settle-returns-in-Kept-clause-at_most g t c =
    let the_rules = g.G.Grammar.rules in
    let same_in = g.G.In.PartialEq.eq in
    let same_out = g.G.Out.PartialEq.eq in
    let plan = c.args.plan.now in
    let input = c.args.input in
    let right = c.requires.plan_is_right in
    let node = c.in-Kept.node in
    let layer = kept_layer plan node c.in-Kept.is in
    let grown = growth_of_layer the_rules same_in same_out plan (Plan-F.Kept node) layer in
    let counted = moved_of_layer the_rules same_in same_out plan (Plan-F.Kept node) layer in
    let most : c.renew.new.steps ≤ c.args.steps.now + plan_moved same_in same_out plan ((plan_growth the_rules plan).under input) =
    subst (λ count. c.renew.new.steps ≤ c.args.steps.now + count ((plan_growth the_rules plan).under input)) (sym counted)
    (subst (λ h. c.renew.new.steps ≤ c.args.steps.now + moved same_in same_out node (h.under input)) (sym grown) c.renew.ensures.at_most) in
    most

pub settle-settle_kids-requires : goal.settle-settle_kids-requires
settle-settle_kids-requires g t c =
    let the_rules = g.G.Grammar.rules in
    let same_in = g.G.In.PartialEq.eq in
    let same_out = g.G.Out.PartialEq.eq in
    let plan = c.args.plan.now in
    let input = c.args.input in
    let right = c.requires.plan_is_right in
    let label = c.in-New.label in
    let need = c.in-New.need in
    let kids = c.in-New.kids in
    let layer = new_layer plan label need kids c.in-New.is in
    let kids_right = subst (λ ks. AllByRecursion (IsRight the_rules same_in same_out) ks) (sym c.as_slice.ensures)
    (right_kids the_rules same_in same_out plan (Plan-F.New label need kids) layer right) in
    λ κs w. (search (rules, the_lemmas), (search rules, (search rules, (search rules, (search rules, (search rules, (search rules, kids_right)))))))

pub settle-returns-in_err-later-in-New-clause-at_most : goal.settle-returns-in_err-later-in-New-clause-at_most
settle-returns-in_err-later-in-New-clause-at_most g t c =
    let the_rules = g.G.Grammar.rules in
    let same_in = g.G.In.PartialEq.eq in
    let same_out = g.G.Out.PartialEq.eq in
    let plan = c.args.plan.now in
    let input = c.args.input in
    let right = c.requires.plan_is_right in
    let label = c.in-New.label in
    let need = c.in-New.need in
    let kids = c.in-New.kids in
    let layer = new_layer plan label need kids c.in-New.is in
    let at_label = c.get.ensures ∙ c.in_ok-label-in-New.ensures in
    let spent : settled_moved the_rules same_in same_out c.get.result.now input c.as_slice.result.now ≡ settled_moved the_rules same_in same_out label input kids =
    ap (λ l. settled_moved the_rules same_in same_out l input c.as_slice.result.now) at_label ∙ ap (settled_moved the_rules same_in same_out label input) c.as_slice.ensures in
    let total = new_moved the_rules same_in same_out plan label need kids input c.in-New.is right in
    omega (arith, c.settle_kids.ensures.at_most, spent, total)

pub settle-returns-in_ok-later-in-New-clause-fresh : goal.settle-returns-in_ok-later-in-New-clause-fresh
settle-returns-in_ok-later-in-New-clause-fresh g t c =
    let the_rules = g.G.Grammar.rules in
    let same_in = g.G.In.PartialEq.eq in
    let same_out = g.G.Out.PartialEq.eq in
    let plan = c.args.plan.now in
    let input = c.args.input in
    let right = c.requires.plan_is_right in
    let label = c.in-New.label in
    let need = c.in-New.need in
    let kids = c.in-New.kids in
    let layer = new_layer plan label need kids c.in-New.is in
    let at_label = c.get.ensures ∙ c.in_ok-label-in-New.ensures in
    let spent : settled_moved the_rules same_in same_out c.get.result.now input c.as_slice.result.now ≡ settled_moved the_rules same_in same_out label input kids =
    ap (λ l. settled_moved the_rules same_in same_out l input c.as_slice.result.now) at_label ∙ ap (settled_moved the_rules same_in same_out label input) c.as_slice.ensures in
    let total = new_moved the_rules same_in same_out plan label need kids input c.in-New.is right in
    let later = c.in_ok-later-in-New.later.nodes in
    let are : later ≡ settled the_rules label input kids =
    c.in_ok-later-in-New.ensures.nodes ∙ ap (λ l. settled the_rules l input c.as_slice.result.now) at_label ∙ ap (settled the_rules label input) c.as_slice.ensures in
    let whole : finished the_rules c.in_ok-label-in-New.label c.in_ok-need-in-New.need input later ≡ (plan_growth the_rules plan).under input =
    ap (λ l. finished the_rules l c.in_ok-need-in-New.need input later) c.in_ok-label-in-New.ensures ∙ ap (λ n. finished the_rules label n input later) c.in_ok-need-in-New.ensures
    ∙ ap (finished the_rules label need input) are ∙ new_growth the_rules same_in same_out plan label need kids input c.in-New.is right in
    if_ok_is c.finish.result _ _ whole c.finish.ensures.node

pub settle-returns-in_ok-later-in-New-clause-ticks : goal.settle-returns-in_ok-later-in-New-clause-ticks
settle-returns-in_ok-later-in-New-clause-ticks g t c =
    let the_rules = g.G.Grammar.rules in
    let same_in = g.G.In.PartialEq.eq in
    let same_out = g.G.Out.PartialEq.eq in
    let plan = c.args.plan.now in
    let input = c.args.input in
    let right = c.requires.plan_is_right in
    let label = c.in-New.label in
    let need = c.in-New.need in
    let kids = c.in-New.kids in
    let layer = new_layer plan label need kids c.in-New.is in
    let at_label = c.get.ensures ∙ c.in_ok-label-in-New.ensures in
    let spent : settled_moved the_rules same_in same_out c.get.result.now input c.as_slice.result.now ≡ settled_moved the_rules same_in same_out label input kids =
    ap (λ l. settled_moved the_rules same_in same_out l input c.as_slice.result.now) at_label ∙ ap (settled_moved the_rules same_in same_out label input) c.as_slice.ensures in
    let total = new_moved the_rules same_in same_out plan label need kids input c.in-New.is right in
    let later = c.in_ok-later-in-New.later.nodes in
    let are : later ≡ settled the_rules label input kids =
    c.in_ok-later-in-New.ensures.nodes ∙ ap (λ l. settled the_rules l input c.as_slice.result.now) at_label ∙ ap (settled the_rules label input) c.as_slice.ensures in
    let whole : finished the_rules c.in_ok-label-in-New.label c.in_ok-need-in-New.need input later ≡ (plan_growth the_rules plan).under input =
    ap (λ l. finished the_rules l c.in_ok-need-in-New.need input later) c.in_ok-label-in-New.ensures ∙ ap (λ n. finished the_rules label n input later) c.in_ok-need-in-New.ensures
    ∙ ap (finished the_rules label need input) are ∙ new_growth the_rules same_in same_out plan label need kids input c.in-New.is right in
    let all : c.settle_kids.new.steps + 1 ≡ c.args.steps.now + plan_moved same_in same_out plan ((plan_growth the_rules plan).under input) =
    omega (arith, c.in_ok-later-in-New.ensures.ticks, spent, total) in
    if_ok_also (λ node. node ≡ finished the_rules c.in_ok-label-in-New.label c.in_ok-need-in-New.need input later) _ (c.finish.new.steps ≡ c.settle_kids.new.steps + 1) c.finish.result
    (λ node e once. once ∙ all ∙ ap (λ n. c.args.steps.now + plan_moved same_in same_out plan n) (sym (e ∙ whole))) c.finish.ensures.node c.finish.ensures.once

pub settle-returns-in_ok-later-in-New-clause-at_most : goal.settle-returns-in_ok-later-in-New-clause-at_most
settle-returns-in_ok-later-in-New-clause-at_most g t c =
    let the_rules = g.G.Grammar.rules in
    let same_in = g.G.In.PartialEq.eq in
    let same_out = g.G.Out.PartialEq.eq in
    let plan = c.args.plan.now in
    let input = c.args.input in
    let right = c.requires.plan_is_right in
    let label = c.in-New.label in
    let need = c.in-New.need in
    let kids = c.in-New.kids in
    let layer = new_layer plan label need kids c.in-New.is in
    let at_label = c.get.ensures ∙ c.in_ok-label-in-New.ensures in
    let spent : settled_moved the_rules same_in same_out c.get.result.now input c.as_slice.result.now ≡ settled_moved the_rules same_in same_out label input kids =
    ap (λ l. settled_moved the_rules same_in same_out l input c.as_slice.result.now) at_label ∙ ap (settled_moved the_rules same_in same_out label input) c.as_slice.ensures in
    let total = new_moved the_rules same_in same_out plan label need kids input c.in-New.is right in
    omega (arith, c.finish.ensures.at_most_once, c.in_ok-later-in-New.ensures.ticks, spent, total)

pub settle-settle_kids-requires-in-Paired : goal.settle-settle_kids-requires-in-Paired
settle-settle_kids-requires-in-Paired g t c =
    let the_rules = g.G.Grammar.rules in
    let same_in = g.G.In.PartialEq.eq in
    let same_out = g.G.Out.PartialEq.eq in
    let plan = c.args.plan.now in
    let input = c.args.input in
    let right = c.requires.plan_is_right in
    let old = c.in-Paired.old in
    let need = c.in-Paired.need in
    let kids = c.in-Paired.kids in
    let layer = paired_layer plan old need kids c.in-Paired.is in
    let kids_right = subst (λ ks. AllByRecursion (IsRight the_rules same_in same_out) ks) (sym c.as_slice-in-Paired.ensures)
    (right_kids the_rules same_in same_out plan (Plan-F.Paired old need kids) layer right) in
    λ κs w. (search (rules, the_lemmas), (search rules, (search rules, (search rules, (search rules, (search rules, (search rules, kids_right)))))))

pub settle-finish_paired-requires : goal.settle-finish_paired-requires
settle-finish_paired-requires g t c =
    let the_rules = g.G.Grammar.rules in
    let same_in = g.G.In.PartialEq.eq in
    let same_out = g.G.Out.PartialEq.eq in
    let plan = c.args.plan.now in
    let input = c.args.input in
    let right = c.requires.plan_is_right in
    let old = c.in-Paired.old in
    let need = c.in-Paired.need in
    let kids = c.in-Paired.kids in
    let layer = paired_layer plan old need kids c.in-Paired.is in
    record { old_is_fresh = subst (λ n. IsFresh the_rules n) (sym c.get-old.ensures) (right_here the_rules same_in same_out plan (Plan-F.Paired old need kids) layer right).0 }

pub settle-returns-in_err-later-in-Paired-clause-at_most : goal.settle-returns-in_err-later-in-Paired-clause-at_most
settle-returns-in_err-later-in-Paired-clause-at_most g t c =
    let the_rules = g.G.Grammar.rules in
    let same_in = g.G.In.PartialEq.eq in
    let same_out = g.G.Out.PartialEq.eq in
    let plan = c.args.plan.now in
    let input = c.args.input in
    let right = c.requires.plan_is_right in
    let old = c.in-Paired.old in
    let need = c.in-Paired.need in
    let kids = c.in-Paired.kids in
    let layer = paired_layer plan old need kids c.in-Paired.is in
    let at_label = c.get-label.ensures ∙ ap label_of c.get-old.ensures in
    let slice = c.as_slice-in-Paired.result.now in
    let spent : settled_moved the_rules same_in same_out c.get-label.result.now input slice ≡ settled_moved the_rules same_in same_out (label_of old) input kids =
    ap (λ l. settled_moved the_rules same_in same_out l input slice) at_label ∙ ap (settled_moved the_rules same_in same_out (label_of old) input) c.as_slice-in-Paired.ensures in
    let total = paired_moved the_rules same_in same_out plan old need kids input c.in-Paired.is right in
    omega (arith, c.settle_kids-in-Paired.ensures.at_most, spent, total)

pub settle-returns-in_ok-later-in-Paired-clause-fresh : goal.settle-returns-in_ok-later-in-Paired-clause-fresh
settle-returns-in_ok-later-in-Paired-clause-fresh g t c =
    let the_rules = g.G.Grammar.rules in
    let same_in = g.G.In.PartialEq.eq in
    let same_out = g.G.Out.PartialEq.eq in
    let plan = c.args.plan.now in
    let input = c.args.input in
    let right = c.requires.plan_is_right in
    let old = c.in-Paired.old in
    let need = c.in-Paired.need in
    let kids = c.in-Paired.kids in
    let layer = paired_layer plan old need kids c.in-Paired.is in
    let at_label = c.get-label.ensures ∙ ap label_of c.get-old.ensures in
    let slice = c.as_slice-in-Paired.result.now in
    let spent : settled_moved the_rules same_in same_out c.get-label.result.now input slice ≡ settled_moved the_rules same_in same_out (label_of old) input kids =
    ap (λ l. settled_moved the_rules same_in same_out l input slice) at_label ∙ ap (settled_moved the_rules same_in same_out (label_of old) input) c.as_slice-in-Paired.ensures in
    let total = paired_moved the_rules same_in same_out plan old need kids input c.in-Paired.is right in
    let later = c.in_ok-later-in-Paired.later.nodes in
    let are : later ≡ settled the_rules (label_of old) input kids =
    c.in_ok-later-in-Paired.ensures.nodes ∙ ap (λ l. settled the_rules l input slice) at_label ∙ ap (settled the_rules (label_of old) input) c.as_slice-in-Paired.ensures in
    let opened = c.get-old.result.now in
    let whole : finished the_rules (label_of opened) c.in_ok-need-in-Paired.need input later ≡ (plan_growth the_rules plan).under input =
    ap (λ o. finished the_rules (label_of o) c.in_ok-need-in-Paired.need input later) c.get-old.ensures
    ∙ ap (λ n. finished the_rules (label_of old) n input later) c.in_ok-need-in-Paired.ensures
    ∙ ap (finished the_rules (label_of old) need input) are ∙ paired_growth the_rules same_in same_out plan old need kids input c.in-Paired.is right in
    let here : moved_here same_in same_out (input_of opened) (outs (kids_of opened)) input (outs later)
    ≡ moved_here same_in same_out (input_of old) (outs (kids_of old)) input (outs (settled the_rules (label_of old) input kids)) =
    ap (λ o. moved_here same_in same_out (input_of o) (outs (kids_of o)) input (outs later)) c.get-old.ensures
    ∙ ap (λ ns. moved_here same_in same_out (input_of old) (outs (kids_of old)) input (outs ns)) are in
    if_ok_is c.finish_paired.result _ _ whole c.finish_paired.ensures.node

pub settle-returns-in_ok-later-in-Paired-clause-ticks : goal.settle-returns-in_ok-later-in-Paired-clause-ticks
settle-returns-in_ok-later-in-Paired-clause-ticks g t c =
    let the_rules = g.G.Grammar.rules in
    let same_in = g.G.In.PartialEq.eq in
    let same_out = g.G.Out.PartialEq.eq in
    let plan = c.args.plan.now in
    let input = c.args.input in
    let right = c.requires.plan_is_right in
    let old = c.in-Paired.old in
    let need = c.in-Paired.need in
    let kids = c.in-Paired.kids in
    let layer = paired_layer plan old need kids c.in-Paired.is in
    let at_label = c.get-label.ensures ∙ ap label_of c.get-old.ensures in
    let slice = c.as_slice-in-Paired.result.now in
    let spent : settled_moved the_rules same_in same_out c.get-label.result.now input slice ≡ settled_moved the_rules same_in same_out (label_of old) input kids =
    ap (λ l. settled_moved the_rules same_in same_out l input slice) at_label ∙ ap (settled_moved the_rules same_in same_out (label_of old) input) c.as_slice-in-Paired.ensures in
    let total = paired_moved the_rules same_in same_out plan old need kids input c.in-Paired.is right in
    let later = c.in_ok-later-in-Paired.later.nodes in
    let are : later ≡ settled the_rules (label_of old) input kids =
    c.in_ok-later-in-Paired.ensures.nodes ∙ ap (λ l. settled the_rules l input slice) at_label ∙ ap (settled the_rules (label_of old) input) c.as_slice-in-Paired.ensures in
    let opened = c.get-old.result.now in
    let whole : finished the_rules (label_of opened) c.in_ok-need-in-Paired.need input later ≡ (plan_growth the_rules plan).under input =
    ap (λ o. finished the_rules (label_of o) c.in_ok-need-in-Paired.need input later) c.get-old.ensures
    ∙ ap (λ n. finished the_rules (label_of old) n input later) c.in_ok-need-in-Paired.ensures
    ∙ ap (finished the_rules (label_of old) need input) are ∙ paired_growth the_rules same_in same_out plan old need kids input c.in-Paired.is right in
    let here : moved_here same_in same_out (input_of opened) (outs (kids_of opened)) input (outs later)
    ≡ moved_here same_in same_out (input_of old) (outs (kids_of old)) input (outs (settled the_rules (label_of old) input kids)) =
    ap (λ o. moved_here same_in same_out (input_of o) (outs (kids_of o)) input (outs later)) c.get-old.ensures
    ∙ ap (λ ns. moved_here same_in same_out (input_of old) (outs (kids_of old)) input (outs ns)) are in
    let one = moved_here same_in same_out (input_of opened) (outs (kids_of opened)) input (outs later) in
    let all : c.settle_kids-in-Paired.new.steps + one ≡ c.args.steps.now + plan_moved same_in same_out plan ((plan_growth the_rules plan).under input) =
    omega (arith, c.in_ok-later-in-Paired.ensures.ticks, spent, total, here) in
    if_ok_also (λ node. node ≡ finished the_rules (label_of opened) c.in_ok-need-in-Paired.need input later) _ (c.finish_paired.new.steps ≡ c.settle_kids-in-Paired.new.steps + one) c.finish_paired.result
    (λ node e once. once ∙ all ∙ ap (λ n. c.args.steps.now + plan_moved same_in same_out plan n) (sym (e ∙ whole))) c.finish_paired.ensures.node c.finish_paired.ensures.ticks

pub settle-returns-in_ok-later-in-Paired-clause-at_most : goal.settle-returns-in_ok-later-in-Paired-clause-at_most
settle-returns-in_ok-later-in-Paired-clause-at_most g t c =
    let the_rules = g.G.Grammar.rules in
    let same_in = g.G.In.PartialEq.eq in
    let same_out = g.G.Out.PartialEq.eq in
    let plan = c.args.plan.now in
    let input = c.args.input in
    let right = c.requires.plan_is_right in
    let old = c.in-Paired.old in
    let need = c.in-Paired.need in
    let kids = c.in-Paired.kids in
    let layer = paired_layer plan old need kids c.in-Paired.is in
    let at_label = c.get-label.ensures ∙ ap label_of c.get-old.ensures in
    let slice = c.as_slice-in-Paired.result.now in
    let spent : settled_moved the_rules same_in same_out c.get-label.result.now input slice ≡ settled_moved the_rules same_in same_out (label_of old) input kids =
    ap (λ l. settled_moved the_rules same_in same_out l input slice) at_label ∙ ap (settled_moved the_rules same_in same_out (label_of old) input) c.as_slice-in-Paired.ensures in
    let total = paired_moved the_rules same_in same_out plan old need kids input c.in-Paired.is right in
    let later = c.in_ok-later-in-Paired.later.nodes in
    let are : later ≡ settled the_rules (label_of old) input kids =
    c.in_ok-later-in-Paired.ensures.nodes ∙ ap (λ l. settled the_rules l input slice) at_label ∙ ap (settled the_rules (label_of old) input) c.as_slice-in-Paired.ensures in
    let opened = c.get-old.result.now in
    let whole : finished the_rules (label_of opened) c.in_ok-need-in-Paired.need input later ≡ (plan_growth the_rules plan).under input =
    ap (λ o. finished the_rules (label_of o) c.in_ok-need-in-Paired.need input later) c.get-old.ensures
    ∙ ap (λ n. finished the_rules (label_of old) n input later) c.in_ok-need-in-Paired.ensures
    ∙ ap (finished the_rules (label_of old) need input) are ∙ paired_growth the_rules same_in same_out plan old need kids input c.in-Paired.is right in
    let here : moved_here same_in same_out (input_of opened) (outs (kids_of opened)) input (outs later)
    ≡ moved_here same_in same_out (input_of old) (outs (kids_of old)) input (outs (settled the_rules (label_of old) input kids)) =
    ap (λ o. moved_here same_in same_out (input_of o) (outs (kids_of o)) input (outs later)) c.get-old.ensures
    ∙ ap (λ ns. moved_here same_in same_out (input_of old) (outs (kids_of old)) input (outs ns)) are in
    omega (arith, c.finish_paired.ensures.at_most, c.in_ok-later-in-Paired.ensures.ticks, spent, total, here)

pub settle_kids-returns-in_err-under-clause-at_most : goal.settle_kids-returns-in_err-under-clause-at_most
settle_kids-returns-in_err-under-clause-at_most g t c =
    let the_rules = g.G.Grammar.rules in
    let same_in = g.G.In.PartialEq.eq in
    let same_out = g.G.Out.PartialEq.eq in
    let label = c.args.label.now in
    let input = c.args.input.now in
    let plans = c.args.plans.now in
    let later = c.loop-number.later.nodes in
    let start = c.args.steps.now in
    let grows = plan_growth the_rules in
    let counts = plan_moved same_in same_out in
    so_far_le the_rules label input grows counts c.loop-number.number plans later start c.loop-number.steps c.loop-number.invariant.so_far

pub settle_kids-returns-in_err-settle-clause-at_most : goal.settle_kids-returns-in_err-settle-clause-at_most
settle_kids-returns-in_err-settle-clause-at_most g t c =
    let the_rules = g.G.Grammar.rules in
    let same_in = g.G.In.PartialEq.eq in
    let same_out = g.G.Out.PartialEq.eq in
    let label = c.args.label.now in
    let input = c.args.input.now in
    let plans = c.args.plans.now in
    let later = c.loop-number.later.nodes in
    let start = c.args.steps.now in
    let grows = plan_growth the_rules in
    let counts = plan_moved same_in same_out in
    let number = c.loop-number.number - 1 in
    let plan = c.index-plans-number.result in
    let under = c.in_ok-under.under in
    let by_one : c.loop-number.number ≡ number + 1 = omega (arith, c.loop-number-test.true) in
    let within : number < length plans = omega (arith, c.loop-number.invariant.within, c.loop-number-test.true) in
    let right : IsRight the_rules same_in same_out plan = subst (λ p. IsRight the_rules same_in same_out p) (sym c.index-plans-number.is)
    (All-from_recursion (IsRight the_rules same_in same_out) plans c.requires.plans_are_right number plan within) in
    let serves = served the_rules same_in same_out _ label input number _ (plan_need plan) _ _ under c.in_ok-under.ensures refl (c.get-need.ensures ∙ c.need.ensures) c.results.ensures in
    let comes = next_plan the_rules same_in same_out label input under number plan later right serves in
    let most : c.settle.new.steps ≤ c.loop-number.steps + counts plan ((grows plan).under (the_rules.down label input number (grows plan).need (done later))) =
    subst (λ n. c.settle.new.steps ≤ c.loop-number.steps + counts plan n) comes c.settle.ensures.at_most in
    part_le the_rules label input grows counts c.loop-number.number number plans plan later start c.loop-number.steps c.settle.new.steps by_one within c.index-plans-number.is
    c.loop-number.invariant.so_far most

pub settle_kids-returns-in_err-later-clause-at_most : goal.settle_kids-returns-in_err-later-clause-at_most
settle_kids-returns-in_err-later-clause-at_most g t c =
    let the_rules = g.G.Grammar.rules in
    let same_in = g.G.In.PartialEq.eq in
    let same_out = g.G.Out.PartialEq.eq in
    let label = c.args.label.now in
    let input = c.args.input.now in
    let plans = c.args.plans.now in
    let later = c.loop-number.later.nodes in
    let start = c.args.steps.now in
    let grows = plan_growth the_rules in
    let counts = plan_moved same_in same_out in
    let number = c.loop-number.number - 1 in
    let plan = c.index-plans-number.result in
    let under = c.in_ok-under.under in
    let by_one : c.loop-number.number ≡ number + 1 = omega (arith, c.loop-number-test.true) in
    let within : number < length plans = omega (arith, c.loop-number.invariant.within, c.loop-number-test.true) in
    let right : IsRight the_rules same_in same_out plan = subst (λ p. IsRight the_rules same_in same_out p) (sym c.index-plans-number.is)
    (All-from_recursion (IsRight the_rules same_in same_out) plans c.requires.plans_are_right number plan within) in
    let serves = served the_rules same_in same_out _ label input number _ (plan_need plan) _ _ under c.in_ok-under.ensures refl (c.get-need.ensures ∙ c.need.ensures) c.results.ensures in
    let comes = next_plan the_rules same_in same_out label input under number plan later right serves in
    let most : c.settle.new.steps ≤ c.loop-number.steps + counts plan ((grows plan).under (the_rules.down label input number (grows plan).need (done later))) =
    subst (λ n. c.settle.new.steps ≤ c.loop-number.steps + counts plan n) comes c.settle.ensures.at_most in
    part_le the_rules label input grows counts c.loop-number.number number plans plan later start c.loop-number.steps c.settle.new.steps by_one within c.index-plans-number.is
    c.loop-number.invariant.so_far most

pub settle_kids-loop-number-preserved : goal.settle_kids-loop-number-preserved
settle_kids-loop-number-preserved g t c =
    let the_rules = g.G.Grammar.rules in
    let same_in = g.G.In.PartialEq.eq in
    let same_out = g.G.Out.PartialEq.eq in
    let label = c.args.label.now in
    let input = c.args.input.now in
    let plans = c.args.plans.now in
    let later = c.loop-number.later.nodes in
    let start = c.args.steps.now in
    let grows = plan_growth the_rules in
    let counts = plan_moved same_in same_out in
    let number = c.loop-number.number - 1 in
    let plan = c.index-plans-number.result in
    let under = c.in_ok-under.under in
    let by_one : c.loop-number.number ≡ number + 1 = omega (arith, c.loop-number-test.true) in
    let within : number < length plans = omega (arith, c.loop-number.invariant.within, c.loop-number-test.true) in
    let right : IsRight the_rules same_in same_out plan = subst (λ p. IsRight the_rules same_in same_out p) (sym c.index-plans-number.is)
    (All-from_recursion (IsRight the_rules same_in same_out) plans c.requires.plans_are_right number plan within) in
    let serves = served the_rules same_in same_out _ label input number _ (plan_need plan) _ _ under c.in_ok-under.ensures refl (c.get-need.ensures ∙ c.need.ensures) c.results.ensures in
    let comes = next_plan the_rules same_in same_out label input under number plan later right serves in
    record {
      within = omega (arith, within);
      so_far = subst (λ nodes. IsSoFar the_rules label input grows counts number plans nodes start c.settle.new.steps) (sym c.in_ok-later.ensures)
          (one_more the_rules label input grows counts c.loop-number.number number plans plan later c.in_ok-settle.field-0 start c.loop-number.steps c.settle.new.steps
          by_one within c.index-plans-number.is c.loop-number.invariant.so_far (c.in_ok-settle.ensures.fresh ∙ comes) c.in_ok-settle.ensures.ticks);
    }
