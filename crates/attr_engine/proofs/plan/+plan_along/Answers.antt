use Rattle.std.proofs.Common.{◌≡◌, ◌∷◌, arith}
use Rattle.std.proofs.lemmas.Grind.{common_steps}
use Rattle.attr_engine.proofs.Planning.{planned_step}
use Rattle.attr_engine.proofs.Results.{if_ok_is}
use Rattle.attr_engine.proofs.There.{step_within}
use Rattle.attr_engine.proofs.plan.+plan_along.Goals as goal

pub returns-in_ok-put-in-Some : goal.returns-in_ok-put-in-Some
returns-in_ok-put-in-Some g t c =
    let number = c.in-Some.number.now in
    let rest = c.in-Some.rest.now in
    let path : c.args.path.now ≡ number ∷ rest = grind (arith, common_steps) in
    let within = step_within _ rest number c.args.from c.args.to c.args.old.now path c.requires in
    if_ok_is c.pair-in-Some.result _ _
    (planned_step g.G.Grammar.rules c.args.old.now c.args.path.now rest number c.args.from c.args.to c.args.made c.push.new.self c.in_ok-put-in-Some.field-0 c.index-nodes-number.result
    path within (grind (arith, common_steps)) (grind (arith, common_steps)) (grind (arith, common_steps)))
    c.pair-in-Some.ensures
