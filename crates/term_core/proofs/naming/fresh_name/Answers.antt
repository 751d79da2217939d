use Rattle.std.proofs.Common.{◌≡◌, ◌-◌, ◌+◌, length, ap, sym, ◌∙◌, arith, [], ◌∷◌, ◌++◌}
use Rattle.term_core.specs.Names.{apart_from, tick}
use Rattle.term_core.proofs.NameLaws.{apart_found, apart_passed}
use Rattle.term_core.proofs.naming.fresh_name.Goals as goal

pub loop-init : goal.loop-init
loop-init c = let k : length c.args.taken.now - 0 ≡ length c.args.taken.now = omega arith in
    ap (λ j. apart_from j c.args.taken.now c.from-made.result) k ∙ ap (apart_from (length c.args.taken.now) c.args.taken.now) (c.from-made.ensures ∙ c.in_ok-base_of.ensures)

pub returns-then-not-has_name : goal.returns-then-not-has_name
returns-then-not-has_name c = let l = c.loop-test.true in sym (apart_found (length c.args.taken.now - c.loop.counter) c.args.taken.now c.loop.made (omega arith) (sym c.has_name.ensures ∙ c.if-not-has_name.true)) ∙ c.loop.invariant

pub loop-preserved : goal.loop-preserved
loop-preserved c = let l = c.loop-test.true in let k : (length c.args.taken.now - c.loop.counter) - 1 ≡ length c.args.taken.now - (c.loop.counter + 1) = omega arith in
    sym (apart_passed (length c.args.taken.now - c.loop.counter) c.args.taken.now c.loop.made (omega arith) (sym c.has_name.ensures ∙ c.if-not-has_name.false)
    ∙ (ap (λ j. apart_from j c.args.taken.now (c.loop.made ++ tick ∷ [])) k ∙ ap (apart_from (length c.args.taken.now - (c.loop.counter + 1)) c.args.taken.now) (sym c.in_ok-made.ensures))) ∙ c.loop.invariant

pub returns : goal.returns
returns c = let l = c.loop-test.false in let k : length c.args.taken.now - c.loop.counter ≡ 0 = omega arith in sym (ap (λ j. apart_from j c.args.taken.now c.loop.made) k) ∙ c.loop.invariant
