use Rattle.std.proofs.Common.{[], ◌∷◌}
use Rattle.std.proofs.lemmas.Result.{err_from_is_err_and}
use Rattle.outside.specs.Plan.{say_all, line_of}
use Rattle.outside.proofs.Runs.{went_ran, went_then, goes_then, goes_same, line_plan}
use Rattle.penelope_cli.proofs.tell.say_line.Goals as goal

pub returns-in_err-say : goal.returns-in_err-say
returns-in_err-say g c =
    let p = err_from_is_err_and c.from_residual.result c.from_residual.ensures.1 in
    rw (p.1, p.2) (λ s after. rw (line_plan c.args.word.now c.args.name.now after, ← c.as_bytes.ensures.value) (c.in_err-say.ensures s (say_all c.args.name.now (say_all (10 ∷ []) after))))

pub returns-in_err-say-2 : goal.returns-in_err-say-2
returns-in_err-say-2 g c =
    let p = err_from_is_err_and c.from_residual-in_err-say-2.result c.from_residual-in_err-say-2.ensures.1 in
    rw (p.1, p.2) (λ s after. rw (line_plan c.args.word.now c.args.name.now after, ← c.as_bytes.ensures.value, ← c.as_bytes-2.ensures.value)
    (went_ran (c.in_ok-say.ensures s (say_all c.as_bytes-2.result.now (say_all (10 ∷ []) after))) (c.in_err-say-2.ensures s (say_all (10 ∷ []) after))))

pub returns : goal.returns
returns g c = λ s.
    goes_same (λ p. say_all c.args.word.now (say_all c.args.name.now (say_all (10 ∷ []) p))) (say_all (line_of c.args.word.now c.args.name.now)) c.say-3.result s s (g.K.Sink.state c.args.out.now) (g.K.Sink.state c.say-3.new.out) (λ p. line_plan c.args.word.now c.args.name.now p)
    (rw (← c.as_bytes.ensures.value, ← c.as_bytes-2.ensures.value) (goes_then (λ p. say_all c.as_bytes.result.now (say_all c.as_bytes-2.result.now p)) (say_all (10 ∷ [])) c.say-3.result s s s (g.K.Sink.state c.args.out.now) (g.K.Sink.state c.say-2.new.out) (g.K.Sink.state c.say-3.new.out)
    (λ p. went_then (c.in_ok-say.ensures s (say_all c.as_bytes-2.result.now p)) (c.in_ok-say-2.ensures s p)) (c.say-3.ensures s)))
