use Rattle.outside.specs.Plan.{finish}
use Rattle.outside.proofs.Runs.{went_ran, ran_done}
use Rattle.penelope_cli.proofs.tell.end_with.Goals as goal

pub returns-in-Ok : goal.returns-in-Ok
returns-in-Ok g c = λ s. went_ran (c.in-Ok.ensures s (finish c.args.status)) (ran_done c.args.status s (g.K.Sink.state c.say.new.out) c.requires.sink)
