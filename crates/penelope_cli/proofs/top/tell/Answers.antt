use Rattle.outside.proofs.Runs.{ran_gave_up}
use Rattle.penelope_cli.specs.Fresh.{fresh}
use Rattle.penelope_cli.specs.Plans.{tell}
use Rattle.penelope_cli.specs.Words.{named}
use Rattle.penelope_cli.proofs.top.tell.Goals as goal

pub returns-in-Err : goal.returns-in-Err
returns-in-Err g c = λ s. ran_gave_up (tell (fresh (named c.args.command) c.args.sources.now)) s (g.K.Sink.state c.args.out.now)
