use Rattle.outside.proofs.Runs.{went_wrote, ran_cut}
use Rattle.penelope_cli.proofs.tell.say.Goals as goal

pub returns-in-Ok : goal.returns-in-Ok
returns-in-Ok g c = λ s p. went_wrote c.args.text.now p s (g.K.Sink.state c.args.out.now) (g.K.Sink.state c.write_all.new.sink) c.in-Ok.ensures.written c.in-Ok.ensures.counts

pub returns-in-Err-Failed : goal.returns-in-Err-Failed
returns-in-Err-Failed g c = λ s p. ran_cut c.args.text.now p s (g.K.Sink.state c.args.out.now) (g.K.Sink.state c.write_all.new.sink) c.in-Err-Failed.ensures.part c.in-Err-Failed.ensures.counts c.in-Err-Failed.ensures.failed
