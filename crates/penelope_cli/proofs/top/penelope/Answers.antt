use Rattle.penelope_cli.proofs.Clauses.{keeps}
use Rattle.penelope_cli.proofs.top.penelope.Goals as goal

pub returns : goal.returns
returns g c = keeps _ c.obey.result c.code.ensures c.obey.ensures
