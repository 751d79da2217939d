use Rattle.term_laws.proofs.Defaults.{default-like}
use Rattle.term_laws.proofs.values.defaults_follow_from_shapes.Goals as goal

pub returns : goal.returns
returns c = default-like
