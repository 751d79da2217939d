use Rattle.std.proofs.Common.{◌≡◌, Some, subst}
use Rattle.std.specs.Prelude.{slice_get}
use Rattle.reading_machine.proofs.pending.Pending.at.Goals as goal

pub returns : goal.returns
returns c = subst (λ ss. slice_get ss c.args.depth ≡ Some c.at.result.now) c.self.view_is c.at.ensures
