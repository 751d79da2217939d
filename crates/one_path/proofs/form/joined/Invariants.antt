use Rattle.std.proofs.Common.{◌≡◌}
use Rattle.one_path.specs.Form.{joined}
use Rattle.one_path.proofs.form.joined.Given as goal

abbrev pub invariant-loop-group : goal.invariant-loop-group
invariant-loop-group l = l.names.items ≡ joined l.yielded
