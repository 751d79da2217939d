use Rattle.std.proofs.Common.{◌≡◌}
use Rattle.penelope_cli.specs.Bindings.{after_statements, entry_bindings}
use Rattle.penelope_cli.proofs.Stores.{conclusions_end}
use Rattle.penelope_cli.proofs.obligations.goal.Goals as goal

pub returns : goal.returns
returns c =
    let end : c.as_slice-2.result.now ≡ after_statements c.args.unit.now.statements (entry_bindings c.args.unit.now.formals) = cc (c.as_slice-2.ensures.value, c.in_ok-end.ensures, c.as_slice.ensures, c.as_slice-formals.ensures) in
    rw (← conclusions_end c.args.unit.now c.as_slice-2.result.now c.as_slice-3.result.now c.requires end c.as_slice-3.ensures) c.conclusion.ensures
