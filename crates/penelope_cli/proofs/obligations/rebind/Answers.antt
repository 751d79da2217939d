use Rattle.penelope_cli.proofs.Stores.{set-position, no-position}
use Rattle.std.proofs.Common.{sym, ◌∙◌}
use Rattle.penelope_cli.proofs.obligations.rebind.Goals as goal

pub returns-in-Some : goal.returns-in-Some
returns-in-Some c = set-position c.args.bindings.now c.args.name.now c.args.value c.index-bindings-place.result c.in-Some.place (sym c.in-Some.is ∙ c.place_of.ensures)

pub returns-in_default : goal.returns-in_default
returns-in_default c = no-position c.args.bindings.now c.args.name.now c.args.value (sym c.in_default.is ∙ c.place_of.ensures)
