use Rattle.edit_script.proofs.Rows.{table_is_computed}
use Rattle.edit_script.proofs.laws.commands_are_those_of_the_table.Goals as goal

pub returns : goal.returns
returns c = table_is_computed
