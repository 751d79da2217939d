use Rattle.std.proofs.Common.{◌≤◌, true≢false, sym, ◌∙◌, subst, Option, IfSome}
use Rattle.std.proofs.lemmas.Result.{IfOk-weaker}
use Rattle.serde_json.specs.View.{view}
use Rattle.edit_script.specs.declared.command.Command.{Command}
use Rattle.edit_script.specs.declared.line.TheConstants.{MOST_MEMBERS}
use Rattle.edit_script.specs.Commands.{edits_in}
use Rattle.edit_script.proofs.Lines.{no_command, command_of_data}
use Rattle.edit_script.proofs.Few.{few_edits}
use Rattle.edit_script.proofs.script.command_in.Goals as goal

pub returns-in-Ok-clause-command : goal.returns-in-Ok-clause-command
returns-in-Ok-clause-command c =
    IfOk-weaker c.command_of.result _ _ (λ found is. is ∙ sym (command_of_data c.args.line.now (view c.in-Ok.value) c.in-Ok.ensures.ok.0 c.in-Ok.ensures.ok.1)) c.command_of.ensures

pub returns-in-Ok-clause-few : goal.returns-in-Ok-clause-few
returns-in-Ok-clause-few c =
    let Few : Option Command → Type 0 = λ o. IfSome o (λ found. edits_in found ≤ MOST_MEMBERS) in
    IfOk-weaker c.command_of.result _ Few (λ found is. subst Few (sym is) (few_edits (view c.in-Ok.value))) c.command_of.ensures

pub returns-else-is_memory-clause-command : goal.returns-else-is_memory-clause-command
returns-else-is_memory-clause-command c = sym (no_command c.args.line.now (c.in-Err.ensures.err (λ memory. true≢false (sym (c.if-is_memory.ensures.1 memory)))))
