use Rattle.std.proofs.Common.{◌++◌, sym, ap, ◌∙◌, option_map}
use Rattle.std.proofs.lemmas.List.{append-nil}
use Rattle.edit_script.proofs.Lines.{blank_is_not_bad, blank_says_nothing, command_is_not_bad, command_is_said, bad_is_found}
use Rattle.edit_script.proofs.script.read_line.Goals as goal

pub returns-then-is_blank-clause-ok : goal.returns-then-is_blank-clause-ok
returns-then-is_blank-clause-ok c = blank_is_not_bad c.args.number c.args.line.now (sym c.if-is_blank.ensures)

pub returns-then-is_blank-clause-lines : goal.returns-then-is_blank-clause-lines
returns-then-is_blank-clause-lines c =
    sym (ap (λ more. c.args.lines.now.items ++ more) (blank_says_nothing c.args.number c.args.line.now (sym c.if-is_blank.ensures)) ∙ append-nil c.args.lines.now.items)

pub returns-in_ok-push-in-Some-clause-ok : goal.returns-in_ok-push-in-Some-clause-ok
returns-in_ok-push-in-Some-clause-ok c =
    command_is_not_bad c.args.number c.args.line.now c.in-Some.command (sym c.if-is_blank.ensures) (sym c.in_ok-command.ensures.command ∙ c.in-Some.is)

pub returns-in_ok-push-in-Some-clause-lines : goal.returns-in_ok-push-in-Some-clause-lines
returns-in_ok-push-in-Some-clause-lines c =
    c.in_ok-push-in-Some.ensures.items
    ∙ ap (λ more. c.args.lines.now.items ++ more) (sym (command_is_said c.args.number c.args.line.now c.in-Some.command (sym c.if-is_blank.ensures) (sym c.in_ok-command.ensures.command ∙ c.in-Some.is)))

pub returns-in-None-clause-err : goal.returns-in-None-clause-err
returns-in-None-clause-err c =
    ap (option_map (λ line. line.0)) (bad_is_found c.args.number c.args.line.now (sym c.if-is_blank.ensures) (sym c.in_ok-command.ensures.command ∙ c.in-None.is))
