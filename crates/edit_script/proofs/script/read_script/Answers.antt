use Rattle.std.proofs.Common.{◌≤◌, ◌<◌, Ok, Err, sym, ap, ◌∙◌, arith}
use Rattle.edit_script.specs.declared.script.ScriptError.TheVariants.{TooMany}
use Rattle.edit_script.specs.declared.script.TheConstants.{MOST_EDITS}
use Rattle.edit_script.specs.Commands.{edits_of}
use Rattle.edit_script.specs.Scripts.{too_many, script_of}
use Rattle.edit_script.proofs.Answering.{gets, stopped, answer_for, all_good, few_enough, beyond}
use Rattle.edit_script.proofs.script.read_script.Goals as goal

pub returns-in_err-lines-clause-answer : goal.returns-in_err-lines-clause-answer
returns-in_err-lines-clause-answer c =
    answer_for c.from_residual.result c.in_err-lines.field-0.0 (script_of c.args.bytes.now) c.from_residual.ensures.1 (stopped c.args.bytes.now c.in_err-lines.field-0.0 c.in_err-lines.ensures.err)

pub returns-in_err-lines-clause-only : goal.returns-in_err-lines-clause-only
returns-in_err-lines-clause-only c =
    gets c.from_residual.result (script_of c.args.bytes.now)
    (answer_for c.from_residual.result c.in_err-lines.field-0.0 (script_of c.args.bytes.now) c.from_residual.ensures.1 (stopped c.args.bytes.now c.in_err-lines.field-0.0 c.in_err-lines.ensures.err))

pub returns-then-edits-gt-MOST_EDITS-clause-answer : goal.returns-then-edits-gt-MOST_EDITS-clause-answer
returns-then-edits-gt-MOST_EDITS-clause-answer c =
    let count = c.edits_of-edits.ensures ∙ ap edits_of c.as_slice.ensures.value in
    let many : MOST_EDITS < edits_of c.in_ok-lines.lines.items = omega (arith, count, c.if-edits-gt-MOST_EDITS.true) in
    all_good c.args.bytes.now c.in_ok-lines.lines.items c.in_ok-lines.ensures.ok c.in_ok-lines.ensures.lines ∙ beyond c.in_ok-lines.lines.items many ∙ ap too_many (sym count)

pub returns-then-edits-gt-MOST_EDITS-clause-only : goal.returns-then-edits-gt-MOST_EDITS-clause-only
returns-then-edits-gt-MOST_EDITS-clause-only c = gets (Err (TooMany c.edits_of-edits.result)) (script_of c.args.bytes.now) (returns-then-edits-gt-MOST_EDITS-clause-answer c)

pub returns-clause-answer : goal.returns-clause-answer
returns-clause-answer c =
    let count = c.edits_of-edits.ensures ∙ ap edits_of c.as_slice.ensures.value in
    let few : edits_of c.in_ok-lines.lines.items ≤ MOST_EDITS = omega (arith, count, c.if-edits-gt-MOST_EDITS.false) in
    all_good c.args.bytes.now c.in_ok-lines.lines.items c.in_ok-lines.ensures.ok c.in_ok-lines.ensures.lines ∙ few_enough c.in_ok-lines.lines.items few

pub returns-clause-only : goal.returns-clause-only
returns-clause-only c = gets (Ok c.in_ok-lines.lines) (script_of c.args.bytes.now) (returns-clause-answer c)
