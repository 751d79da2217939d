use Rattle.std.proofs.Common.{◌<◌, length, sym, ◌∙◌, arith}
use Rattle.std.proofs.lemmas.Bool.{eqb-true, eqb-false}
use Rattle.edit_script.proofs.Answering.{is_err_for}
use Rattle.edit_script.proofs.Lines.{goes_on, stops, read_whole}
use Rattle.edit_script.proofs.script.read_lines.Goals as goal

pub loop-unread-preserved : goal.loop-unread-preserved
loop-unread-preserved c =
    let some : 0 < length c.loop-unread.unread.now = omega (arith, eqb-false _ _ (sym c.is_empty.ensures ∙ c.loop-unread-test.true)) in
    goes_on c.args.bytes.now c.loop-unread.unread.now c.cut_line.result.0.now c.cut_line.result.1.now c.loop-unread.number c.loop-unread.lines.items c.read_line.new.lines.items some
    c.loop-unread.invariant c.cut_line.ensures.line c.cut_line.ensures.after c.in_ok-read_line.ensures.ok c.in_ok-read_line.ensures.lines c.in_ok-read_line.ensures.few

pub returns-in_err-read_line-clause-err : goal.returns-in_err-read_line-clause-err
returns-in_err-read_line-clause-err c =
    is_err_for c.from_residual.result _ _ c.from_residual.ensures.1
    (stops c.args.bytes.now c.loop-unread.unread.now c.cut_line.result.0.now c.loop-unread.number c.loop-unread.lines.items c.in_err-read_line.field-0.0 c.loop-unread.invariant c.cut_line.ensures.line c.in_err-read_line.ensures.err)

pub returns-clause-ok : goal.returns-clause-ok
returns-clause-ok c = (read_whole c.args.bytes.now c.loop-unread.unread.now c.loop-unread.number c.loop-unread.lines.items c.loop-unread.invariant (eqb-true _ _ (sym c.is_empty.ensures ∙ c.loop-unread-test.false))).0

pub returns-clause-lines : goal.returns-clause-lines
returns-clause-lines c = (read_whole c.args.bytes.now c.loop-unread.unread.now c.loop-unread.number c.loop-unread.lines.items c.loop-unread.invariant (eqb-true _ _ (sym c.is_empty.ensures ∙ c.loop-unread-test.false))).1
