use Rattle.std.proofs.Common.{List, sym, ◌∙◌, ap, subst}
use Rattle.lex_ada.specs.declared.token.Token.{Token}
use Rattle.lex_ada.specs.Faults.{fault_in}
use Rattle.lex_ada.specs.Meanings.{meanings}
use Rattle.note_read.specs.Fronts.{IsEnding}
use Rattle.reading_exact.specs.Whole.{whole_start}
use Rattle.reading_limits.specs.Viable.{ReadsWithin}
use Rattle.text_read.specs.Faults.{line_behind}
use Rattle.text_read.specs.Fronts.{IsReadOn}
use Rattle.text_read.proofs.OnePart.{end_reads, is_longest, is_refused, is_too_deep}
use Rattle.text_read.proofs.front.longest.Goals as goal

pub node-requires-clause-read : goal.node-requires-clause-read
node-requires-clause-read c =
    let a = c.args in
    let last = subst (IsEnding a.round (whole_start a.part) a.source.now a.tokens.now) c.in-At.is c.in_ok-end.ensures in
    subst (IsReadOn a.round a.part a.source.now) (sym c.split_at.ensures.front) (end_reads a.round a.part a.source.now a.tokens.now c.requires.texts c.requires.fit c.in-At.end last.end)

pub returns-in_ok-node-in-At-clause-value : goal.returns-in_ok-node-in-At-clause-value
returns-in_ok-node-in-At-clause-value c =
    let a = c.args in
    let last = subst (IsEnding a.round (whole_start a.part) a.source.now a.tokens.now) c.in-At.is c.in_ok-end.ensures in
    let node = c.in_ok-node-in-At.field-0 in
    is_longest a.round a.part a.source.now a.tokens.now c.requires.texts c.requires.fit c.in-At.end node last
    (subst (λ (ts : List Token). ReadsWithin a.round a.part (meanings a.source.now ts) node) c.split_at.ensures.front c.in_ok-node-in-At.ensures)

pub returns-in-Refused-clause-fault : goal.returns-in-Refused-clause-fault
returns-in-Refused-clause-fault c =
    let a = c.args in
    let none = subst (IsEnding a.round (whole_start a.part) a.source.now a.tokens.now) c.in-Refused.is c.in_ok-end.ensures in
    is_refused a.round a.part a.source.now a.tokens.now c.requires.texts c.requires.fit c.in-Refused.count c.fault_behind.result none.0 none.1
    (c.fault_behind.ensures ∙ ap (λ code. fault_in code (line_behind a.source.now a.tokens.now c.in-Refused.count)) c.code_behind-code.ensures)

pub returns-in-Limited-clause-fault : goal.returns-in-Limited-clause-fault
returns-in-Limited-clause-fault c =
    let a = c.args in
    let none = subst (IsEnding a.round (whole_start a.part) a.source.now a.tokens.now) c.in-Limited.is c.in_ok-end.ensures in
    is_too_deep a.round a.part a.source.now a.tokens.now c.requires.texts c.requires.fit c.in-Limited.count c.fault_behind-in-Limited.result none.0 none.1 c.fault_behind-in-Limited.ensures
