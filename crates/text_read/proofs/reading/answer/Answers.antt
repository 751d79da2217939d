use Rattle.std.proofs.Common.{◌≡◌, rules, sym, ◌∙◌, ap, subst, All}
use Rattle.lex_ada.specs.Faults.{Gives}
use Rattle.lex_ada.specs.Meanings.{LiesIn, meanings}
use Rattle.note_read.proofs.Lying.{tokens_lie}
use Rattle.note_read.specs.Signs.{outcome_of}
use Rattle.reading_limits.specs.Viable.{read_within}
use Rattle.text_read.specs.Answers.{answer_at}
use Rattle.text_read.specs.Fragments.{tokens_in, signs_in}
use Rattle.text_read.proofs.Ends.{with_tokens, one_node, gives_fault}
use Rattle.text_read.proofs.Texts.{own_tokens_lie}
use Rattle.text_read.proofs.reading.answer.Goals as goal

pub tokens_in-requires : goal.tokens_in-requires
tokens_in-requires c = tokens_lie c.args.bytes.now c.in_ok-tokens.field-0 c.in_ok-tokens.ensures.answer

pub returns-in_err-tokens : goal.returns-in_err-tokens
returns-in_err-tokens c = let gives = gives_fault c.args.part c.args.bytes.now c.in_err-tokens.field-0.0 c.requires.texts c.in_err-tokens.ensures.answer in search (rules, gives)

pub read_whole-requires-clause-lie : goal.read_whole-requires-clause-lie
read_whole-requires-clause-lie c =
    let own : c.as_slice-tokens.result.now ≡ tokens_in c.args.part c.args.bytes.now c.in_ok-tokens.field-0 = search rules in
    subst (All (λ t. LiesIn t c.args.bytes.now)) (sym own) (own_tokens_lie c.args.part c.args.bytes.now c.in_ok-tokens.field-0 c.in_ok-tokens.ensures.answer)

pub answer_at-requires-clause-lie : goal.answer_at-requires-clause-lie
answer_at-requires-clause-lie c =
    let own : c.as_slice-tokens.result.now ≡ tokens_in c.args.part c.args.bytes.now c.in_ok-tokens.field-0 = search rules in
    subst (All (λ t. LiesIn t c.args.bytes.now)) (sym own) (own_tokens_lie c.args.part c.args.bytes.now c.in_ok-tokens.field-0 c.in_ok-tokens.ensures.answer)

pub answer_at-requires-clause-one : goal.answer_at-requires-clause-one
answer_at-requires-clause-one c =
    let own : c.as_slice-tokens.result.now ≡ tokens_in c.args.part c.args.bytes.now c.in_ok-tokens.field-0 = search rules in
    let ends : read_within 0 c.args.part (signs_in c.args.part c.args.bytes.now c.in_ok-tokens.field-0) ≡ outcome_of c.in_ok-reading.reading =
    ap (λ ts. read_within 0 c.args.part (meanings c.args.bytes.now ts)) (sym own) ∙ sym c.in_ok-reading.ensures in
    one_node c.args.part c.args.bytes.now c.in_ok-tokens.field-0 (outcome_of c.in_ok-reading.reading) c.requires.texts c.in_ok-tokens.ensures.answer ends

pub returns : goal.returns
returns c =
    let own : c.as_slice-tokens.result.now ≡ tokens_in c.args.part c.args.bytes.now c.in_ok-tokens.field-0 = search rules in
    let ends : outcome_of c.in_ok-reading.reading ≡ read_within 0 c.args.part (signs_in c.args.part c.args.bytes.now c.in_ok-tokens.field-0) =
    c.in_ok-reading.ensures ∙ ap (λ ts. read_within 0 c.args.part (meanings c.args.bytes.now ts)) own in
    subst (Gives c.answer_at.result) (ap (λ ts. answer_at c.args.bytes.now ts (outcome_of c.in_ok-reading.reading)) own ∙ ap (answer_at c.args.bytes.now (tokens_in c.args.part c.args.bytes.now c.in_ok-tokens.field-0)) ends
    ∙ with_tokens c.args.part c.args.bytes.now c.in_ok-tokens.field-0 c.in_ok-tokens.ensures.answer) c.answer_at.ensures
