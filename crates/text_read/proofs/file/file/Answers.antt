use Rattle.std.proofs.Common.{◌≡◌, rules, refl, sym, ◌∙◌, ap, subst, All, Some, Err}
use Rattle.lex_ada.specs.Faults.{Gives}
use Rattle.lex_ada.specs.Meanings.{LiesIn}
use Rattle.note_read.proofs.Lying.{tokens_lie}
use Rattle.note_read.specs.Counted.{kept, too_many as more, counted_of, counted_from}
use Rattle.reading_machine.specs.Bare.{nothing}
use Rattle.note_read.specs.Signs.{outcome_of}
use Rattle.reading_limits.specs.Viable.{read_within}
use Rattle.text_read.specs.Answers.{answer_at}
use Rattle.text_read.specs.Files.{file_part}
use Rattle.text_read.specs.Fragments.{signs_in}
use Rattle.text_read.proofs.Ends.{with_tokens, one_node}
use Rattle.text_read.proofs.Files.{most, counted_within, kept_answer, large_answer, gives_file_fault}
use Rattle.text_read.proofs.file.file.Goals as goal

pub returns-in_err-tokens : goal.returns-in_err-tokens
returns-in_err-tokens c = let gives = gives_file_fault c.args.bytes.now c.in_err-tokens.field-0.0 c.in_err-tokens.ensures.answer in search (rules, gives)

pub read_counted-requires : goal.read_counted-requires
read_counted-requires c =
    let own : c.as_slice-tokens.result.now ≡ c.in_ok-tokens.tokens = search rules in
    subst (All (λ t. LiesIn t c.args.bytes.now)) (sym own) (tokens_lie c.args.bytes.now c.in_ok-tokens.tokens c.in_ok-tokens.ensures.answer)

pub answer_at-requires-clause-lie : goal.answer_at-requires-clause-lie
answer_at-requires-clause-lie c =
    let own : c.as_slice-tokens.result.now ≡ c.in_ok-tokens.tokens = search rules in
    subst (All (λ t. LiesIn t c.args.bytes.now)) (sym own) (tokens_lie c.args.bytes.now c.in_ok-tokens.tokens c.in_ok-tokens.ensures.answer)

pub answer_at-requires-clause-one : goal.answer_at-requires-clause-one
answer_at-requires-clause-one c =
    let tokens = c.in_ok-tokens.tokens in
    let bytes = c.args.bytes.now in
    let own : c.as_slice-tokens.result.now ≡ tokens = search rules in
    let line = c.as_slice.ensures.value ∙ c.in_ok-line.ensures in
    let counted = counted_within bytes tokens c.as_slice-tokens.result.now c.as_slice.result.now (counted_of c.in_ok-reading.field-0) own line c.in_ok-reading.ensures in
    let reads = read_within 0 file_part (signs_in file_part bytes tokens) in
    let counts : kept (outcome_of c.in-Kept.reading) ≡ counted_from (Some most) nothing reads = ap counted_of (sym c.in-Kept.is) ∙ counted in
    (kept_answer bytes tokens reads (outcome_of c.in-Kept.reading) (one_node file_part bytes tokens reads refl c.in_ok-tokens.ensures.answer refl) (with_tokens file_part bytes tokens c.in_ok-tokens.ensures.answer) counts).0

pub returns-in-Kept : goal.returns-in-Kept
returns-in-Kept c =
    let tokens = c.in_ok-tokens.tokens in
    let bytes = c.args.bytes.now in
    let own : c.as_slice-tokens.result.now ≡ tokens = search rules in
    let line = c.as_slice.ensures.value ∙ c.in_ok-line.ensures in
    let counted = counted_within bytes tokens c.as_slice-tokens.result.now c.as_slice.result.now (counted_of c.in_ok-reading.field-0) own line c.in_ok-reading.ensures in
    let reads = read_within 0 file_part (signs_in file_part bytes tokens) in
    let counts : kept (outcome_of c.in-Kept.reading) ≡ counted_from (Some most) nothing reads = ap counted_of (sym c.in-Kept.is) ∙ counted in
    let answers = (kept_answer bytes tokens reads (outcome_of c.in-Kept.reading) (one_node file_part bytes tokens reads refl c.in_ok-tokens.ensures.answer refl) (with_tokens file_part bytes tokens c.in_ok-tokens.ensures.answer) counts).1 in
    subst (Gives c.answer_at.result) (ap (λ ts. answer_at bytes ts (outcome_of c.in-Kept.reading)) own ∙ answers) c.answer_at.ensures

pub returns : goal.returns
returns c =
    let tokens = c.in_ok-tokens.tokens in
    let bytes = c.args.bytes.now in
    let own : c.as_slice-tokens.result.now ≡ tokens = search rules in
    let line = c.as_slice.ensures.value ∙ c.in_ok-line.ensures in
    let counted = counted_within bytes tokens c.as_slice-tokens.result.now c.as_slice.result.now (counted_of c.in_ok-reading.field-0) own line c.in_ok-reading.ensures in
    let reads = read_within 0 file_part (signs_in file_part bytes tokens) in
    let counts : more c.in-TooMany.counts ≡ counted_from (Some most) nothing reads = ap counted_of (sym c.in-TooMany.is) ∙ counted in
    large_answer bytes tokens reads c.in-TooMany.counts (one_node file_part bytes tokens reads refl c.in_ok-tokens.ensures.answer refl) (with_tokens file_part bytes tokens c.in_ok-tokens.ensures.answer) counts ∙ ap Err (sym c.too_many.ensures)
