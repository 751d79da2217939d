use Rattle.std.proofs.Common.{◌≡◌, ◌∙◌, drop, List, sym, ap, subst, All, false}
use Rattle.std.specs.Prelude.{IfOk, IfErr}
use Rattle.std.proofs.lemmas.List.Elements.{All-drop}
use Rattle.lex_ada.specs.declared.token.Token.{Token}
use Rattle.lex_ada.specs.Meanings.{LiesIn, meanings}
use Rattle.reading_exact.specs.Whole.{GrammarReads, whole_start}
use Rattle.reading_limits.specs.Viable.{ReadsWithin}
use Rattle.reading_machine.specs.Machines.{may_end}
use Rattle.text_read.specs.declared.parts.TheConstants.{NOTES}
use Rattle.text_read.specs.Faults.{OnFault}
use Rattle.text_read.specs.FirstWords.{first_word}
use Rattle.text_read.specs.Fronts.{IsLongest, IsFaultOfFronts}
use Rattle.text_read.specs.Told.{note_told}
use Rattle.text_read.proofs.OneOf.{all_answer}
use Rattle.text_read.proofs.Sources.{they_lie, rest_fits}
use Rattle.text_read.proofs.Told.{notes_tell}
use Rattle.text_read.proofs.front.read_note.Goals as goal

pub first_word-requires : goal.first_word-requires
first_word-requires c =
    subst (All (λ t. LiesIn t c.args.source.now)) (sym c.split_at.ensures.back)
    (All-drop (λ t. LiesIn t c.args.source.now) c.args.from c.args.tokens.now (they_lie c.args.source.now c.args.tokens.now c.requires.of_source))

pub read_part-requires-clause-some : goal.read_part-requires-clause-some
read_part-requires-clause-some c =
    subst (λ part. may_end (whole_start part) ≡ false) (sym c.note_told-part.ensures) (notes_tell.some (note_told c.first_word.result) (notes_tell.among c.first_word.result))

pub returns : goal.returns
returns c =
    let a = c.args in
    let rest = drop a.from a.tokens.now in
    let part : c.note_told-part.result ≡ note_told (first_word (meanings a.source.now rest)) =
    c.note_told-part.ensures ∙ ap note_told (c.first_word.ensures ∙ ap (λ (ts : List Token). first_word (meanings a.source.now ts)) c.split_at.ensures.back) in
    all_answer NOTES note_told notes_tell a.depth a.source.now a.tokens.now a.from (rest_fits a.source.now a.tokens.now a.from c.requires.of_source) c.read_part.result
    (subst (λ part. IfOk c.read_part.result (IsLongest (ReadsWithin a.depth part) a.source.now a.tokens.now a.from)) part c.read_part.ensures.value)
    (subst (λ part. IfErr c.read_part.result (OnFault (IsFaultOfFronts (GrammarReads part) (ReadsWithin a.depth part) a.source.now rest))) part c.read_part.ensures.fault)
