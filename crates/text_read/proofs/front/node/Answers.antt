use Rattle.std.proofs.Common.{◌≡◌, sym, ◌∙◌, ap, subst, Some}
use Rattle.lex_ada.specs.Meanings.{meanings}
use Rattle.note_read.specs.Signs.{outcome_of, read_by_table}
use Rattle.reading_limits.specs.Viable.{ReadsWithin}
use Rattle.reading_machine.specs.Values.{state_of}
use Rattle.reading_table.specs.Limits.{read}
use Rattle.reading_table.specs.Rows.{placed}
use Rattle.text_read.specs.Fragments.{whole_line}
use Rattle.text_read.proofs.OnePart.{node_read, only_one}
use Rattle.text_read.proofs.Texts.{read_as}
use Rattle.text_read.proofs.front.node.Goals as goal

pub unreachable-requires : goal.unreachable-requires
unreachable-requires c =
    let a = c.args in
    let signs = meanings a.source.now a.tokens.now in
    let reads = c.in_ok-values.ensures ∙ ap (λ line. read_by_table a.round (placed c.is_noted.result line) signs) (c.as_slice.ensures.value ∙ c.in_ok-line.ensures)
    ∙ ap (λ note. read_by_table a.round (placed note (whole_line a.part.rule)) signs) c.is_noted.ensures ∙ read_as a.round a.part signs c.requires.texts ∙ c.requires.read.reads in
    let state : read (state_of c.in-Read.values) ≡ read c.requires.read.state = ap outcome_of (sym c.in-Read.is) ∙ reads in
    let none = sym (only_one a.round a.part a.source.now a.tokens.now c.requires.texts c.requires.read (state_of c.in-Read.values) state) ∙ sym c.into_node.ensures ∙ c.in-None.is in
    absurd cc

pub returns : goal.returns
returns c =
    let a = c.args in
    let signs = meanings a.source.now a.tokens.now in
    let reads = c.in_ok-values.ensures ∙ ap (λ line. read_by_table a.round (placed c.is_noted.result line) signs) (c.as_slice.ensures.value ∙ c.in_ok-line.ensures)
    ∙ ap (λ note. read_by_table a.round (placed note (whole_line a.part.rule)) signs) c.is_noted.ensures ∙ read_as a.round a.part signs c.requires.texts ∙ c.requires.read.reads in
    let state : read (state_of c.in-Read.values) ≡ read c.requires.read.state = ap outcome_of (sym c.in-Read.is) ∙ reads in
    let both : Some (node_read a.round a.part a.source.now a.tokens.now c.requires.texts c.requires.read).node ≡ Some c.in-Some.node =
    sym (only_one a.round a.part a.source.now a.tokens.now c.requires.texts c.requires.read (state_of c.in-Read.values) state) ∙ sym c.into_node.ensures ∙ c.in-Some.is in
    let same : (node_read a.round a.part a.source.now a.tokens.now c.requires.texts c.requires.read).node ≡ c.in-Some.node = cc in
    subst (ReadsWithin a.round a.part signs) same (node_read a.round a.part a.source.now a.tokens.now c.requires.texts c.requires.read).reads
