use Rattle.std.proofs.Common.{rules, ◌≡◌, Some, true}
use Rattle.std.specs.Prelude.{slice_get, filter}
use Rattle.lex_ada.specs.declared.token.Token.{Token}
use Rattle.lex_ada.specs.Cutting.{note_of}
use Rattle.lex_ada.specs.Meanings.{LiesIn}
use Rattle.text_read.proofs.Lines.{kept_at}
use Rattle.text_read.proofs.fault.code_behind.Goals as goal

pub is_unsupported-requires : goal.is_unsupported-requires
is_unsupported-requires c =
    let found : slice_get (filter (λ (t : Token). note_of true t.kind) c.args.tokens.now) c.args.count ≡ Some c.in-Some.token.now = search rules in
    kept_at (λ t. LiesIn t c.args.source.now) (λ (t : Token). note_of true t.kind) c.args.tokens.now c.args.count c.in-Some.token.now c.requires found
