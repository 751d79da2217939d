use Rattle.std.proofs.Common.{sym, ◌∙◌, ap, subst, Some, false}
use Rattle.ada_tree.specs.declared.kind.Kind.TheVariants as kind
use Rattle.ada_tree.specs.declared.grammar.Choice.TheVariants.{Only}
use Rattle.ada_tree.specs.declared.grammar.Shape.TheVariants.{One}
use Rattle.ada_tree.specs.Reading.{IsReading}
use Rattle.ada_tree.specs.Canonical.{items_of}
use Rattle.ada_tree.specs.Rendering.{file_text}
use Rattle.text_laws.proofs.round_trip.Whole.{canonical_is_read}
use Rattle.lex_ada.specs.Meanings.{meanings}
use Rattle.lex_ada.proofs.lexing.Unique.{tokens_once}
use Rattle.text_laws.proofs.rendering.Law.{rendered_has_signs}
use Rattle.text_laws.proofs.apart.Law.{canonical_are_apart}
use Rattle.text_laws.proofs.laws.written_files_are_read.Goals as goal

pub returns-clause-tokens : goal.returns-clause-tokens
returns-clause-tokens c root file fits i = rendered_has_signs (items_of (One (Only kind.File)) file) (canonical_are_apart root file fits i)

pub returns-clause-read : goal.returns-clause-read
returns-clause-read c root file tokens fits i fall =
    let signs = returns-clause-tokens c root file fits i in
    let same = tokens_once (file_text (Some file)) tokens signs.tokens fall signs.fall in
    subst (λ s. IsReading false (Only kind.File) s file) (sym (ap (λ ts. meanings (file_text (Some file)) ts) same ∙ signs.mean)) (canonical_is_read root file fits i)
