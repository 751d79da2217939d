use Rattle.std.proofs.Common.{ap, ◌∙◌, ◌++◌, ◌∷◌, []}
use Rattle.term_core.specs.declared.replacing.Entry.{Entry}
use Rattle.term_core.proofs.SubLaws.{renamed_is}
use Rattle.term_core.proofs.replacing.add_rename.Goals as goal

pub returns : goal.returns
returns c = c.in_ok-push.ensures.items ∙ ap (λ (e : Entry). c.args.entries.now.items ++ e ∷ []) (renamed_is _ _ _ _ c.in_ok-copy.ensures c.in_ok-copy-2.ensures)
