use Rattle.std.proofs.Common.{◌≡◌, ◌∷◌, [], ◌++◌, sym, ◌∙◌, ap}
use Rattle.term_core.specs.declared.replacing.Entry.{Entry}
use Rattle.term_core.specs.Substitution.{put, sub_of}
use Rattle.term_core.proofs.SubLaws.{normal_more}
use Rattle.term_core.proofs.replacing.normal_of.Goals as goal

pub loop-entry-preserved : goal.loop-entry-preserved
loop-entry-preserved c =
    let made = c.in_ok-replace.ensures.made ∙ ap (λ es. put c.entry-item.result.by (sub_of es)) c.new.ensures.items in
    let member : ◌≡◌ {A = Entry} (record { name = c.in_ok-copy.field-0; by = c.in_ok-replace.field-0 }) (record { name = c.entry-item.result.name; by = put c.entry-item.result.by (sub_of []) }) =
    (λ i. record { name = c.in_ok-copy.ensures i; by = made i }) in
    c.in_ok-push.ensures.items ∙ ((λ i. c.loop-entry.invariant i ++ member i ∷ [])
    ∙ sym (normal_more c.args.entries.now c.loop-entry.entry-index c.entry-item.result c.loop-entry-test.true c.entry-item.is))
