use Rattle.std.proofs.Common.{rules, ◌≡◌, ◌-◌, ◌∙◌, sym, ap, subst, Some, None, IfOk, option_map}
use Rattle.reading_machine.proofs.Lines.{leads_behind, leads_nowhere}
use Rattle.reading_machine.proofs.Rows.{entered_some}
use Rattle.reading_machine.specs.Lexemes.{token_of}
use Rattle.reading_machine.specs.Rows.{first_lead}
use Rattle.reading_table.specs.Machine.{lead, enter}
use Rattle.reading_table.specs.Rows.{placed, side_in, silence}
use Rattle.reading_table.specs.Weighed.{weighed_table}
use Rattle.reading_machine.proofs.choosing.+leading.Goals as goal

pub enter-returns-in-Some : goal.enter-returns-in-Some
enter-returns-in-Some t c =
    let leads = lead weighed_table (enter weighed_table (c.args.depth - 1)) (token_of c.args.token.now) in
    subst (λ o. IfOk c.first_lead.result (λ led. led ≡ o))
    (ap (λ n. first_lead leads n c.in-Some.entry.now.3.now) c.side_in.ensures
    ∙ sym (entered_some c.args.depth (token_of c.args.token.now) c.args.note c.args.rule c.entry.result c.in-Some.entry c.entry.ensures c.in-Some.is c.if-depth-eq0.false))
    c.first_lead.ensures

pub lead-returns-in-None-silence : goal.lead-returns-in-None-silence
lead-returns-in-None-silence t c =
    let side = side_in c.args.note c.in-Part.rule in
    let quiet : silence (side, c.in-Part.rule) ≡ None = sym (c.silence.ensures c.args.note) ∙ ap (λ q. option_map (λ line. placed side line.now) q) c.in-None-silence.is in
    search (rules, leads_nowhere, c.seen.ensures c.args.note, quiet)

pub lead-returns-in_ok-led-in-Some-silence : goal.lead-returns-in_ok-led-in-Some-silence
lead-returns-in_ok-led-in-Some-silence t c =
    let side = side_in c.args.note c.in-Part.rule in
    let quiet : silence (side, c.in-Part.rule) ≡ Some (placed side c.in-Some-silence.quiet.now) = sym (c.silence.ensures c.args.note) ∙ ap (λ q. option_map (λ line. placed side line.now) q) c.in-Some-silence.is in
    search (rules, leads_behind, c.seen.ensures c.args.note, quiet)
