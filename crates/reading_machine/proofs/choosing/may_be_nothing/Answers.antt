use Rattle.std.proofs.Common.{rules, ◌≡◌, ◌∙◌, ap, subst, ◌&&◌}
use Rattle.std.specs.Prelude.{is_some}
use Rattle.reading_machine.proofs.Endings.{no_token_ends, quiet_ends, part_ends}
use Rattle.reading_machine.specs.Machines.{may_end}
use Rattle.reading_machine.specs.Views.{IsSeenAs}
use Rattle.reading_machine.proofs.choosing.may_be_nothing.Goals as goal

pub returns-in-Token : goal.returns-in-Token
returns-in-Token c note ss =
    let seen = subst (IsSeenAs note c.args.symbol) c.in-Token.is (c.seen.ensures note) in
    no_token_ends note c.args.symbol ss seen.0

pub returns-in-Quiet : goal.returns-in-Quiet
returns-in-Quiet c note ss =
    let seen = subst (IsSeenAs note c.args.symbol) c.in-Quiet.is (c.seen.ensures note) in
    quiet_ends note c.args.symbol ss seen

pub returns-in-Part : goal.returns-in-Part
returns-in-Part c note ss =
    let seen = subst (IsSeenAs note c.args.symbol) c.in-Part.is (c.seen.ensures note) in
    let told : is_some c.silence.result ≡ c.is_some.result = search rules in
    part_ends note c.args.symbol c.in-Part.rule ss c.silence.result seen (c.silence.ensures note) ∙ ap (λ b. b && may_end ss) told
