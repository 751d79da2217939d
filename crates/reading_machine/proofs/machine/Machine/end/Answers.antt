use Rattle.std.proofs.Common.{rules, subst}
use Rattle.reading_machine.proofs.Endings.{no_end, silent_end}
use Rattle.reading_machine.specs.Values.{weighed_of}
use Rattle.reading_machine.specs.Views.{IsSeenAs}
use Rattle.reading_table.specs.Rows.{side_in}
use Rattle.reading_machine.proofs.machine.Machine.end.Goals as goal

pub returns-in-None : goal.returns-in-None
returns-in-None c =
    let note = c.in-Some.field-0-0 in
    let seen = subst (IsSeenAs note c.in-Some.symbol) c.in-Part.is (c.seen.ensures note) in
    let ended = no_end note c.in-Some.symbol c.in-Part.rule c.pop.new.self (weighed_of c.loop-symbol.values) c.silence.result seen (c.silence.ensures note) c.in-None.is in
    search (rules, ended)

pub loop-symbol-preserved : goal.loop-symbol-preserved
loop-symbol-preserved c =
    let note = c.in-Some.field-0-0 in
    let seen = subst (IsSeenAs note c.in-Some.symbol) c.in-Part.is (c.seen.ensures note) in
    let ended = silent_end note c.in-Some.symbol c.in-Part.rule c.pop.new.self (weighed_of c.loop-symbol.values) c.silence.result seen (c.silence.ensures note) c.in-Some-silence.line c.in-Some-silence.is in
    let acted = c.in_ok-act_all-in-Some-silence.ensures (side_in note c.in-Part.rule) in
    search (rules, ended, acted)
