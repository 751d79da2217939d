use Rattle.std.proofs.Common.{rules, subst}
use Rattle.reading_machine.proofs.Advances.{line_fed, silent_fed, refused_fed}
use Rattle.reading_machine.specs.Lexemes.{token_of}
use Rattle.reading_machine.specs.Values.{weighed_of}
use Rattle.reading_machine.specs.Views.{IsSeenAs}
use Rattle.reading_machine.specs.Ways.{IsWay}
use Rattle.reading_table.specs.Rows.{side_in}
use Rattle.reading_machine.proofs.machine.Machine.advance.Goals as goal

pub returns-in-Line : goal.returns-in-Line
returns-in-Line c =
    let t = token_of c.args.token.now in
    let seen = subst (IsSeenAs c.in-Some.note c.in-Some.symbol) c.in-Part.is (c.seen.ensures c.in-Some.note) in
    let way = subst (IsWay c.in-Some.note c.in-Part.rule t) c.in-Line.is (c.at.ensures c.in-Some.note c.in-Part.rule t c.in_ok-number-in-Part.ensures.found) in
    let fed = line_fed t c.in-Some.note c.in-Some.symbol c.in-Part.rule c.pop.new.self (weighed_of c.loop-note.self.values) c.in-Line.line seen way in
    let performed = c.perform.ensures t in
    search (rules, fed, performed)

pub loop-note-preserved : goal.loop-note-preserved
loop-note-preserved c =
    let t = token_of c.args.token.now in
    let seen = subst (IsSeenAs c.in-Some.note c.in-Some.symbol) c.in-Part.is (c.seen.ensures c.in-Some.note) in
    let way = subst (IsWay c.in-Some.note c.in-Part.rule t) c.in-Silent.is (c.at.ensures c.in-Some.note c.in-Part.rule t c.in_ok-number-in-Part.ensures.found) in
    let fed = silent_fed t c.in-Some.note c.in-Some.symbol c.in-Part.rule c.pop.new.self (weighed_of c.loop-note.self.values) c.in-Silent.quiet seen way in
    let acted = c.in_ok-act_all-in-Silent.ensures (side_in c.in-Some.note c.in-Part.rule) in
    search (rules, fed, acted)

pub returns-in-Refused : goal.returns-in-Refused
returns-in-Refused c =
    let t = token_of c.args.token.now in
    let seen = subst (IsSeenAs c.in-Some.note c.in-Some.symbol) c.in-Part.is (c.seen.ensures c.in-Some.note) in
    let way = subst (IsWay c.in-Some.note c.in-Part.rule t) c.in-Refused.is (c.at.ensures c.in-Some.note c.in-Part.rule t c.in_ok-number-in-Part.ensures.found) in
    let fed = refused_fed t c.in-Some.note c.in-Some.symbol c.in-Part.rule c.pop.new.self (weighed_of c.loop-note.self.values) seen way in
    search (rules, fed)
