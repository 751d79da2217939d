use Rattle.reading_machine.specs.Lexemes.{token_of}
use Rattle.reading_machine.proofs.Known.{found_known}
use Rattle.reading_machine.proofs.ways.Ways.find.Goals as goal

pub invariant_of-t-18 : goal.invariant_of-t-18
invariant_of-t-18 c = record { right = found_known c.args.note c.args.rule (token_of c.args.token.now) c.in_ok-way.way c.args.sight c.in_ok-way.ensures c.requires }
