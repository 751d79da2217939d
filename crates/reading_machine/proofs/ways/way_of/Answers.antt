use Rattle.reading_machine.specs.Lexemes.{token_of}
use Rattle.reading_machine.proofs.Known.{line_way, silent_way, refused_way}
use Rattle.reading_machine.proofs.ways.way_of.Goals as goal

pub returns-in-Some : goal.returns-in-Some
returns-in-Some c = line_way c.args.note c.args.rule (token_of c.args.token.now) c.in_ok-line.field-0 c.in-Some.line c.in_ok-line.ensures c.in-Some.is

pub returns-in-Some-silence : goal.returns-in-Some-silence
returns-in-Some-silence c =
    silent_way c.args.note c.args.rule (token_of c.args.token.now) c.in_ok-line.field-0 c.silence.result c.in-Some-silence.quiet c.in_ok-line.ensures c.in-None.is (c.silence.ensures c.args.note) c.in-Some-silence.is

pub returns-in-None-silence : goal.returns-in-None-silence
returns-in-None-silence c =
    refused_way c.args.note c.args.rule (token_of c.args.token.now) c.in_ok-line.field-0 c.silence.result c.in_ok-line.ensures c.in-None.is (c.silence.ensures c.args.note) c.in-None-silence.is
