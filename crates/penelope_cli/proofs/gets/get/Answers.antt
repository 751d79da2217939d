use Rattle.std.proofs.Common.{refl, ap, inr, Err}
use Rattle.outside.specs.Plan.{fetch}
use Rattle.outside.proofs.Runs.{went_held, ran_missing, ran_too_long, ran_get_failed, ran_starved}
use Rattle.penelope_cli.specs.declared.gets.TheConstants.{MOST_BYTES}
use Rattle.penelope_cli.specs.Plans.{after_get}
use Rattle.penelope_cli.proofs.gets.get.Goals as goal

pub returns-in-Ok-clause-gets : goal.returns-in-Ok-clause-gets
returns-in-Ok-clause-gets g c =
    let e = c.in-Ok.ensures in
    rw c.from.ensures (λ more. went_held c.args.name.now MOST_BYTES (after_get c.args.name.now more) c.in-Ok.bytes.items (g.S.Shelf.state c.args.shelf.now) (g.S.Shelf.state c.get.new.self) (g.K.Sink.state c.args.out.now) e.called e.counts e.kept e.within e.found)

pub returns-in-Err-Absent-clause-gets : goal.returns-in-Err-Absent-clause-gets
returns-in-Err-Absent-clause-gets g c =
    let e = c.in-Err-Absent.ensures in
    let is = ap Err c.in-Err-Absent.field-0-is in
    λ more. ran_missing c.args.name.now MOST_BYTES (after_get c.args.name.now more) c.end_with_line.result (g.S.Shelf.state c.args.shelf.now) (g.S.Shelf.state c.get.new.self) (g.K.Sink.state c.args.out.now) (g.K.Sink.state c.end_with_line.new.out) e.called e.counts e.kept (e.absent is) (e.not_held is) (c.end_with_line.ensures (g.S.Shelf.state c.get.new.self))

pub returns-in-Err-TooLong-clause-gets : goal.returns-in-Err-TooLong-clause-gets
returns-in-Err-TooLong-clause-gets g c =
    let e = c.in-Err-TooLong.ensures in
    let is = ap Err c.in-Err-TooLong.field-0-is in
    λ more. ran_too_long c.args.name.now MOST_BYTES (after_get c.args.name.now more) c.end_with_line-in-Err-TooLong.result (g.S.Shelf.state c.args.shelf.now) (g.S.Shelf.state c.get.new.self) (g.K.Sink.state c.args.out.now) (g.K.Sink.state c.end_with_line-in-Err-TooLong.new.out) e.called e.counts e.kept (e.too_long is) (e.longer is) (c.end_with_line-in-Err-TooLong.ensures (g.S.Shelf.state c.get.new.self))

pub returns-in-Err-Failed-clause-gets : goal.returns-in-Err-Failed-clause-gets
returns-in-Err-Failed-clause-gets g c =
    let e = c.in-Err-Failed.ensures in
    let is = ap Err c.in-Err-Failed.field-0-is in
    λ more. ran_get_failed c.args.name.now MOST_BYTES (after_get c.args.name.now more) c.end_with_line-in-Err-Failed.result (g.S.Shelf.state c.args.shelf.now) (g.S.Shelf.state c.get.new.self) (g.K.Sink.state c.args.out.now) (g.K.Sink.state c.end_with_line-in-Err-Failed.new.out) e.called e.counts e.kept (e.failed is) (c.end_with_line-in-Err-Failed.ensures (g.S.Shelf.state c.get.new.self))

pub returns-in-Err-Memory-clause-gets : goal.returns-in-Err-Memory-clause-gets
returns-in-Err-Memory-clause-gets g c =
    let e = c.in-Err-Memory.ensures in
    λ more. ran_starved (fetch c.args.name.now MOST_BYTES (after_get c.args.name.now more)) 1 (g.S.Shelf.state c.args.shelf.now) (g.S.Shelf.state c.get.new.self) (g.K.Sink.state c.args.out.now) (inr (refl, tt)) e.called e.counts e.kept
