use Rattle.std.proofs.Common.{subst, ℕ, List}
use Rattle.outside.specs.Plan.{Plan, Ran}
use Rattle.outside.proofs.Runs.{went_ran}
use Rattle.penelope_cli.specs.Fresh.{fresh}
use Rattle.penelope_cli.specs.Plans.{fetch_all, tell}
use Rattle.penelope_cli.specs.Words.{named}
use Rattle.penelope_cli.proofs.top.perform.Goals as goal

pub returns-in-Ok : goal.returns-in-Ok
returns-in-Ok g c =
    let more : List (List ℕ) → Plan = λ sources. tell (fresh (named c.args.command) sources) in
    subst (λ (names : List (List ℕ)). Ran (fetch_all names more) c.tell.result (g.S.Shelf.state c.args.shelf.now) (g.S.Shelf.state c.get_all.new.shelf) (g.K.Sink.state c.args.out.now) (g.K.Sink.state c.tell.new.out)) c.names.ensures
    (went_ran (c.in-Ok.ensures.gets more) (rw c.as_slice.ensures at (c.tell.ensures (g.S.Shelf.state c.get_all.new.shelf))))
