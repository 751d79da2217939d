use Rattle.std.proofs.Common.{arith}
use Rattle.penelope_cli.proofs.Documents.{as_many_read}
use Rattle.penelope_cli.proofs.fresh.fresh.Goals as goal

pub told_of-requires : goal.told_of-requires
told_of-requires c =
    let read = as_many_read c.args.sources.now c.in-Ok.doc c.in-Ok.ensures in
    omega (arith, read, c.requires.number)
