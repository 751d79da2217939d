-- What code has by reference, as the definitions say it.
use Rattle.std.specs.Prelude.{Option, Some, None}
use Rattle.ada_names.specs.declared.around.Around as code_around
use Rattle.ada_names.specs.declared.saying.Saying as code_saying
use Rattle.ada_names.specs.Collecting.{Around, Saying, silent, says}

abbrev pub around_of : code_around.Around → Around
around_of a = record { region = a.region.now; within = a.within.now; kind = a.kind; until = a.until.now; outer_region = a.outer_region.now; outer_within = a.outer_within.now }

abbrev pub saying_of : Option code_saying.Saying → Saying
saying_of None = silent
saying_of (Some s) = says s.kind s.region.now s.from.now s.within.now
