-- Theories.
use Rattle.std.specs.Prelude.{[]}
use Rattle.lsl_traits.specs.declared.theory.Theory.{Theory}

-- where there is no trait
abbrev pub no_theory : Theory
no_theory = record { operators = []; sorts = []; equations = []; op_sorts = []; types = [] }
