use Rattle.std.proofs.Common.{◌≡◌, drop}
use Rattle.term_core.specs.Validity.{sort_in}
use Rattle.linear_facts.proofs.facts.is_number_variable.Given as goal

abbrev pub invariant-loop-var : goal.invariant-loop-var
invariant-loop-var l = sort_in (drop l.var-index l.vars) l.name ≡ sort_in l.vars l.name
