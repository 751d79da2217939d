use Rattle.std.proofs.Common.{◌≡◌, ◌++◌, drop}
use Rattle.penelope_cli.specs.Report.{obligation_lines}
use Rattle.std.specs.List.{flat_map}
use Rattle.penelope_cli.proofs.report.write_obligations.Given as goal

-- what is left completes the lines
abbrev pub invariant-loop-obligation : goal.invariant-loop-obligation
invariant-loop-obligation l = l.out.items ++ flat_map obligation_lines (drop l.obligation-index l.obligations) ≡ l.fn.out.items ++ flat_map obligation_lines l.obligations
