use Rattle.std.proofs.Common.{◌≡◌, ◌++◌, drop}
use Rattle.std.specs.List.{flat_map}
use Rattle.penelope_cli.specs.Faults.{step_text}
use Rattle.penelope_cli.proofs.fault.write_steps.Given as goal

-- what is left completes the text
abbrev pub invariant-loop-number : goal.invariant-loop-number
invariant-loop-number l = l.out.items ++ flat_map step_text (drop l.number-index l.numbers) ≡ l.fn.out.items ++ flat_map step_text l.numbers
