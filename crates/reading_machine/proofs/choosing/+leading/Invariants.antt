use Rattle.std.proofs.Common.{◌≡◌, ◌*◌, ◌+◌, drop, length}
use Rattle.reading_machine.proofs.choosing.+leading.Given as goal
use Rattle.reading_machine.specs.Lexemes.{token_of}
use Rattle.reading_machine.specs.Rows.{first_lead}
use Rattle.reading_table.specs.Machine.{lead, enter}
use Rattle.reading_table.specs.Weighed.{weighed_table}

abbrev pub decreases-lead : goal.decreases-lead
decreases-lead l = l.depth * 36893488147419103232 + length l.line.now + 2

abbrev pub decreases-first_lead : goal.decreases-first_lead
decreases-first_lead l = l.depth * 36893488147419103232 + 36893488147419103231

abbrev pub decreases-enter : goal.decreases-enter
decreases-enter l = l.depth * 36893488147419103232

-- the first row that leads somewhere is among those that are left
abbrev pub invariant-first_lead-loop-side : goal.invariant-first_lead-loop-side
invariant-first_lead-loop-side l =
    first_lead (lead weighed_table (enter weighed_table l.depth) (token_of l.token)) l.note (drop l.side-index l.rows)
    ≡ first_lead (lead weighed_table (enter weighed_table l.depth) (token_of l.token)) l.note l.rows
