use Rattle.std.proofs.Common.{◌≤◌, ◌+◌, All, length}
use Rattle.lex_ada.specs.Meanings.{LiesIn}
use Rattle.reading_machine.specs.Machines.{progress_of}
use Rattle.reading_table.specs.Rows.{placed}
use Rattle.note_read.proofs.Fronts.{Stands}
use Rattle.note_read.proofs.front.last_end.Given as goal

-- what is known where these tokens are left
abbrev pub invariant-loop-token : goal.invariant-loop-token
invariant-loop-token l = record {
  stands : Stands l.round (placed l.note l.line) l.source l.tokens (progress_of l.machine) l.found l.count l.number l.rest;
  lie : All (λ token. LiesIn token l.source) l.rest;
  counted : l.count ≤ l.number;
  numbered : l.number + length l.rest ≤ length l.tokens;
}

abbrev pub decreases-loop-token : goal.decreases-loop-token
decreases-loop-token l = length l.rest
