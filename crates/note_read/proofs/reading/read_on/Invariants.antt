use Rattle.std.proofs.Common.{◌≡◌, ◌+◌, ◌≤◌, All, length}
use Rattle.lex_ada.specs.Meanings.{LiesIn, meanings}
use Rattle.note_read.proofs.Thin.{ends}
use Rattle.note_read.proofs.reading.read_on.Given as goal
use Rattle.note_read.specs.Counted.{counted_from}
use Rattle.reading_machine.specs.Bare.{nothing}
use Rattle.reading_machine.specs.Machines.{progress_of}
use Rattle.note_read.specs.Signs.{read_signs}

-- what all tokens are read as is what those that are left are read as, behind those before them, with what was lost
abbrev pub invariant-loop-token : goal.invariant-loop-token
invariant-loop-token l = record {
  read : counted_from l.most nothing (read_signs l.round (progress_of l.fn.machine) (meanings l.source l.tokens)) ≡ ends l.most l.lost l.count l.round (progress_of l.machine) (meanings l.source l.rest);
  lie : All (λ token. LiesIn token l.source) l.rest;
  counted : l.count + length l.rest ≤ length l.tokens;
}

abbrev pub decreases-loop-token : goal.decreases-loop-token
decreases-loop-token l = length l.rest
