use Rattle.std.proofs.Common.{◌≡◌, drop}
use Rattle.penelope_cli.specs.Documents.{files_from}
use Rattle.penelope_cli.proofs.Documents.{behind}
use Rattle.penelope_cli.proofs.document.read_files.Given as goal

-- the files so far and those that are left are all
abbrev pub invariant-loop-number : goal.invariant-loop-number
invariant-loop-number l = behind l.files (files_from l.number (drop l.number l.sources)) ≡ files_from 0 l.sources
