use Rattle.std.proofs.Common.{◌≡◌, bytes_eq, drop, map}
use Rattle.std.specs.Char.{to_ascii_lowercase}
use Rattle.ada_tree.specs.Tables.{first_value}
use Rattle.text_read.proofs.fragment.word_in.Given as goal

-- the word is among the rows that are left
abbrev pub invariant-loop-word : goal.invariant-loop-word
invariant-loop-word l = first_value (λ row. row.0) (λ row. bytes_eq row.1.now (map to_ascii_lowercase l.bytes)) (drop l.word-index l.rows) ≡ first_value (λ row. row.0) (λ row. bytes_eq row.1.now (map to_ascii_lowercase l.bytes)) l.rows
