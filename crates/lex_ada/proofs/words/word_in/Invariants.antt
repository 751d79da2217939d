use Rattle.std.proofs.Common.{◌≡◌, drop, map}
use Rattle.std.specs.Prelude.{bytes_eq}
use Rattle.std.specs.Char.{to_ascii_lowercase}
use Rattle.ada_tree.specs.Tables.{first_value}
use Rattle.lex_ada.proofs.words.word_in.Given as goal

abbrev pub invariant-loop-word : goal.invariant-loop-word
invariant-loop-word l = first_value (λ row. row.0) (λ row. bytes_eq row.1.now (map to_ascii_lowercase l.bytes)) (drop l.word-index l.rows)
    ≡ first_value (λ row. row.0) (λ row. bytes_eq row.1.now (map to_ascii_lowercase l.bytes)) l.rows
