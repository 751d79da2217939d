use Rattle.std.proofs.Common.{◌≡◌, ◌≤◌, drop, map, length}
use Rattle.std.specs.Prelude.{string_bytes}
use Rattle.std.specs.List.{All}
use Rattle.penelope_cli.specs.declared.gets.TheConstants.{MOST_BYTES}
use Rattle.penelope_cli.proofs.Getting.{WentTo}
use Rattle.penelope_cli.proofs.gets.get_all.Given as goal

-- so far the run went to the plan that gets the names that are left
abbrev pub invariant-loop-name : goal.invariant-loop-name
invariant-loop-name g l =
    WentTo (map string_bytes l.names) (map string_bytes (drop l.name-index l.names)) l.sources (g.S.Shelf.state l.fn.shelf) (g.S.Shelf.state l.shelf) (g.K.Sink.state l.fn.out) (g.K.Sink.state l.out)
    × All (λ bytes. length bytes ≤ MOST_BYTES) l.sources
    × (length l.sources ≡ l.name-index)
