-- Where writing stands in a line.
use Rattle.std.specs.Prelude.{None, false, true}
use Rattle.ada_tree.specs.Rendering.{Pen}

-- in a line, after a blank or an indentation
abbrev pub inside : Pen
inside = record { depth = 0; outer = None; is_fresh = false; is_tight = true }
