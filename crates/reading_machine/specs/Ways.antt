-- How parts are read where tokens come, and what is known of that.
use Rattle.std.specs.Prelude.{◌≡◌, List, Bool, Option, Some, None}
use Rattle.reading_machine.specs.declared.ways.Sought.{Sought}
use Rattle.reading_machine.specs.declared.ways.Way.{Way}
use Rattle.reading_machine.specs.declared.ways.Way.TheVariants as way
use Rattle.reading_machine.specs.Sights.{sight_of}
use Rattle.reading_table.specs.declared.rule.Rule.{Rule}
use Rattle.reading_table.specs.Machine.{enter}
use Rattle.reading_table.specs.Reading.{deepest}
use Rattle.reading_table.specs.Rows.{Placed, placed, side_in, silence}
use Rattle.reading_table.specs.States.{Token}
use Rattle.reading_table.specs.Weighed.{weighed_table}

-- what a part is unfolded to, or else what is done where it is read as nothing
abbrev pub either_way : Option (List Placed) → Option (List Placed) → Option (List Placed) × Option (List Placed)
either_way (Some line) quiet = (Some line, None)
either_way None quiet = (None, quiet)

abbrev pub way_shown : Bool → Way → Option (List Placed) × Option (List Placed)
way_shown note (way.Line line) = (Some line, None)
way_shown note (way.Silent line) = (None, Some (placed note line.now))
way_shown note way.Refused = (None, None)

-- how a part is read where the token comes
unfoldable pub way_at : Bool → Rule → Token → Option (List Placed) × Option (List Placed)
way_at note r t = either_way (enter weighed_table deepest (side_in note r, r) t) (silence (side_in note r, r))

abbrev pub IsWay : Bool → Rule → Token → Way → Type 0
IsWay note r t w = way_shown (side_in note r) w ≡ way_at note r t

-- it is so for each token that looks as the one that it was found for
abbrev pub IsKnown : Option Sought → Way → Type 0
IsKnown sought w = (s : Sought) → sought ≡ Some s → (t : Token) → sight_of t ≡ s.sight → IsWay s.note s.rule t w
