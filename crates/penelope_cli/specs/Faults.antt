-- The line of a fault.
use Rattle.std.specs.Prelude.{ℕ, suc, List, [], ◌∷◌, ◌++◌, Bool, true, false, ◌==◌, if◌then◌else◌, codes}
use Rattle.std.specs.List.{flat_map}
use Rattle.std.specs.Fmt.{decimal}
use Rattle.base_kit.specs.declared.fault.Code.{Code}
use Rattle.base_kit.specs.declared.fault.Code.TheVariants.{F24, F25, F26, F27, F29}
use Rattle.base_kit.specs.declared.fault.Fault.{Fault}
use Rattle.base_kit.specs.declared.fault.Place.{Place}
use Rattle.base_kit.specs.declared.fault.Place.TheVariants.{Line, At}
use Rattle.base_kit.specs.Codes.{text_of}
use Rattle.penelope_cli.specs.Report.{line_end}

abbrev pub step_text : ℕ → List ℕ
step_text number = codes "." ++ decimal number

-- the numbers of a path, joined by dots; the empty path is a dash
abbrev pub path_text : List ℕ → List ℕ
path_text [] = codes "-"
path_text (number ∷ numbers) = decimal number ++ flat_map step_text numbers

abbrev pub place_text : Place → List ℕ
place_text (Line file line) = codes "file " ++ decimal file ++ codes " line " ++ decimal line
place_text (At path) = codes "at " ++ path_text path

-- the faults that say how many or how much there is
abbrev pub is_counted : Code → Bool
is_counted F24 = true
is_counted F25 = true
is_counted F26 = true
is_counted F27 = true
is_counted F29 = true
is_counted _ = false

abbrev pub count_text : Fault → List ℕ
count_text fault = if is_counted fault.code then codes " count " ++ decimal fault.count else []

abbrev pub fault_line : Fault → List ℕ
fault_line fault = codes "fault " ++ text_of fault.code ++ codes " " ++ place_text fault.place ++ count_text fault ++ line_end

-- A place in the text or the tree of the file of this number, from 0, as a place among all files: their lines count files from 1, and a path from the file's own node has the file's number before it.
abbrev pub place_in : ℕ → Place → Place
place_in number (Line file line) = Line (if file == 0 then suc number else file) line
place_in number (At path) = At (number ∷ path)

-- a fault of the file of this number, as one among all files
abbrev pub in_file : ℕ → Fault → Fault
in_file number fault = record fault { place = place_in number fault.place }
