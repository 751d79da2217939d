-- What the program is to do for its words.
use Rattle.std.specs.Prelude.{ℕ, List, [], ◌∷◌, ◌++◌, Option, Some, None, codes}
use Rattle.outside.specs.declared.status.Status.TheVariants.{Done, Usage, SourceFault, ShelfFailed}
use Rattle.outside.specs.Plan.{Plan, finish, fetch, say_all, absent_line, too_long_line, Reply, held, missing, too_long}
use Rattle.penelope_cli.specs.declared.gets.TheConstants.{MOST_BYTES}
use Rattle.penelope_cli.specs.declared.fresh.Outcome.{Outcome}
use Rattle.penelope_cli.specs.declared.fresh.Outcome.TheVariants.{Text, Faulty}
use Rattle.penelope_cli.specs.Commands.{Command, command_of, names_of}
use Rattle.penelope_cli.specs.Fresh.{fresh}
use Rattle.penelope_cli.specs.Report.{line_end}

abbrev pub usage_line : List ℕ
usage_line = codes "usage: penelope check FILES | print FILES | edit FILES --script FILE | grow N" ++ line_end

-- goes on with the bytes that were got, or ends with a line
abbrev pub after_get : List ℕ → (List ℕ → Plan) → Reply → Plan
after_get name more (held bytes) = more bytes
after_get name more missing = say_all (absent_line name) (finish ShelfFailed)
after_get name more too_long = say_all (too_long_line name) (finish SourceFault)

abbrev pub fetch_source : List ℕ → (List ℕ → Plan) → Plan
fetch_source name more = fetch name MOST_BYTES (after_get name more)

-- gets the sources of these names in order, and goes on with their bytes
abbrev pub fetch_all : List (List ℕ) → (List (List ℕ) → Plan) → Plan
fetch_all [] more = more []
fetch_all (name ∷ names) more = fetch_source name (λ bytes. fetch_all names (λ sources. more (bytes ∷ sources)))

abbrev pub tell : Outcome → Plan
tell (Text text) = say_all text (finish Done)
tell (Faulty line) = say_all line (finish SourceFault)

-- all sources are got before any is read
abbrev pub plan_of_command : Command → Plan
plan_of_command command = fetch_all (names_of command) (λ sources. tell (fresh command sources))

abbrev pub plan_for : Option Command → Plan
plan_for None = say_all usage_line (finish Usage)
plan_for (Some command) = plan_of_command command

-- the whole run
abbrev pub plan_of : List (List ℕ) → Plan
plan_of words = plan_for (command_of words)
