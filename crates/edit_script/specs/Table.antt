-- Which objects are commands.
use Rattle.std.specs.Prelude.{ℕ, List, [], ◌∷◌, length, Bool, false, ◌&&◌, nat_lt, nat_le, if◌then◌else◌, Option, Some, None, option_map, option_and_then}
use Rattle.std.specs.Option.{option_or, option_zip, option_eq}
use Rattle.std.specs.Cmp.Lexicographic.{pointwise}
use Rattle.std.specs.Str.{bytes_eq}
use Rattle.serde_json.specs.Data.{Data, Members, no_members, member}
use Rattle.serde_json.specs.Find.{get, as_object, as_str}
use Rattle.edit_script.specs.declared.command.Edit.{Edit}
use Rattle.edit_script.specs.declared.command.Query.{Query}
use Rattle.edit_script.specs.declared.command.Query.TheVariants as query
use Rattle.edit_script.specs.declared.command.Command.{Command}
use Rattle.edit_script.specs.declared.command.Command.TheVariants as command
use Rattle.edit_script.specs.declared.form.TheConstants.{AT, EDITS, FILE, KEY, NODE, OP, TEXT, REPLACE, INSERT, DELETE, BATCH, REPORT, STATUS, SHOW, PRINT, SAVE}
use Rattle.edit_script.specs.declared.line.TheConstants.{MOST_MEMBERS}
use Rattle.edit_script.specs.Commands.{replace, insert, delete, batch}
use Rattle.edit_script.specs.Values.{each_of, path_at, text_at, number_at, list_at}

-- the names of an object's members, in their order: `serde_json` keeps each name once, with the value that came last
abbrev pub names_of : Members → List (List ℕ)
names_of no_members = []
names_of (member name d ms) = name ∷ names_of ms

-- the members have these names, and there are no others
abbrev pub has_names : List (List ℕ) → Members → Bool
has_names names ms = pointwise bytes_eq (names_of ms) names

abbrev pub is_object_of : List (List ℕ) → Option Members → Bool
is_object_of names None = false
is_object_of names (Some ms) = has_names names ms

-- the string is this word
abbrev pub is_word : Option Data → List ℕ → Bool
is_word found word = option_eq bytes_eq (option_and_then as_str found) (Some word)

-- an object with the members of these names and no others, whose "op" is this word
unfoldable pub is_line : List ℕ → List (List ℕ) → Data → Bool
is_line op names d = is_object_of names (as_object d) && is_word (get OP.now d) op

-- what is made of the path "at" and the text "text"
abbrev pub placed : (List ℕ → List ℕ → Edit) → Data → Option Edit
placed make d = option_map (λ p. make p.0 p.1) (option_zip (path_at (AT.now) d) (text_at (TEXT.now) d))

-- an edit that isn't a batch
unfoldable pub simple_edit_of : Data → Option Edit
simple_edit_of d =
    if is_line REPLACE.now (AT.now ∷ OP.now ∷ TEXT.now ∷ []) d then placed replace d
    else (if is_line INSERT.now (AT.now ∷ OP.now ∷ TEXT.now ∷ []) d then placed insert d
    else (if is_line DELETE.now (AT.now ∷ OP.now ∷ []) d then option_map delete (path_at (AT.now) d) else None))

-- at least one, and at most so many
unfoldable pub members_of : List Data → Option (List Edit)
members_of ds = if nat_lt 0 (length ds) && nat_le (length ds) MOST_MEMBERS then each_of simple_edit_of ds else None

unfoldable pub batch_of : Data → Option Edit
batch_of d = if is_line BATCH.now (EDITS.now ∷ OP.now ∷ []) d then option_map batch (option_and_then members_of (list_at (EDITS.now) d)) else None

abbrev pub show_of : Data → Option Query
show_of d = option_map (λ p. query.Show p.0 p.1) (option_zip (text_at (KEY.now) d) (number_at (NODE.now) d))

unfoldable pub query_of : Data → Option Query
query_of d =
    if is_line REPORT.now (OP.now ∷ []) d then Some query.Report
    else (if is_line STATUS.now (OP.now ∷ []) d then Some query.Status
    else (if is_line SHOW.now (KEY.now ∷ NODE.now ∷ OP.now ∷ []) d then show_of d
    else (if is_line PRINT.now (FILE.now ∷ OP.now ∷ []) d then option_map query.Print (number_at (FILE.now) d)
    else (if is_line SAVE.now (OP.now ∷ []) d then Some query.Save else None))))

-- the command that a JSON value is
unfoldable pub command_of : Data → Option Command
command_of d = option_or (option_map command.Edit (option_or (simple_edit_of d) (batch_of d))) (option_map command.Query (query_of d))
