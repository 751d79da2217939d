-- Worked scripts, computed by the definitions.
use Rattle.std.proofs.Common.{◌≡◌, [], ◌∷◌, true, Some, map, codes, is_none, refl}
use Rattle.std.specs.List.{list_all}
use Rattle.std.specs.Str.{chars, is_utf8}
use Rattle.serde_json.proofs.OnLiterals.{serde_json_on_literals}
use Rattle.edit_script.specs.declared.command.Query.{Query}
use Rattle.edit_script.specs.declared.command.Query.TheVariants as query
use Rattle.edit_script.specs.declared.command.Command.TheVariants as command
use Rattle.edit_script.specs.Commands.{replace, insert, delete, batch}
use Rattle.edit_script.specs.Table.{is_line, simple_edit_of, members_of, batch_of, query_of, command_of}
use Rattle.edit_script.specs.Values.{steps_of}
use Rattle.edit_script.specs.Scripts.{numbered_from, command_in, script_of, commands, bad_line}

-- each line is this command
edits : map command_in (
    codes "{\"op\":\"replace\",\"at\":[0,12],\"text\":\"X\"}"
    ∷ codes "{\"text\":\"\",\"at\":[],\"op\":\"insert\"}"
    ∷ codes "{\"at\":[4294967295],\"op\":\"delete\",\"at\":[7]}"
    ∷ codes "{\"edits\":[{\"op\":\"delete\",\"at\":[1]},{\"at\":[],\"op\":\"delete\"}],\"op\":\"batch\"}\r" ∷ [])
    ≡ Some (command.Edit (replace (0 ∷ 12 ∷ []) (codes "X")))
    ∷ Some (command.Edit (insert [] []))
    ∷ Some (command.Edit (delete (7 ∷ [])))
    ∷ Some (command.Edit (batch (delete (1 ∷ []) ∷ delete [] ∷ []))) ∷ []
unfolding serde_json_on_literals chars is_utf8 steps_of is_line simple_edit_of members_of batch_of query_of command_of command_in
edits = refl

queries : map command_in (
    codes "{\"op\":\"report\"}" ∷ codes " { \"op\" : \"status\" } "
    ∷ codes "{\"node\":0,\"op\":\"show\",\"key\":\"P\"}" ∷ codes "{\"op\":\"print\",\"file\":4294967295}" ∷ codes "{\"op\":1,\"op\":\"save\"}" ∷ [])
    ≡ map (λ (q : Query). Some (command.Query q)) (query.Report ∷ query.Status ∷ query.Show (codes "P") 0 ∷ query.Print 4294967295 ∷ query.Save ∷ [])
unfolding serde_json_on_literals chars is_utf8 steps_of is_line simple_edit_of members_of batch_of query_of command_of command_in
queries = refl

-- none of these lines is a command
refused : list_all (λ text. is_none (command_in text)) (
    codes "{\"op\":\"print\",\"file\":1.0}" ∷ codes "{\"op\":\"print\",\"file\":1e0}" ∷ codes "{\"op\":\"print\",\"file\":-0}" ∷ codes "{\"op\":\"print\",\"file\":-1}"
    ∷ codes "{\"op\":\"print\",\"file\":01}" ∷ codes "{\"op\":\"print\",\"file\":+1}" ∷ codes "{\"op\":\"print\",\"file\":4294967296}" ∷ codes "{\"op\":\"print\",\"file\":\"1\"}"
    ∷ codes "{\"op\":\"save\",\"all\":true}" ∷ codes "{\"op\":\"delete\"}" ∷ codes "{\"op\":\"Save\"}" ∷ codes "{\"op\":\"sa" ∷ codes "[]" ∷ codes "{\"op\":\"save\"}{\"op\":\"save\"}"
    ∷ codes "{\"op\":\"batch\",\"edits\":[]}" ∷ codes "{\"op\":\"batch\",\"edits\":[{\"op\":\"batch\",\"edits\":[{\"op\":\"delete\",\"at\":[]}]}]}" ∷ codes "{\"op\":\"batch\",\"edits\":[{\"op\":\"save\"}]}" ∷ [])
    ≡ true
unfolding serde_json_on_literals chars is_utf8 steps_of is_line simple_edit_of members_of batch_of query_of command_of command_in
refused = refl

-- blank lines are counted, the last line may end with the script, and the first bad line counts
numbered : script_of (codes "\n{\"op\":\"save\"}\r\n \t\r\n{\"op\":\"report\"}") ≡ commands (record { number = 2; command = command.Query query.Save } ∷ record { number = 4; command = command.Query query.Report } ∷ [])
unfolding serde_json_on_literals chars is_utf8 steps_of is_line simple_edit_of members_of batch_of query_of command_of command_in numbered_from script_of
numbered = refl

first_bad : script_of (codes "{\"op\":\"save\"}\n\n{}\n{\"op\":\"sa") ≡ bad_line 3
unfolding serde_json_on_literals chars is_utf8 steps_of is_line simple_edit_of members_of batch_of query_of command_of command_in numbered_from script_of
first_bad = refl
