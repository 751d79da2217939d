-- The line for a file that is too long is written only where one was.
use Rattle.std.proofs.Common.{◌≡◌, ℕ, List, [], ◌∷◌, ◌++◌, Bool, true, false, refl, sym, ◌∙◌, ap, subst, arith}
use Rattle.std.specs.Prelude.{Option, Some, None, IfSome, Result, Ok, Err}
use Rattle.std.specs.List.{flat_map, All}
use Rattle.std.specs.Option.{option_map_or}
use Rattle.std.proofs.lemmas.List.Elements.{All-head, All-tail}
use Rattle.outside.specs.declared.status.Status.{Status}
use Rattle.outside.specs.declared.status.Status.TheVariants.{Done}
use Rattle.outside.specs.Meaning.{ShelfState, SinkState, Rose, written_more}
use Rattle.outside.specs.Plan.{Plan, finish, say_all, Reply, held, missing, too_long, is_too_long, too_long_line, has_reply, bytes_of, Ran}
use Rattle.outside.proofs.FirstBytes.{BeginsApart, HeadApart, begins_apart}
use Rattle.base_kit.specs.declared.fault.Fault.{Fault}
use Rattle.ada_tree.specs.declared.node.Node.{Node}
use Rattle.ada_tree.specs.Nodes.{kids_of}
use Rattle.ada_tree.specs.Rendering.{file_text}
use Rattle.file_laws.specs.Documents.{HasText, is_first_byte, begins_a_file}
use Rattle.file_laws.proofs.Beginnings.{first_byte, spelled_file_begins}
use Rattle.file_laws.proofs.Documents.{kids_made}
use Rattle.one_path.specs.declared.procedure.Procedure.{Procedure}
use Rattle.one_path.specs.Form.{form_of}
use Rattle.penelope_cli.specs.Commands.{Command, check, print, names_of}
use Rattle.penelope_cli.specs.Documents.{IsDocument, document_answer}
use Rattle.penelope_cli.specs.Fresh.{procedure_report, item_report, checked_by, texts_of, told_by, fresh}
use Rattle.penelope_cli.specs.Items.{Item, items_in, first_unfit}
use Rattle.penelope_cli.specs.Plans.{after_get, tell, plan_for}
use Rattle.penelope_cli.proofs.Documents.{is_document_answer, have_texts}
use Rattle.penelope_cli.proofs.Plans.{by_gets}

-- the first byte of that line is a t; no other line begins so
report_apart : (read : Option Procedure) (rest : List ℕ) → BeginsApart 116 (say_all rest (finish Done)) → BeginsApart 116 (say_all (option_map_or procedure_report read [] ++ rest) (finish Done))
report_apart None rest h = h
report_apart (Some unit) rest h = λ e. omega (arith, e)

reports_apart : (items : List Item) → BeginsApart 116 (say_all (flat_map item_report items) (finish Done))
reports_apart [] = tt
reports_apart (item ∷ items) = report_apart (form_of item.node) (flat_map item_report items) (reports_apart items)

items_apart : (unfit : Option Item) (items : List Item) → BeginsApart 116 (tell (checked_by unfit items))
items_apart None items = reports_apart items
items_apart (Some item) items = λ e. omega (arith, e)

-- neither does the text of a file
text_apart : (text rest : List ℕ) → begins_a_file text ≡ true → BeginsApart 116 (say_all rest (finish Done)) → BeginsApart 116 (say_all (text ++ rest) (finish Done))
text_apart [] rest first h = h
text_apart (b ∷ text) rest first h = λ e. let none : is_first_byte 116 ≡ true = subst (λ (c : ℕ). is_first_byte c ≡ true) e first in absurd cc

texts_apart : (files : List Node) → All HasText files → BeginsApart 116 (say_all (texts_of files) (finish Done))
texts_apart [] h = tt
texts_apart (file ∷ files) h =
    let own = All-head HasText file files h in
    let first : begins_a_file (file_text (Some file)) ≡ true = first_byte (file_text (Some file)) (spelled_file_begins file own.text.reads.reading.spelling) in
    text_apart (file_text (Some file)) (texts_of files) first (texts_apart files (All-tail HasText file files h))

document_apart : (sources : List (List ℕ)) (root : Node) → IsDocument sources root → BeginsApart 116 (say_all (texts_of (kids_of root)) (finish Done))
document_apart sources root is =
    subst (λ (files : List Node). BeginsApart 116 (say_all (texts_of files) (finish Done))) (sym (ap kids_of is.root_is ∙ kids_made is.files)) (texts_apart is.files (have_texts sources is.files is.are_files))

told_apart : (command : Command) (sources : List (List ℕ)) (answer : Result Node Fault) → document_answer sources ≡ answer → BeginsApart 116 (tell (told_by command answer))
told_apart (check names) sources (Ok root) e = items_apart (first_unfit (items_in 0 (kids_of root))) (items_in 0 (kids_of root))
told_apart (print names) sources (Ok root) e = document_apart sources root (((is_document_answer sources).root root).0 e)
told_apart command sources (Err fault) e = λ f. omega (arith, f)

reply_apart : (name : List ℕ) (more : List ℕ → Plan) → ((bytes : List ℕ) → BeginsApart 116 (more bytes)) → (reply : Reply) → is_too_long reply ≡ false → BeginsApart 116 (after_get name more reply)
reply_apart name more h (held bytes) e = h bytes
reply_apart name more h missing e = λ f. omega (arith, f)
reply_apart name more h too_long e = cc

plan_apart : (command : Option Command) → BeginsApart 116 (plan_for command)
plan_apart None = λ e. omega (arith, e)
plan_apart (Some command) = by_gets (BeginsApart 116) reply_apart (names_of command) (λ sources. tell (fresh command sources)) (λ sources. told_apart command sources (document_answer sources) refl)

same_rest : (a x y : List ℕ) → a ++ x ≡ a ++ y → x ≡ y
same_rest [] x y e = e
same_rest (b ∷ a) x y e = let rest : a ++ x ≡ a ++ y = cc in same_rest a x y rest

apart_from_line : (name bytes : List ℕ) → HeadApart 116 bytes → bytes ≡ too_long_line name → ⊥
apart_from_line name bytes h e = let head : HeadApart 116 (too_long_line name) = subst (HeadApart 116) e h in head refl

cause_by : (command : Option Command) (name : List ℕ) (status : Status) (s s' : ShelfState) (k k' : SinkState) (r : Ran (plan_for command) status s s' k k') (t : Bool) → has_reply is_too_long r.events ≡ t → bytes_of r.events ≡ too_long_line name → Rose s.excesses s'.excesses
cause_by command name status s s' k k' r true e line = r.happened.excesses e
cause_by command name status s s' k k' r false e line = absurd (apart_from_line name (bytes_of r.events) (begins_apart 116 r.events (plan_for command) r.left (λ h. omega (arith, h)) (plan_apart command) e r.leads) line)

written_bytes : (before bytes line : List ℕ) (old new : Option (List ℕ)) → old ≡ Some before → new ≡ written_more old bytes → new ≡ Some (before ++ line) → bytes ≡ line
written_bytes before bytes line None new e w h = cc
written_bytes before bytes line (Some old) new e w h = let same : old ≡ before = cc in let all : Some (old ++ bytes) ≡ Some (before ++ line) = sym w ∙ h in let lists : before ++ bytes ≡ before ++ line = ap (λ (x : List ℕ). x ++ bytes) (sym same) ∙ cc in same_rest before bytes line lists

too_long_told : (command : Option Command) (name : List ℕ) (status : Status) (s s' : ShelfState) (k k' : SinkState) (old : Option (List ℕ)) → k.written ≡ old → Ran (plan_for command) status s s' k k' → IfSome old (λ before. k'.written ≡ Some (before ++ too_long_line name) → Rose s.excesses s'.excesses)
too_long_told command name status s s' k k' None e r = tt
too_long_told command name status s s' k k' (Some before) e r = λ h. cause_by command name status s s' k k' r (has_reply is_too_long r.events) refl (written_bytes before (bytes_of r.events) (too_long_line name) k.written k'.written e r.happened.written h)

pub too_long_cause : (command : Option Command) (name : List ℕ) (status : Status) (s s' : ShelfState) (k k' : SinkState) → Ran (plan_for command) status s s' k k' → IfSome k.written (λ before. k'.written ≡ Some (before ++ too_long_line name) → Rose s.excesses s'.excesses)
too_long_cause command name status s s' k k' r = too_long_told command name status s s' k k' k.written refl r
