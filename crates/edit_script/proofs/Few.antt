-- A command makes at most as many edits as a batch may have members.
use Rattle.std.proofs.Common.{◌≡◌, ℕ, suc, ap, ◌≤◌, List, [], ◌∷◌, length, Bool, true, false, ◌&&◌, cond, Option, Some, None, IfSome, option_map, option_and_then, nat_lt, nat_le, refl, sym, subst, arith}
use Rattle.std.proofs.lemmas.Bool.{and_parts, leb-true}
use Rattle.std.specs.Option.{option_or, option_zip}
use Rattle.serde_json.specs.Data.{Data}
use Rattle.edit_script.specs.declared.command.Edit.{Edit, out-Edit, out-roll-Edit, Edit-F}
use Rattle.edit_script.specs.declared.command.Command.TheVariants as command
use Rattle.edit_script.specs.declared.command.Query.{Query}
use Rattle.edit_script.specs.declared.form.TheConstants.{AT, EDITS, OP, TEXT, REPLACE, INSERT, DELETE, BATCH}
use Rattle.edit_script.specs.declared.line.TheConstants.{MOST_MEMBERS}
use Rattle.edit_script.specs.Commands.{edits_in, edits_in_layer, replace, insert, delete, batch}
use Rattle.edit_script.specs.Values.{each_of, path_at, text_at, list_at}
use Rattle.edit_script.specs.Table.{is_line, simple_edit_of, members_of, batch_of, query_of, command_of}

abbrev IsFew : Edit → Type 0
IsFew edit = edits_in_layer (out-Edit edit) ≤ MOST_MEMBERS

few_layer : (layer : Edit-F Edit) (edit : Edit) → out-Edit edit ≡ layer → edits_in_layer layer ≤ MOST_MEMBERS → IsFew edit
few_layer layer edit is few = subst (λ (l : Edit-F Edit). edits_in_layer l ≤ MOST_MEMBERS) (sym is) few

choice : (b : Bool) (x : Option Edit) → IfSome x IsFew → IfSome (cond b x None) IsFew
choice true x few = few
choice false x few = tt

placed_few : (replaces inserts deletes : Bool) (found : Option (List ℕ × List ℕ)) (path : Option (List ℕ))
    → IfSome (cond replaces (option_map (λ p. replace p.0 p.1) found) (cond inserts (option_map (λ p. insert p.0 p.1) found) (cond deletes (option_map delete path) None))) IsFew
placed_few true inserts deletes None path = tt
placed_few true inserts deletes (Some p) path = few_layer _ _ (out-roll-Edit (Edit-F.Replace p.0 p.1)) (omega arith)
placed_few false true deletes None path = tt
placed_few false true deletes (Some p) path = few_layer _ _ (out-roll-Edit (Edit-F.Insert p.0 p.1)) (omega arith)
placed_few false false true found None = tt
placed_few false false true found (Some p) = few_layer _ _ (out-roll-Edit (Edit-F.Delete p)) (omega arith)
placed_few false false false found path = tt

few_simple : (d : Data) → IfSome (simple_edit_of d) IsFew
unfolding simple_edit_of
few_simple d =
    placed_few (is_line REPLACE.now (AT.now ∷ OP.now ∷ TEXT.now ∷ []) d) (is_line INSERT.now (AT.now ∷ OP.now ∷ TEXT.now ∷ []) d) (is_line DELETE.now (AT.now ∷ OP.now ∷ []) d)
    (option_zip (path_at AT.now d) (text_at TEXT.now d)) (path_at AT.now d)

grown : {B : Type 0} (n : ℕ) (first : Option B) (rest : Option (List B)) → IfSome rest (λ ys. length ys ≡ n) → IfSome (option_and_then (λ y. option_map (λ ys. y ∷ ys) rest) first) (λ ys. length ys ≡ suc n)
grown n None rest e = tt
grown n (Some y) None e = tt
grown n (Some y) (Some ys) e = ap suc e

length_each : {A B : Type 0} (f : A → Option B) (xs : List A) → IfSome (each_of f xs) (λ ys. length ys ≡ length xs)
length_each f [] = refl
length_each f (x ∷ xs) = grown (length xs) (f x) (each_of f xs) (length_each f xs)

bounded : {B : Type 0} (n : ℕ) (found : Option (List B)) → n ≤ MOST_MEMBERS → IfSome found (λ ys. length ys ≡ n) → IfSome found (λ ys. length ys ≤ MOST_MEMBERS)
bounded n None few e = tt
bounded n (Some ys) few e = omega arith

within : (ds : List Data) (b : Bool) → (nat_lt 0 (length ds) && nat_le (length ds) MOST_MEMBERS) ≡ b → IfSome (cond b (each_of simple_edit_of ds) None) (λ es. length es ≤ MOST_MEMBERS)
within ds false e = tt
within ds true e = bounded (length ds) (each_of simple_edit_of ds) (leb-true _ _ (and_parts _ _ e).1) (length_each simple_edit_of ds)

few_members : (ds : List Data) → IfSome (members_of ds) (λ es. length es ≤ MOST_MEMBERS)
unfolding members_of
few_members ds = within ds _ refl

made : (o : Option (List Data)) → IfSome (option_map batch (option_and_then members_of o)) IsFew
made None = tt
made (Some ds) = of_members (members_of ds) (few_members ds)
  where
    of_members : (o : Option (List Edit)) → IfSome o (λ es. length es ≤ MOST_MEMBERS) → IfSome (option_map batch o) IsFew
    of_members None few = tt
    of_members (Some es) few = few_layer _ _ (out-roll-Edit (Edit-F.Batch es)) few

few_batch : (d : Data) → IfSome (batch_of d) IsFew
unfolding batch_of
few_batch d = choice (is_line BATCH.now (EDITS.now ∷ OP.now ∷ []) d) (option_map batch (option_and_then members_of (list_at EDITS.now d))) (made (list_at EDITS.now d))

first_of : (simple made : Option Edit) (query : Option Query) → IfSome simple IsFew → IfSome made IsFew
    → IfSome (option_or (option_map command.Edit (option_or simple made)) (option_map command.Query query)) (λ c. edits_in c ≤ MOST_MEMBERS)
first_of (Some edit) made query few also = few
first_of None (Some edit) query few also = also
first_of None None (Some query) few also = omega arith
first_of None None None few also = tt

-- a command makes at most so many edits
pub few_edits : (d : Data) → IfSome (command_of d) (λ c. edits_in c ≤ MOST_MEMBERS)
unfolding command_of
few_edits d = first_of (simple_edit_of d) (batch_of d) (query_of d) (few_simple d) (few_batch d)
