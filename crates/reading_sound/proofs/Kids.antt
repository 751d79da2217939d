-- Kids of a node, read from their traces.
use Rattle.std.proofs.Common.{◌≡◌, ℕ, List, [], ◌∷◌, ◌++◌, refl, sym, ◌∙◌, ap, subst, Bool, true, false, not, ◌&&◌, Option, Some, None, append-nil}
use Rattle.std.specs.Prelude.{option_map}
use Rattle.std.proofs.lemmas.Bool.{and_from}
use denote.Enum.Bare.{same_true}
use Rattle.ada_tree.specs.contracts.kind.Kind as kind_row
use Rattle.ada_tree.specs.declared.grammar.Argument.{Argument}
use Rattle.ada_tree.specs.declared.grammar.Argument.TheVariants as argument
use Rattle.ada_tree.specs.declared.grammar.Choice.{Choice}
use Rattle.ada_tree.specs.declared.grammar.Choice.TheVariants as choice
use Rattle.ada_tree.specs.declared.grammar.Shape.{Shape}
use Rattle.ada_tree.specs.declared.grammar.Shape.TheVariants.{One, Any, Many, Listed, MaybeListed, ForAll}
use Rattle.ada_tree.specs.declared.kind.Kind.TheVariants as kind
use Rattle.ada_tree.specs.declared.node.Node.{Node, Node-F, out-roll-Node}
use Rattle.ada_tree.specs.declared.word.Mark.{Mark}
use Rattle.ada_tree.specs.declared.word.Mark.TheVariants as mark
use Rattle.ada_tree.specs.declared.word.Word.TheVariants as word
use Rattle.ada_tree.specs.Kinds.{is_kind}
use Rattle.ada_tree.specs.Nodes.{kids_of, notes_of, is_list, is_silent, is_empty, is_empty_list}
use Rattle.ada_tree.specs.Spelling.{SpellsNode, SpellsKid, SpellsMembers, SpellsListed, SpellsArguments, one, any, many, listed, some_listed, none_listed, some_variables, no_variables, in_number, no_in_number}
use Rattle.ada_tree.specs.Tokens.{Event, spelled, a_word, a_mark}
use Rattle.reading_table.specs.declared.held.Held.{Held}
use Rattle.reading_table.specs.declared.held.Held.TheVariants as held
use Rattle.reading_table.specs.Reading.{is_side}
use Rattle.reading_table.specs.States.{joined as joined_values}
use Rattle.text_laws.proofs.round_trip.Places.{both}
use Rattle.ada_tree.proofs.evaluator.Ways.{same_lexeme, same_lexeme_is}
use Rattle.reading_sound.proofs.Equal.{if_so_some, one_side}
use Rattle.reading_sound.proofs.Lists.{holding, standing, members, Members, AllListed, all_listed, path_at, member_on, joined_holding}
use Rattle.reading_sound.proofs.Meaning.{IsMember, alone, commented, writes, stands, joins, begins, Path, next}
use Rattle.reading_sound.proofs.Traces.{Trace, written, stood, joined, begun, stands_in}
use Rattle.reading_sound.proofs.Walks.{past_members, is_list_kind, past_first, past_list, past_kid, begins_joined, filled, past_one, past_close, past_number, is_plain_member}

-- ---- lists as nodes

pub holds_list : (kids : List Node) (notes : List (List ℕ)) → is_list (holding kind.List kids notes) ≡ true
holds_list kids notes = ap (λ (l : Node-F Node). is_kind l.kind kind.List && is_empty l.text) (out-roll-Node record { kind = kind.List; text = []; notes = notes; kids = kids })

pub holds_kids : (kids : List Node) (notes : List (List ℕ)) → kids_of (holding kind.List kids notes) ≡ kids
holds_kids kids notes = ap (λ (l : Node-F Node). l.kids) (out-roll-Node record { kind = kind.List; text = []; notes = notes; kids = kids })

holds_notes : (kids : List Node) (notes : List (List ℕ)) → notes_of (holding kind.List kids notes) ≡ notes
holds_notes kids notes = ap (λ (l : Node-F Node). l.notes) (out-roll-Node record { kind = kind.List; text = []; notes = notes; kids = kids })

pub holds_silent : (kids : List Node) → is_silent (holding kind.List kids []) ≡ true
holds_silent kids = ap is_empty (holds_notes kids [])

-- with a member it isn't empty
holds_some : (node : Node) (nodes : List Node) (notes : List (List ℕ)) → is_empty_list (holding kind.List (node ∷ nodes) notes) ≡ false
holds_some node nodes notes = and_not (is_list list && is_silent list) (is_empty (kids_of list)) (ap is_empty (holds_kids (node ∷ nodes) notes))
  where
    list : Node
    list = holding kind.List (node ∷ nodes) notes

    and_not : (a b : Bool) → b ≡ false → (a && b) ≡ false
    and_not true b h = h
    and_not false b h = refl

pub holds_none : is_empty_list (holding kind.List [] []) ≡ true
holds_none = and_from _ _ (and_from _ _ (holds_list [] []) (holds_silent [])) (ap is_empty (holds_kids [] []))

members_of : {note : Bool} {p : Choice} {kids : List Node} {notes : List (List ℕ)} {e f : List Event} → SpellsMembers note p true kids notes e f
    → SpellsMembers note p true (kids_of (holding kind.List kids notes)) (notes_of (holding kind.List kids notes)) e f
members_of {note = note} {p = p} {kids = kids} {notes = notes} {e = e} {f = f} ds =
    subst (λ ks. SpellsMembers note p true ks (notes_of (holding kind.List kids notes)) e f) (sym (holds_kids kids notes)) (subst (λ ns. SpellsMembers note p true kids ns e f) (sym (holds_notes kids notes)) ds)

listed_of : {note : Bool} {p : Choice} {m : Mark} {kids : List Node} {e f : List Event} → SpellsListed note p m kids e f → SpellsListed note p m (kids_of (holding kind.List kids [])) e f
listed_of {note = note} {p = p} {m = m} {kids = kids} {e = e} {f = f} ds = subst (λ ks. SpellsListed note p m ks e f) (sym (holds_kids kids [])) ds

-- ---- kids

pub record KidRead (note : Bool) (shape : Shape) (v : List Held) (e : List Event) (traces : List Trace) (full : Bool) (w : List Held) (f : List Event) : Type 0 where
  pub kid : Node
  pub events : List Event
  pub spelled : SpellsKid note shape kid e events
  pub after : Path traces (held.Tree kid ∷ v) events w f
  pub is_full : full ≡ true → is_empty_list kid ≡ false

-- tokens before
read_from : {note : Bool} {shape : Shape} {v w : List Held} {d e f : List Event} {traces : List Trace} {full : Bool} → d ≡ e → KidRead note shape v d traces full w f → KidRead note shape v e traces full w f
read_from {note = note} {shape = shape} {v = v} {w = w} {f = f} {traces = traces} {full = full} q r = subst (λ e. KidRead note shape v e traces full w f) q r

filled_some : (full b : Bool) (o : Option (List Trace)) (others : List Trace) → filled full o ≡ Some (others, b) → (o ≡ Some others) × (full ≡ b)
filled_some full b (Some traces) others h =
    let z : Some full ≡ Some b = ap (option_map (λ (r : List Trace × Bool). r.1)) h in
    (ap (option_map (λ (r : List Trace × Bool). r.0)) h, cc)
filled_some full b None others h = absurd cc

full_list : {full : Bool} (kids : List Node) (notes : List (List ℕ)) → (full ≡ true → is_empty kids ≡ false) → full ≡ true → is_empty_list (holding kind.List kids notes) ≡ false
full_list [] notes h g = absurd (let z : is_empty {A = Node} [] ≡ false = h g in cc)
full_list (node ∷ nodes) notes h g = holds_some node nodes notes

of_members : {note full : Bool} {p : Choice} {shape : Shape} {v w : List Held} {e f : List Event} {others : List Trace} (r : Members note true full p kind.List [] v e others w f)
    → SpellsKid note shape (holding kind.List r.nodes r.notes) e r.events → KidRead note shape v e others full w f
of_members r s = record { kid = holding kind.List r.nodes r.notes; events = r.events; spelled = s; after = r.after; is_full = full_list r.nodes r.notes r.is_full }

of_listed : {note : Bool} {p : Choice} {m : Mark} {shape : Shape} {v w : List Held} {d e f : List Event} {others : List Trace} (full : Bool) (r : AllListed note p m kind.List [] v d others w f)
    → SpellsKid note shape (holding kind.List (r.node ∷ r.nodes) []) e r.events → KidRead note shape v e others full w f
of_listed full r s = record { kid = holding kind.List (r.node ∷ r.nodes) []; events = r.events; spelled = s; after = r.after; is_full = λ h. holds_some r.node r.nodes [] }

no_list_read : {note : Bool} {shape : Shape} {v w : List Held} {e f : List Event} {traces others : List Trace} {full : Bool} → filled false (Some traces) ≡ Some (others, full)
    → SpellsKid note shape (holding kind.List [] []) e e → Path traces (held.Tree (holding kind.List [] []) ∷ v) e w f → KidRead note shape v e others full w f
no_list_read {traces = traces} {others = others} {full = full} h s path =
    let q = filled_some false full (Some traces) others h in
    let same : traces ≡ others = cc in
    record { kid = holding kind.List [] []; events = _; spelled = s; after = path_at same refl path; is_full = λ g. absurd (let z : false ≡ true = q.1 ∙ g in cc) }

list_read : {note : Bool} {v w : List Held} {e f : List Event} (shape : Shape) (traces others : List Trace) (full : Bool) → past_list note shape traces ≡ Some (others, full)
    → Path traces (held.Tree (holding kind.List [] []) ∷ v) e w f → KidRead note shape v e others full w f
list_read {note = note} {v = v} {w = w} {e = e} {f = f} (Any p) traces others full h path =
    let q = filled_some (begins_joined traces) full (past_members note p true traces) others h in
    let r = members traces others q.0 path in
    subst (λ b. KidRead note (Any p) v e others b w f) q.1 (of_members r (any (holds_list r.nodes r.notes) (members_of r.spelled)))
list_read {note = note} {v = v} {w = w} {e = e} {f = f} (Many p) traces others full h path =
    let g = if_so_some (begins_joined traces) (filled true (past_members note p true traces)) (others, full) h in
    let q = filled_some true full (past_members note p true traces) others g.1 in
    let r = members traces others q.0 path in
    subst (λ b. KidRead note (Many p) v e others b w f) (g.0 ∙ q.1) (of_members r (many (holds_list r.nodes r.notes) (ap is_empty (holds_kids r.nodes r.notes) ∙ r.is_full g.0) (members_of r.spelled)))
list_read (Listed p m) traces others full h path =
    let q = filled_some true full (past_first _ p m traces) others h in
    let r = all_listed traces others q.0 path in
    of_listed full r (listed (holds_list (r.node ∷ r.nodes) []) (holds_silent (r.node ∷ r.nodes)) (listed_of r.spelled))
list_read {note = note} (MaybeListed p m) (joined n c ps ∷ traces) others full h path =
    let q = filled_some true full (past_first note p m (joined n c ps ∷ traces)) others h in
    let r = all_listed (joined n c ps ∷ traces) others q.0 path in
    of_listed full r (some_listed (holds_list (r.node ∷ r.nodes) []) (holds_silent (r.node ∷ r.nodes)) (listed_of r.spelled))
list_read (MaybeListed p m) _ others full h path = no_list_read h (none_listed holds_none) path
list_read {note = note} {v = v} {w = w} {f = f} ForAll (written n l ∷ written o m ∷ traces) others full h (next (writes {e = d}) (next (writes {e = e}) path)) =
    let g = if_so_some ((is_side note n && is_side note o) && (same_lexeme l (a_word word.For) && same_lexeme m (a_word word.All))) (filled true (past_first note (choice.Only kind.Vars) mark.Semicolon traces)) (others, full) h in
    let sides = both (both g.0).0 in
    let words = both (both g.0).1 in
    let q = filled_some true full (past_first note (choice.Only kind.Vars) mark.Semicolon traces) others g.1 in
    let r = all_listed traces others q.0 path in
    read_from (ap (λ n. spelled n (a_word word.For) ∷ spelled note (a_word word.All) ∷ e) (one_side note n sides.0) ∙ ap (λ o. spelled n (a_word word.For) ∷ spelled o (a_word word.All) ∷ e) (one_side note o sides.1)
    ∙ ap (λ l. spelled n l ∷ spelled o (a_word word.All) ∷ e) (sym (same_lexeme_is l (a_word word.For) words.0)) ∙ ap (λ m. spelled n l ∷ spelled o m ∷ e) (sym (same_lexeme_is m (a_word word.All) words.1)))
    (of_listed full r (some_variables (holds_list (r.node ∷ r.nodes) []) (holds_silent (r.node ∷ r.nodes)) (listed_of r.spelled)))
list_read ForAll _ others full h path = no_list_read h (no_variables holds_none) path
list_read (One p) traces others full h path = absurd cc

pub kid_read : {note : Bool} {v w : List Held} {e f : List Event} (shape : Shape) (traces others : List Trace) (full : Bool) → past_kid note shape traces ≡ Some (others, full)
    → Path traces v e w f → KidRead note shape v e others full w f
kid_read {note = note} {v = v} {w = w} {f = f} (One p) (stood n c ps ∷ traces) others full h (next (stands {node = node} i) path) =
    let g = if_so_some (is_side note n && (not c && stands_in ps p)) (Some (traces, false)) (others, full) h in
    let q = filled_some false full (Some traces) others g.1 in
    let same : traces ≡ others = cc in
    by (both (both g.0).1).0 (both (both g.0).1).1 (member_on (sym (one_side note n (both g.0).0)) i) (path_at same refl path) (λ b. absurd (let z : false ≡ true = q.1 ∙ b in cc))
  where
    by : {c : Bool} {e g : List Event} → not c ≡ true → stands_in ps p ≡ true → IsMember note c ps node e g → Path others (held.Tree node ∷ v) g w f → (full ≡ true → is_empty_list node ≡ false) → KidRead note (One p) v e others full w f
    by z x (alone s at) path b = record { kid = node; events = _; spelled = one s (standing p x at); after = path; is_full = b }
    by z x (commented s at) path b = absurd cc
kid_read {note = note} {v = v} {w = w} {e = e} {f = f} shape (begun k ∷ traces) others full h (next begins path) =
    let g = if_so_some (is_list_kind k) (past_list note shape traces) (others, full) h in
    list_read shape traces others full g.1 (path_at refl (ap (λ k. held.Tree (holding k [] []) ∷ v) (same_true kind_row.the_type tt k kind.List g.0)) path)
kid_read _ _ others full h path = absurd cc

-- ---- the arguments of a proof step

pub record ArgumentsRead (note : Bool) (args : List Argument) (kids : List Node) (v : List Held) (e : List Event) (traces : List Trace) (w : List Held) (f : List Event) : Type 0 where
  pub nodes : List Node
  pub events : List Event
  pub spelled : SpellsArguments note args nodes e events
  pub after : Path traces (held.Tree (holding kind.List (kids ++ nodes) []) ∷ v) events w f

pub record OneRead (note : Bool) (p : Choice) (kids : List Node) (v : List Held) (e : List Event) (traces : List Trace) (w : List Held) (f : List Event) : Type 0 where
  pub node : Node
  pub events : List Event
  pub silent : is_silent node ≡ true
  pub spelled : SpellsNode note p node e events
  pub after : Path traces (held.Tree (holding kind.List (kids ++ node ∷ []) []) ∷ v) events w f

plain_member : {note n c : Bool} {p : Choice} {ps : List Choice} {node : Node} {kids : List Node} {v w : List Held} {e g f : List Event} {traces : List Trace} → is_side note n ≡ true → (not c && stands_in ps p) ≡ true
    → IsMember n c ps node e g → Path traces (joined_values (held.Tree node ∷ held.Tree (holding kind.List kids []) ∷ v)) g w f → OneRead note p kids v e traces w f
plain_member {note = note} {n = n} {p = p} {kids = kids} {v = v} q h (alone {node = node} {e = e} {f = g} s at) path = record {
  node = node;
  events = g;
  silent = s;
  spelled = subst (λ n. SpellsNode n p node e g) (sym (one_side note n q)) (standing p h at);
  after = path_at refl (joined_holding kind.List kids [] node v) path;
}
plain_member q h (commented s at) path = absurd cc

pub one_read : {note : Bool} {kids : List Node} {v w : List Held} {e f : List Event} (p : Choice) (traces others : List Trace) → past_one note (Some p) traces ≡ Some others
    → Path traces (held.Tree (holding kind.List kids []) ∷ v) e w f → OneRead note p kids v e others w f
one_read {note = note} p (joined n c ps ∷ traces) others h (next (joins i) path) =
    let g = if_so_some (is_plain_member note p n c ps) (Some traces) others h in
    let same : traces ≡ others = cc in
    plain_member (both g.0).0 (both g.0).1 i (path_at same refl path)
one_read p _ others h path = absurd cc

-- nothing is left
pub none_read : {note : Bool} {args : List Argument} {kids : List Node} {v w : List Held} {e f : List Event} {traces others : List Trace} → Some traces ≡ Some others → SpellsArguments note args [] e e
    → Path traces (held.Tree (holding kind.List kids []) ∷ v) e w f → ArgumentsRead note args kids v e others w f
none_read {kids = kids} {v = v} {e = e} {traces = traces} {others = others} h s path =
    let same : traces ≡ others = cc in
    record { nodes = []; events = e; spelled = s; after = path_at same (ap (λ ks. held.Tree (holding kind.List ks []) ∷ v) (sym (append-nil kids))) path }

pub number_read : {note : Bool} {kids : List Node} {v w : List Held} {e f : List Event} (traces others : List Trace) → past_number note traces ≡ Some others
    → Path traces (held.Tree (holding kind.List kids []) ∷ v) e w f → ArgumentsRead note (argument.InNumber ∷ []) kids v e others w f
number_read {note = note} {kids = kids} {v = v} {w = w} {f = f} (written n l ∷ joined o c ps ∷ traces) others h (next (writes {e = e}) (next (joins i) path)) =
    let g = if_so_some ((is_side note n && same_lexeme l (a_word word.In)) && is_plain_member note (choice.Only kind.Int) o c ps) (Some traces) others h in
    let same : traces ≡ others = cc in
    let r = plain_member (both (both g.0).1).0 (both (both g.0).1).1 i (path_at same refl path) in
    let parts = both (both g.0).0 in
    subst (λ e. ArgumentsRead note (argument.InNumber ∷ []) kids v e others w f) (ap (λ n. spelled n (a_word word.In) ∷ e) (one_side note n parts.0) ∙ ap (λ l. spelled n l ∷ e) (sym (same_lexeme_is l (a_word word.In) parts.1)))
    record { nodes = r.node ∷ []; events = r.events; spelled = in_number r.silent r.spelled; after = r.after }
number_read _ others h path = none_read h no_in_number path

pub close_read : {note : Bool} {v w : List Held} {e f : List Event} (traces others : List Trace) → past_close note (Some traces) ≡ Some others → Path traces v e w f
    → (g : List Event) × (e ≡ spelled note (a_mark mark.Close) ∷ g) × Path others v g w f
close_read {note = note} (written n l ∷ traces) others h (next (writes {e = e}) path) =
    let g = if_so_some (is_side note n && same_lexeme l (a_mark mark.Close)) (Some traces) others h in
    let same : traces ≡ others = cc in
    (e, (ap (λ n. spelled n l ∷ e) (sym (one_side note n (both g.0).0)) ∙ ap (λ l. spelled note l ∷ e) (same_lexeme_is l (a_mark mark.Close) (both g.0).1)), path_at same refl path)
close_read _ others h path = absurd cc
