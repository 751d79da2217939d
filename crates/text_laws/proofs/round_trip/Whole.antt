-- The canonical text of each file of a document is read as that file.
use Rattle.std.proofs.Common.{◌≡◌, ℕ, ◌+◌, ◌≤◌, List, [], ◌∷◌, refl, sym, subst, Bool, true, false, ◌&&◌, ◌||◌, map, if◌then◌else◌, arith}
use Rattle.std.specs.Prelude.{Contains}
use Rattle.std.specs.List.{All}
use Rattle.std.proofs.lemmas.List.Elements.{All-nil, All-cons, All-contains}
use Rattle.ada_tree.specs.declared.kind.Kind.{Kind}
use Rattle.ada_tree.specs.declared.kind.Kind.TheVariants as kind
use Rattle.ada_tree.specs.declared.grammar.Choice.{Choice}
use Rattle.ada_tree.specs.declared.grammar.Choice.TheVariants.{Only}
use Rattle.ada_tree.specs.declared.grammar.Shape.TheVariants.{One}
use Rattle.ada_tree.specs.declared.grammar.Piece.TheVariants.{Members}
use Rattle.ada_tree.specs.declared.node.Node.{Node, fold_out-Node}
use Rattle.ada_tree.specs.Kinds.{is_kind}
use Rattle.ada_tree.specs.Nodes.{kind_of, text_of, kids_of, nesting_of, greatest, is_nested, is_step}
use Rattle.ada_tree.specs.Tokens.{Event}
use Rattle.ada_tree.specs.Items.{signs}
use Rattle.ada_tree.specs.Choices.{on_side, stands}
use Rattle.ada_tree.specs.Lines.{line}
use Rattle.ada_tree.specs.Reading.{IsReading, IsNested}
use Rattle.ada_tree.specs.Fits.{Fits}
use Rattle.ada_tree.specs.Spelling.{SpellsNode, SpellsMembers, SpellsLine, by_line, in_parentheses, end_with_comments, end_without, member_with_comments, member_without, its_members, laid_out}
use Rattle.ada_tree.specs.Canonical.{items_of}
use Rattle.text_laws.proofs.round_trip.Places.{same_kind}
use Rattle.text_laws.proofs.round_trip.Law.{written_as}
use Rattle.text_laws.proofs.round_trip.Opened.{opened_within}

-- ---- the files of a document are spelled

pub record IsSpelled (note : Bool) (place : Choice) (node : Node) : Type 0 where
  pub events : List Event
  pub rest : List Event
  pub spelling : SpellsNode note place node events rest

members_spelled : {note : Bool} {place : Choice} {first : Bool} {nodes : List Node} {notes : List (List ℕ)} {events rest : List Event} → SpellsMembers note place first nodes notes events rest → All (IsSpelled note place) nodes
members_spelled {note = note} {place = place} (end_with_comments e c) = All-nil (IsSpelled note place)
members_spelled {note = note} {place = place} (end_without e) = All-nil (IsSpelled note place)
members_spelled {note = note} {place = place} (member_with_comments {node = node} {nodes = nodes} b c d ds) = All-cons (IsSpelled note place) node nodes record { events = _; rest = _; spelling = d } (members_spelled ds)
members_spelled {note = note} {place = place} (member_without {node = node} {nodes = nodes} b c d ds) = All-cons (IsSpelled note place) node nodes record { events = _; rest = _; spelling = d } (members_spelled ds)

kids_spelled : {note : Bool} {place : Choice} {node : Node} {kids : List Node} {events rest : List Event} → SpellsLine note (Members place ∷ []) node kids events rest → All (IsSpelled note place) kids
kids_spelled (its_members ds) = members_spelled ds
kids_spelled (laid_out l d) = absurd cc

only_doc : (k : Kind) (text : List ℕ) → stands false (Only kind.Doc) k text ≡ true → kind.Doc ≡ k
only_doc k text h = same_kind kind.Doc k (front (is_kind kind.Doc k) (on_side false k text) h)
  where
    front : (a b : Bool) → a && b || false || false || false ≡ true → a ≡ true
    front true b h = refl
    front false b h = absurd cc

files_spelled : {root : Node} {events rest : List Event} → SpellsNode false (Only kind.Doc) root events rest → All (IsSpelled false (Only kind.File)) (kids_of root)
files_spelled (in_parentheses o d) = absurd cc
files_spelled {root = root} {events = events} {rest = rest} (by_line s h c d) =
    let same = only_doc (kind_of root) (text_of root) s in
    kids_spelled (subst (λ k. SpellsLine false (line (Only kind.Doc) k (text_of root)) root (kids_of root) events rest) (sym same) d)

pub file_spelled : (root file : Node) → Fits root → Contains (kids_of root) file → IsSpelled false (Only kind.File) file
file_spelled root file fits i = All-contains (IsSpelled false (Only kind.File)) (kids_of root) file (files_spelled fits.spelling) i

-- ---- files are nested no deeper than the document

each_below : (test : Kind → Bool) (bound : ℕ) (nodes : List Node) → greatest (map (nesting_of test) nodes) ≤ bound → All (λ node. nesting_of test node ≤ bound) nodes
each_below test bound [] h = All-nil (λ node. nesting_of test node ≤ bound)
each_below test bound (node ∷ nodes) h = All-cons (λ node. nesting_of test node ≤ bound) node nodes (omega arith) (each_below test bound nodes (omega arith))

nested_kid : (test : Kind → Bool) (root file : Node) → Contains (kids_of root) file → nesting_of test file ≤ nesting_of test root
nested_kid test root file i =
    let e : nesting_of test root ≡ (if test (kind_of root) then 1 else 0) + greatest (map (nesting_of test) (kids_of root)) = fold_out-Node ℕ (λ layer. (if test layer.kind then 1 else 0) + greatest layer.kids) root in
    All-contains (λ node. nesting_of test node ≤ nesting_of test root) (kids_of root) file (each_below test (nesting_of test root) (kids_of root) (omega arith)) i

pub canonical_is_read : (root file : Node) → Fits root → Contains (kids_of root) file → IsReading false (Only kind.File) (signs false (items_of (One (Only kind.File)) file)) file
canonical_is_read root file fits i =
    let found = file_spelled root file fits i in
    let own = written_as refl found.spelling in
    let nodes = nested_kid is_nested root file i in
    let steps = nested_kid is_step root file i in
    let above = fits.nested in
    let nested : IsNested file = record { nodes = omega (arith, above.nodes); steps = omega (arith, above.steps) } in
    record {
      reading = record { events = own.events; spelling = own.spelling; fitting = refl; attached = own.attached };
      nested = nested;
      opened = opened_within file found.spelling nested.nodes;
    }
