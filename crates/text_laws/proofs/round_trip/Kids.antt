-- Kids, by their shapes.
use Rattle.std.proofs.Common.{◌≡◌, List, [], ◌∷◌, ◌++◌, refl, ◌∙◌, ap, Bool, true, false}
use Rattle.std.proofs.lemmas.Bool.{and_from}
use Rattle.ada_tree.specs.declared.kind.Kind.TheVariants as kind
use Rattle.ada_tree.specs.declared.word.Word.TheVariants as word
use Rattle.ada_tree.specs.declared.word.Mark.{Mark}
use Rattle.ada_tree.specs.declared.word.Mark.TheVariants as mark
use Rattle.ada_tree.specs.declared.grammar.Choice.{Choice}
use Rattle.ada_tree.specs.declared.grammar.Choice.TheVariants as choice
use Rattle.ada_tree.specs.declared.grammar.Shape.TheVariants.{One, Any, Many, Listed, MaybeListed, ForAll}
use Rattle.ada_tree.specs.declared.node.Node.{Node}
use Rattle.ada_tree.specs.Kinds.{is_kind}
use Rattle.ada_tree.specs.Nodes.{kind_of, notes_of, kids_of, is_empty, is_silent, is_list, is_empty_list}
use Rattle.ada_tree.specs.Tokens.{a_word, spelled}
use Rattle.ada_tree.specs.Items.{Item, put}
use Rattle.ada_tree.specs.Reading.{passed}
use Rattle.ada_tree.specs.Spelling
use Rattle.ada_tree.specs.Canonical.{separated, for_all}
use Rattle.text_laws.proofs.round_trip.Places.{both, same_kind}
use Rattle.text_laws.proofs.round_trip.Lines.{uncommented}
use Rattle.text_laws.proofs.round_trip.Written.{as_written, all_written, IsNodeWritten, IsKidWritten, AreMembersWritten, AreListedWritten}
use Rattle.text_laws.proofs.round_trip.Layouts.{kid_at, no_kids}

list_there : (node : Node) → is_list node ≡ true → is_kind (kind_of node) kind.None ≡ false
list_there node h = ap (λ k. is_kind k kind.None) (same_kind (kind_of node) kind.List (both h).0)

pub one_kid : {note : Bool} {place : Choice} {node : Node} → is_silent node ≡ true → IsNodeWritten note place node → IsKidWritten note (One place) node
one_kid s one = record {
  events = one.events;
  spelling = λ rest. Spelling.one s (one.spelling rest);
  attached = one.attached;
  plain = one.plain;
  there = one.there;
  bare = λ h e. absurd cc;
}

pub any_kid : {note : Bool} {place : Choice} {node : Node} → is_list node ≡ true → AreMembersWritten note place true (kids_of node) (notes_of node) → IsKidWritten note (Any place) node
any_kid {note = note} {place = place} {node = node} l all = record {
  events = all.events;
  spelling = λ rest. Spelling.any l (all.spelling rest);
  attached = λ rest items s f a. rw (kid_at (Any place) node) (all.attached rest items s f a);
  plain = λ items p h. let facts = uncommented place (both p).1 in rw (kid_at (Any place) node) (all.plain items (both p).0 facts.starts facts.ends facts.unkept h);
  there = λ s. list_there node l;
  bare = λ h e. and_from _ _ (and_from _ _ l (all.silent (uncommented place h).ends)) e;
}

pub many_kid : {note : Bool} {place : Choice} {node : Node} → is_list node ≡ true → is_empty (kids_of node) ≡ false → AreMembersWritten note place true (kids_of node) (notes_of node) → IsKidWritten note (Many place) node
many_kid {note = note} {place = place} {node = node} l n all = record {
  events = all.events;
  spelling = λ rest. Spelling.many l n (all.spelling rest);
  attached = λ rest items s f a. rw (kid_at (Many place) node) (all.attached rest items s f a);
  plain = λ items p h. let facts = uncommented place (both p).1 in rw (kid_at (Many place) node) (all.plain items (both p).0 facts.starts facts.ends facts.unkept h);
  there = λ s. list_there node l;
  bare = λ h e. absurd cc;
}

pub listed_kid : {note : Bool} {place : Choice} {m : Mark} {node : Node} → is_list node ≡ true → is_silent node ≡ true → AreListedWritten note place m (kids_of node) → IsKidWritten note (Listed place m) node
listed_kid {note = note} {place = place} {m = m} {node = node} l s all = record {
  events = all.events;
  spelling = λ rest. Spelling.listed l s (all.spelling rest);
  attached = λ rest items t f a. rw (kid_at (Listed place m) node) (all.attached rest items t a);
  plain = λ items p h. rw (kid_at (Listed place m) node) (all.plain items p h);
  there = λ s. list_there node l;
  bare = λ h e. absurd cc;
}

pub some_listed_kid : {note : Bool} {place : Choice} {m : Mark} {node : Node} → is_list node ≡ true → is_silent node ≡ true → AreListedWritten note place m (kids_of node) → IsKidWritten note (MaybeListed place m) node
some_listed_kid {note = note} {place = place} {m = m} {node = node} l s all = record {
  events = all.events;
  spelling = λ rest. Spelling.some_listed l s (all.spelling rest);
  attached = λ rest items t f a. rw (kid_at (MaybeListed place m) node) (all.attached rest items t a);
  plain = λ items p h. rw (kid_at (MaybeListed place m) node) (all.plain items p h);
  there = λ s. list_there node l;
  bare = λ h e. absurd cc;
}

pub none_listed_kid : {note : Bool} {node : Node} (place : Choice) (m : Mark) → is_empty_list node ≡ true → IsKidWritten note (MaybeListed place m) node
none_listed_kid {note = note} {node = node} place m h = record {
  events = λ rest. rest;
  spelling = λ rest. Spelling.none_listed h;
  attached = λ rest items t f a. rw (written_as_nothing items) a;
  plain = λ items p q. rw (written_as_nothing items) q;
  there = λ s. list_there node (both (both h).0).0;
  bare = λ h e. absurd cc;
}
  where
    written_as_nothing : (items : List Item) → (as_written node).at (MaybeListed place m) ++ items ≡ items
    written_as_nothing items = ap (λ own. own ++ items) (kid_at (MaybeListed place m) node ∙ ap (λ nodes. separated place m (all_written nodes)) (no_kids node h))

pub some_variables_kid : {note : Bool} {node : Node} → is_list node ≡ true → is_silent node ≡ true → AreListedWritten note (choice.Only kind.Vars) mark.Semicolon (kids_of node) → IsKidWritten note ForAll node
some_variables_kid {note = note} {node = node} l s all = record {
  events = λ rest. spelled note (a_word word.For) ∷ spelled note (a_word word.All) ∷ all.events rest;
  spelling = λ rest. Spelling.some_variables l s (all.spelling rest);
  attached = λ rest items t f a. rw (written_first items) (passed (passed (all.attached rest items refl a)));
  plain = λ items p q. rw (written_first items) refl;
  there = λ s. list_there node l;
  bare = λ h e. let n = all.some in absurd cc;
}
  where
    for_some : (nodes : List Node) → is_empty nodes ≡ false → for_all (all_written nodes) ≡ put (a_word word.For) ∷ put (a_word word.All) ∷ separated (choice.Only kind.Vars) mark.Semicolon (all_written nodes)
    for_some [] h = absurd cc
    for_some (node ∷ nodes) h = refl

    written_first : (items : List Item) → (as_written node).at ForAll ++ items ≡ put (a_word word.For) ∷ put (a_word word.All) ∷ (separated (choice.Only kind.Vars) mark.Semicolon (all_written (kids_of node)) ++ items)
    written_first items = ap (λ own. own ++ items) (kid_at ForAll node ∙ for_some (kids_of node) all.some)

pub no_variables_kid : {note : Bool} {node : Node} → is_empty_list node ≡ true → IsKidWritten note ForAll node
no_variables_kid {note = note} {node = node} h = record {
  events = λ rest. rest;
  spelling = λ rest. Spelling.no_variables h;
  attached = λ rest items t f a. rw (written_as_nothing items) a;
  plain = λ items p q. rw (written_as_nothing items) q;
  there = λ s. list_there node (both (both h).0).0;
  bare = λ t e. h;
}
  where
    written_as_nothing : (items : List Item) → (as_written node).at ForAll ++ items ≡ items
    written_as_nothing items = ap (λ own. own ++ items) (kid_at ForAll node ∙ ap (λ nodes. for_all (all_written nodes)) (no_kids node h))
