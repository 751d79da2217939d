-- Nodes, from their lines.
use Rattle.std.proofs.Common.{◌≡◌, ℕ, List, [], ◌∷◌, ◌++◌, refl, sym, ◌∙◌, ap, subst, Bool, true, false, ◌||◌, append_assoc}
use Rattle.ada_tree.specs.declared.kind.Kind.{Kind}
use Rattle.ada_tree.specs.declared.kind.Kind.TheVariants as kind
use Rattle.ada_tree.specs.declared.word.Mark.TheVariants as mark
use Rattle.ada_tree.specs.declared.grammar.Choice.{Choice}
use Rattle.ada_tree.specs.declared.grammar.Choice.TheVariants as choice
use Rattle.ada_tree.specs.declared.grammar.Shape.TheVariants.{One}
use Rattle.ada_tree.specs.declared.node.Node.{Node}
use Rattle.ada_tree.specs.Kinds.{is_kind}
use Rattle.ada_tree.specs.Nodes.{kind_of, text_of, kids_of}
use Rattle.ada_tree.specs.Tokens.{Event, a_mark, spelled}
use Rattle.ada_tree.specs.Items.{Item, put, signs}
use Rattle.ada_tree.specs.Choices.{stands, opens}
use Rattle.ada_tree.specs.Reading.{Attached, passed}
use Rattle.ada_tree.specs.Spelling.{SpellsLine, by_line, in_parentheses, line_of, has_place}
use Rattle.ada_tree.specs.Canonical.{Written, is_wrapped, written_node, in_parentheses as put_in_parentheses}
use Rattle.text_laws.proofs.round_trip.Places.{is_open_kind, is_open, is_plain_kind, is_plain, is_sure_kind, is_sure, is_improper_kind, is_proper, open_stands, plain_stands, sure_stands, proper_stands}
use Rattle.text_laws.proofs.round_trip.Parentheses.{stands_bare, stands_in_them, wrapped_opens, same_line}
use Rattle.text_laws.proofs.round_trip.Lines.{sound_line, plain_line, sure_line}
use Rattle.text_laws.proofs.round_trip.Items.{begin_plainly}
use Rattle.text_laws.proofs.round_trip.Written.{opened, layer_of, node_items, line_items, Admitted, as_it_is, in_them, IsLineWritten, IsStripped, IsNodeWritten}

-- ---- what follows from where a node stands

proper_admitted : {note : Bool} {place : Choice} {k : Kind} {text : List ℕ} → Admitted note place k text → is_proper place ≡ true → is_improper_kind k ≡ false
proper_admitted {note = note} {place = place} {k = k} {text = text} (as_it_is h) p = proper_stands note place k text h p
proper_admitted {note = note} {k = k} {text = text} (in_them o h) p = proper_stands note choice.Expr k text h refl

open_admitted : {note : Bool} {place : Choice} {k : Kind} {text : List ℕ} → Admitted note place k text → is_open_kind k ≡ true → is_open place ≡ true
open_admitted {note = note} {place = place} {k = k} {text = text} (as_it_is h) p = open_stands note place k text h p
open_admitted {note = note} {k = k} {text = text} (in_them o h) p = let e : false ≡ true = open_stands note choice.Expr k text h p in absurd cc

plain_admitted : {note : Bool} {place : Choice} {k : Kind} {text : List ℕ} → Admitted note place k text → is_plain place ≡ true → is_plain_kind k ≡ true
plain_admitted {note = note} {place = place} {k = k} {text = text} (as_it_is h) p = plain_stands note place k text h p
plain_admitted {note = note} {k = k} {text = text} (in_them o h) p = plain_stands note choice.Expr k text h refl

never_sure : (place : Choice) → opens place ≡ true → is_sure place ≡ false
never_sure choice.Item o = absurd cc
never_sure choice.Lib o = absurd cc
never_sure choice.Decl o = absurd cc
never_sure choice.Stmt o = absurd cc
never_sure (choice.Only k) o = absurd cc
never_sure _ o = refl

sure_admitted : {note : Bool} {place : Choice} {k : Kind} {text : List ℕ} → Admitted note place k text → is_sure place ≡ true → is_sure_kind k ≡ true
sure_admitted {note = note} {place = place} {k = k} {text = text} (as_it_is h) p = sure_stands note place k text h p
sure_admitted {place = place} (in_them o h) p = let e = never_sure place o in absurd cc

pub bare_admitted : {note : Bool} {place : Choice} {k : Kind} {text : List ℕ} → Admitted note place k text → is_wrapped place k text ≡ false → stands note place k text ≡ true
bare_admitted (as_it_is h) w = h
bare_admitted {note = note} {place = place} {k = k} {text = text} (in_them o h) w = stands_bare note place k text o w h

pub wrapped_admitted : {note : Bool} {place : Choice} {k : Kind} {text : List ℕ} → Admitted note place k text → is_wrapped place k text ≡ true → stands note choice.Expr k text ≡ true
wrapped_admitted {note = note} {place = place} {k = k} {text = text} (as_it_is h) w = stands_in_them note place k text w h
wrapped_admitted (in_them o h) w = h

not_none : (k : Kind) → is_improper_kind k ≡ false → is_kind k kind.None ≡ false
not_none kind.None h = absurd cc
not_none _ h = refl

-- ---- a node

node_at : (place : Choice) (node : Node) → node_items place node ≡ written_node place (layer_of node)
node_at place node = ap (λ (w : Written). w.at (One place)) (opened node)

bare_at : (place : Choice) (node : Node) → is_wrapped place (kind_of node) (text_of node) ≡ false → node_items place node ≡ line_items (line_of place node) node (kids_of node)
bare_at place node w = node_at place node ∙ rw w refl

wrapped_at : (place : Choice) (node : Node) → is_wrapped place (kind_of node) (text_of node) ≡ true → node_items place node ≡ put_in_parentheses (line_items (line_of place node) node (kids_of node))
wrapped_at place node w = node_at place node ∙ rw w refl

pub parentheses_append : (items rest : List Item) → put_in_parentheses items ++ rest ≡ put (a_mark mark.Open) ∷ items ++ put (a_mark mark.Close) ∷ rest
parentheses_append items rest = ap (λ all. put (a_mark mark.Open) ∷ all) (append_assoc items (put (a_mark mark.Close) ∷ []) rest)

wrapped_items : (place : Choice) (node : Node) → is_wrapped place (kind_of node) (text_of node) ≡ true → (rest : List Item)
    → node_items place node ++ rest ≡ put (a_mark mark.Open) ∷ line_items (line_of place node) node (kids_of node) ++ put (a_mark mark.Close) ∷ rest
wrapped_items place node w rest = ap (λ all. all ++ rest) (wrapped_at place node w) ∙ parentheses_append (line_items (line_of place node) node (kids_of node)) rest

plain_bare : {note : Bool} {place : Choice} {node : Node} → IsStripped note place node → (items : List Item) → is_plain place ≡ true → (sure : Bool) → is_sure place ≡ sure → sure || begin_plainly items ≡ true
    → begin_plainly (line_items (line_of place node) node (kids_of node) ++ items) ≡ true
plain_bare {place = place} {node = node} c items p true e h = c.line.plain false items (sure_line place (kind_of node) (text_of node) (sure_admitted c.admitted e)) (λ f. absurd cc)
plain_bare {place = place} {node = node} c items p false e h = c.line.plain true items (plain_line place (kind_of node) (text_of node) (plain_admitted c.admitted p)) (λ f. h)

pub node_written : {note : Bool} {place : Choice} {node : Node} → IsStripped note place node → IsNodeWritten note place node
node_written {note = note} {place = place} {node = node} c = by_test (is_wrapped place (kind_of node) (text_of node)) refl
  where
    own_line : List Item
    own_line = line_items (line_of place node) node (kids_of node)

    sound : (rest : List Event) (items : List Item) → is_proper place ≡ true → (is_open_kind (kind_of node) ≡ true → begin_plainly items ≡ true) → Attached [] rest (signs note items) → Attached [] (c.line.events rest) (signs note (own_line ++ items))
    sound rest items p f a = c.line.attached note (is_open_kind (kind_of node)) rest items (sound_line note place (kind_of node) (text_of node) (proper_admitted c.admitted p)) f a

    there : is_proper place ≡ true → is_kind (kind_of node) kind.None ≡ false
    there p = not_none (kind_of node) (proper_admitted c.admitted p)

    by_test : (b : Bool) → is_wrapped place (kind_of node) (text_of node) ≡ b → IsNodeWritten note place node
    by_test false w = record {
      events = c.line.events;
      spelling = λ rest. by_line (bare_admitted c.admitted w) c.placed c.consistent (c.line.spelling rest);
      attached = λ rest items p f a. rw (bare_at place node w) (sound rest items p (λ o. f (open_admitted c.admitted o)) a);
      plain = λ items p h. rw (bare_at place node w) (plain_bare c items p (is_sure place) refl h);
      there = there;
    }
    by_test true w = record {
      events = λ rest. spelled note (a_mark mark.Open) ∷ c.line.events (spelled note (a_mark mark.Close) ∷ rest);
      spelling = λ rest. let same = same_line place (kind_of node) (text_of node) (wrapped_opens place (kind_of node) (text_of node) w) in
          in_parentheses (wrapped_opens place (kind_of node) (text_of node) w) (by_line (wrapped_admitted c.admitted w)
          (subst (λ pieces. has_place pieces (text_of node) ≡ true) same c.placed) c.consistent
          (subst (λ pieces. SpellsLine note pieces node (kids_of node) (c.line.events (spelled note (a_mark mark.Close) ∷ rest)) (spelled note (a_mark mark.Close) ∷ rest)) same (c.line.spelling (spelled note (a_mark mark.Close) ∷ rest))));
      attached = λ rest items p f a. rw (wrapped_items place node w items) (passed (sound (spelled note (a_mark mark.Close) ∷ rest) (put (a_mark mark.Close) ∷ items) p (λ o. refl) (passed a)));
      plain = λ items p h. rw (wrapped_at place node w) refl;
      there = there;
    }

-- a node in superfluous parentheses
pub in_superfluous : {note : Bool} {place : Choice} {node : Node} → opens place ≡ true → IsStripped note choice.Expr node → IsStripped note place node
in_superfluous {note = note} {place = place} {node = node} o c =
    let same = sym (same_line place (kind_of node) (text_of node) o) in
    record {
      admitted = in_them o (bare_admitted c.admitted refl);
      placed = subst (λ pieces. has_place pieces (text_of node) ≡ true) same c.placed;
      consistent = c.consistent;
      line = subst (λ pieces. IsLineWritten note pieces node (kids_of node)) same c.line;
    }
