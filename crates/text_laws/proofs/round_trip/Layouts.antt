-- What is laid out of parts that may be left out, of proof steps' arguments, and of kids.
use Rattle.std.proofs.Common.{◌≡◌, ℕ, suc, zero, List, [], ◌∷◌, ◌++◌, refl, ◌∙◌, ap, Bool, true, false, Some, drop}
use Rattle.std.proofs.lemmas.Bool.{and_from}
use Rattle.std.proofs.lemmas.List.{drop-map}
use Rattle.ada_tree.specs.declared.kind.Kind.TheVariants as kind
use Rattle.ada_tree.specs.declared.grammar.Choice.{Choice}
use Rattle.ada_tree.specs.declared.grammar.Choice.TheVariants as choice
use Rattle.ada_tree.specs.declared.grammar.Argument.{Argument}
use Rattle.ada_tree.specs.declared.grammar.Argument.TheVariants as argument
use Rattle.ada_tree.specs.declared.grammar.Shape.{Shape}
use Rattle.ada_tree.specs.declared.grammar.Piece.{Piece}
use Rattle.ada_tree.specs.declared.grammar.Piece.TheVariants.{Option as Optional, Shown, End}
use Rattle.ada_tree.specs.declared.node.Node.{Node}
use Rattle.ada_tree.specs.Kinds.{is_kind}
use Rattle.ada_tree.specs.Nodes.{text_of, notes_of, kids_of, is_empty, is_none, is_empty_list, are_empty}
use Rattle.ada_tree.specs.Spelling.{after_end, argument_place, listed_place}
use Rattle.ada_tree.specs.Canonical.{Written, written_line, written_at, arguments, argument_list, are_bare, is_left_out}
use Rattle.text_laws.proofs.round_trip.Places.{both}
use Rattle.text_laws.proofs.round_trip.Written.{as_written, all_written, opened, layer_of, line_items, node_items}

-- ---- parts that may be left out

skipped : (pieces : List Piece) (text : List ℕ) (notes : List (List ℕ)) (ks : List Written) → written_line true pieces text notes ks ≡ written_line false (after_end pieces) text notes ks
skipped [] text notes ks = refl
skipped (End ∷ pieces) text notes ks = refl
skipped (_ ∷ pieces) text notes ks = skipped pieces text notes ks

pub given_items : (pieces : List Piece) (node : Node) (kids : List Node) → is_left_out (all_written kids) ≡ false → line_items (Optional ∷ pieces) node kids ≡ line_items pieces node kids
given_items pieces node kids h = rw h refl

pub left_out_items : (pieces : List Piece) (node kid : Node) (kids : List Node) → is_none kid ≡ true → line_items (Optional ∷ pieces) node (kid ∷ kids) ≡ line_items (after_end pieces) node kids
left_out_items pieces node kid kids z = rw is_none_kind (skipped pieces (text_of node) (notes_of node) (all_written kids))
  where
    is_none_kind : is_left_out (all_written (kid ∷ kids)) ≡ true
    is_none_kind = ap (λ (w : Written). is_kind w.kind kind.None) (opened kid) ∙ (both (both (both z).0).0).0

pub shown_items : (count : ℕ) (pieces : List Piece) (node : Node) (kids : List Node) → are_empty count kids ≡ false → (are_bare count (all_written kids) ≡ true → are_empty count kids ≡ true)
    → line_items (Shown count ∷ pieces) node kids ≡ line_items pieces node kids
shown_items count pieces node kids e bare = rw (not_bare (are_bare count (all_written kids)) refl) refl
  where
    not_bare : (b : Bool) → are_bare count (all_written kids) ≡ b → b ≡ false
    not_bare true b = let f = bare b in absurd cc
    not_bare false b = refl

is_empty-all_written : (nodes : List Node) → is_empty (all_written nodes) ≡ is_empty nodes
is_empty-all_written [] = refl
is_empty-all_written (node ∷ nodes) = refl

pub bare_at : (node : Node) → (as_written node).is_bare ≡ is_empty (kids_of node)
bare_at node = ap (λ (w : Written). w.is_bare) (opened node) ∙ is_empty-all_written (kids_of node)

empty_are_bare : (count : ℕ) (kids : List Node) → are_empty count kids ≡ true → are_bare count (all_written kids) ≡ true
empty_are_bare zero kids h = refl
empty_are_bare (suc count) [] h = h
empty_are_bare (suc count) (kid ∷ kids) h = and_from _ _ (bare_at kid ∙ (both (both h).0).1) (empty_are_bare count kids (both h).1)

pub hidden_items : (count : ℕ) (pieces : List Piece) (node : Node) (kids : List Node) → are_empty count kids ≡ true → line_items (Shown count ∷ pieces) node kids ≡ line_items (after_end pieces) node (drop count kids)
hidden_items count pieces node kids e =
    rw (empty_are_bare count kids e) (skipped pieces (text_of node) (notes_of node) (drop count (all_written kids)) ∙ ap (λ ks. written_line false (after_end pieces) (text_of node) (notes_of node) ks) (drop-map as_written count kids))

-- ---- arguments of proof steps

pub argument_items : (a : Argument) (others : List Argument) (place : Choice) (node : Node) (nodes : List Node) → argument_place a ≡ Some place
    → arguments (a ∷ others) (all_written (node ∷ nodes)) ≡ node_items place node ++ arguments others (all_written nodes)
argument_items argument.Number others place node nodes h = let e : (choice.Only kind.Int) ≡ place = cc in ap (λ p. node_items p node ++ arguments others (all_written nodes)) e
argument_items argument.Name others place node nodes h = let e : choice.Only kind.Name ≡ place = cc in ap (λ p. node_items p node ++ arguments others (all_written nodes)) e
argument_items argument.LemmaName others place node nodes h = let e : choice.LemmaName ≡ place = cc in ap (λ p. node_items p node ++ arguments others (all_written nodes)) e
argument_items argument.Term others place node nodes h = let e : choice.Expr ≡ place = cc in ap (λ p. node_items p node ++ arguments others (all_written nodes)) e
argument_items _ others place node nodes h = absurd cc

pub list_items : (a : Argument) (place : Choice) (ks : List Written) → listed_place a ≡ Some place → arguments (a ∷ []) ks ≡ argument_list place ks
list_items argument.Names place ks h = let e : choice.Only kind.Name ≡ place = cc in ap (λ p. argument_list p ks) e
list_items argument.Terms place ks h = let e : choice.Expr ≡ place = cc in ap (λ p. argument_list p ks) e
list_items argument.Coefficients place ks h = let e : choice.Coefficient ≡ place = cc in ap (λ p. argument_list p ks) e
list_items _ place ks h = absurd cc

-- ---- kids

pub kid_at : (shape : Shape) (node : Node) → (as_written node).at shape ≡ written_at (layer_of node) shape
kid_at shape node = ap (λ (w : Written). w.at shape) (opened node)

pub nothing : {A : Type 0} (xs : List A) → is_empty xs ≡ true → xs ≡ []
nothing [] h = refl
nothing (x ∷ xs) h = absurd cc

-- a list without members is written as nothing
pub no_kids : (node : Node) → is_empty_list node ≡ true → kids_of node ≡ []
no_kids node h = nothing (kids_of node) (both h).1
