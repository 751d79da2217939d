-- Members, members with a mark between them, arguments of proof steps, and kids: their tokens can be told apart.
use Rattle.std.proofs.Common.{◌≡◌, ℕ, List, [], ◌∷◌, ◌++◌, refl, sym, subst, Bool, true, false, not, ◌&&◌, ◌||◌, Some}
use Rattle.std.specs.List.{list_all}
use Rattle.std.proofs.lemmas.Bool.{or_left, or_right, not-true}
use Rattle.ada_tree.specs.declared.kind.Kind.TheVariants as kind
use Rattle.ada_tree.specs.declared.word.Word.TheVariants as word
use Rattle.ada_tree.specs.declared.word.Mark.{Mark}
use Rattle.ada_tree.specs.declared.word.Mark.TheVariants as mark
use Rattle.ada_tree.specs.declared.grammar.Choice.{Choice}
use Rattle.ada_tree.specs.declared.grammar.Choice.TheVariants as choice
use Rattle.ada_tree.specs.declared.grammar.Argument.{Argument}
use Rattle.ada_tree.specs.declared.grammar.Argument.TheVariants as argument
use Rattle.ada_tree.specs.declared.grammar.Shape.TheVariants.{One, Any, Many, Listed, MaybeListed, ForAll}
use Rattle.ada_tree.specs.declared.node.Node.{Node}
use Rattle.ada_tree.specs.Nodes.{notes_of, kids_of, is_empty, is_empty_list, is_silent}
use Rattle.ada_tree.specs.Texts.{is_comment}
use Rattle.ada_tree.specs.Tokens.{a_word, a_mark}
use Rattle.ada_tree.specs.Items.{Item, put, line_break}
use Rattle.ada_tree.specs.Choices.{comments_of}
use Rattle.ada_tree.specs.Spelling.{starts_with_comments, ends_with_comments, keeps_comments, argument_place, listed_place}
use Rattle.ada_tree.specs.Canonical.{separated, marked, argument_list, comment_lines, for_all}
use Rattle.text_laws.proofs.round_trip.Places.{both}
use Rattle.text_laws.proofs.round_trip.Written.{all_written, node_items}
use Rattle.text_laws.proofs.round_trip.Lists.{notes_at, other_of, starts_at_first}
use Rattle.text_laws.proofs.round_trip.Layouts.{argument_items, list_items, kid_at, nothing, no_kids}
use Rattle.text_laws.proofs.apart.Fronts.{usual, after_mark, front_after, takes}
use Rattle.text_laws.proofs.apart.Items.{IsApart, nothing_apart, append_apart, widen, token_apart, break_apart, comments_apart, fit_apart}
use Rattle.text_laws.proofs.apart.Lines.{is_noted_place, is_apart_list, is_apart_mark}
use Rattle.text_laws.proofs.apart.Parts.{IsNodeApart, IsKidApart, AreMembersApart, AreListedApart, AreArgumentsApart, from_needs, enclosed}

-- parts after one another
pub both_apart : {first second third : Bool} {front back : List Item} → IsApart first second usual usual front → IsApart second third usual usual back → IsApart first third usual usual (front ++ back)
both_apart f b = append_apart {middle = usual} {need = usual} refl f b

-- a node after anything that isn't tight
node_usual : {note : Bool} {place : Choice} {node : Node} → IsNodeApart note place node → is_noted_place note place ≡ true → IsApart note note usual usual (node_items place node)
node_usual {place = place} one n = widen {have = usual} {to = usual} (from_needs place) refl (one.apart n)

-- ---- members

-- comments stand in Ada text
outside : (note starts ends : Bool) → not note || not starts && not ends ≡ true → starts || ends ≡ true → false ≡ note
outside false starts ends h e = refl
outside true true ends h e = absurd cc
outside true false true h e = absurd cc
outside true false false h e = absurd cc

comments_outside : (note : Bool) (place : Choice) (notes : List (List ℕ)) → is_apart_list note place ≡ true → starts_with_comments (comments_of place) true || ends_with_comments (comments_of place) ≡ true → list_all is_comment notes ≡ true → IsApart note note usual usual (comment_lines notes)
comments_outside note place notes l e c =
    subst (λ (note : Bool). IsApart note note usual usual (comment_lines notes)) (outside note (starts_with_comments (comments_of place) true) (ends_with_comments (comments_of place)) (both l).1 e) (comments_apart usual usual notes c refl)

pub no_members_commented : (note : Bool) (place : Choice) (notes : List (List ℕ)) → ends_with_comments (comments_of place) ≡ true → list_all is_comment notes ≡ true → AreMembersApart note place [] notes
no_members_commented note place notes e c = record {
  apart = λ l. nothing_apart refl;
  ends = λ l. comments_outside note place notes l (or_right _ _ e) c;
}

pub no_members : (note : Bool) (place : Choice) → AreMembersApart note place [] []
no_members note place = record { apart = λ l. nothing_apart refl; ends = λ l. nothing_apart refl }

more_members : {note : Bool} {place : Choice} {node : Node} {nodes : List Node} {notes : List (List ℕ)} → (is_apart_list note place ≡ true → IsApart note note usual usual (comment_lines (notes_of node))) → IsNodeApart note place node → AreMembersApart note place nodes notes → AreMembersApart note place (node ∷ nodes) notes
more_members {note = note} {node = node} before one others = record {
  apart = λ l. both_apart (both_apart (subst (λ own. IsApart note note usual usual (comment_lines own)) (sym (notes_at node)) (before l)) (node_usual one (both (both l).0).0))
      (append_apart {middle = after_mark} {need = usual} {front = line_break ∷ []} refl break_apart (others.apart l));
  ends = others.ends;
}

pub member_commented : {note : Bool} {place : Choice} {node : Node} {nodes : List Node} {notes : List (List ℕ)} (first : Bool) → starts_with_comments (comments_of place) first ≡ true → list_all is_comment (notes_of node) ≡ true
    → IsNodeApart note place node → AreMembersApart note place nodes notes → AreMembersApart note place (node ∷ nodes) notes
member_commented {note = note} {place = place} {node = node} first b c one others = more_members (λ l. comments_outside note place (notes_of node) l (or_left _ _ (starts_at_first (comments_of place) first b)) c) one others

pub member_uncommented : {note : Bool} {place : Choice} {node : Node} {nodes : List Node} {notes : List (List ℕ)} → keeps_comments (comments_of place) || is_silent node ≡ true → IsNodeApart note place node → AreMembersApart note place nodes notes → AreMembersApart note place (node ∷ nodes) notes
member_uncommented {note = note} {node = node} c one others =
    more_members (λ l. subst (λ own. IsApart note note usual usual (comment_lines own)) (sym (nothing (notes_of node) (other_of _ _ c (not-true _ (both (both l).0).1)))) (nothing_apart refl)) one others

-- ---- members with a mark between them

pub last_apart : {note : Bool} {place : Choice} {node : Node} (m : Mark) → IsNodeApart note place node → AreListedApart note place m (node ∷ [])
last_apart m one = record {
  apart = λ n t. both_apart (node_usual one n) (nothing_apart refl);
  some = refl;
}

marked_apart : {note : Bool} (place : Choice) (m : Mark) (nodes : List Node) → is_empty nodes ≡ false → is_apart_mark m ≡ true → IsApart note note usual usual (separated place m (all_written nodes)) → IsApart note note usual usual (marked place m (all_written nodes))
marked_apart place m [] s t i = absurd cc
marked_apart place m (node ∷ nodes) s t i = append_apart {middle = front_after (a_mark m)} {need = usual} {front = put (a_mark m) ∷ []} (both {a = takes usual (a_mark m)} t).1 (token_apart (a_mark m) refl (both {a = takes usual (a_mark m)} t).0) i

pub more_apart : {note : Bool} {place : Choice} {m : Mark} {node : Node} {nodes : List Node} → IsNodeApart note place node → AreListedApart note place m nodes → AreListedApart note place m (node ∷ nodes)
more_apart {place = place} {m = m} {nodes = nodes} one others = record {
  apart = λ n t. both_apart (node_usual one n) (marked_apart place m nodes others.some t (others.apart n t));
  some = refl;
}

-- ---- arguments of proof steps

pub no_arguments : (note : Bool) → AreArgumentsApart note [] []
no_arguments note = record { apart = nothing_apart refl }

-- their places may stand in annotations and in Ada text
abbrev is_noted_anywhere : Choice → Bool
is_noted_anywhere place = is_noted_place true place && is_noted_place false place

noted_anywhere : (note : Bool) (place : Choice) → is_noted_anywhere place ≡ true → is_noted_place note place ≡ true
noted_anywhere true place h = (both h).0
noted_anywhere false place h = (both h).1

argument_noted : (a : Argument) (place : Choice) → argument_place a ≡ Some place → is_noted_anywhere place ≡ true
argument_noted argument.Number place h = let e : (choice.Only kind.Int) ≡ place = cc in subst (λ p. is_noted_anywhere p ≡ true) e refl
argument_noted argument.Name place h = let e : choice.Only kind.Name ≡ place = cc in subst (λ p. is_noted_anywhere p ≡ true) e refl
argument_noted argument.LemmaName place h = let e : choice.LemmaName ≡ place = cc in subst (λ p. is_noted_anywhere p ≡ true) e refl
argument_noted argument.Term place h = let e : choice.Expr ≡ place = cc in subst (λ p. is_noted_anywhere p ≡ true) e refl
argument_noted _ place h = absurd cc

list_noted : (a : Argument) (place : Choice) → listed_place a ≡ Some place → is_noted_anywhere place ≡ true
list_noted argument.Names place h = let e : choice.Only kind.Name ≡ place = cc in subst (λ p. is_noted_anywhere p ≡ true) e refl
list_noted argument.Terms place h = let e : choice.Expr ≡ place = cc in subst (λ p. is_noted_anywhere p ≡ true) e refl
list_noted argument.Coefficients place h = let e : choice.Coefficient ≡ place = cc in subst (λ p. is_noted_anywhere p ≡ true) e refl
list_noted _ place h = absurd cc

pub one_argument : {note : Bool} {a : Argument} {others : List Argument} {place : Choice} {node : Node} {nodes : List Node} → argument_place a ≡ Some place → IsNodeApart note place node → AreArgumentsApart note others nodes → AreArgumentsApart note (a ∷ others) (node ∷ nodes)
one_argument {note = note} {a = a} {others = others} {place = place} {node = node} {nodes = nodes} p one more = record {
  apart = rw (argument_items a others place node nodes p) (both_apart (node_usual one (noted_anywhere note place (argument_noted a place p))) more.apart);
}

pub number_after_in : {note : Bool} {node : Node} → IsNodeApart note (choice.Only kind.Int) node → AreArgumentsApart note (argument.InNumber ∷ []) (node ∷ [])
number_after_in {note = note} one = record {
  apart = append_apart {middle = usual} {need = usual} {front = put (a_word word.In) ∷ []} refl (token_apart (a_word word.In) refl refl) (both_apart (node_usual one (noted_anywhere note (choice.Only kind.Int) refl)) (nothing_apart refl));
}

pub no_number_after_in : (note : Bool) → AreArgumentsApart note (argument.InNumber ∷ []) []
no_number_after_in note = record { apart = nothing_apart refl }

argument_list_apart : {note : Bool} (place : Choice) (nodes : List Node) → IsApart note note usual usual (separated place mark.Comma (all_written nodes)) → IsApart note note usual usual (argument_list place (all_written nodes))
argument_list_apart place [] i = nothing_apart refl
argument_list_apart place (node ∷ nodes) i = enclosed refl i

pub list_argument : {note : Bool} {a : Argument} {place : Choice} {nodes : List Node} → listed_place a ≡ Some place → AreListedApart note place mark.Comma nodes → AreArgumentsApart note (a ∷ []) nodes
list_argument {note = note} {a = a} {place = place} {nodes = nodes} p all = record {
  apart = rw (list_items a place (all_written nodes) p) (argument_list_apart place nodes (all.apart (noted_anywhere note place (list_noted a place p)) refl));
}

pub no_list_argument : {a : Argument} {place : Choice} (note : Bool) → listed_place a ≡ Some place → AreArgumentsApart note (a ∷ []) []
no_list_argument {a = a} {place = place} note p = record { apart = rw (list_items a place [] p) (nothing_apart refl) }

-- ---- kids

pub one_kid : {note : Bool} {place : Choice} {node : Node} → IsNodeApart note place node → IsKidApart note (One place) node
one_kid one = record { apart = one.apart }

pub any_kid : {note : Bool} {place : Choice} {node : Node} → AreMembersApart note place (kids_of node) (notes_of node) → IsKidApart note (Any place) node
any_kid {place = place} {node = node} all = record { apart = λ l. rw (kid_at (Any place) node) (both_apart (all.apart l) (all.ends l)) }

pub many_kid : {note : Bool} {place : Choice} {node : Node} → AreMembersApart note place (kids_of node) (notes_of node) → IsKidApart note (Many place) node
many_kid {place = place} {node = node} all = record { apart = λ l. rw (kid_at (Many place) node) (both_apart (all.apart l) (all.ends l)) }

pub listed_kid : {note : Bool} {place : Choice} {m : Mark} {node : Node} → AreListedApart note place m (kids_of node) → IsKidApart note (Listed place m) node
listed_kid {place = place} {m = m} {node = node} all = record { apart = λ s. rw (kid_at (Listed place m) node) (all.apart (both s).0 (both s).1) }

pub some_listed_kid : {note : Bool} {place : Choice} {m : Mark} {node : Node} → AreListedApart note place m (kids_of node) → IsKidApart note (MaybeListed place m) node
some_listed_kid {place = place} {m = m} {node = node} all = record { apart = λ s. rw (kid_at (MaybeListed place m) node) (all.apart (both s).0 (both s).1) }

pub none_listed_kid : {node : Node} (note : Bool) (place : Choice) (m : Mark) → is_empty_list node ≡ true → IsKidApart note (MaybeListed place m) node
none_listed_kid {node = node} note place m e = record {
  apart = λ s. rw (kid_at (MaybeListed place m) node) (subst (λ nodes. IsApart note note usual usual (separated place m (all_written nodes))) (sym (no_kids node e)) (nothing_apart refl));
}

for_all_apart : {note : Bool} (nodes : List Node) → IsApart note note usual usual (separated (choice.Only kind.Vars) mark.Semicolon (all_written nodes)) → IsApart note note usual usual (for_all (all_written nodes))
for_all_apart [] i = nothing_apart refl
for_all_apart (node ∷ nodes) i = append_apart {middle = usual} {need = usual} {front = put (a_word word.For) ∷ put (a_word word.All) ∷ []} refl (fit_apart usual (put (a_word word.For) ∷ put (a_word word.All) ∷ []) refl) i

pub some_variables_kid : {note : Bool} {node : Node} → AreListedApart note (choice.Only kind.Vars) mark.Semicolon (kids_of node) → IsKidApart note ForAll node
some_variables_kid {note = note} {node = node} all = record { apart = λ s. rw (kid_at ForAll node) (for_all_apart (kids_of node) (all.apart (noted_anywhere note (choice.Only kind.Vars) refl) refl)) }

pub no_variables_kid : {node : Node} (note : Bool) → is_empty_list node ≡ true → IsKidApart note ForAll node
no_variables_kid {node = node} note e = record {
  apart = λ s. rw (kid_at ForAll node) (subst (λ nodes. IsApart note note usual usual (for_all (all_written nodes))) (sym (no_kids node e)) (nothing_apart refl));
}
