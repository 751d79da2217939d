-- How many parentheses are open in members, members with a mark between them, arguments of proof steps, and kids.
use Rattle.std.proofs.Common.{◌≡◌, ℕ, suc, ◌-◌, ◌≤◌, List, [], ◌∷◌, ◌++◌, refl, sym, subst, true, false, Some, arith}
use Rattle.std.proofs.lemmas.Bool.{and_from}
use Rattle.ada_tree.specs.declared.kind.Kind.TheVariants as kind
use Rattle.ada_tree.specs.declared.word.Word.TheVariants as word
use Rattle.ada_tree.specs.declared.word.Mark.{Mark}
use Rattle.ada_tree.specs.declared.word.Mark.TheVariants as mark
use Rattle.ada_tree.specs.declared.grammar.Choice.{Choice}
use Rattle.ada_tree.specs.declared.grammar.Choice.TheVariants as choice
use Rattle.ada_tree.specs.declared.grammar.Argument.{Argument}
use Rattle.ada_tree.specs.declared.grammar.Argument.TheVariants as argument
use Rattle.ada_tree.specs.declared.grammar.Shape.TheVariants.{One, Any, Many, Listed, MaybeListed, ForAll}
use Rattle.ada_tree.specs.declared.node.Node.{Node}
use Rattle.ada_tree.specs.Nodes.{notes_of, kids_of, is_empty, is_empty_list}
use Rattle.ada_tree.specs.Tokens.{a_word, a_mark}
use Rattle.ada_tree.specs.Items.{Item, put, line_break}
use Rattle.ada_tree.specs.Spelling.{argument_place, listed_place}
use Rattle.ada_tree.specs.Canonical.{separated, marked, argument_list, comment_lines, for_all}
use Rattle.text_laws.proofs.round_trip.Places.{both}
use Rattle.text_laws.proofs.round_trip.Written.{as_written, all_written}
use Rattle.text_laws.proofs.round_trip.Layouts.{argument_items, list_items, kid_at, no_kids}
use Rattle.text_laws.proofs.round_trip.OpenedItems.{IsWithin, nothing_opened, append_opened, enclose, are_flat, flat_append, flat_opened}
use Rattle.text_laws.proofs.round_trip.OpenedLines.{is_flat_mark, tight_arguments}
use Rattle.text_laws.proofs.round_trip.OpenedParts.{kids_below, IsNodeOpened, IsKidOpened, AreMembersOpened, AreListedOpened, AreArgumentsOpened}

-- parts after one another, within the same bound
pub both_opened : {front back : List Item} {bound : ℕ} → IsWithin false front bound → IsWithin false back bound → IsWithin false (front ++ back) bound
both_opened f b = append_opened f b (omega arith)

-- ---- members

pub comments_flat : (notes : List (List ℕ)) → are_flat (comment_lines notes) ≡ true
comments_flat [] = refl
comments_flat (text ∷ notes) = comments_flat notes

pub no_members_opened : {place : Choice} → AreMembersOpened place []
no_members_opened = record { loose = λ bound l h. nothing_opened }

pub more_members_opened : {place : Choice} {node : Node} {nodes : List Node} → IsNodeOpened place node → AreMembersOpened place nodes → AreMembersOpened place (node ∷ nodes)
more_members_opened {node = node} one others = record {
  loose = λ bound l h. both_opened (flat_append (comment_lines (as_written node).notes) (comments_flat (as_written node).notes) (one.loose bound l (omega arith))) (flat_append (line_break ∷ []) refl (others.loose bound l (omega arith)));
}

-- ---- members with a mark between them

pub last_opened : {place : Choice} {node : Node} (m : Mark) → IsNodeOpened place node → AreListedOpened place m (node ∷ [])
last_opened m one = record {
  loose = λ bound f l h. both_opened (one.loose bound l (omega arith)) nothing_opened;
  tight = λ bound f t h. both_opened (one.tight bound t (omega arith)) nothing_opened;
  counted = λ t. let more = one.counted t in omega arith;
  some = refl;
}

marked_opened : (place : Choice) (m : Mark) (nodes : List Node) {bound : ℕ} → is_empty nodes ≡ false → is_flat_mark m ≡ true → IsWithin false (separated place m (all_written nodes)) bound → IsWithin false (marked place m (all_written nodes)) bound
marked_opened place m [] n f i = absurd cc
marked_opened place m (node ∷ nodes) n f i = flat_append (put (a_mark m) ∷ []) (and_from _ _ f refl) i

pub more_opened : {place : Choice} {m : Mark} {node : Node} {nodes : List Node} → IsNodeOpened place node → AreListedOpened place m nodes → AreListedOpened place m (node ∷ nodes)
more_opened {place = place} {m = m} {nodes = nodes} one others = record {
  loose = λ bound f l h. both_opened (one.loose bound l (omega arith)) (marked_opened place m nodes others.some f (others.loose bound f l (omega arith)));
  tight = λ bound f t h. both_opened (one.tight bound t (omega arith)) (marked_opened place m nodes others.some f (others.tight bound f t (omega arith)));
  counted = λ t. let more = one.counted t in omega arith;
  some = refl;
}

-- ---- arguments of proof steps

pub no_arguments_opened : AreArgumentsOpened [] []
no_arguments_opened = record { loose = λ bound l h. nothing_opened }

pub one_argument_opened : {a : Argument} {others : List Argument} {place : Choice} {node : Node} {nodes : List Node} → argument_place a ≡ Some place → IsNodeOpened place node → AreArgumentsOpened others nodes → AreArgumentsOpened (a ∷ others) (node ∷ nodes)
one_argument_opened {a = a} {others = others} {place = place} {node = node} {nodes = nodes} p one more = record {
  loose = λ bound l h. rw (argument_items a others place node nodes p) (both_opened (one.loose bound l (omega arith)) (more.loose bound l (omega arith)));
}

pub number_opened : {node : Node} → IsNodeOpened (choice.Only kind.Int) node → AreArgumentsOpened (argument.InNumber ∷ []) (node ∷ [])
number_opened one = record {
  loose = λ bound l h. flat_append (put (a_word word.In) ∷ []) refl (both_opened (one.loose bound l (omega arith)) nothing_opened);
}

pub no_number_opened : AreArgumentsOpened (argument.InNumber ∷ []) []
no_number_opened = record { loose = λ bound l h. nothing_opened }

argument_list_opened : (place : Choice) (nodes : List Node) {less bound : ℕ} → suc less ≤ bound → IsWithin false (separated place mark.Comma (all_written nodes)) less → IsWithin false (argument_list place (all_written nodes)) bound
argument_list_opened place [] l i = nothing_opened
argument_list_opened place (node ∷ nodes) l i = enclose l i nothing_opened

pub list_opened : {a : Argument} {place : Choice} {nodes : List Node} → listed_place a ≡ Some place → AreListedOpened place mark.Comma nodes → AreArgumentsOpened (a ∷ []) nodes
list_opened {a = a} {place = place} {nodes = nodes} p all = record {
  loose = λ bound l h. rw (list_items a place (all_written nodes) p) (argument_list_opened place nodes {less = bound - 1} (omega arith) (all.tight (bound - 1) refl (tight_arguments a place p) (omega arith)));
}

pub no_list_opened : {a : Argument} {place : Choice} → listed_place a ≡ Some place → AreArgumentsOpened (a ∷ []) []
no_list_opened {a = a} {place = place} p = record { loose = λ bound l h. rw (list_items a place [] p) nothing_opened }

-- ---- kids

pub one_opened : {place : Choice} {node : Node} → IsNodeOpened place node → IsKidOpened (One place) node
one_opened one = record { loose = λ bound f l h. one.loose bound l h; tight = one.tight; counted = one.counted }

pub any_opened : {place : Choice} {node : Node} → AreMembersOpened place (kids_of node) → IsKidOpened (Any place) node
any_opened {place = place} {node = node} all = record {
  loose = λ bound f l h. let below = kids_below node in rw (kid_at (Any place) node) (both_opened (all.loose bound l (omega arith)) (flat_opened (comment_lines (notes_of node)) (comments_flat (notes_of node))));
  tight = λ bound t h. absurd cc;
  counted = λ t. absurd cc;
}

pub many_opened : {place : Choice} {node : Node} → AreMembersOpened place (kids_of node) → IsKidOpened (Many place) node
many_opened {place = place} {node = node} all = record {
  loose = λ bound f l h. let below = kids_below node in rw (kid_at (Many place) node) (both_opened (all.loose bound l (omega arith)) (flat_opened (comment_lines (notes_of node)) (comments_flat (notes_of node))));
  tight = λ bound t h. absurd cc;
  counted = λ t. absurd cc;
}

pub listed_opened : {place : Choice} {m : Mark} {node : Node} → AreListedOpened place m (kids_of node) → IsKidOpened (Listed place m) node
listed_opened {place = place} {m = m} {node = node} all = record {
  loose = λ bound f l h. let below = kids_below node in rw (kid_at (Listed place m) node) (all.loose bound f l (omega arith));
  tight = λ bound t h. let below = kids_below node in rw (kid_at (Listed place m) node) (all.tight bound (both t).1 (both t).0 (omega arith));
  counted = λ t. let more = all.counted t in let below = kids_below node in omega arith;
}

pub maybe_listed_opened : {place : Choice} {m : Mark} {node : Node} → AreListedOpened place m (kids_of node) → IsKidOpened (MaybeListed place m) node
maybe_listed_opened {place = place} {m = m} {node = node} all = record {
  loose = λ bound f l h. let below = kids_below node in rw (kid_at (MaybeListed place m) node) (all.loose bound f l (omega arith));
  tight = λ bound t h. absurd cc;
  counted = λ t. absurd cc;
}

pub none_opened : {node : Node} (place : Choice) (m : Mark) → is_empty_list node ≡ true → IsKidOpened (MaybeListed place m) node
none_opened {node = node} place m e = record {
  loose = λ bound f l h. rw (kid_at (MaybeListed place m) node) (subst (λ nodes. IsWithin false (separated place m (all_written nodes)) bound) (sym (no_kids node e)) nothing_opened);
  tight = λ bound t h. absurd cc;
  counted = λ t. absurd cc;
}

for_all_opened : (nodes : List Node) {bound : ℕ} → IsWithin false (separated (choice.Only kind.Vars) mark.Semicolon (all_written nodes)) bound → IsWithin false (for_all (all_written nodes)) bound
for_all_opened [] i = nothing_opened
for_all_opened (node ∷ nodes) i = flat_append (put (a_word word.For) ∷ put (a_word word.All) ∷ []) refl i

pub variables_opened : {node : Node} → AreListedOpened (choice.Only kind.Vars) mark.Semicolon (kids_of node) → IsKidOpened ForAll node
variables_opened {node = node} all = record {
  loose = λ bound f l h. let below = kids_below node in rw (kid_at ForAll node) (for_all_opened (kids_of node) (all.loose bound refl l (omega arith)));
  tight = λ bound t h. absurd cc;
  counted = λ t. absurd cc;
}

pub no_variables_opened : {node : Node} → is_empty_list node ≡ true → IsKidOpened ForAll node
no_variables_opened {node = node} e = record {
  loose = λ bound f l h. rw (kid_at ForAll node) (subst (λ nodes. IsWithin false (for_all (all_written nodes)) bound) (sym (no_kids node e)) nothing_opened);
  tight = λ bound t h. absurd cc;
  counted = λ t. absurd cc;
}
