-- Members, members with a mark between them, arguments of proof steps, and kids.
use Rattle.std.proofs.Common.{◌≡◌, ℕ, List, [], ◌∷◌, ◌++◌, refl, ◌∙◌, ap, subst, Bool, true, false, not, ◌&&◌, ◌||◌, Some, append_assoc}
use Rattle.std.specs.List.{list_all}
use Rattle.std.proofs.lemmas.Bool.{or_left, or_right}
use Rattle.ada_tree.specs.declared.kind.Kind.TheVariants as kind
use Rattle.ada_tree.specs.declared.word.Word.TheVariants as word
use Rattle.ada_tree.specs.declared.word.Mark.{Mark}
use Rattle.ada_tree.specs.declared.word.Mark.TheVariants as mark
use Rattle.ada_tree.specs.declared.grammar.Choice.{Choice}
use Rattle.ada_tree.specs.declared.grammar.Choice.TheVariants as choice
use Rattle.ada_tree.specs.declared.grammar.Comments.{Comments}
use Rattle.ada_tree.specs.declared.grammar.Comments.TheVariants.{Each, First, Kept, Nowhere}
use Rattle.ada_tree.specs.declared.grammar.Argument.{Argument}
use Rattle.ada_tree.specs.declared.grammar.Argument.TheVariants as argument
use Rattle.ada_tree.specs.declared.node.Node.{Node}
use Rattle.ada_tree.specs.Nodes.{notes_of, is_empty, is_silent}
use Rattle.ada_tree.specs.Texts.{is_comment}
use Rattle.ada_tree.specs.Tokens.{a_word, a_mark, spelled, comments}
use Rattle.ada_tree.specs.Items.{Item, put, line_break}
use Rattle.ada_tree.specs.Choices.{comments_of}
use Rattle.ada_tree.specs.Reading.{passed}
use Rattle.ada_tree.specs.Spelling
use Rattle.ada_tree.specs.Spelling.{SpellsNode, SpellsKid, SpellsMembers, SpellsListed, SpellsArguments, starts_with_comments, ends_with_comments, keeps_comments, argument_place, listed_place, end_with_comments, end_without, member_with_comments, member_without}
use Rattle.ada_tree.specs.Canonical.{Written, members, separated, marked, arguments, argument_list, comment_lines, in_parentheses as put_in_parentheses}
use Rattle.text_laws.proofs.round_trip.Places.{both, is_open, is_sure, is_proper}
use Rattle.text_laws.proofs.round_trip.Lines.{is_open_list, IsSoundList, sound_list}
use Rattle.text_laws.proofs.round_trip.Items.{begin_plainly, take_comments}
use Rattle.text_laws.proofs.round_trip.Nodes.{parentheses_append}
use Rattle.text_laws.proofs.round_trip.Written.{as_written, all_written, opened, node_items, member_items, IsNodeWritten, AreMembersWritten, AreListedWritten, AreArgumentsWritten}
use Rattle.text_laws.proofs.round_trip.Layouts.{argument_items, list_items, nothing}

pub notes_at : (node : Node) → (as_written node).notes ≡ notes_of node
notes_at node = ap (λ (w : Written). w.notes) (opened node)

pub other_of : (a b : Bool) → a || b ≡ true → a ≡ false → b ≡ true
other_of true b h e = absurd cc
other_of false b h e = h

-- ---- members

regroup : (a b m n r : List Item) (x : Item) → (((a ++ b) ++ (x ∷ m)) ++ n) ++ r ≡ a ++ (b ++ (x ∷ ((m ++ n) ++ r)))
regroup a b m n r x = simp append_assoc

-- the items of a first member, and then those of the others
first_member : (place : Choice) (node : Node) (nodes : List Node) (notes : List (List ℕ)) (rest : List Item)
    → member_items place (node ∷ nodes) notes ++ rest ≡ comment_lines (notes_of node) ++ (node_items place node ++ (line_break ∷ (member_items place nodes notes ++ rest)))
first_member place node nodes notes rest =
    ap (λ own. (((comment_lines own ++ node_items place node) ++ (line_break ∷ members place (all_written nodes))) ++ comment_lines notes) ++ rest) (notes_at node)
    ∙ regroup (comment_lines (notes_of node)) (node_items place node) (members place (all_written nodes)) (comment_lines notes) rest line_break

silent_member : (place : Choice) (node : Node) (nodes : List Node) (notes : List (List ℕ)) (rest : List Item) → is_silent node ≡ true
    → member_items place (node ∷ nodes) notes ++ rest ≡ node_items place node ++ (line_break ∷ (member_items place nodes notes ++ rest))
silent_member place node nodes notes rest h =
    first_member place node nodes notes rest ∙ ap (λ own. comment_lines own ++ (node_items place node ++ (line_break ∷ (member_items place nodes notes ++ rest)))) (nothing (notes_of node) h)

pub starts_at_first : (c : Comments) (first : Bool) → starts_with_comments c first ≡ true → starts_with_comments c true ≡ true
starts_at_first Each first h = refl
starts_at_first First first h = refl
starts_at_first Kept first h = h
starts_at_first Nowhere first h = h

starts_later : (c : Comments) (first : Bool) → starts_with_comments c first ≡ false → starts_with_comments c false ≡ false
starts_later Each first h = h
starts_later First first h = refl
starts_later Kept first h = refl
starts_later Nowhere first h = refl

-- where a member ends with comments, none follow
others_plain : {note : Bool} {place : Choice} {nodes : List Node} {notes : List (List ℕ)} → AreMembersWritten note place false nodes notes → (items : List Item) → IsSoundList place → (is_open_list place ≡ true → begin_plainly items ≡ true)
    → is_open place ≡ true → begin_plainly (member_items place nodes notes ++ items) ≡ true
others_plain {place = place} others items s f o = others.plain items (s.open_plain o) (s.open_starts o) (s.open_ends o) s.unkept (f (or_left (is_open place) _ o))

pub no_members_commented : (note : Bool) (place : Choice) (first : Bool) (notes : List (List ℕ)) → ends_with_comments (comments_of place) ≡ true → list_all is_comment notes ≡ true → AreMembersWritten note place first [] notes
no_members_commented note place first notes e c = record {
  events = λ rest. comments notes ∷ rest;
  spelling = λ rest. end_with_comments e c;
  attached = λ rest items s f a. take_comments note items notes (f (or_right (is_open place) _ e)) a;
  plain = λ items p b n k h. absurd cc;
  silent = λ n. absurd cc;
}

pub no_members : (note : Bool) (place : Choice) (first : Bool) → ends_with_comments (comments_of place) ≡ false → AreMembersWritten note place first [] []
no_members note place first e = record {
  events = λ rest. rest;
  spelling = λ rest. end_without e;
  attached = λ rest items s f a. a;
  plain = λ items p b n k h. h;
  silent = λ n. refl;
}

pub member_commented : {note : Bool} {place : Choice} {first : Bool} {node : Node} {nodes : List Node} {notes : List (List ℕ)} → starts_with_comments (comments_of place) first ≡ true → list_all is_comment (notes_of node) ≡ true
    → IsNodeWritten note place node → AreMembersWritten note place false nodes notes → AreMembersWritten note place first (node ∷ nodes) notes
member_commented {note = note} {place = place} {first = first} {node = node} {nodes = nodes} {notes = notes} b c one others = record {
  events = λ rest. comments (notes_of node) ∷ one.events (others.events rest);
  spelling = λ rest. member_with_comments b c (one.spelling (others.events rest)) (others.spelling rest);
  attached = λ rest items s f a.
      let facts = sound_list place s in
      let starts = starts_at_first (comments_of place) first b in
      rw (first_member place node nodes notes items)
      (take_comments note _ (notes_of node) (one.plain _ (facts.starts_plain starts) (or_left (is_sure place) _ (facts.starts_sure starts)))
      (one.attached (others.events rest) _ facts.proper (others_plain others items facts f) (others.attached rest items s f a)));
  plain = λ items p n e k h. absurd cc;
  silent = others.silent;
}

pub member_uncommented : {note : Bool} {place : Choice} {first : Bool} {node : Node} {nodes : List Node} {notes : List (List ℕ)} → starts_with_comments (comments_of place) first ≡ false → keeps_comments (comments_of place) || is_silent node ≡ true
    → IsNodeWritten note place node → AreMembersWritten note place false nodes notes → AreMembersWritten note place first (node ∷ nodes) notes
member_uncommented {note = note} {place = place} {first = first} {node = node} {nodes = nodes} {notes = notes} b c one others = record {
  events = λ rest. one.events (others.events rest);
  spelling = λ rest. member_without b c (one.spelling (others.events rest)) (others.spelling rest);
  attached = λ rest items s f a.
      let facts = sound_list place s in
      rw (silent_member place node nodes notes items (other_of _ _ c facts.unkept))
      (one.attached (others.events rest) _ facts.proper (others_plain others items facts f) (others.attached rest items s f a));
  plain = λ items p n e k h.
      rw (silent_member place node nodes notes items (other_of _ _ c k))
      (one.plain _ p (or_right (is_sure place) _ (others.plain items p (starts_later (comments_of place) first n) e k h)));
  silent = others.silent;
}

-- ---- members with a mark between them

never : (a b : Bool) → not a ≡ true → a ≡ true → b ≡ true
never true b h o = absurd cc
never false b h o = absurd cc

pub last_listed : {note : Bool} {place : Choice} {node : Node} (m : Mark) → is_silent node ≡ true → IsNodeWritten note place node → AreListedWritten note place m (node ∷ [])
last_listed {note = note} {place = place} {node = node} m s one = record {
  events = one.events;
  spelling = λ rest. Spelling.last s (one.spelling rest);
  attached = λ rest items t a. rw (append_assoc (node_items place node) [] items) (one.attached rest items (both t).0 (never (is_open place) _ (both t).1) a);
  plain = λ items p h. rw (append_assoc (node_items place node) [] items) (one.plain items p (or_right (is_sure place) _ h));
  some = refl;
}

marked_more : (place : Choice) (m : Mark) (nodes : List Node) → is_empty nodes ≡ false → marked place m (all_written nodes) ≡ put (a_mark m) ∷ separated place m (all_written nodes)
marked_more place m [] h = absurd cc
marked_more place m (node ∷ nodes) h = refl

first_listed : (place : Choice) (m : Mark) (node : Node) (nodes : List Node) (rest : List Item) → is_empty nodes ≡ false
    → separated place m (all_written (node ∷ nodes)) ++ rest ≡ node_items place node ++ (put (a_mark m) ∷ (separated place m (all_written nodes) ++ rest))
first_listed place m node nodes rest h =
    ap (λ more. (node_items place node ++ more) ++ rest) (marked_more place m nodes h) ∙ append_assoc (node_items place node) (put (a_mark m) ∷ separated place m (all_written nodes)) rest

pub more_listed : {note : Bool} {place : Choice} {m : Mark} {node : Node} {nodes : List Node} → is_silent node ≡ true → IsNodeWritten note place node → AreListedWritten note place m nodes → AreListedWritten note place m (node ∷ nodes)
more_listed {note = note} {place = place} {m = m} {node = node} {nodes = nodes} s one others = record {
  events = λ rest. one.events (spelled note (a_mark m) ∷ others.events rest);
  spelling = λ rest. Spelling.and_more s (one.spelling (spelled note (a_mark m) ∷ others.events rest)) (others.spelling rest);
  attached = λ rest items t a. rw (first_listed place m node nodes items others.some)
      (one.attached (spelled note (a_mark m) ∷ others.events rest) _ (both t).0 (λ o. refl) (passed (others.attached rest items t a)));
  plain = λ items p h. rw (first_listed place m node nodes items others.some) (one.plain _ p (or_right (is_sure place) _ refl));
  some = refl;
}

-- ---- arguments of proof steps

pub no_arguments : (note : Bool) → AreArgumentsWritten note [] []
no_arguments note = record { events = λ rest. rest; spelling = λ rest. Spelling.no_more; attached = λ rest items a. a }

argument_sound : (a : Argument) (place : Choice) → argument_place a ≡ Some place → is_proper place && not (is_open place) ≡ true
argument_sound argument.Number place h = let e : (choice.Only kind.Int) ≡ place = cc in subst (λ p. is_proper p && not (is_open p) ≡ true) e refl
argument_sound argument.Name place h = let e : choice.Only kind.Name ≡ place = cc in subst (λ p. is_proper p && not (is_open p) ≡ true) e refl
argument_sound argument.LemmaName place h = let e : choice.LemmaName ≡ place = cc in subst (λ p. is_proper p && not (is_open p) ≡ true) e refl
argument_sound argument.Term place h = let e : choice.Expr ≡ place = cc in subst (λ p. is_proper p && not (is_open p) ≡ true) e refl
argument_sound _ place h = absurd cc

pub one_argument : {note : Bool} {a : Argument} {others : List Argument} {place : Choice} {node : Node} {nodes : List Node} → argument_place a ≡ Some place → is_silent node ≡ true
    → IsNodeWritten note place node → AreArgumentsWritten note others nodes → AreArgumentsWritten note (a ∷ others) (node ∷ nodes)
one_argument {note = note} {a = a} {others = others} {place = place} {node = node} {nodes = nodes} h s one more = record {
  events = λ rest. one.events (more.events rest);
  spelling = λ rest. Spelling.an_argument h s (one.spelling (more.events rest)) (more.spelling rest);
  attached = λ rest items at.
      let sound = both (argument_sound a place h) in
      rw (ap (λ own. own ++ items) (argument_items a others place node nodes h) ∙ append_assoc (node_items place node) (arguments others (all_written nodes)) items)
      (one.attached (more.events rest) _ sound.0 (never (is_open place) _ sound.1) (more.attached rest items at));
}

pub number_after_in : {note : Bool} {node : Node} → is_silent node ≡ true → IsNodeWritten note (choice.Only kind.Int) node → AreArgumentsWritten note (argument.InNumber ∷ []) (node ∷ [])
number_after_in {note = note} {node = node} s one = record {
  events = λ rest. spelled note (a_word word.In) ∷ one.events rest;
  spelling = λ rest. Spelling.in_number s (one.spelling rest);
  attached = λ rest items a. passed (rw (append_assoc (node_items (choice.Only kind.Int) node) [] items) (one.attached rest items refl (λ o. absurd cc) a));
}

pub no_number_after_in : (note : Bool) → AreArgumentsWritten note (argument.InNumber ∷ []) []
no_number_after_in note = record { events = λ rest. rest; spelling = λ rest. Spelling.no_in_number; attached = λ rest items a. a }

list_sound : (a : Argument) (place : Choice) → listed_place a ≡ Some place → is_proper place && not (is_open place) ≡ true
list_sound argument.Names place h = let e : choice.Only kind.Name ≡ place = cc in subst (λ p. is_proper p && not (is_open p) ≡ true) e refl
list_sound argument.Terms place h = let e : choice.Expr ≡ place = cc in subst (λ p. is_proper p && not (is_open p) ≡ true) e refl
list_sound argument.Coefficients place h = let e : choice.Coefficient ≡ place = cc in subst (λ p. is_proper p && not (is_open p) ≡ true) e refl
list_sound _ place h = absurd cc

argument_list_items : (place : Choice) (nodes : List Node) → is_empty nodes ≡ false → argument_list place (all_written nodes) ≡ put_in_parentheses (separated place mark.Comma (all_written nodes))
argument_list_items place [] h = absurd cc
argument_list_items place (node ∷ nodes) h = refl

pub list_argument : {note : Bool} {a : Argument} {place : Choice} {nodes : List Node} → listed_place a ≡ Some place → AreListedWritten note place mark.Comma nodes → AreArgumentsWritten note (a ∷ []) nodes
list_argument {note = note} {a = a} {place = place} {nodes = nodes} h all = record {
  events = λ rest. spelled note (a_mark mark.Open) ∷ all.events (spelled note (a_mark mark.Close) ∷ rest);
  spelling = λ rest. Spelling.a_list h (all.spelling (spelled note (a_mark mark.Close) ∷ rest));
  attached = λ rest items at.
      rw (ap (λ own. own ++ items) (list_items a place (all_written nodes) h ∙ argument_list_items place nodes all.some) ∙ parentheses_append (separated place mark.Comma (all_written nodes)) items)
      (passed (all.attached (spelled note (a_mark mark.Close) ∷ rest) _ (list_sound a place h) (passed at)));
}

pub no_list_argument : (note : Bool) (a : Argument) (place : Choice) → listed_place a ≡ Some place → AreArgumentsWritten note (a ∷ []) []
no_list_argument note a place h = record {
  events = λ rest. rest;
  spelling = λ rest. Spelling.no_list h;
  attached = λ rest items at. rw (ap (λ own. own ++ items) (list_items a place [] h)) at;
}
