-- Lists that are under construction.
use Rattle.std.proofs.Common.{◌≡◌, ℕ, List, [], ◌∷◌, ◌++◌, refl, sym, ◌∙◌, ap, subst, Bool, true, false, not, ◌&&◌, Some, append_assoc, append-nil}
use Rattle.std.proofs.lemmas.Bool.{cond-true, cond-false, or_right}
use denote.Enum.Bare.{sameb}
use Rattle.ada_tree.specs.contracts.word.Mark as mark_row
use Rattle.ada_tree.specs.declared.grammar.Choice.{Choice}
use Rattle.ada_tree.specs.declared.kind.Kind.{Kind}
use Rattle.ada_tree.specs.declared.node.Node.{Node, Node-F, out-roll-Node, roll-out-Node}
use Rattle.ada_tree.specs.declared.word.Mark.{Mark}
use Rattle.ada_tree.specs.Choices.{comments_of}
use Rattle.ada_tree.specs.Nodes.{notes_of, is_empty, node_of}
use Rattle.ada_tree.specs.Spelling.{SpellsNode, SpellsMembers, SpellsListed, end_with_comments, end_without, member_with_comments, member_without, last, and_more, starts_with_comments, ends_with_comments, keeps_comments}
use Rattle.ada_tree.specs.Tokens.{Event, spelled, a_mark}
use Rattle.reading_table.specs.declared.held.Held.{Held}
use Rattle.reading_table.specs.declared.held.Held.TheVariants as held
use Rattle.reading_table.specs.States.{joined as joined_values, end_noted}
use Rattle.reading_table.specs.Reading.{is_side}
use Rattle.text_laws.proofs.round_trip.Places.{both}
use Rattle.ada_tree.proofs.evaluator.Ways.{same_lexeme, same_lexeme_is}
use Rattle.reading_sound.proofs.Equal.{if_so_some, one_side, one_place, one_mark, among}
use Rattle.reading_sound.proofs.Meaning.{StandsAt, IsMember, alone, commented, AreMore, no_others, others as others_are, all_joined, end_joined, writes, joins, goes_on, goes_on_listed, ends, Path, next}
use Rattle.reading_sound.proofs.Traces.{Trace, written, joined, rest, tail, ended, stands_in, same_place, is_member}
use Rattle.reading_sound.proofs.Walks.{past_members, past_listed, past_first, is_plain_member, begins_joined}

-- a list, or a file, with these kids
abbrev pub holding : Kind → List Node → List (List ℕ) → Node
holding k kids notes = node_of k [] notes kids

abbrev layer_of : Kind → List Node → List (List ℕ) → Node-F Node
layer_of k kids notes = record { kind = k; text = []; notes = notes; kids = kids }

pub joined_holding : (k : Kind) (kids : List Node) (notes : List (List ℕ)) (node : Node) (v : List Held) → joined_values (held.Tree node ∷ held.Tree (holding k kids notes) ∷ v) ≡ held.Tree (holding k (kids ++ node ∷ []) notes) ∷ v
joined_holding k kids notes node v = ap (λ (l : Node-F Node). held.Tree (node_of l.kind l.text l.notes (l.kids ++ node ∷ [])) ∷ v) (out-roll-Node (layer_of k kids notes))

pub all_joined_holding : (k : Kind) (nodes kids : List Node) (notes : List (List ℕ)) (v : List Held) → all_joined nodes (held.Tree (holding k kids notes) ∷ v) ≡ held.Tree (holding k (kids ++ nodes) notes) ∷ v
all_joined_holding k [] kids notes v = ap (λ ks. held.Tree (holding k ks notes) ∷ v) (sym (append-nil kids))
all_joined_holding k (node ∷ nodes) kids notes v =
    ap (all_joined nodes) (joined_holding k kids notes node v) ∙ all_joined_holding k nodes (kids ++ node ∷ []) notes v ∙ ap (λ ks. held.Tree (holding k ks notes) ∷ v) (append_assoc kids (node ∷ []) nodes)

end_noted_holding : (k : Kind) (kids : List Node) (notes others : List (List ℕ)) (v : List Held) → end_noted others (held.Tree (holding k kids notes) ∷ v) ≡ held.Tree (holding k kids others) ∷ v
end_noted_holding k kids notes others v = ap (λ (l : Node-F Node). held.Tree (node_of l.kind l.text others l.kids) ∷ v) (out-roll-Node (layer_of k kids notes))

-- where comments don't end a list, none are the list's
unended : {note first : Bool} {p : Choice} {nodes : List Node} {notes : List (List ℕ)} {e f : List Event} → SpellsMembers note p first nodes notes e f → ends_with_comments (comments_of p) ≡ false → notes ≡ []
unended (end_with_comments g c) h = absurd (let z : true ≡ false = sym g ∙ h in cc)
unended (end_without g) h = refl
unended (member_with_comments b c d ds) h = unended ds h
unended (member_without b c d ds) h = unended ds h

pub ended_holding : {note first : Bool} {p : Choice} {nodes : List Node} {notes : List (List ℕ)} {e f : List Event} (k : Kind) (kids : List Node) (v : List Held) → SpellsMembers note p first nodes notes e f
    → end_joined p notes (all_joined nodes (held.Tree (holding k kids []) ∷ v)) ≡ held.Tree (holding k (kids ++ nodes) notes) ∷ v
ended_holding {p = p} {nodes = nodes} {notes = notes} k kids v ds = ap (end_joined p notes) (all_joined_holding k nodes kids [] v) ∙ by (ends_with_comments (comments_of p)) refl
  where
    by : (b : Bool) → ends_with_comments (comments_of p) ≡ b → end_joined p notes (held.Tree (holding k (kids ++ nodes) []) ∷ v) ≡ held.Tree (holding k (kids ++ nodes) notes) ∷ v
    by true g = cond-true (ends_with_comments (comments_of p)) _ _ g ∙ end_noted_holding k (kids ++ nodes) [] notes v
    by false g = cond-false (ends_with_comments (comments_of p)) _ _ g ∙ ap (λ ns. held.Tree (holding k (kids ++ nodes) ns) ∷ v) (sym (unended ds g))

-- a first member where the same is asked of all
pub first_or_not : {note first other : Bool} {p : Choice} {nodes : List Node} {notes : List (List ℕ)} {e f : List Event} → starts_with_comments (comments_of p) first ≡ starts_with_comments (comments_of p) other
    → SpellsMembers note p other nodes notes e f → SpellsMembers note p first nodes notes e f
first_or_not s (end_with_comments g c) = end_with_comments g c
first_or_not s (end_without g) = end_without g
first_or_not s (member_with_comments b c d ds) = member_with_comments (s ∙ b) c d ds
first_or_not s (member_without b c d ds) = member_without (s ∙ b) c d ds

-- ---- members

pub standing : {note : Bool} {places : List Choice} {node : Node} {e f : List Event} (p : Choice) → stands_in places p ≡ true → StandsAt note places node e f → SpellsNode note p node e f
standing {note = note} {places = places} {node = node} {e = e} {f = f} p h at = subst (λ n. SpellsNode note p n e f) (roll-out-Node node) (at p (among places p h) (notes_of node))

-- ---- the same on the same side

pub member_on : {n o c : Bool} {ps : List Choice} {node : Node} {e f : List Event} → n ≡ o → IsMember n c ps node e f → IsMember o c ps node e f
member_on {c = c} {ps = ps} {node = node} {e = e} {f = f} q m = subst (λ n. IsMember n c ps node e f) q m

members_on : {n o : Bool} {p r : Choice} {nodes : List Node} {notes : List (List ℕ)} {e f : List Event} → n ≡ o → p ≡ r → SpellsMembers n p false nodes notes e f → SpellsMembers o r false nodes notes e f
members_on {n = n} {r = r} {nodes = nodes} {notes = notes} {e = e} {f = f} q s ds =
    subst (λ n. SpellsMembers n r false nodes notes e f) q (subst (λ p. SpellsMembers n p false nodes notes e f) s ds)

more_on : {n o : Bool} {p r : Choice} {m l : Mark} {nodes : List Node} {e f : List Event} → n ≡ o → p ≡ r → m ≡ l → AreMore n p m nodes e f → AreMore o r l nodes e f
more_on {n = n} {p = p} {r = r} {l = l} {nodes = nodes} {e = e} {f = f} q s t d =
    subst (λ n. AreMore n r l nodes e f) q (subst (λ p. AreMore n p l nodes e f) s (subst (λ m. AreMore n p m nodes e f) t d))

pub path_at : {traces others : List Trace} {v u w : List Held} {e f : List Event} → traces ≡ others → v ≡ u → Path traces v e w f → Path others u e w f
path_at {others = others} {v = v} {w = w} {e = e} {f = f} q s path = subst (λ v. Path others v e w f) s (subst (λ ts. Path ts v e w f) q path)

-- one member more at the front
pub add_member : {note first c : Bool} {p : Choice} {places : List Choice} {node : Node} {nodes : List Node} {notes : List (List ℕ)} {e g f : List Event}
    → is_member p first c places ≡ true → IsMember note c places node e g → SpellsMembers note p false nodes notes g f → SpellsMembers note p first (node ∷ nodes) notes e f
add_member {first = first} {p = p} h (alone s at) ds =
    member_without (sym (one_side false (starts_with_comments (comments_of p) first) (both h).0)) (or_right (keeps_comments (comments_of p)) _ s) (standing p (both h).1 at) ds
add_member {first = first} {p = p} h (commented s at) ds =
    member_with_comments (sym (one_side true (starts_with_comments (comments_of p) first) (both h).0)) s (standing p (both h).1 at) ds

pub add_listed : {note c : Bool} {p : Choice} {m : Mark} {places : List Choice} {node : Node} {nodes : List Node} {e g f : List Event}
    → (not c && stands_in places p) ≡ true → IsMember note c places node e g → AreMore note p m nodes g f → SpellsListed note p m (node ∷ nodes) e f
add_listed {p = p} h (alone s at) no_others = last s (standing p h at)
add_listed {p = p} h (alone s at) (others_are ds) = and_more s (standing p h at) ds
add_listed h (commented s at) more = absurd cc

pub record Members (note first full : Bool) (p : Choice) (k : Kind) (kids : List Node) (v : List Held) (e : List Event) (traces : List Trace) (w : List Held) (f : List Event) : Type 0 where
  pub nodes : List Node
  pub notes : List (List ℕ)
  pub events : List Event
  pub spelled : SpellsMembers note p first nodes notes e events
  pub is_full : full ≡ true → is_empty nodes ≡ false
  pub after : Path traces (held.Tree (holding k (kids ++ nodes) notes) ∷ v) events w f

pub members : {note first : Bool} {p : Choice} {k : Kind} {kids : List Node} {v w : List Held} {e f : List Event} (traces others : List Trace) → past_members note p first traces ≡ Some others
    → Path traces (held.Tree (holding k kids []) ∷ v) e w f → Members note first (begins_joined traces) p k kids v e others w f
members {note = note} {first = first} {p = p} {k = k} {kids = kids} {v = v} {w = w} {f = f} (joined n c ps ∷ traces) others h (next (joins {node = node} {f = g} m) path) =
    let q = if_so_some (is_side note n && is_member p first c ps) (past_members note p false traces) others h in
    let more : Members note false (begins_joined traces) p k (kids ++ node ∷ []) v g others w f = members traces others q.1 (subst (λ v. Path traces v g w f) (joined_holding k kids [] node v) path) in
    record {
      nodes = node ∷ more.nodes;
      notes = more.notes;
      events = more.events;
      is_full = λ h. refl;
      spelled = add_member (both q.0).1 (member_on (sym (one_side note n (both q.0).0)) m) more.spelled;
      after = subst (λ ks. Path others (held.Tree (holding k ks more.notes) ∷ v) more.events w f) (append_assoc kids (node ∷ []) more.nodes) more.after;
    }
members {note = note} {first = first} {p = p} {k = k} {kids = kids} {v = v} {w = w} {f = f} (rest n r ∷ traces) others h (next (goes_on {nodes = nodes} {notes = notes} {f = g} ds) path) =
    let q = if_so_some ((is_side note n && same_place r p) && is_side (starts_with_comments (comments_of p) first) (starts_with_comments (comments_of p) false)) (Some traces) others h in
    let parts = both (both q.0).0 in
    let same : traces ≡ others = cc in
    let spelled = members_on (sym (one_side note n parts.0)) (one_place r p parts.1) ds in
    let path = path_at same (ap (λ r. end_joined r notes (all_joined nodes (held.Tree (holding k kids []) ∷ v))) (one_place r p parts.1)) path in
    record {
      nodes = nodes;
      notes = notes;
      events = g;
      is_full = λ h. absurd cc;
      spelled = first_or_not (one_side _ _ (both q.0).1) spelled;
      after = path_at refl (ended_holding k kids v spelled) path;
    }
members {p = p} {k = k} {kids = kids} {v = v} {w = w} {f = f} (ended ∷ traces) others h (next (ends {notes = notes} {e = g} c) path) =
    let q = if_so_some (ends_with_comments (comments_of p)) (Some traces) others h in
    let same : traces ≡ others = cc in
    record {
      nodes = [];
      notes = notes;
      events = g;
      is_full = λ h. absurd cc;
      spelled = end_with_comments q.0 c;
      after = path_at same (end_noted_holding k kids [] notes v ∙ ap (λ ks. held.Tree (holding k ks notes) ∷ v) (sym (append-nil kids))) path;
    }
members _ others h path = absurd cc

-- ---- members with marks between them

pub record MoreListed (note : Bool) (p : Choice) (m : Mark) (k : Kind) (kids : List Node) (v : List Held) (e : List Event) (traces : List Trace) (w : List Held) (f : List Event) : Type 0 where
  pub nodes : List Node
  pub events : List Event
  pub spelled : AreMore note p m nodes e events
  pub after : Path traces (held.Tree (holding k (kids ++ nodes) []) ∷ v) events w f

pub record AllListed (note : Bool) (p : Choice) (m : Mark) (k : Kind) (kids : List Node) (v : List Held) (e : List Event) (traces : List Trace) (w : List Held) (f : List Event) : Type 0 where
  pub node : Node
  pub nodes : List Node
  pub events : List Event
  pub spelled : SpellsListed note p m (node ∷ nodes) e events
  pub after : Path traces (held.Tree (holding k (kids ++ node ∷ nodes) []) ∷ v) events w f

-- a member, and those that follow it
with_more : {note c n : Bool} {p : Choice} {m : Mark} {k : Kind} {ps : List Choice} {node : Node} {kids : List Node} {v w : List Held} {e g f : List Event} {others : List Trace}
    → is_plain_member note p n c ps ≡ true → IsMember n c ps node e g → MoreListed note p m k (kids ++ node ∷ []) v g others w f → AllListed note p m k kids v e others w f
with_more {note = note} {c = c} {n = n} {k = k} {ps = ps} {node = node} {kids = kids} {v = v} {w = w} {e = e} {g = g} {f = f} {others = others} h m more = record {
  node = node;
  nodes = more.nodes;
  events = more.events;
  spelled = add_listed (both h).1 (member_on (sym (one_side note n (both h).0)) m) more.spelled;
  after = subst (λ ks. Path others (held.Tree (holding k ks []) ∷ v) more.events w f) (append_assoc kids (node ∷ []) more.nodes) more.after;
}

more_listed : {note : Bool} {p : Choice} {m : Mark} {k : Kind} {kids : List Node} {v w : List Held} {e f : List Event} (traces others : List Trace) → past_listed note p m traces ≡ Some others
    → Path traces (held.Tree (holding k kids []) ∷ v) e w f → MoreListed note p m k kids v e others w f
more_listed {note = note} {p = p} {m = m} {k = k} {kids = kids} {v = v} {w = w} {f = f} (tail n q l ∷ traces) others h (next (goes_on_listed {nodes = nodes} {f = g} more) path) =
    let r = if_so_some ((is_side note n && same_place q p) && sameb mark_row.the_type l m) (Some traces) others h in
    let same : traces ≡ others = cc in
    let parts = both (both r.0).0 in
    record {
      nodes = nodes;
      events = g;
      spelled = more_on (sym (one_side note n parts.0)) (one_place q p parts.1) (one_mark l m (both r.0).1) more;
      after = path_at same (all_joined_holding k nodes kids [] v) path;
    }
more_listed {note = note} {p = p} {m = m} {k = k} {kids = kids} {v = v} {w = w} {f = f} (written o l ∷ joined n c ps ∷ traces) others h (next (writes {e = e}) (next (joins {node = node} {f = g} i) path)) =
    let r = if_so_some ((is_side note o && same_lexeme l (a_mark m)) && is_plain_member note p n c ps) (past_listed note p m traces) others h in
    let all : AllListed note p m k kids v e others w f =
    with_more (both r.0).1 i (more_listed traces others r.1 (subst (λ v. Path traces v g w f) (joined_holding k kids [] node v) path)) in
    let parts = both (both r.0).0 in
    record {
      nodes = all.node ∷ all.nodes;
      events = all.events;
      spelled = subst (λ n. AreMore note p m (all.node ∷ all.nodes) (spelled n l ∷ e) all.events) (one_side note o parts.0)
          (subst (λ l. AreMore note p m (all.node ∷ all.nodes) (spelled note l ∷ e) all.events) (sym (same_lexeme_is l (a_mark m) parts.1)) (others_are all.spelled));
      after = all.after;
    }
more_listed _ others h path = absurd cc

pub all_listed : {note : Bool} {p : Choice} {m : Mark} {k : Kind} {kids : List Node} {v w : List Held} {e f : List Event} (traces others : List Trace) → past_first note p m traces ≡ Some others
    → Path traces (held.Tree (holding k kids []) ∷ v) e w f → AllListed note p m k kids v e others w f
all_listed {note = note} {p = p} {m = m} {k = k} {kids = kids} {v = v} {w = w} {f = f} (joined n c ps ∷ traces) others h (next (joins {node = node} {f = g} i) path) =
    let r = if_so_some (is_plain_member note p n c ps) (past_listed note p m traces) others h in
    with_more r.0 i (more_listed traces others r.1 (subst (λ v. Path traces v g w f) (joined_holding k kids [] node v) path))
all_listed _ others h path = absurd cc
