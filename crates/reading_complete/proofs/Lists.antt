-- Lists of members without marks between them, with the comments of the members and of the list.
use Rattle.std.proofs.Common.{◌≡◌, ℕ, List, [], ◌∷◌, ◌++◌, refl, sym, ◌∙◌, ap, subst, Bool, true, false, append_assoc}
use Rattle.std.proofs.lemmas.List.{append-nil}
use Rattle.ada_tree.specs.declared.kind.Kind.{Kind}
use Rattle.ada_tree.specs.declared.kind.Kind.TheVariants as kind
use Rattle.ada_tree.specs.declared.grammar.Choice.{Choice}
use Rattle.ada_tree.specs.declared.node.Node.{Node}
use Rattle.ada_tree.specs.Choices.{comments_of}
use Rattle.ada_tree.specs.Nodes.{node_of}
use Rattle.ada_tree.specs.Spelling.{ends_with_comments}
use Rattle.ada_tree.specs.Tokens.{Event, comments}
use Rattle.reading_table.specs.declared.held.Held.{Held}
use Rattle.reading_table.specs.declared.held.Held.TheVariants as held
use Rattle.reading_table.specs.declared.symbol.Symbol.TheVariants as symbol
use Rattle.reading_table.specs.Events.{Reads}
use Rattle.reading_table.specs.Rows.{Placed}
use Rattle.reading_table.specs.Tables.{Has}
use Rattle.reading_complete.specs.Bare.{bare}
use Rattle.reading_complete.proofs.Held.{grown, ended_grown}
use Rattle.reading_complete.proofs.Lazy.{both_parts}
use Rattle.reading_complete.proofs.Members.{symbol_next, over_member, commented, over_made}
use Rattle.reading_complete.proofs.Moves.{unfolded_reads}
use Rattle.reading_complete.proofs.Nodes.{take_event, seek_line_to, IsRead, of_class}
use Rattle.reading_complete.proofs.Routes.{routes}
use Rattle.reading_complete.proofs.Symbols.{same_line, line_told}
use Rattle.reading_complete.proofs.Seeking.{unfoldings, seek_line, does_symbol}
use Rattle.reading_complete.proofs.Walks.{each_class, every, member, made_list, ending_by, ending, starts, all_more, some_members, late_members}

-- members, and the comments at the end; the first argument tells that the first member is to come
pub data MembersRead (note : Bool) (place : Choice) : Bool → List Node → List (List ℕ) → List Event → List Event → Type 0 where
  ended_with : {first : Bool} {notes : List (List ℕ)} {events : List Event} → ends_with_comments (comments_of place) ≡ true → MembersRead note place first [] notes (comments notes ∷ events) events
  ended : {first : Bool} {events : List Event} → ends_with_comments (comments_of place) ≡ false → MembersRead note place first [] [] events events
  and_member : {first : Bool} {node : Node} {nodes : List Node} {notes : List (List ℕ)} {all events middle rest : List Event}
      → commented (starts routes place first) node events ≡ all → (starts routes place first ≡ false → bare node ≡ node) → IsRead note place node events middle → MembersRead note place false nodes notes middle rest
      → MembersRead note place first (node ∷ nodes) notes all rest

-- A line leads over members, by which the list before them grows, and gets the comments at its end.
pub record LeadsMembers (next : List Placed → Bool) (nodes : List Node) (notes : List (List ℕ)) (events rest : List Event) (line : List Placed) : Type 0 where
  pub to : List Placed
  pub passed : next to ≡ true
  pub over : (k : Kind) (so_far : List Node) (ss : List Placed) (below last : List Held) → Reads (to ++ ss) (held.Tree (node_of k [] notes (so_far ++ nodes)) ∷ below) rest last
      → Reads (line ++ ss) (held.Tree (grown k so_far) ∷ below) events last

over_notes : (next : List Placed → Bool) (notes : List (List ℕ)) (events : List Event) (line : List Placed) → seek_line (does_symbol symbol.EndNotes next) line ≡ true → LeadsMembers next [] notes (comments notes ∷ events) events line
over_notes next notes events line h = seek_line_to (LeadsMembers next [] notes (comments notes ∷ events) events) back (does_symbol symbol.EndNotes next) at line h
  where
    back : (line unfolded : List Placed) → Has (unfoldings line) unfolded → LeadsMembers next [] notes (comments notes ∷ events) events unfolded → LeadsMembers next [] notes (comments notes ∷ events) events line
    back line u m o = record {
      to = o.to;
      passed = o.passed;
      over = λ k so_far ss below last d. unfolded_reads line u ss (held.Tree (grown k so_far) ∷ below) (comments notes ∷ events) last m (o.over k so_far ss below last d);
    }

    at : (line : List Placed) → does_symbol symbol.EndNotes next line ≡ true → LeadsMembers next [] notes (comments notes ∷ events) events line
    at line h =
        let s = symbol_next symbol.EndNotes next line h in
        record {
          to = s.after;
          passed = s.passed;
          over = λ k so_far ss below last d.
              subst (λ l. Reads (l ++ ss) (held.Tree (grown k so_far) ∷ below) (comments notes ∷ events) last) (sym s.is)
              (take_event (s.side, symbol.EndNotes) (s.after ++ ss) (held.Tree (grown k so_far) ∷ below) (held.Tree (node_of k [] notes so_far) ∷ below) (comments notes) events last refl refl (ended_grown k notes so_far below)
              (subst (λ ns. Reads (s.after ++ ss) (held.Tree (node_of k [] notes ns) ∷ below) events last) (append-nil so_far) d));
        }

pub over_end_with : (place : Choice) (next : List Placed → Bool) (notes : List (List ℕ)) (events : List Event) (line : List Placed) → ends_with_comments (comments_of place) ≡ true → ending routes place next line ≡ true
    → LeadsMembers next [] notes (comments notes ∷ events) events line
over_end_with place next notes events line e h = over_notes next notes events line (subst (λ b. ending_by routes b next line ≡ true) e h)

pub over_end : (place : Choice) (next : List Placed → Bool) (events : List Event) (line : List Placed) → ends_with_comments (comments_of place) ≡ false → ending routes place next line ≡ true → LeadsMembers next [] [] events events line
over_end place next events line e h = record {
  to = line;
  passed = subst (λ b. ending_by routes b next line ≡ true) e h;
  over = λ k so_far ss below last d. subst (λ ns. Reads (line ++ ss) (held.Tree (grown k ns) ∷ below) events last) (append-nil so_far) d;
}

goes_on : (next : List Placed → Bool) (node : Node) (nodes : List Node) (notes : List (List ℕ)) (events middle rest : List Event) (line via : List Placed)
    → ((k : Kind) (so_far : List Node) (ss : List Placed) (below last : List Held) → Reads (via ++ ss) (held.Tree (grown k (so_far ++ node ∷ [])) ∷ below) middle last → Reads (line ++ ss) (held.Tree (grown k so_far) ∷ below) events last)
    → LeadsMembers next nodes notes middle rest via → LeadsMembers next (node ∷ nodes) notes events rest line
goes_on next node nodes notes events middle rest line via front back = record {
  to = back.to;
  passed = back.passed;
  over = λ k so_far ss below last d. front k so_far ss below last (back.over k (so_far ++ node ∷ []) ss below last
      (subst (λ ns. Reads (back.to ++ ss) (held.Tree (node_of k [] notes ns) ∷ below) rest last) (sym (append_assoc so_far (node ∷ []) nodes)) d));
}

over_all : {note : Bool} {place : Choice} {nodes : List Node} {notes : List (List ℕ)} {events rest : List Event} → MembersRead note place false nodes notes events rest → (next : List Placed → Bool) (line : List Placed)
    → member routes note place (starts routes place false) (λ new. same_line new line) line ≡ true → ending routes place next line ≡ true → LeadsMembers next nodes notes events rest line
over_all {place = place} (ended_with {notes = notes} {events = events} e) next line h f = over_end_with place next notes events line e f
over_all {place = place} (ended {events = events} e) next line h f = over_end place next events line e f
over_all {place = place} (and_member {node = node} {nodes = nodes} {notes = notes} {all = all} {events = events} {middle = middle} {rest = rest} a same n ns) next line h f =
    let o = over_member (starts routes place false) (λ new. same_line new line) line n same h in
    goes_on next node nodes notes all middle rest line line
    (λ k so_far ss below last d. subst (λ es. Reads (line ++ ss) (held.Tree (grown k so_far) ∷ below) es last) a
    (o.over k so_far ss below last (subst (λ l. Reads (l ++ ss) (held.Tree (grown k (so_far ++ node ∷ [])) ∷ below) middle last) (sym (line_told o.to line o.passed)) d)))
    (over_all ns next line h f)

over_more : {note : Bool} {place : Choice} {nodes : List Node} {notes : List (List ℕ)} {events rest : List Event} → MembersRead note place false nodes notes events rest → (next : List Placed → Bool) (line : List Placed)
    → all_more routes note place next line ≡ true → LeadsMembers next nodes notes events rest line
over_more {note = note} {place = place} ns next line h =
    let parts = both_parts (member routes note place (starts routes place false) (λ new. same_line new line) line) (ending routes place next line) h in
    over_all ns next line parts.0 parts.1

-- one member or more
pub over_some : {note : Bool} {place : Choice} {node : Node} {nodes : List Node} {notes : List (List ℕ)} {events rest : List Event} → MembersRead note place true (node ∷ nodes) notes events rest → (next : List Placed → Bool) (line : List Placed)
    → some_members routes note place next line ≡ true → LeadsMembers next (node ∷ nodes) notes events rest line
over_some {note = note} {place = place} (and_member {node = node} {nodes = nodes} {notes = notes} {all = all} {events = events} {middle = middle} {rest = rest} a same n ns) next line h =
    let o = over_member (starts routes place true) (all_more routes note place next) line n same h in
    goes_on next node nodes notes all middle rest line o.to
    (λ k so_far ss below last d. subst (λ es. Reads (line ++ ss) (held.Tree (grown k so_far) ∷ below) es last) a (o.over k so_far ss below last d))
    (over_more ns next o.to o.passed)

-- no member
pub over_no : {note : Bool} {place : Choice} {notes : List (List ℕ)} {events rest : List Event} → MembersRead note place true [] notes events rest → (next : List Placed → Bool) (line : List Placed)
    → ending routes place next line ≡ true → LeadsMembers next [] notes events rest line
over_no {place = place} (ended_with {notes = notes} {events = events} e) next line h = over_end_with place next notes events line e h
over_no {place = place} (ended {events = events} e) next line h = over_end place next events line e h

-- A line leads over members that become a list.
pub record MakesMembers (next : List Placed → Bool) (nodes : List Node) (notes : List (List ℕ)) (events rest : List Event) (line : List Placed) : Type 0 where
  pub to : List Placed
  pub passed : next to ≡ true
  pub over : (ss : List Placed) (below last : List Held) → Reads (to ++ ss) (held.Tree (node_of kind.List [] notes nodes) ∷ below) rest last → Reads (line ++ ss) below events last

pub over_late_members : {note : Bool} {place : Choice} {node : Node} {nodes : List Node} {notes : List (List ℕ)} {events rest : List Event} → MembersRead note place true (node ∷ nodes) notes events rest → (next : List Placed → Bool) (line : List Placed)
    → late_members routes note place next line ≡ true → MakesMembers next (node ∷ nodes) notes events rest line
over_late_members {note = note} {place = place} (and_member {node = node} {nodes = nodes} {notes = notes} {all = all} {events = events} {middle = middle} {rest = rest} a same n ns) next line h = by (starts routes place true) refl h
  where
    by : (b : Bool) → starts routes place true ≡ b → elim b as (λ b. Bool) [ true ↦ false | false ↦ each_class routes note place (every routes) (λ d. made_list routes note d (all_more routes note place next) line) ] ≡ true
        → MakesMembers next (node ∷ nodes) notes all rest line
    by true e h = absurd cc
    by false e h =
        let o = over_made (all_more routes note place next) line n (same e) (of_class n (every routes) (λ d. made_list routes note d (all_more routes note place next) line) h refl) in
        let m = over_more ns next o.to o.passed in
        let same_events : events ≡ all = ap (λ b. commented b node events) (sym e) ∙ a in
        record {
          to = m.to;
          passed = m.passed;
          over = λ ss below last d. subst (λ es. Reads (line ++ ss) below es last) same_events (o.over ss below last (m.over kind.List (node ∷ []) ss below last d));
        }
