-- Members of lists: lines that lead over one, and over any number with marks between them.
use Rattle.std.proofs.Common.{◌≡◌, List, [], ◌∷◌, ◌++◌, refl, sym, ◌∙◌, ap, subst, Bool, true, false, not, ◌&&◌, append_assoc}
use Rattle.std.proofs.lemmas.Bool.{and_parts}
use Rattle.std.proofs.lemmas.List.{append-nil}
use Rattle.ada_tree.specs.declared.kind.Kind.{Kind}
use Rattle.ada_tree.specs.declared.kind.Kind.TheVariants as kind
use Rattle.ada_tree.specs.declared.word.Mark.{Mark}
use Rattle.ada_tree.specs.declared.grammar.Choice.{Choice}
use Rattle.ada_tree.specs.declared.node.Node.{Node}
use Rattle.ada_tree.specs.Kinds.{is_kind}
use Rattle.ada_tree.specs.Nodes.{notes_of}
use Rattle.ada_tree.specs.Spelling.{are_components}
use Rattle.ada_tree.specs.Tokens.{Event, spelled, comments, Lexeme, a_mark}
use Rattle.reading_table.specs.declared.held.Held.{Held}
use Rattle.reading_table.specs.declared.held.Held.TheVariants as held
use Rattle.reading_table.specs.declared.symbol.Symbol.{Symbol}
use Rattle.reading_table.specs.declared.symbol.Symbol.TheVariants as symbol
use Rattle.reading_table.specs.Events.{Reads, event_view, of_values}
use Rattle.reading_table.specs.Reading.{is_side}
use Rattle.reading_table.specs.Rows.{Placed}
use Rattle.reading_table.specs.States.{does, is_of}
use Rattle.reading_table.specs.Tables.{done, Has, acts}
use Rattle.reading_complete.specs.Bare.{bare}
use Rattle.reading_complete.proofs.Classes.{Class}
use Rattle.reading_complete.proofs.Lazy.{both_parts}
use Rattle.reading_complete.proofs.Held.{grown, joined_grown, noted_again}
use Rattle.reading_complete.proofs.Moves.{unfolded_reads}
use Rattle.reading_complete.proofs.Nodes.{take_event, seek_line_to, IsRead, LeadsOver, over_unfolded, over_whole, over_route, of_class}
use Rattle.reading_complete.proofs.Routes.{routes}
use Rattle.reading_complete.proofs.Symbols.{same_symbol, symbol_told, same_line, line_told}
use Rattle.reading_complete.proofs.Readers.{reader}
use Rattle.reading_complete.proofs.Seeking.{unfoldings, seek_line, drops_lexeme, drops, does_symbol}
use Rattle.reading_complete.proofs.Walks.{whole_at, route_at, each_class, every, opening, closing, member, more, many_more, listed_read, made_list, needs_more, after_first, late_listed}

-- ---- symbols of lines

pub record IsNext (s : Symbol) (next : List Placed → Bool) (line : List Placed) : Type 0 where
  pub side : Bool
  pub after : List Placed
  pub is : line ≡ (side, s) ∷ after
  pub passed : next after ≡ true

pub symbol_next : (s : Symbol) (next : List Placed → Bool) (line : List Placed) → does_symbol s next line ≡ true → IsNext s next line
symbol_next s next [] h = absurd cc
symbol_next s next ((side, other) ∷ line) h = by (same_symbol s other) refl h
  where
    by : (b : Bool) → same_symbol s other ≡ b → elim b as (λ b. Bool) [ true ↦ next line | false ↦ false ] ≡ true → IsNext s next ((side, other) ∷ line)
    by true e h = record { side = side; after = line; is = ap (λ (o : Symbol). (side, o) ∷ line) (sym (symbol_told s other e)); passed = h }
    by false e h = absurd cc

-- a symbol that is done
pub done_first : (s : Symbol) (side : Bool) (line ss : List Placed) (values new : List Held) (events : List Event) (last : List Held) → event_view side s ≡ done → (does s (of_values values)).values ≡ new
    → Reads (line ++ ss) new events last → Reads (((side, s) ∷ line) ++ ss) values events last
done_first s side line ss values new events last v e d = acts v (subst (λ w. Reads (line ++ ss) w events last) (sym e) d)

-- ---- a token that isn't kept

pub record LeadsToken (next : List Placed → Bool) (note : Bool) (lexeme : Lexeme) (line : List Placed) : Type 0 where
  pub to : List Placed
  pub passed : next to ≡ true
  pub over : (ss : List Placed) (values : List Held) (events : List Event) (last : List Held) → Reads (to ++ ss) values events last → Reads (line ++ ss) values (spelled note lexeme ∷ events) last

pub over_token : (next : List Placed → Bool) (note : Bool) (lexeme : Lexeme) (line : List Placed) → drops note lexeme next line ≡ true → LeadsToken next note lexeme line
over_token next note lexeme line h = seek_line_to (LeadsToken next note lexeme) back (drops_lexeme note lexeme next) at line h
  where
    back : (line unfolded : List Placed) → Has (unfoldings line) unfolded → LeadsToken next note lexeme unfolded → LeadsToken next note lexeme line
    back line u m o = record { to = o.to; passed = o.passed; over = λ ss values events last d. unfolded_reads line u ss values (spelled note lexeme ∷ events) last m (o.over ss values events last d) }

    at : (line : List Placed) → drops_lexeme note lexeme next line ≡ true → LeadsToken next note lexeme line
    at ((side, symbol.Take set) ∷ line) h = by (is_side side note && is_of set lexeme) refl h
      where
        by : (b : Bool) → (is_side side note && is_of set lexeme) ≡ b → elim b as (λ b. Bool) [ true ↦ next line | false ↦ false ] ≡ true → LeadsToken next note lexeme ((side, symbol.Take set) ∷ line)
        by true e h = record {
          to = line;
          passed = h;
          over = λ ss values events last d. take_event (side, symbol.Take set) (line ++ ss) values values (spelled note lexeme) events last refl (ap (λ b. b && true) e) refl d;
        }
        by false e h = absurd cc
    at _ h = absurd cc

-- ---- a list that grows

-- A line leads over members, by which the list before them grows.
pub record LeadsList (next : List Placed → Bool) (nodes : List Node) (events rest : List Event) (line : List Placed) : Type 0 where
  pub to : List Placed
  pub passed : next to ≡ true
  pub over : (k : Kind) (so_far : List Node) (ss : List Placed) (below last : List Held) → Reads (to ++ ss) (held.Tree (grown k (so_far ++ nodes)) ∷ below) rest last
      → Reads (line ++ ss) (held.Tree (grown k so_far) ∷ below) events last

abbrev with_comments : Bool → Node → List Held → List Held
with_comments true node hs = held.Comments (notes_of node) ∷ hs
with_comments false node hs = hs

-- the events of a member
abbrev pub commented : Bool → Node → List Event → List Event
commented true node events = comments (notes_of node) ∷ events
commented false node events = events

-- the member is read, and becomes one of the list
record LeadsMember (starts : Bool) (next : List Placed → Bool) (node : Node) (events rest : List Event) (line : List Placed) : Type 0 where
  to : List Placed
  passed : next to ≡ true
  over : (k : Kind) (so_far : List Node) (ss : List Placed) (below last : List Held) → Reads (to ++ ss) (held.Tree (grown k (so_far ++ node ∷ [])) ∷ below) rest last
      → Reads (line ++ ss) (with_comments starts node (held.Tree (grown k so_far) ∷ below)) events last

closes : (starts : Bool) (next : List Placed → Bool) (node : Node) (events rest : List Event) (line : List Placed) → (starts ≡ false → bare node ≡ node) → LeadsOver (closing routes starts next) node events rest line → LeadsMember starts next node events rest line
closes false next node events rest line same o =
    let j = symbol_next symbol.Join next o.to o.passed in
    record {
      to = j.after;
      passed = j.passed;
      over = λ k so_far ss below last d.
          let done_so : Reads (((j.side, symbol.Join) ∷ j.after) ++ ss) (held.Tree (bare node) ∷ held.Tree (grown k so_far) ∷ below) rest last =
          done_first symbol.Join j.side j.after ss (held.Tree (bare node) ∷ held.Tree (grown k so_far) ∷ below) (held.Tree (grown k (so_far ++ node ∷ [])) ∷ below) rest last refl
          (joined_grown k so_far (bare node) below ∙ ap (λ n. held.Tree (grown k (so_far ++ n ∷ [])) ∷ below) (same refl)) d in
          o.over ss (held.Tree (grown k so_far) ∷ below) last (subst (λ l. Reads (l ++ ss) (held.Tree (bare node) ∷ held.Tree (grown k so_far) ∷ below) rest last) (sym j.is) done_so);
    }
closes true next node events rest line same o =
    let n = symbol_next symbol.Noted (does_symbol symbol.Join next) o.to o.passed in
    let j = symbol_next symbol.Join next n.after n.passed in
    record {
      to = j.after;
      passed = j.passed;
      over = λ k so_far ss below last d.
          let joined_so : Reads (((j.side, symbol.Join) ∷ j.after) ++ ss) (held.Tree node ∷ held.Tree (grown k so_far) ∷ below) rest last =
          done_first symbol.Join j.side j.after ss (held.Tree node ∷ held.Tree (grown k so_far) ∷ below) (held.Tree (grown k (so_far ++ node ∷ [])) ∷ below) rest last refl (joined_grown k so_far node below) d in
          let noted_so : Reads (((n.side, symbol.Noted) ∷ n.after) ++ ss) (held.Tree (bare node) ∷ held.Comments (notes_of node) ∷ held.Tree (grown k so_far) ∷ below) rest last =
          done_first symbol.Noted n.side n.after ss (held.Tree (bare node) ∷ held.Comments (notes_of node) ∷ held.Tree (grown k so_far) ∷ below) (held.Tree node ∷ held.Tree (grown k so_far) ∷ below) rest last refl
          (ap (λ x. held.Tree x ∷ held.Tree (grown k so_far) ∷ below) (noted_again node)) (subst (λ l. Reads (l ++ ss) (held.Tree node ∷ held.Tree (grown k so_far) ∷ below) rest last) (sym j.is) joined_so) in
          o.over ss (held.Comments (notes_of node) ∷ held.Tree (grown k so_far) ∷ below) last
          (subst (λ l. Reads (l ++ ss) (held.Tree (bare node) ∷ held.Comments (notes_of node) ∷ held.Tree (grown k so_far) ∷ below) rest last) (sym n.is) noted_so);
    }

list_unfolded : (next : List Placed → Bool) (nodes : List Node) (events rest : List Event) (line unfolded : List Placed) → Has (unfoldings line) unfolded → LeadsList next nodes events rest unfolded → LeadsList next nodes events rest line
list_unfolded next nodes events rest line u m o = record {
  to = o.to;
  passed = o.passed;
  over = λ k so_far ss below last d. unfolded_reads line u ss (held.Tree (grown k so_far) ∷ below) events last m (o.over k so_far ss below last d);
}

opens_member : (starts : Bool) (next body : List Placed → Bool) (node : Node) (events rest : List Event) → ((l : List Placed) → body l ≡ true → LeadsMember starts next node events rest l)
    → (line : List Placed) → opening routes starts body line ≡ true → LeadsList next (node ∷ []) (commented starts node events) rest line
opens_member false next body node events rest k line h = let o = k line h in record { to = o.to; passed = o.passed; over = o.over }
opens_member true next body node events rest k line h = seek_line_to (LeadsList next (node ∷ []) (comments (notes_of node) ∷ events) rest) (list_unfolded next (node ∷ []) (comments (notes_of node) ∷ events) rest) (does_symbol symbol.Notes body) at line h
  where
    at : (line : List Placed) → does_symbol symbol.Notes body line ≡ true → LeadsList next (node ∷ []) (comments (notes_of node) ∷ events) rest line
    at line h =
        let s = symbol_next symbol.Notes body line h in
        let o = k s.after s.passed in
        record {
          to = o.to;
          passed = o.passed;
          over = λ kd so_far ss below last d.
              subst (λ l. Reads (l ++ ss) (held.Tree (grown kd so_far) ∷ below) (comments (notes_of node) ∷ events) last) (sym s.is)
              (take_event (s.side, symbol.Notes) (s.after ++ ss) (held.Tree (grown kd so_far) ∷ below) (held.Comments (notes_of node) ∷ held.Tree (grown kd so_far) ∷ below) (comments (notes_of node)) events last refl refl refl
              (o.over kd so_far ss below last d));
        }

pub over_member : {note : Bool} {place : Choice} {node : Node} {events rest : List Event} (starts : Bool) (next : List Placed → Bool) (line : List Placed) → IsRead note place node events rest → (starts ≡ false → bare node ≡ node)
    → member routes note place starts next line ≡ true → LeadsList next (node ∷ []) (commented starts node events) rest line
over_member {note = note} {place = place} {node = node} {events = events} {rest = rest} starts next line n same h =
    by (opening routes starts (seek_line (whole_at routes note (reader note place) (closing routes starts next))) line) refl h
  where
    each : Class → Bool
    each d = opening routes starts (seek_line (route_at routes note d (closing routes starts next))) line

    whole_body : (l : List Placed) → seek_line (whole_at routes note (reader note place) (closing routes starts next)) l ≡ true → LeadsMember starts next node events rest l
    whole_body l h = closes starts next node events rest l same
        (seek_line_to (LeadsOver (closing routes starts next) node events rest) (over_unfolded (closing routes starts next) node events rest) (whole_at routes note (reader note place) (closing routes starts next)) (over_whole n (closing routes starts next)) l h)

    route_body : (l : List Placed) → seek_line (route_at routes note n.class (closing routes starts next)) l ≡ true → LeadsMember starts next node events rest l
    route_body l h = closes starts next node events rest l same
        (seek_line_to (LeadsOver (closing routes starts next) node events rest) (over_unfolded (closing routes starts next) node events rest) (route_at routes note n.class (closing routes starts next)) (over_route n (closing routes starts next)) l h)

    by : (b : Bool) → opening routes starts (seek_line (whole_at routes note (reader note place) (closing routes starts next))) line ≡ b → elim b as (λ b. Bool) [ true ↦ true | false ↦ each_class routes note place (every routes) (λ d. opening routes starts (seek_line (route_at routes note d (closing routes starts next))) line) ] ≡ true
        → LeadsList next (node ∷ []) (commented starts node events) rest line
    by true e h = opens_member starts next (seek_line (whole_at routes note (reader note place) (closing routes starts next))) node events rest whole_body line e
    by false e h = opens_member starts next (seek_line (route_at routes note n.class (closing routes starts next))) node events rest route_body line
        (of_class n (every routes) (λ d. opening routes starts (seek_line (route_at routes note d (closing routes starts next))) line) h refl)

-- ---- members with marks between them

-- any number of members more, each after the mark
pub data MoreRead (note : Bool) (place : Choice) (m : Mark) : List Node → List Event → List Event → Type 0 where
  no_more : {events : List Event} → MoreRead note place m [] events events
  one_more : {node : Node} {nodes : List Node} {events middle rest : List Event} → bare node ≡ node → IsRead note place node events middle → MoreRead note place m nodes middle rest
      → MoreRead note place m (node ∷ nodes) (spelled note (a_mark m) ∷ events) rest

-- the same after a first one
pub record ListedRead (note : Bool) (place : Choice) (m : Mark) (nodes : List Node) (events rest : List Event) : Type 0 where
  pub first : Node
  pub others : List Node
  pub middle : List Event
  pub are : first ∷ others ≡ nodes
  pub same : bare first ≡ first
  pub read : IsRead note place first events middle
  pub more : MoreRead note place m others middle rest

-- a list goes on behind a list
pub over_both : (next : List Placed → Bool) (node : Node) (nodes : List Node) (events middle rest : List Event) (line via : List Placed)
    → ((k : Kind) (so_far : List Node) (ss : List Placed) (below last : List Held) → Reads (via ++ ss) (held.Tree (grown k (so_far ++ node ∷ [])) ∷ below) middle last → Reads (line ++ ss) (held.Tree (grown k so_far) ∷ below) events last)
    → LeadsList next nodes middle rest via → LeadsList next (node ∷ nodes) events rest line
over_both next node nodes events middle rest line via front back = record {
  to = back.to;
  passed = back.passed;
  over = λ k so_far ss below last d. front k so_far ss below last (back.over k (so_far ++ node ∷ []) ss below last
      (subst (λ ns. Reads (back.to ++ ss) (held.Tree (grown k ns) ∷ below) rest last) (sym (append_assoc so_far (node ∷ []) nodes)) d));
}

-- a list that gets no member
pub over_none : (next : List Placed → Bool) (events : List Event) (line : List Placed) → next line ≡ true → LeadsList next [] events events line
over_none next events line h = record {
  to = line;
  passed = h;
  over = λ k so_far ss below last d. subst (λ ns. Reads (line ++ ss) (held.Tree (grown k ns) ∷ below) events last) (append-nil so_far) d;
}

over_more : {note : Bool} {place : Choice} {node : Node} {events rest : List Event} (m : Mark) (next : List Placed → Bool) (line : List Placed) → IsRead note place node events rest → bare node ≡ node
    → more routes note place m next line ≡ true → LeadsList next (node ∷ []) (spelled note (a_mark m) ∷ events) rest line
over_more {note = note} {place = place} m next line n same h =
    let t = over_token (member routes note place false next) note (a_mark m) line h in
    let o = over_member false next t.to n (λ e. same) t.passed in
    record { to = o.to; passed = o.passed; over = λ k so_far ss below last d. t.over ss (held.Tree (grown k so_far) ∷ below) _ last (o.over k so_far ss below last d) }

-- a line that leads back to itself
back_to : (next : List Placed → Bool) (nodes : List Node) (events rest : List Event) (line : List Placed) → LeadsList (λ new. same_line new line) nodes events rest line → (k : Kind) (so_far : List Node) (ss : List Placed) (below last : List Held)
    → Reads (line ++ ss) (held.Tree (grown k (so_far ++ nodes)) ∷ below) rest last → Reads (line ++ ss) (held.Tree (grown k so_far) ∷ below) events last
back_to next nodes events rest line o k so_far ss below last d =
    o.over k so_far ss below last (subst (λ l. Reads (l ++ ss) (held.Tree (grown k (so_far ++ nodes)) ∷ below) rest last) (sym (line_told o.to line o.passed)) d)

over_rest : {note : Bool} {place : Choice} {m : Mark} {nodes : List Node} {events rest : List Event} → MoreRead note place m nodes events rest → (next : List Placed → Bool) (line : List Placed)
    → more routes note place m (λ new. same_line new line) line ≡ true → next line ≡ true → LeadsList next nodes events rest line
over_rest (no_more {events = events}) next line h f = over_none next events line f
over_rest {m = m} (one_more {node = node} {nodes = nodes} {middle = middle} {rest = rest} same n ns) next line h f =
    over_both next node nodes _ middle rest line line (back_to next (node ∷ []) _ middle line (over_more m (λ new. same_line new line) line n same h)) (over_rest ns next line h f)

pub over_many : {note : Bool} {place : Choice} {m : Mark} {nodes : List Node} {events rest : List Event} → MoreRead note place m nodes events rest → (next : List Placed → Bool) (line : List Placed)
    → many_more routes note place m next line ≡ true → LeadsList next nodes events rest line
over_many {note = note} {place = place} {m = m} ns next line h =
    let parts = both_parts (more routes note place m (λ new. same_line new line) line) (next line) h in
    over_rest ns next line parts.0 parts.1

pub over_listed : {note : Bool} {place : Choice} {m : Mark} {nodes : List Node} {events rest : List Event} → ListedRead note place m nodes events rest → (next : List Placed → Bool) (line : List Placed)
    → listed_read routes note place m next line ≡ true → LeadsList next nodes events rest line
over_listed {note = note} {place = place} {m = m} {events = events} {rest = rest} l next line h =
    let o = over_member false (many_more routes note place m next) line l.read (λ e. l.same) h in
    subst (λ ns. LeadsList next ns events rest line) l.are (over_both next l.first l.others events l.middle rest line o.to o.over (over_many l.more next o.to o.passed))

-- ---- a list that is made of its first member

-- A line leads over members that become a list.
pub record MakesList (next : List Placed → Bool) (nodes : List Node) (events rest : List Event) (line : List Placed) : Type 0 where
  pub to : List Placed
  pub passed : next to ≡ true
  pub over : (ss : List Placed) (below last : List Held) → Reads (to ++ ss) (held.Tree (grown kind.List nodes) ∷ below) rest last → Reads (line ++ ss) below events last

made_unfolded : (next : List Placed → Bool) (nodes : List Node) (events rest : List Event) (line unfolded : List Placed) → Has (unfoldings line) unfolded → MakesList next nodes events rest unfolded → MakesList next nodes events rest line
made_unfolded next nodes events rest line u m o = record { to = o.to; passed = o.passed; over = λ ss below last d. unfolded_reads line u ss below events last m (o.over ss below last d) }

pub record MadeOf (next : List Placed → Bool) (node : Node) (line : List Placed) : Type 0 where
  pub to : List Placed
  pub passed : next to ≡ true
  pub over : (ss : List Placed) (below : List Held) (events : List Event) (last : List Held) → Reads (to ++ ss) (held.Tree (grown kind.List (node ∷ [])) ∷ below) events last → Reads (line ++ ss) (held.Tree node ∷ below) events last

becomes_list : (next : List Placed → Bool) (node : Node) (line : List Placed) → seek_line (does_symbol (symbol.Build kind.List 1) next) line ≡ true → MadeOf next node line
becomes_list next node line h = seek_line_to (MadeOf next node) back (does_symbol (symbol.Build kind.List 1) next) at line h
  where
    back : (line unfolded : List Placed) → Has (unfoldings line) unfolded → MadeOf next node unfolded → MadeOf next node line
    back line u m o = record { to = o.to; passed = o.passed; over = λ ss below events last d. unfolded_reads line u ss (held.Tree node ∷ below) events last m (o.over ss below events last d) }

    at : (line : List Placed) → does_symbol (symbol.Build kind.List 1) next line ≡ true → MadeOf next node line
    at line h =
        let s = symbol_next (symbol.Build kind.List 1) next line h in
        record {
          to = s.after;
          passed = s.passed;
          over = λ ss below events last d. subst (λ l. Reads (l ++ ss) (held.Tree node ∷ below) events last) (sym s.is)
              (done_first (symbol.Build kind.List 1) s.side s.after ss (held.Tree node ∷ below) (held.Tree (grown kind.List (node ∷ [])) ∷ below) events last refl refl d);
        }

pub over_made : {note : Bool} {place : Choice} {node : Node} {events rest : List Event} (next : List Placed → Bool) (line : List Placed) → (n : IsRead note place node events rest) → bare node ≡ node
    → made_list routes note n.class next line ≡ true → MakesList next (node ∷ []) events rest line
over_made {note = note} {node = node} {events = events} {rest = rest} next line n same h =
    seek_line_to (MakesList next (node ∷ []) events rest) (made_unfolded next (node ∷ []) events rest) (route_at routes note n.class (seek_line (does_symbol (symbol.Build kind.List 1) next))) at line h
  where
    at : (line : List Placed) → route_at routes note n.class (seek_line (does_symbol (symbol.Build kind.List 1) next)) line ≡ true → MakesList next (node ∷ []) events rest line
    at line h =
        let o = over_route n (seek_line (does_symbol (symbol.Build kind.List 1) next)) line h in
        let b = becomes_list next node o.to o.passed in
        record {
          to = b.to;
          passed = b.passed;
          over = λ ss below last d. o.over ss below last (subst (λ x. Reads (o.to ++ ss) (held.Tree x ∷ below) rest last) (sym same) (b.over ss below rest last d));
        }

-- a list that was made goes on
pub made_both : (next : List Placed → Bool) (node : Node) (nodes : List Node) (events middle rest : List Event) (line via : List Placed)
    → ((ss : List Placed) (below last : List Held) → Reads (via ++ ss) (held.Tree (grown kind.List (node ∷ [])) ∷ below) middle last → Reads (line ++ ss) below events last)
    → LeadsList next nodes middle rest via → MakesList next (node ∷ nodes) events rest line
made_both next node nodes events middle rest line via front back = record {
  to = back.to;
  passed = back.passed;
  over = λ ss below last d. front ss below last (back.over kind.List (node ∷ []) ss below last d);
}

-- one component alone is an association
pub over_late : {note : Bool} {place : Choice} {m : Mark} {nodes : List Node} {events rest : List Event} (c : Class) → ListedRead note place m nodes events rest → (is_kind c.kind kind.Aggr ≡ true → are_components nodes ≡ true)
    → (next : List Placed → Bool) (line : List Placed) → late_listed routes c note place m next line ≡ true → MakesList next nodes events rest line
over_late {note = note} {place = place} {m = m} {events = events} {rest = rest} c l comps next line h =
    subst (λ ns. MakesList next ns events rest line) l.are (by_need (needs_more routes c l.read.class) refl
    (of_class l.read (every routes) (λ d. made_list routes note d (after_first routes (needs_more routes c d) note place m next) line) h refl))
  where
    must : (others : List Node) (middle : List Event) → MoreRead note place m others middle rest → (is_kind c.kind kind.Aggr ≡ true → are_components (l.first ∷ others) ≡ true) → needs_more routes c l.read.class ≡ true
        → (to : List Placed) → more routes note place m (many_more routes note place m next) to ≡ true → LeadsList next others middle rest to
    must _ _ no_more comps n to h =
        let parts = and_parts (is_kind c.kind kind.Aggr) (not (is_kind l.read.class.kind kind.Assoc)) n in
        let e = l.read.association (comps parts.0) in
        absurd (clash (is_kind l.read.class.kind kind.Assoc) e parts.1)
      where
        clash : (b : Bool) → b ≡ true → not b ≡ true → ⊥
        clash true e f = absurd cc
        clash false e f = absurd cc
    must _ _ (one_more {node = node} {nodes = nodes} {middle = middle} same n ns) comps e to h =
        let o = over_more m (many_more routes note place m next) to n same h in
        over_both next node nodes _ middle rest to o.to o.over (over_many ns next o.to o.passed)

    by_need : (b : Bool) → needs_more routes c l.read.class ≡ b → made_list routes note l.read.class (after_first routes b note place m next) line ≡ true → MakesList next (l.first ∷ l.others) events rest line
    by_need true e h =
        let o = over_made (after_first routes true note place m next) line l.read l.same h in
        made_both next l.first l.others events l.middle rest line o.to o.over (must l.others l.middle l.more (λ a. subst (λ ns. are_components ns ≡ true) (sym l.are) (comps a)) e o.to o.passed)
    by_need false e h =
        let o = over_made (after_first routes false note place m next) line l.read l.same h in
        made_both next l.first l.others events l.middle rest line o.to o.over (over_many l.more next o.to o.passed)
