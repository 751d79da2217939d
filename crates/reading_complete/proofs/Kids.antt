-- Kids, by their shapes, where a stage reads them.
use Rattle.std.proofs.Common.{◌≡◌, ℕ, zero, suc, List, [], ◌∷◌, ◌++◌, refl, sym, ◌∙◌, ap, subst, Bool, true, false, ◌&&◌, Option, Some, None}
use Rattle.std.specs.Cmp.Lexicographic.{bytes_decides}
use Rattle.std.proofs.lemmas.Bool.{and_from}
use denote.Enum.Bare.{same_true}
use Rattle.ada_tree.specs.contracts.kind.Kind as kind_row
use Rattle.ada_tree.specs.declared.kind.Kind.TheVariants as kind
use Rattle.ada_tree.specs.declared.word.Mark.{Mark}
use Rattle.ada_tree.specs.declared.word.Mark.TheVariants as mark
use Rattle.ada_tree.specs.declared.word.Word.TheVariants as word
use Rattle.ada_tree.specs.declared.grammar.Choice.{Choice}
use Rattle.ada_tree.specs.declared.grammar.Choice.TheVariants as choice
use Rattle.ada_tree.specs.declared.grammar.Shape.{Shape}
use Rattle.ada_tree.specs.declared.grammar.Shape.TheVariants.{One, Any, Many, Listed, MaybeListed, ForAll}
use Rattle.ada_tree.specs.declared.node.Node.{Node}
use Rattle.ada_tree.specs.Choices.{comments_of}
use Rattle.ada_tree.specs.Kinds.{is_kind}
use Rattle.ada_tree.specs.Nodes.{kind_of, text_of, notes_of, kids_of, node_of, is_empty, is_silent, is_list, is_empty_list, are_empty}
use Rattle.ada_tree.specs.Spelling.{is_consistent, is_named_as, has_components, are_components, ends_with_comments}
use Rattle.ada_tree.specs.Tokens.{Event, spelled, a_word}
use Rattle.reading_table.specs.declared.held.Held.{Held}
use Rattle.reading_table.specs.declared.held.Held.TheVariants as held
use Rattle.reading_table.specs.Events.{Reads}
use Rattle.reading_table.specs.Rows.{Placed}
use Rattle.reading_complete.specs.Bare.{bare}
use Rattle.reading_complete.proofs.Classes.{Class, Sort}
use Rattle.reading_complete.proofs.Held.{grown, bare_silent, list_is, silent_list_is, empty_list_is}
use Rattle.reading_complete.proofs.Lazy.{both_parts}
use Rattle.reading_complete.proofs.Lists.{MembersRead, ended_with, ended, LeadsMembers, over_some, over_no, MakesMembers, over_late_members}
use Rattle.reading_complete.proofs.Members.{ListedRead, over_listed, MakesList, over_late, over_token}
use Rattle.reading_complete.proofs.Nodes.{IsRead, LeadsOver, over_whole, over_route, of_class}
use Rattle.reading_complete.proofs.Routes.{routes}
use Rattle.reading_complete.proofs.Stages.{in_order, Stands, a_kid, a_namesake, an_empty, ReadsFrom, IsOf}
use Rattle.reading_complete.proofs.Texts.{sought}
use Rattle.reading_complete.proofs.Readers.{reader}
use Rattle.reading_complete.proofs.Seeking.{Value, kid, namesake, empty, Stage, seek, drops}
use Rattle.reading_complete.proofs.Walks.{whole_at, route_at, each_class, fits_front, fits_first, kid_value, kid_read, at_empty, some_members, late_members, ending, filled, any_or_none, any_read, listed_kid, late_listed, listed_read, no_list, variables, no_variables_read, kid_piece}

-- one of the next so many kids, if any are asked for, isn't an empty list
abbrev pub Filled : ℕ → List Node → Type 0
Filled zero kids = Unit {0}
Filled (suc n) kids = are_empty (suc n) kids ≡ false

-- what the class asks of the first kid
abbrev pub first_fits : Sort → Option Class → Bool
first_fits sort None = true
first_fits sort (Some d) = fits_front routes sort d

-- What is known where the next kids are read: these kids, the last one first, have been.
pub record IsAhead (node : Node) (c : Class) (front : Bool) (some : ℕ) (first : Option Class) (ks kids : List Node) : Type 0 where
  pub of : IsOf c node
  pub consistent : is_consistent (kind_of node) (text_of node) (kids_of node) ≡ true
  pub fits : front ≡ true → first_fits c.sort first ≡ true
  pub at_front : front ≡ true → kids ≡ kids_of node
  pub so_far : in_order ks ++ kids ≡ kids_of node
  pub filled : Filled some kids

-- A kid is read, whatever reads it, and whatever follows.
pub record IsKidRead (note : Bool) (shape : Shape) (k : Node) (events rest : List Event) : Type 0 where
  pub first : Option Class
  pub reads : (node : Node) (c : Class) (front : Bool) (some : ℕ) (ks kids : List Node) → IsAhead node c front some first ks (k ∷ kids) → (ss : List Placed) (below last : List Held) (next : ℕ → Stage → Bool)
      → ((n : ℕ) (s : Stage) → next n s ≡ true → Filled n kids → ReadsFrom node ss below last (k ∷ ks) rest s) → (stage : Stage) → kid_piece routes shape c note front some next stage ≡ true
      → ReadsFrom node ss below last ks events stage

-- ---- a node

module _ (node : Node) (c : Class) (ss : List Placed) (below last : List Held) (ks : List Node) (k : Node) (events rest : List Event) where
  kid_stands : (front : Bool) → (front ≡ true → is_kind c.kind kind.SubBody ≡ true → text_of k ≡ text_of node) → (values : List Value) (hs : List Held) → Stands node values ks hs
      → Stands node (kid_value routes front c.kind ∷ values) (k ∷ ks) (held.Tree k ∷ hs)
  kid_stands false named values hs t = a_kid t
  kid_stands true named values hs t = by (is_kind c.kind kind.SubBody) refl
    where
      by : (b : Bool) → is_kind c.kind kind.SubBody ≡ b → Stands node (elim b as (λ b. Value) [ true ↦ namesake | false ↦ kid ] ∷ values) (k ∷ ks) (held.Tree k ∷ hs)
      by true e = a_namesake (named refl e) t
      by false e = a_kid t

  module _ (front : Bool) (named : front ≡ true → is_kind c.kind kind.SubBody ≡ true → text_of k ≡ text_of node) (read : Node) (same : bare read ≡ k) (next : Stage → Bool)
      (go : (s : Stage) → next s ≡ true → ReadsFrom node ss below last (k ∷ ks) rest s) where
    from_over : (line : List Placed) (values : List Value) → LeadsOver (λ l. next (l, kid_value routes front c.kind ∷ values)) read events rest line → ReadsFrom node ss below last ks events (line, values)
    from_over line values l = λ hs t. l.over ss (hs ++ below) last
        (subst (λ x. Reads (l.to ++ ss) (held.Tree x ∷ (hs ++ below)) rest last) (sym same) (go (l.to, kid_value routes front c.kind ∷ values) l.passed (held.Tree k ∷ hs) (kid_stands front named values hs t)))

    pub node_reads : {note : Bool} {place : Choice} (n : IsRead note place read events rest) → fits_first routes front c.sort n.class ≡ true → (stage : Stage) → kid_read routes c front note place next stage ≡ true
        → ReadsFrom node ss below last ks events stage
    node_reads {note = note} {place = place} n f stage h =
        by (seek c false (λ s. whole_at routes note (reader note place) (λ line. next (line, kid_value routes front c.kind ∷ s.1)) s.0) stage) refl h
      where
        by : (b : Bool) → seek c false (λ s. whole_at routes note (reader note place) (λ line. next (line, kid_value routes front c.kind ∷ s.1)) s.0) stage ≡ b
            → elim b as (λ b. Bool) [
              | true ↦ true
              | false ↦ each_class routes note place (fits_first routes front c.sort) (λ d. seek c false (λ s. route_at routes note d (λ line. next (line, kid_value routes front c.kind ∷ s.1)) s.0) stage)
            ] ≡ true → ReadsFrom node ss below last ks events stage
        by true e h = sought node c ss below last ks events (λ s. whole_at routes note (reader note place) (λ line. next (line, kid_value routes front c.kind ∷ s.1)) s.0)
            (λ s g. from_over s.0 s.1 (over_whole n (λ line. next (line, kid_value routes front c.kind ∷ s.1)) s.0 g)) stage e
        by false e h = sought node c ss below last ks events (λ s. route_at routes note n.class (λ line. next (line, kid_value routes front c.kind ∷ s.1)) s.0)
            (λ s g. from_over s.0 s.1 (over_route n (λ line. next (line, kid_value routes front c.kind ∷ s.1)) s.0 g)) stage
            (of_class n (fits_first routes front c.sort) (λ d. seek c false (λ s. route_at routes note d (λ line. next (line, kid_value routes front c.kind ∷ s.1)) s.0) stage) h f)

  -- ---- lists

  -- from an empty list on
  from_empty : (next : List Placed → List Value → Bool) → ((line : List Placed) (values : List Value) → next line values ≡ true → (hs : List Held) → Stands node values ks hs → Reads (line ++ ss) (held.Tree (grown kind.List []) ∷ (hs ++ below)) events last)
      → (stage : Stage) → at_empty routes next stage ≡ true → ReadsFrom node ss below last ks events stage
  from_empty next serve (line, empty ∷ values) h _ (an_empty {hs = hs} t) = serve line values h hs t
  from_empty next serve _ h _ _ = absurd cc

  pub sought_empty : (next : List Placed → List Value → Bool) → ((line : List Placed) (values : List Value) → next line values ≡ true → (hs : List Held) → Stands node values ks hs → Reads (line ++ ss) (held.Tree (grown kind.List []) ∷ (hs ++ below)) events last)
      → (stage : Stage) → seek c false (at_empty routes next) stage ≡ true → ReadsFrom node ss below last ks events stage
  sought_empty next serve stage h = sought node c ss below last ks events (at_empty routes next) (λ s g. from_empty next serve s g) stage h

  module _ (next : Stage → Bool) (go : (s : Stage) → next s ≡ true → ReadsFrom node ss below last (k ∷ ks) rest s) where
    goes : (line : List Placed) (values : List Value) → next (line, kid ∷ values) ≡ true → (hs : List Held) → Stands node values ks hs → Reads (line ++ ss) (held.Tree k ∷ (hs ++ below)) rest last
    goes line values h hs t = go (line, kid ∷ values) h (held.Tree k ∷ hs) (a_kid t)

    members_reads : (nodes : List Node) (notes : List (List ℕ)) → node_of kind.List [] notes nodes ≡ k → (line : List Placed) (values : List Value) → LeadsMembers (λ l. next (l, kid ∷ values)) nodes notes events rest line → (hs : List Held) → Stands node values ks hs
        → Reads (line ++ ss) (held.Tree (grown kind.List []) ∷ (hs ++ below)) events last
    members_reads nodes notes same line values l hs t =
        l.over kind.List [] ss (hs ++ below) last (subst (λ x. Reads (l.to ++ ss) (held.Tree x ∷ (hs ++ below)) rest last) (sym same) (goes l.to values l.passed hs t))

    pub filled_reads : {note : Bool} {place : Choice} (nodes : List Node) (notes : List (List ℕ)) → MembersRead note place true nodes notes events rest → is_empty nodes ≡ false → node_of kind.List [] notes nodes ≡ k → (stage : Stage)
        → filled routes c note place next stage ≡ true → ReadsFrom node ss below last ks events stage
    filled_reads [] notes ms n same stage h = absurd cc
    filled_reads {note = note} {place = place} (first ∷ nodes) notes ms n same stage h = by (seek c false (at_empty routes (λ line values. some_members routes note place (λ l. next (l, kid ∷ values)) line)) stage) refl h
      where
        late : MakesMembers (λ l. next (l, kid ∷ stage.1)) (first ∷ nodes) notes events rest stage.0 → ReadsFrom node ss below last ks events stage
        late m = λ hs t. m.over ss (hs ++ below) last (subst (λ x. Reads (m.to ++ ss) (held.Tree x ∷ (hs ++ below)) rest last) (sym same) (goes m.to stage.1 m.passed hs t))

        by : (b : Bool) → seek c false (at_empty routes (λ line values. some_members routes note place (λ l. next (l, kid ∷ values)) line)) stage ≡ b
            → elim b as (λ b. Bool) [ true ↦ true | false ↦ late_members routes note place (λ l. next (l, kid ∷ stage.1)) stage.0 ] ≡ true → ReadsFrom node ss below last ks events stage
        by true e h = sought_empty (λ line values. some_members routes note place (λ l. next (l, kid ∷ values)) line)
            (λ line values g hs t. members_reads (first ∷ nodes) notes same line values (over_some ms (λ l. next (l, kid ∷ values)) line g) hs t) stage e
        by false e h = late (over_late_members ms (λ l. next (l, kid ∷ stage.1)) stage.0 h)

    pub any_reads : {note : Bool} {place : Choice} (nodes : List Node) (notes : List (List ℕ)) → MembersRead note place true nodes notes events rest → node_of kind.List [] notes nodes ≡ k → (stage : Stage)
        → seek c false (at_empty routes (any_or_none routes place note next)) stage ≡ true → ReadsFrom node ss below last ks events stage
    any_reads {note = note} {place = place} nodes notes ms same stage h = sought_empty (any_or_none routes place note next) (λ line values g hs t. at nodes ms same line values
        (both_parts (ending routes place (λ l. next (l, kid ∷ values)) line) (some_members routes note place (λ l. next (l, kid ∷ values)) line) g) hs t) stage h
      where
        at : (nodes : List Node) → MembersRead note place true nodes notes events rest → node_of kind.List [] notes nodes ≡ k → (line : List Placed) (values : List Value)
            → (ending routes place (λ l. next (l, kid ∷ values)) line ≡ true) × (some_members routes note place (λ l. next (l, kid ∷ values)) line ≡ true) → (hs : List Held) → Stands node values ks hs
            → Reads (line ++ ss) (held.Tree (grown kind.List []) ∷ (hs ++ below)) events last
        at [] ms same line values g hs t = members_reads [] notes same line values (over_no ms (λ l. next (l, kid ∷ values)) line g.0) hs t
        at (first ∷ nodes) ms same line values g hs t = members_reads (first ∷ nodes) notes same line values (over_some ms (λ l. next (l, kid ∷ values)) line g.1) hs t

    listed_reads_by : {note : Bool} {place : Choice} {m : Mark} (nodes : List Node) → ListedRead note place m nodes events rest → grown kind.List nodes ≡ k → (line : List Placed) (values : List Value) → listed_read routes note place m (λ l. next (l, kid ∷ values)) line ≡ true
        → (hs : List Held) → Stands node values ks hs → Reads (line ++ ss) (held.Tree (grown kind.List []) ∷ (hs ++ below)) events last
    listed_reads_by nodes l same line values h hs t =
        let o = over_listed l (λ l. next (l, kid ∷ values)) line h in
        o.over kind.List [] ss (hs ++ below) last (subst (λ x. Reads (o.to ++ ss) (held.Tree x ∷ (hs ++ below)) rest last) (sym same) (goes o.to values o.passed hs t))

    pub listed_reads : {note : Bool} {place : Choice} {m : Mark} (front : Bool) (nodes : List Node) → ListedRead note place m nodes events rest → grown kind.List nodes ≡ k → (front ≡ true → is_kind c.kind kind.Aggr ≡ true → are_components nodes ≡ true)
        → (stage : Stage) → listed_kid routes c front note place m next stage ≡ true → ReadsFrom node ss below last ks events stage
    listed_reads {note = note} {place = place} {m = m} front nodes l same comps stage h =
        by (seek c false (at_empty routes (λ line values. listed_read routes note place m (λ l. next (l, kid ∷ values)) line)) stage) refl front comps h
      where
        late : MakesList (λ l. next (l, kid ∷ stage.1)) nodes events rest stage.0 → ReadsFrom node ss below last ks events stage
        late m = λ hs t. m.over ss (hs ++ below) last (subst (λ x. Reads (m.to ++ ss) (held.Tree x ∷ (hs ++ below)) rest last) (sym same) (goes m.to stage.1 m.passed hs t))

        by : (b : Bool) → seek c false (at_empty routes (λ line values. listed_read routes note place m (λ l. next (l, kid ∷ values)) line)) stage ≡ b → (front : Bool) → (front ≡ true → is_kind c.kind kind.Aggr ≡ true → are_components nodes ≡ true)
            → elim b as (λ b. Bool) [ true ↦ true | false ↦ elim front as (λ b. Bool) [ true ↦ late_listed routes c note place m (λ l. next (l, kid ∷ stage.1)) stage.0 | false ↦ false ] ] ≡ true → ReadsFrom node ss below last ks events stage
        by true e front comps h = sought_empty (λ line values. listed_read routes note place m (λ l. next (l, kid ∷ values)) line) (λ line values g hs t. listed_reads_by nodes l same line values g hs t) stage e
        by false e true comps h = late (over_late c l (comps refl) (λ l. next (l, kid ∷ stage.1)) stage.0 h)
        by false e false comps h = absurd cc

    pub empty_reads : grown kind.List [] ≡ k → events ≡ rest → (stage : Stage) → no_list routes c next stage ≡ true → ReadsFrom node ss below last ks events stage
    empty_reads same es stage h = sought_empty (λ line values. next (line, kid ∷ values))
        (λ line values g hs t. subst (λ e. Reads (line ++ ss) (held.Tree (grown kind.List []) ∷ (hs ++ below)) e last) (sym es) (subst (λ x. Reads (line ++ ss) (held.Tree x ∷ (hs ++ below)) rest last) (sym same) (goes line values g hs t))) stage h

-- variables after `for all`
variables_reads : (node : Node) (c : Class) (ss : List Placed) (below last : List Held) (ks : List Node) (k : Node) (note : Bool) (events rest : List Event) (next : Stage → Bool)
    → ((s : Stage) → next s ≡ true → ReadsFrom node ss below last (k ∷ ks) rest s) → (nodes : List Node) → ListedRead note (choice.Only kind.Vars) mark.Semicolon nodes events rest → grown kind.List nodes ≡ k → (stage : Stage)
    → variables routes c note next stage ≡ true → ReadsFrom node ss below last ks (spelled note (a_word word.For) ∷ spelled note (a_word word.All) ∷ events) stage
variables_reads node c ss below last ks k note events rest next go nodes l same stage h =
    sought_empty node c ss below last ks k (spelled note (a_word word.For) ∷ spelled note (a_word word.All) ∷ events) rest
    (λ line values. drops note (a_word word.For) (drops note (a_word word.All) (listed_read routes note (choice.Only kind.Vars) mark.Semicolon (λ l. next (l, kid ∷ values)))) line)
    (λ line values g hs t.
    let first = over_token (drops note (a_word word.All) (listed_read routes note (choice.Only kind.Vars) mark.Semicolon (λ l. next (l, kid ∷ values)))) note (a_word word.For) line g in
    let second = over_token (listed_read routes note (choice.Only kind.Vars) mark.Semicolon (λ l. next (l, kid ∷ values))) note (a_word word.All) first.to first.passed in
    first.over ss (held.Tree (grown kind.List []) ∷ (hs ++ below)) (spelled note (a_word word.All) ∷ events) last
    (second.over ss (held.Tree (grown kind.List []) ∷ (hs ++ below)) events last
    (listed_reads_by node c ss below last ks k events rest next go nodes l same second.to values second.passed hs t))) stage h

-- ---- all shapes

-- the first kid has the text of a body, and is the list of an aggregate
named_kid : (node k : Node) (c : Class) (kids : List Node) → IsOf c node → is_consistent (kind_of node) (text_of node) (kids_of node) ≡ true → k ∷ kids ≡ kids_of node → is_kind c.kind kind.SubBody ≡ true → text_of k ≡ text_of node
named_kid node k c kids o h e s =
    let body : kind_of node ≡ kind.SubBody = sym o.kind ∙ same_true kind_row.the_type tt c.kind kind.SubBody s in
    let named : is_named_as (k ∷ kids) (text_of node) ≡ true = subst (λ ns. is_named_as ns (text_of node) ≡ true) (sym e) (subst (λ kd. is_consistent kd (text_of node) (kids_of node) ≡ true) body h) in
    ((bytes_decides (text_of k) (text_of node)).0 named)

component_kid : (node k : Node) (c : Class) (kids : List Node) → IsOf c node → is_consistent (kind_of node) (text_of node) (kids_of node) ≡ true → k ∷ kids ≡ kids_of node → is_kind c.kind kind.Aggr ≡ true → are_components (kids_of k) ≡ true
component_kid node k c kids o h e s =
    let aggregate : kind_of node ≡ kind.Aggr = sym o.kind ∙ same_true kind_row.the_type tt c.kind kind.Aggr s in
    subst (λ ns. has_components ns ≡ true) (sym e) (subst (λ kd. is_consistent kd (text_of node) (kids_of node) ≡ true) aggregate h)

first_passes : (front : Bool) (sort : Sort) (d : Class) → (front ≡ true → first_fits sort (Some d) ≡ true) → fits_first routes front sort d ≡ true
first_passes true sort d h = h refl
first_passes false sort d h = refl

pub one_kid : {note : Bool} {place : Choice} {k : Node} {events rest : List Event} → is_silent k ≡ true → IsRead note place k events rest → IsKidRead note (One place) k events rest
one_kid {k = k} {events = events} {rest = rest} s n = record {
  first = Some n.class;
  reads = λ node c front some ks kids a ss below last next go stage h.
      node_reads node c ss below last ks k events rest front (λ f b. named_kid node k c kids a.of a.consistent (a.at_front f) b) k (bare_silent k s) (next zero) (λ s g. go zero s g tt) n
      (first_passes front c.sort n.class a.fits) stage h;
}

unnoted : {note : Bool} {place : Choice} {first : Bool} {notes : List (List ℕ)} {events rest : List Event} → MembersRead note place first [] notes events rest → ends_with_comments (comments_of place) ≡ false → notes ≡ []
unnoted (ended_with e) f = let wrong : true ≡ false = sym e ∙ f in absurd cc
unnoted (ended e) f = refl

-- a list that takes no comments at its end, and isn't empty, has members
unlike : {note : Bool} {place : Choice} {events rest : List Event} (k : Node) (nodes : List Node) → MembersRead note place true nodes (notes_of k) events rest → nodes ≡ kids_of k → ends_with_comments (comments_of place) ≡ false → is_list k ≡ true
    → (is_empty_list k && true) ≡ false → is_empty (kids_of k) ≡ false
unlike k [] ms n f l g =
    let silent : is_silent k ≡ true = ap is_empty (unnoted ms f) in
    let no_kids : is_empty (kids_of k) ≡ true = ap is_empty (sym n) in
    let empty_so : is_empty_list k ≡ true = and_from (is_list k && is_silent k) (is_empty (kids_of k)) (and_from (is_list k) (is_silent k) l silent) no_kids in
    let wrong : true ≡ false = ap (λ b. b && true) (sym empty_so) ∙ g in
    absurd cc
unlike k (x ∷ xs) ms n f l g = ap is_empty (sym n)

pub any_kid : {note : Bool} {place : Choice} {k : Node} {events rest : List Event} → is_list k ≡ true → MembersRead note place true (kids_of k) (notes_of k) events rest → IsKidRead note (Any place) k events rest
any_kid {note = note} {place = place} {k = k} {events = events} {rest = rest} l ms = record {
  first = None;
  reads = λ node c front some ks kids a ss below last next go stage h. by some node c ks kids a.filled a.of ss below last next go stage h;
}
  where
    by : (some : ℕ) (node : Node) (c : Class) (ks kids : List Node) → Filled some (k ∷ kids) → IsOf c node → (ss : List Placed) (below last : List Held) (next : ℕ → Stage → Bool)
        → ((n : ℕ) (s : Stage) → next n s ≡ true → Filled n kids → ReadsFrom node ss below last (k ∷ ks) rest s) → (stage : Stage) → any_read routes some c note place next stage ≡ true → ReadsFrom node ss below last ks events stage
    by zero node c ks kids f o ss below last next go stage h =
        any_reads node c ss below last ks k events rest (next zero) (λ s g. go zero s g tt) (kids_of k) (notes_of k) ms (list_is k (notes_of k) l refl) stage h
    by (suc zero) node c ks kids f o ss below last next go stage h = at (ends_with_comments (comments_of place)) refl h
      where
        at : (b : Bool) → ends_with_comments (comments_of place) ≡ b → elim b as (λ b. Bool) [ true ↦ false | false ↦ filled routes c note place (next zero) stage ] ≡ true → ReadsFrom node ss below last ks events stage
        at true e h = absurd cc
        at false e h = filled_reads node c ss below last ks k events rest (next zero) (λ s g. go zero s g tt) (kids_of k) (notes_of k) ms
            (unlike k (kids_of k) ms refl e l f) (list_is k (notes_of k) l refl) stage h
    by (suc (suc n)) node c ks kids f o ss below last next go stage h = absurd cc

pub many_kid : {note : Bool} {place : Choice} {k : Node} {events rest : List Event} → is_list k ≡ true → is_empty (kids_of k) ≡ false → MembersRead note place true (kids_of k) (notes_of k) events rest → IsKidRead note (Many place) k events rest
many_kid {k = k} {events = events} {rest = rest} l n ms = record {
  first = None;
  reads = λ node c front some ks kids a ss below last next go stage h.
      filled_reads node c ss below last ks k events rest (next zero) (λ s g. go zero s g tt) (kids_of k) (notes_of k) ms n (list_is k (notes_of k) l refl) stage h;
}

pub listed_so : {note : Bool} {place : Choice} {m : Mark} {k : Node} {events rest : List Event} → is_list k ≡ true → is_silent k ≡ true → ListedRead note place m (kids_of k) events rest → IsKidRead note (Listed place m) k events rest
listed_so {k = k} {events = events} {rest = rest} l s ns = record {
  first = None;
  reads = λ node c front some ks kids a ss below last next go stage h.
      listed_reads node c ss below last ks k events rest (next zero) (λ s g. go zero s g tt) front (kids_of k) ns (silent_list_is k l s) (λ f b. component_kid node k c kids a.of a.consistent (a.at_front f) b) stage h;
}

pub some_listed_kid : {note : Bool} {place : Choice} {m : Mark} {k : Node} {events rest : List Event} → is_list k ≡ true → is_silent k ≡ true → ListedRead note place m (kids_of k) events rest → IsKidRead note (MaybeListed place m) k events rest
some_listed_kid {note = note} {place = place} {m = m} {k = k} {events = events} {rest = rest} l s ns = record {
  first = None;
  reads = λ node c front some ks kids a ss below last next go stage h.
      listed_reads node c ss below last ks k events rest (next zero) (λ s g. go zero s g tt) front (kids_of k) ns (silent_list_is k l s) (λ f b. component_kid node k c kids a.of a.consistent (a.at_front f) b) stage
      (both_parts (listed_kid routes c front note place m (next zero) stage) (no_list routes c (next zero) stage) h).0;
}

pub none_listed_kid : {note : Bool} {k : Node} {events : List Event} (place : Choice) (m : Mark) → is_empty_list k ≡ true → IsKidRead note (MaybeListed place m) k events events
none_listed_kid {note = note} {k = k} {events = events} place m e = record {
  first = None;
  reads = λ node c front some ks kids a ss below last next go stage h.
      empty_reads node c ss below last ks k events events (next zero) (λ s g. go zero s g tt) (empty_list_is k e) refl stage (both_parts (listed_kid routes c front note place m (next zero) stage) (no_list routes c (next zero) stage) h).1;
}

pub some_variables_kid : {note : Bool} {k : Node} {events rest : List Event} → is_list k ≡ true → is_silent k ≡ true → ListedRead note (choice.Only kind.Vars) mark.Semicolon (kids_of k) events rest
    → IsKidRead note ForAll k (spelled note (a_word word.For) ∷ spelled note (a_word word.All) ∷ events) rest
some_variables_kid {note = note} {k = k} {events = events} {rest = rest} l s ns = record {
  first = None;
  reads = λ node c front some ks kids a ss below last next go stage h.
      variables_reads node c ss below last ks k note events rest (next zero) (λ s g. go zero s g tt) (kids_of k) ns (silent_list_is k l s) stage
      (both_parts (variables routes c note (next zero) stage) (no_variables_read routes some c next stage) h).0;
}

pub no_variables_kid : {note : Bool} {k : Node} {events : List Event} → is_empty_list k ≡ true → IsKidRead note ForAll k events events
no_variables_kid {note = note} {k = k} {events = events} e = record {
  first = None;
  reads = λ node c front some ks kids a ss below last next go stage h.
      by some node c ks kids a.of a.filled ss below last next go stage (both_parts (variables routes c note (next zero) stage) (no_variables_read routes some c next stage) h).1;
}
  where
    by : (some : ℕ) (node : Node) (c : Class) (ks kids : List Node) → IsOf c node → Filled some (k ∷ kids) → (ss : List Placed) (below last : List Held) (next : ℕ → Stage → Bool)
        → ((n : ℕ) (s : Stage) → next n s ≡ true → Filled n kids → ReadsFrom node ss below last (k ∷ ks) events s) → (stage : Stage) → no_variables_read routes some c next stage ≡ true → ReadsFrom node ss below last ks events stage
    by zero node c ks kids o f ss below last next go stage h = empty_reads node c ss below last ks k events events (next zero) (λ s g. go zero s g tt) (empty_list_is k e) refl stage h
    by (suc zero) node c ks kids o f ss below last next go stage h =
        let wrong : true ≡ false = ap (λ b. b && true) (sym e) ∙ f in
        absurd cc
    by (suc (suc n)) node c ks kids o f ss below last next go stage h =
        empty_reads node c ss below last ks k events events (next (suc n)) (λ s g. go (suc n) s g (ap (λ b. b && are_empty (suc n) kids) (sym e) ∙ f)) (empty_list_is k e) refl stage h
