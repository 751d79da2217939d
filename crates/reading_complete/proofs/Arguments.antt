-- Arguments of proof steps, where a line reads them.
use Rattle.std.proofs.Common.{◌≡◌, List, [], ◌∷◌, ◌++◌, refl, subst, Bool, true, false, Some, None}
use Rattle.ada_tree.specs.declared.kind.Kind.TheVariants as kind
use Rattle.ada_tree.specs.declared.word.Mark.TheVariants as mark
use Rattle.ada_tree.specs.declared.word.Word.TheVariants as word
use Rattle.ada_tree.specs.declared.grammar.Argument.{Argument}
use Rattle.ada_tree.specs.declared.grammar.Argument.TheVariants as argument
use Rattle.ada_tree.specs.declared.grammar.Choice.{Choice}
use Rattle.ada_tree.specs.declared.grammar.Choice.TheVariants as choice
use Rattle.ada_tree.specs.declared.node.Node.{Node}
use Rattle.ada_tree.specs.Nodes.{is_silent}
use Rattle.ada_tree.specs.Spelling.{argument_place, listed_place}
use Rattle.ada_tree.specs.Tokens.{Event, spelled, a_word, a_mark}
use Rattle.reading_table.specs.declared.held.Held.TheVariants as held
use Rattle.reading_table.specs.Rows.{Placed}
use Rattle.reading_complete.proofs.Held.{grown, bare_silent}
use Rattle.reading_complete.proofs.Lazy.{both_parts}
use Rattle.reading_complete.proofs.Members.{ListedRead, LeadsList, over_none, over_both, over_member, over_listed, over_token}
use Rattle.reading_complete.proofs.Nodes.{IsRead}
use Rattle.reading_complete.proofs.Routes.{routes}
use Rattle.reading_complete.proofs.Seeking.{drops}
use Rattle.reading_complete.proofs.Walks.{member, listed_read, argument_by, arguments_read}

-- The arguments are read wherever the test of their line passes.
pub record AreRead (note : Bool) (line : List Argument) (nodes : List Node) (events rest : List Event) : Type 0 where
  pub reads : (next : List Placed → Bool) (front : List Placed) → arguments_read routes line note next front ≡ true → LeadsList next nodes events rest front

pub no_arguments : (note : Bool) (events : List Event) → AreRead note [] [] events events
no_arguments note events = record { reads = λ next front h. over_none next events front h }

no_place : (a : Argument) (place : Choice) → listed_place a ≡ Some place → argument_place a ≡ None
no_place argument.Names place e = refl
no_place argument.Terms place e = refl
no_place argument.Coefficients place e = refl
no_place _ place e = absurd cc

pub one_argument : {note : Bool} {a : Argument} {others : List Argument} {place : Choice} {node : Node} {nodes : List Node} {events middle rest : List Event}
    → argument_place a ≡ Some place → is_silent node ≡ true → IsRead note place node events middle → AreRead note others nodes middle rest → AreRead note (a ∷ others) (node ∷ nodes) events rest
one_argument {note = note} {a = a} {others = others} {place = place} {node = node} {nodes = nodes} {events = events} {middle = middle} {rest = rest} e s n go = record {
  reads = λ next front h.
      let o = over_member false (arguments_read routes others note next) front n (λ x. bare_silent node s) (subst (λ p. argument_by routes p (listed_place a) a note next (arguments_read routes others note next) front ≡ true) e h) in
      over_both next node nodes events middle rest front o.to o.over (go.reads next o.to o.passed);
}

pub in_a_number : {note : Bool} {node : Node} {events rest : List Event} → is_silent node ≡ true → IsRead note (choice.Only kind.Int) node events rest
    → AreRead note (argument.InNumber ∷ []) (node ∷ []) (spelled note (a_word word.In) ∷ events) rest
in_a_number {note = note} {node = node} {events = events} {rest = rest} s n = record {
  reads = λ next front h.
      let parts = both_parts (next front) (drops note (a_word word.In) (member routes note (choice.Only kind.Int) false next) front) h in
      let t = over_token (member routes note (choice.Only kind.Int) false next) note (a_word word.In) front parts.1 in
      let o = over_member false next t.to n (λ x. bare_silent node s) t.passed in
      record { to = o.to; passed = o.passed; over = λ k so_far ss below last d. t.over ss (held.Tree (grown k so_far) ∷ below) events last (o.over k so_far ss below last d) };
}

pub no_number : {note : Bool} (events : List Event) → AreRead note (argument.InNumber ∷ []) [] events events
no_number {note = note} events = record { reads = λ next front h. over_none next events front (both_parts (next front) (drops note (a_word word.In) (member routes note (choice.Only kind.Int) false next) front) h).0 }

of_list : (note : Bool) (a : Argument) (place : Choice) (next : List Placed → Bool) (front : List Placed) → listed_place a ≡ Some place → arguments_read routes (a ∷ []) note next front ≡ true
    → (next front ≡ true) × (drops note (a_mark mark.Open) (listed_read routes note place mark.Comma (drops note (a_mark mark.Close) next)) front ≡ true)
of_list note a place next front e h =
    both_parts (next front) (drops note (a_mark mark.Open) (listed_read routes note place mark.Comma (drops note (a_mark mark.Close) next)) front)
    (subst (λ q. argument_by routes None q a note next (arguments_read routes [] note next) front ≡ true) e (subst (λ p. argument_by routes p (listed_place a) a note next (arguments_read routes [] note next) front ≡ true) (no_place a place e) h))

pub a_list_so : {note : Bool} {a : Argument} {place : Choice} {nodes : List Node} {events rest : List Event} → listed_place a ≡ Some place → ListedRead note place mark.Comma nodes events (spelled note (a_mark mark.Close) ∷ rest)
    → AreRead note (a ∷ []) nodes (spelled note (a_mark mark.Open) ∷ events) rest
a_list_so {note = note} {a = a} {place = place} {nodes = nodes} {events = events} {rest = rest} e l = record {
  reads = λ next front h.
      let opened = over_token (listed_read routes note place mark.Comma (drops note (a_mark mark.Close) next)) note (a_mark mark.Open) front (of_list note a place next front e h).1 in
      let o = over_listed l (drops note (a_mark mark.Close) next) opened.to opened.passed in
      let close = over_token next note (a_mark mark.Close) o.to o.passed in
      record {
        to = close.to;
        passed = close.passed;
        over = λ k so_far ss below last d. opened.over ss (held.Tree (grown k so_far) ∷ below) events last (o.over k so_far ss below last (close.over ss (held.Tree (grown k (so_far ++ nodes)) ∷ below) rest last d));
      };
}

pub no_list_so : {note : Bool} (a : Argument) (place : Choice) (events : List Event) → listed_place a ≡ Some place → AreRead note (a ∷ []) [] events events
no_list_so {note = note} a place events e = record { reads = λ next front h. over_none next events front (of_list note a place next front e h).0 }
