-- The arguments of a proof step, read from their traces.
use Rattle.std.proofs.Common.{◌≡◌, List, [], ◌∷◌, ◌++◌, refl, sym, ◌∙◌, ap, subst, Bool, true, false, ◌&&◌, Option, Some, None, append_assoc}
use Rattle.std.specs.Prelude.{if◌then◌else◌, option_and_then}
use denote.Enum.Bare.{same_true}
use Rattle.ada_tree.specs.contracts.kind.Kind as kind_row
use Rattle.ada_tree.specs.declared.grammar.Argument.{Argument}
use Rattle.ada_tree.specs.declared.grammar.Argument.TheVariants as argument
use Rattle.ada_tree.specs.declared.grammar.Choice.{Choice}
use Rattle.ada_tree.specs.declared.kind.Kind.TheVariants as kind
use Rattle.ada_tree.specs.declared.node.Node.{Node}
use Rattle.ada_tree.specs.declared.word.Mark.TheVariants as mark
use Rattle.ada_tree.specs.Spelling.{SpellsListed, no_more, an_argument, a_list, no_list, argument_place, listed_place}
use Rattle.ada_tree.specs.Tokens.{Event, spelled, a_mark}
use Rattle.reading_table.specs.declared.held.Held.{Held}
use Rattle.reading_table.specs.declared.held.Held.TheVariants as held
use Rattle.reading_table.specs.Reading.{is_side}
use Rattle.text_laws.proofs.round_trip.Places.{both}
use Rattle.ada_tree.proofs.evaluator.Ways.{same_lexeme, same_lexeme_is}
use Rattle.reading_sound.proofs.Equal.{if_so_some, one_side}
use Rattle.reading_sound.proofs.Kids.{ArgumentsRead, OneRead, one_read, none_read, number_read, close_read}
use Rattle.reading_sound.proofs.Lists.{holding, all_listed, path_at}
use Rattle.reading_sound.proofs.Meaning.{writes, begins, Path, next}
use Rattle.reading_sound.proofs.Traces.{Trace, written, begun}
use Rattle.reading_sound.proofs.Walks.{past_first, past_one, past_close, past_parentheses, past_arguments, past_argument_list, is_list_kind}

-- a list in parentheses, or none
in_parentheses_read : {note : Bool} {kids : List Node} {v w : List Held} {e f : List Event} (a : Argument) (p : Choice) (traces others : List Trace) → listed_place a ≡ Some p
    → past_parentheses note (Some p) traces ≡ Some others → Path traces (held.Tree (holding kind.List kids []) ∷ v) e w f → ArgumentsRead note (a ∷ []) kids v e others w f
in_parentheses_read {note = note} {kids = kids} {v = v} {w = w} {f = f} a p (written n l ∷ traces) others q h (next (writes {e = e}) path) = by (is_side note n && same_lexeme l (a_mark mark.Open)) refl h
  where
    closed : (o : Option (List Trace)) → past_first note p mark.Comma traces ≡ o → past_close note o ≡ Some others → ArgumentsRead note (a ∷ []) kids v (spelled note (a_mark mark.Open) ∷ e) others w f
    closed None g h = absurd cc
    closed (Some inner) g h =
        let r = all_listed traces inner g path in
        let c = close_read inner others h r.after in
        record {
          nodes = r.node ∷ r.nodes;
          events = c.0;
          spelled = a_list q (subst (λ f. SpellsListed note p mark.Comma (r.node ∷ r.nodes) e f) c.1 r.spelled);
          after = c.2;
        }

    by : (b : Bool) → (is_side note n && same_lexeme l (a_mark mark.Open)) ≡ b → (if b then past_close note (past_first note p mark.Comma traces) else Some (written n l ∷ traces)) ≡ Some others
        → ArgumentsRead note (a ∷ []) kids v (spelled n l ∷ e) others w f
    by true g h =
        subst (λ e. ArgumentsRead note (a ∷ []) kids v e others w f) (ap (λ n. spelled n (a_mark mark.Open) ∷ e) (one_side note n (both g).0) ∙ ap (λ l. spelled n l ∷ e) (sym (same_lexeme_is l (a_mark mark.Open) (both g).1)))
        (closed (past_first note p mark.Comma traces) refl h)
    by false g h = none_read h (no_list q) (next writes path)
in_parentheses_read a p _ others q h path = none_read h (no_list q) path

single_read : {note : Bool} {kids : List Node} {v w : List Held} {e f : List Event} (a : Argument) (p : Choice) (traces others : List Trace) → argument_place a ≡ Some p
    → past_one note (Some p) traces ≡ Some others → Path traces (held.Tree (holding kind.List kids []) ∷ v) e w f → ArgumentsRead note (a ∷ []) kids v e others w f
single_read a p traces others q h path =
    let r = one_read p traces others h path in
    record { nodes = r.node ∷ []; events = r.events; spelled = an_argument q r.silent r.spelled no_more; after = r.after }

-- an argument before others
before_others : {note : Bool} {args : List Argument} {kids : List Node} {v w : List Held} {e f : List Event} (a : Argument) (p : Choice) {traces : List Trace} → argument_place a ≡ Some p
    → (r : OneRead note p kids v e traces w f) {others : List Trace} → ArgumentsRead note args (kids ++ r.node ∷ []) v r.events others w f → ArgumentsRead note (a ∷ args) kids v e others w f
before_others {kids = kids} {v = v} {w = w} {f = f} a p q r {others = others} more = record {
  nodes = r.node ∷ more.nodes;
  events = more.events;
  spelled = an_argument q r.silent r.spelled more.spelled;
  after = subst (λ ks. Path others (held.Tree (holding kind.List ks []) ∷ v) more.events w f) (append_assoc kids (r.node ∷ []) more.nodes) more.after;
}

-- the first of several
after_first : {note : Bool} {kids : List Node} {v w : List Held} {e f : List Event} (a : Argument) (args : List Argument) (o : Option Choice) (traces others : List Trace) → argument_place a ≡ o
    → option_and_then (past_arguments note args) (past_one note o traces) ≡ Some others
    → ((kids : List Node) (e : List Event) (traces : List Trace) → past_arguments note args traces ≡ Some others → Path traces (held.Tree (holding kind.List kids []) ∷ v) e w f
    → ArgumentsRead note args kids v e others w f)
    → Path traces (held.Tree (holding kind.List kids []) ∷ v) e w f → ArgumentsRead note (a ∷ args) kids v e others w f
after_first a args None traces others q h more path = absurd cc
after_first {note = note} {kids = kids} {v = v} {w = w} {e = e} {f = f} a args (Some p) traces others q h more path = by (past_one note (Some p) traces) refl h
  where
    by : (o : Option (List Trace)) → past_one note (Some p) traces ≡ o → option_and_then (past_arguments note args) o ≡ Some others → ArgumentsRead note (a ∷ args) kids v e others w f
    by None g h = absurd cc
    by (Some inner) g h = let r = one_read p traces inner g path in before_others a p q r (more (kids ++ r.node ∷ []) r.events inner h r.after)

pub arguments_read : {note : Bool} {kids : List Node} {v w : List Held} {e f : List Event} (args : List Argument) (traces others : List Trace) → past_arguments note args traces ≡ Some others
    → Path traces (held.Tree (holding kind.List kids []) ∷ v) e w f → ArgumentsRead note args kids v e others w f
arguments_read [] traces others h path = none_read h no_more path
arguments_read (argument.InNumber ∷ []) traces others h path = number_read traces others h path
arguments_read (argument.Number ∷ []) traces others h path = single_read argument.Number _ traces others refl h path
arguments_read (argument.Name ∷ []) traces others h path = single_read argument.Name _ traces others refl h path
arguments_read (argument.LemmaName ∷ []) traces others h path = single_read argument.LemmaName _ traces others refl h path
arguments_read (argument.Term ∷ []) traces others h path = single_read argument.Term _ traces others refl h path
arguments_read (argument.Names ∷ []) traces others h path = in_parentheses_read argument.Names _ traces others refl h path
arguments_read (argument.Terms ∷ []) traces others h path = in_parentheses_read argument.Terms _ traces others refl h path
arguments_read (argument.Coefficients ∷ []) traces others h path = in_parentheses_read argument.Coefficients _ traces others refl h path
arguments_read {note = note} (a ∷ b ∷ args) traces others h path = after_first a (b ∷ args) (argument_place a) traces others refl h (λ kids e traces h path. arguments_read (b ∷ args) traces others h path) path

pub argument_list_read : {note : Bool} {v w : List Held} {e f : List Event} (args : List Argument) (traces others : List Trace) → past_argument_list note args traces ≡ Some others → Path traces v e w f
    → ArgumentsRead note args [] v e others w f
argument_list_read {note = note} {v = v} args (begun k ∷ traces) others h (next begins path) =
    let g = if_so_some (is_list_kind k) (past_arguments note args traces) others h in
    arguments_read args traces others g.1 (path_at refl (ap (λ k. held.Tree (holding k [] []) ∷ v) (same_true kind_row.the_type tt k kind.List g.0)) path)
argument_list_read args _ others h path = absurd cc
