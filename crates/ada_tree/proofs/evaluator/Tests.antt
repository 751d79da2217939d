-- Tests that compute whether events spell a tree, and whether tokens and comments are read as one, and that they are right where they pass. Nothing is shown of what doesn't pass.
use Rattle.std.proofs.Common.{◌≡◌, ℕ, ◌+◌, ◌≤◌, List, [], ◌∷◌, ◌++◌, Bool, true, false, ◌&&◌, ◌||◌, if◌then◌else◌, nat_le, refl, sym, ◌∙◌, ap, subst, leb-true}
use Rattle.std.proofs.lemmas.Bool.{and_parts}
use Rattle.std.specs.List.{list_any, list_all}
use Rattle.ada_tree.specs.declared.kind.Kind.{Kind}
use Rattle.ada_tree.specs.declared.kind.Kind.TheVariants as kind
use Rattle.ada_tree.specs.declared.grammar.Choice.{Choice}
use Rattle.ada_tree.specs.declared.grammar.Choice.TheVariants as choice
use Rattle.ada_tree.specs.declared.node.Node.{Node, Node-F, out-roll-Node}
use Rattle.ada_tree.specs.Nodes.{notes_of, is_empty, greatest, nesting_of, is_nested, is_step}
use Rattle.ada_tree.specs.Tokens.{Lexeme, Sign, token, comment, Event, spelled, comments}
use Rattle.ada_tree.specs.Choices.{comments_of}
use Rattle.ada_tree.specs.Texts.{is_comment}
use Rattle.ada_tree.specs.Spelling.{keeps_comments, SpellsNode}
use Rattle.ada_tree.specs.declared.limits.TheConstants.{MOST_NESTED, MOST_NESTED_STEPS, MOST_OPEN}
use Rattle.ada_tree.specs.Reading.{Attached, dropped, waits, taken, passed, open_in, IsNested, takes_comments, IsReading}
use Rattle.ada_tree.specs.Fits.{Fits}
use Rattle.ada_tree.proofs.Trees.{Tree, tree, grown, all_grown, folded, fold_grown, tree_notes}
use Rattle.ada_tree.proofs.evaluator.Ways.{same_texts, same_texts_are, is_token, token_is, every_empty}
use Rattle.ada_tree.proofs.evaluator.Lines.{Ways, layer_ways}
use Rattle.ada_tree.proofs.evaluator.Sound.{tree_sound}

-- ---- spelling

-- all rests that a spelling of the tree may leave of the events
abbrev pub spellings : Bool → Choice → Tree → List Event → List (List Event)
spellings note place t events = (folded Ways layer_ways t).node note place events

abbrev pub is_spelled : Bool → Choice → Tree → List Event → Bool
is_spelled note place t events = list_any is_empty (spellings note place t events)

pub spells_grown : (note : Bool) (place : Choice) (t : Tree) (events : List Event) → is_spelled note place t events ≡ true → SpellsNode note place (grown t) events []
spells_grown note place t events h = every_empty (SpellsNode note place (grown t) events) (spellings note place t events) (((tree_sound t).node note place).at events) h

-- ---- comments

-- where no token and no comment is left
abbrev pub is_dropped : List (List ℕ) → List Event → Bool
is_dropped waiting [] = true
is_dropped waiting (comments notes ∷ events) = same_texts notes waiting && is_dropped [] events
is_dropped waiting (spelled note lexeme ∷ events) = false

-- where this token is next, and the rest is tested so
abbrev pub is_passed : Bool → Lexeme → (List (List ℕ) → List Event → Bool) → List (List ℕ) → List Event → Bool
is_passed note lexeme others waiting [] = false
is_passed note lexeme others waiting (comments notes ∷ events) = same_texts notes waiting && is_passed note lexeme others [] events
is_passed note lexeme others waiting (spelled other_note other ∷ events) = is_token note lexeme (spelled other_note other) && others waiting events

abbrev pub is_attached : List (List ℕ) → List Event → List Sign → Bool
is_attached waiting events [] = is_dropped waiting events
is_attached waiting events (comment text ∷ signs) = is_attached (waiting ++ text ∷ []) events signs
is_attached waiting events (token note lexeme ∷ signs) = is_passed note lexeme (λ waiting events. is_attached waiting events signs) waiting events

dropped_of : (waiting : List (List ℕ)) (events : List Event) → is_dropped waiting events ≡ true → Attached waiting events []
dropped_of waiting [] h = dropped
dropped_of waiting (comments notes ∷ events) h =
    let p = and_parts (same_texts notes waiting) (is_dropped [] events) h in
    subst (λ (texts : List (List ℕ)). Attached waiting (comments texts ∷ events) []) (sym (same_texts_are notes waiting p.0)) (taken refl (dropped_of [] events p.1))
dropped_of waiting (spelled note lexeme ∷ events) h = absurd cc

passed_of : (note : Bool) (lexeme : Lexeme) (signs : List Sign) (others : List (List ℕ) → List Event → Bool) → ((waiting : List (List ℕ)) (events : List Event) → others waiting events ≡ true → Attached waiting events signs)
    → (waiting : List (List ℕ)) (events : List Event) → is_passed note lexeme others waiting events ≡ true → Attached waiting events (token note lexeme ∷ signs)
passed_of note lexeme signs others shown waiting [] h = absurd cc
passed_of note lexeme signs others shown waiting (comments notes ∷ events) h =
    let p = and_parts (same_texts notes waiting) (is_passed note lexeme others [] events) h in
    subst (λ (texts : List (List ℕ)). Attached waiting (comments texts ∷ events) (token note lexeme ∷ signs)) (sym (same_texts_are notes waiting p.0))
    (taken refl (passed_of note lexeme signs others shown [] events p.1))
passed_of note lexeme signs others shown waiting (spelled other_note other ∷ events) h =
    let p = and_parts (is_token note lexeme (spelled other_note other)) (others waiting events) h in
    subst (λ (event : Event). Attached waiting (event ∷ events) (token note lexeme ∷ signs)) (sym (token_is note lexeme (spelled other_note other) p.0)) (passed (shown waiting events p.1))

pub attached_of : (waiting : List (List ℕ)) (events : List Event) (signs : List Sign) → is_attached waiting events signs ≡ true → Attached waiting events signs
attached_of waiting events [] h = dropped_of waiting events h
attached_of waiting events (comment text ∷ signs) h = waits (attached_of (waiting ++ text ∷ []) events signs h)
attached_of waiting events (token note lexeme ∷ signs) h =
    passed_of note lexeme signs (λ waiting events. is_attached waiting events signs) (λ waiting events. attached_of waiting events signs) waiting events h

-- ---- limits

-- `nesting_of`, of a tree
abbrev pub nesting : (Kind → Bool) → Tree → ℕ
nesting test t = folded ℕ (λ layer. (if test layer.kind then 1 else 0) + greatest layer.kids) t

abbrev pub is_within_limits : Tree → Bool
is_within_limits t = nat_le (nesting is_nested t) MOST_NESTED && nat_le (nesting is_step t) MOST_NESTED_STEPS

nested_of : (t : Tree) → is_within_limits t ≡ true → IsNested (grown t)
nested_of t h =
    let p = and_parts (nat_le (nesting is_nested t) MOST_NESTED) (nat_le (nesting is_step t) MOST_NESTED_STEPS) h in
    record {
      nodes = subst (λ (n : ℕ). n ≤ MOST_NESTED) (sym (same is_nested)) (leb-true (nesting is_nested t) MOST_NESTED p.0);
      steps = subst (λ (n : ℕ). n ≤ MOST_NESTED_STEPS) (sym (same is_step)) (leb-true (nesting is_step t) MOST_NESTED_STEPS p.1);
    }
  where
    same : (test : Kind → Bool) → nesting_of test (grown t) ≡ nesting test t
    same test = fold_grown ℕ (λ (layer : Node-F ℕ). (if test layer.kind then 1 else 0) + greatest layer.kids) t

-- ---- readings

notes_grown : (t : Tree) → notes_of (grown t) ≡ tree_notes t
notes_grown (tree k x notes kids) = ap (λ (layer : Node-F Node). layer.notes) (out-roll-Node record { kind = k; text = x; notes = notes; kids = all_grown kids })

abbrev pub tree_standing : Choice → Tree → List Event → List Event
tree_standing place t events = if takes_comments place then comments (tree_notes t) ∷ events else events

abbrev pub tree_comments_fit : Choice → Tree → Bool
tree_comments_fit place t = if takes_comments place then list_all is_comment (tree_notes t) else keeps_comments (comments_of place) || is_empty (tree_notes t)

abbrev pub is_read : Bool → Choice → List Event → List Sign → Tree → Bool
is_read note place events signs t = is_spelled note place t events && (tree_comments_fit place t && (is_attached [] (tree_standing place t events) signs && (is_within_limits t && nat_le (open_in 0 signs) MOST_OPEN)))

pub reads_grown : (note : Bool) (place : Choice) (events : List Event) (signs : List Sign) (t : Tree) → is_read note place events signs t ≡ true → IsReading note place signs (grown t)
reads_grown note place events signs t h =
    let p = and_parts (is_spelled note place t events) (tree_comments_fit place t && (is_attached [] (tree_standing place t events) signs && (is_within_limits t && nat_le (open_in 0 signs) MOST_OPEN))) h in
    let o = and_parts (tree_comments_fit place t) (is_attached [] (tree_standing place t events) signs && (is_within_limits t && nat_le (open_in 0 signs) MOST_OPEN)) p.1 in
    let q = and_parts (is_attached [] (tree_standing place t events) signs) (is_within_limits t && nat_le (open_in 0 signs) MOST_OPEN) o.1 in
    let r = and_parts (is_within_limits t) (nat_le (open_in 0 signs) MOST_OPEN) q.1 in
    record {
      reading = record {
        events = events;
        spelling = spells_grown note place t events p.0;
        fitting = ap (λ (notes : List (List ℕ)). if takes_comments place then list_all is_comment notes else keeps_comments (comments_of place) || is_empty notes) (notes_grown t) ∙ o.0;
        attached = subst (λ (notes : List (List ℕ)). Attached [] (if takes_comments place then comments notes ∷ events else events) signs) (sym (notes_grown t)) (attached_of [] (tree_standing place t events) signs q.0);
      };
      nested = nested_of t r.0;
      opened = leb-true (open_in 0 signs) MOST_OPEN r.1;
    }

abbrev pub fits : List Event → Tree → Bool
fits events t = is_spelled false (choice.Only kind.Doc) t events && is_within_limits t

pub fits_grown : (events : List Event) (t : Tree) → fits events t ≡ true → Fits (grown t)
fits_grown events t h =
    let p = and_parts (is_spelled false (choice.Only kind.Doc) t events) (is_within_limits t) h in
    record { events = events; spelling = spells_grown false (choice.Only kind.Doc) t events p.0; nested = nested_of t p.1 }
