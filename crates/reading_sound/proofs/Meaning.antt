-- What traces say: what was read between two states, and what became of the values.
use Rattle.std.proofs.Common.{◌≡◌, ℕ, List, [], ◌∷◌, ◌++◌, Bool, true, false, map}
use Rattle.std.specs.Prelude.{codes, if◌then◌else◌}
use Rattle.std.specs.Char.{to_ascii_uppercase}
use Rattle.std.specs.List.{list_all, list_any}
use Rattle.base_kit.specs.Bytes as byte
use Rattle.ada_tree.specs.declared.grammar.Choice.{Choice}
use Rattle.ada_tree.specs.declared.kind.Kind.{Kind}
use Rattle.ada_tree.specs.declared.kind.Kind.TheVariants as kind
use Rattle.ada_tree.specs.declared.node.Node.{Node}
use Rattle.ada_tree.specs.declared.word.Mark.{Mark}
use Rattle.ada_tree.specs.declared.word.Mark.TheVariants as mark
use Rattle.ada_tree.specs.declared.word.Word.TheVariants as word
use Rattle.ada_tree.specs.Choices.{comments_of}
use Rattle.ada_tree.specs.Items.{lexemes}
use Rattle.ada_tree.specs.Nodes.{notes_of, is_silent, node_of}
use Rattle.ada_tree.specs.Rules.{arguments_of}
use Rattle.ada_tree.specs.Spelling.{SpellsNode, SpellsMembers, SpellsListed, ends_with_comments}
use Rattle.ada_tree.specs.Texts.{is_big, is_small, is_name, is_number, is_comment, is_dot, name_items}
use Rattle.ada_tree.specs.Tokens.{Lexeme, a_name, a_number, a_word, a_mark, Event, spelled, comments, spell}
use Rattle.reading_table.specs.declared.held.Held.{Held}
use Rattle.reading_table.specs.declared.held.Held.TheVariants as held
use Rattle.reading_table.specs.States.{joined as joined_values, end_noted, with_notes, text_below}
use Rattle.reading_table.specs.Tables.{Has}
use Rattle.reading_table.specs.TokenSets.{arguments_in, has_form}
use Rattle.reading_sound.proofs.Traces.{Word, big, named, small, number, entry, Text, simple, says, ruled, by_rule, dotted, Trace, written, told, stood, joined, begun, absent, rest, tail, closing, recalled, waiting, ended, lost, Stack}

-- ---- texts

-- the text is such a word, and these are its tokens
abbrev pub IsWord : Bool → Word → List ℕ → List Lexeme → Type 0
IsWord note big text ls = (is_big note text ≡ true) × (ls ≡ a_name text ∷ [])
IsWord note named text ls = (is_name note text ≡ true) × (list_any is_dot text ≡ false) × (ls ≡ lexemes (name_items text))
IsWord note small text ls = (is_small text ≡ true) × (ls ≡ a_name (map to_ascii_uppercase text) ∷ [])
IsWord note number text ls = (is_number text ≡ true) × (ls ≡ a_number text ∷ [])
IsWord note entry text ls = (text ≡ codes "entry") × (ls ≡ a_word word.Entry ∷ [])

pub data AreDotted : List Word → List ℕ → List Lexeme → Type 0 where
  one : {w : Word} {text : List ℕ} {ls : List Lexeme} → IsWord true w text ls → AreDotted (w ∷ []) text ls
  more : {w : Word} {ws : List Word} (text others : List ℕ) (ls ms : List Lexeme) → IsWord true w text ls → AreDotted ws others ms
      → AreDotted (w ∷ ws) (text ++ byte.dot ∷ others) (ls ++ a_mark mark.Dot ∷ ms)

abbrev pub IsText : Bool → Text → List ℕ → List Lexeme → Type 0
IsText note (simple w) text ls = IsWord note w text ls
IsText note (says t ms) text ls = (text ≡ t) × (ls ≡ ms)
IsText note (ruled f) text ls = (is_big note text ≡ true) × (has_form f text ≡ true) × (ls ≡ a_name text ∷ [])
IsText note (by_rule f) text ls = (is_small text ≡ true) × (arguments_of text ≡ arguments_in f) × (ls ≡ a_name (map to_ascii_uppercase text) ∷ [])
IsText note (dotted ws) text ls = AreDotted ws text ls

-- ---- nodes

-- the events spell the node at each of these places, whatever comments belong to it
abbrev pub StandsAt : Bool → List Choice → Node → List Event → List Event → Type 0
StandsAt note places node e f = (p : Choice) → Has places p → (notes : List (List ℕ)) → SpellsNode note p (with_notes notes node) e f

-- and those that do come before it, or none do
pub data IsMember : Bool → Bool → List Choice → Node → List Event → List Event → Type 0 where
  alone : {note : Bool} {places : List Choice} {node : Node} {e f : List Event} → is_silent node ≡ true → StandsAt note places node e f → IsMember note false places node e f
  commented : {note : Bool} {places : List Choice} {node : Node} {e f : List Event} → list_all is_comment (notes_of node) ≡ true → StandsAt note places node e f
      → IsMember note true places node (comments (notes_of node) ∷ e) f

-- members after the first one, each with the mark before it
pub data AreMore : Bool → Choice → Mark → List Node → List Event → List Event → Type 0 where
  no_others : {note : Bool} {p : Choice} {m : Mark} {e : List Event} → AreMore note p m [] e e
  others : {note : Bool} {p : Choice} {m : Mark} {nodes : List Node} {e f : List Event} → SpellsListed note p m nodes e f
      → AreMore note p m nodes (spelled note (a_mark m) ∷ e) f

-- ---- values

-- the nodes become members of the list that is the last value
abbrev pub all_joined : List Node → List Held → List Held
all_joined [] values = values
all_joined (node ∷ nodes) values = all_joined nodes (joined_values (held.Tree node ∷ values))

-- the list ends, at this place of its members
abbrev pub end_joined : Choice → List (List ℕ) → List Held → List Held
end_joined p notes values = if ends_with_comments (comments_of p) then end_noted notes values else values

-- ---- traces

pub data Leaves : Trace → List Held → List Event → List Held → List Event → Type 0 where
  writes : {note : Bool} {l : Lexeme} {v : List Held} {e : List Event} → Leaves (written note l) v (spelled note l ∷ e) v e
  tells : {note : Bool} {t : Text} {text : List ℕ} {v : List Held} {e f : List Event} (ls : List Lexeme) → IsText note t text ls → e ≡ spell note ls f
      → Leaves (told note t) v e (held.Text text ∷ v) f
  stands : {note c : Bool} {places : List Choice} {node : Node} {v : List Held} {e f : List Event} → IsMember note c places node e f
      → Leaves (stood note c places) v e (held.Tree node ∷ v) f
  joins : {note c : Bool} {places : List Choice} {node : Node} {v : List Held} {e f : List Event} → IsMember note c places node e f
      → Leaves (joined note c places) v e (joined_values (held.Tree node ∷ v)) f
  begins : {k : Kind} {v : List Held} {e : List Event} → Leaves (begun k) v e (held.Tree (node_of k [] [] []) ∷ v) e
  omits : {v : List Held} {e : List Event} → Leaves absent v e (held.Tree (node_of kind.None [] [] []) ∷ v) e
  goes_on : {note : Bool} {p : Choice} {nodes : List Node} {notes : List (List ℕ)} {v : List Held} {e f : List Event} → SpellsMembers note p false nodes notes e f
      → Leaves (rest note p) v e (end_joined p notes (all_joined nodes v)) f
  goes_on_listed : {note : Bool} {p : Choice} {m : Mark} {nodes : List Node} {v : List Held} {e f : List Event} → AreMore note p m nodes e f
      → Leaves (tail note p m) v e (all_joined nodes v) f
  closes : {note : Bool} {d : ℕ} {v : List Held} {e : List Event} → is_big note (text_below d v) ≡ true → Leaves (closing note d) v (spelled note (a_name (text_below d v)) ∷ e) v e
  recalls : {d : ℕ} {v : List Held} {e : List Event} → Leaves (recalled d) v e (held.Text (text_below d v) ∷ v) e
  waits : {notes : List (List ℕ)} {v : List Held} {e : List Event} → list_all is_comment notes ≡ true → Leaves waiting v (comments notes ∷ e) (held.Comments notes ∷ v) e
  ends : {notes : List (List ℕ)} {v : List Held} {e : List Event} → list_all is_comment notes ≡ true → Leaves ended v (comments notes ∷ e) (end_noted notes v) e
  loses : {v w : List Held} {e f : List Event} → Leaves lost v e w f

-- all traces of a stack
pub data Runs : Stack → List Held → List Event → List Held → List Event → Type 0 where
  nothing : {v : List Held} {e : List Event} → Runs [] v e v e
  last : {trace : Trace} {stack : Stack} {v w x : List Held} {e f g : List Event} → Runs stack v e w f → Leaves trace w f x g → Runs (trace ∷ stack) v e x g

-- the same, the first one first
pub data Path : List Trace → List Held → List Event → List Held → List Event → Type 0 where
  at_end : {v : List Held} {e : List Event} → Path [] v e v e
  next : {trace : Trace} {traces : List Trace} {v w x : List Held} {e f g : List Event} → Leaves trace v e w f → Path traces w f x g → Path (trace ∷ traces) v e x g

-- one of several stacks
abbrev pub RunsOne : List Stack → List Held → List Event → List Held → List Event → Type 0
RunsOne stacks v e w f = (stack : Stack) × Has stacks stack × Runs stack v e w f
