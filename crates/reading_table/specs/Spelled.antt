-- What it is for the reading table to read exactly what is spelled, for each part of the grammar that stands by itself.
use Rattle.std.specs.Prelude.{List, Bool, true, false}
use Rattle.std.specs.List.{list_all}
use Rattle.ada_tree.specs.declared.kind.Kind.TheVariants as kind
use Rattle.ada_tree.specs.declared.node.Node.{Node}
use Rattle.ada_tree.specs.declared.part.Part.{Part as GrammarPart}
use Rattle.ada_tree.specs.declared.part.Rule.{Rule as GrammarRule}
use Rattle.ada_tree.specs.declared.part.Rule.TheVariants as rule
use Rattle.ada_tree.specs.Parts.{place_of, is_noted}
use Rattle.ada_tree.specs.Spelling.{SpellsNode}
use Rattle.ada_tree.specs.Texts.{is_comment}
use Rattle.ada_tree.specs.Tokens.{Event, spelled, comments}
use Rattle.lex_ada.specs.Rendered.{is_fitting}
use Rattle.reading_table.specs.Rows.{Placed}
use Rattle.reading_table.specs.Starts.{start}

-- tokens and comments that there are in texts
abbrev pub is_event : Event → Bool
is_event (spelled note lexeme) = is_fitting note lexeme
is_event (comments texts) = list_all is_comment texts

abbrev pub are_events : List Event → Bool
are_events events = list_all is_event events

-- documents, lists and what is left out have no texts of their own
abbrev pub has_texts : GrammarPart → Bool
has_texts part = by part.rule
  where
    by : GrammarRule → Bool
    by (rule.Of kind.Doc) = false
    by (rule.Of kind.List) = false
    by (rule.Of kind.None) = false
    by _ = true

-- the events begin with a spelling of the node as the part, and `rest` is left of them
abbrev pub SpelledAs : GrammarPart → Node → List Event → List Event → Type 0
SpelledAs part node events rest = SpellsNode (is_noted part) (place_of part.rule) node events rest

-- with which symbols the table reads the part
abbrev pub start_of : GrammarPart → List Placed
start_of part = start (is_noted part) (place_of part.rule)
