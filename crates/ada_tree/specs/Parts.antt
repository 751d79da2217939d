-- Where the parts of the grammar stand: at which place, on which side, and whether all tokens of their texts are annotation tokens.
use Rattle.std.specs.Prelude.{[], ◌∷◌, Bool, true, false, ◌&&◌, ◌||◌}
use Rattle.ada_tree.specs.declared.kind.Kind.{Kind}
use Rattle.ada_tree.specs.declared.kind.Kind.TheVariants as kind
use Rattle.ada_tree.specs.declared.grammar.Choice.{Choice}
use Rattle.ada_tree.specs.declared.grammar.Choice.TheVariants as choice
use Rattle.ada_tree.specs.declared.operator.Level.TheVariants as level
use Rattle.ada_tree.specs.declared.part.Rule.{Rule}
use Rattle.ada_tree.specs.declared.part.Rule.TheVariants as rule
use Rattle.ada_tree.specs.declared.part.Part.{Part}
use Rattle.ada_tree.specs.Kinds.{is_among}

abbrev pub place_of : Rule → Choice
place_of (rule.Of k) = choice.Only k
place_of rule.AnyItem = choice.Item
place_of rule.AnyClause = choice.Clause
place_of rule.AnyLib = choice.Lib
place_of rule.AnySpec = choice.Spec
place_of rule.AnyMark = choice.Mark
place_of rule.AnyDecl = choice.Decl
place_of rule.AnyTdef = choice.Tdef
place_of rule.AnyDis = choice.Dis
place_of rule.AnyChoices = choice.Choices
place_of rule.AnyChoice = choice.Choice
place_of rule.AnyStmt = choice.Stmt
place_of rule.AnyHead = choice.Head
place_of rule.AnyExpr = choice.Expr
place_of rule.AnyPrimary = choice.Operand level.Prefix
place_of rule.AnyArg = choice.Arg
place_of rule.AnyWclause = choice.Wclause
place_of rule.AnyTerm = choice.Expr

-- the kinds that begin an annotation: they stand outside it, and their tokens inside
abbrev pub begins_annotation : Kind → Bool
begins_annotation k = is_among k (kind.Where ∷ kind.Based ∷ kind.View ∷ kind.Invariant ∷ kind.Assert ∷ kind.Trait ∷ kind.Proof ∷ kind.Orphan ∷ [])

-- the kinds that stand in annotations alone
abbrev pub stands_in_annotations : Kind → Bool
stands_in_annotations k = is_among k (kind.Global ∷ kind.In ∷ kind.Out ∷ kind.RaiseC ∷ kind.Old ∷ kind.Result ∷ kind.All ∷ kind.Exists ∷ kind.Cond ∷ kind.Make
    ∷ kind.Incl ∷ kind.Op ∷ kind.Gen ∷ kind.Vars ∷ kind.Eqn ∷ kind.Lemma ∷ kind.Key ∷ kind.Step ∷ [])

-- the kinds that stand on both sides
abbrev pub stands_anywhere : Kind → Bool
stands_anywhere k = is_among k (kind.Id ∷ kind.Name ∷ kind.Select ∷ kind.Int ∷ kind.Binary ∷ kind.Unary ∷ kind.Apply ∷ kind.Attr ∷ kind.Assoc ∷ kind.Others ∷ kind.Choices ∷ kind.Span ∷ [])

-- the place of the part is in an annotation
abbrev pub is_noted : Part → Bool
is_noted part = by part.rule part.note
  where
    by : Rule → Bool → Bool
    by (rule.Of k) note = stands_in_annotations k || (stands_anywhere k && note)
    by rule.AnyMark note = note
    by rule.AnyChoices note = note
    by rule.AnyChoice note = note
    by rule.AnyPrimary note = note
    by rule.AnyArg note = note
    by rule.AnyWclause note = true
    by rule.AnyTerm note = true
    by _ note = false

-- all tokens of a text of the part are annotation tokens: it is written without the marks of annotation lines
abbrev pub has_noted_tokens : Part → Bool
has_noted_tokens part = is_noted part || by part.rule
  where
    by : Rule → Bool
    by (rule.Of k) = begins_annotation k
    by _ = false
