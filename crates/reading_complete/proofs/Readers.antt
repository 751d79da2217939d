-- The rules that read each node of a place.
use Rattle.std.proofs.Common.{Bool, true, false, Option, Some, None}
use Rattle.ada_tree.specs.declared.kind.Kind.{Kind}
use Rattle.ada_tree.specs.declared.kind.Kind.TheVariants as kind
use Rattle.ada_tree.specs.declared.grammar.Choice.{Choice}
use Rattle.ada_tree.specs.declared.grammar.Choice.TheVariants as choice
use Rattle.ada_tree.specs.declared.operator.Level.TheVariants as level
use Rattle.ada_tree.specs.declared.operator.Side.{Side}
use Rattle.ada_tree.specs.declared.operator.Side.TheVariants as a_side
use Rattle.ada_tree.specs.Choices.{has_side}
use Rattle.reading_table.specs.declared.rule.Rule.{Rule}
use Rattle.reading_table.specs.declared.rule.Rule.TheVariants as rule

-- the rule that reads each node of a place, and all of it, and on which side
abbrev pub rule_of_kind : Kind → Option (Side × Rule)
rule_of_kind kind.Id = Some (a_side.Both, rule.Id)
rule_of_kind kind.Name = Some (a_side.Both, rule.Name)
rule_of_kind kind.Int = Some (a_side.Both, rule.Int)
rule_of_kind kind.Formals = Some (a_side.Ada, rule.Formals)
rule_of_kind kind.Formal = Some (a_side.Ada, rule.Formal)
rule_of_kind kind.Range = Some (a_side.Ada, rule.Range)
rule_of_kind kind.Seq = Some (a_side.Ada, rule.Seq)
rule_of_kind kind.Handler = Some (a_side.Ada, rule.Handler)
rule_of_kind kind.Elsif = Some (a_side.Ada, rule.Elsif)
rule_of_kind kind.Alt = Some (a_side.Ada, rule.Alt)
rule_of_kind kind.Comp = Some (a_side.Ada, rule.Comp)
rule_of_kind kind.Where = Some (a_side.Ada, rule.Where)
rule_of_kind kind.Based = Some (a_side.Ada, rule.Based)
rule_of_kind kind.Invariant = Some (a_side.Ada, rule.Invariant)
rule_of_kind kind.Incl = Some (a_side.Note, rule.Incl)
rule_of_kind kind.Op = Some (a_side.Note, rule.Op)
rule_of_kind kind.Gen = Some (a_side.Note, rule.Gen)
rule_of_kind kind.Vars = Some (a_side.Note, rule.Vars)
rule_of_kind kind.Eqn = Some (a_side.Note, rule.Eqn)
rule_of_kind kind.Lemma = Some (a_side.Note, rule.Lemma)
rule_of_kind kind.Step = Some (a_side.Note, rule.Step)
rule_of_kind kind.Key = Some (a_side.Note, rule.Key)
rule_of_kind _ = None

abbrev pub rule_of_place : Choice → Option (Side × Rule)
rule_of_place (choice.Only k) = rule_of_kind k
rule_of_place choice.Item = Some (a_side.Ada, rule.Item)
rule_of_place choice.Clause = Some (a_side.Ada, rule.Clause)
rule_of_place choice.Lib = Some (a_side.Ada, rule.Lib)
rule_of_place choice.Spec = Some (a_side.Ada, rule.Spec)
rule_of_place choice.Mark = Some (a_side.Both, rule.Mark)
rule_of_place choice.Decl = Some (a_side.Ada, rule.Decl)
rule_of_place choice.Tdef = Some (a_side.Ada, rule.Tdef)
rule_of_place choice.Dis = Some (a_side.Ada, rule.Dis)
rule_of_place choice.Choices = Some (a_side.Both, rule.Choices)
rule_of_place choice.Choice = Some (a_side.Both, rule.Choice)
rule_of_place choice.Stmt = Some (a_side.Ada, rule.Stmt)
rule_of_place choice.Head = Some (a_side.Ada, rule.Head)
rule_of_place choice.Expr = Some (a_side.Both, rule.Expr)
rule_of_place choice.Arg = Some (a_side.Both, rule.Arg)
rule_of_place choice.Wclause = Some (a_side.Note, rule.Wclause)
rule_of_place (choice.Operand level.Term) = Some (a_side.Both, rule.Expr)
rule_of_place (choice.Operand level.Implication) = Some (a_side.Note, rule.Implication)
rule_of_place (choice.Operand level.Relation) = Some (a_side.Both, rule.Rel)
rule_of_place (choice.Operand level.Sum) = Some (a_side.Both, rule.Sum)
rule_of_place (choice.Operand level.Signed) = Some (a_side.Both, rule.Signed)
rule_of_place (choice.Operand level.Product) = Some (a_side.Both, rule.Product)
rule_of_place (choice.Operand level.Factor) = Some (a_side.Both, rule.Factor)
rule_of_place (choice.Operand level.Primary) = Some (a_side.Both, rule.Primary)
rule_of_place (choice.Operand level.Prefix) = Some (a_side.Both, rule.Prefix)
rule_of_place choice.Bound = Some (a_side.Both, rule.Sum)
rule_of_place choice.Coefficient = Some (a_side.Note, rule.Coefficient)
rule_of_place choice.LemmaName = Some (a_side.Note, rule.LemmaName)
rule_of_place _ = None

abbrev pub on_side : Bool → Option (Side × Rule) → Option Rule
on_side note None = None
on_side note (Some (s, r)) = elim (has_side note s) [ true ↦ Some r | false ↦ None ]

abbrev pub reader : Bool → Choice → Option Rule
reader note place = on_side note (rule_of_place place)
