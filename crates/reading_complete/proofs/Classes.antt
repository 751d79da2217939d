-- The classes of nodes: by kind, and where that matters by operator, by mode, by the arguments of a rule of proof, or by what stands
-- before the dot. The nodes of a class have one line.
use Rattle.std.proofs.Common.{ℕ, List, [], ◌∷◌, ◌++◌, Bool, true, false, map, codes}
use Rattle.ada_tree.specs.declared.kind.Kind.{Kind}
use Rattle.ada_tree.specs.declared.kind.Kind.TheVariants as kind
use Rattle.ada_tree.specs.declared.grammar.Choice.{Choice}
use Rattle.ada_tree.specs.declared.grammar.Choice.TheVariants as choice
use Rattle.ada_tree.specs.declared.grammar.Piece.{Piece}
use Rattle.ada_tree.specs.declared.lines.expressions.TheConstants.{SELECT, SELECT_OF_MARK, SELECT_OF_LEMMA, COEFFICIENT}
use Rattle.ada_tree.specs.declared.operator.TheConstants.{OPERATORS}
use Rattle.ada_tree.specs.Choices.{stands, opens}
use Rattle.ada_tree.specs.Kinds.{is_kind}
use Rattle.ada_tree.specs.Lines.{line_of_kind}
use Rattle.ada_tree.specs.Operators.{OperatorRow, operator_line}
use Rattle.reading_table.specs.declared.symbol.Form.{Form}
use Rattle.reading_table.specs.declared.symbol.Form.TheVariants as form

-- what a class has beside its kind and its text
pub data Sort : Type 0 where
  -- nothing
  plain : Sort
  -- names alone stand before the dot, or something else; or names where only names may; or a trait's name before a lemma's
  of_names of_others of_mark of_lemma : Sort
  -- the sign of a coefficient
  of_coefficient : Sort
  -- an expression in parentheses, of whichever kind
  in_brackets : Sort
  -- a proof step by a rule whose arguments are of the form
  by_form : Form → Sort

-- Where the text isn't empty, it is that of the nodes.
pub record Class : Type 0 where
  pub kind : Kind
  pub text : List ℕ
  pub sort : Sort
  pub line : List Piece

abbrev pub plain_kinds : List Kind
plain_kinds =
    kind.Doc ∷ kind.File ∷ kind.Unit ∷ kind.With ∷ kind.Use ∷ kind.Pack ∷ kind.Body ∷ kind.SubDecl ∷ kind.SubBody ∷ kind.Proc ∷ kind.Func ∷ kind.Formals
    ∷ kind.Id ∷ kind.Name ∷ kind.Obj ∷ kind.Const ∷ kind.Num ∷ kind.Range ∷ kind.TypeDecl ∷ kind.Enum ∷ kind.Arr ∷ kind.Rec ∷ kind.Comp ∷ kind.Subtype
    ∷ kind.Exc ∷ kind.Private ∷ kind.Span ∷ kind.RangeOf ∷ kind.Seq ∷ kind.Handler ∷ kind.Others ∷ kind.Choices ∷ kind.Null ∷ kind.Assign ∷ kind.Call
    ∷ kind.If ∷ kind.Elsif ∷ kind.Case ∷ kind.Alt ∷ kind.Loop ∷ kind.Block ∷ kind.Exit ∷ kind.Return ∷ kind.Raise ∷ kind.Assert ∷ kind.While ∷ kind.For
    ∷ kind.Reverse ∷ kind.Int ∷ kind.Apply ∷ kind.Attr ∷ kind.Assoc ∷ kind.Aggr ∷ kind.Where ∷ kind.In ∷ kind.Out ∷ kind.RaiseC ∷ kind.Based ∷ kind.View
    ∷ kind.Invariant ∷ kind.Old ∷ kind.Result ∷ kind.All ∷ kind.Exists ∷ kind.Cond ∷ kind.Trait ∷ kind.Incl ∷ kind.Op ∷ kind.Gen ∷ kind.Vars ∷ kind.Eqn
    ∷ kind.Lemma ∷ kind.Proof ∷ kind.Orphan ∷ kind.Key ∷ kind.List ∷ kind.None ∷ []

abbrev pub plain_class : Kind → Class
plain_class k = record { kind = k; text = []; sort = plain; line = line_of_kind k }

abbrev pub told_class : Kind → List ℕ → Class
told_class k text = record { kind = k; text = text; sort = plain; line = line_of_kind k }

abbrev pub operator_class : OperatorRow → Class
operator_class row = record { kind = row.0.kind; text = row.1.now; sort = plain; line = operator_line row.0.operator }

abbrev pub select_class : Sort → List Piece → Class
select_class sort pieces = record { kind = kind.Select; text = []; sort = sort; line = pieces }

abbrev pub step_class : Form → Class
step_class f = record { kind = kind.Step; text = []; sort = by_form f; line = line_of_kind kind.Step }

abbrev pub range_class : Class
range_class = record { kind = kind.Step; text = codes "range"; sort = by_form form.Term; line = line_of_kind kind.Step }

abbrev pub coefficient_class : Class
coefficient_class = record { kind = kind.Unary; text = codes "-"; sort = of_coefficient; line = COEFFICIENT.now }

abbrev pub bracket_class : Class
bracket_class = record { kind = kind.None; text = []; sort = in_brackets; line = [] }

abbrev pub forms : List Form
forms = form.Plain ∷ form.Number ∷ form.Name ∷ form.NumberTerm ∷ form.Term ∷ form.NumberName ∷ form.NumberIn ∷ form.NameIn ∷ form.NameNames ∷ form.Coefficients ∷ form.Lemma ∷ []

abbrev pub other_classes : List Class
other_classes =
    told_class kind.Formal (codes "in") ∷ told_class kind.Formal (codes "out") ∷ told_class kind.Formal (codes "in out")
    ∷ told_class kind.Global (codes "in") ∷ told_class kind.Global (codes "in out")
    ∷ select_class of_names SELECT.now ∷ select_class of_mark SELECT_OF_MARK.now ∷ select_class of_others SELECT.now ∷ select_class of_lemma SELECT_OF_LEMMA.now
    ∷ coefficient_class ∷ range_class ∷ bracket_class ∷ []

abbrev pub classes : List Class
classes = map plain_class plain_kinds ++ (map operator_class OPERATORS ++ (map step_class forms ++ other_classes))

-- ---- where the nodes of a class stand

abbrev pub is_of_mark : Choice → Bool
is_of_mark choice.Mark = true
is_of_mark choice.Dis = true
is_of_mark _ = false

abbrev pub is_of_lemma : Choice → Bool
is_of_lemma choice.LemmaName = true
is_of_lemma _ = false

abbrev pub is_of_coefficient : Choice → Bool
is_of_coefficient choice.Coefficient = true
is_of_coefficient _ = false

abbrev admitted : Sort → Bool → Choice → Class → Bool
admitted plain note place c = elim (is_of_coefficient place) [ true ↦ elim (is_kind c.kind kind.Unary) [ true ↦ false | false ↦ stands note place c.kind c.text ] | false ↦ stands note place c.kind c.text ]
admitted of_names note place c = elim (is_of_lemma place) [ true ↦ false | false ↦ stands note place c.kind c.text ]
admitted of_others note place c = elim (is_of_lemma place) [ true ↦ false | false ↦ elim (is_of_mark place) [ true ↦ false | false ↦ stands note place c.kind c.text ] ]
admitted of_mark note place c = elim (is_of_lemma place) [ true ↦ false | false ↦ stands note place c.kind c.text ]
admitted of_lemma note place c = is_of_lemma place
admitted of_coefficient note place c = is_of_coefficient place
admitted in_brackets note place c = opens place
admitted (by_form f) note place c = stands note place c.kind c.text

abbrev pub admits : Bool → Choice → Class → Bool
admits note place c = admitted c.sort note place c
