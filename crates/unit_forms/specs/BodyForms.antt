-- What the code finds a node of a body to be.
use Rattle.std.specs.Prelude.{List, Option}
use Rattle.std.specs.Option.{option_copied, option_map}
use Rattle.ada_tree.specs.declared.node.Node.{Node}
use Rattle.unit_forms.specs.declared.statements.StmtForm.{StmtForm}
use Rattle.unit_forms.specs.declared.statements.StmtForm.TheVariants as form
use Rattle.unit_forms.specs.declared.statements.HeadForm.{HeadForm}
use Rattle.unit_forms.specs.declared.statements.HeadForm.TheVariants as head
use Rattle.unit_forms.specs.declared.statements.PartForm.{PartForm}
use Rattle.unit_forms.specs.declared.statements.PartForm.TheVariants as part
use Rattle.unit_forms.specs.declared.statements.SequenceForm.{SequenceForm}
use Rattle.unit_forms.specs.declared.statements.SequenceForm.TheVariants as sequence
use Rattle.unit_forms.specs.declared.declarations.DeclForm.{DeclForm}
use Rattle.unit_forms.specs.declared.declarations.DeclForm.TheVariants as declares
use Rattle.unit_forms.specs.declared.declarations.DefinitionForm.{DefinitionForm}
use Rattle.unit_forms.specs.declared.declarations.DefinitionForm.TheVariants as defines
use Rattle.unit_forms.specs.declared.declarations.LimitsForm.{LimitsForm}
use Rattle.unit_forms.specs.declared.declarations.LimitsForm.TheVariants as limits
use Rattle.unit_forms.specs.Syntax.{Expr, odd, Range, Choices, some_of, no_option}
use Rattle.unit_forms.specs.Forms.{IsLess}
use Rattle.unit_forms.specs.Bodies.{Ids, Limits, unlimited, limited, Component, Definition, enumeration, integers, array, record_of, odd_definition, Decl, object, constant, number, type, subtype, uses, exceptions, private, view, subprogram, subprogram_body, odd_decl, Head, forever, while, for, Stmt, null, assign, call, branch, choose, loop, block, exit, give, raise, claim, odd_stmt, Stmts, done, Elsifs, Alts, Handlers, no_handler, shown, is_there}

-- ---- parts of a node

-- an expression, a range and choices, as a body has them
abbrev pub expr_at : Node → Expr
expr_at node = (shown node).seen.expr

abbrev pub dis_at : Node → Range
dis_at node = (shown node).seen.range

abbrev pub options_at : Node → Choices
options_at node = (shown node).seen.choices

-- the texts of the names in a list, and the expressions in one
abbrev pub ids_of : Node → Ids
ids_of list = (shown list).texts

abbrev pub exprs_of : Node → List Expr
exprs_of list = (shown list).exprs

abbrev pub limits_of : Node → Limits
limits_of node = (shown node).limits

abbrev pub definition_of : Node → Definition
definition_of node = (shown node).definition

abbrev pub components_of : Node → List Component
components_of list = (shown list).components

abbrev pub decls_of : Node → List Decl
decls_of list = (shown list).decls

abbrev pub stmts_of : Node → Stmts
stmts_of list = (shown list).stmts

abbrev pub elsifs_of : Node → Elsifs
elsifs_of list = (shown list).elsifs

abbrev pub alts_of : Node → Alts
alts_of list = (shown list).alts

abbrev pub handlers_of : Node → Handlers
handlers_of list = (shown list).handlers

abbrev pub optional_of : Option Node → Option Expr
optional_of part = option_map expr_at part

-- ---- statements

abbrev pub head_in : HeadForm → Head
head_in head.Forever = forever
head_in (head.While c) = while (expr_at c.now)
head_in (head.For reverse text r) = for reverse text.now (dis_at r.now)
head_in head.Odd = while odd

abbrev pub stmt_in : StmtForm → Stmt
stmt_in form.Null = null
stmt_in (form.Assign t v) = assign (expr_at t.now) (expr_at v.now)
stmt_in (form.Call e) = call (expr_at e.now)
stmt_in (form.If c ss es o) = branch (expr_at c.now) (stmts_of ss.now) (elsifs_of es.now) (stmts_of o.now)
stmt_in (form.Case e alts) = choose (expr_at e.now) (alts_of alts.now)
stmt_in (form.Loop h i ss) = loop (shown h.now).head (is_there (shown i.now)) (stmts_of ss.now)
stmt_in (form.Block ds s) = block (decls_of ds.now) (shown s.now).sequence (shown s.now).caught
stmt_in (form.Exit c) = exit (optional_of (option_copied c))
stmt_in (form.Return e) = give (optional_of (option_copied e))
stmt_in (form.Raise m) = raise (optional_of (option_copied m))
stmt_in form.Assert = claim
stmt_in form.Odd = odd_stmt

-- ---- parts of statements

-- of an Elsif
abbrev pub condition_in : PartForm → Expr
condition_in (part.Of c ss) = expr_at c.now
condition_in part.Odd = odd

-- of an alternative or a handler
abbrev pub chosen_in : PartForm → Choices
chosen_in (part.Of cs ss) = options_at cs.now
chosen_in part.Odd = some_of no_option

abbrev pub inside_in : PartForm → Stmts
inside_in (part.Of c ss) = stmts_of ss.now
inside_in part.Odd = done

abbrev pub sequence_in : SequenceForm → Stmts
sequence_in (sequence.Of ss hs) = stmts_of ss.now
sequence_in sequence.Odd = done

abbrev pub caught_in : SequenceForm → Handlers
caught_in (sequence.Of ss hs) = handlers_of hs.now
caught_in sequence.Odd = no_handler

-- ---- declarations

abbrev pub limits_in : LimitsForm → Limits
limits_in limits.Unlimited = unlimited
limits_in (limits.Limited a b) = limited (expr_at a.now) (expr_at b.now)

abbrev pub definition_in : DefinitionForm → Definition
definition_in (defines.Enumeration ids) = enumeration (ids_of ids.now)
definition_in (defines.Integers a b) = integers (expr_at a.now) (expr_at b.now)
definition_in (defines.Array r m) = array (dis_at r.now) (expr_at m.now)
definition_in (defines.Record cs) = record_of (components_of cs.now)
definition_in defines.Odd = odd_definition

abbrev pub decl_in : DeclForm → Decl
decl_in (declares.Object ids m l v) = object (ids_of ids.now) (expr_at m.now) (limits_of l.now) (optional_of (option_copied v))
decl_in (declares.Constant ids m l v) = constant (ids_of ids.now) (expr_at m.now) (limits_of l.now) (expr_at v.now)
decl_in (declares.Number ids v) = number (ids_of ids.now) (expr_at v.now)
decl_in (declares.Type d) = type (definition_of d.now)
decl_in (declares.Subtype m l) = subtype (expr_at m.now) (limits_of l.now)
decl_in (declares.Use names) = uses (exprs_of names.now)
decl_in (declares.Exceptions ids) = exceptions (ids_of ids.now)
decl_in declares.Private = private
decl_in declares.View = view
decl_in declares.Subprogram = subprogram
decl_in declares.SubprogramBody = subprogram_body
decl_in declares.Odd = odd_decl

-- ---- what is smaller than the node

abbrev pub StmtBelow : Node → StmtForm → Type 0
StmtBelow node (form.If c ss es o) = IsLess ss.now node × (IsLess es.now node × IsLess o.now node)
StmtBelow node (form.Case e alts) = IsLess alts.now node
StmtBelow node (form.Loop h i ss) = IsLess ss.now node
StmtBelow node (form.Block ds s) = IsLess s.now node
StmtBelow node _ = Unit {0}

abbrev pub PartBelow : Node → PartForm → Type 0
PartBelow node (part.Of c ss) = IsLess ss.now node
PartBelow node part.Odd = Unit {0}

abbrev pub SequenceBelow : Node → SequenceForm → Type 0
SequenceBelow node (sequence.Of ss hs) = IsLess ss.now node × IsLess hs.now node
SequenceBelow node sequence.Odd = Unit {0}
