-- For each rule, in the order of the table, the sets of tokens that may not follow it: on either side. They are a witness that
-- the tests check; nothing else stands on them.
use Rattle.std.specs.Prelude.{List, [], ◌∷◌, Bool, true, false}
use Rattle.ada_tree.specs.declared.word.Word.TheVariants as word
use Rattle.ada_tree.specs.declared.word.Mark.TheVariants as mark
use Rattle.reading_table.specs.declared.symbol.Tokens.{Tokens}
use Rattle.reading_table.specs.declared.symbol.Tokens.TheVariants as tokens

abbrev pub TokenSet : Type 0
TokenSet = Bool × Tokens

abbrev ada : Tokens → TokenSet
ada set = (false, set)

abbrev note : Tokens → TokenSet
note set = (true, set)

abbrev items : List TokenSet
items = ada (tokens.Word word.Function) ∷ ada (tokens.Word word.Package) ∷ ada (tokens.Word word.Procedure) ∷ ada (tokens.Word word.Use) ∷ ada (tokens.Word word.With) ∷ note (tokens.Word word.Orphan) ∷ note (tokens.Word word.Proof) ∷ note (tokens.Word word.Trait) ∷ note (tokens.Word word.Where) ∷ []

abbrev item : List TokenSet
item = note (tokens.Word word.Where) ∷ []

abbrev clauses : List TokenSet
clauses = ada (tokens.Word word.Use) ∷ ada (tokens.Word word.With) ∷ []

abbrev maybe_private : List TokenSet
maybe_private = ada tokens.Name ∷ ada (tokens.Word word.Function) ∷ ada (tokens.Word word.Private) ∷ ada (tokens.Word word.Procedure) ∷ ada (tokens.Word word.Subtype) ∷ ada (tokens.Word word.Type) ∷ ada (tokens.Word word.Use) ∷ note (tokens.Word word.Based) ∷ note (tokens.Word word.View) ∷ note (tokens.Word word.Where) ∷ []

abbrev close_body : List TokenSet
close_body = ada tokens.Name ∷ []

abbrev decls : List TokenSet
decls = ada tokens.Name ∷ ada (tokens.Word word.Function) ∷ ada (tokens.Word word.Procedure) ∷ ada (tokens.Word word.Subtype) ∷ ada (tokens.Word word.Type) ∷ ada (tokens.Word word.Use) ∷ note (tokens.Word word.Based) ∷ note (tokens.Word word.View) ∷ note (tokens.Word word.Where) ∷ []

abbrev spec : List TokenSet
spec = ada (tokens.Mark mark.Dot) ∷ ada (tokens.Mark mark.Open) ∷ []

abbrev proc : List TokenSet
proc = ada (tokens.Mark mark.Open) ∷ []

abbrev func : List TokenSet
func = ada (tokens.Mark mark.Dot) ∷ []

abbrev more_formals : List TokenSet
more_formals = ada (tokens.Mark mark.Dot) ∷ ada (tokens.Mark mark.Semicolon) ∷ []

abbrev mode : List TokenSet
mode = ada (tokens.Word word.In) ∷ ada (tokens.Word word.Out) ∷ []

abbrev mode_out : List TokenSet
mode_out = ada (tokens.Word word.Out) ∷ []

abbrev text_note : List TokenSet
text_note = note (tokens.Mark mark.AtSign) ∷ []

abbrev ids_ada : List TokenSet
ids_ada = ada (tokens.Mark mark.Comma) ∷ []

abbrev ids_note : List TokenSet
ids_note = note (tokens.Mark mark.AtSign) ∷ note (tokens.Mark mark.Comma) ∷ []

abbrev mark_note : List TokenSet
mark_note = note (tokens.Mark mark.AtSign) ∷ note (tokens.Mark mark.Dot) ∷ []

abbrev marks : List TokenSet
marks = note (tokens.Mark mark.AtSign) ∷ note (tokens.Mark mark.Comma) ∷ note (tokens.Mark mark.Dot) ∷ []

abbrev decl : List TokenSet
decl = note (tokens.Word word.Based) ∷ note (tokens.Word word.Where) ∷ []

abbrev maybe_range : List TokenSet
maybe_range = ada tokens.Adding ∷ ada (tokens.Mark mark.Dot) ∷ ada (tokens.Mark mark.Open) ∷ ada (tokens.Mark mark.Tick) ∷ ada tokens.Multiplying ∷ ada (tokens.Word word.Range) ∷ []

abbrev maybe_init : List TokenSet
maybe_init = ada tokens.Adding ∷ ada (tokens.Mark mark.Becomes) ∷ ada (tokens.Mark mark.Dot) ∷ ada (tokens.Mark mark.Dots) ∷ ada (tokens.Mark mark.Open) ∷ ada (tokens.Mark mark.Tick) ∷ ada tokens.Multiplying ∷ ada tokens.Relational ∷ ada (tokens.Word word.And) ∷ ada (tokens.Word word.In) ∷ ada (tokens.Word word.Not) ∷ ada (tokens.Word word.Or) ∷ ada (tokens.Word word.Xor) ∷ []

abbrev range : List TokenSet
range = ada tokens.Adding ∷ ada (tokens.Mark mark.Dot) ∷ ada (tokens.Mark mark.Open) ∷ ada (tokens.Mark mark.Tick) ∷ ada tokens.Multiplying ∷ []

abbrev type : List TokenSet
type = note (tokens.Word word.Based) ∷ []

abbrev dis : List TokenSet
dis = ada tokens.Adding ∷ ada (tokens.Mark mark.Dot) ∷ ada (tokens.Mark mark.Dots) ∷ ada (tokens.Mark mark.Open) ∷ ada (tokens.Mark mark.Tick) ∷ ada tokens.Multiplying ∷ []

abbrev seq : List TokenSet
seq = ada tokens.Adding ∷ ada tokens.Highest ∷ ada (tokens.Mark mark.Open) ∷ ada tokens.Name ∷ ada tokens.Number ∷ ada (tokens.Word word.Begin) ∷ ada (tokens.Word word.Case) ∷ ada (tokens.Word word.Declare) ∷ ada (tokens.Word word.Exception) ∷ ada (tokens.Word word.Exit) ∷ ada (tokens.Word word.For) ∷ ada (tokens.Word word.If) ∷ ada (tokens.Word word.Loop) ∷ ada (tokens.Word word.Null) ∷ ada (tokens.Word word.Raise) ∷ ada (tokens.Word word.Return) ∷ ada (tokens.Word word.When) ∷ ada (tokens.Word word.While) ∷ note (tokens.Word word.Assert) ∷ []

abbrev stmts : List TokenSet
stmts = ada tokens.Adding ∷ ada tokens.Highest ∷ ada (tokens.Mark mark.Open) ∷ ada tokens.Name ∷ ada tokens.Number ∷ ada (tokens.Word word.Begin) ∷ ada (tokens.Word word.Case) ∷ ada (tokens.Word word.Declare) ∷ ada (tokens.Word word.Exit) ∷ ada (tokens.Word word.For) ∷ ada (tokens.Word word.If) ∷ ada (tokens.Word word.Loop) ∷ ada (tokens.Word word.Null) ∷ ada (tokens.Word word.Raise) ∷ ada (tokens.Word word.Return) ∷ ada (tokens.Word word.While) ∷ note (tokens.Word word.Assert) ∷ []

abbrev more_handlers : List TokenSet
more_handlers = ada tokens.Adding ∷ ada tokens.Highest ∷ ada (tokens.Mark mark.Open) ∷ ada tokens.Name ∷ ada tokens.Number ∷ ada (tokens.Word word.Begin) ∷ ada (tokens.Word word.Case) ∷ ada (tokens.Word word.Declare) ∷ ada (tokens.Word word.Exit) ∷ ada (tokens.Word word.For) ∷ ada (tokens.Word word.If) ∷ ada (tokens.Word word.Loop) ∷ ada (tokens.Word word.Null) ∷ ada (tokens.Word word.Raise) ∷ ada (tokens.Word word.Return) ∷ ada (tokens.Word word.When) ∷ ada (tokens.Word word.While) ∷ note (tokens.Word word.Assert) ∷ []

abbrev elsifs : List TokenSet
elsifs = ada tokens.Adding ∷ ada tokens.Highest ∷ ada (tokens.Mark mark.Open) ∷ ada tokens.Name ∷ ada tokens.Number ∷ ada (tokens.Word word.Begin) ∷ ada (tokens.Word word.Case) ∷ ada (tokens.Word word.Declare) ∷ ada (tokens.Word word.Elsif) ∷ ada (tokens.Word word.Exit) ∷ ada (tokens.Word word.For) ∷ ada (tokens.Word word.If) ∷ ada (tokens.Word word.Loop) ∷ ada (tokens.Word word.Null) ∷ ada (tokens.Word word.Raise) ∷ ada (tokens.Word word.Return) ∷ ada (tokens.Word word.While) ∷ note (tokens.Word word.Assert) ∷ []

abbrev maybe_else : List TokenSet
maybe_else = ada tokens.Adding ∷ ada tokens.Highest ∷ ada (tokens.Mark mark.Open) ∷ ada tokens.Name ∷ ada tokens.Number ∷ ada (tokens.Word word.Begin) ∷ ada (tokens.Word word.Case) ∷ ada (tokens.Word word.Declare) ∷ ada (tokens.Word word.Else) ∷ ada (tokens.Word word.Exit) ∷ ada (tokens.Word word.For) ∷ ada (tokens.Word word.If) ∷ ada (tokens.Word word.Loop) ∷ ada (tokens.Word word.Null) ∷ ada (tokens.Word word.Raise) ∷ ada (tokens.Word word.Return) ∷ ada (tokens.Word word.While) ∷ note (tokens.Word word.Assert) ∷ []

abbrev maybe_head : List TokenSet
maybe_head = ada tokens.Adding ∷ ada (tokens.Mark mark.Dot) ∷ ada (tokens.Mark mark.Dots) ∷ ada (tokens.Mark mark.Open) ∷ ada (tokens.Mark mark.Tick) ∷ ada tokens.Multiplying ∷ ada tokens.Relational ∷ ada (tokens.Word word.And) ∷ ada (tokens.Word word.For) ∷ ada (tokens.Word word.In) ∷ ada (tokens.Word word.Not) ∷ ada (tokens.Word word.Or) ∷ ada (tokens.Word word.While) ∷ ada (tokens.Word word.Xor) ∷ []

abbrev maybe_invariant : List TokenSet
maybe_invariant = note (tokens.Word word.Invariant) ∷ []

abbrev head : List TokenSet
head = ada tokens.Adding ∷ ada (tokens.Mark mark.Dot) ∷ ada (tokens.Mark mark.Dots) ∷ ada (tokens.Mark mark.Open) ∷ ada (tokens.Mark mark.Tick) ∷ ada tokens.Multiplying ∷ ada tokens.Relational ∷ ada (tokens.Word word.And) ∷ ada (tokens.Word word.In) ∷ ada (tokens.Word word.Not) ∷ ada (tokens.Word word.Or) ∷ ada (tokens.Word word.Xor) ∷ []

abbrev maybe_declare : List TokenSet
maybe_declare = ada tokens.Name ∷ ada (tokens.Word word.Declare) ∷ ada (tokens.Word word.Function) ∷ ada (tokens.Word word.Procedure) ∷ ada (tokens.Word word.Subtype) ∷ ada (tokens.Word word.Type) ∷ ada (tokens.Word word.Use) ∷ note (tokens.Word word.Based) ∷ note (tokens.Word word.View) ∷ note (tokens.Word word.Where) ∷ []

abbrev maybe_when : List TokenSet
maybe_when = ada tokens.Adding ∷ ada (tokens.Mark mark.Dot) ∷ ada (tokens.Mark mark.Dots) ∷ ada (tokens.Mark mark.Open) ∷ ada (tokens.Mark mark.Tick) ∷ ada tokens.Multiplying ∷ ada tokens.Relational ∷ ada (tokens.Word word.And) ∷ ada (tokens.Word word.In) ∷ ada (tokens.Word word.Not) ∷ ada (tokens.Word word.Or) ∷ ada (tokens.Word word.When) ∷ ada (tokens.Word word.Xor) ∷ []

abbrev maybe_expr : List TokenSet
maybe_expr = ada tokens.Adding ∷ ada tokens.Highest ∷ ada (tokens.Mark mark.Dot) ∷ ada (tokens.Mark mark.Dots) ∷ ada (tokens.Mark mark.Open) ∷ ada (tokens.Mark mark.Tick) ∷ ada tokens.Multiplying ∷ ada tokens.Name ∷ ada tokens.Number ∷ ada tokens.Relational ∷ ada (tokens.Word word.And) ∷ ada (tokens.Word word.In) ∷ ada (tokens.Word word.Not) ∷ ada (tokens.Word word.Or) ∷ ada (tokens.Word word.Xor) ∷ []

abbrev maybe_mark : List TokenSet
maybe_mark = ada (tokens.Mark mark.Dot) ∷ ada tokens.Name ∷ []

abbrev choices_ada : List TokenSet
choices_ada = ada tokens.Adding ∷ ada (tokens.Mark mark.Bar) ∷ ada (tokens.Mark mark.Dot) ∷ ada (tokens.Mark mark.Dots) ∷ ada (tokens.Mark mark.Open) ∷ ada (tokens.Mark mark.Tick) ∷ ada tokens.Multiplying ∷ ada tokens.Relational ∷ ada (tokens.Word word.And) ∷ ada (tokens.Word word.In) ∷ ada (tokens.Word word.Not) ∷ ada (tokens.Word word.Or) ∷ ada (tokens.Word word.Xor) ∷ []

abbrev choices_note : List TokenSet
choices_note = note tokens.Adding ∷ note (tokens.Mark mark.AtSign) ∷ note (tokens.Mark mark.Bar) ∷ note (tokens.Mark mark.Dot) ∷ note (tokens.Mark mark.Dots) ∷ note (tokens.Mark mark.Open) ∷ note (tokens.Mark mark.Tick) ∷ note tokens.Multiplying ∷ note tokens.Relational ∷ note (tokens.Word word.And) ∷ note (tokens.Word word.Iff) ∷ note (tokens.Word word.Implies) ∷ note (tokens.Word word.Or) ∷ note (tokens.Word word.Xor) ∷ []

abbrev choice_note : List TokenSet
choice_note = note tokens.Adding ∷ note (tokens.Mark mark.AtSign) ∷ note (tokens.Mark mark.Dot) ∷ note (tokens.Mark mark.Dots) ∷ note (tokens.Mark mark.Open) ∷ note (tokens.Mark mark.Tick) ∷ note tokens.Multiplying ∷ note tokens.Relational ∷ note (tokens.Word word.And) ∷ note (tokens.Word word.Iff) ∷ note (tokens.Word word.Implies) ∷ note (tokens.Word word.Or) ∷ note (tokens.Word word.Xor) ∷ []

abbrev args_ada : List TokenSet
args_ada = ada tokens.Adding ∷ ada (tokens.Mark mark.Arrow) ∷ ada (tokens.Mark mark.Bar) ∷ ada (tokens.Mark mark.Comma) ∷ ada (tokens.Mark mark.Dot) ∷ ada (tokens.Mark mark.Dots) ∷ ada (tokens.Mark mark.Open) ∷ ada (tokens.Mark mark.Tick) ∷ ada tokens.Multiplying ∷ ada tokens.Relational ∷ ada (tokens.Word word.And) ∷ ada (tokens.Word word.In) ∷ ada (tokens.Word word.Not) ∷ ada (tokens.Word word.Or) ∷ ada (tokens.Word word.Xor) ∷ []

abbrev args_note : List TokenSet
args_note = note tokens.Adding ∷ note (tokens.Mark mark.Arrow) ∷ note (tokens.Mark mark.AtSign) ∷ note (tokens.Mark mark.Bar) ∷ note (tokens.Mark mark.Comma) ∷ note (tokens.Mark mark.Dot) ∷ note (tokens.Mark mark.Dots) ∷ note (tokens.Mark mark.Open) ∷ note (tokens.Mark mark.Tick) ∷ note tokens.Multiplying ∷ note tokens.Relational ∷ note (tokens.Word word.And) ∷ note (tokens.Word word.Iff) ∷ note (tokens.Word word.Implies) ∷ note (tokens.Word word.Or) ∷ note (tokens.Word word.Xor) ∷ []

abbrev arg_ada : List TokenSet
arg_ada = ada tokens.Adding ∷ ada (tokens.Mark mark.Arrow) ∷ ada (tokens.Mark mark.Bar) ∷ ada (tokens.Mark mark.Dot) ∷ ada (tokens.Mark mark.Dots) ∷ ada (tokens.Mark mark.Open) ∷ ada (tokens.Mark mark.Tick) ∷ ada tokens.Multiplying ∷ ada tokens.Relational ∷ ada (tokens.Word word.And) ∷ ada (tokens.Word word.In) ∷ ada (tokens.Word word.Not) ∷ ada (tokens.Word word.Or) ∷ ada (tokens.Word word.Xor) ∷ []

abbrev arg_note : List TokenSet
arg_note = note tokens.Adding ∷ note (tokens.Mark mark.Arrow) ∷ note (tokens.Mark mark.AtSign) ∷ note (tokens.Mark mark.Bar) ∷ note (tokens.Mark mark.Dot) ∷ note (tokens.Mark mark.Dots) ∷ note (tokens.Mark mark.Open) ∷ note (tokens.Mark mark.Tick) ∷ note tokens.Multiplying ∷ note tokens.Relational ∷ note (tokens.Word word.And) ∷ note (tokens.Word word.Iff) ∷ note (tokens.Word word.Implies) ∷ note (tokens.Word word.Or) ∷ note (tokens.Word word.Xor) ∷ []

abbrev arg_expr_note : List TokenSet
arg_expr_note = note tokens.Adding ∷ note (tokens.Mark mark.Arrow) ∷ note (tokens.Mark mark.AtSign) ∷ note (tokens.Mark mark.Bar) ∷ note (tokens.Mark mark.Dot) ∷ note (tokens.Mark mark.Open) ∷ note (tokens.Mark mark.Tick) ∷ note tokens.Multiplying ∷ note tokens.Relational ∷ note (tokens.Word word.And) ∷ note (tokens.Word word.Iff) ∷ note (tokens.Word word.Implies) ∷ note (tokens.Word word.Or) ∷ note (tokens.Word word.Xor) ∷ []

abbrev assoc_tail_note : List TokenSet
assoc_tail_note = note tokens.Adding ∷ note (tokens.Mark mark.AtSign) ∷ note (tokens.Mark mark.Dot) ∷ note (tokens.Mark mark.Open) ∷ note (tokens.Mark mark.Tick) ∷ note tokens.Multiplying ∷ note tokens.Relational ∷ note (tokens.Word word.And) ∷ note (tokens.Word word.Iff) ∷ note (tokens.Word word.Implies) ∷ note (tokens.Word word.Or) ∷ note (tokens.Word word.Xor) ∷ []

abbrev rel_ada : List TokenSet
rel_ada = ada tokens.Adding ∷ ada (tokens.Mark mark.Dot) ∷ ada (tokens.Mark mark.Dots) ∷ ada (tokens.Mark mark.Open) ∷ ada (tokens.Mark mark.Tick) ∷ ada tokens.Multiplying ∷ ada tokens.Relational ∷ ada (tokens.Word word.In) ∷ ada (tokens.Word word.Not) ∷ []

abbrev rel_note : List TokenSet
rel_note = note tokens.Adding ∷ note (tokens.Mark mark.AtSign) ∷ note (tokens.Mark mark.Dot) ∷ note (tokens.Mark mark.Open) ∷ note (tokens.Mark mark.Tick) ∷ note tokens.Multiplying ∷ note tokens.Relational ∷ []

abbrev log_tail_note : List TokenSet
log_tail_note = note tokens.Adding ∷ note (tokens.Mark mark.AtSign) ∷ note (tokens.Mark mark.Dot) ∷ note (tokens.Mark mark.Open) ∷ note (tokens.Mark mark.Tick) ∷ note tokens.Multiplying ∷ note tokens.Relational ∷ note (tokens.Word word.And) ∷ note (tokens.Word word.Or) ∷ note (tokens.Word word.Xor) ∷ []

abbrev and_rest_ada : List TokenSet
and_rest_ada = ada tokens.Adding ∷ ada (tokens.Mark mark.Dot) ∷ ada (tokens.Mark mark.Dots) ∷ ada (tokens.Mark mark.Open) ∷ ada (tokens.Mark mark.Tick) ∷ ada tokens.Multiplying ∷ ada tokens.Relational ∷ ada (tokens.Word word.And) ∷ ada (tokens.Word word.In) ∷ ada (tokens.Word word.Not) ∷ []

abbrev and_rest_note : List TokenSet
and_rest_note = note tokens.Adding ∷ note (tokens.Mark mark.AtSign) ∷ note (tokens.Mark mark.Dot) ∷ note (tokens.Mark mark.Open) ∷ note (tokens.Mark mark.Tick) ∷ note tokens.Multiplying ∷ note tokens.Relational ∷ note (tokens.Word word.And) ∷ []

abbrev or_rest_ada : List TokenSet
or_rest_ada = ada tokens.Adding ∷ ada (tokens.Mark mark.Dot) ∷ ada (tokens.Mark mark.Dots) ∷ ada (tokens.Mark mark.Open) ∷ ada (tokens.Mark mark.Tick) ∷ ada tokens.Multiplying ∷ ada tokens.Relational ∷ ada (tokens.Word word.In) ∷ ada (tokens.Word word.Not) ∷ ada (tokens.Word word.Or) ∷ []

abbrev or_rest_note : List TokenSet
or_rest_note = note tokens.Adding ∷ note (tokens.Mark mark.AtSign) ∷ note (tokens.Mark mark.Dot) ∷ note (tokens.Mark mark.Open) ∷ note (tokens.Mark mark.Tick) ∷ note tokens.Multiplying ∷ note tokens.Relational ∷ note (tokens.Word word.Or) ∷ []

abbrev xor_tail_ada : List TokenSet
xor_tail_ada = ada tokens.Adding ∷ ada (tokens.Mark mark.Dot) ∷ ada (tokens.Mark mark.Dots) ∷ ada (tokens.Mark mark.Open) ∷ ada (tokens.Mark mark.Tick) ∷ ada tokens.Multiplying ∷ ada tokens.Relational ∷ ada (tokens.Word word.In) ∷ ada (tokens.Word word.Not) ∷ ada (tokens.Word word.Xor) ∷ []

abbrev xor_tail_note : List TokenSet
xor_tail_note = note tokens.Adding ∷ note (tokens.Mark mark.AtSign) ∷ note (tokens.Mark mark.Dot) ∷ note (tokens.Mark mark.Open) ∷ note (tokens.Mark mark.Tick) ∷ note tokens.Multiplying ∷ note tokens.Relational ∷ note (tokens.Word word.Xor) ∷ []

abbrev implication : List TokenSet
implication = note tokens.Adding ∷ note (tokens.Mark mark.AtSign) ∷ note (tokens.Mark mark.Dot) ∷ note (tokens.Mark mark.Open) ∷ note (tokens.Mark mark.Tick) ∷ note tokens.Multiplying ∷ note tokens.Relational ∷ note (tokens.Word word.And) ∷ note (tokens.Word word.Implies) ∷ note (tokens.Word word.Or) ∷ note (tokens.Word word.Xor) ∷ []

abbrev sum_note : List TokenSet
sum_note = note tokens.Adding ∷ note (tokens.Mark mark.AtSign) ∷ note (tokens.Mark mark.Dot) ∷ note (tokens.Mark mark.Open) ∷ note (tokens.Mark mark.Tick) ∷ note tokens.Multiplying ∷ []

abbrev signed_ada : List TokenSet
signed_ada = ada (tokens.Mark mark.Dot) ∷ ada (tokens.Mark mark.Open) ∷ ada (tokens.Mark mark.Tick) ∷ ada tokens.Multiplying ∷ []

abbrev signed_note : List TokenSet
signed_note = note (tokens.Mark mark.AtSign) ∷ note (tokens.Mark mark.Dot) ∷ note (tokens.Mark mark.Open) ∷ note (tokens.Mark mark.Tick) ∷ note tokens.Multiplying ∷ []

abbrev factor_ada : List TokenSet
factor_ada = ada (tokens.Mark mark.Dot) ∷ ada (tokens.Mark mark.Open) ∷ ada (tokens.Mark mark.Tick) ∷ []

abbrev factor_note : List TokenSet
factor_note = note (tokens.Mark mark.AtSign) ∷ note (tokens.Mark mark.Dot) ∷ note (tokens.Mark mark.Open) ∷ note (tokens.Mark mark.Tick) ∷ []

abbrev exprs : List TokenSet
exprs = note tokens.Adding ∷ note (tokens.Mark mark.AtSign) ∷ note (tokens.Mark mark.Comma) ∷ note (tokens.Mark mark.Dot) ∷ note (tokens.Mark mark.Open) ∷ note (tokens.Mark mark.Tick) ∷ note tokens.Multiplying ∷ note tokens.Relational ∷ note (tokens.Word word.And) ∷ note (tokens.Word word.Iff) ∷ note (tokens.Word word.Implies) ∷ note (tokens.Word word.Or) ∷ note (tokens.Word word.Xor) ∷ []

abbrev to_apply_note : List TokenSet
to_apply_note = note (tokens.Mark mark.Dot) ∷ note (tokens.Mark mark.Open) ∷ note (tokens.Mark mark.Tick) ∷ []

abbrev wclauses : List TokenSet
wclauses = note (tokens.Word word.Global) ∷ note (tokens.Word word.In) ∷ note (tokens.Word word.Out) ∷ note (tokens.Word word.Raise) ∷ []

abbrev global_mode : List TokenSet
global_mode = note (tokens.Word word.In) ∷ note (tokens.Word word.Out) ∷ []

abbrev global_out : List TokenSet
global_out = note (tokens.Word word.Out) ∷ []

abbrev view_invariant : List TokenSet
view_invariant = note tokens.Adding ∷ note (tokens.Mark mark.AtSign) ∷ note (tokens.Mark mark.Dot) ∷ note (tokens.Mark mark.Open) ∷ note (tokens.Mark mark.Tick) ∷ note tokens.Multiplying ∷ note tokens.Relational ∷ note (tokens.Word word.And) ∷ note (tokens.Word word.Iff) ∷ note (tokens.Word word.Implies) ∷ note (tokens.Word word.Invariant) ∷ note (tokens.Word word.Or) ∷ note (tokens.Word word.Xor) ∷ []

abbrev incls : List TokenSet
incls = note (tokens.Word word.Includes) ∷ []

abbrev maybe_ops : List TokenSet
maybe_ops = note tokens.Name ∷ note (tokens.Word word.Introduces) ∷ note (tokens.Word word.Return) ∷ []

abbrev ops : List TokenSet
ops = note tokens.Name ∷ note (tokens.Word word.Return) ∷ []

abbrev maybe_marks : List TokenSet
maybe_marks = note (tokens.Mark mark.AtSign) ∷ note (tokens.Mark mark.Comma) ∷ note (tokens.Mark mark.Dot) ∷ note tokens.Name ∷ note (tokens.Word word.Return) ∷ []

abbrev gens : List TokenSet
gens = note (tokens.Word word.Generated) ∷ []

abbrev eqns : List TokenSet
eqns = note tokens.Adding ∷ note tokens.Highest ∷ note tokens.Maker ∷ note (tokens.Mark mark.Open) ∷ note tokens.Name ∷ note tokens.Number ∷ note (tokens.Word word.Exists) ∷ note (tokens.Word word.For) ∷ note (tokens.Word word.If) ∷ note (tokens.Word word.In) ∷ note (tokens.Word word.Return) ∷ []

abbrev more_vars : List TokenSet
more_vars = note (tokens.Mark mark.AtSign) ∷ note (tokens.Mark mark.Dot) ∷ note (tokens.Mark mark.Semicolon) ∷ []

abbrev step : List TokenSet
step = note tokens.Adding ∷ note (tokens.Mark mark.AtSign) ∷ note (tokens.Mark mark.Dot) ∷ note (tokens.Mark mark.Open) ∷ note (tokens.Mark mark.OpenBracket) ∷ note (tokens.Mark mark.Tick) ∷ note tokens.Multiplying ∷ note tokens.Relational ∷ note (tokens.Word word.And) ∷ note (tokens.Word word.Iff) ∷ note (tokens.Word word.Implies) ∷ note (tokens.Word word.In) ∷ note (tokens.Word word.Or) ∷ note (tokens.Word word.Xor) ∷ []

abbrev step_end : List TokenSet
step_end = note (tokens.Mark mark.OpenBracket) ∷ []

abbrev more_steps : List TokenSet
more_steps = note tokens.Adding ∷ note (tokens.Mark mark.AtSign) ∷ note (tokens.Mark mark.Dot) ∷ note (tokens.Mark mark.Open) ∷ note (tokens.Mark mark.OpenBracket) ∷ note (tokens.Mark mark.Semicolon) ∷ note (tokens.Mark mark.Tick) ∷ note tokens.Multiplying ∷ note tokens.Relational ∷ note (tokens.Word word.And) ∷ note (tokens.Word word.Iff) ∷ note (tokens.Word word.Implies) ∷ note (tokens.Word word.In) ∷ note (tokens.Word word.Or) ∷ note (tokens.Word word.Xor) ∷ []

abbrev in_number : List TokenSet
in_number = note (tokens.Word word.In) ∷ []

abbrev maybe_names : List TokenSet
maybe_names = note (tokens.Mark mark.Open) ∷ []

abbrev more_coefficients : List TokenSet
more_coefficients = note (tokens.Mark mark.Comma) ∷ []

abbrev pub bars_list : List (List TokenSet × List TokenSet)
bars_list =
    (items, items) ∷ (item, item) ∷ (item, item) ∷ (clauses, clauses) ∷ ([], []) ∷ ([], [])
    ∷ ([], []) ∷ (item, item) ∷ ([], []) ∷ ([], []) ∷ ([], []) ∷ (maybe_private, maybe_private)
    ∷ (close_body, close_body) ∷ (close_body, close_body) ∷ (close_body, close_body) ∷ (decls, decls) ∷ (decls, decls) ∷ (item, item)
    ∷ (item, item) ∷ (item, item) ∷ ([], []) ∷ (item, item) ∷ (spec, spec) ∷ (proc, proc)
    ∷ (func, func) ∷ (proc, proc) ∷ ([], []) ∷ (more_formals, more_formals) ∷ (func, func) ∷ (mode, mode)
    ∷ (mode_out, mode_out) ∷ ([], text_note) ∷ (text_note, text_note) ∷ ([], text_note) ∷ ([], text_note) ∷ (ids_ada, ids_note)
    ∷ (ids_ada, ids_note) ∷ (ids_ada, ids_note) ∷ (ids_ada, ids_note) ∷ (func, mark_note) ∷ (func, mark_note) ∷ (marks, marks)
    ∷ (marks, marks) ∷ (decl, decl) ∷ ([], []) ∷ ([], []) ∷ ([], []) ∷ ([], [])
    ∷ ([], []) ∷ (maybe_range, maybe_range) ∷ (maybe_init, maybe_init) ∷ (range, range) ∷ (type, type) ∷ (type, type)
    ∷ ([], []) ∷ (type, type) ∷ (type, type) ∷ (range, range) ∷ ([], []) ∷ (func, func)
    ∷ ([], []) ∷ (close_body, close_body) ∷ ([], []) ∷ ([], []) ∷ (dis, dis) ∷ (dis, dis)
    ∷ (range, range) ∷ (range, range) ∷ (seq, seq) ∷ (stmts, stmts) ∷ (stmts, stmts) ∷ (seq, seq)
    ∷ (more_handlers, more_handlers) ∷ (stmts, stmts) ∷ ([], []) ∷ ([], []) ∷ ([], []) ∷ ([], [])
    ∷ ([], []) ∷ ([], []) ∷ (elsifs, elsifs) ∷ (stmts, stmts) ∷ (maybe_else, maybe_else) ∷ ([], [])
    ∷ (more_handlers, more_handlers) ∷ (stmts, stmts) ∷ ([], []) ∷ (maybe_head, maybe_head) ∷ (maybe_invariant, maybe_invariant) ∷ (head, head)
    ∷ (head, head) ∷ (dis, dis) ∷ (dis, dis) ∷ (dis, dis) ∷ ([], []) ∷ (maybe_declare, maybe_declare)
    ∷ ([], []) ∷ (maybe_when, maybe_when) ∷ ([], []) ∷ (maybe_expr, maybe_expr) ∷ ([], []) ∷ (maybe_mark, maybe_mark)
    ∷ (choices_ada, choices_note) ∷ ([], []) ∷ (choices_ada, choices_note) ∷ (choices_ada, choices_note) ∷ (head, choice_note) ∷ (head, choice_note)
    ∷ (args_ada, args_note) ∷ (args_ada, args_note) ∷ (arg_ada, arg_note) ∷ (arg_ada, arg_note) ∷ (arg_ada, arg_expr_note) ∷ (head, assoc_tail_note)
    ∷ (head, assoc_tail_note) ∷ (head, assoc_tail_note) ∷ (head, assoc_tail_note) ∷ (assoc_tail_note, assoc_tail_note) ∷ (assoc_tail_note, assoc_tail_note) ∷ (head, assoc_tail_note)
    ∷ (rel_ada, rel_note) ∷ (rel_ada, rel_note) ∷ (head, log_tail_note) ∷ (head, log_tail_note) ∷ (and_rest_ada, and_rest_note) ∷ (or_rest_ada, or_rest_note)
    ∷ (and_rest_ada, and_rest_note) ∷ (or_rest_ada, or_rest_note) ∷ (xor_tail_ada, xor_tail_note) ∷ (and_rest_ada, and_rest_ada) ∷ (or_rest_ada, or_rest_ada) ∷ (implication, implication)
    ∷ (implication, implication) ∷ (assoc_tail_note, assoc_tail_note) ∷ (range, sum_note) ∷ (range, sum_note) ∷ (signed_ada, signed_note) ∷ (signed_ada, signed_note)
    ∷ (signed_ada, signed_note) ∷ (signed_ada, signed_note) ∷ (factor_ada, factor_note) ∷ (factor_ada, factor_note) ∷ (factor_ada, factor_note) ∷ (factor_ada, factor_note)
    ∷ (factor_ada, factor_note) ∷ ([], text_note) ∷ ([], []) ∷ (text_note, text_note) ∷ ([], []) ∷ ([], [])
    ∷ ([], []) ∷ ([], []) ∷ ([], []) ∷ ([], []) ∷ ([], []) ∷ ([], [])
    ∷ ([], []) ∷ (mark_note, mark_note) ∷ (assoc_tail_note, assoc_tail_note) ∷ (assoc_tail_note, assoc_tail_note) ∷ (assoc_tail_note, assoc_tail_note) ∷ (assoc_tail_note, assoc_tail_note)
    ∷ ([], []) ∷ (exprs, exprs) ∷ (exprs, exprs) ∷ (head, assoc_tail_note) ∷ (head, assoc_tail_note) ∷ (head, assoc_tail_note)
    ∷ (head, assoc_tail_note) ∷ (head, assoc_tail_note) ∷ (head, assoc_tail_note) ∷ (head, assoc_tail_note) ∷ (signed_ada, signed_note) ∷ (dis, dis)
    ∷ (factor_ada, factor_note) ∷ (factor_ada, factor_note) ∷ (factor_ada, factor_note) ∷ (factor_ada, factor_note) ∷ (factor_ada, to_apply_note) ∷ (factor_ada, to_apply_note)
    ∷ ([], []) ∷ (wclauses, wclauses) ∷ ([], []) ∷ ([], []) ∷ (global_mode, global_mode) ∷ (global_out, global_out)
    ∷ ([], []) ∷ ([], []) ∷ ([], []) ∷ ([], []) ∷ ([], []) ∷ (view_invariant, view_invariant)
    ∷ ([], []) ∷ ([], []) ∷ ([], []) ∷ (incls, incls) ∷ ([], []) ∷ (maybe_ops, maybe_ops)
    ∷ (ops, ops) ∷ ([], []) ∷ (maybe_marks, maybe_marks) ∷ (gens, gens) ∷ ([], []) ∷ ([], [])
    ∷ ([], []) ∷ ([], []) ∷ ([], []) ∷ (assoc_tail_note, assoc_tail_note) ∷ ([], []) ∷ (eqns, eqns)
    ∷ ([], []) ∷ ([], []) ∷ ([], []) ∷ ([], []) ∷ (mark_note, mark_note) ∷ (more_vars, more_vars)
    ∷ (ops, ops) ∷ ([], []) ∷ ([], []) ∷ ([], []) ∷ (mark_note, mark_note) ∷ (mark_note, mark_note)
    ∷ (text_note, text_note) ∷ (mark_note, mark_note) ∷ (mark_note, mark_note) ∷ ([], []) ∷ ([], []) ∷ (step, step)
    ∷ (step_end, step_end) ∷ (step_end, step_end) ∷ (more_steps, more_steps) ∷ (in_number, in_number) ∷ (maybe_names, maybe_names) ∷ (maybe_names, maybe_names)
    ∷ (maybe_names, maybe_names) ∷ (more_coefficients, more_coefficients) ∷ ([], []) ∷ (text_note, text_note)
    ∷ []
