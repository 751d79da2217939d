-- What declarations and statements are: the abstract syntax, read off the tree.
use Rattle.std.specs.Prelude.{ℕ, List, [], ◌∷◌, map, Bool, true, false, not, Option, Some, None, if◌then◌else◌}
use Rattle.ada_tree.specs.declared.kind.Kind.{Kind}
use Rattle.ada_tree.specs.declared.kind.Kind.TheVariants as kind
use Rattle.ada_tree.specs.declared.node.Node.{Node, Node-F, fold-Node}
use Rattle.ada_tree.specs.Kinds.{is_kind}
use Rattle.unit_forms.specs.Syntax.{Expr, odd, Range, Choices, some_of, no_option, Seen, see}

-- ---- declarations

-- names that are declared together
abbrev pub Ids : Type 0
Ids = List (List ℕ)

-- [Range]
pub data Limits : Type 0 where
  unlimited : Limits
  limited : (low high : Expr) → Limits

-- Comp = {Id ,} ":" mark ";"
pub record Component : Type 0 where
  pub ids : Ids
  pub mark : Expr

-- tdef = Enum | Range | Arr | Rec
pub data Definition : Type 0 where
  enumeration : Ids → Definition
  integers : (low high : Expr) → Definition
  array : (index : Range) → (element : Expr) → Definition
  record_of : List Component → Definition
  odd_definition : Definition

pub data Decl : Type 0 where
  object : Ids → (mark : Expr) → Limits → (value : Option Expr) → Decl
  constant : Ids → (mark : Expr) → Limits → (value : Expr) → Decl
  number : Ids → (value : Expr) → Decl
  type : Definition → Decl
  subtype : (mark : Expr) → Limits → Decl
  uses : List Expr → Decl
  exceptions : Ids → Decl
  private : Decl
  view : Decl
  subprogram : Decl
  subprogram_body : Decl
  odd_decl : Decl

-- where declarations stand
pub data Site : Type 0 where
  visible_part : Site
  private_part : Site
  package_body : Site
  -- a subprogram or a block
  local : Site

-- ---- statements

-- [head], and what it says
pub data Head : Type 0 where
  forever : Head
  while : Expr → Head
  for : (reverse : Bool) → (text : List ℕ) → Range → Head

mutual
  pub data Stmt : Type 0 where
    null : Stmt
    assign : (target value : Expr) → Stmt
    call : Expr → Stmt
    branch : Expr → Stmts → Elsifs → (otherwise : Stmts) → Stmt
    choose : Expr → Alts → Stmt
    loop : Head → (has_invariant : Bool) → Stmts → Stmt
    block : List Decl → Stmts → Handlers → Stmt
    exit : Option Expr → Stmt
    give : Option Expr → Stmt
    raise : Option Expr → Stmt
    claim : Stmt
    odd_stmt : Stmt

  pub data Stmts : Type 0 where
    done : Stmts
    next : Stmt → Stmts → Stmts

  pub data Elsifs : Type 0 where
    no_elsif : Elsifs
    elsif : Expr → Stmts → Elsifs → Elsifs

  pub data Alts : Type 0 where
    no_alt : Alts
    alt : Choices → Stmts → Alts → Alts

  pub data Handlers : Type 0 where
    no_handler : Handlers
    handler : Choices → Stmts → Handlers → Handlers

-- what a subprogram's body holds
pub record Body : Type 0 where
  pub decls : List Decl
  pub stmts : Stmts
  pub handlers : Handlers

-- ---- what is read off a node

pub record Shown : Type 0 where
  pub kind : Kind
  pub text : List ℕ
  pub texts : Ids
  -- its expressions
  pub seen : Seen
  pub exprs : List Expr
  pub limits : Limits
  pub component : Component
  pub components : List Component
  pub definition : Definition
  pub decl : Decl
  pub decls : List Decl
  pub head : Head
  pub stmt : Stmt
  pub stmts : Stmts
  -- of an Elsif, an alternative or a handler, its parts
  pub condition : Expr
  pub choices : Choices
  pub inside : Stmts
  -- of a list
  pub elsifs : Elsifs
  pub alts : Alts
  pub handlers : Handlers
  -- of a Seq
  pub sequence : Stmts
  pub caught : Handlers

abbrev pub is_there : Shown → Bool
is_there s = not (is_kind s.kind kind.None)

-- a part that may be left out
abbrev pub optional : Shown → Option Expr
optional s = if is_there s then Some s.seen.expr else None

-- ---- declarations, by kind

-- Range = "range" expr ".." expr
abbrev pub limits_by : List Shown → Limits
limits_by (a ∷ b ∷ []) = limited a.seen.expr b.seen.expr
limits_by _ = unlimited

abbrev pub component_by : List Shown → Component
component_by (ids ∷ m ∷ []) = record { ids = ids.texts; mark = m.seen.expr }
component_by _ = record { ids = []; mark = odd }

abbrev pub enumeration_by : List Shown → Definition
enumeration_by (ids ∷ []) = enumeration ids.texts
enumeration_by _ = odd_definition

abbrev pub integers_by : List Shown → Definition
integers_by (a ∷ b ∷ []) = integers a.seen.expr b.seen.expr
integers_by _ = odd_definition

-- Arr = "array" "(" dis ")" "of" mark
abbrev pub array_by : List Shown → Definition
array_by (d ∷ m ∷ []) = array d.seen.range m.seen.expr
array_by _ = odd_definition

abbrev pub record_by : List Shown → Definition
record_by (cs ∷ []) = record_of cs.components
record_by _ = odd_definition

abbrev pub definition_by : Kind → List Shown → Definition
definition_by kind.Enum kids = enumeration_by kids
definition_by kind.Range kids = integers_by kids
definition_by kind.Arr kids = array_by kids
definition_by kind.Rec kids = record_by kids
definition_by _ kids = odd_definition

-- Obj = {Id ,} ":" mark [Range] [":=" expr] ";"
abbrev pub object_by : List Shown → Decl
object_by (ids ∷ m ∷ r ∷ v ∷ []) = object ids.texts m.seen.expr r.limits (optional v)
object_by _ = odd_decl

-- Const = {Id ,} ":" "constant" mark [Range] ":=" expr ";"
abbrev pub constant_by : List Shown → Decl
constant_by (ids ∷ m ∷ r ∷ v ∷ []) = constant ids.texts m.seen.expr r.limits v.seen.expr
constant_by _ = odd_decl

-- Num = {Id ,} ":" "constant" ":=" expr ";"
abbrev pub number_by : List Shown → Decl
number_by (ids ∷ v ∷ []) = number ids.texts v.seen.expr
number_by _ = odd_decl

-- Type = "type" <id> "is" tdef ";"
abbrev pub type_by : List Shown → Decl
type_by (d ∷ []) = type d.definition
type_by _ = odd_decl

-- Subtype = "subtype" <id> "is" mark [Range] ";"
abbrev pub subtype_by : List Shown → Decl
subtype_by (m ∷ r ∷ []) = subtype m.seen.expr r.limits
subtype_by _ = odd_decl

-- Use = "use" {Name ,} ";"
abbrev pub uses_by : List Shown → Decl
uses_by (names ∷ []) = uses names.exprs
uses_by _ = odd_decl

-- Exc = {Id ,} ":" "exception" ";"
abbrev pub exceptions_by : List Shown → Decl
exceptions_by (ids ∷ []) = exceptions ids.texts
exceptions_by _ = odd_decl

abbrev pub decl_by : Kind → List Shown → Decl
decl_by kind.Obj kids = object_by kids
decl_by kind.Const kids = constant_by kids
decl_by kind.Num kids = number_by kids
decl_by kind.TypeDecl kids = type_by kids
decl_by kind.Subtype kids = subtype_by kids
decl_by kind.Use kids = uses_by kids
decl_by kind.Exc kids = exceptions_by kids
decl_by kind.Private kids = private
decl_by kind.View kids = view
decl_by kind.SubDecl kids = subprogram
decl_by kind.SubBody kids = subprogram_body
decl_by _ kids = odd_decl

-- ---- statements, by kind

-- Assign = expr ":=" expr ";"
abbrev pub assign_by : List Shown → Stmt
assign_by (t ∷ v ∷ []) = assign t.seen.expr v.seen.expr
assign_by _ = odd_stmt

-- Call = expr ";"
abbrev pub call_by : List Shown → Stmt
call_by (e ∷ []) = call e.seen.expr
call_by _ = odd_stmt

-- If = "if" expr "then" {stmt}+ {Elsif} ["else" {stmt}+] "end" "if" ";"
abbrev pub branch_by : List Shown → Stmt
branch_by (c ∷ ss ∷ es ∷ o ∷ []) = branch c.seen.expr ss.stmts es.elsifs o.stmts
branch_by _ = odd_stmt

-- Case = "case" expr "is" {Alt}+ "end" "case" ";"
abbrev pub choose_by : List Shown → Stmt
choose_by (e ∷ alts ∷ []) = choose e.seen.expr alts.alts
choose_by _ = odd_stmt

-- While = "while" expr
abbrev pub while_by : List Shown → Head
while_by (c ∷ []) = while c.seen.expr
while_by _ = while odd

-- For = "for" <id> "in" dis
abbrev pub for_by : Bool → List ℕ → List Shown → Head
for_by reverse text (d ∷ []) = for reverse text d.seen.range
for_by reverse text _ = while odd

abbrev pub head_by : Kind → List ℕ → List Shown → Head
head_by kind.While text kids = while_by kids
head_by kind.For text kids = for_by false text kids
head_by kind.Reverse text kids = for_by true text kids
head_by _ text kids = forever

-- Loop = [head] "loop" [Invariant] {stmt}+ "end" "loop" ";"
abbrev pub loop_by : List Shown → Stmt
loop_by (h ∷ i ∷ ss ∷ []) = loop h.head (is_there i) ss.stmts
loop_by _ = odd_stmt

-- Block = ["declare" {decl}] "begin" Seq "end" ";"
abbrev pub block_by : List Shown → Stmt
block_by (ds ∷ s ∷ []) = block ds.decls s.sequence s.caught
block_by _ = odd_stmt

-- Exit = "exit" ["when" expr] ";"
abbrev pub exit_by : List Shown → Stmt
exit_by (c ∷ []) = exit (optional c)
exit_by _ = odd_stmt

-- Return = "return" [expr] ";"
abbrev pub give_by : List Shown → Stmt
give_by (e ∷ []) = give (optional e)
give_by _ = odd_stmt

-- Raise = "raise" [mark] ";"
abbrev pub raise_by : List Shown → Stmt
raise_by (m ∷ []) = raise (optional m)
raise_by _ = odd_stmt

abbrev pub stmt_by : Kind → List Shown → Stmt
stmt_by kind.Null kids = null
stmt_by kind.Assign kids = assign_by kids
stmt_by kind.Call kids = call_by kids
stmt_by kind.If kids = branch_by kids
stmt_by kind.Case kids = choose_by kids
stmt_by kind.Loop kids = loop_by kids
stmt_by kind.Block kids = block_by kids
stmt_by kind.Exit kids = exit_by kids
stmt_by kind.Return kids = give_by kids
stmt_by kind.Raise kids = raise_by kids
stmt_by kind.Assert kids = claim
stmt_by _ kids = odd_stmt

-- ---- parts of a node, and members of a list

-- Elsif = "elsif" expr "then" {stmt}+
abbrev pub condition_of : List Shown → Expr
condition_of (c ∷ ss ∷ []) = c.seen.expr
condition_of _ = odd

-- Alt = "when" choices "=>" {stmt}+, and Handler likewise
abbrev pub choices_of : List Shown → Choices
choices_of (cs ∷ ss ∷ []) = cs.seen.choices
choices_of _ = some_of no_option

-- what stands in an Elsif, an alternative or a handler
abbrev pub inside_of : List Shown → Stmts
inside_of (c ∷ ss ∷ []) = ss.stmts
inside_of _ = done

abbrev pub stmts_from : List Shown → Stmts
stmts_from [] = done
stmts_from (s ∷ ss) = next s.stmt (stmts_from ss)

abbrev pub elsifs_from : List Shown → Elsifs
elsifs_from [] = no_elsif
elsifs_from (s ∷ ss) = elsif s.condition s.inside (elsifs_from ss)

abbrev pub alts_from : List Shown → Alts
alts_from [] = no_alt
alts_from (s ∷ ss) = alt s.choices s.inside (alts_from ss)

abbrev pub handlers_from : List Shown → Handlers
handlers_from [] = no_handler
handlers_from (s ∷ ss) = handler s.choices s.inside (handlers_from ss)

-- Seq = {stmt}+ ["exception" {Handler}+]
abbrev pub sequence_of : List Shown → Stmts
sequence_of (ss ∷ hs ∷ []) = ss.stmts
sequence_of _ = done

abbrev pub caught_of : List Shown → Handlers
caught_of (ss ∷ hs ∷ []) = hs.handlers
caught_of _ = no_handler

abbrev pub expressions : Node-F Shown → Node-F Seen
expressions layer = record { kind = layer.kind; text = layer.text; notes = layer.notes; kids = map (λ s. s.seen) layer.kids }

abbrev pub show : Node-F Shown → Shown
show layer = record {
  kind = layer.kind;
  text = layer.text;
  texts = map (λ s. s.text) layer.kids;
  seen = see (expressions layer);
  exprs = map (λ s. s.seen.expr) layer.kids;
  limits = limits_by layer.kids;
  component = component_by layer.kids;
  components = map (λ s. s.component) layer.kids;
  definition = definition_by layer.kind layer.kids;
  decl = decl_by layer.kind layer.kids;
  decls = map (λ s. s.decl) layer.kids;
  head = head_by layer.kind layer.text layer.kids;
  stmt = stmt_by layer.kind layer.kids;
  stmts = stmts_from layer.kids;
  condition = condition_of layer.kids;
  choices = choices_of layer.kids;
  inside = inside_of layer.kids;
  elsifs = elsifs_from layer.kids;
  alts = alts_from layer.kids;
  handlers = handlers_from layer.kids;
  sequence = sequence_of layer.kids;
  caught = caught_of layer.kids;
}

abbrev pub shown : Node → Shown
shown = fold-Node Shown show

-- SubBody = spec [Where] "is" {decl} "begin" Seq "end" <id> ";", of which the declarations and the sequence are these two
abbrev pub body_of : Node → Node → Body
body_of decls seq = record { decls = (shown decls).decls; stmts = (shown seq).sequence; handlers = (shown seq).caught }
