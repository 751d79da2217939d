-- For each rule, the traces that it finds before it, and those that it leaves in their place.
use Rattle.std.proofs.Common.{List, [], ◌∷◌, ◌++◌, Bool, true, false, map}
use Rattle.std.specs.Prelude.{nat_le, filter, reverse}
use Rattle.std.specs.Option.{option_map_or}
use Rattle.std.specs.List.{flat_map}
use Rattle.base_kit.specs.Bytes as byte
use Rattle.ada_tree.specs.declared.grammar.Choice.{Choice}
use Rattle.ada_tree.specs.declared.grammar.Choice.TheVariants as choice
use Rattle.ada_tree.specs.declared.kind.Kind.{Kind}
use Rattle.ada_tree.specs.declared.kind.Kind.TheVariants as kind
use Rattle.ada_tree.specs.declared.operator.Level.{Level}
use Rattle.ada_tree.specs.declared.operator.Level.TheVariants as level
use Rattle.ada_tree.specs.declared.operator.Operator.{Operator}
use Rattle.ada_tree.specs.declared.operator.Operator.TheVariants as operator
use Rattle.ada_tree.specs.declared.word.Mark.{Mark}
use Rattle.ada_tree.specs.declared.word.Mark.TheVariants as mark
use Rattle.ada_tree.specs.declared.word.Word.{Word as AWord}
use Rattle.ada_tree.specs.declared.word.Word.TheVariants as word
use Rattle.ada_tree.specs.Choices.{floor, rank, stands}
use Rattle.ada_tree.specs.Tokens.{a_word as word_lexeme, a_mark as mark_lexeme}
use Rattle.ada_tree.specs.Words.{word_text}
use Rattle.reading_table.specs.declared.rule.Rule.{Rule}
use Rattle.reading_table.specs.declared.rule.Rule.TheVariants as rule
use Rattle.reading_table.specs.declared.symbol.Form.TheVariants as form
use Rattle.reading_table.specs.Rows.{Part, side_in}
use Rattle.reading_sound.proofs.Traces.{Word, big, named, small, Text, simple, says, by_rule, Trace, written, told, stood, joined, begun, absent, rest, tail, closing, Stack, places}

-- What a part finds, and what it leaves: one of these.
abbrev pub Situation : Type 0
Situation = Stack × List Stack

-- ---- words, the first trace first

abbrev InWords : Type 0
InWords = List (List Trace × List (List Trace))

abbrev alone : Trace → List Trace
alone trace = trace ∷ []

abbrev leaves : List Trace → InWords
leaves left = ([], left ∷ []) ∷ []

abbrev finds : List Trace → Trace → InWords
finds found left = (found, alone left ∷ []) ∷ []

abbrev either : List Trace → List Trace → InWords
either a b = ([], a ∷ b ∷ []) ∷ []

-- a part that may be left out
abbrev maybe : List Trace → InWords
maybe left = either (absent ∷ []) left

abbrev a_word : Bool → AWord → Trace
a_word note w = written note (word_lexeme w)

abbrev a_mark : Bool → Mark → Trace
a_mark note m = written note (mark_lexeme m)

abbrev a_text : Bool → Word → Trace
a_text note w = told note (simple w)

-- a word as a text, and one that isn't written
abbrev aloud : AWord → Bool → Trace
aloud w note = told note (says (word_text w) (word_lexeme w ∷ []))

abbrev silently : AWord → Bool → Trace
silently w note = told note (says (word_text w) [])

abbrev in_out : Bool → Trace
in_out note = told note (says (word_text word.In ++ byte.space ∷ word_text word.Out) (word_lexeme word.In ∷ word_lexeme word.Out ∷ []))

-- ---- nodes

abbrev at : Bool → Choice → Trace
at note p = stood note false (p ∷ [])

abbrev stands_at : Bool → Choice → InWords
stands_at note p = leaves (alone (at note p))

-- a node of a kind, wherever it stands without regard to its text
abbrev made : Bool → Kind → Trace
made note k = stood note false (choice.Only k ∷ filter (λ p. stands note p k []) places)

abbrev makes : Bool → Kind → InWords
makes note k = leaves (alone (made note k))

-- the places where an expression stands that binds so tightly
abbrev operands : Level → List Choice
operands l = filter (λ p. option_map_or (λ least. nat_le (rank least) (rank l)) (floor p) false) places

abbrev an_operand : Bool → Level → Trace
an_operand note l = stood note false (operands l)

abbrev an_operand_of : Bool → Kind → Level → Trace
an_operand_of note k l = stood note false (choice.Only k ∷ operands l)

abbrev a_chain : Bool → Operator → Trace
a_chain note o = stood note false (choice.Only kind.Binary ∷ choice.Chain o ∷ operands level.Logical)

-- what is a Binary stays one
abbrev binary_or_not : Bool → Level → Level → InWords
binary_or_not note l m = finds (alone (an_operand_of note kind.Binary l)) (an_operand_of note kind.Binary m) ++ finds (alone (an_operand note l)) (an_operand note m)

abbrev a_mark_node : Bool → Trace
a_mark_node note = stood note false (choice.Mark ∷ choice.Dis ∷ operands level.Prefix)

abbrev subprogram : Bool → Trace
subprogram note = stood note false (choice.Lib ∷ choice.Decl ∷ [])

-- ---- lists

abbrev listed : Bool → Choice → Mark → List Trace
listed note p m = begun kind.List ∷ joined note false (p ∷ []) ∷ tail note p m ∷ []

-- a list whose first member has comments before it
abbrev commented : Bool → Choice → List Trace
commented note p = begun kind.List ∷ joined note true (p ∷ []) ∷ rest note p ∷ []

abbrev declarations : Bool → List Trace
declarations note = begun kind.List ∷ rest note choice.Decl ∷ []

abbrev ids : Bool → List Trace → List Trace
ids note more = listed note (choice.Only kind.Id) mark.Comma ++ a_mark note mark.Colon ∷ more

abbrev type_name : Bool → List Trace
type_name note = a_word note word.Type ∷ a_text note big ∷ a_word note word.Is ∷ []

abbrev loop_name : Bool → List Trace
loop_name note = a_word note word.For ∷ a_text note big ∷ a_word note word.In ∷ []

-- ---- traits, on a stack

abbrev of_kind : Kind → Stack → Stack
of_kind k stack = rest true (choice.Only k) ∷ joined true false (choice.Only k ∷ []) ∷ stack

abbrev no_operators : Stack → Stack
no_operators stack = begun kind.List ∷ stack

abbrev some_operators : Stack → Stack
some_operators stack = of_kind kind.Op (begun kind.List ∷ a_word true word.Introduces ∷ stack)

abbrev generators : Stack → Stack
generators stack = rest true (choice.Only kind.Gen) ∷ begun kind.List ∷ stack

-- two lists without members, members alone, or variables before them
abbrev nothing_shown : Stack → Stack
nothing_shown stack = begun kind.List ∷ begun kind.List ∷ stack

abbrev shown : AWord → Kind → Stack → Stack
shown w k stack = of_kind k (begun kind.List ∷ begun kind.List ∷ a_word true w ∷ stack)

abbrev for_all : Stack → Stack
for_all stack = a_word true word.All ∷ a_word true word.For ∷ stack

abbrev quantified : AWord → Kind → Stack → Stack
quantified w k stack =
    rest true (choice.Only k) ∷ begun kind.List ∷ tail true (choice.Only kind.Vars) mark.Semicolon ∷ joined true false (choice.Only kind.Vars ∷ []) ∷ for_all (begun kind.List ∷ a_word true w ∷ stack)

abbrev each : List (Stack → Stack) → List Stack → List Stack
each parts stacks = flat_map (λ f. map f stacks) parts

abbrev trait_part : AWord → Kind → List Stack → List Stack
trait_part w k stacks = each (nothing_shown ∷ shown w k ∷ quantified w k ∷ []) stacks

abbrev trait_front : List Stack
trait_front =
    map generators (each (no_operators ∷ some_operators ∷ [])
    ((rest true (choice.Only kind.Incl) ∷ begun kind.List ∷ a_word true word.Is ∷ a_text true named ∷ a_word true word.Trait ∷ []) ∷ []))

abbrev trait_middle : List Stack
trait_middle = trait_part word.Asserts kind.Eqn trait_front

abbrev trait_end : List Stack
trait_end = trait_part word.Implies kind.Lemma trait_middle

abbrev begin : AWord → Stack → Stack
begin w stack = begun kind.List ∷ a_word true w ∷ stack

abbrev traits : List Stack → List Situation
traits fronts = map (λ found. (found, (made false kind.Trait ∷ []) ∷ [])) fronts

-- ---- proof steps

abbrev an_argument : Choice → List Trace
an_argument p = alone (joined true false (p ∷ []))

abbrev in_number : List Trace
in_number = a_word true word.In ∷ an_argument (choice.Only kind.Int)

abbrev in_parentheses : Choice → List Trace
in_parentheses p = a_mark true mark.Open ∷ joined true false (p ∷ []) ∷ tail true p mark.Comma ∷ a_mark true mark.Close ∷ []

abbrev by : Text → List (List Trace) → List (List Trace)
by t arguments = map (λ trace. told true t ∷ begun kind.List ∷ trace) arguments

abbrev step_heads : List (List Trace)
step_heads =
    by (by_rule form.Plain) ([] ∷ [])
    ++ by (by_rule form.Number) (an_argument (choice.Only kind.Int) ∷ [])
    ++ by (by_rule form.Name) (an_argument (choice.Only kind.Name) ∷ [])
    ++ by (by_rule form.NumberTerm) ((an_argument (choice.Only kind.Int) ++ an_argument choice.Expr) ∷ [])
    ++ by (by_rule form.Term) (an_argument choice.Expr ∷ [])
    ++ by (says (word_text word.Range) (word_lexeme word.Range ∷ [])) (an_argument choice.Expr ∷ [])
    ++ by (by_rule form.NumberName) ((an_argument (choice.Only kind.Int) ++ an_argument (choice.Only kind.Name)) ∷ [])
    ++ by (by_rule form.NumberIn) (an_argument (choice.Only kind.Int) ∷ (an_argument (choice.Only kind.Int) ++ in_number) ∷ [])
    ++ by (by_rule form.NameIn) (an_argument (choice.Only kind.Name) ∷ (an_argument (choice.Only kind.Name) ++ in_number) ∷ [])
    ++ by (by_rule form.NameNames) (an_argument (choice.Only kind.Name) ∷ (an_argument (choice.Only kind.Name) ++ in_parentheses (choice.Only kind.Name)) ∷ [])
    ++ by (by_rule form.Coefficients) ([] ∷ in_parentheses choice.Coefficient ∷ [])
    ++ by (by_rule form.Lemma) (an_argument choice.LemmaName ∷ (an_argument choice.LemmaName ++ in_parentheses choice.Expr) ∷ [])

-- ---- the rules

abbrev in_words : Bool → Rule → InWords
in_words note rule.Items = leaves (rest note choice.Item ∷ [])
in_words note rule.Item = stands_at note choice.Item
in_words note rule.Unit = makes note kind.Unit
in_words note rule.Clauses = leaves (rest note choice.Clause ∷ [])
in_words note rule.Clause = stands_at note choice.Clause
in_words note rule.With = makes note kind.With
in_words note rule.Use = makes note kind.Use
in_words note rule.Lib = stands_at note choice.Lib
in_words note rule.PackRest = finds (a_word note word.Package ∷ []) (at note choice.Lib)
in_words note rule.PackTail = finds (a_word note word.Package ∷ []) (made note kind.Pack)
in_words note rule.BodyTail = finds (a_word note word.Package ∷ []) (made note kind.Body)
in_words note rule.MaybePrivate = maybe (a_word note word.Private ∷ declarations note)
in_words note rule.CloseBody = either [] (closing note 1 ∷ [])
in_words note rule.ClosePack = either [] (closing note 2 ∷ [])
in_words note rule.CloseSub = either [] (closing note 3 ∷ [])
in_words note rule.Decls = leaves (declarations note)
in_words note rule.MoreDecls = leaves (rest note choice.Decl ∷ [])
in_words note rule.Sub = leaves (subprogram note ∷ [])
in_words note rule.SubTail = finds (at note choice.Spec ∷ []) (subprogram note)
in_words note rule.SubDeclTail = finds (at note choice.Spec ∷ []) (made note kind.SubDecl)
in_words note rule.SubBodyTail = finds (at note choice.Spec ∷ []) (made note kind.SubBody)
in_words note rule.MaybeWhere = maybe (made false kind.Where ∷ [])
in_words note rule.Spec = stands_at note choice.Spec
in_words note rule.Proc = makes note kind.Proc
in_words note rule.Func = makes note kind.Func
in_words note rule.MaybeFormals = maybe (made note kind.Formals ∷ [])
in_words note rule.Formals = makes note kind.Formals
in_words note rule.MoreFormals = leaves (tail note (choice.Only kind.Formal) mark.Semicolon ∷ [])
in_words note rule.Formal = makes note kind.Formal
in_words note rule.Mode = ([], alone (silently word.In note) ∷ alone (aloud word.In note) ∷ alone (aloud word.Out note) ∷ alone (in_out note) ∷ []) ∷ []
in_words note rule.ModeOut = (alone (aloud word.In note), alone (aloud word.In note) ∷ alone (in_out note) ∷ []) ∷ []
in_words note rule.Text = leaves (a_text note named ∷ [])
in_words note rule.Joined = finds (a_text note big ∷ []) (a_text note named)
in_words note rule.Id = makes note kind.Id
in_words note rule.Name = makes note kind.Name
in_words note rule.Ids = leaves (listed note (choice.Only kind.Id) mark.Comma)
in_words note rule.MoreIds = leaves (tail note (choice.Only kind.Id) mark.Comma ∷ [])
in_words note rule.Names = leaves (listed note (choice.Only kind.Name) mark.Comma)
in_words note rule.MoreNames = leaves (tail note (choice.Only kind.Name) mark.Comma ∷ [])
in_words note rule.Mark = leaves (a_mark_node note ∷ [])
in_words note rule.MarkTail = finds (a_mark_node note ∷ []) (a_mark_node note)
in_words note rule.Marks = leaves (listed note choice.Mark mark.Comma)
in_words note rule.MoreMarks = leaves (tail note choice.Mark mark.Comma ∷ [])
in_words note rule.Decl = stands_at note choice.Decl
in_words note rule.IdsRest = finds (ids note []) (at note choice.Decl)
in_words note rule.ConstRest = finds (ids note (a_word note word.Constant ∷ [])) (at note choice.Decl)
in_words note rule.ObjTail = finds (ids note []) (made note kind.Obj)
in_words note rule.ConstTail = finds (ids note (a_word note word.Constant ∷ [])) (made note kind.Const)
in_words note rule.NumTail = finds (ids note (a_word note word.Constant ∷ [])) (made note kind.Num)
in_words note rule.MaybeRange = maybe (made note kind.Range ∷ [])
in_words note rule.MaybeInit = maybe (a_mark note mark.Becomes ∷ an_operand note level.Term ∷ [])
in_words note rule.Range = makes note kind.Range
in_words note rule.Type = stands_at note choice.Decl
in_words note rule.TypeRest = finds (type_name note) (at note choice.Decl)
in_words note rule.TypeTail = finds (type_name note) (made note kind.TypeDecl)
in_words note rule.PrivateTail = finds (type_name note) (made note kind.Private)
in_words note rule.MaybeBased = maybe (made false kind.Based ∷ [])
in_words note rule.Tdef = stands_at note choice.Tdef
in_words note rule.Enum = makes note kind.Enum
in_words note rule.Arr = makes note kind.Arr
in_words note rule.Rec = makes note kind.Rec
in_words note rule.MoreComps = leaves (rest note (choice.Only kind.Comp) ∷ [])
in_words note rule.Comp = makes note kind.Comp
in_words note rule.Subtype = makes note kind.Subtype
in_words note rule.Dis = stands_at note choice.Dis
in_words note rule.DisName = finds (a_mark_node note ∷ []) (at note choice.Dis)
in_words note rule.DisTick = finds (a_mark_node note ∷ a_mark note mark.Tick ∷ []) (at note choice.Dis)
in_words note rule.ToSpan = finds (an_operand note level.Sum ∷ []) (at note choice.Dis)
in_words note rule.Seq = makes note kind.Seq
in_words note rule.Stmts = leaves (commented note choice.Stmt)
in_words note rule.MoreStmts = leaves (rest note choice.Stmt ∷ [])
in_words note rule.MaybeHandlers = maybe (a_word note word.Exception ∷ commented note (choice.Only kind.Handler))
in_words note rule.MoreHandlers = leaves (rest note (choice.Only kind.Handler) ∷ [])
in_words note rule.Handler = makes note kind.Handler
in_words note rule.Stmt = stands_at note choice.Stmt
in_words note rule.ExprStmt = finds (an_operand note level.Term ∷ []) (at note choice.Stmt)
in_words note rule.Null = makes note kind.Null
in_words note rule.AssignTail = finds (an_operand note level.Term ∷ []) (made note kind.Assign)
in_words note rule.CallTail = finds (an_operand note level.Term ∷ []) (made note kind.Call)
in_words note rule.If = makes note kind.If
in_words note rule.Elsifs = leaves (rest note (choice.Only kind.Elsif) ∷ [])
in_words note rule.Elsif = makes note kind.Elsif
in_words note rule.MaybeElse = maybe (a_word note word.Else ∷ commented note choice.Stmt)
in_words note rule.Case = makes note kind.Case
in_words note rule.MoreAlts = leaves (rest note (choice.Only kind.Alt) ∷ [])
in_words note rule.Alt = makes note kind.Alt
in_words note rule.Loop = makes note kind.Loop
in_words note rule.MaybeHead = maybe (at note choice.Head ∷ [])
in_words note rule.MaybeInvariant = maybe (made false kind.Invariant ∷ [])
in_words note rule.Head = stands_at note choice.Head
in_words note rule.While = makes note kind.While
in_words note rule.ForRest = finds (loop_name note) (at note choice.Head)
in_words note rule.ForTail = finds (loop_name note) (made note kind.For)
in_words note rule.ReverseTail = finds (loop_name note) (made note kind.Reverse)
in_words note rule.Block = makes note kind.Block
in_words note rule.MaybeDeclare = maybe (a_word note word.Declare ∷ declarations note)
in_words note rule.Exit = makes note kind.Exit
in_words note rule.MaybeWhen = maybe (a_word note word.When ∷ an_operand note level.Term ∷ [])
in_words note rule.Return = makes note kind.Return
in_words note rule.MaybeExpr = maybe (an_operand note level.Term ∷ [])
in_words note rule.Raise = makes note kind.Raise
in_words note rule.MaybeMark = maybe (a_mark_node note ∷ [])
in_words note rule.Choices = stands_at note choice.Choices
in_words note rule.Others = makes note kind.Others
in_words note rule.ChoiceList = makes note kind.Choices
in_words note rule.MoreChoices = leaves (tail note choice.Choice mark.Bar ∷ [])
in_words note rule.Choice = stands_at note choice.Choice
in_words note rule.ChoiceTail = finds (an_operand note level.Sum ∷ []) (at note choice.Choice)
in_words note rule.Args = leaves (listed note choice.Arg mark.Comma)
in_words note rule.MoreArgs = leaves (tail note choice.Arg mark.Comma ∷ [])
in_words note rule.Arg = stands_at note choice.Arg
in_words note rule.ArgSum = finds (an_operand note level.Sum ∷ []) (at note choice.Arg)
in_words note rule.ArgExpr = finds (an_operand note level.Term ∷ []) (at note choice.Arg)
in_words note rule.AssocTail = finds (at note choice.Choice ∷ []) (made note kind.Assoc)
in_words note rule.Assoc = makes note kind.Assoc
in_words note rule.AssocSum = finds (an_operand note level.Sum ∷ []) (made note kind.Assoc)
in_words note rule.Expr = leaves (an_operand note level.Term ∷ [])
in_words note rule.Quantified = leaves (an_operand note level.Term ∷ [])
in_words note rule.NoAll = leaves (an_operand note level.Term ∷ [])
in_words note rule.SumTails = finds (an_operand note level.Sum ∷ []) (an_operand note level.Equivalence)
in_words note rule.Rel = leaves (an_operand note level.Relation ∷ [])
in_words note rule.RelTail = finds (an_operand note level.Sum ∷ []) (an_operand note level.Relation)
in_words note rule.LogTail = binary_or_not note level.Relation level.Logical
in_words note rule.LogRow = finds (an_operand note level.Relation ∷ []) (an_operand_of note kind.Binary level.Logical)
in_words note rule.AndRest = finds (an_operand note level.Relation ∷ aloud word.And note ∷ []) (an_operand_of note kind.Binary level.Logical)
in_words note rule.OrRest = finds (an_operand note level.Relation ∷ aloud word.Or note ∷ []) (an_operand_of note kind.Binary level.Logical)
in_words note rule.AndTail = finds (a_chain note operator.And ∷ []) (a_chain note operator.And)
in_words note rule.OrTail = finds (a_chain note operator.Or ∷ []) (a_chain note operator.Or)
in_words note rule.XorTail = finds (a_chain note operator.Xor ∷ []) (a_chain note operator.Xor)
in_words note rule.ThenTail = finds (a_chain note operator.AndThen ∷ []) (a_chain note operator.AndThen)
in_words note rule.ElseTail = finds (a_chain note operator.OrElse ∷ []) (a_chain note operator.OrElse)
in_words note rule.Implication = leaves (an_operand note level.Implication ∷ [])
in_words note rule.ImpliesTail = binary_or_not note level.Logical level.Implication
in_words note rule.IffTail = binary_or_not note level.Implication level.Equivalence
in_words note rule.Sum = leaves (an_operand note level.Sum ∷ [])
in_words note rule.SumTail = binary_or_not note level.Sum level.Sum
in_words note rule.Signed = leaves (an_operand note level.Signed ∷ [])
in_words note rule.SignedFirst = leaves (an_operand_of note kind.Unary level.Signed ∷ [])
in_words note rule.Product = leaves (an_operand note level.Product ∷ [])
in_words note rule.ProductTail = binary_or_not note level.Product level.Product
in_words note rule.Factor = leaves (an_operand note level.Factor ∷ [])
in_words note rule.Absolute = leaves (an_operand_of note kind.Unary level.Factor ∷ [])
in_words note rule.Primary = leaves (an_operand note level.Primary ∷ [])
in_words note rule.Prefix = leaves (an_operand note level.Prefix ∷ [])
in_words note rule.PrefixTail = finds (an_operand note level.Prefix ∷ []) (an_operand note level.Prefix)
in_words note rule.Atom = leaves (an_operand note level.Prefix ∷ [])
in_words note rule.NoName = leaves (an_operand note level.Prefix ∷ [])
in_words note rule.ReturnTail = finds (a_word note word.Return ∷ []) (an_operand note level.Prefix)
in_words note rule.ReturnName = finds (a_word note word.Return ∷ []) (a_text note named)
in_words note rule.Int = makes note kind.Int
in_words note rule.Inner = finds (a_mark note mark.Open ∷ []) (an_operand note level.Prefix)
in_words note rule.InnerSum = finds (a_mark note mark.Open ∷ an_operand note level.Sum ∷ []) (an_operand note level.Prefix)
in_words note rule.InnerExpr = finds (a_mark note mark.Open ∷ an_operand note level.Term ∷ []) (an_operand note level.Prefix)
in_words note rule.AggrRest = finds (a_mark note mark.Open ∷ an_operand note level.Term ∷ []) (an_operand_of note kind.Aggr level.Prefix)
in_words note rule.AggrTail = finds (a_mark note mark.Open ∷ made note kind.Assoc ∷ []) (an_operand_of note kind.Aggr level.Prefix)
in_words note rule.AggrInner = finds (a_mark note mark.Open ∷ []) (an_operand_of note kind.Aggr level.Prefix)
in_words note rule.AggrSum = finds (a_mark note mark.Open ∷ an_operand note level.Sum ∷ []) (an_operand_of note kind.Aggr level.Prefix)
in_words note rule.Old = makes note kind.Old
in_words note rule.All = makes note kind.All
in_words note rule.AllTail = finds (a_word note word.For ∷ a_word note word.All ∷ a_text note named ∷ []) (made note kind.All)
in_words note rule.Exists = makes note kind.Exists
in_words note rule.Cond = makes note kind.Cond
in_words note rule.Make = leaves (an_operand_of note kind.Make level.Prefix ∷ [])
in_words note rule.Exprs = leaves (listed note choice.Expr mark.Comma)
in_words note rule.MoreExprs = leaves (tail note choice.Expr mark.Comma ∷ [])
in_words note rule.OfBinary = stands_at note (choice.Only kind.Binary)
in_words note rule.MustProduct = finds (an_operand note level.Factor ∷ []) (at note (choice.Only kind.Binary))
in_words note rule.MustSum = finds (an_operand note level.Signed ∷ []) (at note (choice.Only kind.Binary))
in_words note rule.MustRel = finds (an_operand note level.Signed ∷ []) (at note (choice.Only kind.Binary))
in_words note rule.MustLog = finds (an_operand note level.Signed ∷ []) (at note (choice.Only kind.Binary))
in_words note rule.BinaryEnd = finds (an_operand_of note kind.Binary level.Sum ∷ []) (at note (choice.Only kind.Binary))
in_words note rule.BinaryLog = finds (an_operand_of note kind.Binary level.Relation ∷ []) (at note (choice.Only kind.Binary))
in_words note rule.OfUnary = stands_at note (choice.Only kind.Unary)
in_words note rule.MemberTail = finds (an_operand note level.Sum ∷ []) (at note (choice.Only kind.Member))
in_words note rule.ToSelect = finds (an_operand note level.Prefix ∷ []) (at note (choice.Only kind.Select))
in_words note rule.WasSelect = finds (an_operand_of note kind.Select level.Prefix ∷ []) (at note (choice.Only kind.Select))
in_words note rule.ToAttr = finds (an_operand note level.Prefix ∷ []) (at note (choice.Only kind.Attr))
in_words note rule.WasAttr = finds (an_operand_of note kind.Attr level.Prefix ∷ []) (at note (choice.Only kind.Attr))
in_words note rule.ToApply = finds (an_operand note level.Prefix ∷ []) (at note (choice.Only kind.Apply))
in_words note rule.WasApply = finds (an_operand_of note kind.Apply level.Prefix ∷ []) (at note (choice.Only kind.Apply))
in_words note rule.Where = makes false kind.Where
in_words note rule.Wclauses = leaves (rest note choice.Wclause ∷ [])
in_words note rule.Wclause = stands_at note choice.Wclause
in_words note rule.Global = makes note kind.Global
in_words note rule.GlobalMode = ([], alone (silently word.In note) ∷ alone (aloud word.In note) ∷ alone (in_out note) ∷ []) ∷ []
in_words note rule.GlobalOut = (alone (aloud word.In note), alone (aloud word.In note) ∷ alone (in_out note) ∷ []) ∷ []
in_words note rule.In = makes note kind.In
in_words note rule.Out = makes note kind.Out
in_words note rule.RaiseC = makes note kind.RaiseC
in_words note rule.Based = makes false kind.Based
in_words note rule.View = makes false kind.View
in_words note rule.ViewInvariant = maybe (a_word note word.Invariant ∷ an_operand note level.Term ∷ [])
in_words note rule.Invariant = makes false kind.Invariant
in_words note rule.Assert = makes false kind.Assert
in_words note rule.Trait = makes false kind.Trait
in_words note rule.Incls = leaves (rest note (choice.Only kind.Incl) ∷ [])
in_words note rule.Incl = makes note kind.Incl
in_words note rule.Ops = leaves (rest note (choice.Only kind.Op) ∷ [])
in_words note rule.Op = makes note kind.Op
in_words note rule.MaybeMarks = either (begun kind.List ∷ []) (listed note choice.Mark mark.Comma)
in_words note rule.Gens = leaves (rest note (choice.Only kind.Gen) ∷ [])
in_words note rule.Gen = makes note kind.Gen
in_words note rule.EqnStart = leaves (an_operand note level.Term ∷ [])
in_words note rule.EqnTail = finds (an_operand note level.Term ∷ []) (made note kind.Eqn)
in_words note rule.Eqns = leaves (rest note (choice.Only kind.Eqn) ∷ [])
in_words note rule.Eqn = makes note kind.Eqn
in_words note rule.Vars = makes note kind.Vars
in_words note rule.MoreVars = leaves (tail note (choice.Only kind.Vars) mark.Semicolon ∷ [])
in_words note rule.Lemmas = leaves (rest note (choice.Only kind.Lemma) ∷ [])
in_words note rule.Lemma = makes note kind.Lemma
in_words note rule.Proof = makes false kind.Proof
in_words note rule.Orphan = makes false kind.Orphan
in_words note rule.Key = makes note kind.Key
in_words note rule.KeyFirst = finds (a_text note big ∷ []) (made note kind.Key)
in_words note rule.KeyLemma = finds (a_text note named ∷ []) (made note kind.Key)
in_words note rule.KeyPart = finds (a_text note big ∷ a_mark note mark.Dot ∷ []) (made note kind.Key)
in_words note rule.KeySecond = finds (a_text note big ∷ a_mark note mark.Dot ∷ a_text note big ∷ []) (made note kind.Key)
in_words note rule.KeyThird = finds (a_text note big ∷ a_mark note mark.Dot ∷ a_text note big ∷ a_mark note mark.Dot ∷ []) (made note kind.Key)
in_words note rule.KeyLabel = either (a_text note small ∷ []) (aloud word.Entry note ∷ [])
in_words note rule.Step = makes note kind.Step
in_words note rule.StepEnd = map (λ found. (found, alone (made note kind.Step) ∷ [])) step_heads
in_words note rule.MaybeSteps = maybe (a_mark note mark.OpenBracket ∷ listed note (choice.Only kind.Step) mark.Semicolon ++ a_mark note mark.CloseBracket ∷ [])
in_words note rule.MoreSteps = leaves (tail note (choice.Only kind.Step) mark.Semicolon ∷ [])
in_words note rule.InNumber = either [] in_number
in_words note rule.MaybeNames = either [] (in_parentheses (choice.Only kind.Name))
in_words note rule.MaybeTerms = either [] (in_parentheses choice.Expr)
in_words note rule.MaybeCoefficients = either [] (in_parentheses choice.Coefficient)
in_words note rule.MoreCoefficients = leaves (tail note choice.Coefficient mark.Comma ∷ [])
in_words note rule.Coefficient = stands_at note choice.Coefficient
in_words note rule.LemmaName = stands_at note choice.LemmaName
in_words note _ = []

abbrev turned : List Trace × List (List Trace) → Situation
turned s = (reverse s.0, map (λ traces. reverse traces) s.1)

abbrev situations_of : Bool → Rule → List Situation
situations_of note rule.MaybeOps = ([], no_operators [] ∷ some_operators [] ∷ []) ∷ []
situations_of note rule.TraitAsserts = traits trait_front
situations_of note rule.AssertsRest = traits (map (begin word.Asserts) trait_front)
situations_of note rule.ForAll = traits (map (λ stack. for_all (begin word.Asserts stack)) trait_front)
situations_of note rule.ForAllRest = traits (map (λ stack. a_text true named ∷ for_all (begin word.Asserts stack)) trait_front)
situations_of note rule.TraitImplies = traits trait_middle
situations_of note rule.ImpliesRest = traits (map (begin word.Implies) trait_middle)
situations_of note rule.TraitEnd = traits trait_end
situations_of note r = map turned (in_words note r)

abbrev pub situations : Part → List Situation
situations p = situations_of (side_in p.0 p.1) p.1
