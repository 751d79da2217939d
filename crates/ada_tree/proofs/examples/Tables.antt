-- Worked examples of the tables: what words, marks, operators, choices and rules there are, in the order of the language's documents, and that each row stands at the number of its value.
use Rattle.std.proofs.Common.{◌≡◌, ℕ, suc, List, [], ◌∷◌, refl, Bool, true, false, ◌==◌, ◌&&◌, map, filter}
use Rattle.std.specs.Prelude.{codes, replicate}
use Rattle.std.specs.List.{slice_split}
use Rattle.base_kit.specs.Bytes.{space, comma}
use denote.Enum.Declared.{tag_of}
use Rattle.ada_tree.specs.contracts.kind.Kind as kind_row
use Rattle.ada_tree.specs.contracts.word.Word as word_row
use Rattle.ada_tree.specs.contracts.word.Mark as mark_row
use Rattle.ada_tree.specs.contracts.operator.Operator as operator_row
use Rattle.ada_tree.specs.contracts.rule.ProofRule as rule_row
use Rattle.ada_tree.specs.declared.limits.TheConstants.{MOST_NESTED, MOST_NESTED_STEPS, MOST_OPEN, LONGEST_NAME, LONGEST_NUMBER}
use Rattle.ada_tree.specs.declared.lines.TheConstants.{LINES}
use Rattle.ada_tree.specs.declared.word.TheConstants.{WORDS, MARKS}
use Rattle.ada_tree.specs.declared.operator.TheConstants.{OPERATORS}
use Rattle.ada_tree.specs.declared.rule.TheConstants.{PROOF_RULES}
use Rattle.ada_tree.specs.declared.kind.Kind.{Kind}
use Rattle.ada_tree.specs.declared.kind.Kind.TheVariants as kind
use Rattle.ada_tree.specs.declared.grammar.Argument.TheVariants.{Number, Name, LemmaName, Term, InNumber, Names, Terms, Coefficients}
use Rattle.ada_tree.specs.declared.grammar.Choice.{Choice}
use Rattle.ada_tree.specs.declared.grammar.Choice.TheVariants as choice
use Rattle.ada_tree.specs.declared.grammar.Shape.TheVariants.{One}
use Rattle.ada_tree.specs.declared.grammar.Piece.{Piece}
use Rattle.ada_tree.specs.declared.grammar.Piece.TheVariants.{Kid}
use Rattle.ada_tree.specs.Words.{reserved_words, note_words}
use Rattle.ada_tree.specs.Rules.{arguments_of}
use Rattle.ada_tree.specs.Choices.{kinds, stands}
use Rattle.ada_tree.specs.Lines.{line}

-- texts between commas
abbrev texts : List ℕ → List (List ℕ)
texts bytes = slice_split (λ b. b == comma) bytes

-- ---- each row stands at the number of its value

-- from this number on, without gaps
abbrev are_in_order : ℕ → List ℕ → Bool
are_in_order from [] = true
are_in_order from (number ∷ numbers) = number == from && are_in_order (suc from) numbers

lines_in_order : are_in_order 0 (map (λ row. tag_of kind_row.the_type row.0) LINES) ≡ true
lines_in_order = refl

words_in_order : are_in_order 0 (map (λ row. tag_of word_row.the_type row.0) WORDS) ≡ true
words_in_order = refl

marks_in_order : are_in_order 0 (map (λ row. tag_of mark_row.the_type row.0) MARKS) ≡ true
marks_in_order = refl

operators_in_order : are_in_order 0 (map (λ row. tag_of operator_row.the_type row.0.operator) OPERATORS) ≡ true
operators_in_order = refl

rules_in_order : are_in_order 0 (map (λ row. tag_of rule_row.the_type row.0) PROOF_RULES) ≡ true
rules_in_order = refl

-- ---- limits

nodes_and_steps : MOST_NESTED ∷ MOST_NESTED_STEPS ∷ MOST_OPEN ∷ [] ≡ 64 ∷ 200 ∷ 64 ∷ []
nodes_and_steps = refl

names_and_numbers : LONGEST_NAME ∷ LONGEST_NUMBER ∷ [] ≡ 120 ∷ 18 ∷ []
names_and_numbers = refl

-- ---- words and marks

reserved : map (λ row. row.1.now) reserved_words ≡ texts (codes "abort,abs,accept,access,all,and,array,at,begin,body,case,constant,declare,delay,delta,digits,do,else,elsif,end,entry,exception,exit,for,function,generic,goto,if,in,is,limited,loop,mod,new,not,null,of,or,others,out,package,pragma,private,procedure,raise,range,record,rem,renames,return,reverse,select,separate,subtype,task,terminate,then,type,use,when,while,with,xor")
reserved = refl

of_annotations : map (λ row. row.1.now) note_words ≡ texts (codes "where,global,implies,iff,exists,trait,introduces,asserts,includes,generated,by,based,on,view,invariant,assert,variant,proof,orphan,store,update,fill,make")
of_annotations = refl

marks : map (λ row. row.1.now) MARKS ≡ slice_split (λ b. b == space) (codes "& ' ( ) * + , - . / : ; < = > | [ ] @ => .. := /= <= >= ** << >> <> -> ==")
marks = refl

-- ---- what stands at a choice, apart from expressions

items : kinds choice.Item ≡ kind.Unit ∷ kind.Trait ∷ kind.Proof ∷ kind.Orphan ∷ []
items = refl

clauses : kinds choice.Clause ≡ kind.With ∷ kind.Use ∷ []
clauses = refl

library_units : kinds choice.Lib ≡ kind.Pack ∷ kind.Body ∷ kind.SubDecl ∷ kind.SubBody ∷ []
library_units = refl

specifications : kinds choice.Spec ≡ kind.Proc ∷ kind.Func ∷ []
specifications = refl

marks_of_names : kinds choice.Mark ≡ kind.Name ∷ kind.Select ∷ []
marks_of_names = refl

declarations : kinds choice.Decl ≡ kind.Obj ∷ kind.Const ∷ kind.Num ∷ kind.TypeDecl ∷ kind.Subtype ∷ kind.Exc ∷ kind.Private ∷ kind.View ∷ kind.SubDecl ∷ kind.SubBody ∷ kind.Use ∷ []
declarations = refl

type_definitions : kinds choice.Tdef ≡ kind.Enum ∷ kind.Range ∷ kind.Arr ∷ kind.Rec ∷ []
type_definitions = refl

discrete_ranges : kinds choice.Dis ≡ kind.Span ∷ kind.Name ∷ kind.Select ∷ kind.RangeOf ∷ []
discrete_ranges = refl

lists_of_choices : kinds choice.Choices ≡ kind.Others ∷ kind.Choices ∷ []
lists_of_choices = refl

single_choices : kinds choice.Choice ≡ kind.Span ∷ []
single_choices = refl

statements : kinds choice.Stmt ≡ kind.Null ∷ kind.Assign ∷ kind.Call ∷ kind.If ∷ kind.Case ∷ kind.Loop ∷ kind.Block ∷ kind.Exit ∷ kind.Return ∷ kind.Raise ∷ kind.Assert ∷ []
statements = refl

loop_heads : kinds choice.Head ≡ kind.While ∷ kind.For ∷ kind.Reverse ∷ []
loop_heads = refl

arguments : kinds choice.Arg ≡ kind.Assoc ∷ []
arguments = refl

where_clauses : kinds choice.Wclause ≡ kind.Global ∷ kind.In ∷ kind.Out ∷ kind.RaiseC ∷ []
where_clauses = refl

-- ---- primaries that stand somewhere

abbrev primaries : Bool → Choice → List Kind
primaries note place = filter (λ k. stands note place k [])
    (kind.Int ∷ kind.Name ∷ kind.Select ∷ kind.Apply ∷ kind.Attr ∷ kind.Aggr ∷ kind.Old ∷ kind.Result ∷ kind.All ∷ kind.Exists ∷ kind.Cond ∷ kind.Span ∷ kind.Assoc ∷ kind.Null ∷ [])

abbrev plain_primaries : List Kind
plain_primaries = kind.Int ∷ kind.Name ∷ kind.Select ∷ kind.Apply ∷ kind.Attr ∷ []

in_expressions : primaries false choice.Expr ≡ kind.Int ∷ kind.Name ∷ kind.Select ∷ kind.Apply ∷ kind.Attr ∷ kind.Aggr ∷ []
in_expressions = refl

in_terms : primaries true choice.Expr ≡ kind.Int ∷ kind.Name ∷ kind.Select ∷ kind.Apply ∷ kind.Attr ∷ kind.Old ∷ kind.Result ∷ kind.All ∷ kind.Exists ∷ kind.Cond ∷ []
in_terms = refl

in_bounds : primaries true choice.Bound ≡ kind.Int ∷ kind.Name ∷ kind.Select ∷ kind.Apply ∷ kind.Attr ∷ kind.Old ∷ kind.Result ∷ []
in_bounds = refl

-- ---- the operands of operators, and which operators stand there without parentheses

-- the places of the operands, in order
abbrev places : List Piece → List Choice
places [] = []
places (Kid (One place) ∷ pieces) = place ∷ places pieces
places (piece ∷ pieces) = places pieces

abbrev binary : List (List ℕ)
binary = texts (codes "iff,implies,and,or,xor,and then,or else,=,/=,<,<=,>,>=,+,-,*,/,mod,rem")

abbrev unary : List (List ℕ)
unary = texts (codes "+,-,abs,not")

-- the binary operators, and the unary ones, that stand bare at each operand of a node of this kind with this operator
abbrev bare : Bool → Kind → List ℕ → List (List (List ℕ))
bare note k text = map (λ place. filter (stands note place kind.Binary) binary) (places (line choice.Expr k text))

abbrev bare_unary : Bool → Kind → List ℕ → List (List (List ℕ))
bare_unary note k text = map (λ place. filter (stands note place kind.Unary) unary) (places (line choice.Expr k text))

abbrev relations_up : List (List ℕ)
relations_up = texts (codes "=,/=,<,<=,>,>=,+,-,*,/,mod,rem")

abbrev sums_up : List (List ℕ)
sums_up = texts (codes "+,-,*,/,mod,rem")

abbrev products : List (List ℕ)
products = texts (codes "*,/,mod,rem")

abbrev words : List (List ℕ)
words = texts (codes "abs,not")

of_rows : map (bare false kind.Binary) (texts (codes "and,or,xor,and then,or else"))
    ≡ ((codes "and" ∷ relations_up) ∷ relations_up ∷ []) ∷ ((codes "or" ∷ relations_up) ∷ relations_up ∷ []) ∷ ((codes "xor" ∷ relations_up) ∷ relations_up ∷ [])
    ∷ ((codes "and then" ∷ relations_up) ∷ relations_up ∷ []) ∷ ((codes "or else" ∷ relations_up) ∷ relations_up ∷ []) ∷ []
of_rows = refl

of_relations : map (bare false kind.Binary) (texts (codes "=,/=,<,<=,>,>=")) ≡ replicate 6 (sums_up ∷ sums_up ∷ [])
of_relations = refl

of_memberships : map (λ text. filter (stands false choice.Expr kind.Member) (text ∷ [])) (texts (codes "in,not in")) ≡ (codes "in" ∷ []) ∷ (codes "not in" ∷ []) ∷ []
of_memberships = refl

of_sums : map (bare false kind.Binary) (texts (codes "+,-")) ≡ replicate 2 (sums_up ∷ products ∷ [])
of_sums = refl

of_products : map (bare false kind.Binary) (texts (codes "*,/,mod,rem")) ≡ replicate 4 (products ∷ [] ∷ [])
of_products = refl

of_signs : map (bare false kind.Unary) (texts (codes "+,-")) ≡ replicate 2 (products ∷ [])
of_signs = refl

of_words : map (bare false kind.Unary) words ≡ replicate 2 ([] ∷ [])
of_words = refl

signs_at_sums : map (bare_unary false kind.Binary) (texts (codes "+,-")) ≡ replicate 2 (unary ∷ unary ∷ [])
signs_at_sums = refl

signs_at_products : map (bare_unary false kind.Binary) products ≡ replicate 4 (words ∷ words ∷ [])
signs_at_products = refl

signs_at_signs : map (bare_unary false kind.Unary) (texts (codes "+,-")) ≡ replicate 2 (words ∷ [])
signs_at_signs = refl

words_at_words : map (bare_unary false kind.Unary) words ≡ replicate 2 ([] ∷ [])
words_at_words = refl

-- in terms implies and iff stand below; and then, or else and memberships aren't there
of_implications : bare true kind.Binary (codes "implies") ≡ (codes "and" ∷ codes "or" ∷ codes "xor" ∷ relations_up) ∷ (codes "implies" ∷ codes "and" ∷ codes "or" ∷ codes "xor" ∷ relations_up) ∷ []
of_implications = refl

of_equivalences : bare true kind.Binary (codes "iff") ≡ (codes "implies" ∷ codes "and" ∷ codes "or" ∷ codes "xor" ∷ relations_up) ∷ (codes "implies" ∷ codes "and" ∷ codes "or" ∷ codes "xor" ∷ relations_up) ∷ []
of_equivalences = refl

in_ada_text : filter (stands false choice.Expr kind.Binary) binary ≡ texts (codes "and,or,xor,and then,or else,=,/=,<,<=,>,>=,+,-,*,/,mod,rem")
in_ada_text = refl

in_annotations : filter (stands true choice.Expr kind.Binary) binary ≡ texts (codes "iff,implies,and,or,xor,=,/=,<,<=,>,>=,+,-,*,/,mod,rem")
in_annotations = refl

made_in_annotations : filter (stands true choice.Expr kind.Make) (texts (codes "store,update,fill,make,and")) ≡ texts (codes "store,update,fill,make")
made_in_annotations = refl

not_made_in_ada_text : filter (stands false choice.Expr kind.Make) (texts (codes "store,update,fill,make")) ≡ []
not_made_in_ada_text = refl

-- ---- the arguments of rules

without_arguments : map arguments_of (texts (codes "open,refl,and_goal,imp_goal,not_goal,iff_goal,contra,antisym,simplify,select_same,select_other,select_fill,if_goal")) ≡ replicate 13 []
without_arguments = refl

by_number : map arguments_of (texts (codes "hyp,absurd,and_hyp,or_goal,or_hyp,imp_hyp,not_hyp,iff_hyp,drop")) ≡ replicate 9 (Number ∷ [])
by_number = refl

by_name : map arguments_of (texts (codes "all_goal,descend")) ≡ replicate 2 (Name ∷ [])
by_name = refl

by_term : map arguments_of (texts (codes "some_goal,range,cut,cases")) ≡ replicate 4 (Term ∷ [])
by_term = refl

by_number_and_term : arguments_of (codes "all_hyp") ≡ Number ∷ Term ∷ []
by_number_and_term = refl

by_number_and_name : arguments_of (codes "some_hyp") ≡ Number ∷ Name ∷ []
by_number_and_name = refl

rewriting : arguments_of (codes "rewrite") ≡ Number ∷ InNumber ∷ []
rewriting = refl

unfolding_of : arguments_of (codes "unfold") ≡ Name ∷ InNumber ∷ []
unfolding_of = refl

induction : arguments_of (codes "induct") ≡ Name ∷ Names ∷ []
induction = refl

combination : arguments_of (codes "linear") ≡ Coefficients ∷ []
combination = refl

citation : arguments_of (codes "lemma") ≡ LemmaName ∷ Terms ∷ []
citation = refl

of_no_rule : arguments_of (codes "guess") ≡ []
of_no_rule = refl
