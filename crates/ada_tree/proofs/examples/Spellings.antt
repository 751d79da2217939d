-- Worked examples: which tokens and comments spell a tree, and which don't.
use Rattle.std.proofs.Common.{◌≡◌, ℕ, List, [], ◌∷◌, ◌++◌, true, false, refl}
use Rattle.std.specs.Prelude.{codes}
use Rattle.ada_tree.specs.declared.kind.Kind.TheVariants as kind
use Rattle.ada_tree.specs.declared.word.Word.TheVariants as word
use Rattle.ada_tree.specs.declared.word.Mark.TheVariants as mark
use Rattle.ada_tree.specs.declared.grammar.Choice.TheVariants as choice
use Rattle.ada_tree.specs.Tokens.{Lexeme, a_name, a_number, a_word, a_mark, Sign, token, comment, Event, comments, spell}
use Rattle.ada_tree.specs.Spelling.{SpellsNode}
use Rattle.ada_tree.specs.Reading.{IsReading}
use Rattle.ada_tree.specs.Fits.{Fits}
use Rattle.ada_tree.proofs.Trees.{Tree, Forest, tree, no_trees, ◌&◌, grown, doc, texted, plain, none, list, id, name, int, binary, unary, old, unit}
use Rattle.ada_tree.proofs.evaluator.Tests.{spells_grown, is_attached, is_read, reads_grown, fits_grown}
use Rattle.ada_tree.proofs.evaluator.Complete.{refused}

-- ---- how they are written here

-- tokens alone, in Ada text and in annotations
abbrev ada : List Lexeme → List Event
ada lexemes = spell false lexemes []

abbrev noted : List Lexeme → List Event
noted lexemes = spell true lexemes []

-- the tokens of a text in Ada, and other signs
abbrev and_signs : List Lexeme → List Sign → List Sign
and_signs [] signs = signs
and_signs (lexeme ∷ lexemes) signs = token false lexeme ∷ and_signs lexemes signs

abbrev A : Lexeme
A = a_name (codes "A")

abbrev B : Lexeme
B = a_name (codes "B")

abbrev C : Lexeme
C = a_name (codes "C")

abbrev X : Lexeme
X = a_name (codes "X")

abbrev opened : Lexeme
opened = a_mark mark.Open

abbrev closed : Lexeme
closed = a_mark mark.Close

abbrev comma : Lexeme
comma = a_mark mark.Comma

abbrev minus : Lexeme
minus = a_mark mark.Minus

abbrev semicolon : Lexeme
semicolon = a_mark mark.Semicolon

abbrev name_a : Tree
name_a = name (codes "A")

abbrev name_b : Tree
name_b = name (codes "B")

abbrev name_c : Tree
name_c = name (codes "C")

-- ---- operators

abbrev sum_of_negated : Tree
sum_of_negated = binary (codes "+") name_a (unary (codes "-") name_b)

-- A + - B: a sign may follow a sum's operator
sign_follows : SpellsNode false choice.Expr (grown sum_of_negated) (ada (A ∷ a_mark mark.Plus ∷ minus ∷ B ∷ [])) []
sign_follows = spells_grown false choice.Expr sum_of_negated (ada (A ∷ a_mark mark.Plus ∷ minus ∷ B ∷ [])) refl

-- A + (- B): the parentheses are superfluous
sign_in_parentheses : SpellsNode false choice.Expr (grown sum_of_negated) (ada (A ∷ a_mark mark.Plus ∷ opened ∷ minus ∷ B ∷ closed ∷ [])) []
sign_in_parentheses = spells_grown false choice.Expr sum_of_negated (ada (A ∷ a_mark mark.Plus ∷ opened ∷ minus ∷ B ∷ closed ∷ [])) refl

-- ((A) + (- B)): around the whole too
all_in_parentheses : SpellsNode false choice.Expr (grown sum_of_negated) (ada (opened ∷ opened ∷ A ∷ closed ∷ a_mark mark.Plus ∷ opened ∷ minus ∷ B ∷ closed ∷ closed ∷ [])) []
all_in_parentheses = spells_grown false choice.Expr sum_of_negated (ada (opened ∷ opened ∷ A ∷ closed ∷ a_mark mark.Plus ∷ opened ∷ minus ∷ B ∷ closed ∷ closed ∷ [])) refl

abbrev minus_seven_mod_two : List Event
minus_seven_mod_two = ada (minus ∷ a_number (codes "7") ∷ a_word word.Mod ∷ a_number (codes "2") ∷ [])

-- - 7 mod 2: the sign is that of the whole
sign_is_looser : SpellsNode false choice.Expr (grown (unary (codes "-") (binary (codes "mod") (int (codes "7")) (int (codes "2"))))) minus_seven_mod_two []
sign_is_looser = spells_grown false choice.Expr (unary (codes "-") (binary (codes "mod") (int (codes "7")) (int (codes "2")))) minus_seven_mod_two refl

-- ... and not that of the 7
sign_is_not_tighter : SpellsNode false choice.Expr (grown (binary (codes "mod") (unary (codes "-") (int (codes "7"))) (int (codes "2")))) minus_seven_mod_two [] → ⊥
sign_is_not_tighter = refused false choice.Expr (binary (codes "mod") (unary (codes "-") (int (codes "7"))) (int (codes "2"))) minus_seven_mod_two refl

abbrev a_and_b_or_c : List Event
a_and_b_or_c = ada (A ∷ a_word word.And ∷ B ∷ a_word word.Or ∷ C ∷ [])

-- A and B or C: two logical operators don't mix, neither so
and_before_or : SpellsNode false choice.Expr (grown (binary (codes "or") (binary (codes "and") name_a name_b) name_c)) a_and_b_or_c [] → ⊥
and_before_or = refused false choice.Expr (binary (codes "or") (binary (codes "and") name_a name_b) name_c) a_and_b_or_c refl

-- ... nor so
or_before_and : SpellsNode false choice.Expr (grown (binary (codes "and") name_a (binary (codes "or") name_b name_c))) a_and_b_or_c [] → ⊥
or_before_and = refused false choice.Expr (binary (codes "and") name_a (binary (codes "or") name_b name_c)) a_and_b_or_c refl

abbrev and_row : Tree
and_row = binary (codes "and") (binary (codes "and") name_a name_b) name_c

-- A and B and C: but one stands in a row
row_of_and : SpellsNode false choice.Expr (grown and_row) (ada (A ∷ a_word word.And ∷ B ∷ a_word word.And ∷ C ∷ [])) []
row_of_and = spells_grown false choice.Expr and_row (ada (A ∷ a_word word.And ∷ B ∷ a_word word.And ∷ C ∷ [])) refl

abbrev a_implies_b_implies_c : List Event
a_implies_b_implies_c = noted (A ∷ a_word word.Implies ∷ B ∷ a_word word.Implies ∷ C ∷ [])

abbrev implied_right : Tree
implied_right = binary (codes "implies") name_a (binary (codes "implies") name_b name_c)

-- A implies B implies C: associates to the right
implies_to_the_right : SpellsNode true choice.Expr (grown implied_right) a_implies_b_implies_c []
implies_to_the_right = spells_grown true choice.Expr implied_right a_implies_b_implies_c refl

-- ... and not to the left
implies_not_to_the_left : SpellsNode true choice.Expr (grown (binary (codes "implies") (binary (codes "implies") name_a name_b) name_c)) a_implies_b_implies_c [] → ⊥
implies_not_to_the_left = refused true choice.Expr (binary (codes "implies") (binary (codes "implies") name_a name_b) name_c) a_implies_b_implies_c refl

-- ---- what may be left out

abbrev formal_in : Tree
formal_in = texted kind.Formal (codes "in") (list (id (codes "X") & no_trees) & name (codes "INTEGER") & no_trees)

-- X : INTEGER: the mode in isn't written
mode_left_out : SpellsNode false (choice.Only kind.Formal) (grown formal_in) (ada (X ∷ a_mark mark.Colon ∷ a_name (codes "INTEGER") ∷ [])) []
mode_left_out = spells_grown false (choice.Only kind.Formal) formal_in (ada (X ∷ a_mark mark.Colon ∷ a_name (codes "INTEGER") ∷ [])) refl

-- X : in INTEGER: it is
mode_written : SpellsNode false (choice.Only kind.Formal) (grown formal_in) (ada (X ∷ a_mark mark.Colon ∷ a_word word.In ∷ a_name (codes "INTEGER") ∷ [])) []
mode_written = spells_grown false (choice.Only kind.Formal) formal_in (ada (X ∷ a_mark mark.Colon ∷ a_word word.In ∷ a_name (codes "INTEGER") ∷ [])) refl

-- ---- comments

abbrev one_comment : List ℕ
one_comment = codes "-- one"

-- a procedure that does nothing, with a comment before its statement and one before its end
abbrev procedure_unit : Tree
procedure_unit = unit (texted kind.SubBody (codes "P") (
    texted kind.Proc (codes "P") (none & no_trees)
    & none
    & list no_trees
    & plain kind.Seq (tree kind.List [] (codes "-- two" ∷ []) (tree kind.Null [] (one_comment ∷ []) no_trees & no_trees) & none & no_trees)
    & no_trees))

abbrev procedure_file : Tree
procedure_file = plain kind.File (procedure_unit & no_trees)

abbrev procedure_events : List Event
procedure_events = comments [] ∷ spell false (a_word word.Procedure ∷ a_name (codes "P") ∷ a_word word.Is ∷ []) (
    comments [] ∷ spell false (a_word word.Begin ∷ []) (
    comments (one_comment ∷ []) ∷ spell false (a_word word.Null ∷ semicolon ∷ []) (
    comments (codes "-- two" ∷ []) ∷ spell false (a_word word.End ∷ semicolon ∷ []) (
    comments [] ∷ []))))

abbrev procedure_signs : List Sign
procedure_signs = and_signs (a_word word.Procedure ∷ a_name (codes "P") ∷ a_word word.Is ∷ a_word word.Begin ∷ []) (
    comment one_comment ∷ and_signs (a_word word.Null ∷ semicolon ∷ []) (
    comment (codes "-- two") ∷ and_signs (a_word word.End ∷ semicolon ∷ []) []))

-- procedure P is begin -- one null; -- two end; : the closing name is left out, and each comment belongs to what follows it, the second to the list
procedure_read : IsReading false (choice.Only kind.File) procedure_signs (grown procedure_file)
procedure_read = reads_grown false (choice.Only kind.File) procedure_events procedure_signs procedure_file refl

abbrev null_statements : List (List ℕ) → Tree
null_statements notes = tree kind.List [] notes (plain kind.Null no_trees & no_trees)

abbrev when_number : List ℕ → Tree
when_number number = plain kind.Choices (list (int number & no_trees) & no_trees)

-- the comments of the second alternative, and of the end of the first one's statements
abbrev case_of : List (List ℕ) → List (List ℕ) → Tree
case_of second end = plain kind.Case (name (codes "X") & list (
    plain kind.Alt (when_number (codes "1") & null_statements end & no_trees)
    & tree kind.Alt [] second (when_number (codes "2") & null_statements [] & no_trees)
    & no_trees) & no_trees)

abbrev null_events : List (List ℕ) → List Event → List Event
null_events notes others = comments [] ∷ spell false (a_word word.Null ∷ semicolon ∷ []) (comments notes ∷ others)

abbrev when_lexemes : List ℕ → List Lexeme
when_lexemes number = a_word word.When ∷ a_number number ∷ a_mark mark.Arrow ∷ []

-- `between` stands before the second alternative
abbrev case_events : List (List ℕ) → (List Event → List Event) → List Event
case_events end between = spell false (a_word word.Case ∷ X ∷ a_word word.Is ∷ []) (comments [] ∷ spell false (when_lexemes (codes "1")) (null_events end (
    between (spell false (when_lexemes (codes "2")) (null_events [] (spell false (a_word word.End ∷ a_word word.Case ∷ semicolon ∷ []) []))))))

abbrev case_signs : List Sign
case_signs = and_signs (a_word word.Case ∷ X ∷ a_word word.Is ∷ when_lexemes (codes "1") ++ a_word word.Null ∷ semicolon ∷ []) (
    comment one_comment ∷ and_signs (when_lexemes (codes "2") ++ a_word word.Null ∷ semicolon ∷ a_word word.End ∷ a_word word.Case ∷ semicolon ∷ []) [])

-- a comment before a further `when` belongs to the end of the statements before it
case_read : IsReading false choice.Stmt case_signs (grown (case_of [] (one_comment ∷ [])))
case_read = reads_grown false choice.Stmt (case_events (one_comment ∷ []) (λ others. others)) case_signs (case_of [] (one_comment ∷ [])) refl

-- ... and not to the alternative: no comments stand before it
case_not_of_second : is_read false choice.Stmt (case_events [] (λ others. comments (one_comment ∷ []) ∷ others)) case_signs (case_of (one_comment ∷ []) []) ≡ false
case_not_of_second = refl

-- ... and the end of the statements would take it
case_not_attached : is_attached [] (case_events [] (λ others. comments (one_comment ∷ []) ∷ others)) case_signs ≡ false
case_not_attached = refl

-- ---- annotations

abbrev joined_name : Tree
joined_name = name (codes "X@loop1")

abbrev joined_lexemes : List Lexeme
joined_lexemes = X ∷ a_mark mark.AtSign ∷ a_name (codes "LOOP1") ∷ []

-- X @ loop1: a name of annotations
joined_in_annotation : SpellsNode true choice.Expr (grown joined_name) (noted joined_lexemes) []
joined_in_annotation = spells_grown true choice.Expr joined_name (noted joined_lexemes) refl

-- ... and not of Ada text
joined_in_ada : SpellsNode false choice.Expr (grown joined_name) (ada joined_lexemes) [] → ⊥
joined_in_ada = refused false choice.Expr joined_name (ada joined_lexemes) refl

abbrev stored : Tree
stored = texted kind.Make (codes "store") (list (name_a & name (codes "I") & name (codes "X") & no_trees) & no_trees)

-- store (A, I, X)
store_spelled : SpellsNode true choice.Expr (grown stored) (noted (a_word word.Store ∷ opened ∷ A ∷ comma ∷ a_name (codes "I") ∷ comma ∷ X ∷ closed ∷ [])) []
store_spelled = spells_grown true choice.Expr stored (noted (a_word word.Store ∷ opened ∷ A ∷ comma ∷ a_name (codes "I") ∷ comma ∷ X ∷ closed ∷ [])) refl

abbrev indexed_old : Tree
indexed_old = plain kind.Apply (old (codes "A") & list (name (codes "I") & no_trees) & no_trees)

-- (in A)(I): the value at entry is a prefix in parentheses
old_is_prefix : SpellsNode true choice.Expr (grown indexed_old) (noted (opened ∷ a_word word.In ∷ A ∷ closed ∷ opened ∷ a_name (codes "I") ∷ closed ∷ [])) []
old_is_prefix = spells_grown true choice.Expr indexed_old (noted (opened ∷ a_word word.In ∷ A ∷ closed ∷ opened ∷ a_name (codes "I") ∷ closed ∷ [])) refl

-- in A(I): and without them it isn't
old_is_no_bare_prefix : SpellsNode true choice.Expr (grown indexed_old) (noted (a_word word.In ∷ A ∷ opened ∷ a_name (codes "I") ∷ closed ∷ [])) [] → ⊥
old_is_no_bare_prefix = refused true choice.Expr indexed_old (noted (a_word word.In ∷ A ∷ opened ∷ a_name (codes "I") ∷ closed ∷ [])) refl

-- ---- steps of proofs

abbrev step : List ℕ → Forest → Tree → Tree
step rule arguments steps = texted kind.Step rule (list arguments & steps & no_trees)

abbrev rewritten : Tree
rewritten = step (codes "rewrite") (int (codes "1") & int (codes "2") & no_trees) (list (step (codes "hyp") (int (codes "3") & no_trees) none & no_trees))

abbrev rewritten_lexemes : List Lexeme
rewritten_lexemes = a_name (codes "REWRITE") ∷ a_number (codes "1") ∷ a_word word.In ∷ a_number (codes "2") ∷ a_mark mark.OpenBracket ∷ a_name (codes "HYP") ∷ a_number (codes "3") ∷ a_mark mark.CloseBracket ∷ []

-- rewrite 1 in 2 [hyp 3]
rewrite_spelled : SpellsNode true (choice.Only kind.Step) (grown rewritten) (noted rewritten_lexemes) []
rewrite_spelled = spells_grown true (choice.Only kind.Step) rewritten (noted rewritten_lexemes) refl

abbrev combined : Tree
combined = step (codes "linear") (int (codes "1") & unary (codes "-") (int (codes "1")) & no_trees) none

abbrev combined_lexemes : List Lexeme
combined_lexemes = a_name (codes "LINEAR") ∷ opened ∷ a_number (codes "1") ∷ comma ∷ minus ∷ a_number (codes "1") ∷ closed ∷ []

-- linear (1, -1)
linear_spelled : SpellsNode true (choice.Only kind.Step) (grown combined) (noted combined_lexemes) []
linear_spelled = spells_grown true (choice.Only kind.Step) combined (noted combined_lexemes) refl

abbrev inducted : Tree
inducted = step (codes "induct") (name (codes "S") & name (codes "E1") & name (codes "S1") & no_trees) (list (step (codes "refl") no_trees none & step (codes "hyp") (int (codes "1") & no_trees) none & no_trees))

abbrev inducted_lexemes : List Lexeme
inducted_lexemes = a_name (codes "INDUCT") ∷ a_name (codes "S") ∷ opened ∷ a_name (codes "E1") ∷ comma ∷ a_name (codes "S1") ∷ closed
    ∷ a_mark mark.OpenBracket ∷ a_name (codes "REFL") ∷ semicolon ∷ a_name (codes "HYP") ∷ a_number (codes "1") ∷ a_mark mark.CloseBracket ∷ []

-- induct S (E1, S1) [refl; hyp 1]
induct_spelled : SpellsNode true (choice.Only kind.Step) (grown inducted) (noted inducted_lexemes) []
induct_spelled = spells_grown true (choice.Only kind.Step) inducted (noted inducted_lexemes) refl

abbrev applied : Tree
applied = step (codes "lemma") (texted kind.Select (codes "L") (name (codes "T") & no_trees) & name (codes "X") & no_trees) none

abbrev applied_lexemes : List Lexeme
applied_lexemes = a_name (codes "LEMMA") ∷ a_name (codes "T") ∷ a_mark mark.Dot ∷ a_name (codes "L") ∷ opened ∷ X ∷ closed ∷ []

-- lemma T.L (X)
lemma_spelled : SpellsNode true (choice.Only kind.Step) (grown applied) (noted applied_lexemes) []
lemma_spelled = spells_grown true (choice.Only kind.Step) applied (noted applied_lexemes) refl

-- ---- aggregates

-- (A) is no aggregate
one_component : SpellsNode false choice.Expr (grown (plain kind.Aggr (list (name_a & no_trees) & no_trees))) (ada (opened ∷ A ∷ closed ∷ [])) [] → ⊥
one_component = refused false choice.Expr (plain kind.Aggr (list (name_a & no_trees) & no_trees)) (ada (opened ∷ A ∷ closed ∷ [])) refl

abbrev associated : Tree
associated = plain kind.Aggr (list (plain kind.Assoc (plain kind.Choices (list (name_a & no_trees) & no_trees) & name_b & no_trees) & no_trees) & no_trees)

-- (A => B) is one
one_association : SpellsNode false choice.Expr (grown associated) (ada (opened ∷ A ∷ a_mark mark.Arrow ∷ B ∷ closed ∷ [])) []
one_association = spells_grown false choice.Expr associated (ada (opened ∷ A ∷ a_mark mark.Arrow ∷ B ∷ closed ∷ [])) refl

-- ---- documents

-- the empty file: at its end stands a place for comments
empty_file_fits : Fits (grown (doc no_trees))
empty_file_fits = fits_grown (comments [] ∷ []) (doc no_trees) refl

-- a document of one file
procedure_fits : Fits (grown (doc (procedure_unit & no_trees)))
procedure_fits = fits_grown procedure_events (doc (procedure_unit & no_trees)) refl

-- a trait has all its lists, also those without members
short_trait : SpellsNode false choice.Item (grown (texted kind.Trait (codes "T") (list no_trees & list no_trees & list no_trees & list no_trees & list no_trees & list no_trees & no_trees))) (noted (a_word word.Trait ∷ a_name (codes "T") ∷ a_word word.Is ∷ a_word word.End ∷ a_word word.Trait ∷ semicolon ∷ [])) [] → ⊥
short_trait = refused false choice.Item (texted kind.Trait (codes "T") (list no_trees & list no_trees & list no_trees & list no_trees & list no_trees & list no_trees & no_trees)) (noted (a_word word.Trait ∷ a_name (codes "T") ∷ a_word word.Is ∷ a_word word.End ∷ a_word word.Trait ∷ semicolon ∷ [])) refl
