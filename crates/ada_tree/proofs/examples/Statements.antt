-- Worked examples of canonical text: statements, and the places of comments.
use Rattle.std.proofs.Common.{◌≡◌, ℕ, List, [], ◌∷◌, ◌++◌, refl, ◌∙◌}
use Rattle.std.specs.Prelude.{codes}
use Rattle.ada_tree.specs.declared.kind.Kind.TheVariants as kind
use Rattle.ada_tree.specs.Rendering.{text}
use Rattle.ada_tree.proofs.Trees.{Tree, Forest, tree, no_trees, ◌&◌, grown, text_grown, text_of_file, doc, texted, plain, none, list, id, name, int, binary, unit, commented, apply, assign, null, procedure}

-- the text of one procedure P with these statements
abbrev around : List ℕ → List ℕ
around statements = codes "procedure P is\nbegin\n" ++ statements ++ codes "end P;\n"

abbrev of_statements : Forest → Forest
of_statements statements = unit (procedure (codes "P") statements) & no_trees

-- alternatives with several choices, a range and others
abbrev pub alternatives : Tree
alternatives = plain kind.Case (name (codes "X") & list (
    plain kind.Alt (plain kind.Choices (list (int (codes "1") & plain kind.Span (int (codes "3") & int (codes "5") & no_trees) & no_trees) & no_trees) & list (null & no_trees) & no_trees)
    & plain kind.Alt (plain kind.Others no_trees & list (plain kind.Raise (none & no_trees) & no_trees) & no_trees)
    & no_trees) & no_trees)

alternatives-text : text (grown (doc (of_statements (alternatives & no_trees)))) 0 ≡ around (codes "   case X is\n      when 1 | 3 .. 5 =>\n         null;\n      when others =>\n         raise;\n   end case;\n")
alternatives-text = text_grown (of_statements (alternatives & no_trees)) ∙ refl

-- a loop with its invariant; comments before a statement and before the end of the statements
abbrev pub countdown : Tree
countdown = plain kind.Loop (
    plain kind.While (binary (codes ">") (name (codes "X")) (int (codes "0")) & no_trees)
    & plain kind.Invariant (binary (codes ">=") (name (codes "X")) (int (codes "0")) & no_trees)
    & tree kind.List [] (codes "-- at the end" ∷ codes "--" ∷ []) (commented (codes "-- one less" ∷ []) (assign (name (codes "X")) (binary (codes "-") (name (codes "X")) (int (codes "1")))) & no_trees)
    & no_trees)

countdown-text : text (grown (doc (of_statements (countdown & no_trees)))) 0 ≡ around (codes "   while X > 0 loop\n      --| invariant X >= 0;\n      -- one less\n      X := X - 1;\n      -- at the end\n      --\n   end loop;\n")
countdown-text = text_grown (of_statements (countdown & no_trees)) ∙ refl

-- loops over ranges, elsif and else, exits, an assertion, a call and a return
abbrev pub branches : Forest
branches =
    plain kind.Loop (texted kind.For (codes "I") (plain kind.RangeOf (name (codes "A") & no_trees) & no_trees) & none & list (plain kind.Exit (binary (codes "=") (name (codes "I")) (int (codes "3")) & no_trees) & no_trees) & no_trees)
    & plain kind.Loop (texted kind.Reverse (codes "I") (plain kind.Span (int (codes "1") & int (codes "9") & no_trees) & no_trees) & none & list (plain kind.Exit (none & no_trees) & no_trees) & no_trees)
    & plain kind.If (name (codes "B") & list (null & no_trees) & list (plain kind.Elsif (name (codes "C") & list (null & no_trees) & no_trees) & no_trees) & list (plain kind.Return (none & no_trees) & no_trees) & no_trees)
    & plain kind.Assert (name (codes "B") & no_trees)
    & plain kind.Call (apply (codes "Q") (int (codes "1") & name (codes "B") & no_trees) & no_trees)
    & no_trees

branches-text : text (grown (doc (of_statements branches))) 0 ≡ around (codes "   for I in A'range loop\n      exit when I = 3;\n   end loop;\n   for I in reverse 1 .. 9 loop\n      exit;\n   end loop;\n   if B then\n      null;\n   elsif C then\n      null;\n   else\n      return;\n   end if;\n   --| assert B;\n   Q(1, B);\n")
branches-text = text_grown (of_statements branches) ∙ refl

-- A block with declarations and a handler: the word exception stands at the indentation of the statements.
abbrev pub guarded : Tree
guarded = plain kind.Block (
    list (plain kind.Obj (list (id (codes "T") & no_trees) & name (codes "INTEGER") & none & none & no_trees) & no_trees)
    & plain kind.Seq (list (null & no_trees) & list (plain kind.Handler (plain kind.Choices (list (name (codes "NUMERIC_ERROR") & no_trees) & no_trees) & list (null & no_trees) & no_trees) & no_trees) & no_trees)
    & no_trees)

guarded-text : text (grown (doc (of_statements (guarded & no_trees)))) 0 ≡ around (codes "   declare\n      T : INTEGER;\n   begin\n      null;\n      exception\n         when NUMERIC_ERROR =>\n            null;\n   end;\n")
guarded-text = text_grown (of_statements (guarded & no_trees)) ∙ refl

-- comments before an item and at the end of a file
remarks-text : text (grown (tree kind.Doc [] [] (tree kind.File [] (codes "-- last" ∷ []) (commented (codes "-- first" ∷ []) (unit (procedure (codes "P") (null & no_trees))) & no_trees) & no_trees))) 0
    ≡ codes "-- first\nprocedure P is\nbegin\n   null;\nend P;\n-- last\n"
remarks-text = text_of_file (codes "-- last" ∷ []) (commented (codes "-- first" ∷ []) (unit (procedure (codes "P") (null & no_trees))) & no_trees) ∙ refl
