-- Worked examples of canonical text: library units.
use Rattle.std.proofs.Common.{◌≡◌, [], refl, ◌∙◌}
use Rattle.std.specs.Prelude.{codes}
use Rattle.ada_tree.specs.declared.kind.Kind.TheVariants as kind
use Rattle.ada_tree.specs.Rendering.{text}
use Rattle.ada_tree.proofs.Trees.{Tree, no_trees, ◌&◌, grown, text_grown, doc, texted, plain, none, list, id, name, int, binary, old, unit, apply, assign, sequence, procedure}

-- an empty file has no bytes
empty-text : text (grown (doc no_trees)) 0 ≡ []
empty-text = text_grown no_trees ∙ refl

-- a procedure with formals, a where block and declarations
abbrev pub swap : Tree
swap = unit (texted kind.SubBody (codes "SWAP") (
    texted kind.Proc (codes "SWAP") (plain kind.Formals (list (texted kind.Formal (codes "in out") (list (id (codes "A") & id (codes "B") & no_trees) & name (codes "INTEGER") & no_trees) & no_trees) & no_trees) & no_trees)
    & plain kind.Where (list (plain kind.Out (binary (codes "and") (binary (codes "=") (name (codes "A")) (old (codes "B"))) (binary (codes "=") (name (codes "B")) (old (codes "A"))) & no_trees) & no_trees) & no_trees)
    & list (plain kind.Const (list (id (codes "T") & no_trees) & name (codes "INTEGER") & none & name (codes "A") & no_trees) & no_trees)
    & sequence (assign (name (codes "A")) (name (codes "B")) & assign (name (codes "B")) (name (codes "T")) & no_trees)
    & no_trees))

swap-text : text (grown (doc (swap & no_trees))) 0 ≡ codes "procedure SWAP (A, B : in out INTEGER)\n--| where\n--|    out (A = in B) and (B = in A);\n--| end where;\nis\n   T : constant INTEGER := A;\nbegin\n   A := B;\n   B := T;\nend SWAP;\n"
swap-text = text_grown (swap & no_trees) ∙ refl

-- a private type with what it is based on, a function with its where block, and a view in the private part
abbrev pub stacks : Tree
stacks = unit (texted kind.Pack (codes "STACKS") (
    list (
    texted kind.Private (codes "STACK") (plain kind.Based (name (codes "SEQ") & no_trees) & no_trees)
    & plain kind.SubDecl (texted kind.Func (codes "EMPTY") (none & name (codes "STACK") & no_trees)
    & plain kind.Where (list (plain kind.Out (binary (codes "=") (plain kind.Result no_trees) (name (codes "NIL")) & no_trees) & no_trees) & no_trees)
    & no_trees)
    & no_trees)
    & list (
    texted kind.TypeDecl (codes "STACK") (plain kind.Range (int (codes "0") & int (codes "9") & no_trees) & no_trees)
    & texted kind.View (codes "S") (name (codes "STACK")
    & plain kind.Cond (binary (codes "=") (name (codes "S")) (int (codes "0")) & name (codes "NIL") & apply (codes "CONS") (name (codes "S") & name (codes "NIL") & no_trees) & no_trees)
    & none & no_trees)
    & no_trees)
    & no_trees))

stacks-text : text (grown (doc (stacks & no_trees))) 0 ≡ codes "package STACKS is\n   type STACK is private;\n   --| based on SEQ;\n   function EMPTY return STACK;\n   --| where\n   --|    out return = NIL;\n   --| end where;\nprivate\n   type STACK is range 0 .. 9;\n   --| view S of STACK is if S = 0 then NIL else CONS(S, NIL);\nend STACKS;\n"
stacks-text = text_grown (stacks & no_trees) ∙ refl

-- context clauses, and a package's body without declarations
abbrev pub body : Tree
body = plain kind.Unit (
    list (plain kind.With (list (name (codes "P") & name (codes "Q") & no_trees) & no_trees) & plain kind.Use (list (name (codes "P") & no_trees) & no_trees) & no_trees)
    & texted kind.Body (codes "R") (list no_trees & no_trees)
    & no_trees)

body-text : text (grown (doc (body & unit (procedure (codes "S") (plain kind.Null no_trees & no_trees)) & no_trees))) 0 ≡ codes "with P, Q;\nuse P;\npackage body R is\nend R;\nprocedure S is\nbegin\n   null;\nend S;\n"
body-text = text_grown (body & unit (procedure (codes "S") (plain kind.Null no_trees & no_trees)) & no_trees) ∙ refl
