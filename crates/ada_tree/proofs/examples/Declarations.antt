-- Worked examples of canonical text: declarations and types.
use Rattle.std.proofs.Common.{◌≡◌, refl, ◌∙◌}
use Rattle.std.specs.Prelude.{codes}
use Rattle.ada_tree.specs.declared.kind.Kind.TheVariants as kind
use Rattle.ada_tree.specs.Rendering.{text}
use Rattle.ada_tree.proofs.Trees.{Tree, no_trees, ◌&◌, grown, text_grown, doc, texted, plain, none, list, id, name, int, unary, unit}

-- each kind of declaration of a visible part, and each definition of a type; a mark may have dots
abbrev pub types : Tree
types = unit (texted kind.Pack (codes "TYPES") (
    list (
    plain kind.Obj (list (id (codes "A") & id (codes "B") & no_trees) & name (codes "INTEGER") & plain kind.Range (unary (codes "-") (int (codes "1")) & int (codes "1") & no_trees) & int (codes "0") & no_trees)
    & plain kind.Num (list (id (codes "N") & no_trees) & int (codes "10") & no_trees)
    & texted kind.TypeDecl (codes "COLOR") (plain kind.Enum (list (id (codes "RED") & id (codes "GREEN") & no_trees) & no_trees) & no_trees)
    & texted kind.TypeDecl (codes "VEC") (plain kind.Arr (plain kind.Span (int (codes "1") & name (codes "N") & no_trees) & texted kind.Select (codes "T") (name (codes "Q") & no_trees) & no_trees) & no_trees)
    & texted kind.TypeDecl (codes "PAIR") (plain kind.Rec (list (plain kind.Comp (list (id (codes "X") & id (codes "Y") & no_trees) & name (codes "INTEGER") & no_trees) & plain kind.Comp (list (id (codes "C") & no_trees) & name (codes "COLOR") & no_trees) & no_trees) & no_trees) & no_trees)
    & texted kind.Subtype (codes "SMALL") (name (codes "INTEGER") & plain kind.Range (int (codes "0") & int (codes "9") & no_trees) & no_trees)
    & plain kind.Exc (list (id (codes "FULL") & no_trees) & no_trees)
    & no_trees)
    & none & no_trees))

types-text : text (grown (doc (types & no_trees))) 0 ≡ codes "package TYPES is\n   A, B : INTEGER range -1 .. 1 := 0;\n   N : constant := 10;\n   type COLOR is (RED, GREEN);\n   type VEC is array (1 .. N) of Q.T;\n   type PAIR is record\n      X, Y : INTEGER;\n      C : COLOR;\n   end record;\n   subtype SMALL is INTEGER range 0 .. 9;\n   FULL : exception;\nend TYPES;\n"
types-text = text_grown (types & no_trees) ∙ refl
