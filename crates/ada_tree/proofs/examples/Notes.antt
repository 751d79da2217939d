-- Worked examples of canonical text: traits and proofs.
use Rattle.std.proofs.Common.{◌≡◌, refl, ◌∙◌}
use Rattle.std.specs.Prelude.{codes}
use Rattle.ada_tree.specs.declared.kind.Kind.TheVariants as kind
use Rattle.ada_tree.specs.Rendering.{text}
use Rattle.ada_tree.proofs.Trees.{Tree, no_trees, ◌&◌, grown, text_grown, doc, texted, plain, leaf, none, list, id, name, int, binary, unary, apply, unit}

-- each clause of a where block
abbrev pub clauses : Tree
clauses = unit (plain kind.SubDecl (texted kind.Proc (codes "P") (none & no_trees) & plain kind.Where (list (
    texted kind.Global (codes "in out") (list (texted kind.Select (codes "N") (name (codes "Q") & no_trees) & name (codes "M") & no_trees) & no_trees)
    & texted kind.Global (codes "in") (list (name (codes "K") & no_trees) & no_trees)
    & plain kind.In (name (codes "B") & no_trees)
    & plain kind.Out (name (codes "C") & no_trees)
    & plain kind.RaiseC (name (codes "E") & name (codes "D") & no_trees)
    & no_trees) & no_trees) & no_trees))

clauses-text : text (grown (doc (clauses & no_trees))) 0 ≡ codes "procedure P;\n--| where\n--|    global in out Q.N, M;\n--|    global in K;\n--|    in B;\n--|    out C;\n--|    raise E => D;\n--| end where;\n"
clauses-text = text_grown (clauses & no_trees) ∙ refl

-- a trait with all its parts
abbrev pub lists : Tree
lists = texted kind.Trait (codes "LISTS") (
    list (plain kind.Incl (name (codes "BASE") & no_trees) & no_trees)
    & list (
    texted kind.Op (codes "NIL") (list no_trees & name (codes "SEQ") & no_trees)
    & texted kind.Op (codes "CONS") (list (name (codes "INT") & name (codes "SEQ") & no_trees) & name (codes "SEQ") & no_trees)
    & texted kind.Op (codes "LEN") (list (name (codes "SEQ") & no_trees) & name (codes "INT") & no_trees)
    & no_trees)
    & list (texted kind.Gen (codes "SEQ") (list (name (codes "NIL") & name (codes "CONS") & no_trees) & no_trees) & no_trees)
    & list (
    plain kind.Vars (list (id (codes "E") & no_trees) & name (codes "INT") & no_trees)
    & plain kind.Vars (list (id (codes "S") & id (codes "T") & no_trees) & name (codes "SEQ") & no_trees)
    & no_trees)
    & list (
    plain kind.Eqn (apply (codes "LEN") (name (codes "NIL") & no_trees) & int (codes "0") & no_trees)
    & plain kind.Eqn (apply (codes "LEN") (apply (codes "CONS") (name (codes "E") & name (codes "S") & no_trees) & no_trees) & binary (codes "+") (int (codes "1")) (apply (codes "LEN") (name (codes "S") & no_trees)) & no_trees)
    & no_trees)
    & list no_trees
    & list (texted kind.Lemma (codes "LEN_NIL") (binary (codes "=") (apply (codes "LEN") (name (codes "NIL") & no_trees)) (int (codes "0")) & no_trees) & no_trees)
    & no_trees)

lists-text : text (grown (doc (lists & no_trees))) 0 ≡ codes "--| trait LISTS is\n--|    includes BASE;\n--|    introduces\n--|       NIL : -> SEQ;\n--|       CONS : INT, SEQ -> SEQ;\n--|       LEN : SEQ -> INT;\n--|    generated SEQ by NIL, CONS;\n--|    asserts for all E : INT; S, T : SEQ\n--|       LEN(NIL) == 0;\n--|       LEN(CONS(E, S)) == 1 + LEN(S);\n--|    implies\n--|       LEN_NIL : LEN(NIL) = 0;\n--| end trait;\n"
lists-text = text_grown (lists & no_trees) ∙ refl

-- what has no members isn't written
bare-text : text (grown (doc (texted kind.Trait (codes "T") (list no_trees & list no_trees & list no_trees & list no_trees & list no_trees & list no_trees & list no_trees & no_trees) & no_trees))) 0 ≡ codes "--| trait T is\n--| end trait;\n"
bare-text = text_grown (texted kind.Trait (codes "T") (list no_trees & list no_trees & list no_trees & list no_trees & list no_trees & list no_trees & list no_trees & no_trees) & no_trees) ∙ refl

-- a proof with nested steps
abbrev pub inc : Tree
inc = plain kind.Proof (leaf kind.Key (codes "INC.entry.1")
    & texted kind.Step (codes "range") (list (name (codes "X") & no_trees) & list (
    texted kind.Step (codes "and_hyp") (list (int (codes "2") & no_trees) & list (
    texted kind.Step (codes "antisym") (list no_trees & list (
    texted kind.Step (codes "hyp") (list (int (codes "4") & no_trees) & none & no_trees)
    & texted kind.Step (codes "linear") (list (int (codes "1") & int (codes "0") & unary (codes "-") (int (codes "1")) & no_trees) & none & no_trees)
    & no_trees) & no_trees)
    & no_trees) & no_trees)
    & no_trees) & no_trees)
    & no_trees)

inc-text : text (grown (doc (inc & no_trees))) 0 ≡ codes "--| proof of INC.entry.1 is\n--|    range X [and_hyp 2 [antisym [hyp 4; linear (1, 0, -1)]]]\n--| end proof;\n"
inc-text = text_grown (inc & no_trees) ∙ refl

-- arguments of each form, and an orphan with a lemma's key
abbrev pub lemma : Tree
lemma = plain kind.Orphan (leaf kind.Key (codes "LISTS.LEN_NIL")
    & texted kind.Step (codes "induct") (list (name (codes "S") & name (codes "E1") & name (codes "S1") & no_trees) & list (
    texted kind.Step (codes "unfold") (list (name (codes "LEN") & int (codes "2") & no_trees) & none & no_trees)
    & texted kind.Step (codes "lemma") (list (texted kind.Select (codes "L") (name (codes "T") & no_trees) & binary (codes "+") (name (codes "S")) (int (codes "1")) & no_trees) & none & no_trees)
    & texted kind.Step (codes "cut") (list (binary (codes "=") (name (codes "K")) (name (codes "I@loop1")) & no_trees) & none & no_trees)
    & no_trees) & no_trees)
    & no_trees)

lemma-text : text (grown (doc (lemma & no_trees))) 0 ≡ codes "--| orphan proof of LISTS.LEN_NIL is\n--|    induct S (E1, S1) [unfold LEN in 2; lemma T.L (S + 1); cut K = I@loop1]\n--| end proof;\n"
lemma-text = text_grown (lemma & no_trees) ∙ refl
