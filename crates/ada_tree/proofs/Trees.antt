-- Trees written out, for the worked examples: what a fold gives of them computes.
use Rattle.std.proofs.Common.{◌≡◌, ℕ, List, [], ◌∷◌, refl, ap, ◌∙◌, map}
use Rattle.std.specs.Prelude.{slice_get}
use Rattle.ada_tree.specs.declared.kind.Kind.{Kind}
use Rattle.ada_tree.specs.declared.kind.Kind.TheVariants as kind
use Rattle.ada_tree.specs.declared.grammar.Choice.TheVariants as choice
use Rattle.ada_tree.specs.declared.grammar.Shape.{Shape}
use Rattle.ada_tree.specs.declared.grammar.Shape.TheVariants.{One}
use Rattle.ada_tree.specs.declared.node.Node.{Node, Node-F, fold-Node, fold-roll-Node, out-roll-Node}
use Rattle.ada_tree.specs.Nodes.{node_of}
use Rattle.ada_tree.specs.Items.{Item}
use Rattle.ada_tree.specs.Canonical.{Written, written, items_of}
use Rattle.ada_tree.specs.Rendering.{start, render, text, file_text}

infixr 5 ◌&◌
mutual
  pub data Tree : Type 0 where
    tree : Kind → List ℕ → List (List ℕ) → Forest → Tree

  pub data Forest : Type 0 where
    no_trees : Forest
    ◌&◌ : Tree → Forest → Forest

abbrev mutual
  pub grown : Tree → Node
  grown (tree k x notes kids) = node_of k x notes (all_grown kids)

  pub all_grown : Forest → List Node
  all_grown no_trees = []
  all_grown (t & ts) = grown t ∷ all_grown ts

abbrev pub tree_notes : Tree → List (List ℕ)
tree_notes (tree k x notes kids) = notes

abbrev mutual
  pub folded : (A : Type 0) → (Node-F A → A) → Tree → A
  folded A step (tree k x notes kids) = step record { kind = k; text = x; notes = notes; kids = all_folded A step kids }

  pub all_folded : (A : Type 0) → (Node-F A → A) → Forest → List A
  all_folded A step no_trees = []
  all_folded A step (t & ts) = folded A step t ∷ all_folded A step ts

mutual
  pub fold_grown : (A : Type 0) (step : Node-F A → A) (t : Tree) → fold-Node A step (grown t) ≡ folded A step t
  fold_grown A step (tree k x notes kids) =
      fold-roll-Node A step record { kind = k; text = x; notes = notes; kids = all_grown kids }
      ∙ ap (λ (ks : List A). step record { kind = k; text = x; notes = notes; kids = ks }) (folds_grown A step kids)

  folds_grown : (A : Type 0) (step : Node-F A → A) (ts : Forest) → map (fold-Node A step) (all_grown ts) ≡ all_folded A step ts
  folds_grown A step no_trees = refl
  folds_grown A step (t & ts) = ap (λ (x : A). x ∷ map (fold-Node A step) (all_grown ts)) (fold_grown A step t) ∙ ap (λ (xs : List A). folded A step t ∷ xs) (folds_grown A step ts)

-- ---- canonical text

abbrev pub tree_items : Shape → Tree → List Item
tree_items shape t = (folded Written written t).at shape

pub items_grown : (shape : Shape) (t : Tree) → items_of shape (grown t) ≡ tree_items shape t
unfolding items_of
items_grown shape t = ap (λ (w : Written). w.at shape) (fold_grown Written written t)

-- a document of one file
abbrev pub doc : Forest → Tree
doc items = tree kind.Doc [] [] (tree kind.File [] [] items & no_trees)

-- the text of a file with these comments at its end
abbrev pub file_bytes : List (List ℕ) → Forest → List ℕ
file_bytes notes items = render start (tree_items (One (choice.Only kind.File)) (tree kind.File [] notes items))

pub text_of_file : (notes : List (List ℕ)) (items : Forest) → text (grown (tree kind.Doc [] [] (tree kind.File [] notes items & no_trees))) 0 ≡ file_bytes notes items
text_of_file notes items =
    ap (λ (layer : Node-F Node). file_text (slice_get layer.kids 0)) (out-roll-Node record { kind = kind.Doc; text = []; notes = []; kids = grown (tree kind.File [] notes items) ∷ [] })
    ∙ ap (render start) (items_grown (One (choice.Only kind.File)) (tree kind.File [] notes items))

pub text_grown : (items : Forest) → text (grown (doc items)) 0 ≡ file_bytes [] items
text_grown items = text_of_file [] items

-- ---- how trees are written out here

abbrev pub texted : Kind → List ℕ → Forest → Tree
texted k x kids = tree k x [] kids

abbrev pub plain : Kind → Forest → Tree
plain k kids = tree k [] [] kids

abbrev pub leaf : Kind → List ℕ → Tree
leaf k x = tree k x [] no_trees

abbrev pub none : Tree
none = plain kind.None no_trees

abbrev pub list : Forest → Tree
list trees = plain kind.List trees

abbrev pub id : List ℕ → Tree
id x = leaf kind.Id x

abbrev pub name : List ℕ → Tree
name x = leaf kind.Name x

abbrev pub int : List ℕ → Tree
int x = leaf kind.Int x

abbrev pub binary : List ℕ → Tree → Tree → Tree
binary operator left right = texted kind.Binary operator (left & right & no_trees)

abbrev pub unary : List ℕ → Tree → Tree
unary operator operand = texted kind.Unary operator (operand & no_trees)

-- the value of an object at entry
abbrev pub old : List ℕ → Tree
old x = plain kind.Old (name x & no_trees)

-- a unit without context clauses
abbrev pub unit : Tree → Tree
unit lib = plain kind.Unit (list no_trees & lib & no_trees)

-- the same with comments before it
abbrev pub commented : List (List ℕ) → Tree → Tree
commented notes (tree k x old_notes kids) = tree k x notes kids

abbrev pub apply : List ℕ → Forest → Tree
apply prefix arguments = plain kind.Apply (name prefix & list arguments & no_trees)

abbrev pub assign : Tree → Tree → Tree
assign target value = plain kind.Assign (target & value & no_trees)

abbrev pub null : Tree
null = plain kind.Null no_trees

-- statements without handlers
abbrev pub sequence : Forest → Tree
sequence statements = plain kind.Seq (list statements & none & no_trees)

-- a procedure without formals, annotations and declarations
abbrev pub procedure : List ℕ → Forest → Tree
procedure x statements = texted kind.SubBody x (texted kind.Proc x (none & no_trees) & none & list no_trees & sequence statements & no_trees)
