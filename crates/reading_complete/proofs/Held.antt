-- Nodes as they are held: without comments, as a list that grows, with comments.
use Rattle.std.proofs.Common.{◌≡◌, ℕ, List, [], ◌∷◌, ◌++◌, refl, sym, ◌∙◌, ap, Bool, true, false, ◌&&◌}
use Rattle.std.proofs.lemmas.Bool.{and_parts}
use denote.Enum.Bare.{same_true}
use Rattle.ada_tree.specs.contracts.kind.Kind as kind_row
use Rattle.ada_tree.specs.declared.kind.Kind.{Kind}
use Rattle.ada_tree.specs.declared.kind.Kind.TheVariants as kind
use Rattle.ada_tree.specs.declared.node.Node.{Node, Node-F, out-roll-Node, roll-out-Node}
use Rattle.ada_tree.specs.Kinds.{is_kind}
use Rattle.ada_tree.specs.Nodes.{kind_of, text_of, notes_of, kids_of, node_of, is_empty, is_silent, is_list, is_empty_list, is_none}
use Rattle.reading_table.specs.declared.held.Held.{Held}
use Rattle.reading_table.specs.declared.held.Held.TheVariants as held
use Rattle.reading_table.specs.States.{joined, end_noted, with_notes}
use Rattle.reading_complete.specs.Bare.{bare}

pub empty_is : {A : Type 0} → (xs : List A) → is_empty xs ≡ true → xs ≡ []
empty_is [] h = refl
empty_is (x ∷ xs) h = absurd cc

pub same_node : (node : Node) → node_of (kind_of node) (text_of node) (notes_of node) (kids_of node) ≡ node
same_node node = roll-out-Node node

-- a node of its parts
pub from_parts : (node : Node) (k : Kind) (text : List ℕ) (notes : List (List ℕ)) → k ≡ kind_of node → text ≡ text_of node → notes ≡ notes_of node → node_of k text notes (kids_of node) ≡ node
from_parts node k text notes e f g =
    ap (λ k. node_of k text notes (kids_of node)) e ∙ ap (λ t. node_of (kind_of node) t notes (kids_of node)) f ∙ ap (λ n. node_of (kind_of node) (text_of node) n (kids_of node)) g ∙ same_node node

pub bare_silent : (node : Node) → is_silent node ≡ true → bare node ≡ node
bare_silent node h = by (is_kind (kind_of node) kind.File) refl
  where
    by : (b : Bool) → is_kind (kind_of node) kind.File ≡ b → bare node ≡ node
    by true e = rw e refl
    by false e = rw e (from_parts node (kind_of node) (text_of node) [] refl refl (sym (empty_is (notes_of node) h)))

pub bare_file : (node : Node) → is_kind (kind_of node) kind.File ≡ true → bare node ≡ node
bare_file node e = rw e refl

pub noted_again : (node : Node) → with_notes (notes_of node) (bare node) ≡ node
noted_again node = by (is_kind (kind_of node) kind.File) refl
  where
    renoted : with_notes (notes_of node) (with_notes [] node) ≡ node
    renoted = ap (λ (l : Node-F Node). node_of l.kind l.text (notes_of node) l.kids) (out-roll-Node record { kind = kind_of node; text = text_of node; notes = []; kids = kids_of node }) ∙ same_node node

    by : (b : Bool) → is_kind (kind_of node) kind.File ≡ b → with_notes (notes_of node) (bare node) ≡ node
    by true e = rw e (same_node node)
    by false e = rw e renoted

-- ---- lists

-- a list, or a file, with these members
abbrev pub grown : Kind → List Node → Node
grown k nodes = node_of k [] [] nodes

pub joined_grown : (k : Kind) (nodes : List Node) (node : Node) (below : List Held) → joined (held.Tree node ∷ held.Tree (grown k nodes) ∷ below) ≡ held.Tree (grown k (nodes ++ node ∷ [])) ∷ below
joined_grown k nodes node below =
    ap (λ (l : Node-F Node). held.Tree (node_of l.kind l.text l.notes (l.kids ++ node ∷ [])) ∷ below) (out-roll-Node record { kind = k; text = []; notes = []; kids = nodes })

pub ended_grown : (k : Kind) (notes : List (List ℕ)) (nodes : List Node) (below : List Held) → end_noted notes (held.Tree (grown k nodes) ∷ below) ≡ held.Tree (node_of k [] notes nodes) ∷ below
ended_grown k notes nodes below =
    ap (λ (l : Node-F Node). held.Tree (node_of l.kind l.text notes l.kids) ∷ below) (out-roll-Node record { kind = k; text = []; notes = []; kids = nodes })

pub list_is : (node : Node) (notes : List (List ℕ)) → is_list node ≡ true → notes ≡ notes_of node → node_of kind.List [] notes (kids_of node) ≡ node
list_is node notes h e =
    let parts = and_parts (is_kind (kind_of node) kind.List) (is_empty (text_of node)) h in
    from_parts node kind.List [] notes (sym (same_true kind_row.the_type tt (kind_of node) kind.List parts.0)) (sym (empty_is (text_of node) parts.1)) e

pub silent_list_is : (node : Node) → is_list node ≡ true → is_silent node ≡ true → grown kind.List (kids_of node) ≡ node
silent_list_is node h s = list_is node [] h (sym (empty_is (notes_of node) s))

pub empty_list_is : (node : Node) → is_empty_list node ≡ true → grown kind.List [] ≡ node
empty_list_is node h =
    let parts = and_parts (is_list node && is_silent node) (is_empty (kids_of node)) h in
    let front = and_parts (is_list node) (is_silent node) parts.0 in
    ap (grown kind.List) (sym (empty_is (kids_of node) parts.1)) ∙ silent_list_is node front.0 front.1

pub none_is : (node : Node) → is_none node ≡ true → node_of kind.None [] [] [] ≡ node
none_is node h =
    let last = and_parts (is_kind (kind_of node) kind.None && is_empty (text_of node) && is_silent node) (is_empty (kids_of node)) h in
    let three = and_parts (is_kind (kind_of node) kind.None && is_empty (text_of node)) (is_silent node) last.0 in
    let two = and_parts (is_kind (kind_of node) kind.None) (is_empty (text_of node)) three.0 in
    ap (λ ks. node_of kind.None [] [] ks) (sym (empty_is (kids_of node) last.1))
    ∙ from_parts node kind.None [] [] (sym (same_true kind_row.the_type tt (kind_of node) kind.None two.0)) (sym (empty_is (text_of node) two.1)) (sym (empty_is (notes_of node) three.1))
