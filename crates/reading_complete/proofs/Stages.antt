-- What the values of a stage stand for, and reading from a stage on.
use Rattle.std.proofs.Common.{◌≡◌, ℕ, zero, suc, List, [], ◌∷◌, ◌++◌, refl, sym, ◌∙◌, ap, true, false, length}
use Rattle.std.specs.Prelude.{bytes_eq, codes}
use Rattle.std.specs.List.{list_any}
use Rattle.ada_tree.specs.declared.kind.Kind.TheVariants as kind
use Rattle.ada_tree.specs.declared.node.Node.{Node}
use Rattle.ada_tree.specs.Nodes.{kind_of, text_of, node_of, is_empty}
use Rattle.ada_tree.specs.Rules.{arguments_of}
use Rattle.ada_tree.specs.Spelling.{is_own}
use Rattle.ada_tree.specs.Tokens.{Event}
use Rattle.reading_table.specs.declared.held.Held.{Held}
use Rattle.reading_table.specs.declared.held.Held.TheVariants as held
use Rattle.reading_table.specs.declared.symbol.Form.{Form}
use Rattle.reading_table.specs.Events.{Reads}
use Rattle.reading_table.specs.Rows.{Placed}
use Rattle.reading_table.specs.States.{text_below, text_in, nodes_in}
use Rattle.reading_table.specs.TokenSets.{arguments_in}
use Rattle.reading_complete.specs.Bare.{bare}
use Rattle.reading_complete.proofs.Classes.{Class, by_form}
use Rattle.reading_complete.proofs.Lazy.{any_of, all_of}
use Rattle.reading_complete.proofs.Seeking.{Value, own, known, kid, namesake, nothing, empty, begun, whole, Stage, is_part_of_node, is_own_value, names_own}

-- kids, the last one first, in their order
abbrev pub in_order : List Node → List Node
in_order [] = []
in_order (k ∷ ks) = in_order ks ++ k ∷ []

-- Values of a node, and the kids among them, the last one first, stand for what is held.
pub data Stands (node : Node) : List Value → List Node → List Held → Type 0 where
  no_values : Stands node [] [] []
  an_own : {values : List Value} {ks : List Node} {hs : List Held} → Stands node values ks hs → Stands node (own ∷ values) ks (held.Text (text_of node) ∷ hs)
  a_known : {text : List ℕ} {values : List Value} {ks : List Node} {hs : List Held} → Stands node values ks hs → Stands node (known text ∷ values) ks (held.Text text ∷ hs)
  a_kid : {k : Node} {values : List Value} {ks : List Node} {hs : List Held} → Stands node values ks hs → Stands node (kid ∷ values) (k ∷ ks) (held.Tree k ∷ hs)
  a_namesake : {k : Node} {values : List Value} {ks : List Node} {hs : List Held} → text_of k ≡ text_of node → Stands node values ks hs → Stands node (namesake ∷ values) (k ∷ ks) (held.Tree k ∷ hs)
  a_nothing : {values : List Value} {ks : List Node} {hs : List Held} → Stands node values ks hs → Stands node (nothing ∷ values) ks (held.Tree (node_of kind.None [] [] []) ∷ hs)
  an_empty : {values : List Value} {ks : List Node} {hs : List Held} → Stands node values ks hs → Stands node (empty ∷ values) ks (held.Tree (node_of kind.List [] [] []) ∷ hs)
  a_begun : {values : List Value} {ks : List Node} {hs : List Held} → Stands node values ks hs → Stands node (begun ∷ values) ks (held.Tree (node_of kind.File [] [] []) ∷ hs)
  the_whole : {ks : List Node} → Stands node (whole ∷ []) ks (held.Tree (bare node) ∷ [])

-- From the stage on, with these kids so far, the events are read.
abbrev pub ReadsFrom : Node → List Placed → List Held → List Held → List Node → List Event → Stage → Type 0
ReadsFrom node ss below last ks events stage = (hs : List Held) → Stands node stage.1 ks hs → Reads (stage.0 ++ ss) (hs ++ below) events last

-- the node is of the class
pub record IsOf (c : Class) (node : Node) : Type 0 where
  pub kind : c.kind ≡ kind_of node
  pub told : is_empty c.text ≡ false → text_of node ≡ c.text
  pub untold : list_any is_own c.line ≡ false → text_of node ≡ []
  pub steps : (f : Form) → c.sort ≡ by_form f → arguments_of (text_of node) ≡ arguments_in f
  pub unranged : (f : Form) → c.sort ≡ by_form f → is_empty c.text ≡ true → bytes_eq (text_of node) (codes "range") ≡ false

-- ---- what is among the values

pub none_stand : {node : Node} {ks : List Node} {hs : List Held} → Stands node [] ks hs → (ks ≡ []) × (hs ≡ [])
none_stand no_values = (refl, refl)

pub begun_stands : {node : Node} {ks : List Node} {hs : List Held} → Stands node (begun ∷ []) ks hs → (ks ≡ []) × (hs ≡ held.Tree (node_of kind.File [] [] []) ∷ [])
begun_stands (a_begun t) = let none = none_stand t in (none.0, ap (λ hs. held.Tree (node_of kind.File [] [] []) ∷ hs) none.1)

-- kids in their order have an order from the last one on
in_order-append : (ks : List Node) (k : Node) → in_order (ks ++ k ∷ []) ≡ k ∷ in_order ks
in_order-append [] k = refl
in_order-append (x ∷ ks) k = ap (λ ns. ns ++ x ∷ []) (in_order-append ks k)

pub from_last : (kids : List Node) → (ks : List Node) × (in_order ks ≡ kids)
from_last [] = ([], refl)
from_last (k ∷ kids) = let r = from_last kids in (r.0 ++ k ∷ [], in_order-append r.0 k ∙ ap (λ ns. k ∷ ns) r.1)

pub kid_alone : {node k : Node} {hs : List Held} → Stands node (kid ∷ []) (k ∷ []) hs → hs ≡ held.Tree k ∷ []
kid_alone {k = k} (a_kid t) = ap (λ hs. held.Tree k ∷ hs) (none_stand t).1

pub whole_stands : {node : Node} {ks : List Node} {hs : List Held} → Stands node (whole ∷ []) ks hs → hs ≡ held.Tree (bare node) ∷ []
whole_stands the_whole = refl

pub as_many : {node : Node} {values : List Value} {ks : List Node} {hs : List Held} → all_of values is_part_of_node ≡ true → Stands node values ks hs → length hs ≡ length values
as_many h no_values = refl
as_many h (an_own s) = ap suc (as_many h s)
as_many h (a_known s) = absurd cc
as_many h (a_kid s) = ap suc (as_many h s)
as_many h (a_namesake e s) = ap suc (as_many h s)
as_many h (a_nothing s) = absurd cc
as_many h (an_empty s) = absurd cc
as_many h (a_begun s) = absurd cc
as_many h the_whole = absurd cc

pub held_nodes : {node : Node} {values : List Value} {ks : List Node} {hs : List Held} → all_of values is_part_of_node ≡ true → Stands node values ks hs → nodes_in hs ≡ in_order ks
held_nodes h no_values = refl
held_nodes h (an_own s) = held_nodes h s
held_nodes h (a_known s) = absurd cc
held_nodes h (a_kid {k = k} s) = ap (λ ns. ns ++ k ∷ []) (held_nodes h s)
held_nodes h (a_namesake {k = k} e s) = ap (λ ns. ns ++ k ∷ []) (held_nodes h s)
held_nodes h (a_nothing s) = absurd cc
held_nodes h (an_empty s) = absurd cc
held_nodes h (a_begun s) = absurd cc
held_nodes h the_whole = absurd cc

pub held_text : {node : Node} {values : List Value} {ks : List Node} {hs : List Held} → all_of values is_part_of_node ≡ true → Stands node values ks hs
    → (any_of values is_own_value ≡ false → text_of node ≡ []) → text_in hs ≡ text_of node
held_text h no_values e = sym (e refl)
held_text h (an_own s) e = refl
held_text h (a_known s) e = absurd cc
held_text h (a_kid s) e = held_text h s e
held_text h (a_namesake n s) e = held_text h s e
held_text h (a_nothing s) e = absurd cc
held_text h (an_empty s) e = absurd cc
held_text h (a_begun s) e = absurd cc
held_text h the_whole e = absurd cc

-- the value so deep has the text of the node
pub named_below : {node : Node} {values : List Value} {ks : List Node} {hs : List Held} → (below : List Held) → Stands node values ks hs → (deep : ℕ) → names_own deep values ≡ true → text_below deep (hs ++ below) ≡ text_of node
named_below below no_values zero h = absurd cc
named_below below no_values (suc deep) h = absurd cc
named_below below (an_own s) zero h = refl
named_below below (an_own s) (suc deep) h = named_below below s deep h
named_below below (a_known s) zero h = absurd cc
named_below below (a_known s) (suc deep) h = named_below below s deep h
named_below below (a_kid s) zero h = absurd cc
named_below below (a_kid s) (suc deep) h = named_below below s deep h
named_below below (a_namesake e s) zero h = e
named_below below (a_namesake e s) (suc deep) h = named_below below s deep h
named_below below (a_nothing s) zero h = absurd cc
named_below below (a_nothing s) (suc deep) h = named_below below s deep h
named_below below (an_empty s) zero h = absurd cc
named_below below (an_empty s) (suc deep) h = named_below below s deep h
named_below below (a_begun s) zero h = absurd cc
named_below below (a_begun s) (suc deep) h = named_below below s deep h
named_below below the_whole zero h = absurd cc
named_below below the_whole (suc deep) h = absurd cc
