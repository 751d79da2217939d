-- How many parentheses are open in each part of a spelling as it is written canonically: no more than nodes are nested in it.
use Rattle.std.proofs.Common.{◌≡◌, ℕ, zero, suc, ◌+◌, ◌-◌, ◌≤◌, List, [], ◌∷◌, refl, sym, ◌∙◌, ap, subst, Bool, true, false, map, drop, if◌then◌else◌, arith}
use Rattle.ada_tree.specs.declared.kind.Kind.{Kind}
use Rattle.ada_tree.specs.declared.word.Mark.{Mark}
use Rattle.ada_tree.specs.declared.grammar.Choice.{Choice}
use Rattle.ada_tree.specs.declared.grammar.Choice.TheVariants as choice
use Rattle.ada_tree.specs.declared.grammar.Shape.{Shape}
use Rattle.ada_tree.specs.declared.grammar.Shape.TheVariants.{One}
use Rattle.ada_tree.specs.declared.grammar.Piece.{Piece}
use Rattle.ada_tree.specs.declared.grammar.Argument.{Argument}
use Rattle.ada_tree.specs.declared.node.Node.{Node, fold_out-Node}
use Rattle.ada_tree.specs.Nodes.{kind_of, text_of, kids_of, is_empty, nesting_of, greatest, is_nested}
use Rattle.ada_tree.specs.Items.{Item}
use Rattle.ada_tree.specs.Choices.{stands, opens}
use Rattle.ada_tree.specs.Lines.{line}
use Rattle.ada_tree.specs.Spelling.{line_of}
use Rattle.ada_tree.specs.Canonical.{Written, is_wrapped, written_node, members, separated, arguments, in_parentheses}
use Rattle.text_laws.proofs.round_trip.Places.{both}
use Rattle.text_laws.proofs.round_trip.Parentheses.{stands_in_them, same_line}
use Rattle.text_laws.proofs.round_trip.Written.{as_written, all_written, opened, layer_of, node_items, line_items, Admitted, as_it_is, in_them}
use Rattle.text_laws.proofs.round_trip.OpenedItems.{IsWithin, nothing_opened, enclose, one_of}
use Rattle.text_laws.proofs.round_trip.OpenedLines.{is_tight, is_counted, is_tight_kind, is_counted_kind, tight_standing, counted_standing, is_flat_mark, is_loose_shape, is_tight_shape, is_counted_shape, is_loose_line, is_tight_line, is_counted_line, loose_line, fit_line, counted_line, wrapped_nested, wrapped_tight, wrapped_counted}

-- ---- how deep nodes are nested

abbrev pub height : Node → ℕ
height node = nesting_of is_nested node

abbrev pub heights : List Node → ℕ
heights nodes = greatest (map height nodes)

height_at : (node : Node) → height node ≡ (if is_nested (kind_of node) then 1 else 0) + heights (kids_of node)
height_at node = fold_out-Node ℕ (λ layer. (if is_nested layer.kind then 1 else 0) + greatest layer.kids) node

pub kids_below : (node : Node) → heights (kids_of node) ≤ height node
kids_below node = let e = height_at node in omega arith

nested_above : (node : Node) → is_nested (kind_of node) ≡ true → height node ≡ suc (heights (kids_of node))
nested_above node n = let e : height node ≡ 1 + heights (kids_of node) = height_at node ∙ rw n refl in omega arith

pub heights_drop : (count : ℕ) (nodes : List Node) → heights (drop count nodes) ≤ heights nodes
heights_drop zero nodes = omega arith
heights_drop (suc count) [] = omega arith
heights_drop (suc count) (node ∷ nodes) = let h = heights_drop count nodes in omega arith

-- ---- the parts of a spelling: within a bound on the nodes that are nested, and within one less where they are parts of expressions

pub record IsLineOpened (pieces : List Piece) (node : Node) (kids : List Node) : Type 0 where
  pub loose : (inside : Bool) (bound : ℕ) → is_loose_line inside false pieces ≡ true → 1 ≤ bound → heights kids ≤ bound → IsWithin inside (line_items pieces node kids) bound
  pub tight : (bound : ℕ) → is_tight_line pieces ≡ true → heights kids ≤ suc bound → IsWithin false (line_items pieces node kids) bound
  pub counted : is_counted_line pieces ≡ true → 1 ≤ heights kids

-- a node without the parentheses that stand round it
pub record IsBareOpened (note : Bool) (place : Choice) (node : Node) : Type 0 where
  pub admitted : Admitted note place (kind_of node) (text_of node)
  pub line : IsLineOpened (line_of place node) node (kids_of node)

pub record IsNodeOpened (place : Choice) (node : Node) : Type 0 where
  pub loose : (bound : ℕ) → 1 ≤ bound → height node ≤ bound → IsWithin false (node_items place node) bound
  pub tight : (bound : ℕ) → is_tight place ≡ true → height node ≤ suc bound → IsWithin false (node_items place node) bound
  pub counted : is_counted place ≡ true → 1 ≤ height node

pub record IsKidOpened (shape : Shape) (kid : Node) : Type 0 where
  pub loose : (bound : ℕ) → is_loose_shape shape ≡ true → 1 ≤ bound → height kid ≤ bound → IsWithin false ((as_written kid).at shape) bound
  pub tight : (bound : ℕ) → is_tight_shape shape ≡ true → height kid ≤ suc bound → IsWithin false ((as_written kid).at shape) bound
  pub counted : is_counted_shape shape ≡ true → 1 ≤ height kid

pub record AreMembersOpened (place : Choice) (nodes : List Node) : Type 0 where
  pub loose : (bound : ℕ) → 1 ≤ bound → heights nodes ≤ bound → IsWithin false (members place (all_written nodes)) bound

pub record AreListedOpened (place : Choice) (m : Mark) (nodes : List Node) : Type 0 where
  pub loose : (bound : ℕ) → is_flat_mark m ≡ true → 1 ≤ bound → heights nodes ≤ bound → IsWithin false (separated place m (all_written nodes)) bound
  pub tight : (bound : ℕ) → is_flat_mark m ≡ true → is_tight place ≡ true → heights nodes ≤ suc bound → IsWithin false (separated place m (all_written nodes)) bound
  pub counted : is_counted place ≡ true → 1 ≤ heights nodes
  pub some : is_empty nodes ≡ false

pub record AreArgumentsOpened (line : List Argument) (nodes : List Node) : Type 0 where
  pub loose : (bound : ℕ) → 1 ≤ bound → heights nodes ≤ bound → IsWithin false (arguments line (all_written nodes)) bound

-- ---- a node, from its line

tight_admitted : {note : Bool} {place : Choice} {k : Kind} {text : List ℕ} → Admitted note place k text → is_tight place ≡ true → is_tight_kind k ≡ true
tight_admitted {note = note} {place = place} {k = k} {text = text} (as_it_is h) t = tight_standing note place k text t h
tight_admitted {note = note} {k = k} {text = text} (in_them o h) t = tight_standing note choice.Expr k text refl h

counted_admitted : {note : Bool} {place : Choice} {k : Kind} {text : List ℕ} → Admitted note place k text → is_counted place ≡ true → is_counted_kind k ≡ true
counted_admitted {note = note} {place = place} {k = k} {text = text} (as_it_is h) t = counted_standing note place k text t h
counted_admitted {note = note} {k = k} {text = text} (in_them o h) t = counted_standing note choice.Expr k text refl h

wrapped_admitted : {note : Bool} {place : Choice} {k : Kind} {text : List ℕ} → Admitted note place k text → is_wrapped place k text ≡ true → is_counted_line (line place k text) ≡ true
wrapped_admitted {note = note} {place = place} {k = k} {text = text} (as_it_is h) w = wrapped_counted note place k text w (stands_in_them note place k text w h)
wrapped_admitted {note = note} {place = place} {k = k} {text = text} (in_them o h) w = wrapped_counted note place k text w h

pub node_opened : {note : Bool} {place : Choice} {node : Node} → IsBareOpened note place node → IsNodeOpened place node
node_opened {note = note} {place = place} {node = node} c = by_test (is_wrapped place k text) refl
  where
    k : Kind
    k = kind_of node

    text : List ℕ
    text = text_of node

    own_line : List Item
    own_line = line_items (line_of place node) node (kids_of node)

    node_at : node_items place node ≡ written_node place (layer_of node)
    node_at = ap (λ (w : Written). w.at (One place)) (opened node)

    counted : is_counted place ≡ true → 1 ≤ height node
    counted t = one_of (is_nested k) _ (counted_line place k text (counted_admitted c.admitted t))
        (λ n. let e = nested_above node n in omega arith)
        (λ e. let more = c.line.counted e in let below = kids_below node in omega arith)

    bare_tight : (bound : ℕ) → is_tight place ≡ true → height node ≤ suc bound → IsWithin false own_line bound
    bare_tight bound t h = one_of (is_tight_line (line_of place node)) _ (fit_line place k text (tight_admitted c.admitted t))
        (λ e. let below = kids_below node in c.line.tight bound e (omega arith))
        (λ e. let parts : (is_nested k ≡ true) × (is_counted_line (line_of place node) ≡ true) = both e in
        let same = nested_above node parts.0 in let more = c.line.counted parts.1 in
        c.line.loose false bound (loose_line place k text) (omega arith) (omega arith))

    by_test : (b : Bool) → is_wrapped place k text ≡ b → IsNodeOpened place node
    by_test false w = let same : node_items place node ≡ own_line = node_at ∙ rw w refl in record {
      loose = λ bound l h. let below = kids_below node in rw same (c.line.loose false bound (loose_line place k text) l (omega arith));
      tight = λ bound t h. rw same (bare_tight bound t h);
      counted = counted;
    }
    by_test true w = let same : node_items place node ≡ in_parentheses own_line = node_at ∙ rw w refl in
        let one_more = nested_above node (wrapped_nested place k text w) in
        let more = c.line.counted (wrapped_admitted c.admitted w) in record {
          loose = λ bound l h. rw same (enclose {less = bound - 1} (omega arith) (c.line.tight (bound - 1) (wrapped_tight place k text w) (omega arith)) nothing_opened);
          tight = λ bound t h. rw same (enclose {less = bound - 1} (omega arith) (c.line.tight (bound - 1) (wrapped_tight place k text w) (omega arith)) nothing_opened);
          counted = counted;
        }

-- a node in superfluous parentheses
pub bare_in_them : {note : Bool} {place : Choice} {node : Node} → opens place ≡ true → IsBareOpened note choice.Expr node → IsBareOpened note place node
bare_in_them {note = note} {place = place} {node = node} o c = record {
  admitted = in_them o (bare_there c.admitted);
  line = subst (λ pieces. IsLineOpened pieces node (kids_of node)) (sym (same_line place (kind_of node) (text_of node) o)) c.line;
}
  where
    bare_there : Admitted note choice.Expr (kind_of node) (text_of node) → stands note choice.Expr (kind_of node) (text_of node) ≡ true
    bare_there (as_it_is h) = h
    bare_there (in_them o h) = h
