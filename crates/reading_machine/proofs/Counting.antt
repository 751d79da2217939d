-- How many nodes there are among values: what symbols do adds only what is built.
use Rattle.std.proofs.Common.{arith, ◌≡◌, ℕ, ◌+◌, ◌≤◌, List, [], ◌∷◌, ◌++◌, take, drop, length, map, reverse, min, sum, refl, sym, ◌∙◌, ap, Bool, if◌then◌else◌}
use Rattle.std.specs.List.{sum_by}
use Rattle.std.proofs.lemmas.List.{reverse-append, take_all}
use Rattle.ada_tree.specs.declared.doc.Counts.{Counts}
use Rattle.std.proofs.lemmas.List.Sums.{sum_by-cons, sum_by_push, sum_by-take-drop, sum-map}
use Rattle.ada_tree.specs.declared.kind.Kind.{Kind}
use Rattle.ada_tree.specs.declared.node.Node.{Node, Node-F, out-roll-Node, fold_out-Node}
use Rattle.ada_tree.specs.Nodes.{node_of, kind_of, text_of, notes_of, kids_of, count_of, is_step}
use Rattle.reading_machine.specs.Bare.{bare, held_count, lost_count, count_in, lost_in, is_tree, greatest_count, more_counts, counts_with, lost_with}
use Rattle.reading_table.specs.declared.held.Held.{Held}
use Rattle.reading_table.specs.declared.held.Held.TheVariants as held
use Rattle.reading_table.specs.declared.symbol.Symbol.{Symbol}
use Rattle.reading_table.specs.declared.symbol.Symbol.TheVariants as symbol
use Rattle.ada_tree.specs.Words.{word_text}
use Rattle.reading_table.specs.States.{State, with_notes, nodes_in, text_in, text_below, joined, pasted, lowered, noted, end_noted, does}

module _ (test : Kind → Bool) where
  abbrev own : Kind → ℕ
  own k = if test k then 1 else 0

  node_count : (node : Node) → count_of test node ≡ own (kind_of node) + sum_by (count_of test) (kids_of node)
  node_count node = fold_out-Node ℕ (λ layer. own layer.kind + sum layer.kids) node ∙ ap (λ n. own (kind_of node) + n) (sum-map (count_of test) (kids_of node))

  made_count : (k : Kind) (text : List ℕ) (notes : List (List ℕ)) (kids : List Node) → count_of test (node_of k text notes kids) ≡ own k + sum_by (count_of test) kids
  made_count k text notes kids =
      node_count (node_of k text notes kids) ∙ ap (λ (l : Node-F Node). own l.kind + sum_by (count_of test) l.kids) (out-roll-Node record { kind = k; text = text; notes = notes; kids = kids })

  -- a bare value and what it has lost
  bare_count : (v : Held) → held_count test v ≡ lost_count test v + held_count test (bare v)
  bare_count (held.Text text) = refl
  bare_count (held.Comments comments) = refl
  bare_count (held.Tree node) =
      let whole = node_count node in
      let left = made_count (kind_of node) (text_of node) [] [] in
      omega (arith, whole, left)

  pub bare_counts : (vs : List Held) → count_in test vs ≡ lost_in test vs + count_in test (map bare vs)
  bare_counts [] = refl
  bare_counts (v ∷ vs) =
      let one = bare_count v in
      let more = bare_counts vs in
      let whole = sum_by-cons (held_count test) v vs in
      let lost = sum_by-cons (lost_count test) v vs in
      let left = sum_by-cons (held_count test) (bare v) (map bare vs) in
      omega (arith, one, more, whole, lost, left)

  -- ---- what symbols do

  nodes_count : (vs : List Held) → sum_by (count_of test) (nodes_in vs) ≡ count_in test vs
  nodes_count [] = refl
  nodes_count (held.Text text ∷ vs) = nodes_count vs
  nodes_count (held.Comments comments ∷ vs) = nodes_count vs
  nodes_count (held.Tree node ∷ vs) =
      let split = sum_by_push (count_of test) (nodes_in vs) node in
      let more = nodes_count vs in
      let here = sum_by-cons (held_count test) (held.Tree node) vs in
      omega (arith, split, more, here)

  joined_count : (vs : List Held) → count_in test (joined vs) ≡ count_in test vs
  joined_count (held.Tree member ∷ held.Tree list ∷ vs) =
      let made = made_count (kind_of list) (text_of list) (notes_of list) (kids_of list ++ member ∷ []) in
      let split = sum_by_push (count_of test) (kids_of list) member in
      let whole = node_count list in
      let before = sum_by-cons (held_count test) (held.Tree member) (held.Tree list ∷ vs) in
      let behind = sum_by-cons (held_count test) (held.Tree list) vs in
      let after = sum_by-cons (held_count test) (held.Tree (node_of (kind_of list) (text_of list) (notes_of list) (kids_of list ++ member ∷ []))) vs in
      omega (arith, made, split, whole, before, behind, after)
  joined_count [] = refl
  joined_count (held.Text text ∷ vs) = refl
  joined_count (held.Comments comments ∷ vs) = refl
  joined_count (held.Tree member ∷ []) = refl
  joined_count (held.Tree member ∷ held.Text text ∷ vs) = refl
  joined_count (held.Tree member ∷ held.Comments comments ∷ vs) = refl

  pasted_count : (between : ℕ) (vs : List Held) → count_in test (pasted between vs) ≡ count_in test vs
  pasted_count between (held.Text back ∷ held.Text front ∷ vs) = refl
  pasted_count between [] = refl
  pasted_count between (held.Tree node ∷ vs) = refl
  pasted_count between (held.Comments comments ∷ vs) = refl
  pasted_count between (held.Text back ∷ []) = refl
  pasted_count between (held.Text back ∷ held.Tree node ∷ vs) = refl
  pasted_count between (held.Text back ∷ held.Comments comments ∷ vs) = refl

  lowered_count : (vs : List Held) → count_in test (lowered vs) ≡ count_in test vs
  lowered_count [] = refl
  lowered_count (held.Text text ∷ vs) = refl
  lowered_count (held.Tree node ∷ vs) = refl
  lowered_count (held.Comments comments ∷ vs) = refl

  renoted_count : (notes : List (List ℕ)) (node : Node) → count_of test (node_of (kind_of node) (text_of node) notes (kids_of node)) ≡ count_of test node
  renoted_count notes node = made_count (kind_of node) (text_of node) notes (kids_of node) ∙ sym (node_count node)

  noted_count : (vs : List Held) → count_in test (noted vs) ≡ count_in test vs
  noted_count (held.Tree node ∷ held.Comments comments ∷ vs) =
      let same = renoted_count comments node in
      let before = sum_by-cons (held_count test) (held.Tree node) (held.Comments comments ∷ vs) in
      let behind = sum_by-cons (held_count test) (held.Comments comments) vs in
      let after = sum_by-cons (held_count test) (held.Tree (with_notes comments node)) vs in
      omega (arith, same, before, behind, after)
  noted_count [] = refl
  noted_count (held.Text text ∷ vs) = refl
  noted_count (held.Comments comments ∷ vs) = refl
  noted_count (held.Tree node ∷ []) = refl
  noted_count (held.Tree node ∷ held.Text text ∷ vs) = refl
  noted_count (held.Tree node ∷ held.Tree other ∷ vs) = refl

  end_noted_count : (comments : List (List ℕ)) (vs : List Held) → count_in test (end_noted comments vs) ≡ count_in test vs
  end_noted_count comments (held.Tree node ∷ vs) =
      let same = renoted_count comments node in
      let before = sum_by-cons (held_count test) (held.Tree node) vs in
      let after = sum_by-cons (held_count test) (held.Tree (with_notes comments node)) vs in
      omega (arith, same, before, after)
  end_noted_count comments [] = refl
  end_noted_count comments (held.Text text ∷ vs) = refl
  end_noted_count comments (held.Comments others ∷ vs) = refl

  zero_more : (n : ℕ) → n ≡ 0 + n
  zero_more n = omega arith

  -- how many nodes a symbol makes
  abbrev pub made : Symbol → ℕ
  made (symbol.Build k count) = own k
  made symbol.Join = 0
  made (symbol.Say w) = 0
  made (symbol.Paste between) = 0
  made symbol.Lower = 0
  made (symbol.Recall depth) = 0
  made symbol.Notes = 0
  made symbol.Noted = 0
  made symbol.EndNotes = 0
  made (symbol.Take set) = 0
  made (symbol.Keep set) = 0
  made (symbol.Closing depth) = 0
  made (symbol.Part r) = 0

  pub done_count : (s : Symbol) (state : State) → count_in test (does s state).values ≡ made s + count_in test state.values
  done_count (symbol.Build k count) state =
      let new = made_count k (text_in (take count state.values)) [] (nodes_in (take count state.values)) in
      let kids = nodes_count (take count state.values) in
      let split = sum_by-take-drop (held_count test) state.values count in
      let after = sum_by-cons (held_count test) (held.Tree (node_of k (text_in (take count state.values)) [] (nodes_in (take count state.values)))) (drop count state.values) in
      omega (arith, new, kids, split, after)
  done_count symbol.Join state = joined_count state.values ∙ zero_more (count_in test state.values)
  done_count (symbol.Say w) state = sum_by-cons (held_count test) (held.Text (word_text w)) state.values
  done_count (symbol.Paste between) state = pasted_count between state.values ∙ zero_more (count_in test state.values)
  done_count symbol.Lower state = lowered_count state.values ∙ zero_more (count_in test state.values)
  done_count (symbol.Recall depth) state = sum_by-cons (held_count test) (held.Text (text_below depth state.values)) state.values
  done_count symbol.Notes state = sum_by-cons (held_count test) (held.Comments state.waiting) state.values
  done_count symbol.Noted state = noted_count state.values ∙ zero_more (count_in test state.values)
  done_count symbol.EndNotes state = end_noted_count state.waiting state.values ∙ zero_more (count_in test state.values)
  done_count (symbol.Take set) state = zero_more (count_in test state.values)
  done_count (symbol.Keep set) state = zero_more (count_in test state.values)
  done_count (symbol.Closing depth) state = zero_more (count_in test state.values)
  done_count (symbol.Part r) state = zero_more (count_in test state.values)

-- ---- counts

-- u64's greatest value
abbrev in_range : (c : Counts) → Type 0
in_range c = (c.tree ≤ greatest_count) × (c.proof ≤ greatest_count)

more_of_none : (c : Counts) → in_range c → more_counts c 0 0 ≡ c
more_of_none c h = let trees = h.0 in let proofs = h.1 in
    let t : min (c.tree + 0) greatest_count ≡ c.tree = omega (arith, trees) in
    let p : min (c.proof + 0) greatest_count ≡ c.proof = omega (arith, proofs) in
    rw (t, p) refl

twice : (n a b : ℕ) → min (min (n + a) greatest_count + b) greatest_count ≡ min (n + (a + b)) greatest_count
twice n a b = omega arith

pub more_of_both : (c : Counts) (a b x y : ℕ) → more_counts (more_counts c a x) b y ≡ more_counts c (a + b) (x + y)
more_of_both c a b x y = rw (twice c.tree a b, twice c.proof x y) refl

pub none_counted : (c : Counts) → c.tree ≤ greatest_count → c.proof ≤ greatest_count → counts_with c [] ≡ c
none_counted c t p = more_of_none c (t, p)

pub none_lost : (c : Counts) → c.tree ≤ greatest_count → c.proof ≤ greatest_count → lost_with c [] ≡ c
none_lost c t p = more_of_none c (t, p)

with_first : (test : Kind → Bool) (v : Held) (vs : List Held) (n : ℕ) → n ≡ count_in test (v ∷ []) → n + count_in test vs ≡ count_in test (v ∷ vs)
with_first test v vs n h =
    let one = sum_by-cons (held_count test) v [] in
    let none : count_in test [] ≡ 0 = refl in
    let all = sum_by-cons (held_count test) v vs in
    omega (arith, h, one, none, all)

-- one value more has been counted
pub one_counted : (c : Counts) (v : Held) (vs : List Held) → counts_with (more_counts c (sum_by (count_of is_tree) (nodes_in (v ∷ []))) (sum_by (count_of is_step) (nodes_in (v ∷ [])))) vs ≡ counts_with c (v ∷ vs)
one_counted c v vs =
    let trees = nodes_count is_tree (v ∷ []) in
    let steps = nodes_count is_step (v ∷ []) in
    let both_trees = with_first is_tree v vs (sum_by (count_of is_tree) (nodes_in (v ∷ []))) trees in
    let both_steps = with_first is_step v vs (sum_by (count_of is_step) (nodes_in (v ∷ []))) steps in
    more_of_both c (sum_by (count_of is_tree) (nodes_in (v ∷ []))) (count_in is_tree vs) (sum_by (count_of is_step) (nodes_in (v ∷ []))) (count_in is_step vs) ∙ rw (both_trees, both_steps) refl

last_first : (test : Kind → Bool) (vs : List Held) (v : Held) → lost_in test vs + lost_count test v ≡ lost_in test (v ∷ vs)
last_first test vs v =
    let all = sum_by-cons (lost_count test) v vs in
    omega (arith, all)

-- a value more, behind those that came before it
pub bare_further : (vs : List Held) (v : Held) → bare v ∷ map bare (reverse vs) ≡ map bare (reverse (vs ++ v ∷ []))
bare_further vs v = ap (map bare) (sym (reverse-append vs (v ∷ [])))

pub lost_further : (c : Counts) (vs : List Held) (v : Held) → more_counts (lost_with c (reverse vs)) (lost_count is_tree v) (lost_count is_step v) ≡ lost_with c (reverse (vs ++ v ∷ []))
lost_further c vs v =
    let trees = last_first is_tree (reverse vs) v in
    let steps = last_first is_step (reverse vs) v in
    more_of_both c (lost_in is_tree (reverse vs)) (lost_count is_tree v) (lost_in is_step (reverse vs)) (lost_count is_step v)
    ∙ ap (λ n. more_counts c n (lost_in is_step (reverse vs) + lost_count is_step v)) trees ∙ ap (λ n. more_counts c (lost_in is_tree (v ∷ reverse vs)) n) steps
    ∙ ap (lost_with c) (sym (reverse-append vs (v ∷ [])))

-- counts with so many more
pub counts_are : (c d : Counts) (t p : ℕ) → d.tree ≡ min (c.tree + t) greatest_count → d.proof ≡ min (c.proof + p) greatest_count → d ≡ more_counts c t p
counts_are c d t p h k = ap (λ n. record { tree = n; proof = d.proof }) h ∙ ap (λ n. record { tree = min (c.tree + t) greatest_count; proof = n }) k

pub all_taken : (vs : List Held) → take (length vs) vs ≡ vs
all_taken vs = take_all (length vs) vs (omega arith)
