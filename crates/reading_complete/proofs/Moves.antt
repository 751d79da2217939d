-- Quiet moves: what is read from where they lead is read from where they begin.
use Rattle.std.proofs.Common.{◌≡◌, ℕ, zero, suc, List, [], ◌∷◌, ◌++◌, refl, sym, ◌∙◌, ap, subst, Bool, true, false, not, ◌&&◌, ◌||◌, Option, Some, None, length, take, drop, append_assoc, map, inl, inr, ◌⊎◌, eqb-true}
use Rattle.std.specs.Prelude.{nat_eq}
use Rattle.std.specs.List.{list_any}
use Rattle.std.proofs.Math.Seq.{take-append_seam, drop-append_seam}
use Rattle.std.proofs.lemmas.Bool.{and_parts, not-true}
use denote.Enum.Bare.{same_true}
use Rattle.ada_tree.specs.contracts.kind.Kind as kind_row
use Rattle.ada_tree.specs.declared.kind.Kind.{Kind}
use Rattle.ada_tree.specs.declared.kind.Kind.TheVariants as kind
use Rattle.ada_tree.specs.declared.node.Node.{Node}
use Rattle.ada_tree.specs.Kinds.{is_kind}
use Rattle.ada_tree.specs.Nodes.{kind_of, text_of, kids_of, node_of}
use Rattle.ada_tree.specs.Spelling.{is_own}
use Rattle.ada_tree.specs.Tokens.{Event}
use Rattle.ada_tree.specs.Words.{word_text}
use Rattle.reading_table.specs.declared.held.Held.{Held}
use Rattle.reading_table.specs.declared.held.Held.TheVariants as held
use Rattle.reading_table.specs.declared.symbol.Symbol.{Symbol}
use Rattle.reading_table.specs.declared.symbol.Symbol.TheVariants as symbol
use Rattle.reading_table.specs.Events.{Reads, event_view, of_values}
use Rattle.reading_table.specs.Rows.{Placed, Part, rows, silence, side_in}
use Rattle.reading_table.specs.States.{built, does, text_in, nodes_in, with_notes}
use Rattle.reading_table.specs.Tables.{done, Has, first, later, acts, opens, omits}
use Rattle.reading_complete.specs.Bare.{bare}
use Rattle.reading_complete.proofs.Classes.{Class}
use Rattle.reading_complete.proofs.Lazy.{any_of, all_of, any_of_has}
use Rattle.reading_complete.proofs.Stages.{in_order, Stands, an_own, a_known, a_nothing, an_empty, a_begun, the_whole, ReadsFrom, IsOf, as_many, held_nodes, held_text, named_below}
use Rattle.reading_complete.proofs.Seeking.{Value, own, known, nothing, empty, begun, whole, Stage, unfoldings, completes, begun_node, recalled, names_own, act, acted, moves, seek_by, seek, depth, is_part_of_node, is_own_value}

-- ---- members of lists

pub only_one : {A : Type 0} {x y : A} → Has (x ∷ []) y → x ≡ y
only_one first = refl
only_one (later m) = elim m [ ]

pub has_split : {A : Type 0} → (xs ys : List A) (x : A) → Has (xs ++ ys) x → Has xs x ⊎ Has ys x
has_split [] ys x m = inr m
has_split (z ∷ xs) ys x first = inl first
has_split (z ∷ xs) ys x (later m) = elim (has_split xs ys x m) [ inl a ↦ inl (later a) | inr b ↦ inr b ]

pub from_mapped : {A B : Type 0} → (f : A → B) (xs : List A) (y : B) → Has (map f xs) y → (x : A) × Has xs x × (f x ≡ y)
from_mapped f [] y m = elim m [ ]
from_mapped f (x ∷ xs) y first = (x, first, refl)
from_mapped f (x ∷ xs) y (later m) = let r = from_mapped f xs y m in (r.0, later r.1, r.2)

-- ---- unfolding

pub unfolded_reads : (line unfolded ss : List Placed) (values : List Held) (events : List Event) (last : List Held) → Has (unfoldings line) unfolded → Reads (unfolded ++ ss) values events last → Reads (line ++ ss) values events last
unfolded_reads [] u ss values events last m d = elim m [ ]
unfolded_reads ((note, symbol.Part r) ∷ line) u ss values events last m d =
    elim (has_split (map (λ row. row ++ line) (rows p)) (quietly (silence p)) u m) [ inl a ↦ by_row (from_mapped (λ row. row ++ line) (rows p) u a) | inr b ↦ by_silence (silence p) refl b ]
  where
    p : Part
    p = (side_in note r, r)

    quietly : Option (List Placed) → List (List Placed)
    quietly o = elim o as (λ o. List (List Placed)) [ Some quiet ↦ (quiet ++ line) ∷ [] | None ↦ [] ]

    by_row : ((row : List Placed) × Has (rows p) row × (row ++ line ≡ u)) → Reads ((note, symbol.Part r) ∷ (line ++ ss)) values events last
    by_row f = opens refl f.1 (subst (λ l. Reads l values events last) (ap (λ l. l ++ ss) (sym f.2) ∙ append_assoc f.0 line ss) d)

    by_silence : (o : Option (List Placed)) → silence p ≡ o → Has (quietly o) u → Reads ((note, symbol.Part r) ∷ (line ++ ss)) values events last
    by_silence (Some quiet) e m = omits refl e (subst (λ l. Reads l values events last) (ap (λ l. l ++ ss) (sym (only_one m)) ∙ append_assoc quiet line ss) d)
    by_silence None e m = elim m [ ]
unfolded_reads (_ ∷ line) u ss values events last m d = elim m [ ]

-- ---- what is done

-- after a symbol that is done, the values stand for what it leaves
pub record IsDone (node : Node) (note : Bool) (s : Symbol) (new : List Value) (ks : List Node) (hs below : List Held) : Type 0 where
  pub quiet : event_view note s ≡ done
  pub left : List Held
  pub stands : Stands node new ks left
  pub does_so : (does s (of_values (hs ++ below))).values ≡ left ++ below

made : (node : Node) (c : Class) (k : Kind) (n : ℕ) (values : List Value) (ks : List Node) (hs below : List Held) → IsOf c node → in_order ks ≡ kids_of node → completes c k n values ≡ true → Stands node values ks hs
    → built k n (hs ++ below) ≡ held.Tree (bare node) ∷ below
made node c k n values ks hs below o all h s =
    let all_parts = and_parts (not (is_kind k kind.File) && is_kind k c.kind && nat_eq n (length values) && all_of values is_part_of_node) (any_of values is_own_value || not (list_any is_own c.line)) h in
    let four = and_parts (not (is_kind k kind.File) && is_kind k c.kind && nat_eq n (length values)) (all_of values is_part_of_node) all_parts.0 in
    let three = and_parts (not (is_kind k kind.File) && is_kind k c.kind) (nat_eq n (length values)) four.0 in
    let two = and_parts (not (is_kind k kind.File)) (is_kind k c.kind) three.0 in
    let same : k ≡ kind_of node = same_true kind_row.the_type tt k c.kind two.1 ∙ o.kind in
    let many : n ≡ length hs = eqb-true n (length values) three.1 ∙ sym (as_many four.1 s) in
    let front : take n (hs ++ below) ≡ hs = ap (λ n. take n (hs ++ below)) many ∙ take-append_seam hs below in
    let back : drop n (hs ++ below) ≡ below = ap (λ n. drop n (hs ++ below)) many ∙ drop-append_seam hs below in
    let text : text_in hs ≡ text_of node = held_text four.1 s (λ e. o.untold (no_own (any_of values is_own_value) (list_any is_own c.line) e all_parts.1)) in
    let nodes : nodes_in hs ≡ kids_of node = held_nodes four.1 s ∙ all in
    let plain : is_kind (kind_of node) kind.File ≡ false = ap (λ k. is_kind k kind.File) (sym same) ∙ not-true (is_kind k kind.File) two.0 in
    ap (λ xs. held.Tree (node_of k (text_in xs) [] (nodes_in xs)) ∷ drop n (hs ++ below)) front
    ∙ ap (λ xs. held.Tree (node_of k (text_in hs) [] (nodes_in hs)) ∷ xs) back
    ∙ ap (λ k. held.Tree (node_of k (text_in hs) [] (nodes_in hs)) ∷ below) same
    ∙ ap (λ t. held.Tree (node_of (kind_of node) t [] (nodes_in hs)) ∷ below) text
    ∙ ap (λ ns. held.Tree (node_of (kind_of node) (text_of node) [] ns) ∷ below) nodes
    ∙ ap (λ x. held.Tree x ∷ below) (sym (is_bare (is_kind (kind_of node) kind.File) plain))
  where
    no_own : (a b : Bool) → a ≡ false → (a || not b) ≡ true → b ≡ false
    no_own true b e h = absurd cc
    no_own false true e h = absurd cc
    no_own false false e h = refl

    is_bare : (b : Bool) → is_kind (kind_of node) kind.File ≡ false → bare node ≡ with_notes [] node
    is_bare b e = rw e refl

build_done : (node : Node) (c : Class) (flag note : Bool) (k : Kind) (n : ℕ) (values new : List Value) (ks : List Node) (hs below : List Held) → (flag ≡ true → IsOf c node) → (flag ≡ true → in_order ks ≡ kids_of node)
    → act c flag (symbol.Build k n) values ≡ Some new → Stands node values ks hs → IsDone node note (symbol.Build k n) new ks hs below
build_done node c flag note k n values new ks hs below o all h s =
    by (is_kind k kind.None && nat_eq n 0) (is_kind k kind.List && nat_eq n 0) (is_kind k kind.File && nat_eq n 0) (flag && completes c k n values) refl refl refl refl h
  where
    fresh : (l : Kind) → (is_kind k l && nat_eq n 0) ≡ true → built k n (hs ++ below) ≡ held.Tree (node_of l [] [] []) ∷ (hs ++ below)
    fresh l e =
        let parts = and_parts (is_kind k l) (nat_eq n 0) e in
        let zeroth : n ≡ 0 = eqb-true n 0 parts.1 in
        let same : k ≡ l = same_true kind_row.the_type tt k l parts.0 in
        ap (λ n. built k n (hs ++ below)) zeroth ∙ ap (λ k. built k 0 (hs ++ below)) same

    done_so : (x : Held) → built k n (hs ++ below) ≡ x ∷ (hs ++ below) → (new : List Value) → Stands node new ks (x ∷ hs) → IsDone node note (symbol.Build k n) new ks hs below
    done_so x e new t = record { quiet = refl; left = x ∷ hs; stands = t; does_so = e }

    whole_so : (flag && completes c k n values) ≡ true → IsDone node note (symbol.Build k n) (whole ∷ []) ks hs below
    whole_so e =
        let parts = and_parts flag (completes c k n values) e in
        record { quiet = refl; left = held.Tree (bare node) ∷ []; stands = the_whole; does_so = made node c k n values ks hs below (o parts.0) (all parts.0) parts.1 s }

    by : (none list file full : Bool) → (is_kind k kind.None && nat_eq n 0) ≡ none → (is_kind k kind.List && nat_eq n 0) ≡ list → (is_kind k kind.File && nat_eq n 0) ≡ file → (flag && completes c k n values) ≡ full
        → begun_node none list file full values ≡ Some new → IsDone node note (symbol.Build k n) new ks hs below
    by true list file full a b f e g = let z : nothing ∷ values ≡ new = cc in subst (λ v. IsDone node note (symbol.Build k n) v ks hs below) z (done_so (held.Tree (node_of kind.None [] [] [])) (fresh kind.None a) (nothing ∷ values) (a_nothing s))
    by false true file full a b f e g = let z : empty ∷ values ≡ new = cc in subst (λ v. IsDone node note (symbol.Build k n) v ks hs below) z (done_so (held.Tree (node_of kind.List [] [] [])) (fresh kind.List b) (empty ∷ values) (an_empty s))
    by false false true full a b f e g = let z : begun ∷ values ≡ new = cc in subst (λ v. IsDone node note (symbol.Build k n) v ks hs below) z (done_so (held.Tree (node_of kind.File [] [] [])) (fresh kind.File f) (begun ∷ values) (a_begun s))
    by false false false true a b f e g = let z : whole ∷ [] ≡ new = cc in subst (λ v. IsDone node note (symbol.Build k n) v ks hs below) z (whole_so e)
    by false false false false a b f e g = absurd cc

paste_done : (node : Node) (c : Class) (flag note : Bool) (between : ℕ) (values new : List Value) (ks : List Node) (hs below : List Held)
    → act c flag (symbol.Paste between) values ≡ Some new → Stands node values ks hs → IsDone node note (symbol.Paste between) new ks hs below
paste_done node c flag note between (known back ∷ known front ∷ values) new ks _ below h (a_known (a_known {hs = hs} s)) =
    let z : known (front ++ between ∷ back) ∷ values ≡ new = cc in
    subst (λ v. IsDone node note (symbol.Paste between) v ks (held.Text back ∷ held.Text front ∷ hs) below) z
    record { quiet = refl; left = held.Text (front ++ between ∷ back) ∷ hs; stands = a_known s; does_so = refl }
paste_done node c flag note between _ new ks hs below h s = absurd cc

recall_done : (node : Node) (note : Bool) (deep : ℕ) (values new : List Value) (ks : List Node) (hs below : List Held)
    → recalled (names_own deep values) values ≡ Some new → Stands node values ks hs → IsDone node note (symbol.Recall deep) new ks hs below
recall_done node note deep values new ks hs below h s = by (names_own deep values) refl h
  where
    by : (b : Bool) → names_own deep values ≡ b → recalled b values ≡ Some new → IsDone node note (symbol.Recall deep) new ks hs below
    by true e g =
        let z : own ∷ values ≡ new = cc in
        subst (λ v. IsDone node note (symbol.Recall deep) v ks hs below) z
        record { quiet = refl; left = held.Text (text_of node) ∷ hs; stands = an_own s; does_so = ap (λ t. held.Text t ∷ (hs ++ below)) (named_below below s deep e) }
    by false e g = absurd cc

is_done : (node : Node) (c : Class) (flag note : Bool) (s : Symbol) (values new : List Value) (ks : List Node) (hs below : List Held) → (flag ≡ true → IsOf c node) → (flag ≡ true → in_order ks ≡ kids_of node)
    → act c flag s values ≡ Some new → Stands node values ks hs → IsDone node note s new ks hs below
is_done node c flag note (symbol.Build k n) values new ks hs below o all h s = build_done node c flag note k n values new ks hs below o all h s
is_done node c flag note (symbol.Say w) values new ks hs below o all h s =
    let z : known (word_text w) ∷ values ≡ new = cc in
    subst (λ v. IsDone node note (symbol.Say w) v ks hs below) z record { quiet = refl; left = held.Text (word_text w) ∷ hs; stands = a_known s; does_so = refl }
is_done node c flag note (symbol.Paste between) values new ks hs below o all h s = paste_done node c flag note between values new ks hs below h s
is_done node c flag note (symbol.Recall deep) values new ks hs below o all h s = recall_done node note deep values new ks hs below h s
is_done node c flag note _ values new ks hs below o all h s = absurd cc

module _ (node : Node) (c : Class) (flag : Bool) (o : flag ≡ true → IsOf c node) (ss : List Placed) (below last : List Held) (ks : List Node) (all : flag ≡ true → in_order ks ≡ kids_of node) (events : List Event) where
  abbrev From : Stage → Type 0
  From stage = ReadsFrom node ss below last ks events stage

  acted_reads : (line : List Placed) (values : List Value) (stage : Stage) → Has (acted c flag line values) stage → From stage → From (line, values)
  acted_reads [] values stage m d = elim m [ ]
  acted_reads ((note, s) ∷ line) values stage m d = by (act c flag s values) refl m
    where
      by : (a : Option (List Value)) → act c flag s values ≡ a → Has (elim a as (λ a. List Stage) [ Some new ↦ (line, new) ∷ [] | None ↦ [] ]) stage → From ((note, s) ∷ line, values)
      by (Some new) e m = λ hs t.
          let r = is_done node c flag note s values new ks hs below o all e t in
          acts r.quiet (subst (λ v. Reads (line ++ ss) v events last) (sym r.does_so) (subst From (sym (only_one m)) d r.left r.stands))
      by None e m = elim m [ ]

  move_reads : (line : List Placed) (values : List Value) (stage : Stage) → Has (moves c flag line values) stage → From stage → From (line, values)
  move_reads line values stage m d =
      elim (has_split (map (λ u. (u, values)) (unfoldings line)) (acted c flag line values) stage m) [ inl a ↦ unfolded (from_mapped (λ u. (u, values)) (unfoldings line) stage a) | inr b ↦ acted_reads line values stage b d ]
    where
      unfolded : ((u : List Placed) × Has (unfoldings line) u × ((u, values) ≡ stage)) → From (line, values)
      unfolded f = λ hs t. unfolded_reads line f.0 ss (hs ++ below) events last f.1 (subst From (sym f.2) d hs t)

  seek_by_reads : (fuel : ℕ) (test : Stage → Bool) → ((s : Stage) → test s ≡ true → From s) → (line : List Placed) (values : List Value) → seek_by fuel c flag test line values ≡ true → From (line, values)
  seek_by_reads zero test k line values h = k (line, values) h
  seek_by_reads (suc fuel) test k line values h = by_test (λ line values h. seek_by_reads fuel test k line values h) (test (line, values)) refl h
    where
      by_test : ((line : List Placed) (values : List Value) → seek_by fuel c flag test line values ≡ true → From (line, values)) → (b : Bool) → test (line, values) ≡ b
          → elim b as (λ b. Bool) [ true ↦ true | false ↦ any_of (moves c flag line values) (λ s. seek_by fuel c flag test s.0 s.1) ] ≡ true → From (line, values)
      by_test go true e g = k (line, values) e
      by_test go false e g =
          let u = any_of_has (moves c flag line values) (λ s. seek_by fuel c flag test s.0 s.1) g in
          move_reads line values u.0 u.1 (go u.0.0 u.0.1 u.2)

  pub seek_reads : (test : Stage → Bool) → ((s : Stage) → test s ≡ true → From s) → (stage : Stage) → seek c flag test stage ≡ true → From stage
  seek_reads test k stage h = seek_by_reads depth test k stage.0 stage.1 h
