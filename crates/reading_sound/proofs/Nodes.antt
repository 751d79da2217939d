-- Nodes that are built of their traces.
use Rattle.std.proofs.Common.{◌≡◌, ℕ, zero, suc, ◌+◌, List, [], ◌∷◌, ◌++◌, refl, sym, ◌∙◌, ap, subst, Bool, true, false, not, ◌&&◌, ◌||◌, Option, Some, None, append_assoc, length-append, length, arith, eqb-true}
use Rattle.std.specs.Prelude.{take, drop, filter, bytes_eq, codes, is_some, if◌then◌else◌}
use Rattle.std.specs.Option.{option_map_or}
use Rattle.std.specs.List.{list_any}
use Rattle.std.proofs.Math.Seq.{take-append_seam, drop-append_seam}
use Rattle.std.proofs.lemmas.Bool.{and_parts, or_left, or_right, not-true, cond-true}
use Rattle.std.proofs.lemmas.Slice.Eq.{bytes_eq-Decides}
use denote.Enum.Bare.{sameb}
use Rattle.ada_tree.specs.declared.grammar.Choice.{Choice}
use Rattle.ada_tree.specs.declared.grammar.Choice.TheVariants as choice
use Rattle.ada_tree.specs.declared.grammar.Piece.{Piece}
use Rattle.ada_tree.specs.declared.grammar.Piece.TheVariants.{Kid}
use Rattle.ada_tree.specs.declared.grammar.Shape.TheVariants.{One}
use Rattle.ada_tree.specs.declared.kind.Kind.{Kind}
use Rattle.ada_tree.specs.declared.kind.Kind.TheVariants as kind
use Rattle.ada_tree.specs.declared.node.Node.{Node, Node-F, roll-Node, out-roll-Node}
use Rattle.ada_tree.specs.Choices.{stands, is_only, on_side, level_of, is_coefficient, goes_on, binds, is_tight, expression_kinds, kinds, floor}
use Rattle.ada_tree.specs.Operators.{entry_of}
use Rattle.ada_tree.specs.contracts.operator.Operator as operator_row
use Rattle.ada_tree.specs.declared.operator.Level.{Level}
use Rattle.ada_tree.specs.Kinds.{is_kind, is_among}
use Rattle.ada_tree.specs.Lines.{line, line_of_kind}
use Rattle.ada_tree.specs.Nodes.{kind_of, text_of, notes_of, kids_of, is_empty, is_silent, node_of}
use Rattle.ada_tree.specs.Spelling.{SpellsNode, SpellsLine, by_line, in_parentheses, one, its_word, its_text, omitted, its_kid, laid_out, has_place, is_own, is_consistent, are_components, has_components}
use Rattle.ada_tree.specs.Texts.{is_name}
use Rattle.ada_tree.specs.Tokens.{Event}
use Rattle.reading_table.specs.declared.held.Held.{Held}
use Rattle.reading_table.specs.declared.held.Held.TheVariants as held
use Rattle.reading_table.specs.States.{text_in, nodes_in, with_notes, built, joined as joined_values}
use Rattle.reading_table.specs.Tables.{Has, first}
use Rattle.text_laws.proofs.round_trip.Places.{both, same_kind}
use Rattle.reading_sound.proofs.Equal.{one_place}
use Rattle.reading_sound.proofs.Lines.{some_inside, nodes_behind, LineRead, line_read}
use Rattle.reading_sound.proofs.Lists.{standing, holding, joined_holding, all_joined_holding}
use Rattle.reading_sound.proofs.Meaning.{IsMember, alone, commented, all_joined, writes, begins, joins, goes_on_listed, stands as a_node, loses, Runs, nothing, last, Path, at_end, next}
use Rattle.reading_sound.proofs.Stacks.{kept_passes}
use Rattle.reading_sound.proofs.Traces.{Trace, written, told, stood, joined, begun, absent, rest, tail, closing, recalled, waiting, ended, lost, Stack, stands_in, places}
use Rattle.reading_sound.proofs.Walks.{before, after, fills, fills_body, fills_line, fits, fits_at, counts, values_of, text_known, known_or_none, is_text, has_operator_kind, are_components_of, left_out_first, fronted, parted, front_tokens, is_value, built_at, built_of, built_node, outer}

-- ---- a node is spelled by its line

pub spelled_node : (note : Bool) (p : Choice) (k : Kind) (t : List ℕ) (notes : List (List ℕ)) (kids : List Node) {e f : List Event} → stands note p k t ≡ true → has_place (line p k t) t ≡ true → is_consistent k t kids ≡ true
    → ((node : Node) → text_of node ≡ t → notes_of node ≡ notes → SpellsLine note (line p k t) node kids e f) → SpellsNode note p (node_of k t notes kids) e f
spelled_node note p k t notes kids {e = e} {f = f} s h c d =
    let layer : Node-F Node = record { kind = k; text = t; notes = notes; kids = kids } in
    let same = sym (out-roll-Node layer) in
    by_line (subst (λ (l : Node-F Node). stands note p l.kind l.text ≡ true) same s) (subst (λ (l : Node-F Node). has_place (line p l.kind l.text) l.text ≡ true) same h)
    (subst (λ (l : Node-F Node). is_consistent l.kind l.text l.kids ≡ true) same c)
    (subst (λ (l : Node-F Node). SpellsLine note (line p l.kind l.text) (roll-Node layer) l.kids e f) same (d (roll-Node layer) (ap (λ (l : Node-F Node). l.text) (out-roll-Node layer)) (ap (λ (l : Node-F Node). l.notes) (out-roll-Node layer))))

noted_node : (k : Kind) (t : List ℕ) (notes : List (List ℕ)) (kids : List Node) → with_notes notes (node_of k t [] kids) ≡ node_of k t notes kids
noted_node k t notes kids = ap (λ (l : Node-F Node). node_of l.kind l.text notes l.kids) (out-roll-Node record { kind = k; text = t; notes = []; kids = kids })

silent_node : (k : Kind) (t : List ℕ) (kids : List Node) → is_silent (node_of k t [] kids) ≡ true
silent_node k t kids = ap (λ (l : Node-F Node). is_empty l.notes) (out-roll-Node record { kind = k; text = t; notes = []; kids = kids })

-- ---- the values that become a node

pub record Parts (n : ℕ) (note : Bool) (k : Kind) (pieces : List Piece) (t : List ℕ) (v : List Held) (e : List Event) (w : List Held) (f : List Event) : Type 0 where
  pub kids : List Node
  pub pushed : List Held
  pub text : List ℕ
  pub values : w ≡ pushed ++ v
  pub count : length pushed ≡ n
  pub nodes : nodes_in pushed ≡ kids
  pub tells : text_in pushed ≡ text
  pub placed : has_place pieces text ≡ true
  pub consistent : is_consistent k text kids ≡ true
  pub known : has_operator_kind k ≡ true → text ≡ t
  pub spelled : (node : Node) → text_of node ≡ text → SpellsLine note pieces node kids e f

counted : (n : ℕ) (due : Bool) (o : Option (List Bool)) → counts n due o ≡ true → (fulls : List Bool) × (o ≡ Some fulls) × (values_of due fulls ≡ n)
counted n due None h = absurd cc
counted n due (Some fulls) h = (fulls, refl, eqb-true (values_of due fulls) n h)

text_of_known : (traces : List Trace) (t : List ℕ) → text_known traces ≡ Some t → list_any is_text traces ≡ true
text_of_known [] t h = absurd cc
text_of_known (told n s ∷ traces) t h = refl
text_of_known (recalled d ∷ traces) t h = refl
text_of_known (written n l ∷ traces) t h = text_of_known traces t h
text_of_known (stood n c ps ∷ traces) t h = text_of_known traces t h
text_of_known (joined n c ps ∷ traces) t h = text_of_known traces t h
text_of_known (begun k ∷ traces) t h = text_of_known traces t h
text_of_known (absent ∷ traces) t h = text_of_known traces t h
text_of_known (rest n p ∷ traces) t h = text_of_known traces t h
text_of_known (tail n p m ∷ traces) t h = text_of_known traces t h
text_of_known (closing n d ∷ traces) t h = text_of_known traces t h
text_of_known (waiting ∷ traces) t h = text_of_known traces t h
text_of_known (ended ∷ traces) t h = text_of_known traces t h
text_of_known (lost ∷ traces) t h = text_of_known traces t h

-- a line without anything that its kind asks for besides
plain_parts : {n : ℕ} {note : Bool} {pieces : List Piece} {v w : List Held} {e f : List Event} (k : Kind) (traces : List Trace) → (list_any is_own pieces || not (list_any is_text traces)) ≡ true
    → (not (has_operator_kind k) || is_some (text_known traces)) ≡ true → ((t : List ℕ) (kids : List Node) → is_consistent k t kids ≡ true)
    → counts n (list_any is_text traces) (fills note false pieces (before (list_any is_text traces) (text_known traces)) traces) ≡ true → Path traces v e w f
    → Parts n note k pieces (known_or_none (text_known traces)) v e w f
plain_parts {n = n} {note = note} {pieces = pieces} {v = v} {w = w} {e = e} {f = f} k traces o x c h path =
    let g = counted n (list_any is_text traces) _ h in
    of_line g.2 (line_read note false pieces (before (list_any is_text traces) (text_known traces)) traces g.0 g.1 tt path)
  where
    placed_by : (own has : Bool) (t : List ℕ) → (own || not has) ≡ true → (has ≡ false → t ≡ []) → (own || is_empty t) ≡ true
    placed_by true has t h q = refl
    placed_by false false t h q = ap is_empty (q refl)
    placed_by false true t h q = absurd cc

    known_by : (b : Bool) (o : Option (List ℕ)) (t : List ℕ) → (not b || is_some o) ≡ true → ((u : List ℕ) → o ≡ Some u → t ≡ u) → b ≡ true → t ≡ known_or_none o
    known_by true (Some u) t h q g = q u refl
    known_by true None t h q g = absurd cc
    known_by false o t h q g = absurd cc

    of_line : {fulls : List Bool} → values_of (list_any is_text traces) fulls ≡ n → LineRead note pieces (before (list_any is_text traces) (text_known traces)) v e fulls w f
        → Parts n note k pieces (known_or_none (text_known traces)) v e w f
    of_line q r = record {
      kids = r.kids;
      pushed = r.pushed;
      text = r.text;
      values = r.values;
      count = r.count ∙ q;
      nodes = r.nodes;
      tells = r.tells;
      placed = placed_by (list_any is_own pieces) (list_any is_text traces) r.text o r.kept.0;
      consistent = c r.text r.kids;
      known = known_by (has_operator_kind k) (text_known traces) r.text x (λ u g. r.kept.1 (text_of_known traces u g) u g);
      spelled = r.spelled;
    }

-- ---- subprograms

-- the name of a specification is a name
named_line : {node : Node} {kids : List Node} {e f : List Event} (k : Kind) → is_kind k kind.Proc || (is_kind k kind.Func || false) ≡ true → SpellsLine false (line choice.Spec k (text_of node)) node kids e f → is_name false (text_of node) ≡ true
named_line kind.Proc h (its_word (its_text t e d)) = t
named_line kind.Proc h (its_word (omitted t m d)) = t
named_line kind.Func h (its_word (its_text t e d)) = t
named_line kind.Func h (its_word (omitted t m d)) = t
named_line kind.Proc h (its_word (laid_out l d)) = absurd cc
named_line kind.Proc h (laid_out l d) = absurd cc
named_line kind.Func h (its_word (laid_out l d)) = absurd cc
named_line kind.Func h (laid_out l d) = absurd cc
named_line _ h d = absurd cc

alone_true : (b : Bool) → ((b || false) || false) ≡ true → b ≡ true
alone_true true h = refl
alone_true false h = absurd cc

spec_named : {node : Node} {e f : List Event} → SpellsNode false choice.Spec node e f → is_name false (text_of node) ≡ true
spec_named {node = node} (by_line s h c d) = named_line (kind_of node) (alone_true _ s) d
spec_named (in_parentheses o d) = absurd cc

known_spec : {o : Bool} {p : Choice} {spec : Node} {e g : List Event} → o ≡ false → p ≡ choice.Spec → SpellsNode o p spec e g → is_name false (text_of spec) ≡ true
known_spec {o = o} {p = p} {spec = spec} {e = e} {g = g} q r s = spec_named (subst (λ o. SpellsNode o choice.Spec spec e g) q (subst (λ p. SpellsNode o p spec e g) r s))

body_parts : {v w : List Held} {e f : List Event} (n : ℕ) (note : Bool) (pieces : List Piece) (traces : List Trace) (t : List ℕ) → fills_body n note pieces traces ≡ true → Path traces v e w f → Parts n note kind.SubBody pieces t v e w f
body_parts {v = v} {w = w} {f = f} (suc n) false (Kid (One p) ∷ pieces) (stood o c ps ∷ traces) t h (next (a_node {node = spec} i) path) =
    let x = both (both h).0 in
    let y = both (both h).1 in
    let g = counted n true (fills false false pieces (after 0 true true None) traces) y.1 in
    by g.2 i (not-true o (both x.0).0) (both x.0).1 (λ named. line_read false false pieces (after 0 true true None) traces g.0 g.1 ((λ h. named), (λ known h. absurd cc)) path)
    (both x.1).0 (one_place p choice.Spec (both x.1).1) y.0
  where
    by : {fulls : List Bool} {o c : Bool} {e g : List Event} → values_of true fulls ≡ n → IsMember o c ps spec e g → o ≡ false → not c ≡ true
        → (is_name false (text_of spec) ≡ true → LineRead false pieces (after 0 true true None) (held.Tree spec ∷ v) g fulls w f) → stands_in ps p ≡ true → p ≡ choice.Spec → list_any is_own pieces ≡ true
        → Parts (suc n) false kind.SubBody (Kid (One p) ∷ pieces) t v e w f
    by {fulls = fulls} {e = e} {g = g} q (alone s at) x z more i r own =
        let spelled = standing p i at in
        let l : LineRead false pieces (after 0 true true None) (held.Tree spec ∷ v) g fulls w f = more (known_spec x r spelled) in
        record {
          kids = spec ∷ l.kids;
          pushed = l.pushed ++ held.Tree spec ∷ [];
          text = l.text;
          values = l.values ∙ sym (append_assoc l.pushed (held.Tree spec ∷ []) v);
          count = length-append l.pushed (held.Tree spec ∷ []) ∙ ap (λ m. m + 1) (l.count ∙ q) ∙ omega arith;
          nodes = nodes_behind l.pushed spec ∙ ap (λ nodes. spec ∷ nodes) l.nodes;
          tells = l.tells (held.Tree spec ∷ []) ∙ cond-true l.again l.text _ (l.due refl);
          placed = or_left (list_any is_own pieces) (is_empty l.text) own;
          consistent = (bytes_eq-Decides (text_of spec) l.text).1 (sym l.kept);
          known = λ h. absurd cc;
          spelled = λ node t. its_kid (one s (subst (λ o. SpellsNode o p spec e g) x spelled)) (l.spelled node t);
        }
    by q (commented s at) x z more i r own = absurd cc
body_parts _ _ _ _ t h path = absurd cc

-- ---- aggregates

one_pushed : (pushed v : List Held) (x : Held) → x ∷ v ≡ pushed ++ v → pushed ≡ x ∷ []
one_pushed [] v x q = absurd (let z : length (x ∷ v) ≡ length v = ap length q in omega (arith, z))
one_pushed (y ∷ []) v x q = ap (λ ys. take 1 ys) (sym q)
one_pushed (y ∷ z ∷ pushed) v x q = absurd (let l : length (x ∷ v) ≡ length (y ∷ z ∷ pushed ++ v) = ap length q in let m = length-append pushed v in omega (arith, l, m))

holds : (k : Kind) (kids : List Node) → kids_of (holding k kids []) ≡ kids
holds k kids = ap (λ (l : Node-F Node). l.kids) (out-roll-Node record { kind = k; text = []; notes = []; kids = kids })

member_at : {n c : Bool} {p : Choice} {ps : List Choice} {node : Node} {e f : List Event} → stands_in ps p ≡ true → IsMember n c ps node e f → (g : List Event) × SpellsNode n p node g f
member_at {p = p} {e = e} h (alone s at) = (e, standing p h at)
member_at {p = p} h (commented {e = e} s at) = (e, standing p h at)

-- it is an association, or there is another one
are_some : (node : Node) (nodes : List Node) → (is_empty nodes ≡ true → is_kind (kind_of node) kind.Assoc ≡ true) → are_components (node ∷ nodes) ≡ true
are_some node [] h = h refl
are_some node (other ∷ nodes) h = refl

alone_of_three : (b : Bool) → (((b || false) || false) || false) ≡ true → b ≡ true
alone_of_three true h = refl
alone_of_three false h = absurd cc

association : {note : Bool} {node : Node} {e f : List Event} → SpellsNode note (choice.Only kind.Assoc) node e f → is_kind (kind_of node) kind.Assoc ≡ true
association {node = node} (by_line s h c d) = let same = same_kind kind.Assoc (kind_of node) (both (alone_of_three _ s)).0 in ap (λ k. is_kind k kind.Assoc) (sym same)
association (in_parentheses o d) = absurd cc

ends_here : {v w : List Held} {e f : List Event} → Path [] v e w f → w ≡ v
ends_here at_end = refl

components_list : {v w : List Held} {e f : List Event} (traces : List Trace) → are_components_of traces ≡ true → Path traces v e w f → (list : Node) × (are_components (kids_of list) ≡ true) × (w ≡ held.Tree list ∷ v)
components_list {v = v} (written n l ∷ begun k ∷ joined o c ps ∷ tail q p m ∷ written r x ∷ []) h (next writes (next begins (next (joins {node = node} i) (next (goes_on_listed {nodes = nodes} more) (next writes z))))) = (
  holding k (node ∷ nodes) [],
  ap are_components (holds k (node ∷ nodes)) ∙ are_some node nodes (λ g. association (member_at (both h).0 i).1),
  ends_here z ∙ ap (all_joined nodes) (joined_holding k [] [] node v) ∙ all_joined_holding k nodes (node ∷ []) [] v,
)
components_list {v = v} (written n l ∷ begun k ∷ joined o c ps ∷ written r m ∷ joined q d qs ∷ tail s p x ∷ written t y ∷ []) h
    (next writes (next begins (next (joins {node = node} i) (next writes (next (joins {node = other} j) (next (goes_on_listed {nodes = nodes} more) (next writes z))))))) = (
      holding k (node ∷ other ∷ nodes) [],
      ap are_components (holds k (node ∷ other ∷ nodes)),
      ends_here z ∙ ap (λ v. all_joined nodes (joined_values (held.Tree other ∷ v))) (joined_holding k [] [] node v) ∙ ap (all_joined nodes) (joined_holding k (node ∷ []) [] other v) ∙ all_joined_holding k nodes (node ∷ other ∷ []) [] v,
    )
components_list _ h path = absurd cc

aggregate_parts : {v w : List Held} {e f : List Event} (n : ℕ) (note : Bool) (pieces : List Piece) (traces : List Trace) (t : List ℕ) → (list_any is_own pieces || not (list_any is_text traces)) ≡ true
    → (are_components_of traces && counts n false (fills note false pieces (before false None) traces)) ≡ true → Path traces v e w f → Parts n note kind.Aggr pieces t v e w f
aggregate_parts {v = v} n note pieces traces t o h path =
    let g = counted n false (fills note false pieces (before false None) traces) (both h).1 in
    let l = line_read note false pieces (before false None) traces g.0 g.1 tt path in
    let list = components_list traces (both h).0 path in
    let pushed : l.pushed ≡ held.Tree list.0 ∷ [] = one_pushed l.pushed v (held.Tree list.0) (sym list.2 ∙ l.values) in
    record {
      kids = l.kids;
      pushed = l.pushed;
      text = l.text;
      values = l.values;
      count = l.count ∙ g.2;
      nodes = l.nodes;
      tells = l.tells;
      placed = or_right (list_any is_own pieces) (is_empty l.text) (ap is_empty (l.kept.0 refl));
      consistent = ap has_components (sym l.nodes ∙ ap nodes_in pushed) ∙ list.1;
      known = λ h. absurd cc;
      spelled = l.spelled;
    }

-- ---- any kind

line_parts : {v w : List Held} {e f : List Event} (n : ℕ) (note : Bool) (k : Kind) (pieces : List Piece) (traces : List Trace) → (list_any is_own pieces || not (list_any is_text traces)) ≡ true
    → (not (has_operator_kind k) || is_some (text_known traces)) ≡ true → fills_line n note k pieces traces ≡ true → Path traces v e w f → Parts n note k pieces (known_or_none (text_known traces)) v e w f
line_parts n note kind.SubBody pieces traces o x h path = body_parts n note pieces traces _ h path
line_parts n note kind.Aggr pieces traces o x h path = aggregate_parts n note pieces traces _ o h path
line_parts n note _ pieces traces o x h path = plain_parts _ traces o x (λ t kids. refl) h path

-- nodes without operators stand and are written whatever their texts
side_anyhow : (note : Bool) (k : Kind) (t u : List ℕ) → has_operator_kind k ≡ false → on_side note k t ≡ on_side note k u
side_anyhow note kind.Binary t u h = absurd cc
side_anyhow note kind.Unary t u h = absurd cc
side_anyhow note kind.Member t u h = absurd cc
side_anyhow note kind.Make t u h = absurd cc
side_anyhow note _ t u h = refl

level_anyhow : (k : Kind) (t u : List ℕ) → has_operator_kind k ≡ false → level_of k t ≡ level_of k u
level_anyhow kind.Binary t u h = absurd cc
level_anyhow kind.Unary t u h = absurd cc
level_anyhow kind.Member t u h = absurd cc
level_anyhow kind.Make t u h = absurd cc
level_anyhow _ t u h = refl

entry_anyhow : (k : Kind) (t u : List ℕ) → has_operator_kind k ≡ false → entry_of k t ≡ entry_of k u
entry_anyhow kind.Binary t u h = absurd cc
entry_anyhow kind.Unary t u h = absurd cc
entry_anyhow kind.Member t u h = absurd cc
entry_anyhow kind.Make t u h = absurd cc
entry_anyhow _ t u h = refl

unary_anyhow : (k : Kind) (t u : List ℕ) → has_operator_kind k ≡ false → is_kind k kind.Unary && bytes_eq t (codes "-") ≡ is_kind k kind.Unary && bytes_eq u (codes "-")
unary_anyhow kind.Binary t u h = absurd cc
unary_anyhow kind.Unary t u h = absurd cc
unary_anyhow kind.Member t u h = absurd cc
unary_anyhow kind.Make t u h = absurd cc
unary_anyhow _ t u h = refl

only_anyhow : (note : Bool) (p : Choice) (k : Kind) (t u : List ℕ) → has_operator_kind k ≡ false → is_only note p k t ≡ is_only note p k u
only_anyhow note (choice.Only wanted) k t u h = ap (λ b. is_kind wanted k && b) (side_anyhow note k t u h)
only_anyhow note _ k t u h = refl

coefficient_anyhow : (p : Choice) (k : Kind) (t u : List ℕ) → has_operator_kind k ≡ false → is_coefficient p k t ≡ is_coefficient p k u
coefficient_anyhow choice.Coefficient k t u h = unary_anyhow k t u h
coefficient_anyhow _ k t u h = refl

chain_anyhow : (p : Choice) (k : Kind) (t u : List ℕ) → has_operator_kind k ≡ false → goes_on p k t ≡ goes_on p k u
chain_anyhow (choice.Chain o) k t u h = ap (λ e. option_map_or (λ entry. sameb operator_row.the_type entry.operator o) e false) (entry_anyhow k t u h)
chain_anyhow _ k t u h = refl

binds_anyhow : (note : Bool) (p : Choice) (o : Option Level) (k : Kind) (t u : List ℕ) → has_operator_kind k ≡ false → binds note p o k t ≡ binds note p o k u
binds_anyhow note p None k t u h = refl
binds_anyhow note p (Some least) k t u h =
    ap (λ b. is_among k (expression_kinds note) && b && (is_tight least (level_of k t) || goes_on p k t)) (side_anyhow note k t u h)
    ∙ ap (λ l. is_among k (expression_kinds note) && on_side note k u && (is_tight least l || goes_on p k t)) (level_anyhow k t u h)
    ∙ ap (λ b. is_among k (expression_kinds note) && on_side note k u && (is_tight least (level_of k u) || b)) (chain_anyhow p k t u h)

stands_anyhow : (note : Bool) (p : Choice) (k : Kind) (t u : List ℕ) → has_operator_kind k ≡ false → stands note p k t ≡ stands note p k u
stands_anyhow note p k t u h =
    ap (λ b. b || is_among k (kinds p) || is_coefficient p k t || binds note p (floor p) k t) (only_anyhow note p k t u h)
    ∙ ap (λ b. is_only note p k u || is_among k (kinds p) || b || binds note p (floor p) k t) (coefficient_anyhow p k t u h)
    ∙ ap (λ b. is_only note p k u || is_among k (kinds p) || is_coefficient p k u || b) (binds_anyhow note p (floor p) k t u h)

line_anyhow : (p : Choice) (k : Kind) (t u : List ℕ) → has_operator_kind k ≡ false → line p k t ≡ line p k u
line_anyhow p kind.Binary t u h = absurd cc
line_anyhow p kind.Unary t u h = absurd cc
line_anyhow p kind.Member t u h = absurd cc
line_anyhow p kind.Make t u h = absurd cc
line_anyhow p _ t u h = refl

-- the node that is built of the last values stands at each place at which its traces fit
pub record BuiltAt (n : ℕ) (note : Bool) (k : Kind) (p : Choice) (v : List Held) (e : List Event) (w : List Held) (f : List Event) : Type 0 where
  pub below : drop n w ≡ v
  pub spelled : (notes : List (List ℕ)) → SpellsNode note p (node_of k (text_in (take n w)) notes (nodes_in (take n w))) e f

built_parts : {v w : List Held} {e f : List Event} (n : ℕ) (note : Bool) (k : Kind) (p : Choice) (t : List ℕ) → stands note p k t ≡ true → Parts n note k (line p k t) t v e w f → BuiltAt n note k p v e w f
built_parts {v = v} {w = w} {e = e} {f = f} n note k p t s r = record {
  below = ap (drop n) r.values ∙ ap (λ m. drop m (r.pushed ++ v)) (sym r.count) ∙ drop-append_seam r.pushed v;
  spelled = λ notes.
      subst (λ (pushed : List Held). SpellsNode note p (node_of k (text_in pushed) notes (nodes_in pushed)) e f) (sym (ap (take n) r.values ∙ ap (λ m. take m (r.pushed ++ v)) (sym r.count) ∙ take-append_seam r.pushed v))
      (subst (λ t. SpellsNode note p (node_of k t notes (nodes_in r.pushed)) e f) (sym r.tells) (subst (λ kids. SpellsNode note p (node_of k r.text notes kids) e f) (sym r.nodes) (whole notes)));
}
  where
    -- its text stands and is written as the known one
    same_stands : stands note p k r.text ≡ stands note p k t
    same_stands = by (has_operator_kind k) refl
      where
        by : (b : Bool) → has_operator_kind k ≡ b → stands note p k r.text ≡ stands note p k t
        by true h = ap (stands note p k) (r.known h)
        by false h = stands_anyhow note p k r.text t h

    same_line : line p k r.text ≡ line p k t
    same_line = by (has_operator_kind k) refl
      where
        by : (b : Bool) → has_operator_kind k ≡ b → line p k r.text ≡ line p k t
        by true h = ap (line p k) (r.known h)
        by false h = line_anyhow p k r.text t h

    whole : (notes : List (List ℕ)) → SpellsNode note p (node_of k r.text notes r.kids) e f
    whole notes =
        spelled_node note p k r.text notes r.kids (same_stands ∙ s) (ap (λ pieces. has_place pieces r.text) same_line ∙ r.placed) r.consistent
        (λ node x y. subst (λ pieces. SpellsLine note pieces node r.kids e f) (sym same_line) (r.spelled node x))

fitting : {v w : List Held} {e f : List Event} (n : ℕ) (note : Bool) (k : Kind) (traces : List Trace) (p : Choice) (t : List ℕ) → known_or_none (text_known traces) ≡ t → fits_at n note k traces p t ≡ true → Path traces v e w f
    → BuiltAt n note k p v e w f
fitting {v = v} {w = w} {e = e} {f = f} n note k traces p t q h path =
    let x = and_parts (stands note p k t && (not (has_operator_kind k) || is_some (text_known traces))) _ h in
    let a = and_parts (stands note p k t) (not (has_operator_kind k) || is_some (text_known traces)) x.0 in
    let b = and_parts (list_any is_own (line p k t) || not (list_any is_text traces)) (fills_line n note k (line p k t) traces) x.1 in
    built_parts n note k p t a.0 (subst (λ u. Parts n note k (line p k t) u v e w f) q (line_parts n note k (line p k t) traces b.0 a.1 b.1 path))

-- ---- what is built on a stack

record Parted (below : Stack) (own : List Trace) (v : List Held) (e : List Event) (w : List Held) (f : List Event) : Type 0 where
  pub values : List Held
  pub events : List Event
  pub under : Runs below v e values events
  pub over : Path own values events w f

pair_parted : {own traces : List Trace} {below stack : Stack} {v u w : List Held} {e g f : List Event} → fronted zero traces stack ≡ Some (own, below) → Runs stack v e u g → Path traces u g w f → Parted below own v e w f
pair_parted {own = own} {traces = traces} {below = below} {stack = stack} {v = v} {u = u} {w = w} {e = e} {g = g} {f = f} h r path =
    let q = some_inside h in
    record { values = u; events = g; under = subst (λ (x : List Trace × Stack). Runs x.1 v e u g) q r; over = subst (λ (x : List Trace × Stack). Path x.0 u g w f) q path }

fronted_path : {own : List Trace} {below : Stack} {v u w : List Held} {e g f : List Event} (n : ℕ) (traces : List Trace) (stack : Stack) → fronted n traces stack ≡ Some (own, below) → Runs stack v e u g → Path traces u g w f → Parted below own v e w f
fronted_path zero traces stack h r path = pair_parted h r path
fronted_path (suc n) traces (written o l ∷ stack) h (last r d) path = fronted_path n (written o l ∷ traces) stack h r (next d path)
fronted_path (suc n) traces _ h r path = absurd cc

parted_path : {own : List Trace} {below : Stack} {v u w : List Held} {e g f : List Event} (pieces : List Piece) (n : ℕ) (traces : List Trace) (stack : Stack) → parted pieces n traces stack ≡ Some (own, below) → Runs stack v e u g → Path traces u g w f
    → Parted below own v e w f
parted_path pieces zero traces stack h r path = fronted_path (front_tokens (not (left_out_first traces)) pieces) traces stack h r path
parted_path pieces (suc n) traces [] h r path = absurd cc
parted_path {own = own} {below = below} {v = v} {w = w} {e = e} {f = f} pieces (suc n) traces (trace ∷ stack) h (last r d) path =
    by (is_value trace) h (λ h. parted_path pieces n (trace ∷ traces) stack h r (next d path)) (λ h. parted_path pieces (suc n) (trace ∷ traces) stack h r (next d path))
  where
    by : (b : Bool) → (if b then parted pieces n (trace ∷ traces) stack else parted pieces (suc n) (trace ∷ traces) stack) ≡ Some (own, below)
        → (parted pieces n (trace ∷ traces) stack ≡ Some (own, below) → Parted below own v e w f) → (parted pieces (suc n) (trace ∷ traces) stack ≡ Some (own, below) → Parted below own v e w f) → Parted below own v e w f
    by true h x y = x h
    by false h x y = y h

built_on : {below : Stack} {own : List Trace} {v w : List Held} {e f : List Event} (n : ℕ) (note : Bool) (k : Kind) (ps : List Choice) → ((p : Choice) → Has ps p → fits n note k own p ≡ true) → Parted below own v e w f
    → Runs (built_at note ps below) v e (built k n w) f
built_on n note k [] h r = last nothing loses
built_on {below = below} {own = own} {v = v} {w = w} {e = e} {f = f} n note k (p ∷ ps) h r =
    let node = node_of k (text_in (take n w)) [] (nodes_in (take n w)) in
    let below_all : r.values ≡ drop n w = sym (fitting n note k own p (known_or_none (text_known own)) refl (h p first) r.over).below in
    last (subst (λ v. Runs below _ e v r.events) below_all r.under)
    (a_node (alone (silent_node k (text_in (take n w)) (nodes_in (take n w))) (λ p m notes.
    subst (λ node. SpellsNode note p node r.events f) (sym (noted_node k (text_in (take n w)) notes (nodes_in (take n w))))
    ((fitting n note k own p (known_or_none (text_known own)) refl (h p m) r.over).spelled notes))))

pub built_runs : {v w : List Held} {e f : List Event} (note : Bool) (k : Kind) (n : ℕ) (stack : Stack) → Runs stack v e w f → Runs (built_node note k n stack) v e (built k n w) f
built_runs {v = v} {w = w} {e = e} {f = f} note k n stack r = by (parted (line_of_kind k) n [] stack) refl
  where
    by : (o : Option (List Trace × Stack)) → parted (line_of_kind k) n [] stack ≡ o → Runs (built_of n (outer note k) k o) v e (built k n w) f
    by None h = last nothing loses
    by (Some x) h = built_on n (outer note k) k (filter (fits n (outer note k) k x.0) (choice.Only k ∷ places)) (λ p m. kept_passes (fits n (outer note k) k x.0) (choice.Only k ∷ places) p m) (parted_path (line_of_kind k) n [] stack h r at_end)
