-- The answer to a file.
use Rattle.std.proofs.Common.{arith, ◌≡◌, ◌+◌, ◌≤◌, ◌<◌, ℕ, List, [], ◌∷◌, min, refl, sym, ◌∙◌, ap, subst, Bool, true, false, not, ◌&&◌, Option, Some, None, Ok, Err, inl, inr, if◌then◌else◌}
use Rattle.std.specs.Prelude.{◌⊎◌, Result, nat_le, IsSomeAnd}
use Rattle.std.proofs.lemmas.List.Sums.{sum_by-cons}
use Rattle.ada_tree.specs.declared.kind.Kind.{Kind}
use Rattle.ada_tree.specs.Nodes.{count_of, is_step}
use Rattle.std.proofs.lemmas.Bool.Decides.{leb_tells}
use Rattle.base_kit.specs.declared.fault.Fault.{Fault as AFault}
use Rattle.base_kit.specs.declared.fault.Stop.{Stop}
use Rattle.base_kit.specs.declared.fault.Stop.TheVariants.{Fault, Memory}
use Rattle.lex_ada.specs.Faults.{Answers, Gives}
use Rattle.text_read.proofs.Ends.{gives_fault}
use Rattle.ada_tree.specs.declared.doc.Counts.{Counts}
use Rattle.ada_tree.specs.declared.node.Node.{Node}
use Rattle.note_read.specs.Counted.{counted_from, CountedOutcome, kept, too_many as more}
use Rattle.reading_machine.specs.Bare.{is_tree, held_count, count_in, greatest_count, counts_with, nothing, passes}
use Rattle.reading_machine.specs.Values.{only_node}
use Rattle.reading_table.specs.declared.held.Held.TheVariants as held
use Rattle.reading_table.specs.Limits.{Outcome, read, stopped, limited}
use Rattle.reading_table.specs.States.{State}
use Rattle.lex_ada.specs.declared.token.Token.{Token}
use Rattle.text_read.specs.declared.limits.TheConstants.{MOST_NODES, MOST_STEPS}
use Rattle.text_read.specs.Answers.{IsOneNode, node_read, answer_at, answer_of}
use Rattle.text_read.specs.Files.{file_part, trees_in, steps_in, is_small, too_many, IsFile, IsFaultOfFile, in_text, large, fault_of_counts, if_small, file_answer, IsFileAnswer}
use Rattle.ada_tree.specs.declared.kind.Kind.TheVariants as kind
use Rattle.ada_tree.specs.declared.part.Rule.TheVariants as rule
use Rattle.lex_ada.specs.Meanings.{meanings}
use Rattle.note_read.specs.Signs.{read_by_table}
use Rattle.reading_limits.specs.Viable.{read_within}
use Rattle.reading_table.specs.declared.symbol.Symbol.{Symbol}
use Rattle.reading_table.specs.Rows.{placed}
use Rattle.text_read.specs.Fragments.{signs_in, whole_line}
use Rattle.text_read.proofs.Texts.{read_as}
use Rattle.text_read.proofs.Once.{is_answer}

-- ---- the function

node_from : (bytes : List ℕ) (r : Result Node AFault) (node : Node) → answer_of file_part bytes ≡ r → if_small r ≡ Ok node → IsFile bytes node
node_from bytes (Ok x) node e h = by (is_small x) refl h
  where
    by : (b : Bool) → is_small x ≡ b → (if b then Ok x else Err (too_many x)) ≡ Ok node → IsFile bytes node
    by true s h = let same : x ≡ node = cc in record { text = ((is_answer file_part bytes refl).node node).0 (e ∙ ap Ok same); small = subst (λ x. is_small x ≡ true) same s }
    by false s h = absurd cc
node_from bytes (Err f) node e h = absurd cc

fault_from : (bytes : List ℕ) (r : Result Node AFault) (fault : AFault) → answer_of file_part bytes ≡ r → if_small r ≡ Err fault → IsFaultOfFile bytes fault
fault_from bytes (Ok x) fault e h = by (is_small x) refl h
  where
    by : (b : Bool) → is_small x ≡ b → (if b then Ok x else Err (too_many x)) ≡ Err fault → IsFaultOfFile bytes fault
    by true s h = absurd cc
    by false s h = let same : too_many x ≡ fault = cc in subst (IsFaultOfFile bytes) same (large (((is_answer file_part bytes refl).node x).0 e) s)
fault_from bytes (Err f) fault e h = let same : f ≡ fault = cc in in_text (((is_answer file_part bytes refl).fault fault).0 (e ∙ ap Err same))

of_node : (bytes : List ℕ) (node : Node) → IsFile bytes node → file_answer bytes ≡ Ok node
of_node bytes node f = ap if_small (((is_answer file_part bytes refl).node node).1 f.text) ∙ ap (λ b. if b then Ok node else Err (too_many node)) f.small

of_fault : (bytes : List ℕ) (fault : AFault) → IsFaultOfFile bytes fault → file_answer bytes ≡ Err fault
of_fault bytes fault (in_text f) = ap if_small (((is_answer file_part bytes refl).fault fault).1 f)
of_fault bytes fault (large {node} t s) = ap if_small (((is_answer file_part bytes refl).node node).1 t) ∙ ap (λ b. if b then Ok node else Err (too_many node)) s

pub is_file_answer : (bytes : List ℕ) → IsFileAnswer bytes
is_file_answer bytes = record {
  node = λ node. (node_from bytes (answer_of file_part bytes) node refl, of_node bytes node);
  fault = λ fault. (fault_from bytes (answer_of file_part bytes) fault refl, of_fault bytes fault);
}

-- of a text without tokens
pub gives_file_fault : (bytes : List ℕ) (stop : Stop) → Answers (Err stop) bytes → Gives {A = Node} (Err stop) (file_answer bytes)
gives_file_fault bytes (Fault fault) h = ap if_small (gives_fault file_part bytes (Fault fault) refl h)
gives_file_fault bytes Memory h = tt

-- the limits
limits : (MOST_NODES ≡ 100000) × (MOST_STEPS ≡ 50000)
limits = (refl, refl)

-- ---- the counts

-- a count that is given as the greatest one is past the limits
same_test : (n m : ℕ) → m < greatest_count → nat_le (min n greatest_count) m ≡ nat_le n m
same_test n m h = by (leb_tells (min n greatest_count) m) (leb_tells n m)
  where
    by : ((nat_le (min n greatest_count) m ≡ true) × (min n greatest_count ≤ m)) ⊎ ((nat_le (min n greatest_count) m ≡ false) × (m < min n greatest_count))
        → ((nat_le n m ≡ true) × (n ≤ m)) ⊎ ((nat_le n m ≡ false) × (m < n)) → nat_le (min n greatest_count) m ≡ nat_le n m
    by (inl a) (inl b) = a.0 ∙ sym b.0
    by (inr a) (inr b) = a.0 ∙ sym b.0
    by (inl a) (inr b) = let p = a.1 in let q = b.1 in absurd (omega (arith, h, p, q))
    by (inr a) (inl b) = let p = a.1 in let q = b.1 in absurd (omega (arith, h, p, q))

abbrev pub most : Counts
most = record { tree = MOST_NODES; proof = MOST_STEPS }

abbrev counts_of : Node → Counts
counts_of node = record { tree = min (trees_in node) greatest_count; proof = min (steps_in node) greatest_count }

-- the counts of one node
one_of : (test : Kind → Bool) (node : Node) → 0 + count_in test (held.Tree node ∷ []) ≡ count_of test node
one_of test node =
    let first = sum_by-cons (held_count test) (held.Tree node) [] in
    let none : count_in test [] ≡ 0 = refl in
    omega (arith, first, none)

one_counted : (node : Node) → counts_with nothing (held.Tree node ∷ []) ≡ counts_of node
one_counted node =
    ap (λ n. record { tree = min n greatest_count; proof = min (0 + count_in is_step (held.Tree node ∷ [])) greatest_count }) (one_of is_tree node)
    ∙ ap (λ n. record { tree = min (trees_in node) greatest_count; proof = min n greatest_count }) (one_of is_step node)

passes_large : (node : Node) → passes (Some most) (counts_of node) ≡ not (is_small node)
passes_large node =
    ap (λ b. not (b && nat_le (min (steps_in node) greatest_count) MOST_STEPS)) (same_test (trees_in node) MOST_NODES (omega arith))
    ∙ ap (λ b. not (nat_le (trees_in node) MOST_NODES && b)) (same_test (steps_in node) MOST_STEPS (omega arith))

fault_by_counts : (node : Node) → fault_of_counts (counts_of node) ≡ too_many node
fault_by_counts node = by (nat_le (trees_in node) MOST_NODES) (same_test (trees_in node) MOST_NODES (omega arith))
  where
    by : (b : Bool) → nat_le (min (trees_in node) greatest_count) MOST_NODES ≡ b
        → record (fault_of_counts (counts_of node)) { count = if nat_le (min (trees_in node) greatest_count) MOST_NODES then min (steps_in node) greatest_count else min (trees_in node) greatest_count } ≡ record (too_many node) { count = min (if b then steps_in node else trees_in node) greatest_count }
    by true e = rw e refl
    by false e = rw e refl

-- ---- what a call reads

record OneNode (state : State) : Type 0 where
  node : Node
  only : state.values ≡ held.Tree node ∷ []

the_node : (state : State) → IsOneNode (read state) → OneNode state
the_node state h = by (only_node state.values) h
  where
    by : (o : Option Node) → IsSomeAnd o (λ node. state.values ≡ held.Tree node ∷ []) → OneNode state
    by (Some node) h = record { node = node; only = h }
    by None h = absurd h

-- of a file's node, what is counted, and what is answered
counted_as : (state : State) (node : Node) → state.values ≡ held.Tree node ∷ [] → (if passes (Some most) (counts_with nothing state.values) then more (counts_with nothing state.values) else kept (read state))
    ≡ (if is_small node then kept (read state) else more (counts_of node))
counted_as state node h =
    let counts : counts_with nothing state.values ≡ counts_of node = ap (counts_with nothing) h ∙ one_counted node in
    by (is_small node) counts (ap (passes (Some most)) counts ∙ passes_large node)
  where
    by : (small : Bool) → counts_with nothing state.values ≡ counts_of node → passes (Some most) (counts_with nothing state.values) ≡ not small
        → (if passes (Some most) (counts_with nothing state.values) then more (counts_with nothing state.values) else kept (read state)) ≡ (if small then kept (read state) else more (counts_of node))
    by true counts e = rw e refl
    by false counts e = rw e (ap more counts)

answered_as : (bytes : List ℕ) (tokens : List Token) (state : State) (node : Node) → state.values ≡ held.Tree node ∷ [] → answer_at bytes tokens (read state) ≡ answer_of file_part bytes
    → (if is_small node then Ok node else Err (too_many node)) ≡ file_answer bytes
answered_as bytes tokens state node h e = ap (λ values. if_small (node_read (only_node values))) (sym h) ∙ ap if_small e

-- what the table counts of the file's tokens is what is counted of the part's reading
pub counted_within : (bytes : List ℕ) (tokens own : List Token) (line : List Symbol) (r : CountedOutcome) → own ≡ tokens → line ≡ whole_line (rule.Of kind.File)
    → r ≡ counted_from (Some most) nothing (read_by_table 0 (placed false line) (meanings bytes own)) → r ≡ counted_from (Some most) nothing (read_within 0 file_part (signs_in file_part bytes tokens))
counted_within bytes tokens own line r e f h =
    h ∙ ap (λ line. counted_from (Some most) nothing (read_by_table 0 (placed false line) (meanings bytes own))) f
    ∙ ap (λ ts. counted_from (Some most) nothing (read_by_table 0 (placed false (whole_line (rule.Of kind.File))) (meanings bytes ts))) e
    ∙ ap (counted_from (Some most) nothing) (read_as 0 file_part (signs_in file_part bytes tokens) refl)

-- few nodes were read, or the text isn't read
pub kept_answer : (bytes : List ℕ) (tokens : List Token) (outcome reading : Outcome) → IsOneNode outcome → answer_at bytes tokens outcome ≡ answer_of file_part bytes → kept reading ≡ counted_from (Some most) nothing outcome
    → (IsOneNode reading) × (answer_at bytes tokens reading ≡ file_answer bytes)
kept_answer bytes tokens (stopped n) reading one h e = let same : reading ≡ stopped n = cc in subst (λ r. IsOneNode r × (answer_at bytes tokens r ≡ file_answer bytes)) (sym same) (tt, ap if_small h)
kept_answer bytes tokens (limited n) reading one h e = let same : reading ≡ limited n = cc in subst (λ r. IsOneNode r × (answer_at bytes tokens r ≡ file_answer bytes)) (sym same) (tt, ap if_small h)
kept_answer bytes tokens (read state) reading one h e =
    let found = the_node state one in
    by (is_small found.node) refl (e ∙ counted_as state found.node found.only) (answered_as bytes tokens state found.node found.only h)
  where
    by : (small : Bool) → is_small (the_node state one).node ≡ small → kept reading ≡ (if small then kept (read state) else more (counts_of (the_node state one).node))
        → (if small then Ok (the_node state one).node else Err (too_many (the_node state one).node)) ≡ file_answer bytes → (IsOneNode reading) × (answer_at bytes tokens reading ≡ file_answer bytes)
    by true s k f =
        let same : reading ≡ read state = cc in
        let answers : answer_at bytes tokens (read state) ≡ Ok (the_node state one).node = ap (λ values. node_read (only_node values)) (the_node state one).only in
        subst (λ r. IsOneNode r × (answer_at bytes tokens r ≡ file_answer bytes)) (sym same) (one, answers ∙ f)
    by false s k f = absurd cc

-- too many
pub large_answer : (bytes : List ℕ) (tokens : List Token) (outcome : Outcome) (counts : Counts) → IsOneNode outcome → answer_at bytes tokens outcome ≡ answer_of file_part bytes → more counts ≡ counted_from (Some most) nothing outcome
    → file_answer bytes ≡ Err (fault_of_counts counts)
large_answer bytes tokens (stopped n) counts one h e = absurd cc
large_answer bytes tokens (limited n) counts one h e = absurd cc
large_answer bytes tokens (read state) counts one h e =
    let found = the_node state one in
    by (is_small found.node) (e ∙ counted_as state found.node found.only) (answered_as bytes tokens state found.node found.only h)
  where
    by : (small : Bool) → more counts ≡ (if small then kept (read state) else more (counts_of (the_node state one).node))
        → (if small then Ok (the_node state one).node else Err (too_many (the_node state one).node)) ≡ file_answer bytes → file_answer bytes ≡ Err (fault_of_counts counts)
    by true k f = absurd cc
    by false k f =
        let same : counts ≡ counts_of (the_node state one).node = cc in
        sym f ∙ ap Err (sym (fault_by_counts (the_node state one).node)) ∙ ap (λ c. Err (fault_of_counts c)) (sym same)
