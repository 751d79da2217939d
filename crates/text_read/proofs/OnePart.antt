-- The longest text of one part, and where reading one stops.
use Rattle.std.proofs.Common.{arith, ◌≡◌, ℕ, ◌+◌, ◌-◌, ◌≤◌, List, [], length, length-drop, take, drop, sym, ◌∙◌, ap, subst, true, Some}
use Rattle.base_kit.specs.declared.fault.Code.TheVariants.{F04}
use Rattle.base_kit.specs.declared.fault.Fault.{Fault as AFault}
use Rattle.ada_tree.specs.declared.node.Node.{Node}
use Rattle.ada_tree.specs.declared.part.Part.{Part}
use Rattle.ada_tree.specs.Tokens.{Sign}
use Rattle.lex_ada.specs.declared.token.Token.{Token}
use Rattle.lex_ada.specs.Faults.{fault_in}
use Rattle.lex_ada.specs.Meanings.{meanings}
use Rattle.note_read.proofs.Fronts.{got_within}
use Rattle.note_read.specs.Fronts.{IsEnd, HasNoEnd, IsLastEnd}
use Rattle.note_read.specs.Signs.{read_by_table}
use Rattle.reading_exact.specs.Whole.{GrammarReads, are_signs, whole_start}
use Rattle.reading_limits.specs.Viable.{ReadsWithin, ReadsNode}
use Rattle.reading_limits.proofs.Law.{is_read_within, is_derived_within, stops, is_limited}
use Rattle.reading_limits.proofs.Weighing.{weighed_is_within}
use Rattle.reading_table.specs.Limits.{read, stopped, limited}
use Rattle.reading_table.specs.Spelled.{has_texts}
use Rattle.reading_table.specs.States.{State}
use Rattle.reading_machine.specs.Values.{only_node}
use Rattle.text_read.specs.Faults.{line_behind, code_behind}
use Rattle.text_read.specs.Fronts.{IsFront, IsLongest, IsReadOn, IsFaultOfFronts, refused, too_deep}
use Rattle.text_read.proofs.FirstWords.{not_both, front_has_token}
use Rattle.text_read.proofs.Sources.{front_fits}

module _ (round : ℕ) (part : Part) (source : List ℕ) (tokens : List Token) (texts : has_texts part ≡ true) (fit : are_signs (meanings source tokens) ≡ true) where
  -- the tokens before an end are read as the part
  pub end_reads : (n : ℕ) → IsEnd round (whole_start part) source tokens n → IsReadOn round part source (take n tokens)
  end_reads n end = record {
    fitting = front_fits source tokens n fit;
    some = λ none. not_both [] (meanings source (take n tokens)) none (front_has_token source tokens n end.ends);
    state = end.state;
    reads = sym (weighed_is_within round part (meanings source (take n tokens)) texts) ∙ end.reads;
  }

  front_ends : (n : ℕ) (node : Node) → IsFront (ReadsWithin round part) source tokens n node → IsEnd round (whole_start part) source tokens n
  front_ends n node front =
      let read = is_read_within round part (meanings source (take n tokens)) node texts front.reads in
      record { ends = front.ends; state = read.state; reads = weighed_is_within round part (meanings source (take n tokens)) texts ∙ read.read_is }

  pub is_longest : (n : ℕ) (node : Node) → IsLastEnd round (whole_start part) source tokens n → ReadsWithin round part (meanings source (take n tokens)) node → IsLongest (ReadsWithin round part) source tokens 0 (node, n)
  is_longest n node last reads = record {
    n = n;
    behind = omega arith;
    front = record { ends = last.end.ends; reads = reads };
    longest = λ m other front. last.last m (front_ends m other front);
  }

  no_front : HasNoEnd round (whole_start part) source tokens → (n : ℕ) (node : Node) → IsFront (ReadsWithin round part) source tokens n node → ⊥
  no_front none n node front = none n (front_ends n node front)

  pub is_refused : (n : ℕ) (fault : AFault) → HasNoEnd round (whole_start part) source tokens → read_by_table round (whole_start part) (meanings source tokens) ≡ stopped n
      → fault ≡ fault_in (code_behind source tokens n) (line_behind source tokens n) → IsFaultOfFronts (GrammarReads part) (ReadsWithin round part) source tokens fault
  is_refused n fault none e f = refused record {
    unread = no_front none;
    n = n;
    stops = stops round part (meanings source tokens) n texts fit (sym (weighed_is_within round part (meanings source tokens) texts) ∙ e);
    fault_is = f;
  }

  pub is_too_deep : (n : ℕ) (fault : AFault) → HasNoEnd round (whole_start part) source tokens → read_by_table round (whole_start part) (meanings source tokens) ≡ limited n
      → fault ≡ fault_in F04 (line_behind source tokens n) → IsFaultOfFronts (GrammarReads part) (ReadsWithin round part) source tokens fault
  is_too_deep n fault none e f = too_deep record {
    unread = no_front none;
    n = n;
    stops = is_limited round part (meanings source tokens) n texts fit (sym (weighed_is_within round part (meanings source tokens) texts) ∙ e);
    fault_is = f;
  }

-- ---- the node

pub node_read : (round : ℕ) (part : Part) (source : List ℕ) (tokens : List Token) → has_texts part ≡ true → (r : IsReadOn round part source tokens) → ReadsNode round part (meanings source tokens) r.state
node_read round part source tokens texts r = is_derived_within round part (meanings source tokens) r.state (λ none. absurd (r.some none)) texts r.fitting r.reads

pub only_one : (round : ℕ) (part : Part) (source : List ℕ) (tokens : List Token) (texts : has_texts part ≡ true) (r : IsReadOn round part source tokens) (state : State) → read state ≡ read r.state
    → only_node state.values ≡ Some (node_read round part source tokens texts r).node
only_one round part source tokens texts r state e =
    let same : state ≡ r.state = cc in
    ap (λ (s : State). only_node s.values) same ∙ ap only_node (node_read round part source tokens texts r).only

-- ---- the same from a place on

-- it has no more tokens than there are
pub few_tokens : (Within : List Sign → Node → Type 0) (source : List ℕ) (tokens rest : List Token) (from n : ℕ) (node : Node) → rest ≡ drop from tokens → from ≤ length tokens → IsLongest Within source rest 0 (node, n) → from + n ≤ length tokens
few_tokens Within source tokens rest from n node e f l =
    let ends = l.front.ends in
    let within = got_within rest ends.last ends.token ends.token_is in
    let number = ends.number in
    let behind = l.behind in
    let long : length rest ≡ length tokens - from = ap length e ∙ length-drop from tokens in
    omega (arith, within, number, behind, long, f)

pub longest_from : (Within : List Sign → Node → Type 0) (source : List ℕ) (tokens rest : List Token) (from n index : ℕ) (node : Node) → rest ≡ drop from tokens → index ≡ from + n
    → IsLongest Within source rest 0 (node, n) → IsLongest Within source tokens from (node, index)
longest_from Within source tokens rest from n index node e i l =
    let behind = l.behind in
    record {
      n = l.n;
      behind = omega (arith, behind, i);
      front = subst (λ ts. IsFront Within source ts l.n node) e l.front;
      longest = λ m other front. l.longest m other (subst (λ ts. IsFront Within source ts m other) (sym e) front);
    }
