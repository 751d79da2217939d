-- Texts among tokens: the longest one from a place on, or what is wrong there. `Reads` says what the grammar reads, `Within` what it reads within the limits.
use Rattle.std.specs.Prelude.{◌≡◌, ◌⊎◌, ℕ, ◌+◌, ◌≤◌, List, [], true, take, drop, Contains, Result}
use Rattle.base_kit.specs.declared.fault.Code.{Code}
use Rattle.base_kit.specs.declared.fault.Code.TheVariants.{F04}
use Rattle.base_kit.specs.declared.fault.Fault.{Fault as AFault}
use Rattle.base_kit.specs.declared.fault.Stop.{Stop}
use Rattle.ada_tree.specs.declared.node.Node.{Node}
use Rattle.ada_tree.specs.declared.part.Part.{Part}
use Rattle.ada_tree.specs.Tokens.{Sign}
use Rattle.lex_ada.specs.declared.token.Token.{Token}
use Rattle.lex_ada.specs.Faults.{fault_in}
use Rattle.lex_ada.specs.Lexis.{AreTokens}
use Rattle.lex_ada.specs.Meanings.{meanings}
use Rattle.note_read.specs.Fronts.{EndsInToken}
use Rattle.reading_exact.specs.Whole.{GrammarReads, are_signs}
use Rattle.reading_limits.specs.Viable.{ReadsWithin, GoesOn, Refuses, Limits, StopsBehind, read_within}
use Rattle.reading_table.specs.Limits.{read}
use Rattle.reading_table.specs.Signs.{tokens_of}
use Rattle.reading_table.specs.States.{State}
use Rattle.text_signs.specs.Fragments.{noted_tokens}
use Rattle.text_read.specs.Exactly.{Exactly}
use Rattle.text_read.specs.Faults.{line_behind, code_behind}

-- the tokens are those of the source, or the same as tokens of annotations
pub record AreTokensOf (source : List ℕ) (tokens : List Token) : Type 0 where
  pub own : List Token
  pub are_tokens : AreTokens source own
  pub same : (tokens ≡ own) ⊎ (tokens ≡ noted_tokens source own)

-- ---- texts of some parts

-- the text is read as a node of one of the parts
pub record ReadsOne (Reads : Part → List Sign → Node → Type 0) (parts : List Part) (signs : List Sign) (node : Node) : Type 0 where
  pub part : Part
  pub among : Contains parts part
  pub reads : Reads part signs node

abbrev pub GrammarReadsOne : List Part → List Sign → Node → Type 0
GrammarReadsOne parts signs node = ReadsOne GrammarReads parts signs node

-- within the limits, where so many nodes that count are round it
abbrev pub ReadsOneWithin : ℕ → List Part → List Sign → Node → Type 0
ReadsOneWithin round parts signs node = ReadsOne (ReadsWithin round) parts signs node

-- ---- the longest text

-- so many tokens, of which the last one is no comment, are a text
pub record IsFront (Within : List Sign → Node → Type 0) (source : List ℕ) (tokens : List Token) (n : ℕ) (node : Node) : Type 0 where
  pub ends : EndsInToken source tokens n
  pub reads : Within (meanings source (take n tokens)) node

-- from this place on the longest one is read as this node, and the tokens from this index on are left
pub record IsLongest (Within : List Sign → Node → Type 0) (source : List ℕ) (tokens : List Token) (from : ℕ) (answer : Node × ℕ) : Type 0 where
  pub n : ℕ
  pub behind : answer.1 ≡ from + n
  pub front : IsFront Within source (drop from tokens) n answer.0
  pub longest : (m : ℕ) (node : Node) → IsFront Within source (drop from tokens) m node → m ≤ n

-- the tokens are read whole as a text of the part
pub record IsReadOn (round : ℕ) (part : Part) (source : List ℕ) (tokens : List Token) : Type 0 where
  pub fitting : are_signs (meanings source tokens) ≡ true
  pub some : tokens_of (meanings source tokens) ≡ [] → ⊥
  pub state : State
  pub reads : read_within round part (meanings source tokens) ≡ read state

-- ---- the fault

-- There is no text; behind so many tokens none goes on with the next one. `Stops` says for which reason.
pub record IsStuck (Within : List Sign → Node → Type 0) (Stops : List Sign → List Sign → Type 0) (code : List ℕ → List Token → ℕ → Code) (source : List ℕ) (tokens : List Token) (fault : AFault) : Type 0 where
  pub unread : (n : ℕ) (node : Node) → IsFront Within source tokens n node → ⊥
  pub n : ℕ
  pub stops : StopsBehind (GoesOn Within) Stops (meanings source tokens) n
  pub fault_is : fault ≡ fault_in (code source tokens n) (line_behind source tokens n)

-- no reading admits the token, or readings do without the limits alone
pub data IsFaultOfFronts (Reads Within : List Sign → Node → Type 0) (source : List ℕ) (tokens : List Token) : AFault → Type 0 where
  refused : {fault : AFault} → IsStuck Within (Refuses Reads) code_behind source tokens fault → IsFaultOfFronts Reads Within source tokens fault
  too_deep : {fault : AFault} → IsStuck Within (Limits Reads Within) (λ source tokens n. F04) source tokens fault → IsFaultOfFronts Reads Within source tokens fault

-- the answer is the longest text from this place on, or the fault there
abbrev pub AnswersLongest : (List Sign → Node → Type 0) → (List Sign → Node → Type 0) → List ℕ → List Token → ℕ → Result (Node × ℕ) Stop → Type 0
AnswersLongest Reads Within source tokens from result = Exactly (IsLongest Within source tokens from) (IsFaultOfFronts Reads Within source (drop from tokens)) result
