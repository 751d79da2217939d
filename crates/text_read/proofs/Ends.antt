-- What a call answers is the answer.
use Rattle.std.proofs.Common.{◌≡◌, ◌↔◌, ℕ, List, false, [], ◌∷◌, refl, sym, ◌∙◌, ap, subst, true, Ok, Err}
use Rattle.std.specs.Prelude.{Result, drop, IfOk, IfErr, IsSomeAnd}
use Rattle.base_kit.specs.declared.fault.Fault.{Fault as AFault}
use Rattle.base_kit.specs.declared.fault.Stop.{Stop}
use Rattle.base_kit.specs.declared.fault.Stop.TheVariants.{Fault, Memory}
use Rattle.ada_tree.specs.declared.node.Node.{Node}
use Rattle.ada_tree.specs.declared.part.Part.{Part}
use Rattle.lex_ada.specs.declared.scan.Refusal.{Refusal}
use Rattle.lex_ada.specs.declared.token.Token.{Token}
use Rattle.lex_ada.specs.Cutting.{scanned}
use Rattle.lex_ada.specs.Faults.{code_at, Answers, Gives}
use Rattle.lex_ada.specs.Lexis.{AreTokens}
use Rattle.lex_ada.proofs.lexing.Refusals.{refused_fault}
use Rattle.lex_ada.proofs.lexing.Scanning.{scanned_lexed}
use Rattle.lex_ada.proofs.lexing.Unique.{tokens_once, no_fault_with_tokens}
use Rattle.reading_machine.specs.Values.{only_node}
use Rattle.reading_limits.specs.Viable.{read_within}
use Rattle.reading_table.specs.declared.held.Held.TheVariants as held
use Rattle.reading_table.specs.Limits.{Outcome, read, stopped, limited}
use Rattle.reading_table.specs.Spelled.{has_texts}
use Rattle.text_read.specs.Answers.{IsOneNode, answer_at, answer_from, answer_of}
use Rattle.text_read.specs.Faults.{OnFault}
use Rattle.text_read.specs.Fragments.{tokens_in, signs_in}
use Rattle.text_read.proofs.Once.{is_answer}
use Rattle.text_read.proofs.Texts.{gives, without_tokens}

scanned_is : (bytes : List ℕ) (tokens : List Token) → AreTokens bytes tokens → scanned 0 false 0 1 bytes ≡ Ok tokens
scanned_is bytes tokens a = by (scanned 0 false 0 1 bytes) refl
  where
    by : (r : Result (List Token) Refusal) → scanned 0 false 0 1 bytes ≡ r → r ≡ Ok tokens
    by (Ok others) e = ap Ok (tokens_once bytes others tokens (scanned_lexed false 0 1 bytes others e) a)
    by (Err refusal) e = absurd (no_fault_with_tokens bytes tokens (code_at (drop refusal.at bytes)) refusal.line a (refused_fault bytes refusal e))

-- of a text that has tokens
pub with_tokens : (part : Part) (bytes : List ℕ) (tokens : List Token) → AreTokens bytes tokens
    → answer_at bytes (tokens_in part bytes tokens) (read_within 0 part (signs_in part bytes tokens)) ≡ answer_of part bytes
with_tokens part bytes tokens a = sym (ap (answer_from part bytes) (scanned_is bytes tokens a))

pub one_node : (part : Part) (bytes : List ℕ) (tokens : List Token) (outcome : Outcome) → has_texts part ≡ true → AreTokens bytes tokens → read_within 0 part (signs_in part bytes tokens) ≡ outcome → IsOneNode outcome
one_node part bytes tokens (read state) h a e =
    let g = gives part bytes tokens state h a e in
    subst (λ values. IsSomeAnd (only_node values) (λ node. values ≡ held.Tree node ∷ [])) (sym g.only) refl
one_node part bytes tokens (stopped n) h a e = tt
one_node part bytes tokens (limited n) h a e = tt

-- of one that has none
pub gives_fault : (part : Part) (bytes : List ℕ) (stop : Stop) → has_texts part ≡ true → Answers (Err stop) bytes → Gives {A = Node} (Err stop) (answer_of part bytes)
gives_fault part bytes (Fault fault) h a = ((is_answer part bytes h).fault fault).1 (without_tokens part bytes (Fault fault) a)
gives_fault part bytes Memory h a = tt

-- ---- whoever answers so

module _ (IsNode : Node → Type 0) (IsFault : AFault → Type 0) (answer : Result Node AFault)
    (nodes : (node : Node) → (answer ≡ Ok node) ↔ IsNode node) (faults : (fault : AFault) → (answer ≡ Err fault) ↔ IsFault fault) where
  pub ok_is : (r : Result Node Stop) → Gives r answer → IfOk r IsNode
  ok_is (Ok node) g = (nodes node).0 g
  ok_is (Err stop) g = tt

  pub err_is : (r : Result Node Stop) → Gives r answer → IfErr r (OnFault IsFault)
  err_is (Ok node) g = tt
  err_is (Err (Fault fault)) g = (faults fault).0 g
  err_is (Err Memory) g = tt

  pub only_ok : (r : Result Node Stop) → Gives r answer → (node : Node) → IsNode node → Gives r (Ok node)
  only_ok (Ok other) g node h = sym ((nodes node).1 h) ∙ g
  only_ok (Err (Fault fault)) g node h = sym ((nodes node).1 h) ∙ g
  only_ok (Err Memory) g node h = tt

  pub only_err : (r : Result Node Stop) → Gives r answer → (fault : AFault) → IsFault fault → Gives r (Err fault)
  only_err (Ok other) g fault h = sym ((faults fault).1 h) ∙ g
  only_err (Err (Fault other)) g fault h = sym ((faults fault).1 h) ∙ g
  only_err (Err Memory) g fault h = tt
