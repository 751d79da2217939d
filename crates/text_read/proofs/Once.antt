-- A text has one answer.
use Rattle.std.proofs.Common.{◌≡◌, ℕ, List, false, refl, sym, ◌∙◌, ap, subst, true, Ok, Err}
use Rattle.std.specs.Prelude.{Result}
use Rattle.base_kit.specs.declared.fault.Code.{Code}
use Rattle.base_kit.specs.declared.fault.Code.TheVariants.{F04}
use Rattle.base_kit.specs.declared.fault.Fault.{Fault as AFault}
use Rattle.ada_tree.specs.declared.node.Node.{Node}
use Rattle.ada_tree.specs.declared.part.Part.{Part}
use Rattle.lex_ada.specs.declared.scan.Refusal.{Refusal}
use Rattle.lex_ada.specs.declared.token.Token.{Token}
use Rattle.lex_ada.specs.Cutting.{scanned}
use Rattle.lex_ada.specs.Faults.{fault_in, IsFault}
use Rattle.lex_ada.specs.Lexis.{AreTokens}
use Rattle.lex_ada.proofs.lexing.Refusals.{refused_fault}
use Rattle.lex_ada.proofs.lexing.Scanning.{scanned_lexed}
use Rattle.lex_ada.proofs.lexing.Unique.{tokens_once, fault_once, no_fault_with_tokens}
use Rattle.reading_machine.specs.Values.{only_node}
use Rattle.reading_exact.proofs.Law.{one_reading}
use Rattle.reading_limits.specs.Viable.{ReadsWithin, StopsAt, IsLimitedAt, read_within}
use Rattle.reading_limits.proofs.Once as once
use Rattle.reading_table.specs.Limits.{Outcome, read, stopped, limited}
use Rattle.reading_table.specs.Spelled.{has_texts}
use Rattle.text_read.specs.Answers.{node_read, answer_at, answer_from, answer_of, IsAnswer}
use Rattle.text_read.specs.Faults.{IsFaultOf, no_tokens, refused, too_deep, line_behind, code_behind}
use Rattle.text_read.specs.Fragments.{tokens_in, signs_in, IsText}
use Rattle.text_read.proofs.Texts.{gives, is_refused, is_too_deep}

-- ---- the relations

pub text_once : (part : Part) (bytes : List ℕ) (a b : Node) → has_texts part ≡ true → IsText part bytes a → IsText part bytes b → a ≡ b
text_once part bytes a b h x y =
    let same = tokens_once bytes x.tokens y.tokens x.are_tokens y.are_tokens in
    one_reading part (signs_in part bytes y.tokens) a b h (subst (λ ts. ReadsWithin 0 part (signs_in part bytes ts) a) same x.reads).reading y.reads.reading

pub text_or_fault : (part : Part) (bytes : List ℕ) (node : Node) (fault : AFault) → IsText part bytes node → IsFaultOf part bytes fault → ⊥
text_or_fault part bytes node fault x (no_tokens {code} {line} f) = no_fault_with_tokens bytes x.tokens code line x.are_tokens f
text_or_fault part bytes node fault x (refused f) =
    let same = tokens_once bytes x.tokens f.tokens x.are_tokens f.are_tokens in
    once.read_or_stopped 0 part (signs_in part bytes f.tokens) node f.n (subst (λ ts. ReadsWithin 0 part (signs_in part bytes ts) node) same x.reads) f.stops
text_or_fault part bytes node fault x (too_deep f) =
    let same = tokens_once bytes x.tokens f.tokens x.are_tokens f.are_tokens in
    once.read_or_limited 0 part (signs_in part bytes f.tokens) node f.n (subst (λ ts. ReadsWithin 0 part (signs_in part bytes ts) node) same x.reads) f.stops

same_fault : (part : Part) (bytes : List ℕ) (code : List ℕ → List Token → ℕ → Code) (s t : List Token) (m n : ℕ) (a b : AFault) → s ≡ t → m ≡ n
    → a ≡ fault_in (code bytes (tokens_in part bytes s) m) (line_behind bytes (tokens_in part bytes s) m) → b ≡ fault_in (code bytes (tokens_in part bytes t) n) (line_behind bytes (tokens_in part bytes t) n) → a ≡ b
same_fault part bytes code s t m n a b e f p q =
    p ∙ ap (λ ts. fault_in (code bytes (tokens_in part bytes ts) m) (line_behind bytes (tokens_in part bytes ts) m)) e
    ∙ ap (λ n. fault_in (code bytes (tokens_in part bytes t) n) (line_behind bytes (tokens_in part bytes t) n)) f ∙ sym q

without_tokens_once : (part : Part) (bytes : List ℕ) (c : Code) (m : ℕ) (b : AFault) → IsFault bytes c m → IsFaultOf part bytes b → fault_in c m ≡ b
without_tokens_once part bytes c m b x (no_tokens {code} {line} y) =
    let same = fault_once bytes c code m line x y in
    ap (λ code. fault_in code m) same.0 ∙ ap (λ line. fault_in code line) same.1
without_tokens_once part bytes c m b x (refused y) = absurd (no_fault_with_tokens bytes y.tokens c m y.are_tokens x)
without_tokens_once part bytes c m b x (too_deep y) = absurd (no_fault_with_tokens bytes y.tokens c m y.are_tokens x)

pub fault_of_once : (part : Part) (bytes : List ℕ) (a b : AFault) → has_texts part ≡ true → IsFaultOf part bytes a → IsFaultOf part bytes b → a ≡ b
fault_of_once part bytes a b h (no_tokens {code} {line} x) y = without_tokens_once part bytes code line b x y
fault_of_once part bytes a b h (refused x) (no_tokens {code} {line} y) = absurd (no_fault_with_tokens bytes x.tokens code line x.are_tokens y)
fault_of_once part bytes a b h (too_deep x) (no_tokens {code} {line} y) = absurd (no_fault_with_tokens bytes x.tokens code line x.are_tokens y)
fault_of_once part bytes a b h (refused x) (refused y) =
    let same = tokens_once bytes x.tokens y.tokens x.are_tokens y.are_tokens in
    let stops = subst (λ ts. StopsAt 0 part (signs_in part bytes ts) x.n) same x.stops in
    same_fault part bytes code_behind x.tokens y.tokens x.n y.n a b same (once.stopped_once 0 part (signs_in part bytes y.tokens) x.n y.n stops y.stops) x.fault_is y.fault_is
fault_of_once part bytes a b h (too_deep x) (too_deep y) =
    let same = tokens_once bytes x.tokens y.tokens x.are_tokens y.are_tokens in
    let stops = subst (λ ts. IsLimitedAt 0 part (signs_in part bytes ts) x.n) same x.stops in
    same_fault part bytes (λ bytes tokens n. F04) x.tokens y.tokens x.n y.n a b same (once.limited_once 0 part (signs_in part bytes y.tokens) x.n y.n stops y.stops) x.fault_is y.fault_is
fault_of_once part bytes a b h (refused x) (too_deep y) =
    let same = tokens_once bytes x.tokens y.tokens x.are_tokens y.are_tokens in
    let stops = subst (λ ts. StopsAt 0 part (signs_in part bytes ts) x.n) same x.stops in
    absurd (once.stopped_or_limited 0 part (signs_in part bytes y.tokens) x.n y.n stops y.stops)
fault_of_once part bytes a b h (too_deep x) (refused y) =
    let same = tokens_once bytes x.tokens y.tokens x.are_tokens y.are_tokens in
    let stops = subst (λ ts. IsLimitedAt 0 part (signs_in part bytes ts) x.n) same x.stops in
    absurd (once.stopped_or_limited 0 part (signs_in part bytes y.tokens) y.n x.n y.stops stops)

-- ---- the function

-- what it answers is so
data Right (part : Part) (bytes : List ℕ) : Result Node AFault → Type 0 where
  text : {node : Node} → IsText part bytes node → Right part bytes (Ok node)
  fault : {fault : AFault} → IsFaultOf part bytes fault → Right part bytes (Err fault)

right_at : (part : Part) (bytes : List ℕ) (tokens : List Token) (outcome : Outcome) → has_texts part ≡ true → AreTokens bytes tokens → read_within 0 part (signs_in part bytes tokens) ≡ outcome
    → Right part bytes (answer_at bytes (tokens_in part bytes tokens) outcome)
right_at part bytes tokens (read state) h a e =
    let g = gives part bytes tokens state h a e in
    subst (Right part bytes) (sym (ap (λ values. node_read (only_node values)) g.only)) (text g.text)
right_at part bytes tokens (stopped n) h a e = fault (is_refused part bytes tokens n (fault_in (code_behind bytes (tokens_in part bytes tokens) n) (line_behind bytes (tokens_in part bytes tokens) n)) h a e refl)
right_at part bytes tokens (limited n) h a e = fault (is_too_deep part bytes tokens n (fault_in F04 (line_behind bytes (tokens_in part bytes tokens) n)) h a e refl)

right : (part : Part) (bytes : List ℕ) → has_texts part ≡ true → Right part bytes (answer_of part bytes)
right part bytes h = by (scanned 0 false 0 1 bytes) refl
  where
    by : (r : Result (List Token) Refusal) → scanned 0 false 0 1 bytes ≡ r → Right part bytes (answer_from part bytes r)
    by (Ok tokens) e = right_at part bytes tokens (read_within 0 part (signs_in part bytes tokens)) h (scanned_lexed false 0 1 bytes tokens e) refl
    by (Err refusal) e = fault (no_tokens (refused_fault bytes refusal e))

is_text_of : (part : Part) (bytes : List ℕ) (r : Result Node AFault) (node : Node) → Right part bytes r → r ≡ Ok node → IsText part bytes node
is_text_of part bytes (Ok a) node (text x) e = let same : a ≡ node = cc in subst (IsText part bytes) same x
is_text_of part bytes (Err f) node (fault x) e = absurd cc

is_fault_of : (part : Part) (bytes : List ℕ) (r : Result Node AFault) (f : AFault) → Right part bytes r → r ≡ Err f → IsFaultOf part bytes f
is_fault_of part bytes (Ok a) f (text x) e = absurd cc
is_fault_of part bytes (Err g) f (fault x) e = let same : g ≡ f = cc in subst (IsFaultOf part bytes) same x

ok_from : (part : Part) (bytes : List ℕ) (r : Result Node AFault) (node : Node) → has_texts part ≡ true → Right part bytes r → IsText part bytes node → r ≡ Ok node
ok_from part bytes (Ok a) node h (text x) y = ap Ok (text_once part bytes a node h x y)
ok_from part bytes (Err f) node h (fault x) y = absurd (text_or_fault part bytes node f y x)

err_from : (part : Part) (bytes : List ℕ) (r : Result Node AFault) (f : AFault) → has_texts part ≡ true → Right part bytes r → IsFaultOf part bytes f → r ≡ Err f
err_from part bytes (Ok a) f h (text x) y = absurd (text_or_fault part bytes a f x y)
err_from part bytes (Err g) f h (fault x) y = ap Err (fault_of_once part bytes g f h x y)

pub is_answer : (part : Part) (bytes : List ℕ) → has_texts part ≡ true → IsAnswer part bytes
is_answer part bytes h = record {
  node = λ node. (is_text_of part bytes (answer_of part bytes) node (right part bytes h), ok_from part bytes (answer_of part bytes) node h (right part bytes h));
  fault = λ f. (is_fault_of part bytes (answer_of part bytes) f (right part bytes h), err_from part bytes (answer_of part bytes) f h (right part bytes h));
}
