-- There is one longest text among tokens, or one fault.
use Rattle.std.proofs.Common.{arith, ◌≡◌, ℕ, ◌+◌, List, take, drop, sym, ◌∙◌, ap, subst, true}
use Rattle.std.specs.Prelude.{Result, IfOk, IfErr}
use Rattle.base_kit.specs.declared.fault.Code.{Code}
use Rattle.base_kit.specs.declared.fault.Code.TheVariants.{F04}
use Rattle.base_kit.specs.declared.fault.Fault.{Fault as AFault}
use Rattle.base_kit.specs.declared.fault.Stop.{Stop}
use Rattle.ada_tree.specs.declared.node.Node.{Node}
use Rattle.ada_tree.specs.Tokens.{Sign}
use Rattle.lex_ada.specs.declared.token.Token.{Token}
use Rattle.lex_ada.specs.Faults.{fault_in}
use Rattle.lex_ada.specs.Meanings.{meanings}
use Rattle.ada_tree.specs.declared.part.Part.{Part}
use Rattle.reading_exact.specs.Whole.{GrammarReads}
use Rattle.reading_exact.proofs.Law.{one_reading}
use Rattle.reading_limits.specs.Viable.{ReadsWithin}
use Rattle.reading_table.specs.Spelled.{has_texts}
use Rattle.reading_limits.proofs.Once.{refused_once, too_deep_once, refused_or_too_deep}
use Rattle.text_read.specs.Faults.{OnFault, line_behind, code_behind}
use Rattle.text_read.specs.Fronts.{IsLongest, IsFaultOfFronts, refused, too_deep, AnswersLongest}
use Rattle.text_read.proofs.Exactly.{exactly}

module _ (Reads Within : List Sign → Node → Type 0) (within_reads : (signs : List Sign) (node : Node) → Within signs node → Reads signs node) (once : (signs : List Sign) (a b : Node) → Reads signs a → Reads signs b → a ≡ b)
    (source : List ℕ) (tokens : List Token) (from : ℕ) where
  longest_once : (x y : Node × ℕ) → IsLongest Within source tokens from x → IsLongest Within source tokens from y → x ≡ y
  longest_once x y a b =
      let less = b.longest a.n x.0 a.front in
      let more = a.longest b.n y.0 b.front in
      let same : a.n ≡ b.n = omega (arith, less, more) in
      let signs = meanings source (take b.n (drop from tokens)) in
      let reads : Within signs x.0 = subst (λ n. Within (meanings source (take n (drop from tokens))) x.0) same a.front.reads in
      let nodes : x.0 ≡ y.0 = once signs x.0 y.0 (within_reads signs x.0 reads) (within_reads signs y.0 b.front.reads) in
      let places : x.1 ≡ y.1 = a.behind ∙ ap (λ n. from + n) same ∙ sym b.behind in
      ap (λ (node : Node). (node, x.1)) nodes ∙ ap (λ (n : ℕ). (y.0, n)) places

  same_fault : (code : List ℕ → List Token → ℕ → Code) (m n : ℕ) (f g : AFault) → m ≡ n → f ≡ fault_in (code source (drop from tokens) m) (line_behind source (drop from tokens) m)
      → g ≡ fault_in (code source (drop from tokens) n) (line_behind source (drop from tokens) n) → f ≡ g
  same_fault code m n f g e p q = p ∙ ap (λ n. fault_in (code source (drop from tokens) n) (line_behind source (drop from tokens) n)) e ∙ sym q

  fault_once : (f g : AFault) → IsFaultOfFronts Reads Within source (drop from tokens) f → IsFaultOfFronts Reads Within source (drop from tokens) g → f ≡ g
  fault_once f g (refused a) (refused b) = same_fault code_behind a.n b.n f g (refused_once Reads Within within_reads (meanings source (drop from tokens)) a.n b.n a.stops b.stops) a.fault_is b.fault_is
  fault_once f g (too_deep a) (too_deep b) = same_fault (λ source tokens n. F04) a.n b.n f g (too_deep_once Reads Within within_reads (meanings source (drop from tokens)) a.n b.n a.stops b.stops) a.fault_is b.fault_is
  fault_once f g (refused a) (too_deep b) = absurd (refused_or_too_deep Reads Within within_reads (meanings source (drop from tokens)) a.n b.n a.stops b.stops)
  fault_once f g (too_deep a) (refused b) = absurd (refused_or_too_deep Reads Within within_reads (meanings source (drop from tokens)) b.n a.n b.stops a.stops)

  one_of : (x : Node × ℕ) (f : AFault) → IsLongest Within source tokens from x → IsFaultOfFronts Reads Within source (drop from tokens) f → ⊥
  one_of x f a (refused b) = b.unread a.n x.0 a.front
  one_of x f a (too_deep b) = b.unread a.n x.0 a.front

  pub answers : (result : Result (Node × ℕ) Stop) → IfOk result (IsLongest Within source tokens from) → IfErr result (OnFault (IsFaultOfFronts Reads Within source (drop from tokens))) → AnswersLongest Reads Within source tokens from result
  answers result right fault = exactly (IsLongest Within source tokens from) (IsFaultOfFronts Reads Within source (drop from tokens)) longest_once fault_once one_of result right fault

-- of one part
pub one_answers : (part : Part) (round : ℕ) → has_texts part ≡ true → (source : List ℕ) (tokens : List Token) (from : ℕ) (result : Result (Node × ℕ) Stop) → IfOk result (IsLongest (ReadsWithin round part) source tokens from)
    → IfErr result (OnFault (IsFaultOfFronts (GrammarReads part) (ReadsWithin round part) source (drop from tokens))) → AnswersLongest (GrammarReads part) (ReadsWithin round part) source tokens from result
one_answers part round texts source tokens from result right fault =
    answers (GrammarReads part) (ReadsWithin round part) (λ signs node reads. reads.reading) (λ signs a b. one_reading part signs a b texts) source tokens from result right fault
