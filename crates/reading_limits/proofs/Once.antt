-- A text is read, or reading stops at one place, for one reason.
use Rattle.std.proofs.Common.{arith, ◌≡◌, Bool, ℕ, suc, ◌+◌, List, [], ◌∷◌, ◌++◌, length, refl, sym, ◌∙◌, ap, subst, append_assoc, append-nil}
use Rattle.std.proofs.lemmas.List.{length-append}
use Rattle.ada_tree.specs.declared.node.Node.{Node}
use Rattle.ada_tree.specs.declared.part.Part.{Part as GrammarPart}
use Rattle.ada_tree.specs.Tokens.{Sign, Lexeme, token, comment}
use Rattle.reading_exact.specs.Whole.{GrammarReads}
use Rattle.reading_limits.specs.Viable.{ReadsWithin, GoesOn, Refuses, Limits, StopsBehind, StopsAt, IsLimitedAt}
use Rattle.reading_limits.proofs.Texts.{tokens-append}
use Rattle.reading_table.specs.Signs.{tokens_from, tokens_of, trailing_from}

-- ---- two places in one text

pub data Cut (f r g s : List Sign) : Type 0 where
  further : (more : List Sign) → g ≡ f ++ more → r ≡ more ++ s → Cut f r g s
  nearer : (more : List Sign) → f ≡ g ++ more → s ≡ more ++ r → Cut f r g s

cut : (f r g s : List Sign) → f ++ r ≡ g ++ s → Cut f r g s
cut [] r g s e = further g refl e
cut (x ∷ f) r [] s e = nearer (x ∷ f) refl (sym e)
cut (x ∷ f) r (y ∷ g) s e = by (cut f r g s cc)
  where
    by : Cut f r g s → Cut (x ∷ f) r (y ∷ g) s
    by (further more h k) = let first : x ≡ y = cc in further more (cc) k
    by (nearer more h k) = let first : x ≡ y = cc in nearer more (cc) k

-- ---- where reading stops

-- nothing that goes on stands behind such a place
pub record Blocks (Goes : List Sign → Type 0) (Stops : List Sign → List Sign → Type 0) : Type 0 where
  pub at_comment : (front rest : List Sign) (text : List ℕ) → Stops front (comment text ∷ rest) → ⊥
  pub at_token : (front rest more : List Sign) (note : Bool) (lexeme : Lexeme) → Stops front (token note lexeme ∷ rest) → Goes (front ++ token note lexeme ∷ more) → ⊥

module _ (Reads Within : List Sign → Node → Type 0) (within_reads : (signs : List Sign) (node : Node) → Within signs node → Reads signs node) where
  pub refusals_block : Blocks (GoesOn Within) (Refuses Reads)
  refusals_block = record {
    at_comment = λ front rest text stops. stops;
    at_token = λ front rest more note lexeme stops goes.
        stops (more ++ goes.more) goes.node (subst (λ signs. Reads signs goes.node) (append_assoc front (token note lexeme ∷ more) goes.more) (within_reads (front ++ token note lexeme ∷ more ++ goes.more) goes.node goes.reads));
  }

pub limits_block : (Reads Within : List Sign → Node → Type 0) → Blocks (GoesOn Within) (Limits Reads Within)
limits_block Reads Within = record {
  at_comment = λ front rest text stops. stops;
  at_token = λ front rest more note lexeme stops goes.
      stops.1 (more ++ goes.more) goes.node (subst (λ signs. Within signs goes.node) (append_assoc front (token note lexeme ∷ more) goes.more) goes.reads);
}

-- a front with a token has one
some_token : (front more : List Sign) (note : Bool) (lexeme : Lexeme) → length (tokens_of (front ++ token note lexeme ∷ more)) ≡ 0 → ⊥
some_token front more note lexeme e =
    let cut : length (tokens_of (front ++ token note lexeme ∷ more)) ≡ length (tokens_of front) + suc (length (tokens_of more)) =
    ap length (tokens-append front (token note lexeme ∷ more) []) ∙ length-append (tokens_of front) (tokens_from (trailing_from [] front) (token note lexeme ∷ more)) in
    omega (arith, cut, e)

-- the same place
pub record Same (f r g s : List Sign) : Type 0 where
  pub fronts : f ≡ g
  pub rests : r ≡ s

module _ (Goes : List Sign → Type 0) (A B : List Sign → List Sign → Type 0) (block_a : Blocks Goes A) (block_b : Blocks Goes B) where
  none_between : (Stops : List Sign → List Sign → Type 0) (blocks : Blocks Goes Stops) (f r s more : List Sign) → Stops f r → r ≡ more ++ s → ((length (tokens_of (f ++ more)) ≡ 0 → Goes []) → Goes (f ++ more)) → more ≡ []
  none_between Stops blocks f r s [] stops e goes = refl
  none_between Stops blocks f r s (comment text ∷ more) stops e goes = absurd (blocks.at_comment f (more ++ s) text (subst (Stops f) e stops))
  none_between Stops blocks f r s (token note lexeme ∷ more) stops e goes =
      absurd (blocks.at_token f (more ++ s) more note lexeme (subst (Stops f) e stops) (goes (λ none. absurd (some_token f more note lexeme none))))

  pub stops_once : (signs : List Sign) (m n : ℕ) → (a : StopsBehind Goes A signs m) → (b : StopsBehind Goes B signs n) → Same a.front a.rest b.front b.rest
  stops_once signs m n a b = by (cut a.front a.rest b.front b.rest (sym a.whole ∙ b.whole))
    where
      by : Cut a.front a.rest b.front b.rest → Same a.front a.rest b.front b.rest
      by (further more h k) =
          let none : more ≡ [] = none_between A block_a a.front a.rest b.rest more a.stops k (subst (λ front. (length (tokens_of front) ≡ 0 → Goes []) → Goes front) h (λ g. b.goes_on (λ e. g (b.before ∙ e)))) in
          record { fronts = sym (h ∙ ap (λ m. a.front ++ m) none ∙ append-nil a.front); rests = k ∙ ap (λ m. m ++ b.rest) none }
      by (nearer more h k) =
          let none : more ≡ [] = none_between B block_b b.front b.rest a.rest more b.stops k (subst (λ front. (length (tokens_of front) ≡ 0 → Goes []) → Goes front) h (λ g. a.goes_on (λ e. g (a.before ∙ e)))) in
          record { fronts = h ∙ ap (λ m. b.front ++ m) none ∙ append-nil b.front; rests = sym (k ∙ ap (λ m. m ++ a.rest) none) }

  -- behind the same number of tokens
  pub same_number : (signs : List Sign) (m n : ℕ) → StopsBehind Goes A signs m → StopsBehind Goes B signs n → m ≡ n
  same_number signs m n a b =
      let same = stops_once signs m n a b in
      sym a.before ∙ ap (λ front. length (tokens_of front)) same.fronts ∙ b.before

-- ---- one place, and one reason

module _ (Reads Within : List Sign → Node → Type 0) (within_reads : (signs : List Sign) (node : Node) → Within signs node → Reads signs node) (signs : List Sign) where
  pub refused_once : (m n : ℕ) → StopsBehind (GoesOn Within) (Refuses Reads) signs m → StopsBehind (GoesOn Within) (Refuses Reads) signs n → m ≡ n
  refused_once m n a b = same_number (GoesOn Within) (Refuses Reads) (Refuses Reads) (refusals_block Reads Within within_reads) (refusals_block Reads Within within_reads) signs m n a b

  pub too_deep_once : (m n : ℕ) → StopsBehind (GoesOn Within) (Limits Reads Within) signs m → StopsBehind (GoesOn Within) (Limits Reads Within) signs n → m ≡ n
  too_deep_once m n a b = same_number (GoesOn Within) (Limits Reads Within) (Limits Reads Within) (limits_block Reads Within) (limits_block Reads Within) signs m n a b

  both_stop : (front rest : List Sign) → Refuses Reads front rest → Limits Reads Within front rest → ⊥
  both_stop front [] refuses limits = limits
  both_stop front (comment text ∷ rest) refuses limits = limits
  both_stop front (token note lexeme ∷ rest) refuses limits =
      let goes = limits.0 in
      refuses goes.more goes.node (subst (λ signs. Reads signs goes.node) (append_assoc front (token note lexeme ∷ []) goes.more) goes.reads)

  pub refused_or_too_deep : (m n : ℕ) → StopsBehind (GoesOn Within) (Refuses Reads) signs m → StopsBehind (GoesOn Within) (Limits Reads Within) signs n → ⊥
  refused_or_too_deep m n a b =
      let same = stops_once (GoesOn Within) (Refuses Reads) (Limits Reads Within) (refusals_block Reads Within within_reads) (limits_block Reads Within) signs m n a b in
      both_stop b.front b.rest (subst (λ rest. Refuses Reads b.front rest) same.rests (subst (λ front. Refuses Reads front a.rest) same.fronts a.stops)) b.stops

-- of one part
within_reads : (round : ℕ) (part : GrammarPart) (signs : List Sign) (node : Node) → ReadsWithin round part signs node → GrammarReads part signs node
within_reads round part signs node reads = reads.reading

pub stopped_once : (round : ℕ) (part : GrammarPart) (signs : List Sign) (m n : ℕ) → StopsAt round part signs m → StopsAt round part signs n → m ≡ n
stopped_once round part = refused_once (GrammarReads part) (ReadsWithin round part) (within_reads round part)

pub limited_once : (round : ℕ) (part : GrammarPart) (signs : List Sign) (m n : ℕ) → IsLimitedAt round part signs m → IsLimitedAt round part signs n → m ≡ n
limited_once round part = too_deep_once (GrammarReads part) (ReadsWithin round part) (within_reads round part)

pub stopped_or_limited : (round : ℕ) (part : GrammarPart) (signs : List Sign) (m n : ℕ) → StopsAt round part signs m → IsLimitedAt round part signs n → ⊥
stopped_or_limited round part = refused_or_too_deep (GrammarReads part) (ReadsWithin round part) (within_reads round part)

-- ---- a text that is read has no fault

pub refused_unread : (Reads : List Sign → Node → Type 0) (front rest : List Sign) (node : Node) → Refuses Reads front rest → Reads (front ++ rest) node → ⊥
refused_unread Reads front [] node refuses reads = refuses node (subst (λ signs. Reads signs node) (append-nil front) reads)
refused_unread Reads front (comment text ∷ rest) node refuses reads = refuses
refused_unread Reads front (token note lexeme ∷ rest) node refuses reads = refuses rest node reads

pub limited_unread : (Reads Within : List Sign → Node → Type 0) (front rest : List Sign) (node : Node) → Limits Reads Within front rest → Within (front ++ rest) node → ⊥
limited_unread Reads Within front [] node limits reads = limits
limited_unread Reads Within front (comment text ∷ rest) node limits reads = limits
limited_unread Reads Within front (token note lexeme ∷ rest) node limits reads = limits.1 rest node reads

pub read_or_stopped : (round : ℕ) (part : GrammarPart) (signs : List Sign) (node : Node) (n : ℕ) → ReadsWithin round part signs node → StopsAt round part signs n → ⊥
read_or_stopped round part signs node n reads a = refused_unread (GrammarReads part) a.front a.rest node a.stops (subst (λ signs. GrammarReads part signs node) a.whole reads.reading)

pub read_or_limited : (round : ℕ) (part : GrammarPart) (signs : List Sign) (node : Node) (n : ℕ) → ReadsWithin round part signs node → IsLimitedAt round part signs n → ⊥
read_or_limited round part signs node n reads a = limited_unread (GrammarReads part) (ReadsWithin round part) a.front a.rest node a.stops (subst (λ signs. ReadsWithin round part signs node) a.whole reads)
