-- A text has tokens or a fault, one answer at most.
use Rattle.std.proofs.Common.{◌≡◌, ℕ, suc, List, [], ◌∷◌, ◌++◌, false, refl, sym, ◌∙◌, ap, subst, append_assoc, append-nil}
use Rattle.base_kit.specs.declared.fault.Code.{Code}
use Rattle.lex_ada.specs.declared.token.Token.{Token}
use Rattle.lex_ada.specs.Lexis.{AreTokens}
use Rattle.lex_ada.specs.Cutting.{scanned}
use Rattle.lex_ada.specs.Faults.{line_ends, code_at, GoesOn, Refuses, IsFault}
use Rattle.lex_ada.proofs.lexing.Scanning.{lexed_scanned, same_tokens}

-- a text has its tokens once
pub tokens_once : (bytes : List ℕ) (a b : List Token) → AreTokens bytes a → AreTokens bytes b → a ≡ b
tokens_once bytes a b s t = same_tokens a b (scanned 0 false 0 1 bytes) (lexed_scanned false 0 1 bytes a s) (lexed_scanned false 0 1 bytes b t)

-- no text with tokens begins with what is refused
refused_none : (front rest : List ℕ) (tokens : List Token) → Refuses front rest → AreTokens (front ++ rest) tokens → ⊥
refused_none front [] tokens h t = h tokens (subst (λ s. AreTokens s tokens) (append-nil front) t)
refused_none front (b ∷ rest) tokens h t = h rest tokens t

-- a text with tokens has no fault
pub no_fault_with_tokens : (bytes : List ℕ) (tokens : List Token) (code : Code) (line : ℕ) → AreTokens bytes tokens → IsFault bytes code line → ⊥
no_fault_with_tokens bytes tokens code line t f = refused_none f.front f.rest tokens f.refused (subst (λ s. AreTokens s tokens) f.whole t)

-- of two fronts of one text, one goes on to the other, or they are the same
data TwoFronts : List ℕ → List ℕ → List ℕ → List ℕ → Type 0 where
  same : (front rest : List ℕ) → TwoFronts front rest front rest
  longer : (front : List ℕ) (b : ℕ) (middle rest : List ℕ) → TwoFronts front (b ∷ (middle ++ rest)) (front ++ b ∷ middle) rest
  shorter : (front : List ℕ) (b : ℕ) (middle rest : List ℕ) → TwoFronts (front ++ b ∷ middle) rest front (b ∷ (middle ++ rest))

-- one more byte before both
fronts_more : (b : ℕ) (x r y s : List ℕ) → TwoFronts x r y s → TwoFronts (b ∷ x) r (b ∷ y) s
fronts_more b x r y s (same _ _) = same (b ∷ x) r
fronts_more b x r y s (longer _ c middle _) = longer (b ∷ x) c middle s
fronts_more b x r y s (shorter _ c middle _) = shorter (b ∷ y) c middle r

fronts : (x r y s : List ℕ) → x ++ r ≡ y ++ s → TwoFronts x r y s
fronts [] r [] s e = subst (λ (t : List ℕ). TwoFronts [] r [] t) e (same [] r)
fronts [] r (b ∷ y) s e = subst (λ (t : List ℕ). TwoFronts [] t (b ∷ y) s) (sym e) (longer [] b y s)
fronts (b ∷ x) r [] s e = subst (λ (t : List ℕ). TwoFronts (b ∷ x) r [] t) e (shorter [] b x r)
fronts (b ∷ x) r (c ∷ y) s e =
    let first : b ≡ c = cc in
    let others : x ++ r ≡ y ++ s = cc in
    subst (λ (d : ℕ). TwoFronts (b ∷ x) r (d ∷ y) s) first (fronts_more b x r y s (fronts x r y s others))

-- a front that a byte follows which it doesn't admit goes on to no longer one that has tokens
goes_no_further : (front : List ℕ) (b : ℕ) (middle rest : List ℕ) → Refuses front (b ∷ rest) → GoesOn (front ++ b ∷ middle) → ⊥
goes_no_further front b middle rest h (more, tokens, t) = h (middle ++ more) tokens (subst (λ s. AreTokens s tokens) (append_assoc front (b ∷ middle) more) t)

-- two fronts of a text that go on, and don't with the next byte, are the same
same_place : (x r y s : List ℕ) → TwoFronts x r y s → GoesOn x → Refuses x r → GoesOn y → Refuses y s → (x ≡ y) × (r ≡ s)
same_place x r y s (same _ _) gx hx gy hy = (refl, refl)
same_place x r y s (longer _ b middle _) gx hx gy hy = absurd (goes_no_further x b middle (middle ++ s) hx gy)
same_place x r y s (shorter _ b middle _) gx hx gy hy = absurd (goes_no_further y b middle (middle ++ r) hy gx)

-- a text has its fault once
pub fault_once : (bytes : List ℕ) (a b : Code) (m n : ℕ) → IsFault bytes a m → IsFault bytes b n → (a ≡ b) × (m ≡ n)
fault_once bytes a b m n f g =
    let place = same_place f.front f.rest g.front g.rest (fronts f.front f.rest g.front g.rest (sym f.whole ∙ g.whole)) f.before f.refused g.before g.refused in
    (f.code_is ∙ ap code_at place.1 ∙ sym g.code_is, f.line_is ∙ ap (λ s. suc (line_ends s)) place.0 ∙ sym g.line_is)
