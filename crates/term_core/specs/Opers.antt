-- Operators told apart.
use Rattle.std.specs.Prelude.{◌≡◌, ℕ, List, [], ◌∷◌, get_or, Bool, ◌&&◌, ◌==◌}
use Rattle.std.proofs.Common.{refl, ap, ◌∙◌, sym}
use Rattle.term_core.specs.declared.term.Oper.{Oper}
use Rattle.term_core.specs.declared.term.Oper.TheVariants as oper

-- the place of an operator among the kinds of operators, and the number that it holds
abbrev pub number_of : Oper → ℕ × ℕ
number_of oper.Add = (0, 0)
number_of oper.Sub = (1, 0)
number_of oper.Mul = (2, 0)
number_of oper.Div = (3, 0)
number_of oper.Rem = (4, 0)
number_of oper.Mod = (5, 0)
number_of oper.Neg = (6, 0)
number_of oper.Abs = (7, 0)
number_of oper.Eq = (8, 0)
number_of oper.Lt = (9, 0)
number_of oper.Le = (10, 0)
number_of oper.Gt = (11, 0)
number_of oper.Ge = (12, 0)
number_of oper.And = (13, 0)
number_of oper.Or = (14, 0)
number_of oper.Xor = (15, 0)
number_of oper.Not = (16, 0)
number_of oper.Implies = (17, 0)
number_of oper.Iff = (18, 0)
number_of oper.If = (19, 0)
number_of oper.Select = (20, 0)
number_of oper.Store = (21, 0)
number_of (oper.Field n) = (22, n)
number_of (oper.Update n) = (23, n)
number_of (oper.Fill n) = (24, n)
number_of (oper.Make n) = (25, n)
number_of (oper.User n) = (26, n)

-- the operators in this order
abbrev opers : List (ℕ → Oper)
opers = (λ n. oper.Add) ∷ (λ n. oper.Sub) ∷ (λ n. oper.Mul) ∷ (λ n. oper.Div) ∷ (λ n. oper.Rem) ∷ (λ n. oper.Mod) ∷ (λ n. oper.Neg) ∷ (λ n. oper.Abs)
    ∷ (λ n. oper.Eq) ∷ (λ n. oper.Lt) ∷ (λ n. oper.Le) ∷ (λ n. oper.Gt) ∷ (λ n. oper.Ge) ∷ (λ n. oper.And) ∷ (λ n. oper.Or) ∷ (λ n. oper.Xor) ∷ (λ n. oper.Not)
    ∷ (λ n. oper.Implies) ∷ (λ n. oper.Iff) ∷ (λ n. oper.If) ∷ (λ n. oper.Select) ∷ (λ n. oper.Store) ∷ (λ n. oper.Field n) ∷ (λ n. oper.Update n)
    ∷ (λ n. oper.Fill n) ∷ (λ n. oper.Make n) ∷ (λ n. oper.User n) ∷ []

abbrev oper_of : ℕ × ℕ → Oper
oper_of p = get_or opers p.0 (λ n. oper.Add) p.1

oper_of-number_of : (o : Oper) → oper_of (number_of o) ≡ o
oper_of-number_of oper.Add = refl
oper_of-number_of _ = refl

pub operators_apart : (o p : Oper) → number_of o ≡ number_of p → o ≡ p
operators_apart o p e = sym (oper_of-number_of o) ∙ (ap oper_of e ∙ oper_of-number_of p)

abbrev pub same_operator : Oper → Oper → Bool
same_operator o p = (number_of o).0 == (number_of p).0 && (number_of o).1 == (number_of p).1
