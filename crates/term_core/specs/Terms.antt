-- Terms as trees: how they are written in definitions, induction on them, and their size and depth.
use Rattle.std.specs.Prelude.{ℕ, ℤ, ◌+◌, max, List, [], ◌∷◌, map, sum, fold, Bool}
use Rattle.std.proofs.Common.{subst}
use Rattle.term_core.specs.declared.sort.Sort.{Sort}
use Rattle.term_core.specs.declared.sort.Sort.TheOpen.{Sort-F}
use Rattle.term_core.specs.declared.sort.Sort.TheViews.{roll-Sort}
use Rattle.term_core.specs.declared.term.Oper.{Oper}
use Rattle.term_core.specs.declared.term.Oper.TheVariants as oper
use Rattle.term_core.specs.declared.term.Term.{Term}
use Rattle.term_core.specs.declared.term.Term.TheOpen.{Term-F}
use Rattle.term_core.specs.declared.term.Term.TheViews.{roll-Term}
use Rattle.term_core.specs.declared.term.Term.TheFolds.{fold-Term, ind-Term, map-Term}

-- the whole numbers from low to high
abbrev pub range : ℤ → ℤ → Sort
range low high = roll-Sort (Sort-F.Range low high)

abbrev pub int : ℤ → Term
int value = roll-Term (Term-F.Int value)

abbrev pub truth : Bool → Term
truth value = roll-Term (Term-F.Truth value)

abbrev pub var : List ℕ → Term
var name = roll-Term (Term-F.Var name)

abbrev pub op : Oper → List Term → Term
op oper terms = roll-Term (Term-F.Op oper terms)

-- for all name in low .. high : body
abbrev pub all : List ℕ → Term → Term → Term → Term
all name low high body = roll-Term (Term-F.All name low high body)

-- exists name in low .. high : body
abbrev pub some : List ℕ → Term → Term → Term → Term
some name low high body = roll-Term (Term-F.Some name low high body)

pub data Quantifier : Type 0 where
  for_all : Quantifier
  exists : Quantifier

abbrev pub quantify : Quantifier → List ℕ → Term → Term → Term → Term
quantify for_all = all
quantify exists = some

abbrev pub equal : Term → Term → Term
equal left right = op oper.Eq (left ∷ right ∷ [])

abbrev pub both : Term → Term → Term
both left right = op oper.And (left ∷ right ∷ [])

-- ---- induction

-- P holds of each
abbrev pub Each : (Term → Type 0) → List Term → Type 0
Each P [] = Unit {0}
Each P (t ∷ ts) = P t × Each P ts

-- what shows P of every term
pub record Cases (P : Term → Type 0) : Type 0 where
  pub at_int : (n : ℤ) → P (int n)
  pub at_truth : (b : Bool) → P (truth b)
  pub at_var : (x : List ℕ) → P (var x)
  pub at_op : (o : Oper) (ts : List Term) → Each P ts → P (op o ts)
  pub at_quantifier : (q : Quantifier) (x : List ℕ) (low high body : Term) → P low → P high → P body → P (quantify q x low high body)

each_shown : (P : Term → Type 0) (es : List ((t : Term) × P t)) → Each P (map (λ e. e.0) es)
each_shown P [] = tt
each_shown P (e ∷ es) = (e.1, each_shown P es)

pub by_cases : (P : Term → Type 0) → Cases P → (t : Term) → P t
by_cases P c = ind-Term P (λ x y is. subst (λ x. P (roll-Term x)) is (layer y))
  where
    layer : (y : Term-F ((t : Term) × P t)) → P (roll-Term (map-Term ((t : Term) × P t) Term (λ e. e.0) y))
    layer (Term-F.Int n) = c.at_int n
    layer (Term-F.Truth b) = c.at_truth b
    layer (Term-F.Var x) = c.at_var x
    layer (Term-F.Op o es) = c.at_op o (map (λ e. e.0) es) (each_shown P es)
    layer (Term-F.All x l h b) = c.at_quantifier for_all x l.0 h.0 b.0 l.1 h.1 b.1
    layer (Term-F.Some x l h b) = c.at_quantifier exists x l.0 h.0 b.0 l.1 h.1 b.1

-- ---- size and depth

abbrev pub size_step : Term-F ℕ → ℕ
size_step (Term-F.Op o sizes) = 1 + sum sizes
size_step (Term-F.All x low high body) = 1 + (low + high + body)
size_step (Term-F.Some x low high body) = 1 + (low + high + body)
size_step _ = 1

-- the number of nodes
abbrev pub size_of : Term → ℕ
size_of = fold-Term ℕ size_step

abbrev pub largest : List ℕ → ℕ
largest ns = fold max 0 ns

abbrev pub depth_step : Term-F ℕ → ℕ
depth_step (Term-F.Op o depths) = 1 + largest depths
depth_step (Term-F.All x low high body) = 1 + max low (max high body)
depth_step (Term-F.Some x low high body) = 1 + max low (max high body)
depth_step _ = 1

-- the number of nodes on the longest way down
abbrev pub depth_of : Term → ℕ
depth_of = fold-Term ℕ depth_step
