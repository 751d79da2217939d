-- Terms on which definitions compute: a fold over the term of a tree is the fold over the tree.
use Rattle.std.proofs.Common.{◌≡◌, ℕ, ℤ, List, [], ◌∷◌, map, Bool, Option, ◌∙◌, ap}
use Rattle.term_core.specs.declared.term.Oper.{Oper}
use Rattle.term_core.specs.declared.term.Term.{Term}
use Rattle.term_core.specs.declared.term.Term.TheOpen.{Term-F}
use Rattle.term_core.specs.declared.term.Term.TheFolds.{fold-Term, fold-roll-Term}
use Rattle.term_core.specs.Evaluation.{Meant, value_step, value_by, Meaning, tables_of, calls, value}
use Rattle.term_core.specs.Terms.{int, truth, var, op, Quantifier, for_all, exists, quantify}
use Rattle.term_core.specs.Values.{Value, Env}

mutual
  pub data Tree : Type 0 where
    number : ℤ → Tree
    truth_value : Bool → Tree
    name : List ℕ → Tree
    apply : Oper → Trees → Tree
    over_range : Quantifier → List ℕ → Tree → Tree → Tree → Tree

  pub data Trees : Type 0 where
    nothing : Trees
    also : Tree → Trees → Trees

abbrev mutual
  pub grown : Tree → Term
  grown (number n) = int n
  grown (truth_value b) = truth b
  grown (name x) = var x
  grown (apply o ts) = op o (all_grown ts)
  grown (over_range q x l h b) = quantify q x (grown l) (grown h) (grown b)

  pub all_grown : Trees → List Term
  all_grown nothing = []
  all_grown (also t ts) = grown t ∷ all_grown ts

abbrev pub layer_of : {A : Type 0} → Quantifier → List ℕ → A → A → A → Term-F A
layer_of for_all x l h b = Term-F.All x l h b
layer_of exists x l h b = Term-F.Some x l h b

abbrev mutual
  pub fold_tree : (A : Type 0) → (Term-F A → A) → Tree → A
  fold_tree A step (number n) = step (Term-F.Int n)
  fold_tree A step (truth_value b) = step (Term-F.Truth b)
  fold_tree A step (name x) = step (Term-F.Var x)
  fold_tree A step (apply o ts) = step (Term-F.Op o (fold_trees A step ts))
  fold_tree A step (over_range q x l h b) = step (layer_of q x (fold_tree A step l) (fold_tree A step h) (fold_tree A step b))

  pub fold_trees : (A : Type 0) → (Term-F A → A) → Trees → List A
  fold_trees A step nothing = []
  fold_trees A step (also t ts) = fold_tree A step t ∷ fold_trees A step ts

mutual
  pub fold_grown : (A : Type 0) (step : Term-F A → A) (t : Tree) → fold-Term A step (grown t) ≡ fold_tree A step t
  fold_grown A step (number n) = fold-roll-Term A step (Term-F.Int n)
  fold_grown A step (truth_value b) = fold-roll-Term A step (Term-F.Truth b)
  fold_grown A step (name x) = fold-roll-Term A step (Term-F.Var x)
  fold_grown A step (apply o ts) = fold-roll-Term A step (Term-F.Op o (all_grown ts)) ∙ ap (λ xs. step (Term-F.Op o xs)) (folds_grown A step ts)
  fold_grown A step (over_range for_all x l h b) = fold-roll-Term A step (Term-F.All x (grown l) (grown h) (grown b)) ∙ (λ i. step (Term-F.All x (fold_grown A step l i) (fold_grown A step h i) (fold_grown A step b i)))
  fold_grown A step (over_range exists x l h b) = fold-roll-Term A step (Term-F.Some x (grown l) (grown h) (grown b)) ∙ (λ i. step (Term-F.Some x (fold_grown A step l i) (fold_grown A step h i) (fold_grown A step b i)))

  folds_grown : (A : Type 0) (step : Term-F A → A) (ts : Trees) → map (fold-Term A step) (all_grown ts) ≡ fold_trees A step ts
  folds_grown A step nothing = λ i. []
  folds_grown A step (also t ts) = λ i. fold_grown A step t i ∷ folds_grown A step ts i

abbrev pub one : Oper → Tree → Tree
one o a = apply o (also a nothing)

abbrev pub two : Oper → Tree → Tree → Tree
two o a b = apply o (also a (also b nothing))

abbrev pub three : Oper → Tree → Tree → Tree → Tree
three o a b c = apply o (also a (also b (also c nothing)))

-- ---- on trees

abbrev pub value_at : ℕ → Meaning → Env → Tree → Option Value
value_at n me env t = fold_tree Meant (value_step (tables_of me) (calls n me)) t env

pub value-grown : (n : ℕ) (me : Meaning) (env : Env) (t : Tree) → value n me (grown t) env ≡ value_at n me env t
unfolding value_by
value-grown n me env t = ap (λ f. f env) (fold_grown Meant (value_step (tables_of me) (calls n me)) t)

-- ---- tables of examples

-- f gives the second of each pair for the first
abbrev pub Rows : {A B : Type 0} → (A → B) → List (A × B) → Type 0
Rows f [] = Unit {0}
Rows f (row ∷ rows) = (f row.0 ≡ row.1) × Rows f rows

pub rows_by : {A B : Type 0} (f g : A → B) → ((a : A) → f a ≡ g a) → (rows : List (A × B)) → map (λ row. g row.0) rows ≡ map (λ row. row.1) rows → Rows f rows
rows_by f g same [] h = tt
rows_by f g same (row ∷ rows) h = (same row.0 ∙ (let e : g row.0 ≡ row.1 = cc in e), rows_by f g same rows (let e : map (λ row. g row.0) rows ≡ map (λ row. row.1) rows = cc in e))
