-- Free names and substitution at each kind of term.
use Rattle.std.proofs.Common.{◌≡◌, ℕ, ℤ, List, [], ◌∷◌, ◌++◌, map, take, length, get_or, Bool, ◌<◌, ◌≤◌, ◌+◌, refl, sym, ◌∙◌, ap}
use Rattle.std.proofs.lemmas.List.{take_more, take_all}
use Rattle.term_core.specs.declared.term.Oper.{Oper}
use Rattle.term_core.specs.declared.term.Term.{Term}
use Rattle.term_core.specs.declared.term.Term.TheViews as made
use Rattle.term_core.specs.declared.term.Term.TheViews.{roll-Term}
use Rattle.term_core.specs.declared.term.Term.TheVariants as variant
use Rattle.term_core.specs.declared.term.Term.TheOpen.{Term-F}
use Rattle.term_core.specs.declared.term.Term.TheFolds.{fold-roll-Term, map-Term}
use Rattle.term_core.specs.Terms.{int, truth, var, op, Quantifier, for_all, exists, quantify, Each, by_cases}
use Rattle.term_core.specs.Names.{union, union_all, without}
use Rattle.term_core.specs.Substitution.{free, free_step, Sub, extend, new_name, Part, names_of, puts, put_step, part_of, put}

pub free_var : (x : List ℕ) → free (var x) ≡ x ∷ []
unfolding free
free_var x = fold-roll-Term (List (List ℕ)) free_step (Term-F.Var x)

pub free_op : (o : Oper) (ts : List Term) → free (op o ts) ≡ union_all (map free ts)
unfolding free
free_op o ts = fold-roll-Term (List (List ℕ)) free_step (Term-F.Op o ts)

pub free_quantifier : (q : Quantifier) (x : List ℕ) (l h b : Term) → free (quantify q x l h b) ≡ union (free l) (union (free h) (without x (free b)))
unfolding free
free_quantifier for_all x l h b = fold-roll-Term (List (List ℕ)) free_step (Term-F.All x l h b)
free_quantifier exists x l h b = fold-roll-Term (List (List ℕ)) free_step (Term-F.Some x l h b)

pub free_int : (n : ℤ) → free (int n) ≡ []
unfolding free
free_int n = fold-roll-Term (List (List ℕ)) free_step (Term-F.Int n)

pub free_truth : (b : Bool) → free (truth b) ≡ []
unfolding free
free_truth b = fold-roll-Term (List (List ℕ)) free_step (Term-F.Truth b)

part : (d : Term-F Term) → part_of (roll-Term d) ≡ put_step (map-Term Term Part part_of d)
unfolding part_of
part d = fold-roll-Term Part put_step d

abbrev SameNames : Term → Type 0
SameNames t = (part_of t).names ≡ free t

names_each : (ts : List Term) → Each SameNames ts → names_of (map part_of ts) ≡ map free ts
names_each [] h = refl
names_each (t ∷ ts) h = let a = h.0 in let b = names_each ts h.1 in cc

names_around : (q : Quantifier) (x : List ℕ) (l h b : Term) → (part_of (quantify q x l h b)).names ≡ union (part_of l).names (union (part_of h).names (without x (part_of b).names))
names_around for_all x l h b = ap (λ p. p.names) (part (Term-F.All x l h b))
names_around exists x l h b = ap (λ p. p.names) (part (Term-F.Some x l h b))

names_are_free : (t : Term) → SameNames t
names_are_free = by_cases SameNames record {
  at_int = λ n. ap (λ p. p.names) (part (Term-F.Int n)) ∙ sym (free_int n);
  at_truth = λ b. ap (λ p. p.names) (part (Term-F.Truth b)) ∙ sym (free_truth b);
  at_var = λ x. ap (λ p. p.names) (part (Term-F.Var x)) ∙ sym (free_var x);
  at_op = λ o ts h. ap (λ p. p.names) (part (Term-F.Op o ts)) ∙ (ap union_all (names_each ts h) ∙ sym (free_op o ts));
  at_quantifier = λ q x l h b pl ph pb. names_around q x l h b ∙ ((λ i. union (pl i) (union (ph i) (without x (pb i)))) ∙ sym (free_quantifier q x l h b));
}

abbrev pub put_each : Sub → List Term → List Term
put_each s [] = []
put_each s (t ∷ ts) = put t s ∷ put_each s ts

puts_each : (s : Sub) (ts : List Term) → puts s (map part_of ts) ≡ put_each s ts
puts_each s [] = refl
puts_each s (t ∷ ts) = ap (λ us. put t s ∷ us) (puts_each s ts)

pub put_int : (n : ℤ) (s : Sub) → put (int n) s ≡ int n
put_int n s = ap (λ p. p.put s) (part (Term-F.Int n))

pub put_truth : (b : Bool) (s : Sub) → put (truth b) s ≡ truth b
put_truth b s = ap (λ p. p.put s) (part (Term-F.Truth b))

pub put_var : (x : List ℕ) (s : Sub) → put (var x) s ≡ s x
put_var x s = ap (λ p. p.put s) (part (Term-F.Var x))

pub put_op : (o : Oper) (ts : List Term) (s : Sub) → put (op o ts) s ≡ op o (put_each s ts)
put_op o ts s = ap (λ p. p.put s) (part (Term-F.Op o ts)) ∙ ap (op o) (puts_each s ts)

-- the name of a quantifier over x in the result, from its body
abbrev pub name_for : Sub → List ℕ → Term → List ℕ
name_for s x b = new_name s x (without x (free b))

pub put_quantifier : (q : Quantifier) (x : List ℕ) (l h b : Term) (s : Sub) → put (quantify q x l h b) s ≡ quantify q (name_for s x b) (put l s) (put h s) (put b (extend s x (var (name_for s x b))))
put_quantifier q x l h b s = opened q ∙ ap (λ ys. let y = new_name s x (without x ys) in quantify q y (put l s) (put h s) (put b (extend s x (var y)))) (names_are_free b)
  where
    opened : (q : Quantifier) → put (quantify q x l h b) s ≡ (let y = new_name s x (without x (part_of b).names) in quantify q y (put l s) (put h s) (put b (extend s x (var y))))
    opened for_all = ap (λ p. p.put s) (part (Term-F.All x l h b))
    opened exists = ap (λ p. p.put s) (part (Term-F.Some x l h b))

-- ---- steps of the loop over operands

each-append : (s : Sub) (ts us : List Term) → put_each s (ts ++ us) ≡ put_each s ts ++ put_each s us
each-append s [] us = refl
each-append s (t ∷ ts) us = ap (λ xs. put t s ∷ xs) (each-append s ts us)

pub each_more : (s : Sub) (ts : List Term) (i : ℕ) (d : Term) → i < length ts → d ≡ get_or ts i d → put_each s (take (i + 1) ts) ≡ put_each s (take i ts) ++ put d s ∷ []
each_more s ts i d l e = ap (put_each s) (take_more ts i d l) ∙ (each-append s (take i ts) (get_or ts i d ∷ []) ∙ ap (λ t. put_each s (take i ts) ++ put t s ∷ []) (sym e))

pub each_done : (s : Sub) (ts : List Term) (i : ℕ) → length ts ≤ i → put_each s (take i ts) ≡ put_each s ts
each_done s ts i l = ap (put_each s) (take_all i ts l)

-- ---- as the code makes terms

pub made_var : (x : List ℕ) → variant.Var x ≡ var x
made_var x = sym (variant.rolls-Var x)

pub made_op : (t : Term) (s : Sub) (o : Oper) (ts us : List Term) → t ≡ made.Op o ts → us ≡ put_each s ts → made.Op o us ≡ put t s
made_op t s o ts us e h = sym (variant.rolls-Op o us) ∙ (ap (op o) h ∙ (sym (put_op o ts s) ∙ ap (λ u. put u s) (sym (e ∙ sym (variant.rolls-Op o ts)))))

made_quantifier : (q : Quantifier) (t : Term) (s : Sub) (x y : List ℕ) (l h b l' h' b' : Term) → t ≡ quantify q x l h b → y ≡ name_for s x b → l' ≡ put l s → h' ≡ put h s
    → b' ≡ put b (extend s x (var y)) → quantify q y l' h' b' ≡ put t s
made_quantifier q t s x y l h b l' h' b' e n el eh eb =
    (λ i. quantify q y (el i) (eh i) (eb i)) ∙ (ap (λ w. quantify q w (put l s) (put h s) (put b (extend s x (var w)))) n ∙ (sym (put_quantifier q x l h b s) ∙ ap (λ u. put u s) (sym e)))

pub made_all : (t : Term) (s : Sub) (x y : List ℕ) (l h b l' h' b' : Term) → t ≡ made.All x l h b → y ≡ name_for s x b → l' ≡ put l s → h' ≡ put h s
    → b' ≡ put b (extend s x (var y)) → quantify for_all y l' h' b' ≡ put t s
made_all t s x y l h b l' h' b' e = made_quantifier for_all t s x y l h b l' h' b' (e ∙ sym (variant.rolls-All x l h b))

pub made_some : (t : Term) (s : Sub) (x y : List ℕ) (l h b l' h' b' : Term) → t ≡ made.Some x l h b → y ≡ name_for s x b → l' ≡ put l s → h' ≡ put h s
    → b' ≡ put b (extend s x (var y)) → quantify exists y l' h' b' ≡ put t s
made_some t s x y l h b l' h' b' e = made_quantifier exists t s x y l h b l' h' b' (e ∙ sym (variant.rolls-Some x l h b))

pub kept_int : (t : Term) (s : Sub) (n : ℤ) → t ≡ variant.Int n → t ≡ put t s
kept_int t s n e = let f : t ≡ int n = e ∙ sym (variant.rolls-Int n) in f ∙ (sym (put_int n s) ∙ ap (λ u. put u s) (sym f))

pub kept_truth : (t : Term) (s : Sub) (b : Bool) → t ≡ variant.Truth b → t ≡ put t s
kept_truth t s b e = let f : t ≡ truth b = e ∙ sym (variant.rolls-Truth b) in f ∙ (sym (put_truth b s) ∙ ap (λ u. put u s) (sym f))

pub made_name : (t : Term) (s : Sub) (x : List ℕ) → t ≡ variant.Var x → s x ≡ put t s
made_name t s x e = sym (put_var x s) ∙ ap (λ u. put u s) (sym (e ∙ sym (variant.rolls-Var x)))
