-- Children that are done so far, from the last one on, and the nodes that moved among them.
use Rattle.std.proofs.Common.{◌≡◌, ℕ, zero, suc, ◌+◌, ◌<◌, ◌≤◌, List, [], ◌∷◌, length, get_or, map, drop, refl, sym, ◌∙◌, ap, subst, arith, add-one}
use Rattle.attr_engine.specs.declared.node.Node.{Node}
use Rattle.attr_engine.specs.Rules.{Rules}
use Rattle.attr_engine.specs.Nodes.{done}
use Rattle.attr_engine.specs.Fresh.{Growth, children}
use Rattle.attr_engine.specs.Moved.{sum_at}

pub drop-all : {A : Type 0} (xs : List A) → drop (length xs) xs ≡ []
drop-all [] = refl
drop-all (x ∷ xs) = drop-all xs

pub drop-at : {A : Type 0} (number : ℕ) (xs : List A) (x : A) → number < length xs → x ≡ get_or xs number x → drop number xs ≡ x ∷ drop (suc number) xs
drop-at number [] x h e = absurd (omega arith)
drop-at zero (y ∷ ys) x h e = ap (λ z. z ∷ ys) (sym e)
drop-at (suc number) (y ∷ ys) x h e = drop-at number ys x (omega arith) e

-- items that stand for children, with what each becomes and what is counted of it
module _ {A Label Need In Out : Type 0} (rules : Rules Label Need In Out) (label : Label) (input : In)
    (grows : A → Growth Label Need In Out) (counts : A → Node Label Need In Out → ℕ) where
  abbrev pub nodes_from : ℕ → List A → List (Node Label Need In Out)
  nodes_from number xs = children rules label input number (map grows xs)

  abbrev pub cost_from : ℕ → List A → ℕ
  cost_from number xs = sum_at (map counts xs) (nodes_from number xs)

  pub cost_of_rest : (number skip : ℕ) (xs : List A) → cost_from (number + skip) (drop skip xs) ≤ cost_from number xs
  cost_of_rest number zero xs = let e : number + 0 ≡ number = omega arith in rw e (omega arith)
  cost_of_rest number (suc skip) [] = omega arith
  cost_of_rest number (suc skip) (x ∷ xs) =
      let e : number + suc skip ≡ (number + 1) + skip = omega arith in
      rw e (omega (arith, cost_of_rest (number + 1) skip xs))

  -- the children from a number on are done, in steps from `start` on
  pub record IsSoFar (number : ℕ) (xs : List A) (later : List (Node Label Need In Out)) (start steps : ℕ) : Type 0 where
    pub nodes : later ≡ nodes_from number (drop number xs)
    pub ticks : steps ≡ start + cost_from number (drop number xs)

  pub begun : (number : ℕ) (xs : List A) (later : List (Node Label Need In Out)) (start : ℕ) → number ≡ length xs → later ≡ [] → IsSoFar number xs later start start
  begun number xs later start l e =
      let none : drop number xs ≡ [] = ap (λ n. drop n xs) l ∙ drop-all xs in
      record {
        nodes = e ∙ sym (ap (nodes_from number) none);
        ticks = let z : cost_from number (drop number xs) ≡ 0 = ap (cost_from number) none in omega (arith, z);
      }

  -- what the child of this number becomes
  abbrev pub next : ℕ → A → List (Node Label Need In Out) → Node Label Need In Out
  next number x later = (grows x).under (rules.down label input number (grows x).need (done later))

  opened : (number : ℕ) (xs : List A) (x : A) → number < length xs → x ≡ get_or xs number x →
      nodes_from number (drop number xs) ≡ next number x (nodes_from (number + 1) (drop (number + 1) xs)) ∷ nodes_from (number + 1) (drop (number + 1) xs)
  opened number xs x h e =
      ap (nodes_from number) (drop-at number xs x h e ∙ ap (λ n. x ∷ drop n xs) (sym (add-one number)))

  paid : (number : ℕ) (xs : List A) (x : A) → number < length xs → x ≡ get_or xs number x →
      cost_from number (drop number xs) ≡ counts x (next number x (nodes_from (number + 1) (drop (number + 1) xs))) + cost_from (number + 1) (drop (number + 1) xs)
  paid number xs x h e =
      ap (cost_from number) (drop-at number xs x h e ∙ ap (λ n. x ∷ drop n xs) (sym (add-one number)))

  pub one_more : (before number : ℕ) (xs : List A) (x : A) (later : List (Node Label Need In Out)) (node : Node Label Need In Out) (start steps after : ℕ) →
      before ≡ number + 1 → number < length xs → x ≡ get_or xs number x → IsSoFar before xs later start steps →
      node ≡ next number x later → after ≡ steps + counts x node → IsSoFar number xs (node ∷ later) start after
  one_more before number xs x later node start steps after b h e s n t =
      let rest : later ≡ nodes_from (number + 1) (drop (number + 1) xs) = s.nodes ∙ ap (λ k. nodes_from k (drop k xs)) b in
      let here : node ≡ next number x (nodes_from (number + 1) (drop (number + 1) xs)) = n ∙ ap (next number x) rest in
      let spent : steps ≡ start + cost_from (number + 1) (drop (number + 1) xs) = s.ticks ∙ ap (λ k. start + cost_from k (drop k xs)) b in
      let paid_here : counts x node ≡ counts x (next number x (nodes_from (number + 1) (drop (number + 1) xs))) = ap (counts x) here in
      record {
        nodes = ap (λ y. y ∷ later) here ∙ ap (λ ys. next number x (nodes_from (number + 1) (drop (number + 1) xs)) ∷ ys) rest ∙ sym (opened number xs x h e);
        ticks = omega (arith, spent, paid_here, paid number xs x h e, t);
      }

  -- the steps so far are among those of all children
  pub so_far_le : (number : ℕ) (xs : List A) (later : List (Node Label Need In Out)) (start steps : ℕ) → IsSoFar number xs later start steps →
      steps ≤ start + cost_from 0 xs
  so_far_le number xs later start steps s =
      let e : 0 + number ≡ number = omega arith in
      let rest : cost_from number (drop number xs) ≤ cost_from 0 xs = subst (λ k. cost_from k (drop number xs) ≤ cost_from 0 xs) e (cost_of_rest 0 number xs) in
      omega (arith, s.ticks, rest)

  -- and so are those of a child that isn't finished
  pub part_le : (before number : ℕ) (xs : List A) (x : A) (later : List (Node Label Need In Out)) (start steps after : ℕ) →
      before ≡ number + 1 → number < length xs → x ≡ get_or xs number x → IsSoFar before xs later start steps →
      after ≤ steps + counts x (next number x later) → after ≤ start + cost_from 0 xs
  part_le before number xs x later start steps after b h e s t =
      let rest : later ≡ nodes_from (number + 1) (drop (number + 1) xs) = s.nodes ∙ ap (λ k. nodes_from k (drop k xs)) b in
      let spent : steps ≡ start + cost_from (number + 1) (drop (number + 1) xs) = s.ticks ∙ ap (λ k. start + cost_from k (drop k xs)) b in
      let here : counts x (next number x later) ≡ counts x (next number x (nodes_from (number + 1) (drop (number + 1) xs))) = ap (λ ys. counts x (next number x ys)) rest in
      let z : 0 + number ≡ number = omega arith in
      let whole : cost_from number (drop number xs) ≤ cost_from 0 xs = subst (λ k. cost_from k (drop number xs) ≤ cost_from 0 xs) z (cost_of_rest 0 number xs) in
      omega (arith, spent, here, whole, paid number xs x h e, t)
