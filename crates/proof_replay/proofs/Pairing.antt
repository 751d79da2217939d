-- Of the labels that are equal, the first that is looked for takes the first, the second the second.
use Rattle.std.proofs.Common.{◌≡◌, ℕ, zero, suc, ◌+◌, ◌≤◌, List, [], ◌∷◌, map, filter, length, take, Bool, true, false, cond, Option, Some, None, refl, ap, sym, ◌∙◌, arith}
use Rattle.std.specs.Cmp.{IsEquivalence}
use Rattle.std.specs.Map.{lookup, remove_entry}
use Rattle.std.specs.Prelude.{slice_get}
use Rattle.proof_replay.proofs.QueueLaws.{first, rest, first_number, numbers_after, same_label, none_found}
use Rattle.proof_replay.specs.Carrying.{numbered_from, pass_over}
use Rattle.proof_replay.specs.Queues.{fits_label, numbers_of}

first_at : (ns : List ℕ) → first ns ≡ slice_get ns 0
first_at [] = refl
first_at (n ∷ ns) = refl

rest_at : (ns : List ℕ) (i : ℕ) → slice_get (rest ns) i ≡ slice_get ns (suc i)
rest_at [] i = refl
rest_at (n ∷ ns) i = refl

module _ {K : Type 0} {eq : K → K → Bool} (laws : IsEquivalence eq) (s : K) where
  abbrev looks : Option K → Bool
  looks w = fits_label eq w s

  -- what is taken by one that looks for the label
  pub pairs : (ws : List (Option K)) (l : List (K × ℕ)) (i : ℕ) (w : Option K) → slice_get ws i ≡ Some w → looks w ≡ true
      → slice_get (pass_over (fits_label eq) ws (map (λ w. None) ws) l) i ≡ Some (slice_get (numbers_of eq s l) (length (filter looks (take i ws))))
  pairs [] l i w h t = cc
  pairs (v ∷ ws) l zero w h t = ap Some (by v (ap looks (let e : v ≡ w = cc in e) ∙ t))
    where
      by : (v : Option K) → looks v ≡ true → lookup (fits_label eq v) l ≡ slice_get (numbers_of eq s l) 0
      by None t = cc
      by (Some k) t = first_number eq k l ∙ (first_at (numbers_of eq k l) ∙ ap (λ p. slice_get (map (λ e. e.1) (filter (λ e. p e.0) l)) 0) (same_label laws k s t))
  pairs (None ∷ ws) l (suc i) w h t =
      ap (λ m. slice_get (pass_over (fits_label eq) ws (map (λ w. None) ws) m) i) (sym (none_found l).1) ∙ pairs ws l i w h t
  pairs (Some k ∷ ws) l (suc i) w h t =
      pairs ws (remove_entry (eq k) l) i w h t
      ∙ ap Some (ap (λ ns. slice_get ns (length (filter looks (take i ws)))) (numbers_after laws k s l) ∙ by (eq k s))
    where
      by : (b : Bool) → slice_get (cond b (rest (numbers_of eq s l)) (numbers_of eq s l)) (length (filter looks (take i ws)))
          ≡ slice_get (numbers_of eq s l) (length (cond b (Some k ∷ filter looks (take i ws)) (filter looks (take i ws))))
      by true = rest_at (numbers_of eq s l) (length (filter looks (take i ws)))
      by false = refl

module _ {K : Type 0} (eq : K → K → Bool) (s : K) where
  -- what has the label of number d stands among those with the label after as many as are before it
  pub stands : (m : ℕ) (ks : List K) (d : ℕ) (k : K) → slice_get ks d ≡ Some k → eq s k ≡ true
      → slice_get (numbers_of eq s (numbered_from m ks)) (length (filter (eq s) (take d ks))) ≡ Some (m + d)
  stands m [] d k h t = cc
  stands m (x ∷ ks) zero k h t = by (eq s x) (ap (eq s) (let e : x ≡ k = cc in e) ∙ t)
    where
      by : (b : Bool) → b ≡ true → slice_get (map (λ e. e.1) (cond b ((x, m) ∷ filter (λ e. eq s e.0) (numbered_from (m + 1) ks)) (filter (λ e. eq s e.0) (numbered_from (m + 1) ks)))) 0 ≡ Some (m + 0)
      by true e = ap Some (omega arith)
      by false e = cc
  stands m (x ∷ ks) (suc d) k h t = by (eq s x) (stands (m + 1) ks d k h t)
    where
      by : (b : Bool) → slice_get (numbers_of eq s (numbered_from (m + 1) ks)) (length (filter (eq s) (take d ks))) ≡ Some ((m + 1) + d)
          → slice_get (map (λ e. e.1) (cond b ((x, m) ∷ filter (λ e. eq s e.0) (numbered_from (m + 1) ks)) (filter (λ e. eq s e.0) (numbered_from (m + 1) ks))))
          (length (cond b (x ∷ filter (eq s) (take d ks)) (filter (eq s) (take d ks)))) ≡ Some (m + suc d)
      by true ih = ih ∙ ap Some (omega arith)
      by false ih = ih ∙ ap Some (omega arith)

  above : (m : ℕ) (ks : List K) (a j : ℕ) → slice_get (numbers_of eq s (numbered_from m ks)) a ≡ Some j → m ≤ j
  above m [] a j h = cc
  above m (x ∷ ks) a j h = by (eq s x) a h (above (m + 1) ks)
    where
      by : (b : Bool) (a : ℕ) → slice_get (map (λ e. e.1) (cond b ((x, m) ∷ filter (λ e. eq s e.0) (numbered_from (m + 1) ks)) (filter (λ e. eq s e.0) (numbered_from (m + 1) ks)))) a ≡ Some j
          → ((a j : ℕ) → slice_get (numbers_of eq s (numbered_from (m + 1) ks)) a ≡ Some j → m + 1 ≤ j) → m ≤ j
      by true zero h ih = let e : m ≡ j = cc in omega (arith, e)
      by true (suc a) h ih = omega (arith, ih a j h)
      by false a h ih = omega (arith, ih a j h)

  -- each number stands once
  pub stands_once : (m : ℕ) (ks : List K) (a b j : ℕ) → slice_get (numbers_of eq s (numbered_from m ks)) a ≡ Some j → slice_get (numbers_of eq s (numbered_from m ks)) b ≡ Some j → a ≡ b
  stands_once m [] a b j h g = cc
  stands_once m (x ∷ ks) a b j h g = by (eq s x) a b h g (stands_once (m + 1) ks)
    where
      by : (c : Bool) (a b : ℕ) → slice_get (map (λ e. e.1) (cond c ((x, m) ∷ filter (λ e. eq s e.0) (numbered_from (m + 1) ks)) (filter (λ e. eq s e.0) (numbered_from (m + 1) ks)))) a ≡ Some j
          → slice_get (map (λ e. e.1) (cond c ((x, m) ∷ filter (λ e. eq s e.0) (numbered_from (m + 1) ks)) (filter (λ e. eq s e.0) (numbered_from (m + 1) ks)))) b ≡ Some j
          → ((a b j : ℕ) → slice_get (numbers_of eq s (numbered_from (m + 1) ks)) a ≡ Some j → slice_get (numbers_of eq s (numbered_from (m + 1) ks)) b ≡ Some j → a ≡ b) → a ≡ b
      by true zero zero h g ih = refl
      by true zero (suc b) h g ih = let e : m ≡ j = cc in absurd (omega (arith, e, above (m + 1) ks b j g))
      by true (suc a) zero h g ih = let e : m ≡ j = cc in absurd (omega (arith, e, above (m + 1) ks a j h))
      by true (suc a) (suc b) h g ih = ap suc (ih a b j h g)
      by false a b h g ih = ih a b j h g
