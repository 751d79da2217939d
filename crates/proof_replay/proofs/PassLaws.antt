-- What holds of a pass, whatever proofs and obligations are: it depends on what fits alone.
use Rattle.std.proofs.Common.{◌≡◌, ℕ, ◌+◌, List, [], ◌∷◌, map, filter, Bool, true, false, not, cond, Option, Some, None, refl, ap, sym, ◌∙◌}
use Rattle.std.specs.Map.{lookup, remove_entry}
use Rattle.std.specs.Option.{option_map}
use Rattle.proof_replay.specs.Carrying.{is_taken, numbered_from, untaken, pass_over, pass}
use Rattle.proof_replay.specs.Queues.{fits_label}

-- ---- through functions of proofs and of obligations

abbrev along : {O N : Type 0} → (O → N) → List (O × ℕ) → List (N × ℕ)
along g = map (λ e. (g e.0, e.1))

module _ {O N : Type 0} (g : O → N) where
  numbered-map : (n : ℕ) (os : List O) → numbered_from n (map g os) ≡ along g (numbered_from n os)
  numbered-map n [] = refl
  numbered-map n (o ∷ os) = ap (λ l. (g o, n) ∷ l) (numbered-map (n + 1) os)

  filter-along : (p : ℕ → Bool) (l : List (O × ℕ)) → filter (λ e. p e.1) (along g l) ≡ along g (filter (λ e. p e.1) l)
  filter-along p [] = refl
  filter-along p (e ∷ l) = by (p e.1) (filter-along p l)
    where
      by : (b : Bool) → filter (λ e. p e.1) (along g l) ≡ along g (filter (λ e. p e.1) l)
          → cond b ((g e.0, e.1) ∷ filter (λ e. p e.1) (along g l)) (filter (λ e. p e.1) (along g l)) ≡ along g (cond b (e ∷ filter (λ e. p e.1) l) (filter (λ e. p e.1) l))
      by true ih = ap (λ r. (g e.0, e.1) ∷ r) ih
      by false ih = ih

  lookup-along : (q : N → Bool) (l : List (O × ℕ)) → lookup q (along g l) ≡ lookup (λ o. q (g o)) l
  lookup-along q [] = refl
  lookup-along q (e ∷ l) = ap (cond (q (g e.0)) (Some e.1)) (lookup-along q l)

  others-along : (q : N → Bool) (l : List (O × ℕ)) → remove_entry q (along g l) ≡ along g (remove_entry (λ o. q (g o)) l)
  others-along q [] = refl
  others-along q (e ∷ l) = by (q (g e.0)) (others-along q l)
    where
      by : (b : Bool) → remove_entry q (along g l) ≡ along g (remove_entry (λ o. q (g o)) l)
          → cond b (along g l) ((g e.0, e.1) ∷ remove_entry q (along g l)) ≡ along g (cond b l (e ∷ remove_entry (λ o. q (g o)) l))
      by true ih = refl
      by false ih = ap (λ r. (g e.0, e.1) ∷ r) ih

module _ {P Q O N : Type 0} (f : P → Q) (g : O → N) (fits : Q → N → Bool) where
  pass_over-along : (ps : List P) (ts : List (Option ℕ)) (l : List (O × ℕ))
      → pass_over fits (map f ps) ts (along g l) ≡ pass_over (λ p o. fits (f p) (g o)) ps ts l
  pass_over-along [] ts l = refl
  pass_over-along (p ∷ ps) [] l = refl
  pass_over-along (p ∷ ps) (Some j ∷ ts) l = ap (λ r. Some j ∷ r) (pass_over-along ps ts l)
  pass_over-along (p ∷ ps) (None ∷ ts) l =
      (λ i. lookup-along g (fits (f p)) l i ∷ pass_over fits (map f ps) ts (others-along g (fits (f p)) l i))
      ∙ ap (λ r. lookup (λ o. fits (f p) (g o)) l ∷ r) (pass_over-along ps ts (remove_entry (λ o. fits (f p) (g o)) l))

  pub pass-map : (ps : List P) (os : List O) (ts : List (Option ℕ)) → pass fits (map f ps) (map g os) ts ≡ pass (λ p o. fits (f p) (g o)) ps os ts
  pass-map ps os ts =
      ap (pass_over fits (map f ps) ts) (ap (filter (λ e. not (is_taken ts e.1))) (numbered-map g 0 os) ∙ filter-along g (λ j. not (is_taken ts j)) (numbered_from 0 os))
      ∙ pass_over-along ps ts (untaken ts os)

-- ---- labels

module _ {K X : Type 0} (eq : K → K → Bool) (same : X → X → Bool) (v : K → X) (agree : (a b : K) → eq a b ≡ same (v a) (v b)) where
  fits_through : (w : Option K) (k : K) → fits_label eq w k ≡ fits_label same (option_map v w) (v k)
  fits_through None k = refl
  fits_through (Some a) k = agree a k

  -- what labels find is what proofs and obligations have in common that have these labels
  pub labels_find : {P O : Type 0} (q : P → Option X) (n : O → X) (wanted : List (Option K)) (offered : List K) (ps : List P) (os : List O) (ts : List (Option ℕ))
      → map (option_map v) wanted ≡ map q ps → map v offered ≡ map n os
      → pass (fits_label eq) wanted offered ts ≡ pass (λ p o. fits_label same (q p) (n o)) ps os ts
  labels_find q n wanted offered ps os ts e f =
      (λ i. pass (λ w k. fits_through w k i) wanted offered ts)
      ∙ (sym (pass-map (option_map v) v (fits_label same) wanted offered ts)
      ∙ ((λ i. pass (fits_label same) (e i) (f i) ts)
      ∙ pass-map q n (fits_label same) ps os ts))
