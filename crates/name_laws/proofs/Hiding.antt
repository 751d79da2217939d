-- A visible declaration hides those further out.
use Rattle.std.proofs.Common.{◌≡◌, ℕ, zero, suc, ◌<◌, ◌≤◌, List, take, length, ◌⊎◌, inl, inr, Option, None, Some, ap, ◌∙◌, subst, arith}
use Rattle.std.specs.Option.{option_or}
use Rattle.std.proofs.lemmas.Bool.{cases_lt}
use Rattle.ada_names.specs.declared.entry.Entry.{Entry}
use Rattle.ada_names.specs.Sees.{in_region, region_of, seen_from}

module _ (es : List Entry) (place name : List ℕ) (e : Entry) (n : ℕ) where
  abbrev pub Has : ℕ → Option Entry → Type 0
  Has m o = in_region es place name (region_of es (take (suc m) place)) ≡ o

  pub hides : Has n (Some e) → ((m : ℕ) → n < m → m < length place → Has m None) → (d : ℕ) → n < d → d ≤ length place → seen_from es place name d ≡ Some e
  hides here inner zero below within = absurd (omega arith)
  hides here inner (suc m) below within = by (cases_lt n m) (hides here inner m)
    where
      by : (n < m) ⊎ (m ≤ n) → (n < m → m ≤ length place → seen_from es place name m ≡ Some e) → seen_from es place name (suc m) ≡ Some e
      by (inl less) further = ap (λ (o : Option Entry). option_or o (seen_from es place name m)) (inner m less (omega arith)) ∙ further less (omega arith)
      by (inr least) further =
          let same : n ≡ m = omega arith in
          let P : ℕ → Type 0 = λ k. Has k (Some e) in
          ap (λ (o : Option Entry). option_or o (seen_from es place name m)) (subst P same here)
