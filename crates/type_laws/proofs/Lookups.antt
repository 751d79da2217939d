-- What is found under a number after more is added.
use Rattle.std.proofs.Common.{◌≡◌, ℕ, List, [], ◌∷◌, Bool, true, false, Option, Some, refl, sym, ap, subst, ◌∙◌, nat_eq}
use Rattle.std.specs.Prelude.{if◌then◌else◌, unwrap_or}
use Rattle.std.specs.Map.{lookup}
use Rattle.std.proofs.lemmas.Bool.{eq-eqb, eqb-true}
use Rattle.indexmap.specs.IndexMap.{insert_entry, insert_all}

-- this holds of each number and what is kept under it
abbrev pub Each : {V : Type 0} → (ℕ → V → Type 0) → List (ℕ × V) → Type 0
Each P [] = Unit {0}
Each P (e ∷ es) = P e.0 e.1 × Each P es

module _ {V : Type 0} where
  other_stays : (es : List (ℕ × V)) (k : ℕ) (v : V) (id : ℕ) → nat_eq id k ≡ false → lookup (nat_eq id) (insert_entry nat_eq es k v) ≡ lookup (nat_eq id) es
  other_stays [] k v id h = rw h refl
  other_stays (e ∷ es) k v id h = by (other_stays es k v id h) (nat_eq k e.0) refl
    where
      by : lookup (nat_eq id) (insert_entry nat_eq es k v) ≡ lookup (nat_eq id) es → (t : Bool) → nat_eq k e.0 ≡ t → lookup (nat_eq id) (insert_entry nat_eq (e ∷ es) k v) ≡ lookup (nat_eq id) (e ∷ es)
      by rest true p = let q : nat_eq id e.0 ≡ false = subst (λ (n : ℕ). nat_eq id n ≡ false) (eqb-true k e.0 p) h in rw (p, q) refl
      by rest false p = rw p (ap (λ (o : Option V). if nat_eq id e.0 then Some e.1 else o) rest)

  own_found : (es : List (ℕ × V)) (k : ℕ) (v : V) → lookup (nat_eq k) (insert_entry nat_eq es k v) ≡ Some v
  own_found [] k v = rw (eq-eqb k k refl) refl
  own_found (e ∷ es) k v = by (own_found es k v) (nat_eq k e.0) refl
    where
      by : lookup (nat_eq k) (insert_entry nat_eq es k v) ≡ Some v → (t : Bool) → nat_eq k e.0 ≡ t → lookup (nat_eq k) (insert_entry nat_eq (e ∷ es) k v) ≡ Some v
      by rest true p = rw (p, p) refl
      by rest false p = rw (p, p) rest

  pub all_stay : (es ds : List (ℕ × V)) (id : ℕ) → Each (λ k v. nat_eq id k ≡ false) ds → lookup (nat_eq id) (insert_all nat_eq es ds) ≡ lookup (nat_eq id) es
  all_stay es [] id h = refl
  all_stay es (d ∷ ds) id h = all_stay (insert_entry nat_eq es d.0 d.1) ds id h.1 ∙ other_stays es d.0 d.1 id h.0

  -- the first that is added stays where the others have other numbers
  pub first_found : (es ds : List (ℕ × V)) (id : ℕ) (v : V) → Each (λ k v. nat_eq id k ≡ false) ds → lookup (nat_eq id) (insert_all nat_eq es ((id, v) ∷ ds)) ≡ Some v
  first_found es ds id v h = all_stay (insert_entry nat_eq es id v) ds id h ∙ own_found es id v

  -- What is found was there, or is one of those that are added.
  pub found : (P : ℕ → V → Type 0) (R : Type 0) (es ds : List (ℕ × V)) (id : ℕ) (v : V) → Each P ds → lookup (nat_eq id) (insert_all nat_eq es ds) ≡ Some v
      → (lookup (nat_eq id) es ≡ Some v → R) → (P id v → R) → R
  found P R es [] id v a h old new = old h
  found P R es (d ∷ ds) id v a h old new = found P R (insert_entry nat_eq es d.0 d.1) ds id v a.1 h (by (nat_eq id d.0) refl) new
    where
      by : (t : Bool) → nat_eq id d.0 ≡ t → lookup (nat_eq id) (insert_entry nat_eq es d.0 d.1) ≡ Some v → R
      by false p k = old (sym (other_stays es d.0 d.1 id p) ∙ k)
      by true p k =
          let e : id ≡ d.0 = eqb-true id d.0 p in
          let f : Some d.1 ≡ Some v = sym (own_found es d.0 d.1) ∙ subst (λ (n : ℕ). lookup (nat_eq n) (insert_entry nat_eq es d.0 d.1) ≡ Some v) e k in
          new (subst (λ (n : ℕ). P n v) (sym e) (subst (λ (x : V). P d.0 x) (ap (λ (o : Option V). unwrap_or o d.1) f) a.0))

  -- ---- lists that are made by insertion

  pub insert_fits : (P : V → Type 0) (es : List (ℕ × V)) (k : ℕ) (v : V) → Each (λ n x. P x) es → P v → Each (λ n x. P x) (insert_entry nat_eq es k v)
  insert_fits P [] k v a h = (h, tt)
  insert_fits P (e ∷ es) k v a h = by (insert_fits P es k v a.1 h) (nat_eq k e.0)
    where
      by : Each (λ n x. P x) (insert_entry nat_eq es k v) → (t : Bool) → Each (λ n x. P x) (if t then (e.0, v) ∷ es else e ∷ insert_entry nat_eq es k v)
      by rest true = (h, a.1)
      by rest false = (a.0, rest)

  pub insert_keys : (P : ℕ → Type 0) (es : List (ℕ × V)) (k : ℕ) (v : V) → Each (λ n x. P n) es → P k → Each (λ n x. P n) (insert_entry nat_eq es k v)
  insert_keys P [] k v a h = (h, tt)
  insert_keys P (e ∷ es) k v a h = by (insert_keys P es k v a.1 h) (nat_eq k e.0)
    where
      by : Each (λ n x. P n) (insert_entry nat_eq es k v) → (t : Bool) → Each (λ n x. P n) (if t then (e.0, v) ∷ es else e ∷ insert_entry nat_eq es k v)
      by rest true = a
      by rest false = (a.0, rest)

  pub each_both : (P Q R : ℕ → V → Type 0) → ((k : ℕ) (v : V) → P k v → Q k v → R k v) → (es : List (ℕ × V)) → Each P es → Each Q es → Each R es
  each_both P Q R f [] a b = tt
  each_both P Q R f (e ∷ es) a b = (f e.0 e.1 a.0 b.0, each_both P Q R f es a.1 b.1)
