-- What exact numbers, sizes and absent atoms say of the bounds.
use Rattle.std.proofs.Common.{◌≡◌, ℕ, ◌+◌, ◌*◌, ◌≤◌, ℤ, pos, ◌+ℤ◌, ◌-ℤ◌, ◌*ℤ◌, neg_ℤ, List, [], ◌∷◌, ◌++◌, Bool, true, false, ◌||◌, if◌then◌else◌, Option, Some, None, refl, sym, ◌∙◌, ap, subst, arith, leb-true, le-leb, lit≤}
use Rattle.std.specs.Prelude.{unsigned_abs, nat_le}
use Rattle.std.specs.Option.{option_map, option_and_then}
use Rattle.std.specs.List.{All, list_any}
use Rattle.std.proofs.lemmas.Int.{ints, unsigned_abs-mul}
use Rattle.std.proofs.Math.IntN.{+ℤ_idl, *ℤ-zero}
use Rattle.std.proofs.Math.Nat.{mul-le-mul}
use Rattle.std.proofs.lemmas.Option.{same_Some}
use Rattle.std.proofs.lemmas.List.Elements.{All-head, All-tail, All-cons, All-nil}
use Rattle.term_core.specs.declared.term.Term.{Term}
use Rattle.term_core.specs.declared.term.Term.TheOpen.{Term-F}
use Rattle.term_core.specs.declared.term.Term.TheViews.{out-roll-Term}
use Rattle.term_core.specs.Terms.{int}
use Rattle.term_laws.proofs.Meanings.{parts_of, mapped_parts}
use Rattle.linear_facts.specs.declared.limits.TheConstants.{MOST_NUMBER}
use Rattle.linear_facts.specs.Facts.{Fact, form_of, left_of, right_of}
use Rattle.linear_facts.specs.Forms.{Shape, literal, sum, difference, opposite, multiple, whole, literal_of, shaped, shape_of, within_shape, Part, atom, constant, Form, number, once, form_by, form, parts_by, taken_apart, same_term}
use Rattle.linear_facts.specs.Asked.{atoms_by, atoms_of}
use Rattle.linear_facts.specs.Lanes.{same_part}
use Rattle.linear_facts.specs.Numbers.{small, small_of, number_by, number_at, small_size, size_of_two, size_by, size_at}
use Rattle.linear_facts.proofs.ShapeLaws.{Every, EachPart, over_is, over_at, by_shape}
use Rattle.linear_facts.proofs.SumLaws.{once_is}

-- ---- what holds of each

pub every_append : {A : Type 0} (P : A → Type 0) (xs ys : List A) → Every P xs → Every P ys → Every P (xs ++ ys)
every_append P [] ys h k = k
every_append P (x ∷ xs) ys h k = (h.0, every_append P xs ys h.1 k)

pub every_left : {A : Type 0} (P : A → Type 0) (xs ys : List A) → Every P (xs ++ ys) → Every P xs
every_left P [] ys h = tt
every_left P (x ∷ xs) ys h = (h.0, every_left P xs ys h.1)

pub every_right : {A : Type 0} (P : A → Type 0) (xs ys : List A) → Every P (xs ++ ys) → Every P ys
every_right P [] ys h = h
every_right P (x ∷ xs) ys h = every_right P xs ys h.1

pub every_all : {A : Type 0} (P : A → Type 0) (xs : List A) → Every P xs → All P xs
every_all P [] h = All-nil P
every_all P (x ∷ xs) h = All-cons P x xs h.0 (every_all P xs h.1)

pub all_every : {A : Type 0} (P : A → Type 0) (xs : List A) → All P xs → Every P xs
all_every P [] h = tt
all_every P (x ∷ xs) h = (All-head P x xs h, all_every P xs (All-tail P x xs h))

-- ---- within the bounds, at one part

abbrev pub SmallAt : Part → Form → Type 0
SmallAt p f = unsigned_abs (f p) ≤ MOST_NUMBER

abbrev pub Within : Part → Term → Type 0
Within p t = Every (λ s. SmallAt p (form s)) (taken_apart t)

abbrev pub WithinFact : Part → Fact → Type 0
WithinFact p fact = SmallAt p (form_of fact) × (Within p (left_of fact) × Within p (right_of fact))

within_is : (p : Part) (t : Term) (s : Shape Term) → shape_of t ≡ s → Every (λ s. SmallAt p (form s)) (parts_by t (within_shape taken_apart s)) → Within p t
within_is p t s e h = subst (Every (λ s. SmallAt p (form s))) (sym (over_at parts_by t s e)) h

within_at : (p : Part) (t : Term) (s : Shape Term) → shape_of t ≡ s → Within p t → Every (λ s. SmallAt p (form s)) (parts_by t (within_shape taken_apart s))
within_at p t s e h = subst (Every (λ s. SmallAt p (form s))) (over_at parts_by t s e) h

-- the number of a part in a term's form
number_is : (t : Term) (s : Shape Term) (p : Part) → shape_of t ≡ s → form t p ≡ form_by t (within_shape form s) p
number_is t s p e = ap (λ f. f p) (over_at form_by t s e)

-- ---- parts of options

abbrev by_small : Bool → ℤ → Option ℤ
by_small b n = if b then Some n else None

small_parts : (n z : ℤ) → small n ≡ Some z → (n ≡ z) × (unsigned_abs n ≤ MOST_NUMBER)
small_parts n z = by_test (nat_le (unsigned_abs n) MOST_NUMBER) refl
  where
    by_test : (b : Bool) → nat_le (unsigned_abs n) MOST_NUMBER ≡ b → by_small b n ≡ Some z → (n ≡ z) × (unsigned_abs n ≤ MOST_NUMBER)
    by_test true t e = (cc, leb-true (unsigned_abs n) MOST_NUMBER t)
    by_test false t e = absurd cc

small_is : (n : ℤ) → unsigned_abs n ≤ MOST_NUMBER → small n ≡ Some n
small_is n h = ap (λ b. by_small b n) (le-leb (unsigned_abs n) MOST_NUMBER h)

small_number : (n : ℤ) (p : Part) → unsigned_abs n ≤ MOST_NUMBER → unsigned_abs (number n p) ≤ MOST_NUMBER
small_number n (atom t) h = lit≤ tt
small_number n constant h = h

-- a literal's form at the constant is the literal
at_constant : (n : ℤ) → number n constant ≡ n
at_constant n = refl

int_number : (n : ℤ) (p : Part) → form (int n) p ≡ number n p
int_number n p = number_is (int n) (literal n) p (ap (shaped literal_of) (out-roll-Term (Term-F.Int n)))

-- ---- a number that is found is the form's, and all is within the bounds

abbrev pub Found : Part → Term → Type 0
Found p t = (z : ℤ) → number_at p t ≡ Some z → (z ≡ form t p) × Within p t

pub small_two : (f : ℤ → ℤ → ℤ) (a b : Option ℤ) (z : ℤ) → small_of f a b ≡ Some z → (x : ℤ) × ((y : ℤ) × ((a ≡ Some x) × ((b ≡ Some y) × ((f x y ≡ z) × (unsigned_abs (f x y) ≤ MOST_NUMBER)))))
small_two f a b z e =
    let p = parts_of a (λ x. option_and_then (λ y. small (f x y)) b) z e in
    let q = parts_of b (λ y. small (f p.0 y)) z p.1.1 in
    let r = small_parts (f p.0 q.0) z q.1.1 in
    (p.0, (q.0, (p.1.0, (q.1.0, r))))

sized : (x y : ℤ) → x ≡ y → unsigned_abs x ≤ MOST_NUMBER → unsigned_abs y ≤ MOST_NUMBER
sized x y e = subst (λ z. unsigned_abs z ≤ MOST_NUMBER) e

zero_less : (y : ℤ) → pos 0 -ℤ y ≡ neg_ℤ y
zero_less y = +ℤ_idl (neg_ℤ y)

pub found : (p : Part) (t : Term) → Found p t
found p = by_shape (Found p) (λ t h z e. at t (shape_of t) refl h z (sym (over_is (number_by p) t) ∙ e))
  where
    at : (t : Term) (s : Shape Term) → shape_of t ≡ s → EachPart (Found p) s → (z : ℤ) → number_by p t (within_shape (number_at p) s) ≡ Some z → (z ≡ form t p) × Within p t
    at t (literal n) s h z e =
        let r = mapped_parts (small n) (λ n. number n p) z e in
        let q = small_parts n r.0 r.1.0 in
        let f = number_is t (literal n) p s in
        (sym r.1.1 ∙ (ap (λ n. number n p) (sym q.0) ∙ sym f), within_is p t (literal n) s (sized (number n p) (form t p) (sym f) (small_number n p q.1), tt))
    at t (sum a b) s h z e =
        let r = small_two ◌+ℤ◌ (number_at p a) (number_at p b) z e in
        let ha = h.0 r.0 r.1.1.0 in let hb = h.1 r.1.0 r.1.1.1.0 in
        let f : r.0 +ℤ r.1.0 ≡ form t p = (λ i. ha.0 i +ℤ hb.0 i) ∙ sym (number_is t (sum a b) p s) in
        (sym r.1.1.1.1.0 ∙ f, within_is p t (sum a b) s (sized (r.0 +ℤ r.1.0) (form t p) f r.1.1.1.1.1, every_append _ (taken_apart a) (taken_apart b) ha.1 hb.1))
    at t (difference a b) s h z e =
        let r = small_two ◌-ℤ◌ (number_at p a) (number_at p b) z e in
        let ha = h.0 r.0 r.1.1.0 in let hb = h.1 r.1.0 r.1.1.1.0 in
        let f : r.0 -ℤ r.1.0 ≡ form t p = (λ i. ha.0 i -ℤ hb.0 i) ∙ sym (number_is t (difference a b) p s) in
        (sym r.1.1.1.1.0 ∙ f, within_is p t (difference a b) s (sized (r.0 -ℤ r.1.0) (form t p) f r.1.1.1.1.1, every_append _ (taken_apart a) (taken_apart b) ha.1 hb.1))
    at t (opposite a) s h z e =
        let r = small_two ◌-ℤ◌ (Some (pos 0)) (number_at p a) z e in
        let ha = h r.1.0 r.1.1.1.0 in
        let zero : r.0 ≡ pos 0 = sym (same_Some (pos 0) r.0 r.1.1.0) in
        let f : r.0 -ℤ r.1.0 ≡ form t p = ap (λ x. x -ℤ r.1.0) zero ∙ (zero_less r.1.0 ∙ (ap neg_ℤ ha.0 ∙ sym (number_is t (opposite a) p s))) in
        (sym r.1.1.1.1.0 ∙ f, within_is p t (opposite a) s (sized (r.0 -ℤ r.1.0) (form t p) f r.1.1.1.1.1, ha.1))
    at t (multiple n a) s h z e =
        let r = small_two ◌*ℤ◌ (small n) (number_at p a) z e in
        let q = small_parts n r.0 r.1.1.0 in
        let ha = h r.1.0 r.1.1.1.0 in
        let f : r.0 *ℤ r.1.0 ≡ form t p = (λ i. sym q.0 i *ℤ ha.0 i) ∙ sym (number_is t (multiple n a) p s) in
        (sym r.1.1.1.1.0 ∙ f, within_is p t (multiple n a) s (sized (r.0 *ℤ r.1.0) (form t p) f r.1.1.1.1.1, (sized (number n p) (form (int n) p) (sym (int_number n p)) (small_number n p q.1), ha.1)))
    at t whole s h z e = (sym (same_Some _ z e) ∙ (once_is t p ∙ sym (number_is t whole p s)), within_is p t whole s tt)

found_is : (p : Part) (t : Term) (z : ℤ) → number_at p t ≡ Some z → z ≡ form t p
found_is p t z e = (found p t z e).0

-- ---- and where all is within the bounds it is found

abbrev pub Finds : Part → Term → Type 0
Finds p t = ((q : Part) → Within q t) → (z : ℤ) × (number_at p t ≡ Some z)

pub both_found : (f : ℤ → ℤ → ℤ) (a b : Option ℤ) (x y : ℤ) → a ≡ Some x → b ≡ Some y → unsigned_abs (f x y) ≤ MOST_NUMBER → small_of f a b ≡ Some (f x y)
both_found f a b x y ea eb h = (λ i. small_of f (ea i) (eb i)) ∙ small_is (f x y) h

pub finds : (p : Part) (t : Term) → Finds p t
finds p = by_shape (Finds p) (λ t h w. let r = at t (shape_of t) refl h w in (r.0, over_is (number_by p) t ∙ r.1))
  where
    at : (t : Term) (s : Shape Term) → shape_of t ≡ s → EachPart (Finds p) s → ((q : Part) → Within q t) → (z : ℤ) × (number_by p t (within_shape (number_at p) s) ≡ Some z)
    at t (literal n) s h w =
        let c = within_at constant t (literal n) s (w constant) in
        (number n p, ap (option_map (λ n. number n p)) (small_is n (sized (form t constant) n (number_is t (literal n) constant s) c.0)))
    at t (sum a b) s h w =
        let x = h.0 (λ q. every_left _ (taken_apart a) (taken_apart b) (within_at q t (sum a b) s (w q)).1) in
        let y = h.1 (λ q. every_right _ (taken_apart a) (taken_apart b) (within_at q t (sum a b) s (w q)).1) in
        let f : form t p ≡ x.0 +ℤ y.0 = number_is t (sum a b) p s ∙ (λ i. sym (found_is p a x.0 x.1) i +ℤ sym (found_is p b y.0 y.1) i) in
        (x.0 +ℤ y.0, both_found ◌+ℤ◌ (number_at p a) (number_at p b) x.0 y.0 x.1 y.1 (sized (form t p) (x.0 +ℤ y.0) f (within_at p t (sum a b) s (w p)).0))
    at t (difference a b) s h w =
        let x = h.0 (λ q. every_left _ (taken_apart a) (taken_apart b) (within_at q t (difference a b) s (w q)).1) in
        let y = h.1 (λ q. every_right _ (taken_apart a) (taken_apart b) (within_at q t (difference a b) s (w q)).1) in
        let f : form t p ≡ x.0 -ℤ y.0 = number_is t (difference a b) p s ∙ (λ i. sym (found_is p a x.0 x.1) i -ℤ sym (found_is p b y.0 y.1) i) in
        (x.0 -ℤ y.0, both_found ◌-ℤ◌ (number_at p a) (number_at p b) x.0 y.0 x.1 y.1 (sized (form t p) (x.0 -ℤ y.0) f (within_at p t (difference a b) s (w p)).0))
    at t (opposite a) s h w =
        let x = h (λ q. (within_at q t (opposite a) s (w q)).1) in
        let f : form t p ≡ pos 0 -ℤ x.0 = number_is t (opposite a) p s ∙ (ap neg_ℤ (sym (found_is p a x.0 x.1)) ∙ sym (zero_less x.0)) in
        (pos 0 -ℤ x.0, both_found ◌-ℤ◌ (Some (pos 0)) (number_at p a) (pos 0) x.0 refl x.1 (sized (form t p) (pos 0 -ℤ x.0) f (within_at p t (opposite a) s (w p)).0))
    at t (multiple n a) s h w =
        let x = h (λ q. (within_at q t (multiple n a) s (w q)).1.1) in
        let c = (within_at constant t (multiple n a) s (w constant)).1.0 in
        let f : form t p ≡ n *ℤ x.0 = number_is t (multiple n a) p s ∙ ap (λ x. n *ℤ x) (sym (found_is p a x.0 x.1)) in (
          n *ℤ x.0,
          both_found ◌*ℤ◌ (small n) (number_at p a) n x.0 (small_is n (sized (form (int n) constant) n (int_number n constant) c)) x.1
              (sized (form t p) (n *ℤ x.0) f (within_at p t (multiple n a) s (w p)).0),
        )
    at t whole s h w = (_, refl)

-- ---- sizes

pub abs_sum : (a b : ℤ) (x y : ℕ) → unsigned_abs a ≤ x → unsigned_abs b ≤ y → unsigned_abs (a +ℤ b) ≤ x + y
abs_sum a b x y h k = omega (arith, ints)

pub abs_difference : (a b : ℤ) (x y : ℕ) → unsigned_abs a ≤ x → unsigned_abs b ≤ y → unsigned_abs (a -ℤ b) ≤ x + y
abs_difference a b x y h k = omega (arith, ints)

abs_opposite : (a : ℤ) (x : ℕ) → unsigned_abs a ≤ x → unsigned_abs (neg_ℤ a) ≤ x
abs_opposite a x h = omega (arith, ints)

pub abs_product : (a b : ℤ) (x y : ℕ) → unsigned_abs a ≤ x → unsigned_abs b ≤ y → unsigned_abs (a *ℤ b) ≤ x * y
abs_product a b x y h k = subst (λ n. n ≤ x * y) (sym (unsigned_abs-mul a b)) (mul-le-mul h k)

at_most_one : (t : Term) (p : Part) → unsigned_abs (once t p) ≤ 1
at_most_one t (atom u) = by_test (same_term t u)
  where
    by_test : (b : Bool) → unsigned_abs (if b then pos 1 else pos 0) ≤ 1
    by_test true = lit≤ tt
    by_test false = lit≤ tt
at_most_one t constant = lit≤ tt

pub at_most_literal : (n : ℤ) (p : Part) → unsigned_abs (number n p) ≤ unsigned_abs n
at_most_literal n (atom t) = omega arith
at_most_literal n constant = omega arith

abbrev by_size : Bool → ℕ → Option ℕ
by_size b m = if b then Some m else None

size_parts : (m k : ℕ) → small_size m ≡ Some k → (m ≡ k) × (m ≤ MOST_NUMBER)
size_parts m k = by_test (nat_le m MOST_NUMBER) refl
  where
    by_test : (b : Bool) → nat_le m MOST_NUMBER ≡ b → by_size b m ≡ Some k → (m ≡ k) × (m ≤ MOST_NUMBER)
    by_test true t e = (same_Some m k e, leb-true m MOST_NUMBER t)
    by_test false t e = absurd cc

pub size_two : (f : ℕ → ℕ → ℕ) (a b : Option ℕ) (k : ℕ) → size_of_two f a b ≡ Some k → (x : ℕ) × ((y : ℕ) × ((a ≡ Some x) × ((b ≡ Some y) × ((f x y ≡ k) × (f x y ≤ MOST_NUMBER)))))
size_two f a b k e =
    let p = parts_of a (λ x. option_and_then (λ y. small_size (f x y)) b) k e in
    let q = parts_of b (λ y. small_size (f p.0 y)) k p.1.1 in
    (p.0, (q.0, (p.1.0, (q.1.0, size_parts (f p.0 q.0) k q.1.1))))

-- the size bounds the numbers of all parts
abbrev pub Sized : Term → Type 0
Sized t = (m : ℕ) → size_at t ≡ Some m → (m ≤ MOST_NUMBER) × ((p : Part) → (unsigned_abs (form t p) ≤ m) × Within p t)

-- a number that isn't above m, and is the form's
to_form : (t : Term) (p : Part) (z : ℤ) (x m : ℕ) → z ≡ form t p → x ≡ m → unsigned_abs z ≤ x → unsigned_abs (form t p) ≤ m
to_form t p z x m e f h = subst (λ m. unsigned_abs (form t p) ≤ m) f (subst (λ z. unsigned_abs z ≤ x) e h)

pub below_most : (a b c : ℕ) → a ≤ b → b ≤ c → a ≤ c
below_most a b c h k = omega arith

pub size_bounds : (t : Term) → Sized t
size_bounds = by_shape Sized (λ t h m e. at t (shape_of t) refl h m (sym (over_is size_by t) ∙ e))
  where
    at : (t : Term) (s : Shape Term) → shape_of t ≡ s → EachPart Sized s → (m : ℕ) → size_by t (within_shape size_at s) ≡ Some m → (m ≤ MOST_NUMBER) × ((p : Part) → (unsigned_abs (form t p) ≤ m) × Within p t)
    at t (literal n) s h m e =
        let q = size_parts (unsigned_abs n) m e in (
          subst (λ m. m ≤ MOST_NUMBER) q.0 q.1,
          λ p.
              let k = to_form t p (number n p) (unsigned_abs n) m (sym (number_is t (literal n) p s)) q.0 (at_most_literal n p) in
              (k, within_is p t (literal n) s (below_most _ _ _ k (subst (λ m. m ≤ MOST_NUMBER) q.0 q.1), tt)),
        )
    at t (sum a b) s h m e =
        let r = size_two ◌+◌ (size_at a) (size_at b) m e in
        let ha = h.0 r.0 r.1.1.0 in let hb = h.1 r.1.0 r.1.1.1.0 in
        let most = subst (λ m. m ≤ MOST_NUMBER) r.1.1.1.1.0 r.1.1.1.1.1 in (
          most,
          λ p.
              let k = to_form t p (form a p +ℤ form b p) (r.0 + r.1.0) m (sym (number_is t (sum a b) p s)) r.1.1.1.1.0 (abs_sum (form a p) (form b p) r.0 r.1.0 (ha.1 p).0 (hb.1 p).0) in
              (k, within_is p t (sum a b) s (below_most _ _ _ k most, every_append _ (taken_apart a) (taken_apart b) (ha.1 p).1 (hb.1 p).1)),
        )
    at t (difference a b) s h m e =
        let r = size_two ◌+◌ (size_at a) (size_at b) m e in
        let ha = h.0 r.0 r.1.1.0 in let hb = h.1 r.1.0 r.1.1.1.0 in
        let most = subst (λ m. m ≤ MOST_NUMBER) r.1.1.1.1.0 r.1.1.1.1.1 in (
          most,
          λ p.
              let k = to_form t p (form a p -ℤ form b p) (r.0 + r.1.0) m (sym (number_is t (difference a b) p s)) r.1.1.1.1.0 (abs_difference (form a p) (form b p) r.0 r.1.0 (ha.1 p).0 (hb.1 p).0) in
              (k, within_is p t (difference a b) s (below_most _ _ _ k most, every_append _ (taken_apart a) (taken_apart b) (ha.1 p).1 (hb.1 p).1)),
        )
    at t (opposite a) s h m e =
        let ha = h m e in (
          ha.0,
          λ p.
              let k = to_form t p (neg_ℤ (form a p)) m m (sym (number_is t (opposite a) p s)) refl (abs_opposite (form a p) m (ha.1 p).0) in
              (k, within_is p t (opposite a) s (below_most _ _ _ k ha.0, (ha.1 p).1)),
        )
    at t (multiple n a) s h m e =
        let r = size_two ◌*◌ (small_size (unsigned_abs n)) (size_at a) m e in
        let q = size_parts (unsigned_abs n) r.0 r.1.1.0 in
        let ha = h r.1.0 r.1.1.1.0 in
        let most = subst (λ m. m ≤ MOST_NUMBER) r.1.1.1.1.0 r.1.1.1.1.1 in (
          most,
          λ p.
              let k = to_form t p (n *ℤ form a p) (r.0 * r.1.0) m (sym (number_is t (multiple n a) p s)) r.1.1.1.1.0 (abs_product n (form a p) r.0 r.1.0 (subst (λ x. unsigned_abs n ≤ x) q.0 (omega arith)) (ha.1 p).0) in
              (k, within_is p t (multiple n a) s (below_most _ _ _ k most, (sized (number n p) (form (int n) p) (sym (int_number n p)) (small_number n p q.1), (ha.1 p).1))),
        )
    at t whole s h m e =
        let one = same_Some 1 m e in
        (subst (λ m. m ≤ MOST_NUMBER) one (lit≤ tt), λ p. (to_form t p (once t p) 1 m (sym (number_is t whole p s)) one (at_most_one t p), within_is p t whole s tt))

-- ---- parts that don't occur

pub none_of : (p : Part) (ts us : List Term) → list_any (λ t. same_part (atom t) p) (ts ++ us) ≡ false → (list_any (λ t. same_part (atom t) p) ts ≡ false) × (list_any (λ t. same_part (atom t) p) us ≡ false)
none_of p [] us e = (refl, e)
none_of p (t ∷ ts) us e = by_test (same_part (atom t) p) refl (λ k. none_of p ts us k)
  where
    by_test : (b : Bool) → same_part (atom t) p ≡ b → (list_any (λ t. same_part (atom t) p) (ts ++ us) ≡ false → (list_any (λ t. same_part (atom t) p) ts ≡ false) × (list_any (λ t. same_part (atom t) p) us ≡ false))
        → (list_any (λ t. same_part (atom t) p) (t ∷ ts) ≡ false) × (list_any (λ t. same_part (atom t) p) us ≡ false)
    by_test true s h = absurd (let f : true ≡ false = sym (ap (λ b. b || list_any (λ t. same_part (atom t) p) (ts ++ us)) s) ∙ e in cc)
    by_test false s h =
        let r = h (sym (ap (λ b. b || list_any (λ t. same_part (atom t) p) (ts ++ us)) s) ∙ e) in
        (ap (λ b. b || list_any (λ t. same_part (atom t) p) ts) s ∙ r.0, r.1)

abbrev pub Absent : Term → Term → Type 0
Absent u t = list_any (λ t. same_part (atom t) (atom u)) (atoms_of t) ≡ false → (form t (atom u) ≡ pos 0) × Within (atom u) t

pub no_size : (z : ℤ) → z ≡ pos 0 → unsigned_abs z ≤ MOST_NUMBER
no_size z e = subst (λ z. unsigned_abs z ≤ MOST_NUMBER) (sym e) (lit≤ tt)

pub absent : (u t : Term) → Absent u t
absent u = by_shape (Absent u) (λ t h e. at t (shape_of t) refl h (sym (ap (list_any (λ t. same_part (atom t) (atom u))) (over_is atoms_by t)) ∙ e))
  where
    first_of_two : (b : Bool) → (b || false) ≡ false → b ≡ false
    first_of_two true e = e
    first_of_two false e = refl

    at : (t : Term) (s : Shape Term) → shape_of t ≡ s → EachPart (Absent u) s → list_any (λ t. same_part (atom t) (atom u)) (atoms_by t (within_shape atoms_of s)) ≡ false
        → (form t (atom u) ≡ pos 0) × Within (atom u) t
    at t (literal n) s h e = let f = number_is t (literal n) (atom u) s in (f, within_is (atom u) t (literal n) s (no_size _ f, tt))
    at t (sum a b) s h e =
        let r = none_of (atom u) (atoms_of a) (atoms_of b) e in let ha = h.0 r.0 in let hb = h.1 r.1 in
        let f : form t (atom u) ≡ pos 0 = number_is t (sum a b) (atom u) s ∙ (λ i. ha.0 i +ℤ hb.0 i) in
        (f, within_is (atom u) t (sum a b) s (no_size _ f, every_append _ (taken_apart a) (taken_apart b) ha.1 hb.1))
    at t (difference a b) s h e =
        let r = none_of (atom u) (atoms_of a) (atoms_of b) e in let ha = h.0 r.0 in let hb = h.1 r.1 in
        let f : form t (atom u) ≡ pos 0 = number_is t (difference a b) (atom u) s ∙ (λ i. ha.0 i -ℤ hb.0 i) in
        (f, within_is (atom u) t (difference a b) s (no_size _ f, every_append _ (taken_apart a) (taken_apart b) ha.1 hb.1))
    at t (opposite a) s h e =
        let ha = h e in
        let f : form t (atom u) ≡ pos 0 = number_is t (opposite a) (atom u) s ∙ ap neg_ℤ ha.0 in
        (f, within_is (atom u) t (opposite a) s (no_size _ f, ha.1))
    at t (multiple n a) s h e =
        let ha = h e in
        let f : form t (atom u) ≡ pos 0 = number_is t (multiple n a) (atom u) s ∙ (ap (λ z. n *ℤ z) ha.0 ∙ *ℤ-zero n) in
        (f, within_is (atom u) t (multiple n a) s (no_size _ f, (no_size _ (int_number n (atom u)), ha.1)))
    at t whole s h e =
        let b : same_part (atom t) (atom u) ≡ false = first_of_two (same_part (atom t) (atom u)) e in
        (number_is t whole (atom u) s ∙ ap (λ b. if b then pos 1 else pos 0) b, within_is (atom u) t whole s tt)
