-- What is added to lanes.
use Rattle.std.proofs.Common.{◌≡◌, ℤ, pos, ◌+ℤ◌, ◌-ℤ◌, ◌*ℤ◌, neg_ℤ, List, [], ◌∷◌, map, Bool, true, false, if◌then◌else◌, refl, sym, ◌∙◌, ap}
use Rattle.std.specs.Int.{int_wrap}
use Rattle.std.proofs.lemmas.Int.{int_wrap-add_left, int_wrap-add_right, int_wrap-mul_left}
use Rattle.std.proofs.Math.IntN.{one, *ℤ-zero, *ℤ-one, +ℤ_assoc}
use mir.Syntax.{w128}
use Rattle.term_core.specs.declared.term.Term.{Term}
use Rattle.linear_facts.specs.declared.lanes.Lane.{Lane}
use Rattle.linear_facts.specs.Forms.{Shape, literal, sum, difference, opposite, multiple, whole, shape_of, within_shape, atom, constant}
use Rattle.linear_facts.specs.Lanes.{is_lane_of, part_mark, seen, seen_by, seen_in, with_more}
use Rattle.linear_facts.proofs.Integers.{times-sum, times-opposite, opposite-times, times-times}
use Rattle.linear_facts.proofs.ShapeLaws.{over_at}

pub seen_is : (lane : Lane) (t : Term) (s : Shape Term) → shape_of t ≡ s → seen_in lane t ≡ seen_by lane t (within_shape (seen_in lane) s)
seen_is lane = over_at (seen_by lane)

-- the lane with the numbers of a term more, times a weight
abbrev pub with_form : ℤ → Term → Lane → Lane
with_form weight t lane = with_more (weight *ℤ seen_in lane t) lane

mapped_twice : {A : Type 0} (f g h : A → A) → ((x : A) → g (f x) ≡ h x) → (xs : List A) → map g (map f xs) ≡ map h xs
mapped_twice f g h e [] = refl
mapped_twice f g h e (x ∷ xs) = λ i. e x i ∷ mapped_twice f g h e xs i

mapped_alike : {A : Type 0} (f g : A → A) → ((x : A) → f x ≡ g x) → (xs : List A) → map f xs ≡ map g xs
mapped_alike f g e [] = refl
mapped_alike f g e (x ∷ xs) = λ i. e x i ∷ mapped_alike f g e xs i

-- ---- one number after another

more_twice : (m n : ℤ) (lane : Lane) → with_more n (with_more m lane) ≡ with_more (m +ℤ n) lane
more_twice m n lane = ap (λ sum. record lane { sum = sum }) (int_wrap-add_left w128 (lane.sum +ℤ m) n ∙ ap (int_wrap w128) (+ℤ_assoc lane.sum m n))

more_wrapped : (n : ℤ) (lane : Lane) → with_more (int_wrap w128 n) lane ≡ with_more n lane
more_wrapped n lane = ap (λ sum. record lane { sum = sum }) (int_wrap-add_right w128 lane.sum n)

-- a factor that was wrapped
more_times : (m n : ℤ) (lane : Lane) → with_more (int_wrap w128 m *ℤ n) lane ≡ with_more (m *ℤ n) lane
more_times m n lane = sym (more_wrapped (int_wrap w128 m *ℤ n) lane) ∙ (ap (λ x. with_more x lane) (int_wrap-mul_left w128 m n) ∙ more_wrapped (m *ℤ n) lane)

-- ---- the numbers of a term, from those of what it is taken apart into

with_literal : (weight n : ℤ) (lane : Lane) → with_more (seen lane constant (int_wrap w128 (weight *ℤ n))) lane ≡ with_more (weight *ℤ seen lane constant n) lane
with_literal weight n lane = by_test (is_lane_of lane constant (part_mark constant))
  where
    by_test : (b : Bool) → with_more (if b then int_wrap w128 (weight *ℤ n) else pos 0) lane ≡ with_more (weight *ℤ (if b then n else pos 0)) lane
    by_test true = more_wrapped (weight *ℤ n) lane
    by_test false = ap (λ x. with_more x lane) (sym (*ℤ-zero weight))

with_atom : (weight : ℤ) (t : Term) (lane : Lane) → with_more (seen lane (atom t) weight) lane ≡ with_more (weight *ℤ seen lane (atom t) (pos 1)) lane
unfolding one
with_atom weight t lane = by_test (is_lane_of lane (atom t) (part_mark (atom t)))
  where
    once : (z : ℤ) → z ≡ z *ℤ pos 1
    once z = sym (*ℤ-one z)

    by_test : (b : Bool) → with_more (if b then weight else pos 0) lane ≡ with_more (weight *ℤ (if b then pos 1 else pos 0)) lane
    by_test true = ap (λ x. with_more x lane) (once weight)
    by_test false = ap (λ x. with_more x lane) (sym (*ℤ-zero weight))

with_sum : (weight : ℤ) (a b : Term) (lane : Lane) → with_form weight b (with_form weight a lane) ≡ with_more (weight *ℤ (seen_in lane a +ℤ seen_in lane b)) lane
with_sum weight a b lane = more_twice (weight *ℤ seen_in lane a) (weight *ℤ seen_in lane b) lane ∙ ap (λ x. with_more x lane) (sym (times-sum weight (seen_in lane a) (seen_in lane b)))

with_opposite : (weight : ℤ) (a : Term) (lane : Lane) → with_form (int_wrap w128 (neg_ℤ weight)) a lane ≡ with_more (weight *ℤ neg_ℤ (seen_in lane a)) lane
with_opposite weight a lane = more_times (neg_ℤ weight) (seen_in lane a) lane
    ∙ ap (λ x. with_more x lane) (opposite-times weight (seen_in lane a) ∙ sym (times-opposite weight (seen_in lane a)))

with_difference : (weight : ℤ) (a b : Term) (lane : Lane)
    → with_form (int_wrap w128 (neg_ℤ weight)) b (with_form weight a lane) ≡ with_more (weight *ℤ (seen_in lane a -ℤ seen_in lane b)) lane
with_difference weight a b lane = with_opposite weight b (with_form weight a lane)
    ∙ (more_twice (weight *ℤ seen_in lane a) (weight *ℤ neg_ℤ (seen_in lane b)) lane ∙ ap (λ x. with_more x lane) (sym (times-sum weight (seen_in lane a) (neg_ℤ (seen_in lane b)))))

with_multiple : (weight n : ℤ) (a : Term) (lane : Lane) → with_form (int_wrap w128 (weight *ℤ n)) a lane ≡ with_more (weight *ℤ (n *ℤ seen_in lane a)) lane
with_multiple weight n a lane = more_times (weight *ℤ n) (seen_in lane a) lane ∙ ap (λ x. with_more x lane) (times-times weight n (seen_in lane a))

-- ---- as the code adds them

-- the lanes after a literal's number is added, and after an atom's
pub added_literal : (w n v : ℤ) (t : Term) (xs ys : List Lane) → shape_of t ≡ literal n → v ≡ int_wrap w128 (w *ℤ n)
    → ys ≡ map (λ lane. with_more (seen lane constant v) lane) xs → ys ≡ map (with_form w t) xs
added_literal w n v t xs ys s e h = h ∙ mapped_alike _ (with_form w t) (λ lane.
    ap (λ x. with_more (seen lane constant x) lane) e ∙ (with_literal w n lane ∙ ap (λ x. with_more (w *ℤ x) lane) (sym (seen_is lane t (literal n) s)))) xs

pub added_atom : (w : ℤ) (t : Term) (xs ys : List Lane) → shape_of t ≡ whole
    → ys ≡ map (λ lane. with_more (seen lane (atom t) w) lane) xs → ys ≡ map (with_form w t) xs
added_atom w t xs ys s h = h ∙ mapped_alike _ (with_form w t) (λ lane. with_atom w t lane ∙ ap (λ x. with_more (w *ℤ x) lane) (sym (seen_is lane t whole s))) xs

-- those after the numbers of what a term is taken apart into
pub added_sum : (w : ℤ) (t a b : Term) (xs ys zs : List Lane) → shape_of t ≡ sum a b → ys ≡ map (with_form w a) xs → zs ≡ map (with_form w b) ys → zs ≡ map (with_form w t) xs
added_sum w t a b xs ys zs s h k = k ∙ (ap (map (with_form w b)) h ∙ mapped_twice (with_form w a) (with_form w b) (with_form w t) (λ lane.
    with_sum w a b lane ∙ ap (λ x. with_more (w *ℤ x) lane) (sym (seen_is lane t (sum a b) s))) xs)

pub added_difference : (w v : ℤ) (t a b : Term) (xs ys zs : List Lane) → shape_of t ≡ difference a b → v ≡ int_wrap w128 (neg_ℤ w)
    → ys ≡ map (with_form w a) xs → zs ≡ map (with_form v b) ys → zs ≡ map (with_form w t) xs
added_difference w v t a b xs ys zs s e h k = k ∙ ((λ i. map (with_form (e i) b) (h i)) ∙ mapped_twice (with_form w a) (with_form (int_wrap w128 (neg_ℤ w)) b) (with_form w t) (λ lane.
    with_difference w a b lane ∙ ap (λ x. with_more (w *ℤ x) lane) (sym (seen_is lane t (difference a b) s))) xs)

pub added_opposite : (w v : ℤ) (t a : Term) (xs ys : List Lane) → shape_of t ≡ opposite a → v ≡ int_wrap w128 (neg_ℤ w) → ys ≡ map (with_form v a) xs → ys ≡ map (with_form w t) xs
added_opposite w v t a xs ys s e h = h ∙ (ap (λ v. map (with_form v a) xs) e ∙ mapped_alike (with_form (int_wrap w128 (neg_ℤ w)) a) (with_form w t) (λ lane.
    with_opposite w a lane ∙ ap (λ x. with_more (w *ℤ x) lane) (sym (seen_is lane t (opposite a) s))) xs)

pub added_multiple : (w n v : ℤ) (t a : Term) (xs ys : List Lane) → shape_of t ≡ multiple n a → v ≡ int_wrap w128 (w *ℤ n) → ys ≡ map (with_form v a) xs → ys ≡ map (with_form w t) xs
added_multiple w n v t a xs ys s e h = h ∙ (ap (λ v. map (with_form v a) xs) e ∙ mapped_alike (with_form (int_wrap w128 (w *ℤ n)) a) (with_form w t) (λ lane.
    with_multiple w n a lane ∙ ap (λ x. with_more (w *ℤ x) lane) (sym (seen_is lane t (multiple n a) s))) xs)

pub added_fact : (w v u extra : ℤ) (a b : Term) (ks xs ys zs : List Lane) → v ≡ int_wrap w128 (neg_ℤ w) → u ≡ int_wrap w128 (w *ℤ extra)
    → xs ≡ map (with_form w a) ks → ys ≡ map (with_form v b) xs → zs ≡ map (λ lane. with_more (seen lane constant u) lane) ys
    → zs ≡ map (λ lane. with_more (w *ℤ (seen_in lane a -ℤ seen_in lane b +ℤ seen lane constant extra)) lane) ks
added_fact w v u extra a b ks xs ys zs ev eu h k l =
    let v' = int_wrap w128 (neg_ℤ w) in
    let u' = int_wrap w128 (w *ℤ extra) in
    let both = λ (lane : Lane). with_form v' b (with_form w a lane) in
    l ∙ ((λ i. map (λ lane. with_more (seen lane constant (eu i)) lane) ((k ∙ (λ i. map (with_form (ev i) b) (h i))) i))
    ∙ (ap (map (λ lane. with_more (seen lane constant u') lane)) (mapped_twice (with_form w a) (with_form v' b) both (λ lane. refl) ks)
    ∙ mapped_twice both (λ lane. with_more (seen lane constant u') lane) (λ lane. with_more (w *ℤ (seen_in lane a -ℤ seen_in lane b +ℤ seen lane constant extra)) lane) (λ lane.
    with_literal w extra (both lane) ∙ (ap (with_more (w *ℤ seen lane constant extra)) (with_difference w a b lane)
    ∙ (more_twice (w *ℤ (seen_in lane a -ℤ seen_in lane b)) (w *ℤ seen lane constant extra) lane
    ∙ ap (λ x. with_more x lane) (sym (times-sum w (seen_in lane a -ℤ seen_in lane b) (seen lane constant extra)))))) ks))
