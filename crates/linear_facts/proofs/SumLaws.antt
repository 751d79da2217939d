-- What lanes hold in the end: the weighted sums.
use Rattle.std.proofs.Common.{◌≡◌, ℤ, pos, negsuc, ◌+ℤ◌, ◌-ℤ◌, ◌*ℤ◌, neg_ℤ, List, [], ◌∷◌, map, Bool, true, false, ◌&&◌, ◌||◌, if◌then◌else◌, Option, Some, None, eqb, eq-eqb, refl, sym, ◌∙◌, ap, arith, length, get_or}
use Rattle.std.specs.Prelude.{is_some}
use Rattle.std.specs.Option.{option_map, option_and_then}
use Rattle.std.specs.Int.{int_wrap}
use Rattle.std.specs.List.{All, list_all, refill}
use Rattle.std.proofs.lemmas.Grind.{common_steps}
use Rattle.std.proofs.lemmas.List.{length-map}
use Rattle.std.proofs.lemmas.List.Elements.{All-head, All-tail, All-cons, All-nil}
use Rattle.std.proofs.lemmas.List.Folds.{list_all-map}
use Rattle.std.specs.Ordering.{int_eq}
use Rattle.std.proofs.lemmas.Int.{int_wrap-add_left}
use Rattle.std.proofs.Math.IntN.{+ℤ_assoc, +ℤ_idl, +ℤ_idr}
use mir.Syntax.{w128}
use Rattle.term_core.specs.contracts.term.Term as term
use Rattle.term_core.specs.declared.term.Term.{Term}
use Rattle.base_kit.specs.Sameness.{same_decides}
use Rattle.linear_facts.specs.declared.lanes.Lane.{Lane}
use Rattle.linear_facts.specs.declared.lanes.Part as parts
use Rattle.linear_facts.specs.Closing.{total}
use Rattle.linear_facts.specs.Facts.{Fact, at_most, below, equal_to, form_of, left_of, right_of, extra_of}
use Rattle.linear_facts.specs.Forms.{Shape, literal, sum, difference, opposite, multiple, whole, shape_of, within_shape, Part, atom, constant, number, once, form_by, form}
use Rattle.linear_facts.specs.Views.{part_behind}
use Rattle.linear_facts.specs.Asked.{fit_at, is_right}
use Rattle.linear_facts.specs.Lanes.{same_part, part_mark, is_lane_of, seen, seen_by, seen_in, with_fact, with_weights, IsFresh}
use Rattle.linear_facts.specs.Numbers.{small, small_of, number_by, number_at, fact_size, fact_number_at, small_lists, part_numbers, scaled_numbers, lane_numbers_by, lane_numbers, differences_fit, each_fits, fits_each, fits_parts}
use Rattle.term_core.specs.Options.{all_some}
use Rattle.linear_facts.proofs.Integers.{minus_one}
use Rattle.linear_facts.proofs.NumberLaws.{all_there, pairs_of_all, scaled_all, all_fit}
use Rattle.linear_facts.proofs.ShapeLaws.{Every, EachPart, over_is, by_shape}

-- ---- a lane whose mark is right sees its part alone

pub same_part_is : (p q : Part) → same_part p q ≡ true → p ≡ q
same_part_is (atom t) (atom u) e = ap atom ((same_decides term.the_row.coded t u).0 e)
same_part_is constant constant e = refl
same_part_is (atom t) constant e = absurd cc
same_part_is constant (atom u) e = absurd cc

abbrev pub IsMarked : Lane → Type 0
IsMarked lane = lane.mark ≡ part_mark (part_behind lane.part)

sees : (lane : Lane) (q : Part) → IsMarked lane → is_lane_of lane q (part_mark q) ≡ same_part q (part_behind lane.part)
sees lane q m = by_test (same_part q (part_behind lane.part)) refl
  where
    by_mark : (b : Bool) → (b && false) ≡ false
    by_mark true = refl
    by_mark false = refl

    by_test : (b : Bool) → same_part q (part_behind lane.part) ≡ b → is_lane_of lane q (part_mark q) ≡ b
    by_test true e = (λ i. eq-eqb lane.mark (part_mark q) (m ∙ ap part_mark (sym (same_part_is q (part_behind lane.part) e))) i && e i)
    by_test false e = ap (λ b. eqb lane.mark (part_mark q) && b) e ∙ by_mark (eqb lane.mark (part_mark q))

sees_number : (lane : Lane) (n : ℤ) → IsMarked lane → seen lane constant n ≡ number n (part_behind lane.part)
sees_number lane n m = ap (λ b. if b then n else pos 0) (sees lane constant m) ∙ by_part (part_behind lane.part)
  where
    by_part : (p : Part) → (if same_part constant p then n else pos 0) ≡ number n p
    by_part (atom t) = refl
    by_part constant = refl

pub once_is : (t : Term) (p : Part) → (if same_part (atom t) p then pos 1 else pos 0) ≡ once t p
once_is t (atom u) = refl
once_is t constant = refl

sees_atom : (lane : Lane) (t : Term) → IsMarked lane → seen lane (atom t) (pos 1) ≡ once t (part_behind lane.part)
sees_atom lane t m = ap (λ b. if b then pos 1 else pos 0) (sees lane (atom t) m) ∙ once_is t (part_behind lane.part)

-- the equation of forms
pub form_is : (t : Term) (p : Part) → form t p ≡ form_by t (within_shape form (shape_of t)) p
form_is t p = ap (λ f. f p) (over_is form_by t)

sees_form : (lane : Lane) → IsMarked lane → (t : Term) → seen_in lane t ≡ form t (part_behind lane.part)
sees_form lane m = by_shape (λ t. seen_in lane t ≡ form t (part_behind lane.part)) (λ t h. over_is (seen_by lane) t ∙ (at t (shape_of t) h ∙ sym (form_is t (part_behind lane.part))))
  where
    at : (t : Term) (s : Shape Term) → EachPart (λ t. seen_in lane t ≡ form t (part_behind lane.part)) s
        → seen_by lane t (within_shape (seen_in lane) s) ≡ form_by t (within_shape form s) (part_behind lane.part)
    at t (literal n) h = sees_number lane n m
    at t (sum a b) h = λ i. h.0 i +ℤ h.1 i
    at t (difference a b) h = λ i. h.0 i -ℤ h.1 i
    at t (opposite a) h = ap neg_ℤ h
    at t (multiple n a) h = ap (λ x. n *ℤ x) h
    at t whole h = sees_atom lane t m

none_more : (z : ℤ) (p : Part) → z +ℤ number (pos 0) p ≡ z
none_more z (atom t) = +ℤ_idr z
none_more z constant = +ℤ_idr z

pub fact_form : (fact : Fact) (p : Part) → form (left_of fact) p -ℤ form (right_of fact) p +ℤ number (extra_of fact) p ≡ form_of fact p
fact_form (at_most a b) p = none_more (form a p -ℤ form b p) p
fact_form (below a b) p = refl
fact_form (equal_to a b) p = none_more (form a p -ℤ form b p) p

-- ---- after all weights

abbrev part_of : Lane → Part
part_of lane = part_behind lane.part

same_lane : (ws : List (ℤ × Fact)) (lane : Lane) → part_of (with_weights ws lane) ≡ part_of lane
same_lane [] lane = refl
same_lane (w ∷ ws) lane = same_lane ws (with_fact w.0 w.1 lane)

one_fact : (c : ℤ) (fact : Fact) (lane : Lane) (x : ℤ) → IsMarked lane → lane.sum ≡ int_wrap w128 x
    → (with_fact c fact lane).sum ≡ int_wrap w128 (x +ℤ c *ℤ form_of fact (part_of lane))
one_fact c fact lane x m e =
    let seen_fact = (λ i. sees_form lane m (left_of fact) i -ℤ sees_form lane m (right_of fact) i +ℤ sees_number lane (extra_of fact) m i) ∙ fact_form fact (part_of lane) in
    (λ i. int_wrap w128 (e i +ℤ c *ℤ seen_fact i)) ∙ int_wrap-add_left w128 x (c *ℤ form_of fact (part_of lane))

all_facts : (ws : List (ℤ × Fact)) (lane : Lane) (x : ℤ) → IsMarked lane → lane.sum ≡ int_wrap w128 x → (with_weights ws lane).sum ≡ int_wrap w128 (x +ℤ total ws (part_of lane))
all_facts [] lane x m e = e ∙ ap (int_wrap w128) (sym (none_more x (part_of lane)))
all_facts (w ∷ ws) lane x m e = all_facts ws (with_fact w.0 w.1 lane) (x +ℤ w.0 *ℤ form_of w.1 (part_of lane)) m (one_fact w.0 w.1 lane x m e)
    ∙ ap (int_wrap w128) (+ℤ_assoc x (w.0 *ℤ form_of w.1 (part_of lane)) (total ws (part_of lane)))

pub fresh_total : (ws : List (ℤ × Fact)) (lane : Lane) → IsFresh lane → (with_weights ws lane).sum ≡ int_wrap w128 (total ws (part_of lane))
unfolding int_wrap
fresh_total ws lane fresh = all_facts ws lane (pos 0) fresh.mark fresh.sum ∙ ap (int_wrap w128) (+ℤ_idl (total ws (part_of lane)))

-- ---- the exact numbers of lanes

-- parts that are given a number
given_parts : (lane : Lane) (lanes : List Lane) (q : Part) (o : Option ℤ) (g : ℤ → Part → ℤ) → ((lane : Lane) (n : ℤ) → IsMarked lane → seen lane q n ≡ g n (part_of lane)) → Every IsMarked (lane ∷ lanes)
    → part_numbers (lane ∷ lanes) q o ≡ all_some (map (λ lane. option_map (λ n. g n (part_of lane)) o) (lane ∷ lanes))
given_parts lane lanes q None g e m = refl
given_parts lane lanes q (Some n) g e m = ap Some (all_seen (lane ∷ lanes) m) ∙ sym (all_there (λ lane. g n (part_of lane)) (lane ∷ lanes))
  where
    all_seen : (lanes : List Lane) → Every IsMarked lanes → map (λ lane. seen lane q n) lanes ≡ map (λ lane. g n (part_of lane)) lanes
    all_seen [] m = refl
    all_seen (lane ∷ lanes) m = λ i. e lane n m.0 i ∷ all_seen lanes m.1 i

minus : (y : ℤ) → negsuc 0 *ℤ y ≡ pos 0 -ℤ y
minus y = minus_one y ∙ sym (+ℤ_idl (neg_ℤ y))

scaled_lanes : (lane : Lane) (lanes : List Lane) (o : Option ℤ) (F : Lane → Option ℤ) → scaled_numbers o (all_some (map F (lane ∷ lanes))) ≡ all_some (map (λ lane. small_of ◌*ℤ◌ o (F lane)) (lane ∷ lanes))
scaled_lanes lane lanes None F = refl
scaled_lanes lane lanes (Some n) F = scaled_all n F (lane ∷ lanes)

lane_numbers_are : (lane : Lane) (lanes : List Lane) → Every IsMarked (lane ∷ lanes) → (t : Term) → lane_numbers (lane ∷ lanes) t ≡ all_some (map (λ lane. number_at (part_of lane) t) (lane ∷ lanes))
lane_numbers_are lane lanes m = by_shape (λ t. lane_numbers (lane ∷ lanes) t ≡ all_some (map (λ lane. number_at (part_of lane) t) (lane ∷ lanes))) (λ t h.
    over_is (lane_numbers_by (lane ∷ lanes)) t ∙ (at t (shape_of t) h ∙ sym (λ i. all_some (map (λ lane. over_is (number_by (part_of lane)) t i) (lane ∷ lanes)))))
  where
    at : (t : Term) (s : Shape Term) → EachPart (λ t. lane_numbers (lane ∷ lanes) t ≡ all_some (map (λ lane. number_at (part_of lane) t) (lane ∷ lanes))) s
        → lane_numbers_by (lane ∷ lanes) t (within_shape (lane_numbers (lane ∷ lanes)) s) ≡ all_some (map (λ lane. number_by (part_of lane) t (within_shape (number_at (part_of lane)) s)) (lane ∷ lanes))
    at t (literal n) h = given_parts lane lanes constant (small n) number sees_number m
    at t (sum a b) h = (λ i. small_lists ◌+ℤ◌ (h.0 i) (h.1 i)) ∙ pairs_of_all ◌+ℤ◌ (λ lane. number_at (part_of lane) a) (λ lane. number_at (part_of lane) b) (lane ∷ lanes)
    at t (difference a b) h = (λ i. small_lists ◌-ℤ◌ (h.0 i) (h.1 i)) ∙ pairs_of_all ◌-ℤ◌ (λ lane. number_at (part_of lane) a) (λ lane. number_at (part_of lane) b) (lane ∷ lanes)
    at t (opposite a) h = ap (scaled_numbers (Some (negsuc 0))) h ∙ (scaled_lanes lane lanes (Some (negsuc 0)) (λ lane. number_at (part_of lane) a)
        ∙ (λ i. all_some (map (λ lane. option_and_then (λ y. small (minus y i)) (number_at (part_of lane) a)) (lane ∷ lanes))))
    at t (multiple n a) h = ap (scaled_numbers (small n)) h ∙ scaled_lanes lane lanes (small n) (λ lane. number_at (part_of lane) a)
    at t whole h = given_parts lane lanes (atom t) (Some (pos 1)) (λ n p. if same_part (atom t) p then n else pos 0) (λ lane n k. ap (λ b. if b then n else pos 0) (sees lane (atom t) k)) m

pub each_fits_is : (lanes : List Lane) → Every IsMarked lanes → (fact : Fact) → each_fits lanes fact ≡ list_all (λ lane. is_some (fact_number_at (part_of lane) fact)) lanes
each_fits_is [] m fact = refl
each_fits_is (lane ∷ lanes) m fact =
    (λ i. differences_fit (lane_numbers_are lane lanes m (left_of fact) i) (lane_numbers_are lane lanes m (right_of fact) i)
    ((given_parts lane lanes constant (Some (extra_of fact)) number sees_number m ∙ all_there (λ lane. number (extra_of fact) (part_of lane)) (lane ∷ lanes)) i))
    ∙ all_fit (λ lane. number_at (part_of lane) (left_of fact)) (λ lane. number_at (part_of lane) (right_of fact)) (λ lane. number (extra_of fact) (part_of lane)) (lane ∷ lanes)

-- lanes stay marked
stays_marked : (ws : List (ℤ × Fact)) (lane : Lane) → IsMarked lane → IsMarked (with_weights ws lane)
stays_marked [] lane m = m
stays_marked (w ∷ ws) lane m = stays_marked ws (with_fact w.0 w.1 lane) m

all_marked : (ws : List (ℤ × Fact)) (lanes : List Lane) → All IsFresh lanes → Every IsMarked (map (with_weights ws) lanes)
all_marked ws [] h = tt
all_marked ws (lane ∷ lanes) h = (stays_marked ws lane (All-head IsFresh lane lanes h).mark, all_marked ws lanes (All-tail IsFresh lane lanes h))

fits_as_parts : (ws : List (ℤ × Fact)) (lanes : List Lane) → Every IsMarked lanes → list_all (λ w. fits_each lanes w.1) ws ≡ list_all (λ w. fits_parts lanes w.1) ws
fits_as_parts [] lanes m = refl
fits_as_parts (w ∷ ws) lanes m = λ i. (is_some (fact_size w.1) || each_fits_is lanes m w.1 i) && fits_as_parts ws lanes m i

-- ---- many lanes

all_true : {A : Type 0} (f : A → Bool) → ((x : A) → f x ≡ true) → (xs : List A) → list_all f xs ≡ true
all_true f e [] = refl
all_true f e (x ∷ xs) = λ i. e x i && all_true f e xs i

all_alike : {A : Type 0} (f g : A → Bool) → ((x : A) → f x ≡ g x) → (xs : List A) → list_all f xs ≡ list_all g xs
all_alike f g e [] = refl
all_alike f g e (x ∷ xs) = λ i. e x i && all_alike f g e xs i

crossed : (a b c d : Bool) → ((a && b) && (c && d)) ≡ ((a && c) && (b && d))
crossed true true c d = by_test c
  where
    by_test : (c : Bool) → (c && d) ≡ (c && d)
    by_test c = refl
crossed true false true d = refl
crossed true false false d = refl
crossed false b c d = refl

all_both : {A : Type 0} (f g : A → Bool) (xs : List A) → list_all (λ x. f x && g x) xs ≡ (list_all f xs && list_all g xs)
all_both f g [] = refl
all_both f g (x ∷ xs) = ap (λ b. (f x && g x) && b) (all_both f g xs) ∙ crossed (f x) (g x) (list_all f xs) (list_all g xs)

or_true : (a : Bool) → (a || true) ≡ true
or_true true = refl
or_true false = refl

or_and : (a b c : Bool) → (a || (b && c)) ≡ ((a || b) && (a || c))
or_and true b c = refl
or_and false b c = refl

-- the facts fit each lane exactly where each lane's part is within its bounds
fit_parts : (ws vs : List (ℤ × Fact)) (lanes : List Lane) → list_all (λ w. fits_parts (map (with_weights vs) lanes) w.1) ws ≡ list_all (λ lane. fit_at ws (part_of lane)) lanes
fit_parts ws vs [] = all_true (λ w. is_some (fact_size w.1) || true) (λ w. or_true (is_some (fact_size w.1))) ws
fit_parts ws vs (lane ∷ lanes) =
    let here = λ (w : ℤ × Fact). is_some (fact_size w.1) || is_some (fact_number_at (part_of (with_weights vs lane)) w.1) in
    let there = λ (w : ℤ × Fact). fits_parts (map (with_weights vs) lanes) w.1 in
    all_alike (λ w. fits_parts (map (with_weights vs) (lane ∷ lanes)) w.1) (λ w. here w && there w)
    (λ w. or_and (is_some (fact_size w.1)) (is_some (fact_number_at (part_of (with_weights vs lane)) w.1)) (list_all (λ lane. is_some (fact_number_at (part_of lane) w.1)) (map (with_weights vs) lanes))) ws
    ∙ (all_both here there ws ∙ (λ i. fit_at ws (same_lane vs lane i) && fit_parts ws vs lanes i))

pub fit_lanes : (ws vs : List (ℤ × Fact)) (lanes : List Lane) → All IsFresh lanes → list_all (λ w. fits_each (map (with_weights vs) lanes) w.1) ws ≡ list_all (λ lane. fit_at ws (part_of lane)) lanes
fit_lanes ws vs lanes fresh = fits_as_parts ws (map (with_weights vs) lanes) (all_marked vs lanes fresh) ∙ fit_parts ws vs lanes

-- and with sums of 0, exactly where each lane's part is right
pub right_lanes : (ws : List (ℤ × Fact)) (lanes : List Lane) → All IsFresh lanes
    → (list_all (λ w. fits_each (map (with_weights ws) lanes) w.1) ws && list_all (λ lane. int_eq lane.sum (pos 0)) (map (with_weights ws) lanes)) ≡ list_all (λ lane. is_right ws (part_of lane)) lanes
right_lanes ws lanes fresh = ap (λ b. b && list_all (λ lane. int_eq lane.sum (pos 0)) (map (with_weights ws) lanes)) (fit_lanes ws ws lanes fresh)
    ∙ ((λ i. list_all (λ lane. fit_at ws (part_of lane)) lanes && sums lanes fresh i)
    ∙ sym (all_both (λ lane. fit_at ws (part_of lane)) (λ lane. int_eq (int_wrap w128 (total ws (part_of lane))) (pos 0)) lanes))
  where
    sums : (lanes : List Lane) → All IsFresh lanes → list_all (λ lane. int_eq lane.sum (pos 0)) (map (with_weights ws) lanes) ≡ list_all (λ lane. int_eq (int_wrap w128 (total ws (part_of lane))) (pos 0)) lanes
    sums [] h = refl
    sums (lane ∷ lanes) h = λ i. int_eq (fresh_total ws lane (All-head IsFresh lane lanes h) i) (pos 0) && sums lanes (All-tail IsFresh lane lanes h) i

-- ---- as the code has them

refilled : (xs ys : List Lane) → length ys ≡ length xs → refill (length xs) xs ys ≡ ys
refilled xs ys e = grind (arith, common_steps)

-- all lanes, written back where they were made
pub written_back : (ws : List (ℤ × Fact)) (lanes more : List Lane) → more ≡ map (with_weights ws) lanes → refill (length lanes) lanes more ≡ map (with_weights ws) lanes
written_back ws lanes more e = refilled lanes more (ap length e ∙ length-map lanes (with_weights ws)) ∙ e

pub right_parts : (ws : List (ℤ × Fact)) (lanes done : List Lane) (parts : List parts.Part) (fit zero : Bool) → All IsFresh lanes → map (λ lane. lane.part) lanes ≡ parts
    → done ≡ map (with_weights ws) lanes → fit ≡ list_all (λ w. fits_each done w.1) ws → zero ≡ list_all (λ lane. int_eq lane.sum (pos 0)) done
    → (fit && zero) ≡ list_all (λ part. is_right ws (part_behind part)) parts
right_parts ws lanes done parts fit zero fresh e d f z = (λ i. f i && z i)
    ∙ ((λ i. list_all (λ w. fits_each (d i) w.1) ws && list_all (λ lane. int_eq lane.sum (pos 0)) (d i))
    ∙ (right_lanes ws lanes fresh ∙ (sym (list_all-map (λ part. is_right ws (part_behind part)) (λ lane. lane.part) lanes) ∙ ap (list_all (λ part. is_right ws (part_behind part))) e)))

-- the one lane of the constant
pub constant_fits : (ws : List (ℤ × Fact)) (lane : Lane) (done : List Lane) (fit : Bool) → part_behind lane.part ≡ constant → IsFresh lane → done ≡ map (with_weights ws) (lane ∷ [])
    → fit ≡ list_all (λ w. fits_each done w.1) ws → fit ≡ fit_at ws constant
constant_fits ws lane done fit e fresh d f = f ∙ (ap (λ done. list_all (λ w. fits_each done w.1) ws) d ∙ (fit_lanes ws ws (lane ∷ []) (All-cons IsFresh lane [] fresh (All-nil IsFresh)) ∙ (and_true (fit_at ws (part_of lane)) ∙ ap (fit_at ws) e)))
  where
    and_true : (b : Bool) → (b && true) ≡ b
    and_true true = refl
    and_true false = refl

pub constant_sum : (ws : List (ℤ × Fact)) (lane : Lane) (done : List Lane) (d : Lane) → part_behind lane.part ≡ constant → IsFresh lane → done ≡ map (with_weights ws) (lane ∷ [])
    → (get_or done 0 d).sum ≡ int_wrap w128 (total ws constant)
constant_sum ws lane done d e fresh is = ap (λ lanes. (get_or lanes 0 d).sum) is ∙ (fresh_total ws lane fresh ∙ ap (λ p. int_wrap w128 (total ws p)) e)
