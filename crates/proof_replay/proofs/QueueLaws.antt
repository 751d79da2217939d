-- The numbers left of each label: after one more, and after the first of a label was taken.
use mathlib.Core.List.{reverse-cons, reverse-append, reverse-reverse, append-nil}
use Rattle.std.proofs.Common.{◌≡◌, ℕ, ◌+◌, List, [], ◌∷◌, ◌++◌, map, filter, reverse, length, drop, Bool, true, false, not, cond, Option, Some, None, refl, ap, sym, ◌∙◌, append_assoc, length-append, ◌⊎◌, inl, inr}
use Rattle.std.proofs.Math.Seq.{drop-append_seam, drop-length}
use Rattle.std.proofs.iter.Yields.{fronts}
use Rattle.std.proofs.lemmas.Iterator.{zips}
use Rattle.std.proofs.lemmas.Slice.Zip.{Zip-more, either_empty_from_Zip}
use Rattle.std.specs.Cmp.{IsEquivalence}
use Rattle.std.specs.Iterator.Adapters.{zip_first, zip_second}
use Rattle.std.specs.Slice.Iter.{iter_rest}
use Rattle.std.specs.declared.iter.Zip.{Zip}
use Rattle.std.proofs.Common.{Iter, Bor}
use Rattle.std.specs.Map.{lookup, remove_entry}
use Rattle.std.specs.HashMap.{HashMap, get, Updates}
use Rattle.std.specs.Prelude.{Vec, option_to_list}
use Rattle.proof_replay.specs.Carrying.{is_taken, numbered_from, pass_over}
use Rattle.proof_replay.specs.Queues.{queue_of, numbers_of, Queued, left_from, fits_label, taken_by, left_by}

-- the first of a list, if any, and what follows it
abbrev pub first : List ℕ → Option ℕ
first [] = None
first (n ∷ ns) = Some n

abbrev pub rest : List ℕ → List ℕ
rest [] = []
rest (n ∷ ns) = ns

module _ {K : Type 0} (eq : K → K → Bool) where
  -- ---- one more in front

  pub reversed_more : (q label : K) (n : ℕ) (l : List (K × ℕ))
      → reverse (numbers_of eq q ((label, n) ∷ l)) ≡ cond (eq q label) (reverse (numbers_of eq q l) ++ n ∷ []) (reverse (numbers_of eq q l))
  reversed_more q label n l = by (eq q label)
    where
      by : (b : Bool) → reverse (map (λ e. e.1) (cond b ((label, n) ∷ filter (λ e. eq q e.0) l) (filter (λ e. eq q e.0) l)))
          ≡ cond b (reverse (numbers_of eq q l) ++ n ∷ []) (reverse (numbers_of eq q l))
      by true = reverse-cons n (numbers_of eq q l)
      by false = refl

  -- ---- the first of a label is taken

  pub first_number : (q : K) (l : List (K × ℕ)) → lookup (eq q) l ≡ first (numbers_of eq q l)
  first_number q [] = refl
  first_number q (e ∷ l) = by (eq q e.0) (first_number q l)
    where
      by : (b : Bool) → lookup (eq q) l ≡ first (numbers_of eq q l) → cond b (Some e.1) (lookup (eq q) l) ≡ first (map (λ e. e.1) (cond b (e ∷ filter (λ e. eq q e.0) l) (filter (λ e. eq q e.0) l)))
      by true ih = refl
      by false ih = ih

module _ {K : Type 0} {eq : K → K → Bool} (laws : IsEquivalence eq) where
  pub numbers_after : (q r : K) (l : List (K × ℕ)) → numbers_of eq r (remove_entry (eq q) l) ≡ cond (eq q r) (rest (numbers_of eq r l)) (numbers_of eq r l)
  numbers_after q r [] = by (eq q r)
    where
      by : (b : Bool) → ◌≡◌ {A = List ℕ} [] (cond b [] [])
      by true = refl
      by false = refl
  numbers_after q r (e ∷ l) = by (eq q e.0) (eq q r) refl refl (numbers_after q r l)
    where
      by : (a b : Bool) → eq q e.0 ≡ a → eq q r ≡ b → numbers_of eq r (remove_entry (eq q) l) ≡ cond b (rest (numbers_of eq r l)) (numbers_of eq r l)
          → numbers_of eq r (cond a l (e ∷ remove_entry (eq q) l)) ≡ cond b (rest (numbers_of eq r (e ∷ l))) (numbers_of eq r (e ∷ l))
      by true true p s ih = let f : eq r e.0 ≡ true = sym (laws.congr q r e.0 s) ∙ p in rw f refl
      by true false p s ih = let f : eq r e.0 ≡ false = laws.symm r e.0 ∙ (sym (laws.congr q e.0 r p) ∙ s) in rw f refl
      by false true p s ih = let f : eq r e.0 ≡ false = sym (laws.congr q r e.0 s) ∙ p in rw f ih
      by false false p s ih = other (eq r e.0)
        where
          other : (c : Bool) → map (λ e. e.1) (cond c (e ∷ filter (λ e. eq r e.0) (remove_entry (eq q) l)) (filter (λ e. eq r e.0) (remove_entry (eq q) l)))
              ≡ map (λ e. e.1) (cond c (e ∷ filter (λ e. eq r e.0) l) (filter (λ e. eq r e.0) l))
          other true = ap (λ ns. e.1 ∷ ns) ih
          other false = ih

-- ---- the queues in the map

pub queue_there : {A : Type 0} (v : Vec ℕ A) → queue_of (Some v) ≡ v.items
unfolding queue_of
queue_there v = refl

pub no_queue : (T : Type 0) → queue_of {A = T} None ≡ []
unfolding queue_of
no_queue T = refl

pub queued_as : {K S A : Type 0} (eq : K → K → Bool) (m : HashMap K (Vec ℕ A) S) (l r : List (K × ℕ)) → r ≡ l → Queued eq m l → Queued eq m r
queued_as eq m l r e h q = h q ∙ ap (λ x. reverse (numbers_of eq q x)) (sym e)

pub none_queued_at_first : {K S A : Type 0} (eq : K → K → Bool) (m : HashMap K (Vec ℕ A) S) → m.entries ≡ [] → Queued eq m []
none_queued_at_first {A = A} eq m e q = ap (λ es. queue_of (lookup (eq q) es)) e ∙ no_queue A

-- the last number leaves a queue
pub popped : {A : Type 0} (ns : List ℕ) (v w : Vec ℕ A) (r : Option ℕ) → v.items ≡ reverse ns → v.items ≡ w.items ++ option_to_list r → (r ≡ None → v.items ≡ [])
    → (r ≡ first ns) × (w.items ≡ reverse (rest ns))
popped ns v w (Some x) e f h =
    let back : ns ≡ x ∷ reverse w.items = sym (reverse-reverse ns) ∙ (ap reverse (sym e ∙ f) ∙ reverse-append w.items (x ∷ [])) in
    (sym (ap first back), sym (reverse-reverse w.items) ∙ sym (ap (λ l. reverse (rest l)) back))
popped ns v w None e f h =
    let none : ns ≡ [] = sym (reverse-reverse ns) ∙ ap reverse (sym e ∙ h refl) in
    let out : w.items ≡ [] = sym (append-nil w.items) ∙ (sym f ∙ h refl) in
    (sym (ap first none), out ∙ sym (ap (λ l. reverse (rest l)) none))

module _ {K : Type 0} {eq : K → K → Bool} (laws : IsEquivalence eq) where
  pub same_label : (label q : K) → eq label q ≡ true → eq label ≡ eq q
  same_label label q e i x = laws.congr label q x e i

module _ {K S A : Type 0} {eq : K → K → Bool} (laws : IsEquivalence eq) where
  -- one more in front
  queued_more : (m n : HashMap K (Vec ℕ A) S) (label : K) (number : ℕ) (queue : Vec ℕ A) (l : List (K × ℕ)) → Updates eq m n label (Some queue)
      → queue.items ≡ queue_of (get eq m label) ++ number ∷ [] → Queued eq m l → Queued eq n ((label, number) ∷ l)
  queued_more m n label number queue l u h old q = ap queue_of (u.0 q) ∙ (by (eq label q) refl ∙ sym (reversed_more eq q label number l))
    where
      by : (b : Bool) → eq label q ≡ b → queue_of (cond b (Some queue) (get eq m q)) ≡ cond (eq q label) (reverse (numbers_of eq q l) ++ number ∷ []) (reverse (numbers_of eq q l))
      by true e = rw (laws.symm q label ∙ e) (queue_there queue ∙ (h ∙ ap (λ ns. ns ++ number ∷ []) (old label ∙ ap (λ p. reverse (map (λ e. e.1) (filter (λ e. p e.0) l))) (same_label laws label q e))))
      by false e = rw (laws.symm q label ∙ e) (old q)

  -- one more in a queue, and the first in a new one
  pub queued_next : (m n : HashMap K (Vec ℕ A) S) (label : K) (number : ℕ) (v queue : Vec ℕ A) (l : List (K × ℕ)) → Some v ≡ get eq m label → Updates eq m n label (Some queue)
      → queue.items ≡ v.items ++ number ∷ [] → Queued eq m l → Queued eq n ((label, number) ∷ l)
  queued_next m n label number v queue l g u h old = queued_more m n label number queue l u (h ∙ ap (λ ns. ns ++ number ∷ []) (sym (queue_there v) ∙ ap queue_of g)) old

  pub queued_first : (m n : HashMap K (Vec ℕ A) S) (old : HashMap K (Vec ℕ A) S) (label : K) (number : ℕ) (queue : Vec ℕ A) (l : List (K × ℕ)) → m ≡ old → None ≡ get eq old label
      → Updates eq m n label (Some queue) → queue.items ≡ number ∷ [] → Queued eq old l → Queued eq n ((label, number) ∷ l)
  queued_first m n old label number queue l same g u h before =
      queued_more m n label number queue l u (h ∙ ap (λ ns. ns ++ number ∷ []) (sym (ap (λ x. queue_of (get eq x label)) same ∙ (ap queue_of (sym g) ∙ no_queue A))))
      (λ q. ap (λ x. queue_of (get eq x q)) same ∙ before q)

  -- the first of a label is taken
  pub queued_less : (m n : HashMap K (Vec ℕ A) S) (label : K) (v w : Vec ℕ A) (r : Option ℕ) (l : List (K × ℕ)) → Some v ≡ get eq m label → Updates eq m n label (Some w)
      → v.items ≡ w.items ++ option_to_list r → (r ≡ None → v.items ≡ []) → Queued eq m l → (r ≡ lookup (eq label) l) × Queued eq n (remove_entry (eq label) l)
  queued_less m n label v w r l g u f h old =
      let step : (r ≡ first (numbers_of eq label l)) × (w.items ≡ reverse (rest (numbers_of eq label l))) =
      popped (numbers_of eq label l) v w r (sym (queue_there v) ∙ (ap queue_of g ∙ old label)) f h in
      (step.0 ∙ sym (first_number eq label l), λ q. ap queue_of (u.0 q) ∙ by q step.1 (eq label q) refl)
    where
      by : (q : K) → w.items ≡ reverse (rest (numbers_of eq label l)) → (b : Bool) → eq label q ≡ b
          → queue_of (cond b (Some w) (get eq m q)) ≡ reverse (numbers_of eq q (remove_entry (eq label) l))
      by q out true e = queue_there w ∙ (out ∙ ap reverse (ap (λ p. rest (map (λ e. e.1) (filter (λ e. p e.0) l))) (same_label laws label q e)
          ∙ sym (numbers_after laws label q l ∙ ap (λ b. cond b (rest (numbers_of eq q l)) (numbers_of eq q l)) e)))
      by q out false e = old q ∙ ap reverse (sym (numbers_after laws label q l ∙ ap (λ b. cond b (rest (numbers_of eq q l)) (numbers_of eq q l)) e))

  -- no queue: nothing of the label is left
  none_queued : (m : HashMap K (Vec ℕ A) S) (label : K) (l : List (K × ℕ)) → get eq m label ≡ None → Queued eq m l
      → (◌≡◌ {A = Option ℕ} None (lookup (eq label) l)) × Queued eq m (remove_entry (eq label) l)
  none_queued m label l g old =
      let none : numbers_of eq label l ≡ [] = sym (reverse-reverse (numbers_of eq label l)) ∙ ap reverse (sym (old label) ∙ (ap queue_of g ∙ no_queue A)) in
      (sym (first_number eq label l ∙ ap first none), λ q. old q ∙ ap reverse (by q none (eq label q) refl))
    where
      by : (q : K) → numbers_of eq label l ≡ [] → (b : Bool) → eq label q ≡ b → numbers_of eq q l ≡ numbers_of eq q (remove_entry (eq label) l)
      by q none true e =
          let same : numbers_of eq label l ≡ numbers_of eq q l = ap (λ p. map (λ e. e.1) (filter (λ e. p e.0) l)) (same_label laws label q e) in
          (sym same ∙ (none ∙ ap rest (sym (sym same ∙ none)))) ∙ sym (numbers_after laws label q l ∙ ap (λ b. cond b (rest (numbers_of eq q l)) (numbers_of eq q l)) e)
      by q none false e = sym (numbers_after laws label q l ∙ ap (λ b. cond b (rest (numbers_of eq q l)) (numbers_of eq q l)) e)

  pub stays_queued : (m old : HashMap K (Vec ℕ A) S) (label : K) (r : Option ℕ) (l : List (K × ℕ)) → m ≡ old → None ≡ get eq old label → r ≡ None → Queued eq old l
      → (r ≡ lookup (eq label) l) × Queued eq m (remove_entry (eq label) l)
  stays_queued m old label r l same g none before =
      let step = none_queued m label l (ap (λ x. get eq x label) same ∙ sym g) (λ q. ap (λ x. queue_of (get eq x q)) same ∙ before q) in
      (none ∙ step.0, step.1)

-- ---- from the end of a list on

module _ {K : Type 0} where
  -- the list ends with a label, which is the next: it is left, unless it is taken
  pub one_before : (whole rest : List K) (label : K) (all : List K) → whole ≡ rest ++ label ∷ [] → all ≡ whole ++ drop (length whole) all
      → (all ≡ rest ++ drop (length rest) all)
      × ((t : List (Option ℕ)) (b : Bool) → is_taken t (length rest) ≡ b
      → left_from (length rest) t all ≡ cond (not b) ((label, length rest) ∷ left_from (length whole) t all) (left_from (length whole) t all))
  one_before whole rest label all w e =
      let joined : all ≡ rest ++ (label ∷ drop (length whole) all) = e ∙ (ap (λ l. l ++ drop (length whole) all) w ∙ append_assoc rest (label ∷ []) (drop (length whole) all)) in
      let after : drop (length rest) all ≡ label ∷ drop (length whole) all = ap (drop (length rest)) joined ∙ drop-append_seam rest (label ∷ drop (length whole) all) in
      let long : length rest + 1 ≡ length whole = sym (ap length w ∙ length-append rest (label ∷ [])) in (
        joined ∙ ap (λ d. rest ++ d) (sym after),
        λ t b taken. ap (λ ls. filter (λ e. not (is_taken t e.1)) (numbered_from (length rest) ls)) after
            ∙ (ap (λ n. filter (λ e. not (is_taken t e.1)) ((label, length rest) ∷ numbered_from n (drop (length whole) all))) long
            ∙ ap (λ b. cond (not b) ((label, length rest) ∷ left_from (length whole) t all) (left_from (length whole) t all)) taken),
      )

  -- nothing stands after the end
  pub at_the_end : (all : List K) → (all ≡ all ++ drop (length all) all) × ((t : List (Option ℕ)) → left_from (length all) t all ≡ [])
  at_the_end all = (
    sym (append-nil all) ∙ ap (λ d. all ++ d) (sym (drop-length all)),
    λ t. ap (λ ls. filter (λ e. not (is_taken t e.1)) (numbered_from (length all) ls)) (drop-length all),
  )

-- ---- nothing is looked for

pub none_found : {K : Type 0} (l : List (K × ℕ)) → (◌≡◌ {A = Option ℕ} None (lookup (λ k. false) l)) × (l ≡ remove_entry (λ k. false) l)
none_found [] = (refl, refl)
none_found (e ∷ l) = ((none_found l).0, ap (λ r. e ∷ r) (none_found l).1)

-- ---- a pass

module _ {K : Type 0} (eq : K → K → Bool) where
  next_of_pass : (w : Option K) (ws : List (Option K)) (b : Option ℕ) (bs : List (Option ℕ)) (left : List (K × ℕ))
      → pass_over (fits_label eq) (w ∷ ws) (b ∷ bs) left ≡ taken_by eq w b left ∷ pass_over (fits_label eq) ws bs (left_by eq w b left)
  next_of_pass w ws (Some j) bs left = refl
  next_of_pass w ws None bs left = refl

  passed_more : (takes more all : List (Option ℕ)) (w : Option K) (ws rest : List (Option K)) (b : Option ℕ) (bs others : List (Option ℕ)) (left : List (K × ℕ)) (r : Option ℕ)
      → ws ≡ w ∷ rest → bs ≡ b ∷ others → r ≡ taken_by eq w b left → more ≡ takes ++ r ∷ [] → takes ++ pass_over (fits_label eq) ws bs left ≡ all
      → more ++ pass_over (fits_label eq) rest others (left_by eq w b left) ≡ all
  passed_more takes more all w ws rest b bs others left r e f t m h =
      let after = pass_over (fits_label eq) rest others (left_by eq w b left) in
      ap (λ l. l ++ after) m ∙ (append_assoc takes (r ∷ []) after ∙ (ap (λ x. takes ++ (x ∷ after)) t ∙ (ap (λ l. takes ++ l) (sym (next_of_pass w rest b others left))
      ∙ ((λ i. takes ++ pass_over (fits_label eq) (sym e i) (sym f i) left) ∙ h))))

  none_after : (ws : List (Option K)) (bs : List (Option ℕ)) (left : List (K × ℕ)) → (ws ≡ []) ⊎ (bs ≡ []) → pass_over (fits_label eq) ws bs left ≡ []
  none_after [] bs left h = refl
  none_after (w ∷ ws) [] left h = refl
  none_after (w ∷ ws) (b ∷ bs) left (inl e) = cc
  none_after (w ∷ ws) (b ∷ bs) left (inr e) = cc

  passed_all : (takes all : List (Option ℕ)) (ws : List (Option K)) (bs : List (Option ℕ)) (left : List (K × ℕ)) → (ws ≡ []) ⊎ (bs ≡ [])
      → takes ++ pass_over (fits_label eq) ws bs left ≡ all → takes ≡ all
  passed_all takes all ws bs left h e = sym (append-nil takes) ∙ (ap (λ l. takes ++ l) (sym (none_after ws bs left h)) ∙ e)

  -- a pass in pairs: a turn, and the end
  pub passed_turn : (takes more all : List (Option ℕ)) (s t : Zip (Iter (Option K)) (Iter (Option ℕ))) (r : Option (Bor (Option K) × Bor (Option ℕ))) (p : Bor (Option K) × Bor (Option ℕ))
      (left : List (K × ℕ)) (x : Option ℕ) → r ≡ Some p → zips fronts fronts s r t → x ≡ taken_by eq p.0.now p.1.now left → more ≡ takes ++ x ∷ []
      → takes ++ pass_over (fits_label eq) (iter_rest (zip_first s)) (iter_rest (zip_second s)) left ≡ all
      → more ++ pass_over (fits_label eq) (iter_rest (zip_first t)) (iter_rest (zip_second t)) (left_by eq p.0.now p.1.now left) ≡ all
  passed_turn takes more all s t r p left x e z u m h =
      let zip = Zip-more s t r p e z in
      passed_more takes more all p.0.now (iter_rest (zip_first s)) (iter_rest (zip_first t)) p.1.now (iter_rest (zip_second s)) (iter_rest (zip_second t)) left x zip.0 zip.1 u m h

  pub passed_end : (takes all : List (Option ℕ)) (s t : Zip (Iter (Option K)) (Iter (Option ℕ))) (r : Option (Bor (Option K) × Bor (Option ℕ))) (left : List (K × ℕ))
      → r ≡ None → zips fronts fronts s r t → takes ++ pass_over (fits_label eq) (iter_rest (zip_first s)) (iter_rest (zip_second s)) left ≡ all → takes ≡ all
  passed_end takes all s t r left e z h = passed_all takes all (iter_rest (zip_first s)) (iter_rest (zip_second s)) left (either_empty_from_Zip s t r e z) h
