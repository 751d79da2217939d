-- Tokens that are found lie in the source, and lines are no more than bytes.
use Rattle.std.proofs.Common.{arith, ◌≡◌, ℕ, zero, suc, ◌+◌, ◌-◌, ◌≤◌, List, [], ◌∷◌, All, length, max, Some, Bool, true, false, not, ◌&&◌, if◌then◌else◌, ap, subst, filter}
use Rattle.std.specs.Prelude.{slice_get, cond}
use Rattle.std.specs.Option.{option_map_or}
use Rattle.ada_tree.specs.Texts.{ends_line}
use Rattle.lex_ada.specs.Faults.{line_ends}
use Rattle.lex_ada.specs.Lexis.{is_return_before_feed}
use Rattle.text_read.specs.Faults.{ends_in_line_end, last_line}
use Rattle.std.proofs.lemmas.List.Elements.{All-head, All-tail}

-- what a filter keeps at a place is one of all
pub kept_at : {A : Type 0} (P : A → Type 0) (test : A → Bool) (xs : List A) (n : ℕ) (x : A) → All P xs → slice_get (filter test xs) n ≡ Some x → P x
kept_at P test [] n x h e = absurd (none n e)
  where
    none : (n : ℕ) → slice_get [] n ≡ Some x → ⊥
    none zero e = cc
    none (suc n) e = cc
kept_at {A = A} P test (y ∷ xs) n x h e = by (test y) n e (λ n. kept_at P test xs n x (All-tail P y xs h))
  where
    by : (b : Bool) (n : ℕ) → slice_get (cond b (y ∷ filter test xs) (filter test xs)) n ≡ Some x → ((n : ℕ) → slice_get (filter test xs) n ≡ Some x → P x) → P x
    by true zero e go = let z : y ≡ x = cc in subst P z (All-head P y xs h)
    by true (suc n) e go = go n e
    by false n e go = go n e

-- ---- lines

count_of : (b : Bool) (n : ℕ) → (if b then 1 else 0) + n ≤ 1 + n
count_of true n = omega arith
count_of false n = omega arith

-- a line more at most
last_of : (ended : Bool) (a b : ℕ) → a ≤ 1 + b → (if ended then a else suc a) ≤ 1 + (if ended then b else suc b)
last_of true a b h = omega (arith, h)
last_of false a b h = omega (arith, h)

last_of_one : (b c : Bool) → (if b then (if b && c then 1 else 0) + 0 else suc ((if b && c then 1 else 0) + 0)) ≤ 1
last_of_one true true = omega arith
last_of_one true false = omega arith
last_of_one false c = omega arith

-- there are no more lines than bytes, but for the one of the empty text
pub few_lines : (bytes : List ℕ) → last_line bytes ≤ max 1 (length bytes)
few_lines [] = omega arith
few_lines (b ∷ []) = let one = last_of_one (ends_line b) (not (is_return_before_feed b [])) in omega (arith, one)
few_lines (b ∷ c ∷ bytes) =
    let more = count_of (ends_line b && not (is_return_before_feed b (c ∷ bytes))) (line_ends (c ∷ bytes)) in
    let last = last_of (ends_in_line_end (c ∷ bytes)) (line_ends (b ∷ c ∷ bytes)) (line_ends (c ∷ bytes)) more in
    let rest = few_lines (c ∷ bytes) in
    let e : length (b ∷ c ∷ bytes) - 1 ≡ suc (length (c ∷ bytes) - 1) = omega arith in
    let same : last_line (b ∷ c ∷ bytes) ≡ (if ends_in_line_end (c ∷ bytes) then line_ends (b ∷ c ∷ bytes) else suc (line_ends (b ∷ c ∷ bytes))) =
    ap (λ n. if option_map_or ends_line (slice_get (b ∷ c ∷ bytes) n) false then line_ends (b ∷ c ∷ bytes) else suc (line_ends (b ∷ c ∷ bytes))) e in
    omega (arith, same, last, rest)
