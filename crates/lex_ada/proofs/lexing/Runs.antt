-- How far a name or a word, and a number, goes.
use Rattle.std.proofs.Common.{◌≡◌, ◌≤◌, ◌<◌, ℕ, suc, ◌+◌, List, [], ◌∷◌, ◌++◌, length, Bool, true, false, not, cond, refl, sym, ◌∙◌, ap, subst, arith}
use Rattle.std.specs.Prelude.{◌==◌, ◌&&◌, ◌||◌, nat_le, count_by, Result, Ok, Err}
use Rattle.std.specs.List.{list_all}
use Rattle.std.specs.Char.{is_ascii_alphabetic, is_ascii_alphanumeric, is_ascii_digit}
use Rattle.std.proofs.lemmas.Bool.{and_parts, and_from, or_parts, or_from, or_left, or_right, not-true, not_from_false, cond_both, cond-true, cond-false, leb-false, lt-leb}
use Rattle.std.proofs.lemmas.Bool.Decides.{nat_tests}
use Rattle.std.proofs.lemmas.List.Sums.{sum_by-cons}
use Rattle.ada_tree.specs.Texts.{begins, is_spaced}
use Rattle.lex_ada.specs.Lexis.{is_word_byte}
use Rattle.lex_ada.specs.Cutting.{longer, ends, name_length, number_length}
use Rattle.lex_ada.proofs.lexing.Letters.{alphanumeric_no_underscore, digit_alphanumeric, no_word_byte, word_byte_none}
use Rattle.lex_ada.proofs.lexing.Heads.{Same, same_first, agree_same, begins_agree}

-- a kind of run: its bytes, what is counted of them, at most how many, and the function that tells how far it goes
pub record Kind : Type 0 where
  pub test : ℕ → Bool
  pub weigh : List ℕ → ℕ
  pub limit : ℕ
  pub reach : Bool → ℕ → List ℕ → Result ℕ ℕ

abbrev pub names : Kind
names = record { test = is_word_byte; weigh = length; limit = 120; reach = name_length }

abbrev pub is_digit_byte : ℕ → Bool
is_digit_byte b = is_ascii_digit b || b == 95

abbrev pub numbers : Kind
numbers = record { test = is_digit_byte; weigh = count_by is_ascii_digit; limit = 18; reach = number_length }

-- a whole run after so many counted bytes; `after` tells that an underscore has just stood
pub record IsRun (kind : Kind) (after : Bool) (count : ℕ) (run : List ℕ) : Type 0 where
  pub made : list_all kind.test run ≡ true
  pub spaced : is_spaced after run ≡ true
  pub short : count + kind.weigh run ≤ kind.limit

-- a run is at the front, and no byte of a word follows it
pub record Goes (kind : Kind) (after : Bool) (count : ℕ) (bytes : List ℕ) (n : ℕ) : Type 0 where
  pub run : List ℕ
  pub rest : List ℕ
  pub whole : bytes ≡ run ++ rest
  pub size : n ≡ length run
  pub is : IsRun kind after count run
  pub stops : begins is_word_byte rest ≡ false

-- some bytes of a run are at the front, and with what follows them they begin none
pub record Stops (kind : Kind) (after : Bool) (count : ℕ) (bytes : List ℕ) (n : ℕ) : Type 0 where
  pub run : List ℕ
  pub rest : List ℕ
  pub whole : bytes ≡ run ++ rest
  pub size : n ≡ length run
  pub made : list_all kind.test run ≡ true
  pub more : List ℕ
  pub completes : IsRun kind after count (run ++ more)
  pub refused : (other : List ℕ) → Same rest other → kind.reach after count (run ++ other) ≡ Err (length run)

-- what the function's result tells
abbrev pub Tells : Kind → Bool → ℕ → List ℕ → Result ℕ ℕ → Type 0
Tells kind after count bytes (Ok n) = Goes kind after count bytes n
Tells kind after count bytes (Err n) = Stops kind after count bytes n

-- what ends a run at its end: a digit after an underscore, and otherwise nothing
abbrev pub last_of : Bool → List ℕ
last_of true = 48 ∷ []
last_of false = []

-- one more byte of a run at the front
tells_more : (kind : Kind) (after next : Bool) (count counted b : ℕ) (rest : List ℕ) (r : Result ℕ ℕ) → kind.test b ≡ true → ((run : List ℕ) → IsRun kind next counted run → IsRun kind after count (b ∷ run)) → ((other : List ℕ) → kind.reach after count (b ∷ other) ≡ longer (kind.reach next counted other)) → Tells kind next counted rest r → Tells kind after count (b ∷ rest) (longer r)
tells_more kind after next count counted b rest (Ok n) t into same g = record { run = b ∷ g.run; rest = g.rest; whole = ap (λ s. b ∷ s) g.whole; size = ap (λ (k : ℕ). suc k) g.size; is = into g.run g.is; stops = g.stops }
tells_more kind after next count counted b rest (Err n) t into same s = record {
  run = b ∷ s.run;
  rest = s.rest;
  whole = ap (λ s. b ∷ s) s.whole;
  size = ap (λ (k : ℕ). suc k) s.size;
  made = and_from (kind.test b) (list_all kind.test s.run) t s.made;
  more = s.more;
  completes = into (s.run ++ s.more) s.completes;
  refused = λ other h. same (s.run ++ other) ∙ ap longer (s.refused other h);
}

-- the first byte is the one that no run admits
stops_here : (kind : Kind) (after : Bool) (count b : ℕ) (rest : List ℕ) → IsRun kind after count (last_of after) → ((other : List ℕ) → kind.reach after count (b ∷ other) ≡ Err 0) → Stops kind after count (b ∷ rest) 0
stops_here kind after count b rest c h = record { run = []; rest = b ∷ rest; whole = refl; size = refl; made = refl; more = last_of after; completes = c; refused = λ other e. same_first (λ s. kind.reach after count s ≡ Err 0) b rest other e h }

-- no byte of a word is at the front
tells_ends : (kind : Kind) (after : Bool) (count : ℕ) (bytes : List ℕ) → IsRun kind after count (last_of after) → begins is_word_byte bytes ≡ false → ((other : List ℕ) → begins is_word_byte other ≡ false → kind.reach after count other ≡ ends after) → Tells kind after count bytes (ends after)
tells_ends kind true count bytes c e h = record { run = []; rest = bytes; whole = refl; size = refl; made = refl; more = last_of true; completes = c; refused = λ other s. h other (begins_agree is_word_byte bytes other (agree_same bytes other s) e) }
tells_ends kind false count bytes c e h = record { run = []; rest = bytes; whole = refl; size = refl; is = c; stops = e }

-- a run that goes on after an underscore is not empty
spaced_some : (run : List ℕ) → is_spaced true run ≡ true → 0 < length run
spaced_some [] e = absurd (cc)
spaced_some (b ∷ run) e = omega arith

-- a run that is empty ends no underscore
spaced_ends : (after : Bool) → is_spaced after [] ≡ true → ends after ≡ Ok 0
spaced_ends true e = cc
spaced_ends false e = refl

-- an underscore, and another byte, of a run
spaced_underscore : (after : Bool) (b : ℕ) (run : List ℕ) → (b == 95) ≡ true → is_spaced after (b ∷ run) ≡ (not after && is_spaced true run)
spaced_underscore after b run e = cond-true (b == 95) _ _ e

pub spaced_other : (after : Bool) (b : ℕ) (run : List ℕ) → (b == 95) ≡ false → is_spaced after (b ∷ run) ≡ is_spaced false run
spaced_other after b run e = cond-false (b == 95) _ _ e

-- where the second of two tests fails, the first passes
pub or_one : (x y : Bool) → (x || y) ≡ true → y ≡ false → x ≡ true
or_one true y e f = refl
or_one false y e f = cc

-- ---- names

-- a name may end here, or with one more digit
name_last : (after : Bool) (count : ℕ) → count ≤ 120 → (after ≡ true → count < 120) → IsRun names after count (last_of after)
name_last true count low room = let less = room refl in record { made = refl; spaced = refl; short = omega arith }
name_last false count low room = record { made = refl; spaced = refl; short = omega arith }

-- it ends where no byte of a word is
name_ends : (after : Bool) (count : ℕ) (bytes : List ℕ) → begins is_word_byte bytes ≡ false → name_length after count bytes ≡ ends after
name_ends after count [] e = refl
name_ends after count (b ∷ rest) e =
    let parts = or_parts (is_ascii_alphanumeric b) (b == 95) e in
    cond-false (b == 95) _ _ parts.1 ∙ cond-false (is_ascii_alphanumeric b) _ _ parts.0

-- one more byte of a name, an underscore or not
name_underscore : (after : Bool) (count b : ℕ) (run : List ℕ) → (b == 95) ≡ true → after ≡ false → IsRun names true (suc count) run → IsRun names after count (b ∷ run)
name_underscore after count b run e f r = record {
  made = and_from (is_word_byte b) _ (or_right (is_ascii_alphanumeric b) _ e) r.made;
  spaced = spaced_underscore after b run e ∙ and_from (not after) _ (not_from_false after f) r.spaced;
  short = omega (arith, r.short);
}

name_other : (after : Bool) (count b : ℕ) (run : List ℕ) → is_ascii_alphanumeric b ≡ true → IsRun names false (suc count) run → IsRun names after count (b ∷ run)
name_other after count b run e r = record {
  made = and_from (is_word_byte b) _ (or_left _ (b == 95) e) r.made;
  spaced = spaced_other after b run (alphanumeric_no_underscore b e) ∙ r.spaced;
  short = omega (arith, r.short);
}

-- what the length of a name tells
pub name_tells : (after : Bool) (count : ℕ) (bytes : List ℕ) → count ≤ 120 → (after ≡ true → count < 120) → Tells names after count bytes (name_length after count bytes)
name_tells after count [] low room = tells_ends names after count [] (name_last after count low room) refl (name_ends after count)
name_tells after count (b ∷ rest) low room =
    let P : Result ℕ ℕ → Type 0 = Tells names after count (b ∷ rest) in
    cond_both (b == 95) _ _ P
    (λ e. cond_both (after || nat_le 119 count) _ _ P
    (λ f. stops_here names after count b rest (name_last after count low room) (λ other. cond-true (b == 95) _ _ e ∙ cond-true (after || nat_le 119 count) _ _ f))
    (λ f. let parts = or_parts after (nat_le 119 count) f in
    let small : count < 119 = leb-false 119 count parts.1 in
    tells_more names after true count (suc count) b rest _ (or_right (is_ascii_alphanumeric b) _ e) (λ run. name_underscore after count b run e parts.0)
    (λ other. cond-true (b == 95) _ _ e ∙ cond-false (after || nat_le 119 count) _ _ f) (name_tells true (suc count) rest (omega arith) (λ _. omega arith))))
    (λ e. cond_both (is_ascii_alphanumeric b) _ _ P
    (λ f. cond_both (nat_le 120 count) _ _ P
    (λ g. stops_here names after count b rest (name_last after count low room) (λ other. cond-false (b == 95) _ _ e ∙ cond-true (is_ascii_alphanumeric b) _ _ f ∙ cond-true (nat_le 120 count) _ _ g))
    (λ g. let small : count < 120 = leb-false 120 count g in
    tells_more names after false count (suc count) b rest _ (or_left _ (b == 95) f) (λ run. name_other after count b run f)
    (λ other. cond-false (b == 95) _ _ e ∙ cond-true (is_ascii_alphanumeric b) _ _ f ∙ cond-false (nat_le 120 count) _ _ g) (name_tells false (suc count) rest (omega arith) (λ h. cc))))
    (λ f. tells_ends names after count (b ∷ rest) (name_last after count low room) (or_from (is_ascii_alphanumeric b) _ f e) (name_ends after count)))

-- a name that ends here has its own length
pub name_runs : (after : Bool) (count : ℕ) (run rest : List ℕ) → IsRun names after count run → begins is_word_byte rest ≡ false → name_length after count (run ++ rest) ≡ Ok (length run)
name_runs after count [] rest r e = name_ends after count rest e ∙ spaced_ends after r.spaced
name_runs after count (b ∷ run) rest r e = by (b == 95) refl (name_runs true (suc count) run rest) (name_runs false (suc count) run rest)
  where
    by : (t : Bool) → (b == 95) ≡ t → (IsRun names true (suc count) run → begins is_word_byte rest ≡ false → name_length true (suc count) (run ++ rest) ≡ Ok (length run)) → (IsRun names false (suc count) run → begins is_word_byte rest ≡ false → name_length false (suc count) (run ++ rest) ≡ Ok (length run)) → name_length after count ((b ∷ run) ++ rest) ≡ Ok (length (b ∷ run))
    by true t more other =
        let made = and_parts (is_word_byte b) (list_all is_word_byte run) r.made in
        let spaced = and_parts (not after) (is_spaced true run) (sym (spaced_underscore after b run t) ∙ r.spaced) in
        let some = spaced_some run spaced.1 in
        let short : count + suc (length run) ≤ 120 = r.short in
        cond-true (b == 95) _ _ t ∙ cond-false (after || nat_le 119 count) _ _ (or_from after _ (not-true after spaced.0) (lt-leb 119 count (omega arith)))
        ∙ ap longer (more (record { made = made.1; spaced = spaced.1; short = omega arith }) e)
    by false t more other =
        let made = and_parts (is_word_byte b) (list_all is_word_byte run) r.made in
        let short : count + suc (length run) ≤ 120 = r.short in
        cond-false (b == 95) _ _ t ∙ cond-true (is_ascii_alphanumeric b) _ _ (or_one (is_ascii_alphanumeric b) (b == 95) made.0 t) ∙ cond-false (nat_le 120 count) _ _ (lt-leb 120 count (omega arith))
        ∙ ap longer (other (record { made = made.1; spaced = sym (spaced_other after b run t) ∙ r.spaced; short = omega arith }) e)

-- ---- numbers

-- a number may end here, or with one more digit
number_last : (after : Bool) (digits : ℕ) → digits ≤ 18 → (after ≡ true → digits < 18) → IsRun numbers after digits (last_of after)
number_last true digits low room = let less = room refl in record { made = refl; spaced = refl; short = omega arith }
number_last false digits low room = record { made = refl; spaced = refl; short = omega arith }

-- it ends where no byte of a word is
number_ends : (after : Bool) (digits : ℕ) (bytes : List ℕ) → begins is_word_byte bytes ≡ false → number_length after digits bytes ≡ ends after
number_ends after digits [] e = refl
number_ends after digits (b ∷ rest) e =
    let none = word_byte_none b e in
    cond-false (b == 95) _ _ (or_parts (is_ascii_alphanumeric b) (b == 95) e).1 ∙ cond-false (is_ascii_digit b) _ _ none.0 ∙ cond-false (is_ascii_alphabetic b) _ _ none.1

-- an underscore is no digit
underscore_weighs : (b : ℕ) (run : List ℕ) → (b == 95) ≡ true → count_by is_ascii_digit (b ∷ run) ≡ count_by is_ascii_digit run
underscore_weighs b run e = let none : is_ascii_digit b ≡ false = grind (arith, nat_tests) in sum_by-cons (λ x. cond (is_ascii_digit x) 1 0) b run ∙ ap (λ t. cond t 1 0 + count_by is_ascii_digit run) none ∙ omega arith

-- a digit counts
pub digit_weighs : (b : ℕ) (run : List ℕ) → is_ascii_digit b ≡ true → count_by is_ascii_digit (b ∷ run) ≡ suc (count_by is_ascii_digit run)
digit_weighs b run e = sum_by-cons (λ x. cond (is_ascii_digit x) 1 0) b run ∙ ap (λ t. cond t 1 0 + count_by is_ascii_digit run) e ∙ omega arith

-- one more byte of a number, an underscore or a digit
number_underscore : (after : Bool) (digits b : ℕ) (run : List ℕ) → (b == 95) ≡ true → after ≡ false → IsRun numbers true digits run → IsRun numbers after digits (b ∷ run)
number_underscore after digits b run e f r = record {
  made = and_from (is_digit_byte b) _ (or_right (is_ascii_digit b) _ e) r.made;
  spaced = spaced_underscore after b run e ∙ and_from (not after) _ (not_from_false after f) r.spaced;
  short = subst (λ (n : ℕ). digits + n ≤ 18) (sym (underscore_weighs b run e)) r.short;
}

number_digit : (after : Bool) (digits b : ℕ) (run : List ℕ) → is_ascii_digit b ≡ true → IsRun numbers false (suc digits) run → IsRun numbers after digits (b ∷ run)
number_digit after digits b run e r = record {
  made = and_from (is_digit_byte b) _ (or_left _ (b == 95) e) r.made;
  spaced = spaced_other after b run (alphanumeric_no_underscore b (digit_alphanumeric b e)) ∙ r.spaced;
  short = subst (λ (n : ℕ). digits + n ≤ 18) (sym (digit_weighs b run e)) (omega (arith, r.short));
}

-- what the length of a number tells
pub number_tells : (after : Bool) (digits : ℕ) (bytes : List ℕ) → digits ≤ 18 → (after ≡ true → digits < 18) → Tells numbers after digits bytes (number_length after digits bytes)
number_tells after digits [] low room = tells_ends numbers after digits [] (number_last after digits low room) refl (number_ends after digits)
number_tells after digits (b ∷ rest) low room =
    let P : Result ℕ ℕ → Type 0 = Tells numbers after digits (b ∷ rest) in
    let last = number_last after digits low room in
    cond_both (b == 95) _ _ P
    (λ e. cond_both (after || nat_le 18 digits) _ _ P
    (λ f. stops_here numbers after digits b rest last (λ other. cond-true (b == 95) _ _ e ∙ cond-true (after || nat_le 18 digits) _ _ f))
    (λ f. let parts = or_parts after (nat_le 18 digits) f in
    let small : digits < 18 = leb-false 18 digits parts.1 in
    tells_more numbers after true digits digits b rest _ (or_right (is_ascii_digit b) _ e) (λ run. number_underscore after digits b run e parts.0)
    (λ other. cond-true (b == 95) _ _ e ∙ cond-false (after || nat_le 18 digits) _ _ f) (number_tells true digits rest low (λ _. small))))
    (λ e. cond_both (is_ascii_digit b) _ _ P
    (λ f. cond_both (nat_le 18 digits) _ _ P
    (λ g. stops_here numbers after digits b rest last (λ other. cond-false (b == 95) _ _ e ∙ cond-true (is_ascii_digit b) _ _ f ∙ cond-true (nat_le 18 digits) _ _ g))
    (λ g. let small : digits < 18 = leb-false 18 digits g in
    tells_more numbers after false digits (suc digits) b rest _ (or_left _ (b == 95) f) (λ run. number_digit after digits b run f)
    (λ other. cond-false (b == 95) _ _ e ∙ cond-true (is_ascii_digit b) _ _ f ∙ cond-false (nat_le 18 digits) _ _ g) (number_tells false (suc digits) rest (omega arith) (λ h. cc))))
    (λ f. cond_both (is_ascii_alphabetic b) _ _ P
    (λ g. stops_here numbers after digits b rest last (λ other. cond-false (b == 95) _ _ e ∙ cond-false (is_ascii_digit b) _ _ f ∙ cond-true (is_ascii_alphabetic b) _ _ g))
    (λ g. tells_ends numbers after digits (b ∷ rest) last (no_word_byte b e f g) (number_ends after digits))))

-- a run that goes on after an underscore has a digit
spaced_counts : (run : List ℕ) → list_all is_digit_byte run ≡ true → is_spaced true run ≡ true → 0 < count_by is_ascii_digit run
spaced_counts [] e f = absurd (cc)
spaced_counts (b ∷ run) e f = by (b == 95) refl
  where
    by : (t : Bool) → (b == 95) ≡ t → 0 < count_by is_ascii_digit (b ∷ run)
    by true t = let never : false ≡ true = sym (spaced_underscore true b run t) ∙ f in cc
    by false t = let digit = or_one (is_ascii_digit b) (b == 95) (and_parts (is_digit_byte b) (list_all is_digit_byte run) e).0 t in omega (arith, digit_weighs b run digit)

-- a number that ends here has its own length
pub number_runs : (after : Bool) (digits : ℕ) (run rest : List ℕ) → IsRun numbers after digits run → begins is_word_byte rest ≡ false → number_length after digits (run ++ rest) ≡ Ok (length run)
number_runs after digits [] rest r e = number_ends after digits rest e ∙ spaced_ends after r.spaced
number_runs after digits (b ∷ run) rest r e = by (b == 95) refl (number_runs true digits run rest) (number_runs false (suc digits) run rest)
  where
    by : (t : Bool) → (b == 95) ≡ t → (IsRun numbers true digits run → begins is_word_byte rest ≡ false → number_length true digits (run ++ rest) ≡ Ok (length run)) → (IsRun numbers false (suc digits) run → begins is_word_byte rest ≡ false → number_length false (suc digits) (run ++ rest) ≡ Ok (length run)) → number_length after digits ((b ∷ run) ++ rest) ≡ Ok (length (b ∷ run))
    by true t more other =
        let made = and_parts (is_digit_byte b) (list_all is_digit_byte run) r.made in
        let spaced = and_parts (not after) (is_spaced true run) (sym (spaced_underscore after b run t) ∙ r.spaced) in
        let some = spaced_counts run made.1 spaced.1 in
        let short : digits + count_by is_ascii_digit run ≤ 18 = subst (λ (n : ℕ). digits + n ≤ 18) (underscore_weighs b run t) r.short in
        cond-true (b == 95) _ _ t ∙ cond-false (after || nat_le 18 digits) _ _ (or_from after _ (not-true after spaced.0) (lt-leb 18 digits (omega arith)))
        ∙ ap longer (more (record { made = made.1; spaced = spaced.1; short = short }) e)
    by false t more other =
        let made = and_parts (is_digit_byte b) (list_all is_digit_byte run) r.made in
        let digit = or_one (is_ascii_digit b) (b == 95) made.0 t in
        let short : digits + suc (count_by is_ascii_digit run) ≤ 18 = subst (λ (n : ℕ). digits + n ≤ 18) (digit_weighs b run digit) r.short in
        cond-false (b == 95) _ _ t ∙ cond-true (is_ascii_digit b) _ _ digit ∙ cond-false (nat_le 18 digits) _ _ (lt-leb 18 digits (omega arith))
        ∙ ap longer (other (record { made = made.1; spaced = sym (spaced_other after b run t) ∙ r.spaced; short = omega arith }) e)
