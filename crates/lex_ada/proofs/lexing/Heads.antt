-- How two texts begin, and the run of bytes of a kind at the front of one.
use Rattle.std.proofs.Common.{◌≡◌, ℕ, ◌+◌, List, [], ◌∷◌, ◌++◌, length, Bool, true, false, cond, refl, sym, ◌∙◌, ap, subst, arith}
use Rattle.std.specs.List.{prefix_len, list_any, list_all}
use Rattle.std.proofs.lemmas.Bool.{and_parts, and_from, or_parts, or_from, not-true, not_from_false, cond-true}
use Rattle.ada_tree.specs.Texts.{begins, ends_line}
use Rattle.lex_ada.specs.Lexis.{is_word_byte}
use Rattle.lex_ada.specs.Cutting.{in_line}
use Rattle.lex_ada.proofs.lexing.Letters.{word_in_line}

-- both are empty, or have the same first byte
abbrev pub Same : List ℕ → List ℕ → Type 0
Same [] [] = Unit {0}
Same [] (b ∷ other) = ⊥
Same (a ∷ rest) [] = ⊥
Same (a ∷ rest) (b ∷ other) = a ≡ b

-- the second is empty, or has the first byte of the first
abbrev pub Agree : List ℕ → List ℕ → Type 0
Agree rest [] = Unit {0}
Agree [] (b ∷ other) = ⊥
Agree (a ∷ rest) (b ∷ other) = a ≡ b

-- what holds of each text with this first byte holds of one that begins alike
pub same_first : (P : List ℕ → Type 0) (b : ℕ) (rest other : List ℕ) → Same (b ∷ rest) other → ((tail : List ℕ) → P (b ∷ tail)) → P other
same_first P b rest [] e h = absurd e
same_first P b rest (c ∷ other) e h = subst (λ (a : ℕ). P (a ∷ other)) e (h other)

-- texts that begin alike agree
pub agree_same : (rest other : List ℕ) → Same rest other → Agree rest other
agree_same [] [] e = tt
agree_same [] (b ∷ other) e = absurd e
agree_same (a ∷ rest) [] e = tt
agree_same (a ∷ rest) (b ∷ other) e = e

-- a front before texts that begin alike
pub same_behind : (front rest other : List ℕ) → Same rest other → Same (front ++ rest) (front ++ other)
same_behind [] rest other e = e
same_behind (b ∷ front) rest other e = refl

-- and before texts that agree
pub agree_behind : (front rest other : List ℕ) → Agree rest other → Agree (front ++ rest) (front ++ other)
agree_behind [] rest other e = e
agree_behind (b ∷ front) rest other e = refl

-- a test that the first byte fails, the first byte of a text that agrees fails too
pub begins_agree : (test : ℕ → Bool) (rest other : List ℕ) → Agree rest other → begins test rest ≡ false → begins test other ≡ false
begins_agree test rest [] e h = refl
begins_agree test [] (b ∷ other) e h = absurd e
begins_agree test (a ∷ rest) (b ∷ other) e h = ap test (sym e) ∙ h

-- all pass a test that another implies
pub list_all-weaker : (test weaker : ℕ → Bool) (bytes : List ℕ) → ((b : ℕ) → test b ≡ true → weaker b ≡ true) → list_all test bytes ≡ true → list_all weaker bytes ≡ true
list_all-weaker test weaker [] h e = refl
list_all-weaker test weaker (b ∷ bytes) h e =
    let parts = and_parts (test b) (list_all test bytes) e in
    and_from (weaker b) (list_all weaker bytes) (h b parts.0) (list_all-weaker test weaker bytes h parts.1)

-- where all pass one test, none passes another that it excludes
pub none_of : (test other : ℕ → Bool) (bytes : List ℕ) → ((b : ℕ) → test b ≡ true → other b ≡ false) → list_all test bytes ≡ true → list_any other bytes ≡ false
none_of test other [] h e = refl
none_of test other (b ∷ bytes) h e =
    let parts = and_parts (test b) (list_all test bytes) e in
    or_from (other b) (list_any other bytes) (h b parts.0) (none_of test other bytes h parts.1)

-- no byte of a word ends a line
pub word_one_line : (bytes : List ℕ) → list_all is_word_byte bytes ≡ true → list_any ends_line bytes ≡ false
word_one_line bytes e = none_of is_word_byte ends_line bytes word_in_line e

-- nor do the bytes in the line
pub none_ends_line : (bytes : List ℕ) → list_all in_line bytes ≡ true → list_any ends_line bytes ≡ false
none_ends_line bytes e = none_of in_line ends_line bytes (λ b h. not-true (ends_line b) h) e

-- where none ends the line, all are in it
pub all_in_line : (bytes : List ℕ) → list_any ends_line bytes ≡ false → list_all in_line bytes ≡ true
all_in_line [] e = refl
all_in_line (b ∷ bytes) e =
    let parts = or_parts (ends_line b) (list_any ends_line bytes) e in
    and_from (in_line b) (list_all in_line bytes) (not_from_false (ends_line b) parts.0) (all_in_line bytes parts.1)

-- a run that ends where the next byte fails
pub run_is : (test : ℕ → Bool) (run rest : List ℕ) → list_all test run ≡ true → begins test rest ≡ false → prefix_len test (run ++ rest) ≡ length run
run_is test [] [] e f = refl
run_is test [] (b ∷ rest) e f = ap (λ t. cond t (1 + prefix_len test rest) 0) f
run_is test (b ∷ run) rest e f =
    let parts = and_parts (test b) (list_all test run) e in
    let first = cond-true (test b) (1 + prefix_len test (run ++ rest)) 0 parts.0 in
    let others = run_is test run rest parts.1 f in
    omega arith

-- the run at the front, and what follows it
pub record IsRunOf (test : ℕ → Bool) (bytes : List ℕ) : Type 0 where
  pub run : List ℕ
  pub rest : List ℕ
  pub whole : bytes ≡ run ++ rest
  pub size : prefix_len test bytes ≡ length run
  pub passes : list_all test run ≡ true
  pub stops : begins test rest ≡ false

-- each text has one
pub run_of : (test : ℕ → Bool) (bytes : List ℕ) → IsRunOf test bytes
run_of test [] = record { run = []; rest = []; whole = refl; size = refl; passes = refl; stops = refl }
run_of test (b ∷ bytes) = by (test b) refl (run_of test bytes)
  where
    by : (t : Bool) → test b ≡ t → IsRunOf test bytes → IsRunOf test (b ∷ bytes)
    by true e r = record {
      run = b ∷ r.run;
      rest = r.rest;
      whole = ap (λ t. b ∷ t) r.whole;
      size = cond-true (test b) (1 + prefix_len test bytes) 0 e ∙ omega (arith, r.size);
      passes = and_from (test b) (list_all test r.run) e r.passes;
      stops = r.stops;
    }
    by false e r = record { run = []; rest = b ∷ bytes; whole = refl; size = ap (λ t. cond t (1 + prefix_len test bytes) 0) e; passes = refl; stops = e }
