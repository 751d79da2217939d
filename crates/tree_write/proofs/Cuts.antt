-- A text that is cut at the first such byte.
use Rattle.std.proofs.Common.{◌≡◌, ℕ, ◌+◌, ◌<◌, ◌≤◌, List, [], ◌∷◌, length, Bool, true, false, cond, Option, Some, None, refl, sym, ◌∙◌, ap, take, drop, take_all, length-drop, ◌-◌, arith}
use Rattle.std.specs.Prelude.{position, nat_lt, count_by, ◌==◌, is_some, IfSome}
use Rattle.std.specs.Borrow.{Bor}
use Rattle.std.specs.List.{All, list_any, position_or_len, slice_split, flat_map}
use Rattle.std.proofs.lemmas.Bool.{ltb-true, ltb-false}
use Rattle.std.proofs.lemmas.List.Folds.{list_any_none, list_any_at}
use Rattle.std.proofs.lemmas.List.Sums.{fails_before_first, passes_at_first}
use Rattle.std.proofs.lemmas.List.Splits.{slice_split_first, slice_split_none, length-slice_split}
use Rattle.std.proofs.lemmas.List.{append-nil}
use Rattle.ada_tree.specs.Texts.{symbol_items, name_items, dotted, key_items, is_dot}
use Rattle.tree_write.specs.Ink.{Ink, after}
use Rattle.tree_write.specs.Symbols.{symbol_part, point_items}
use Rattle.tree_write.proofs.Inks.{after_append}

record IsFound (p : ℕ → Bool) (xs : List ℕ) (end : ℕ) : Type 0 where
  within : position_or_len p xs < length xs
  place : position_or_len p xs ≡ end

found_at : (p : ℕ → Bool) (xs : List ℕ) (end : ℕ) → position p xs ≡ Some end → IsFound p xs end
found_at p xs end e = by (nat_lt (position_or_len p xs) (length xs)) refl e
  where
    by : (b : Bool) → nat_lt (position_or_len p xs) (length xs) ≡ b → cond b (Some (position_or_len p xs)) None ≡ Some end → IsFound p xs end
    by true t e = record { within = ltb-true _ _ t; place = cc }
    by false t e = absurd cc

nothing_found : (p : ℕ → Bool) (xs : List ℕ) → position p xs ≡ None → length xs ≤ position_or_len p xs
nothing_found p xs e = by (nat_lt (position_or_len p xs) (length xs)) refl e
  where
    by : (b : Bool) → nat_lt (position_or_len p xs) (length xs) ≡ b → cond b (Some (position_or_len p xs)) None ≡ None → length xs ≤ position_or_len p xs
    by true t e = absurd cc
    by false t e = ltb-false _ _ t

-- the first part ends at the byte, and the others are those of what stands after it
pub some_parts : (p : ℕ → Bool) (xs : List ℕ) (end : ℕ) → position p xs ≡ Some end → slice_split p xs ≡ take end xs ∷ slice_split p (take (length xs - (end + 1)) (drop (end + 1) xs))
some_parts p xs end e =
    let found = found_at p xs end e in
    let all : take (length xs - (end + 1)) (drop (end + 1) xs) ≡ drop (end + 1) xs = take_all _ _ (omega (arith, length-drop (end + 1) xs)) in
    slice_split_first p xs 0 found.within ∙ ap (λ n. take n xs ∷ slice_split p (drop (n + 1) xs)) found.place ∙ ap (λ back. take end xs ∷ slice_split p back) (sym all)

pub some_found : (p : ℕ → Bool) (xs : List ℕ) (end : ℕ) → position p xs ≡ Some end → list_any p xs ≡ true
some_found p xs end e = let found = found_at p xs end e in list_any_at p xs (position_or_len p xs) 0 found.within (passes_at_first p xs 0 found.within)

no_such : (p : ℕ → Bool) (xs : List ℕ) → length xs ≤ position_or_len p xs → All (λ b. p b ≡ false) xs
no_such p xs all = λ k d within. fails_before_first p xs k d (omega arith)

pub none_parts : (p : ℕ → Bool) (xs : List ℕ) → position p xs ≡ None → slice_split p xs ≡ xs ∷ []
none_parts p xs e = slice_split_none p xs (no_such p xs (nothing_found p xs e))

pub none_found : (p : ℕ → Bool) (xs : List ℕ) → position p xs ≡ None → list_any p xs ≡ false
none_found p xs e = list_any_none p xs (no_such p xs (nothing_found p xs e))

-- ---- operators and modes

pub symbols_go_on : (text part more : List ℕ) (ink : Ink) → slice_split (λ b. b == 32) text ≡ part ∷ slice_split (λ b. b == 32) more
    → after (symbol_items text) ink ≡ after (symbol_items more) (after (symbol_part part) ink)
symbols_go_on text part more ink e = ap (λ parts. after (flat_map symbol_part parts) ink) e ∙ after_append (symbol_part part) (symbol_items more) ink

pub symbols_end : (text : List ℕ) → slice_split (λ b. b == 32) text ≡ text ∷ [] → symbol_items text ≡ symbol_part text
symbols_end text e = ap (λ parts. flat_map symbol_part parts) e ∙ append-nil (symbol_part text)

-- ---- keys

pub no_key : (text : List ℕ) → slice_split is_dot text ≡ text ∷ [] → key_items (slice_split is_dot text) ≡ []
no_key text e = ap key_items e

pub key_of_two : (text a rest : List ℕ) → slice_split is_dot text ≡ a ∷ slice_split is_dot rest → slice_split is_dot rest ≡ rest ∷ []
    → key_items (slice_split is_dot text) ≡ dotted (name_items a) (name_items rest)
key_of_two text a rest e f = ap key_items (e ∙ ap (λ parts. a ∷ parts) f)

pub key_of_three : (text a rest b more : List ℕ) → slice_split is_dot text ≡ a ∷ slice_split is_dot rest → slice_split is_dot rest ≡ b ∷ slice_split is_dot more → slice_split is_dot more ≡ more ∷ []
    → key_items (slice_split is_dot text) ≡ point_items a b more
key_of_three text a rest b more e f g = ap key_items (e ∙ ap (λ parts. a ∷ parts) (f ∙ ap (λ parts. b ∷ parts) g))

pub key_of_four : (text a rest b more d last : List ℕ) → slice_split is_dot text ≡ a ∷ slice_split is_dot rest → slice_split is_dot rest ≡ b ∷ slice_split is_dot more
    → slice_split is_dot more ≡ d ∷ slice_split is_dot last → slice_split is_dot last ≡ last ∷ [] → key_items (slice_split is_dot text) ≡ dotted (name_items a) (point_items b d last)
key_of_four text a rest b more d last e f g h = ap key_items (e ∙ ap (λ parts. a ∷ parts) (f ∙ ap (λ parts. b ∷ parts) (g ∙ ap (λ parts. d ∷ parts) h)))

-- a key has no fifth part
pub too_long : (text a rest b more d last : List ℕ) (cut : Option (Bor (List ℕ) × Bor (List ℕ))) → slice_split is_dot text ≡ a ∷ slice_split is_dot rest → slice_split is_dot rest ≡ b ∷ slice_split is_dot more
    → slice_split is_dot more ≡ d ∷ slice_split is_dot last → is_some cut ≡ true → IfSome cut (λ parts. slice_split is_dot last ≡ parts.0.now ∷ slice_split is_dot parts.1.now)
    → key_items (slice_split is_dot text) ≡ []
too_long text a rest b more d last None e f g some h = absurd cc
too_long text a rest b more d last (Some cut) e f g some h =
    ap key_items (e ∙ ap (λ parts. a ∷ parts) (f ∙ ap (λ parts. b ∷ parts) (g ∙ ap (λ parts. d ∷ parts) h))) ∙ by (slice_split is_dot cut.1.now) (length-slice_split is_dot cut.1.now)
  where
    by : (parts : List (List ℕ)) → length parts ≡ count_by is_dot cut.1.now + 1 → key_items (a ∷ b ∷ d ∷ cut.0.now ∷ parts) ≡ []
    by [] e = absurd (omega (arith, e))
    by (z ∷ parts) e = refl
