-- When sets of tokens have no token in common, and when one has all tokens of another.
use Rattle.std.proofs.Common.{◌≡◌, ℕ, List, [], ◌∷◌, refl, sym, ◌∙◌, ap, Bool, true, false, not, ◌&&◌, ◌||◌, map}
use Rattle.std.specs.List.{list_any, list_all}
use Rattle.std.specs.Cmp.Lexicographic.{pointwise}
use Rattle.std.specs.Char.{to_ascii_lowercase}
use Rattle.std.proofs.lemmas.Bool.{and_parts, and_from}
use denote.Enum.Bare.{sameb, same_true, true_same}
use Rattle.ada_tree.specs.declared.word.Word.{Word}
use Rattle.ada_tree.specs.declared.word.Mark.{Mark}
use Rattle.ada_tree.specs.declared.grammar.Argument.{Argument}
use Rattle.ada_tree.specs.contracts.word.Word as word_row
use Rattle.ada_tree.specs.contracts.word.Mark as mark_row
use Rattle.ada_tree.specs.contracts.grammar.Argument as argument_row
use Rattle.ada_tree.specs.Rules.{arguments_of}
use Rattle.ada_tree.specs.Tokens.{Lexeme, a_name, a_number, a_word, a_mark}
use Rattle.reading_table.specs.declared.symbol.Form.{Form}
use Rattle.reading_table.specs.declared.symbol.Tokens.{Tokens}
use Rattle.reading_table.specs.declared.symbol.Tokens.TheVariants as tokens
use Rattle.reading_table.specs.TokenSets.{arguments_in, has_form, words_of, marks_of, has_name, has_number}
use Rattle.reading_table.specs.States.{Token, is_of}
use Rattle.reading_table.specs.Reading.{is_side}
use Rattle.reading_table.proofs.Bars.{TokenSet}
use Rattle.reading_table.proofs.Predictive.{all_has, any_has}

-- ---- lists of words, and of marks

abbrev is_word : Word → Word → Bool
is_word w v = sameb word_row.the_type w v

abbrev is_mark : Mark → Mark → Bool
is_mark m n = sameb mark_row.the_type m n

-- none of the first is among the others
abbrev none_among : {A : Type 0} → (A → A → Bool) → List A → List A → Bool
none_among same xs ys = list_all (λ x. not (list_any (same x) ys)) xs

abbrev all_among : {A : Type 0} → (A → A → Bool) → List A → List A → Bool
all_among same xs ys = list_all (λ x. list_any (same x) ys) xs

not_both : (b : Bool) → not b ≡ true → b ≡ true → ⊥
not_both true h e = absurd cc
not_both false h e = absurd cc

module _ {A : Type 0} (same : A → A → Bool) (told : (a b : A) → same a b ≡ true → a ≡ b) where
  apart_lists : (xs ys : List A) (a : A) → none_among same xs ys ≡ true → list_any (same a) xs ≡ true → list_any (same a) ys ≡ true → ⊥
  apart_lists xs ys a h x y =
      let m = any_has (same a) xs x in
      not_both (list_any (same a) ys) (ap (λ z. not (list_any (same z) ys)) (told a m.0 m.2) ∙ all_has (λ x. not (list_any (same x) ys)) xs m.0 h m.1) y

  covered_lists : (xs ys : List A) (a : A) → all_among same xs ys ≡ true → list_any (same a) xs ≡ true → list_any (same a) ys ≡ true
  covered_lists xs ys a h x =
      let m = any_has (same a) xs x in
      ap (λ z. list_any (same z) ys) (told a m.0 m.2) ∙ all_has (λ x. list_any (same x) ys) xs m.0 h m.1

  pub same_lists : (xs ys : List A) → pointwise same xs ys ≡ true → xs ≡ ys
  same_lists [] [] h = refl
  same_lists [] (y ∷ ys) h = absurd cc
  same_lists (x ∷ xs) [] h = absurd cc
  same_lists (x ∷ xs) (y ∷ ys) h =
      let parts = and_parts (same x y) (pointwise same xs ys) h in
      let rest : xs ≡ ys = same_lists xs ys parts.1 in
      ap (λ z. z ∷ xs) (told x y parts.0) ∙ ap (λ zs. y ∷ zs) rest

-- ---- names

abbrev pub is_argument : Argument → Argument → Bool
is_argument a b = sameb argument_row.the_type a b

abbrev same_form : Form → Form → Bool
same_form f g = pointwise is_argument (arguments_in f) (arguments_in g)

equal_lists : (xs : List Argument) → pointwise is_argument xs xs ≡ true
equal_lists [] = refl
equal_lists (x ∷ xs) = and_from (is_argument x x) (pointwise is_argument xs xs) (true_same argument_row.the_type x x refl) (equal_lists xs)

-- the rule of one name has arguments of one form
one_form : (f g : Form) (text : List ℕ) → has_form f text ≡ true → has_form g text ≡ true → same_form f g ≡ true
one_form f g text h k =
    let e : arguments_of (map to_ascii_lowercase text) ≡ arguments_in f = same_lists is_argument (same_true argument_row.the_type tt) _ _ h in
    ap (λ xs. pointwise is_argument xs (arguments_in g)) (sym e) ∙ k

same_form_has : (f g : Form) (text : List ℕ) → same_form g f ≡ true → has_form f text ≡ true → has_form g text ≡ true
same_form_has f g text e h =
    let same : arguments_in g ≡ arguments_in f = same_lists is_argument (same_true argument_row.the_type tt) _ _ e in
    ap (λ xs. pointwise is_argument (arguments_of (map to_ascii_lowercase text)) xs) same ∙ h

abbrev names_apart : Tokens → Tokens → Bool
names_apart tokens.Name tokens.Name = false
names_apart tokens.Name (tokens.NameOf g) = false
names_apart (tokens.NameOf f) tokens.Name = false
names_apart (tokens.NameOf f) (tokens.NameOf g) = not (same_form f g)
names_apart _ _ = true

abbrev names_covered : Tokens → Tokens → Bool
names_covered tokens.Name a = true
names_covered (tokens.NameOf g) (tokens.NameOf f) = same_form g f
names_covered (tokens.NameOf g) tokens.Name = false
names_covered _ tokens.Name = false
names_covered _ (tokens.NameOf f) = false
names_covered _ _ = true

-- ---- sets of tokens

abbrev tokens_apart : Tokens → Tokens → Bool
tokens_apart a b = (names_apart a b && not (has_number a && has_number b)) && (none_among is_word (words_of a) (words_of b) && none_among is_mark (marks_of a) (marks_of b))

abbrev tokens_covered : Tokens → Tokens → Bool
tokens_covered b a = (names_covered b a && (not (has_number a) || has_number b)) && (all_among is_word (words_of a) (words_of b) && all_among is_mark (marks_of a) (marks_of b))

tells_names_apart : (a b : Tokens) (text : List ℕ) → names_apart a b ≡ true → has_name a text ≡ true → has_name b text ≡ true → ⊥
tells_names_apart tokens.Name tokens.Name text h x y = absurd cc
tells_names_apart tokens.Name (tokens.NameOf g) text h x y = absurd cc
tells_names_apart (tokens.NameOf f) tokens.Name text h x y = absurd cc
tells_names_apart (tokens.NameOf f) (tokens.NameOf g) text h x y = not_both (same_form f g) h (one_form f g text x y)
tells_names_apart tokens.Name (tokens.Word w) text h x y = absurd cc
tells_names_apart tokens.Name (tokens.Mark m) text h x y = absurd cc
tells_names_apart tokens.Name tokens.Number text h x y = absurd cc
tells_names_apart tokens.Name tokens.Relational text h x y = absurd cc
tells_names_apart tokens.Name tokens.Adding text h x y = absurd cc
tells_names_apart tokens.Name tokens.Multiplying text h x y = absurd cc
tells_names_apart tokens.Name tokens.Highest text h x y = absurd cc
tells_names_apart tokens.Name tokens.Maker text h x y = absurd cc
tells_names_apart (tokens.NameOf f) (tokens.Word w) text h x y = absurd cc
tells_names_apart (tokens.NameOf f) (tokens.Mark m) text h x y = absurd cc
tells_names_apart (tokens.NameOf f) tokens.Number text h x y = absurd cc
tells_names_apart (tokens.NameOf f) tokens.Relational text h x y = absurd cc
tells_names_apart (tokens.NameOf f) tokens.Adding text h x y = absurd cc
tells_names_apart (tokens.NameOf f) tokens.Multiplying text h x y = absurd cc
tells_names_apart (tokens.NameOf f) tokens.Highest text h x y = absurd cc
tells_names_apart (tokens.NameOf f) tokens.Maker text h x y = absurd cc
tells_names_apart _ _ text h x y = absurd cc

tells_names_covered : (b a : Tokens) (text : List ℕ) → names_covered b a ≡ true → has_name a text ≡ true → has_name b text ≡ true
tells_names_covered tokens.Name a text h x = refl
tells_names_covered (tokens.NameOf g) (tokens.NameOf f) text h x = same_form_has f g text h x
tells_names_covered (tokens.NameOf g) tokens.Name text h x = absurd cc
tells_names_covered _ tokens.Name text h x = absurd cc
tells_names_covered _ (tokens.NameOf f) text h x = absurd cc
tells_names_covered _ _ text h x = absurd cc

both_numbers : (a b : Bool) → not (a && b) ≡ true → a ≡ true → b ≡ true → ⊥
both_numbers true true h x y = absurd cc
both_numbers true false h x y = absurd cc
both_numbers false b h x y = absurd cc

number_too : (a b : Bool) → (not a || b) ≡ true → a ≡ true → b ≡ true
number_too true b h x = h
number_too false b h x = absurd cc

told_word : (w v : Word) → is_word w v ≡ true → w ≡ v
told_word w v h = same_true word_row.the_type tt w v h

told_mark : (m n : Mark) → is_mark m n ≡ true → m ≡ n
told_mark m n h = same_true mark_row.the_type tt m n h

four_parts : (a b c d : Bool) → ((a && b) && (c && d)) ≡ true → (a ≡ true) × (b ≡ true) × (c ≡ true) × (d ≡ true)
four_parts true b c d h = let parts = and_parts b (c && d) h in let more = and_parts c d parts.1 in (refl, parts.0, more.0, more.1)
four_parts false b c d h = absurd cc

apart_parts : (a b : Tokens) → tokens_apart a b ≡ true
    → (names_apart a b ≡ true) × (not (has_number a && has_number b) ≡ true) × (none_among is_word (words_of a) (words_of b) ≡ true) × (none_among is_mark (marks_of a) (marks_of b) ≡ true)
apart_parts a b h = four_parts (names_apart a b) (not (has_number a && has_number b)) (none_among is_word (words_of a) (words_of b)) (none_among is_mark (marks_of a) (marks_of b)) h

covered_parts : (b a : Tokens) → tokens_covered b a ≡ true
    → (names_covered b a ≡ true) × ((not (has_number a) || has_number b) ≡ true) × (all_among is_word (words_of a) (words_of b) ≡ true) × (all_among is_mark (marks_of a) (marks_of b) ≡ true)
covered_parts b a h = four_parts (names_covered b a) (not (has_number a) || has_number b) (all_among is_word (words_of a) (words_of b)) (all_among is_mark (marks_of a) (marks_of b)) h

tells_apart : (a b : Tokens) (lexeme : Lexeme) → tokens_apart a b ≡ true → is_of a lexeme ≡ true → is_of b lexeme ≡ true → ⊥
tells_apart a b (a_name text) h x y = tells_names_apart a b text (apart_parts a b h).0 x y
tells_apart a b (a_number text) h x y = both_numbers (has_number a) (has_number b) (apart_parts a b h).1 x y
tells_apart a b (a_word w) h x y = apart_lists is_word told_word (words_of a) (words_of b) w (apart_parts a b h).2 x y
tells_apart a b (a_mark m) h x y = apart_lists is_mark told_mark (marks_of a) (marks_of b) m (apart_parts a b h).3 x y

tells_covered : (b a : Tokens) (lexeme : Lexeme) → tokens_covered b a ≡ true → is_of a lexeme ≡ true → is_of b lexeme ≡ true
tells_covered b a (a_name text) h x = tells_names_covered b a text (covered_parts b a h).0 x
tells_covered b a (a_number text) h x = number_too (has_number a) (has_number b) (covered_parts b a h).1 x
tells_covered b a (a_word w) h x = covered_lists is_word told_word (words_of a) (words_of b) w (covered_parts b a h).2 x
tells_covered b a (a_mark m) h x = covered_lists is_mark told_mark (marks_of a) (marks_of b) m (covered_parts b a h).3 x

-- ---- on a side

abbrev pub holds : TokenSet → Token → Bool
holds set t = is_side set.0 t.note && is_of set.1 t.lexeme

abbrev pub apart : TokenSet → TokenSet → Bool
apart a b = not (is_side a.0 b.0) || tokens_apart a.1 b.1

abbrev pub covers : TokenSet → TokenSet → Bool
covers b a = is_side b.0 a.0 && tokens_covered b.1 a.1

pub parted : (a b : TokenSet) (t : Token) → apart a b ≡ true → holds a t ≡ true → holds b t ≡ true → ⊥
parted a b t h x y = by a.0 b.0 t.note h (and_parts (is_side a.0 t.note) (is_of a.1 t.lexeme) x) (and_parts (is_side b.0 t.note) (is_of b.1 t.lexeme) y)
  where
    by : (m n o : Bool) → (not (is_side m n) || tokens_apart a.1 b.1) ≡ true → (is_side m o ≡ true) × (is_of a.1 t.lexeme ≡ true) → (is_side n o ≡ true) × (is_of b.1 t.lexeme ≡ true) → ⊥
    by true true o h x y = tells_apart a.1 b.1 t.lexeme h x.1 y.1
    by false false o h x y = tells_apart a.1 b.1 t.lexeme h x.1 y.1
    by true false true h x y = absurd (let z = y.0 in cc)
    by true false false h x y = absurd (let z = x.0 in cc)
    by false true true h x y = absurd (let z = x.0 in cc)
    by false true false h x y = absurd (let z = y.0 in cc)

pub covered : (b a : TokenSet) (t : Token) → covers b a ≡ true → holds a t ≡ true → holds b t ≡ true
covered b a t h x = by a.0 b.0 t.note (and_parts (is_side b.0 a.0) (tokens_covered b.1 a.1) h) (and_parts (is_side a.0 t.note) (is_of a.1 t.lexeme) x)
  where
    by : (m n o : Bool) → (is_side n m ≡ true) × (tokens_covered b.1 a.1 ≡ true) → (is_side m o ≡ true) × (is_of a.1 t.lexeme ≡ true) → (is_side n o && is_of b.1 t.lexeme) ≡ true
    by true true o h x = and_from _ _ x.0 (tells_covered b.1 a.1 t.lexeme h.1 x.1)
    by false false o h x = and_from _ _ x.0 (tells_covered b.1 a.1 t.lexeme h.1 x.1)
    by true false o h x = absurd (let z = h.0 in cc)
    by false true o h x = absurd (let z = h.0 in cc)
