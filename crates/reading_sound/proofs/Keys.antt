-- Keys are names, a label and a number with dots between them.
use Rattle.std.proofs.Common.{◌≡◌, ℕ, List, [], ◌∷◌, ◌++◌, refl, sym, ◌∙◌, ap, subst, Bool, true, false, ◌&&◌, ◌||◌, if◌then◌else◌, map}
use Rattle.std.specs.Prelude.{bytes_eq, codes}
use Rattle.std.specs.Char.{to_ascii_uppercase}
use Rattle.std.specs.List.{list_any, slice_split, onto_first}
use Rattle.std.proofs.lemmas.Bool.{and_from, or_right}
use Rattle.std.proofs.lemmas.Slice.Eq.{bytes_eq-Decides}
use Rattle.base_kit.specs.Bytes as byte
use Rattle.ada_tree.specs.declared.grammar.Own.TheVariants as own
use Rattle.ada_tree.specs.declared.word.Mark.TheVariants as mark
use Rattle.ada_tree.specs.declared.word.Word.TheVariants as word
use Rattle.ada_tree.specs.Items.{Item, lexemes, put, put_small}
use Rattle.ada_tree.specs.Texts.{fits_own, own_items, is_name, is_big, is_small, is_number, is_label, is_dot, are_key, key_items, name_items, label_item, dotted as dotted_items}
use Rattle.ada_tree.specs.Tokens.{Lexeme, a_name, a_number, a_word, a_mark}
use Rattle.text_laws.proofs.round_trip.Places.{both}
use Rattle.reading_sound.proofs.Meaning.{IsWord, AreDotted, one, more}
use Rattle.reading_sound.proofs.Traces.{Word, big, named, small, number, entry}
use Rattle.reading_sound.proofs.Walks.{are_key_words, is_name_word, is_big_word, is_label_word, is_number_word}
use Rattle.reading_sound.proofs.Words.{big_is_named, identifier_dotless, number_dotless, small_identifier}

lexemes_on : (items others : List Item) → lexemes (items ++ others) ≡ lexemes items ++ lexemes others
lexemes_on [] others = refl
lexemes_on (put l ∷ items) others = ap (λ ls. l ∷ ls) (lexemes_on items others)
lexemes_on (put_small t ∷ items) others = ap (λ ls. a_name (map to_ascii_uppercase t) ∷ ls) (lexemes_on items others)
lexemes_on (_ ∷ items) others = lexemes_on items others

-- ---- where a key is cut

dotless : (w : Word) (text : List ℕ) (ls : List Lexeme) → IsWord true w text ls → list_any is_dot text ≡ false
dotless big text ls m = (big_is_named true text ls m).1
dotless named text ls m = m.1
dotless small text ls m = identifier_dotless text (small_identifier text m.0)
dotless number text ls m = number_dotless text m.0
dotless entry text ls m = ap (list_any is_dot) m.0

cut_last : (text : List ℕ) → list_any is_dot text ≡ false → slice_split is_dot text ≡ text ∷ []
cut_last [] h = refl
cut_last (b ∷ text) h = by (is_dot b) refl h (cut_last text)
  where
    by : (t : Bool) → is_dot b ≡ t → t || list_any is_dot text ≡ false → (list_any is_dot text ≡ false → slice_split is_dot text ≡ text ∷ []) → slice_split is_dot (b ∷ text) ≡ (b ∷ text) ∷ []
    by true e h go = absurd cc
    by false e h go = rw e (ap (onto_first b) (go h))

cut_first : (front back : List ℕ) → list_any is_dot front ≡ false → slice_split is_dot (front ++ byte.dot ∷ back) ≡ front ∷ slice_split is_dot back
cut_first [] back h = refl
cut_first (b ∷ front) back h = by (is_dot b) refl h (cut_first front back)
  where
    by : (t : Bool) → is_dot b ≡ t → t || list_any is_dot front ≡ false → (list_any is_dot front ≡ false → slice_split is_dot (front ++ byte.dot ∷ back) ≡ front ∷ slice_split is_dot back)
        → slice_split is_dot (b ∷ front ++ byte.dot ∷ back) ≡ (b ∷ front) ∷ slice_split is_dot back
    by true e h go = absurd cc
    by false e h go = rw e (ap (onto_first b) (go h))

-- ---- its words

name_word : (w : Word) (text : List ℕ) (ls : List Lexeme) → is_name_word w ≡ true → IsWord true w text ls → (is_name true text ≡ true) × (ls ≡ lexemes (name_items text))
name_word big text ls h m = let n = big_is_named true text ls m in (n.0, n.2)
name_word named text ls h m = (m.0, m.2)
name_word _ text ls h m = absurd cc

big_word : (w : Word) (text : List ℕ) (ls : List Lexeme) → is_big_word w ≡ true → IsWord true w text ls → (is_big true text ≡ true) × (ls ≡ lexemes (name_items text))
big_word big text ls h m = (m.0, (big_is_named true text ls m).2)
big_word _ text ls h m = absurd cc

label_word : (w : Word) (text : List ℕ) (ls : List Lexeme) → is_label_word w ≡ true → IsWord true w text ls → (is_label text ≡ true) × (ls ≡ lexemes (label_item text ∷ []))
label_word small text ls h m = (or_right (bytes_eq text (codes "entry")) (is_small text) m.0, m.1 ∙ by (bytes_eq text (codes "entry")) refl)
  where
    by : (t : Bool) → bytes_eq text (codes "entry") ≡ t → lexemes (put_small text ∷ []) ≡ lexemes ((if t then put (a_word word.Entry) else put_small text) ∷ [])
    by true e = absurd (let z : is_small (codes "entry") ≡ true = subst (λ t. is_small t ≡ true) ((bytes_eq-Decides text (codes "entry")).0 e) m.0 in cc)
    by false e = refl
label_word entry text ls h m = subst (λ t. (is_label t ≡ true) × (ls ≡ lexemes (label_item t ∷ []))) (sym m.0) (refl, m.1)
label_word _ text ls h m = absurd cc

number_word : (w : Word) (text : List ℕ) (ls : List Lexeme) → is_number_word w ≡ true → IsWord true w text ls → (is_number text ≡ true) × (ls ≡ lexemes (put (a_number text) ∷ []))
number_word number text ls h m = m
number_word _ text ls h m = absurd cc

-- what stands before a dot, and what follows it
before_dot : {ls ms : List Lexeme} (items others : List Item) → ls ≡ lexemes items → ms ≡ lexemes others → ls ++ a_mark mark.Dot ∷ ms ≡ lexemes (dotted_items items others)
before_dot {ms = ms} items others p q = ap (λ ls. ls ++ a_mark mark.Dot ∷ ms) p ∙ ap (λ ms. lexemes items ++ a_mark mark.Dot ∷ ms) q ∙ sym (lexemes_on items (put (a_mark mark.Dot) ∷ others))

-- ---- keys

name_end : (b : Word) (text : List ℕ) (ls : List Lexeme) → is_name_word b ≡ true → AreDotted (b ∷ []) text ls → (slice_split is_dot text ≡ text ∷ []) × (is_name true text ≡ true) × (ls ≡ lexemes (name_items text))
name_end b text ls h (one m) = let n = name_word b text ls h m in (cut_last text (dotless b text ls m), n.0, n.1)
name_end b text ls h (more t u ks ms m d) = elim d [ ]

number_end : (c : Word) (text : List ℕ) (ls : List Lexeme) → is_number_word c ≡ true → AreDotted (c ∷ []) text ls → (slice_split is_dot text ≡ text ∷ []) × (is_number text ≡ true) × (ls ≡ lexemes (put (a_number text) ∷ []))
number_end c text ls h (one m) = let n = number_word c text ls h m in (cut_last text (dotless c text ls m), n.0, n.1)
number_end c text ls h (more t u ks ms m d) = elim d [ ]

-- a label and a number
record Labelled (text : List ℕ) (ls : List Lexeme) : Type 0 where
  pub label : List ℕ
  pub digits : List ℕ
  pub cut : slice_split is_dot text ≡ label ∷ digits ∷ []
  pub is_labelled : is_label label ≡ true
  pub is_numbered : is_number digits ≡ true
  pub said : ls ≡ lexemes (dotted_items (label_item label ∷ []) (put (a_number digits) ∷ []))

label_end : (b c : Word) (text : List ℕ) (ls : List Lexeme) → is_label_word b ≡ true → is_number_word c ≡ true → AreDotted (b ∷ c ∷ []) text ls → Labelled text ls
label_end b c text ls h k (more t u ks ms m d) =
    let l = label_word b t ks h m in
    let n = number_end c u ms k d in
    record {
      label = t;
      digits = u;
      cut = cut_first t u (dotless b t ks m) ∙ ap (λ ts. t ∷ ts) n.0;
      is_labelled = l.0;
      is_numbered = n.1;
      said = before_dot (label_item t ∷ []) (put (a_number u) ∷ []) l.1 n.2;
    }

-- a unit before them
record OfUnit (text : List ℕ) (ls : List Lexeme) : Type 0 where
  pub unit : List ℕ
  pub label : List ℕ
  pub digits : List ℕ
  pub cut : slice_split is_dot text ≡ unit ∷ label ∷ digits ∷ []
  pub is_unit : is_big true unit ≡ true
  pub is_labelled : is_label label ≡ true
  pub is_numbered : is_number digits ≡ true
  pub said : ls ≡ lexemes (dotted_items (name_items unit) (dotted_items (label_item label ∷ []) (put (a_number digits) ∷ [])))

unit_end : (a b c : Word) (text : List ℕ) (ls : List Lexeme) → is_big_word a ≡ true → is_label_word b ≡ true → is_number_word c ≡ true → AreDotted (a ∷ b ∷ c ∷ []) text ls → OfUnit text ls
unit_end a b c text ls g h k (more t u ks ms m d) =
    let n = big_word a t ks g m in
    let r = label_end b c u ms h k d in
    record {
      unit = t;
      label = r.label;
      digits = r.digits;
      cut = cut_first t u (dotless a t ks m) ∙ ap (λ ts. t ∷ ts) r.cut;
      is_unit = n.0;
      is_labelled = r.is_labelled;
      is_numbered = r.is_numbered;
      said = before_dot (name_items t) (dotted_items (label_item r.label ∷ []) (put (a_number r.digits) ∷ [])) n.1 r.said;
    }

abbrev IsKeyText : List ℕ → List Lexeme → Type 0
IsKeyText text ls = (are_key (slice_split is_dot text) ≡ true) × (ls ≡ lexemes (key_items (slice_split is_dot text)))

-- a text that falls into these
of_texts : (text : List ℕ) {ls : List Lexeme} (texts : List (List ℕ)) → slice_split is_dot text ≡ texts → are_key texts ≡ true → ls ≡ lexemes (key_items texts) → IsKeyText text ls
of_texts text texts q h s = (ap are_key q ∙ h, s ∙ ap (λ ts. lexemes (key_items ts)) (sym q))

pub by_key : (ws : List Word) (text : List ℕ) (ls : List Lexeme) → are_key_words ws ≡ true → AreDotted ws text ls → (fits_own true own.Key text ≡ true) × (ls ≡ lexemes (own_items own.Key text))
by_key (a ∷ b ∷ []) text ls h (more t u ks ms m d) =
    let n = name_word a t ks (both h).0 m in
    let r = name_end b u ms (both h).1 d in
    of_texts (t ++ byte.dot ∷ u) (t ∷ u ∷ []) (cut_first t u (dotless a t ks m) ∙ ap (λ ts. t ∷ ts) r.0) (and_from (is_name true t) (is_name true u) n.0 r.1) (before_dot (name_items t) (name_items u) n.1 r.2)
by_key (a ∷ b ∷ c ∷ []) text ls h d =
    let r = unit_end a b c text ls (both (both h).0).0 (both (both h).0).1 (both h).1 d in
    of_texts text (r.unit ∷ r.label ∷ r.digits ∷ []) r.cut (and_from (is_big true r.unit && is_label r.label) (is_number r.digits) (and_from (is_big true r.unit) (is_label r.label) r.is_unit r.is_labelled) r.is_numbered) r.said
by_key (o ∷ a ∷ b ∷ c ∷ []) text ls h (more t u ks ms m d) =
    let fronts = both (both (both h).0).0 in
    let n = big_word o t ks fronts.0 m in
    let r = unit_end a b c u ms fronts.1 (both (both h).0).1 (both h).1 d in
    of_texts (t ++ byte.dot ∷ u) (t ∷ r.unit ∷ r.label ∷ r.digits ∷ []) (cut_first t u (dotless o t ks m) ∙ ap (λ ts. t ∷ ts) r.cut)
    (and_from (is_big true t && is_big true r.unit && is_label r.label) (is_number r.digits)
    (and_from (is_big true t && is_big true r.unit) (is_label r.label) (and_from (is_big true t) (is_big true r.unit) n.0 r.is_unit) r.is_labelled) r.is_numbered)
    (before_dot (name_items t) (dotted_items (name_items r.unit) (dotted_items (label_item r.label ∷ []) (put (a_number r.digits) ∷ []))) n.1 r.said)
by_key _ text ls h d = absurd cc
