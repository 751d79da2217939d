-- A name in upper case is the same name.
use Rattle.std.proofs.Common.{◌≡◌, ℕ, List, map, Bool, true, not, ◌&&◌, sym, ◌∙◌, ap}
use Rattle.std.specs.Prelude.{is_some}
use Rattle.std.specs.Char.{to_ascii_uppercase, to_ascii_lowercase}
use Rattle.std.proofs.lemmas.Bool.{and_from}
use Rattle.std.proofs.lemmas.Simd.{map-map}
use Rattle.std.proofs.lemmas.Str.Ascii.{lowercase-uppercase, uppercase-uppercase}
use Rattle.std.proofs.lemmas.Slice.Eq.{bytes_eq-Decides}
use Rattle.ada_tree.specs.Words.{reserved_words, note_words, word_of}
use Rattle.ada_tree.specs.Texts.{is_word_among, is_free, is_big, is_upper_case}
use Rattle.lex_ada.specs.Meanings.{name_text}
use Rattle.lex_ada.proofs.lexing.Spelled.{is_short, short-lower}

-- one change of case hides another in all bytes if it does in each
map_hides : (f g h : ℕ → ℕ) → ((b : ℕ) → f (g b) ≡ h b) → (bytes : List ℕ) → map f (map g bytes) ≡ map h bytes
map_hides f g h e bytes = map-map f g bytes ∙ ap (λ (change : ℕ → ℕ). map change bytes) (λ i b. e b i)

-- in upper case a text is a name exactly where it is one
free-upper : (note : Bool) (bytes : List ℕ) → is_free note (name_text bytes) ≡ is_free note bytes
free-upper note bytes =
    let same : map to_ascii_lowercase (name_text bytes) ≡ map to_ascii_lowercase bytes = map_hides to_ascii_lowercase to_ascii_uppercase to_ascii_lowercase lowercase-uppercase bytes in
    let short : is_short (name_text bytes) ≡ is_short bytes = sym (short-lower (name_text bytes)) ∙ ap is_short same ∙ short-lower bytes in
    ap (λ (t : Bool). t && not (is_word_among reserved_words (name_text bytes)) && not (note && is_word_among note_words (name_text bytes))) short
    ∙ ap (λ (lower : List ℕ). is_short bytes && not (is_some (word_of reserved_words lower)) && not (note && is_some (word_of note_words lower))) same

-- the text of a name that bytes spell is a name in upper case
pub name_fits : (note : Bool) (bytes : List ℕ) → is_free note bytes ≡ true → is_big note (name_text bytes) ≡ true
name_fits note bytes e =
    let upper = (bytes_eq-Decides (name_text bytes) (map to_ascii_uppercase (name_text bytes))).1 (sym (map_hides to_ascii_uppercase to_ascii_uppercase to_ascii_uppercase uppercase-uppercase bytes)) in
    and_from (is_free note (name_text bytes)) (is_upper_case (name_text bytes)) (free-upper note bytes ∙ e) upper
