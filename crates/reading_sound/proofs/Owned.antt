-- A text that fits a piece of a line is written as the piece says.
use Rattle.std.proofs.Common.{◌≡◌, ℕ, List, [], ◌∷◌, refl, sym, ◌∙◌, ap, subst, Bool, true, false, Option, Some, None, if◌then◌else◌}
use Rattle.std.specs.Prelude.{bytes_eq, codes}
use Rattle.std.specs.Option.{option_map_or}
use Rattle.std.proofs.lemmas.Bool.{or_right}
use Rattle.std.proofs.lemmas.Slice.Eq.{bytes_eq-Decides}
use Rattle.ada_tree.specs.declared.grammar.Argument.{Argument}
use Rattle.ada_tree.specs.declared.grammar.Own.{Own as OwnText}
use Rattle.ada_tree.specs.declared.grammar.Own.TheVariants as own
use Rattle.ada_tree.specs.declared.word.Word.TheVariants as word
use Rattle.ada_tree.specs.Items.{lexemes, put, put_small}
use Rattle.ada_tree.specs.Nodes.{is_empty}
use Rattle.ada_tree.specs.Rules.{arguments_of}
use Rattle.ada_tree.specs.Texts.{fits_own, own_items, may_be_omitted, is_name, is_small}
use Rattle.ada_tree.specs.Tokens.{Lexeme, a_word}
use Rattle.text_laws.proofs.round_trip.Places.{both}
use Rattle.reading_sound.proofs.Equal.{one_list}
use Rattle.reading_sound.proofs.Keys.{by_key}
use Rattle.reading_sound.proofs.Meaning.{IsText}
use Rattle.reading_sound.proofs.Traces.{big, named, number, Text, simple, says, by_rule, dotted}
use Rattle.reading_sound.proofs.Walks.{may_be, owns, omits, is_name_text, arguments_told}
use Rattle.reading_sound.proofs.Words.{big_is_named}

-- what is said of a known text
of_known : (o : OwnText) (note : Bool) (t text : List ℕ) (ks ls : List Lexeme) → (fits_own note o t ≡ true) → ks ≡ lexemes (own_items o t) → (text ≡ t) × (ls ≡ ks) → (fits_own note o text ≡ true) × (ls ≡ lexemes (own_items o text))
of_known o note t text ks ls h q m = (ap (fits_own note o) m.0 ∙ h, m.1 ∙ q ∙ ap (λ t. lexemes (own_items o t)) (sym m.0))

rule_written : (text : List ℕ) (ls : List Lexeme) → is_small text ≡ true → ls ≡ lexemes (put_small text ∷ []) → (fits_own true own.Rule text ≡ true) × (ls ≡ lexemes (own_items own.Rule text))
rule_written text ls h q = (or_right (bytes_eq text (codes "range")) (is_small text) h, q ∙ by (bytes_eq text (codes "range")) refl)
  where
    by : (t : Bool) → bytes_eq text (codes "range") ≡ t → lexemes (put_small text ∷ []) ≡ lexemes (if t then put (a_word word.Range) ∷ [] else put_small text ∷ [])
    by true e = absurd (let z : is_small (codes "range") ≡ true = subst (λ t. is_small t ≡ true) ((bytes_eq-Decides text (codes "range")).0 e) h in cc)
    by false e = refl

pub owned : (note : Bool) (o : OwnText) (t : Text) (text : List ℕ) (ls : List Lexeme) → owns note o t ≡ true → IsText note t text ls → (fits_own note o text ≡ true) × (ls ≡ lexemes (own_items o text))
owned note o (says t ks) text ls h m = of_known o note t text ks ls (both h).0 (one_list ks (lexemes (own_items o t)) (both h).1) m
owned note own.Id (simple big) text ls h m = let n = big_is_named note text ls m in (n.0, n.2)
owned note own.Id (simple named) text ls h m = (m.0, m.2)
owned note own.Num (simple number) text ls h m = m
owned note own.Rule (by_rule f) text ls h m = rule_written text ls m.0 m.2
owned note own.Key (dotted ws) text ls h m = let p = both h in by_key ws text ls p.1 m
owned note _ _ text ls h m = absurd cc

pub no_lexemes : (ks : List Lexeme) → is_empty ks ≡ true → ks ≡ []
no_lexemes [] h = refl
no_lexemes (k ∷ ks) h = absurd cc

pub omitted_text : (note : Bool) (o : OwnText) (t : Text) (text : List ℕ) (ls : List Lexeme) → omits note o t ≡ true → IsText note t text ls → (fits_own note o text ≡ true) × (may_be_omitted o text ≡ true) × (ls ≡ [])
omitted_text note o (says t ks) text ls h m = (ap (fits_own note o) m.0 ∙ (both (both h).0).0, ap (may_be_omitted o) m.0 ∙ (both (both h).0).1, m.1 ∙ no_lexemes ks (both h).1)
omitted_text note o _ text ls h m = absurd cc

pub named_text : (note : Bool) (t : Text) (text : List ℕ) (ls : List Lexeme) → is_name_text note t ≡ true → IsText note t text ls → is_name false text ≡ true
named_text false (simple big) text ls h m = (big_is_named false text ls m).0
named_text false (simple named) text ls h m = m.0
named_text true (simple big) text ls h m = absurd cc
named_text true (simple named) text ls h m = absurd cc
named_text _ _ text ls h m = absurd cc

pub arguments_known : (note : Bool) (t : Text) (text : List ℕ) (ls : List Lexeme) (known : List Argument) → arguments_told t ≡ Some known → IsText note t text ls → arguments_of text ≡ known
arguments_known note (by_rule f) text ls known h m = m.1 ∙ ap (λ o. option_map_or (λ args. args) o []) h
arguments_known note (says t ks) text ls known h m = ap arguments_of m.0 ∙ ap (λ o. option_map_or (λ args. args) o []) h
arguments_known note _ text ls known h m = absurd cc

-- it is the one that is known
pub expected : (note : Bool) (known : Option (List ℕ)) (t : Text) (text : List ℕ) (ls : List Lexeme) → may_be known t ≡ true → IsText note t text ls → (u : List ℕ) → known ≡ Some u → text ≡ u
expected note None t text ls h m u g = absurd cc
expected note (Some known) (says t ks) text ls h m u g = m.0 ∙ (bytes_eq-Decides t known).0 h ∙ ap (λ o. option_map_or (λ u. u) o []) g
expected note (Some known) _ text ls h m u g = absurd cc
