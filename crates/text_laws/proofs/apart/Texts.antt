-- The own texts of nodes can be told apart.
use Rattle.std.proofs.Common.{◌≡◌, ℕ, List, [], ◌∷◌, Bool, true, false, ◌&&◌, ◌||◌, refl, ◌∙◌, ap, if◌then◌else◌, arith}
use Rattle.std.specs.Prelude.{bytes_eq, codes, ◌==◌}
use Rattle.std.specs.Char.{is_ascii_alphanumeric}
use Rattle.std.specs.List.{list_any, list_all, slice_split, before_first, after_first}
use Rattle.std.proofs.lemmas.Bool.Decides.{nat_tests}
use Rattle.std.proofs.lemmas.Slice.Eq.{bytes_eq-Decides}
use Rattle.ada_tree.specs.declared.word.Word.TheVariants as word
use Rattle.ada_tree.specs.declared.word.Mark.TheVariants as mark
use Rattle.ada_tree.specs.declared.grammar.Own.{Own as OwnText}
use Rattle.ada_tree.specs.declared.grammar.Own.TheVariants as own
use Rattle.ada_tree.specs.Tokens.{a_name, a_number, a_word, a_mark}
use Rattle.ada_tree.specs.Items.{Item, put, put_small, glue}
use Rattle.ada_tree.specs.Texts.{fits_own, own_items, name_items, symbol_items, rule_items, key_items, dotted, front_item, label_item, is_at_sign, is_dot, is_identifier, is_big, is_small, is_name, is_joined, is_label, is_rule, are_key}
use Rattle.text_laws.proofs.round_trip.Places.{both}
use Rattle.text_laws.proofs.round_trip.OpenedItems.{one_of}
use Rattle.text_laws.proofs.apart.Fronts.{usual, starting, linking}
use Rattle.text_laws.proofs.apart.Items.{IsApart, append_apart, token_apart, small_apart, fit_items, fit_apart}

-- ---- names

front_apart : (text : List ℕ) → is_big true text || bytes_eq text (codes "return") ≡ true → IsApart true true starting usual (front_item text ∷ [])
front_apart text h = by_test (bytes_eq text (codes "return")) h
  where
    by_test : (b : Bool) → is_big true text || b ≡ true → IsApart true true starting usual ((if b then put (a_word word.Return) else put (a_name text)) ∷ [])
    by_test true h = fit_apart starting (put (a_word word.Return) ∷ []) refl
    by_test false h = token_apart (a_name text) (one_of (is_big true text) false h (λ e. e) (λ e. absurd cc)) refl

joined_apart : (note : Bool) (front back : List ℕ) → note && is_joined front back ≡ true → IsApart note note starting usual (front_item front ∷ glue ∷ put (a_mark mark.AtSign) ∷ glue ∷ put_small back ∷ [])
joined_apart false front back h = absurd cc
joined_apart true front back h =
    append_apart {middle = usual} {need = usual} {front = front_item front ∷ []} refl (front_apart front (both h).0)
    (append_apart {middle = starting} {need = starting} {front = glue ∷ put (a_mark mark.AtSign) ∷ glue ∷ []} refl (fit_apart usual (glue ∷ put (a_mark mark.AtSign) ∷ glue ∷ []) refl) (small_apart back (both h).1 refl))

name_apart : (note : Bool) (text : List ℕ) → is_name note text ≡ true → IsApart note note starting usual (name_items text)
name_apart note text h = by_test (list_any is_at_sign text) h
  where
    front : List ℕ
    front = before_first is_at_sign text

    back : List ℕ
    back = after_first is_at_sign text

    by_test : (b : Bool) → (if b then note && is_joined front back else is_big note text) ≡ true
        → IsApart note note starting usual (if b then front_item front ∷ glue ∷ put (a_mark mark.AtSign) ∷ glue ∷ put_small back ∷ [] else put (a_name text) ∷ [])
    by_test true h = joined_apart note front back h
    by_test false h = token_apart (a_name text) h refl

-- an identifier has no `@`
pub no_at_sign : (text : List ℕ) → list_all (λ b. is_ascii_alphanumeric b || b == 95) text ≡ true → list_any is_at_sign text ≡ false
no_at_sign [] h = refl
no_at_sign (b ∷ text) h = rw (not_at b (both h).0) (no_at_sign text (both h).1)
  where
    not_at : (b : ℕ) → is_ascii_alphanumeric b || b == 95 ≡ true → (b == 64) ≡ false
    not_at b h = grind (arith, nat_tests)

big_apart : (note : Bool) (text : List ℕ) → is_big note text ≡ true → IsApart note note starting usual (name_items text)
big_apart note text h =
    let identifier : is_identifier text ≡ true = (both (both (both (both h).0).0).0).0 in
    let none : list_any is_at_sign text ≡ false = no_at_sign text (both (both identifier).0).1 in
    name_apart note text (rw none h)

-- ---- keys and rules

dotted_apart : {front back : List Item} → IsApart true true starting usual front → IsApart true true starting usual back → IsApart true true starting usual (dotted front back)
dotted_apart f b = append_apart {middle = usual} {need = linking} refl f (append_apart {middle = starting} {need = starting} {front = put (a_mark mark.Dot) ∷ []} refl (token_apart (a_mark mark.Dot) refl refl) b)

label_apart : (text : List ℕ) → is_label text ≡ true → IsApart true true starting usual (label_item text ∷ [])
label_apart text h = by_test (bytes_eq text (codes "entry")) h
  where
    by_test : (b : Bool) → b || is_small text ≡ true → IsApart true true starting usual ((if b then put (a_word word.Entry) else put_small text) ∷ [])
    by_test true h = fit_apart starting (put (a_word word.Entry) ∷ []) refl
    by_test false h = small_apart text h refl

rule_apart : (text : List ℕ) → is_rule text ≡ true → IsApart true true starting usual (rule_items text)
rule_apart text h = by_test (bytes_eq text (codes "range")) h
  where
    by_test : (b : Bool) → b || is_small text ≡ true → IsApart true true starting usual (if b then put (a_word word.Range) ∷ [] else put_small text ∷ [])
    by_test true h = fit_apart starting (put (a_word word.Range) ∷ []) refl
    by_test false h = small_apart text h refl

key_apart : (parts : List (List ℕ)) → are_key parts ≡ true → IsApart true true starting usual (key_items parts)
key_apart (trait_name ∷ lemma ∷ []) h = dotted_apart (name_apart true trait_name (both h).0) (name_apart true lemma (both h).1)
key_apart (unit ∷ label ∷ number ∷ []) h = dotted_apart (big_apart true unit (both (both h).0).0) (dotted_apart (label_apart label (both (both h).0).1) (token_apart (a_number number) (both h).1 refl))
key_apart (owner ∷ unit ∷ label ∷ number ∷ []) h =
    let front = (both h).0 in
    dotted_apart (big_apart true owner (both (both front).0).0) (dotted_apart (big_apart true unit (both (both front).0).1) (dotted_apart (label_apart label (both front).1) (token_apart (a_number number) (both h).1 refl)))
key_apart _ h = absurd cc

-- ---- modes

mode_as : (note : Bool) (text wanted : List ℕ) → fit_items note starting usual (symbol_items wanted) ≡ true → bytes_eq text wanted ≡ true → IsApart note note starting usual (symbol_items text)
mode_as note text wanted f e = fit_apart starting (symbol_items text) (ap (λ t. fit_items note starting usual (symbol_items t)) ((bytes_eq-Decides text wanted).0 e) ∙ f)

in_fits : (note : Bool) → fit_items note starting usual (symbol_items (codes "in")) ≡ true
in_fits true = refl
in_fits false = refl

out_fits : (note : Bool) → fit_items note starting usual (symbol_items (codes "out")) ≡ true
out_fits true = refl
out_fits false = refl

both_fit : (note : Bool) → fit_items note starting usual (symbol_items (codes "in out")) ≡ true
both_fit true = refl
both_fit false = refl

-- ---- own texts but operators

-- the names of rules, and keys, stand in annotations
abbrev pub is_noted_own : Bool → OwnText → Bool
is_noted_own note own.Rule = note
is_noted_own note own.Key = note
is_noted_own note own.Operator = false
is_noted_own note _ = true

pub own_apart : (note : Bool) (own : OwnText) (text : List ℕ) → is_noted_own note own ≡ true → fits_own note own text ≡ true → IsApart note note starting usual (own_items own text)
own_apart note own.Id text n h = name_apart note text h
own_apart note own.Closing text n h = name_apart note text h
own_apart note own.Num text n h = token_apart (a_number text) h refl
own_apart note own.Mode text n h =
    one_of (bytes_eq text (codes "in") || bytes_eq text (codes "out")) _ h
    (λ e. one_of (bytes_eq text (codes "in")) _ e (mode_as note text (codes "in") (in_fits note)) (mode_as note text (codes "out") (out_fits note)))
    (mode_as note text (codes "in out") (both_fit note))
own_apart note own.GlobalMode text n h = one_of (bytes_eq text (codes "in")) _ h (mode_as note text (codes "in") (in_fits note)) (mode_as note text (codes "in out") (both_fit note))
own_apart note own.Operator text n h = absurd cc
own_apart true own.Rule text n h = rule_apart text h
own_apart false own.Rule text n h = absurd cc
own_apart true own.Key text n h = key_apart (slice_split is_dot text) h
own_apart false own.Key text n h = absurd cc
