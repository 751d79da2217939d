-- Names and keys: their tokens are read to their texts.
use Rattle.std.proofs.Common.{◌≡◌, ℕ, suc, ◌+◌, List, [], ◌∷◌, ◌++◌, refl, sym, ◌∙◌, ap, subst, Bool, true, false, not, ◌&&◌, ◌||◌, if◌then◌else◌, take, drop, map, codes, arith, eqb-true}
use Rattle.std.specs.Prelude.{bytes_eq, cond}
use Rattle.std.specs.Char.{to_ascii_lowercase, to_ascii_uppercase}
use Rattle.std.specs.List.{list_any, before_first, after_first, position_or_len}
use Rattle.std.specs.Cmp.Lexicographic.{bytes_decides}
use Rattle.std.proofs.lemmas.Bool.{and_parts}
use Rattle.std.proofs.lemmas.Str.Ascii.{lowercase-uppercase}
use Rattle.base_kit.specs.Bytes.{at_sign}
use Rattle.ada_tree.specs.declared.kind.Kind.TheVariants as kind
use Rattle.ada_tree.specs.declared.word.Word.TheVariants as word
use Rattle.ada_tree.specs.declared.word.Mark.TheVariants as mark
use Rattle.ada_tree.specs.Tokens.{Event, Lexeme, a_name, a_word, a_mark, spelled, spell}
use Rattle.ada_tree.specs.Items.{lexemes, put, put_small, glue}
use Rattle.ada_tree.specs.Texts.{is_name, is_joined, is_big, is_small, is_lower_case, is_at_sign, name_items, front_item}
use Rattle.reading_table.specs.declared.held.Held.{Held}
use Rattle.reading_table.specs.declared.held.Held.TheVariants as held
use Rattle.reading_table.specs.declared.rule.Rule.TheVariants as rule
use Rattle.reading_table.specs.declared.symbol.Symbol.TheVariants as symbol
use Rattle.reading_table.specs.declared.symbol.Tokens.TheVariants as tokens
use Rattle.reading_table.specs.Events.{Reads}
use Rattle.reading_table.specs.Rows.{Placed}
use Rattle.reading_table.specs.Tables.{first, later, acts, opens, omits}
use Rattle.reading_complete.proofs.Nodes.{take_event}

-- ---- two names joined by `@`

cut_at : (text : List ℕ) → list_any is_at_sign text ≡ true → before_first is_at_sign text ++ at_sign ∷ after_first is_at_sign text ≡ text
cut_at [] h = absurd cc
cut_at (x ∷ text) h = by (is_at_sign x) refl h (cut_at text)
  where
    by : (b : Bool) → is_at_sign x ≡ b → (b || list_any is_at_sign text) ≡ true → (list_any is_at_sign text ≡ true → before_first is_at_sign text ++ at_sign ∷ after_first is_at_sign text ≡ text)
        → take (cond (not b) (1 + position_or_len is_at_sign text) 0) (x ∷ text) ++ at_sign ∷ drop (cond (not b) (1 + position_or_len is_at_sign text) 0 + 1) (x ∷ text) ≡ x ∷ text
    by true e h go = ap (λ y. y ∷ text) (sym (eqb-true x at_sign e))
    by false e h go =
        let n : 1 + position_or_len is_at_sign text ≡ suc (position_or_len is_at_sign text) = omega arith in
        let m : suc (position_or_len is_at_sign text) + 1 ≡ suc (position_or_len is_at_sign text + 1) = omega arith in
        ap (λ k. take k (x ∷ text) ++ at_sign ∷ drop (k + 1) (x ∷ text)) n ∙ ap (λ k. x ∷ (take (position_or_len is_at_sign text) text ++ at_sign ∷ drop k (x ∷ text))) m ∙ ap (λ t. x ∷ t) (go h)

lower_again : (text : List ℕ) → map to_ascii_lowercase (map to_ascii_uppercase text) ≡ map to_ascii_lowercase text
lower_again [] = refl
lower_again (x ∷ text) = ap (λ y. y ∷ map to_ascii_lowercase (map to_ascii_uppercase text)) (lowercase-uppercase x) ∙ ap (λ t. to_ascii_lowercase x ∷ t) (lower_again text)

-- the text in lower case is what a small name's token is lowered to
pub small_again : (text : List ℕ) → is_small text ≡ true → map to_ascii_lowercase (map to_ascii_uppercase text) ≡ text
small_again text h = lower_again text ∙ sym ((bytes_decides text (map to_ascii_lowercase text)).0 (and_parts _ (is_lower_case text) h).1)

-- ---- the tokens of a name in an annotation

pub data NameSpelled : List ℕ → List Lexeme → Type 0 where
  alone : {text : List ℕ} → NameSpelled text (a_name text ∷ [])
  joined : (front back : List ℕ) → is_small back ≡ true → NameSpelled (front ++ at_sign ∷ back) (a_name front ∷ a_mark mark.AtSign ∷ a_name (map to_ascii_uppercase back) ∷ [])
  of_return : (back : List ℕ) → is_small back ≡ true → NameSpelled (codes "return" ++ at_sign ∷ back) (a_word word.Return ∷ a_mark mark.AtSign ∷ a_name (map to_ascii_uppercase back) ∷ [])

pub name_spelled : (text : List ℕ) → is_name true text ≡ true → NameSpelled text (lexemes (name_items text))
name_spelled text h = by (list_any is_at_sign text) refl h
  where
    front : List ℕ
    front = before_first is_at_sign text

    back : List ℕ
    back = after_first is_at_sign text

    by_front : (r : Bool) → bytes_eq (before_first is_at_sign text) (codes "return") ≡ r → is_small (after_first is_at_sign text) ≡ true
        → before_first is_at_sign text ++ at_sign ∷ after_first is_at_sign text ≡ text
        → NameSpelled text (lexemes ((if r then put (a_word word.Return) else put (a_name (before_first is_at_sign text))) ∷ glue ∷ put (a_mark mark.AtSign) ∷ glue ∷ put_small (after_first is_at_sign text) ∷ []))
    by_front true e s t = subst (λ t. NameSpelled t (a_word word.Return ∷ a_mark mark.AtSign ∷ a_name (map to_ascii_uppercase (after_first is_at_sign text)) ∷ []))
        (ap (λ f. f ++ at_sign ∷ after_first is_at_sign text) (sym ((bytes_decides (before_first is_at_sign text) (codes "return")).0 e)) ∙ t) (of_return (after_first is_at_sign text) s)
    by_front false e s t = subst (λ u. NameSpelled u (a_name (before_first is_at_sign text) ∷ a_mark mark.AtSign ∷ a_name (map to_ascii_uppercase (after_first is_at_sign text)) ∷ [])) t (joined (before_first is_at_sign text) (after_first is_at_sign text) s)

    by : (b : Bool) → list_any is_at_sign text ≡ b → (if b then true && is_joined (before_first is_at_sign text) (after_first is_at_sign text) else is_big true text) ≡ true
        → NameSpelled text (lexemes (if b then front_item (before_first is_at_sign text) ∷ glue ∷ put (a_mark mark.AtSign) ∷ glue ∷ put_small (after_first is_at_sign text) ∷ [] else put (a_name text) ∷ []))
    by true e h = by_front (bytes_eq (before_first is_at_sign text) (codes "return")) refl (and_parts _ (is_small (after_first is_at_sign text)) h).1 (cut_at text e)
    by false e h = alone

-- ---- reading them

-- what follows `@`
abbrev pub behind_at : List ℕ → List Event → List Event
behind_at back events = spelled true (a_mark mark.AtSign) ∷ spelled true (a_name (map to_ascii_uppercase back)) ∷ events

pub reads_back : (front back : List ℕ) → is_small back ≡ true → (ss : List Placed) (values : List Held) (events : List Event) (last : List Held) → Reads ss (held.Text (front ++ at_sign ∷ back) ∷ values) events last
    → Reads ((true, symbol.Keep tokens.Name) ∷ (true, symbol.Lower) ∷ (true, symbol.Paste 64) ∷ ss) (held.Text front ∷ values) (spelled true (a_name (map to_ascii_uppercase back)) ∷ events) last
reads_back front back s ss values events last d =
    take_event (true, symbol.Keep tokens.Name) ((true, symbol.Lower) ∷ (true, symbol.Paste 64) ∷ ss) (held.Text front ∷ values) (held.Text (map to_ascii_uppercase back) ∷ held.Text front ∷ values) _ events last refl refl refl
    (acts refl (acts refl (subst (λ b. Reads ss (held.Text (front ++ at_sign ∷ b) ∷ values) events last) (sym (small_again back s)) d)))

reads_joined : (front back : List ℕ) → is_small back ≡ true → (ss : List Placed) (values : List Held) (events : List Event) (last : List Held) → Reads ss (held.Text (front ++ at_sign ∷ back) ∷ values) events last
    → Reads ((true, symbol.Part rule.Joined) ∷ ss) (held.Text front ∷ values) (behind_at back events) last
reads_joined front back s ss values events last d =
    opens refl first (take_event (true, symbol.Take (tokens.Mark mark.AtSign)) ((true, symbol.Keep tokens.Name) ∷ (true, symbol.Lower) ∷ (true, symbol.Paste 64) ∷ ss) (held.Text front ∷ values) (held.Text front ∷ values) _ _ last refl refl refl
    (reads_back front back s ss values events last d))

pub reads_return : (back : List ℕ) → is_small back ≡ true → (ss : List Placed) (values : List Held) (events : List Event) (last : List Held) → Reads ss (held.Text (codes "return" ++ at_sign ∷ back) ∷ values) events last
    → Reads ((true, symbol.Part rule.ReturnName) ∷ ss) values (behind_at back events) last
reads_return back s ss values events last d =
    opens refl first (take_event (true, symbol.Take (tokens.Mark mark.AtSign)) ((true, symbol.Say word.Return) ∷ (true, symbol.Keep tokens.Name) ∷ (true, symbol.Lower) ∷ (true, symbol.Paste 64) ∷ ss) values values _ _ last refl refl refl
    (acts refl (reads_back (codes "return") back s ss values events last d)))

-- a name, by a rule that begins with a name and what may follow `@`, or with `return` and what follows it
reads_either : {text : List ℕ} {tokens_of : List Lexeme} → NameSpelled text tokens_of → (line ss : List Placed) (values : List Held) (events : List Event) (last : List Held)
    → ((es : List Event) → Reads ((true, symbol.Keep tokens.Name) ∷ (true, symbol.Part rule.Joined) ∷ ss) values es last → Reads line values es last)
    → ((es : List Event) → Reads ((true, symbol.Part rule.ReturnName) ∷ ss) values es last → Reads line values (spelled true (a_word word.Return) ∷ es) last)
    → Reads ss (held.Text text ∷ values) events last → Reads line values (spell true tokens_of events) last
reads_either (alone {text = text}) line ss values events last by_name by_return d =
    by_name _ (take_event (true, symbol.Keep tokens.Name) ((true, symbol.Part rule.Joined) ∷ ss) values (held.Text text ∷ values) _ events last refl refl refl (omits refl refl d))
reads_either (joined front back s) line ss values events last by_name by_return d =
    by_name _ (take_event (true, symbol.Keep tokens.Name) ((true, symbol.Part rule.Joined) ∷ ss) values (held.Text front ∷ values) _ (behind_at back events) last refl refl refl (reads_joined front back s ss values events last d))
reads_either (of_return back s) line ss values events last by_name by_return d =
    by_return (behind_at back events) (reads_return back s ss values events last d)

pub reads_named : {text : List ℕ} {written : List Lexeme} → NameSpelled text written → (ss : List Placed) (values : List Held) (events : List Event) (last : List Held) → Reads ss (held.Text text ∷ values) events last
    → Reads ((true, symbol.Part rule.Text) ∷ ss) values (spell true written events) last
reads_named n ss values events last d =
    reads_either n ((true, symbol.Part rule.Text) ∷ ss) ss values events last (λ es e. opens refl first e)
    (λ es e. opens refl (later first) (take_event (true, symbol.Take (tokens.Word word.Return)) ((true, symbol.Part rule.ReturnName) ∷ ss) values values _ es last refl refl refl e)) d

pub reads_note_text : (text : List ℕ) → is_name true text ≡ true → (ss : List Placed) (values : List Held) (events : List Event) (last : List Held) → Reads ss (held.Text text ∷ values) events last
    → Reads ((true, symbol.Part rule.Text) ∷ ss) values (spell true (lexemes (name_items text)) events) last
reads_note_text text h ss values events last d = reads_named (name_spelled text h) ss values events last d

-- a name at the beginning of an expression, which is a node by itself
pub reads_atom : (text : List ℕ) → is_name true text ≡ true → (ss : List Placed) (values : List Held) (events : List Event) (last : List Held) → Reads ((true, symbol.Build kind.Name 1) ∷ ss) (held.Text text ∷ values) events last
    → Reads ((true, symbol.Part rule.Atom) ∷ ss) values (spell true (lexemes (name_items text)) events) last
reads_atom text h ss values events last d =
    reads_either (name_spelled text h) ((true, symbol.Part rule.Atom) ∷ ss) ((true, symbol.Build kind.Name 1) ∷ ss) values events last (λ es e. opens refl first e)
    (λ es e. opens refl (later first) (take_event (true, symbol.Take (tokens.Word word.Return)) ((true, symbol.Part rule.ReturnTail) ∷ ss) values values _ es last refl refl refl (opens refl first e))) d

-- a name in Ada text
pub ada_lexemes : (text : List ℕ) → is_name false text ≡ true → lexemes (name_items text) ≡ a_name text ∷ []
ada_lexemes text h = by (list_any is_at_sign text) h
  where
    by : (b : Bool) → (if b then false && is_joined (before_first is_at_sign text) (after_first is_at_sign text) else is_big false text) ≡ true
        → lexemes (if b then front_item (before_first is_at_sign text) ∷ glue ∷ put (a_mark mark.AtSign) ∷ glue ∷ put_small (after_first is_at_sign text) ∷ [] else put (a_name text) ∷ []) ≡ a_name text ∷ []
    by true h = absurd cc
    by false h = refl

pub reads_kept_name : (text : List ℕ) → is_name false text ≡ true → (ss : List Placed) (values : List Held) (events : List Event) (last : List Held) → Reads ss (held.Text text ∷ values) events last
    → Reads ((false, symbol.Keep tokens.Name) ∷ ss) values (spell false (lexemes (name_items text)) events) last
reads_kept_name text h ss values events last d =
    subst (λ ls. Reads ((false, symbol.Keep tokens.Name) ∷ ss) values (spell false ls events) last) (sym (ada_lexemes text h))
    (take_event (false, symbol.Keep tokens.Name) ss values (held.Text text ∷ values) _ events last refl refl refl d)

pub reads_ada_text : (text : List ℕ) → is_name false text ≡ true → (ss : List Placed) (values : List Held) (events : List Event) (last : List Held) → Reads ss (held.Text text ∷ values) events last
    → Reads ((false, symbol.Part rule.Text) ∷ ss) values (spell false (lexemes (name_items text)) events) last
reads_ada_text text h ss values events last d = opens refl first (reads_kept_name text h ss values events last d)
