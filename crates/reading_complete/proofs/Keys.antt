-- The tokens of a key are read to its text.
use Rattle.std.proofs.Common.{◌≡◌, ℕ, List, [], ◌∷◌, ◌++◌, refl, sym, ap, subst, Bool, true, false, ◌&&◌, ◌||◌, if◌then◌else◌, codes, map, arith}
use Rattle.std.specs.Cmp.Lexicographic.{bytes_decides}
use Rattle.std.specs.Prelude.{bytes_eq, ◌==◌}
use Rattle.std.specs.Char.{is_ascii_alphabetic, is_ascii_alphanumeric, to_ascii_uppercase}
use Rattle.std.specs.List.{list_any, list_all, slice_split, join_with_byte}
use Rattle.std.proofs.lemmas.Bool.{and_parts}
use Rattle.std.proofs.lemmas.Bool.Decides.{nat_tests}
use Rattle.std.proofs.lemmas.List.Splits.{join_with_byte-slice_split}
use Rattle.base_kit.specs.Bytes.{at_sign, dot}
use Rattle.base_kit.specs.Bytes as byte
use Rattle.ada_tree.specs.declared.kind.Kind.TheVariants as kind
use Rattle.ada_tree.specs.declared.word.Word.TheVariants as word
use Rattle.ada_tree.specs.declared.word.Mark.TheVariants as mark
use Rattle.ada_tree.specs.Tokens.{Event, Lexeme, a_name, a_number, a_word, a_mark, spelled, spell}
use Rattle.ada_tree.specs.Items.{Item, put, put_small, lexemes}
use Rattle.ada_tree.specs.Texts.{is_key, are_key, key_items, dotted, label_item, is_dot, is_name, is_big, is_small, is_label, is_number, is_identifier, is_at_sign, name_items, begins, is_spaced}
use Rattle.reading_table.specs.declared.held.Held.{Held}
use Rattle.reading_table.specs.declared.held.Held.TheVariants as held
use Rattle.reading_table.specs.declared.rule.Rule.TheVariants as rule
use Rattle.reading_table.specs.declared.symbol.Symbol.{Symbol}
use Rattle.reading_table.specs.declared.symbol.Symbol.TheVariants as symbol
use Rattle.reading_table.specs.declared.symbol.Tokens.TheVariants as tokens
use Rattle.reading_table.specs.Events.{Reads}
use Rattle.reading_table.specs.Rows.{Placed}
use Rattle.reading_table.specs.Tables.{first, later, acts, opens, omits}
use Rattle.reading_complete.proofs.Names.{NameSpelled, alone, joined, of_return, name_spelled, reads_back, reads_return, small_again, reads_named}
use Rattle.reading_complete.proofs.Nodes.{take_event}

-- an identifier has no `@`, so it is one token
no_at : (text : List ℕ) → list_all (λ b. is_ascii_alphanumeric b || b == byte.underscore) text ≡ true → list_any is_at_sign text ≡ false
no_at [] h = refl
no_at (b ∷ text) h = let parts = and_parts (is_ascii_alphanumeric b || b == byte.underscore) (list_all (λ b. is_ascii_alphanumeric b || b == byte.underscore) text) h in rw (not_at b parts.0) (no_at text parts.1)
  where
    not_at : (b : ℕ) → (is_ascii_alphanumeric b || b == 95) ≡ true → (b == 64) ≡ false
    not_at b h = grind (arith, nat_tests)

big_items : (text : List ℕ) → is_big true text ≡ true → name_items text ≡ put (a_name text) ∷ []
big_items text h =
    let free = (and_parts _ _ h).0 in
    let identifier : is_identifier text ≡ true = (and_parts _ _ (and_parts _ _ (and_parts _ _ free).0).0).0 in
    let none : list_any is_at_sign text ≡ false = no_at text (and_parts (begins is_ascii_alphabetic text) (list_all (λ b. is_ascii_alphanumeric b || b == byte.underscore) text) (and_parts _ (is_spaced true text) identifier).0).1 in
    rw none refl

-- two lists of items with a dot between them
spell_dotted : (front back : List Item) (events : List Event) → spell true (lexemes (dotted front back)) events ≡ spell true (lexemes front) (spelled true (a_mark mark.Dot) ∷ spell true (lexemes back) events)
spell_dotted [] back events = refl
spell_dotted (put lexeme ∷ front) back events = ap (λ es. spelled true lexeme ∷ es) (spell_dotted front back events)
spell_dotted (put_small text ∷ front) back events = ap (λ es. spelled true (a_name (map to_ascii_uppercase text)) ∷ es) (spell_dotted front back events)
spell_dotted (_ ∷ front) back events = spell_dotted front back events

-- ---- one symbol

abbrev a_dot : Event
a_dot = spelled true (a_mark mark.Dot)

abbrev at_note : Symbol → Placed
at_note s = (true, s)

abbrev takes_dot : Placed
takes_dot = at_note (symbol.Take (tokens.Mark mark.Dot))

keeps : (text : List ℕ) (ss : List Placed) (values : List Held) (events : List Event) (last : List Held) → Reads ss (held.Text text ∷ values) events last → Reads (at_note (symbol.Keep tokens.Name) ∷ ss) values (spelled true (a_name text) ∷ events) last
keeps text ss values events last d = take_event (at_note (symbol.Keep tokens.Name)) ss values (held.Text text ∷ values) (spelled true (a_name text)) events last refl refl refl d

counts : (number : List ℕ) (ss : List Placed) (values : List Held) (events : List Event) (last : List Held) → Reads ss (held.Text number ∷ values) events last → Reads (at_note (symbol.Keep tokens.Number) ∷ ss) values (spelled true (a_number number) ∷ events) last
counts number ss values events last d = take_event (at_note (symbol.Keep tokens.Number)) ss values (held.Text number ∷ values) (spelled true (a_number number)) events last refl refl refl d

enters : (ss : List Placed) (values : List Held) (events : List Event) (last : List Held) → Reads ss (held.Text (codes "entry") ∷ values) events last → Reads (at_note (symbol.Keep (tokens.Word word.Entry)) ∷ ss) values (spelled true (a_word word.Entry) ∷ events) last
enters ss values events last d = take_event (at_note (symbol.Keep (tokens.Word word.Entry))) ss values (held.Text (codes "entry") ∷ values) (spelled true (a_word word.Entry)) events last refl refl refl d

dots : (ss : List Placed) (values : List Held) (events : List Event) (last : List Held) → Reads ss values events last → Reads (takes_dot ∷ ss) values (a_dot ∷ events) last
dots ss values events last d = take_event takes_dot ss values values a_dot events last refl refl refl d

at_signs : (ss : List Placed) (values : List Held) (events : List Event) (last : List Held) → Reads ss values events last → Reads (at_note (symbol.Take (tokens.Mark mark.AtSign)) ∷ ss) values (spelled true (a_mark mark.AtSign) ∷ events) last
at_signs ss values events last d = take_event (at_note (symbol.Take (tokens.Mark mark.AtSign))) ss values values (spelled true (a_mark mark.AtSign)) events last refl refl refl d

returns : (ss : List Placed) (values : List Held) (events : List Event) (last : List Held) → Reads ss values events last → Reads (at_note (symbol.Take (tokens.Word word.Return)) ∷ ss) values (spelled true (a_word word.Return) ∷ events) last
returns ss values events last d = take_event (at_note (symbol.Take (tokens.Word word.Return))) ss values values (spelled true (a_word word.Return)) events last refl refl refl d

-- ---- a trait's name and a lemma's

lemma_reads : {back : List ℕ} {written : List Lexeme} → NameSpelled back written → (front : List ℕ) (ss : List Placed) (values : List Held) (events : List Event) (last : List Held)
    → Reads (at_note (symbol.Build kind.Key 1) ∷ ss) (held.Text (front ++ dot ∷ back) ∷ values) events last → Reads (at_note (symbol.Part rule.KeyLemma) ∷ ss) (held.Text front ∷ values) (a_dot ∷ spell true written events) last
lemma_reads n front ss values events last d = opens refl first (dots _ _ _ last (reads_named n _ _ events last (acts refl d)))

part_reads : {back : List ℕ} {written : List Lexeme} → NameSpelled back written → (front : List ℕ) (ss : List Placed) (values : List Held) (events : List Event) (last : List Held)
    → Reads (at_note (symbol.Build kind.Key 1) ∷ ss) (held.Text (front ++ dot ∷ back) ∷ values) events last → Reads (at_note (symbol.Part rule.KeyPart) ∷ ss) (held.Text front ∷ values) (spell true written events) last
part_reads (alone {text = text}) front ss values events last d = opens refl first (keeps text _ _ events last (omits refl refl (acts refl d)))
part_reads (joined name back s) front ss values events last d = opens refl first (keeps name _ _ _ last (opens refl first (at_signs _ _ _ last (reads_back name back s _ _ events last (acts refl d)))))
part_reads (of_return back s) front ss values events last d = opens refl (later (later first)) (returns _ _ _ last (reads_return back s _ _ events last (acts refl d)))

names_read : {front back : List ℕ} {written rest : List Lexeme} → NameSpelled front written → NameSpelled back rest → (ss : List Placed) (values : List Held) (events : List Event) (last : List Held)
    → Reads (at_note (symbol.Build kind.Key 1) ∷ ss) (held.Text (front ++ dot ∷ back) ∷ values) events last → Reads (at_note (symbol.Part rule.Key) ∷ ss) values (spell true written (a_dot ∷ spell true rest events)) last
names_read (alone {text = text}) n ss values events last d = opens refl first (keeps text _ _ _ last (opens refl (later first) (dots _ _ _ last (part_reads n text ss values events last d))))
names_read (joined name back s) n ss values events last d =
    opens refl first (keeps name _ _ _ last (opens refl first (at_signs _ _ _ last (reads_back name back s _ _ _ last (lemma_reads n (name ++ at_sign ∷ back) ss values events last d)))))
names_read (of_return back s) n ss values events last d = opens refl (later first) (returns _ _ _ last (reads_return back s _ _ _ last (lemma_reads n (codes "return" ++ at_sign ∷ back) ss values events last d)))

-- ---- units, a label and a number

-- a label is `entry`, or a small name
data LabelSpelled : List ℕ → List Item → Type 0 where
  entry : LabelSpelled (codes "entry") (put (a_word word.Entry) ∷ [])
  small : (text : List ℕ) → is_small text ≡ true → LabelSpelled text (put_small text ∷ [])

label_spelled : (text : List ℕ) → is_label text ≡ true → LabelSpelled text (label_item text ∷ [])
label_spelled text h = by (bytes_eq text (codes "entry")) refl h
  where
    by : (b : Bool) → bytes_eq text (codes "entry") ≡ b → (b || is_small text) ≡ true → LabelSpelled text ((if b then put (a_word word.Entry) else put_small text) ∷ [])
    by true e h = subst (λ t. LabelSpelled t (put (a_word word.Entry) ∷ [])) (sym (((bytes_decides text (codes "entry")).0 e))) entry
    by false e h = small text h

-- the events of a label and a number
abbrev labelled : List Item → List ℕ → List Event → List Event
labelled items number events = spell true (lexemes items) (a_dot ∷ spelled true (a_number number) ∷ events)

lowered_again : (text : List ℕ) → is_small text ≡ true → (ss : List Placed) (values : List Held) (events : List Event) (last : List Held) → Reads ss (held.Text text ∷ values) events last
    → Reads (at_note symbol.Lower ∷ ss) (held.Text (map to_ascii_uppercase text) ∷ values) events last
lowered_again text s ss values events last d = acts refl (subst (λ t. Reads ss (held.Text t ∷ values) events last) (sym (small_again text s)) d)

unit_reads : {label : List ℕ} {items : List Item} → LabelSpelled label items → (unit number : List ℕ) (ss : List Placed) (values : List Held) (events : List Event) (last : List Held)
    → Reads (at_note (symbol.Build kind.Key 1) ∷ ss) (held.Text (unit ++ dot ∷ (label ++ dot ∷ number)) ∷ values) events last
    → Reads (at_note (symbol.Part rule.Key) ∷ ss) values (spelled true (a_name unit) ∷ a_dot ∷ labelled items number events) last
unit_reads entry unit number ss values events last d =
    opens refl first (keeps unit _ _ _ last (opens refl (later first) (dots _ _ _ last (opens refl (later first) (enters _ _ _ last (dots _ _ _ last (counts number _ _ events last (acts refl (acts refl d)))))))))
unit_reads (small label s) unit number ss values events last d =
    opens refl first (keeps unit _ _ _ last (opens refl (later first) (dots _ _ _ last (opens refl first (keeps (map to_ascii_uppercase label) _ _ _ last (opens refl (later first) (dots _ _ _ last
    (opens refl first (lowered_again label s _ _ _ last (counts number _ _ events last (acts refl (acts refl d))))))))))))

owner_reads : {label : List ℕ} {items : List Item} → LabelSpelled label items → (owner unit number : List ℕ) (ss : List Placed) (values : List Held) (events : List Event) (last : List Held)
    → Reads (at_note (symbol.Build kind.Key 1) ∷ ss) (held.Text (owner ++ dot ∷ (unit ++ dot ∷ (label ++ dot ∷ number))) ∷ values) events last
    → Reads (at_note (symbol.Part rule.Key) ∷ ss) values (spelled true (a_name owner) ∷ a_dot ∷ spelled true (a_name unit) ∷ a_dot ∷ labelled items number events) last
owner_reads l owner unit number ss values events last d =
    opens refl first (keeps owner _ _ _ last (opens refl (later first) (dots _ _ _ last (opens refl first (keeps unit _ _ _ last (opens refl (later first) (dots _ _ _ last (opens refl (later first) (label_reads l d)))))))))
  where
    label_reads : {label : List ℕ} {items : List Item} → LabelSpelled label items → Reads (at_note (symbol.Build kind.Key 1) ∷ ss) (held.Text (owner ++ dot ∷ (unit ++ dot ∷ (label ++ dot ∷ number))) ∷ values) events last
        → Reads (at_note (symbol.Part rule.KeyLabel) ∷ takes_dot ∷ at_note (symbol.Keep tokens.Number) ∷ at_note (symbol.Paste 46) ∷ at_note (symbol.Paste 46) ∷ at_note (symbol.Paste 46) ∷ at_note (symbol.Build kind.Key 1) ∷ ss)
        (held.Text unit ∷ held.Text owner ∷ values) (labelled items number events) last
    label_reads entry d = opens refl (later first) (enters _ _ _ last (dots _ _ _ last (counts number _ _ events last (acts refl (acts refl (acts refl d))))))
    label_reads (small label s) d = opens refl first (keeps (map to_ascii_uppercase label) _ _ _ last (lowered_again label s _ _ _ last (dots _ _ _ last (counts number _ _ events last (acts refl (acts refl (acts refl d)))))))

-- ---- keys

key_reads : (parts : List (List ℕ)) → are_key parts ≡ true → (ss : List Placed) (values : List Held) (events : List Event) (last : List Held) → Reads (at_note (symbol.Build kind.Key 1) ∷ ss) (held.Text (join_with_byte dot parts) ∷ values) events last
    → Reads (at_note (symbol.Part rule.Key) ∷ ss) values (spell true (lexemes (key_items parts)) events) last
key_reads (trait_name ∷ lemma ∷ []) h ss values events last d =
    let parts = and_parts (is_name true trait_name) (is_name true lemma) h in
    subst (λ es. Reads (at_note (symbol.Part rule.Key) ∷ ss) values es last) (sym (spell_dotted (name_items trait_name) (name_items lemma) events))
    (names_read (name_spelled trait_name parts.0) (name_spelled lemma parts.1) ss values events last d)
key_reads (unit ∷ label ∷ number ∷ []) h ss values events last d =
    let parts = and_parts (is_big true unit && is_label label) (is_number number) h in
    let two = and_parts (is_big true unit) (is_label label) parts.0 in
    subst (λ items. Reads (at_note (symbol.Part rule.Key) ∷ ss) values (spell true (lexemes (dotted items (dotted (label_item label ∷ []) (put (a_number number) ∷ [])))) events) last) (sym (big_items unit two.0))
    (subst (λ es. Reads (at_note (symbol.Part rule.Key) ∷ ss) values (spelled true (a_name unit) ∷ a_dot ∷ es) last) (sym (spell_dotted (label_item label ∷ []) (put (a_number number) ∷ []) events))
    (unit_reads (label_spelled label two.1) unit number ss values events last d))
key_reads (owner ∷ unit ∷ label ∷ number ∷ []) h ss values events last d =
    let parts = and_parts (is_big true owner && is_big true unit && is_label label) (is_number number) h in
    let three = and_parts (is_big true owner && is_big true unit) (is_label label) parts.0 in
    let two = and_parts (is_big true owner) (is_big true unit) three.0 in
    subst (λ items. Reads (at_note (symbol.Part rule.Key) ∷ ss) values (spell true (lexemes (dotted items (dotted (name_items unit) (dotted (label_item label ∷ []) (put (a_number number) ∷ []))))) events) last) (sym (big_items owner two.0))
    (subst (λ items. Reads (at_note (symbol.Part rule.Key) ∷ ss) values (spelled true (a_name owner) ∷ a_dot ∷ spell true (lexemes (dotted items (dotted (label_item label ∷ []) (put (a_number number) ∷ [])))) events) last) (sym (big_items unit two.1))
    (subst (λ es. Reads (at_note (symbol.Part rule.Key) ∷ ss) values (spelled true (a_name owner) ∷ a_dot ∷ spelled true (a_name unit) ∷ a_dot ∷ es) last) (sym (spell_dotted (label_item label ∷ []) (put (a_number number) ∷ []) events))
    (owner_reads (label_spelled label three.1) owner unit number ss values events last d)))
key_reads _ h ss values events last d = absurd cc

pub reads_key : (text : List ℕ) → is_key text ≡ true → (ss : List Placed) (values : List Held) (events : List Event) (last : List Held) → Reads ((true, symbol.Build kind.Key 1) ∷ ss) (held.Text text ∷ values) events last
    → Reads ((true, symbol.Part rule.Key) ∷ ss) values (spell true (lexemes (key_items (slice_split is_dot text))) events) last
reads_key text h ss values events last d =
    key_reads (slice_split is_dot text) h ss values events last (subst (λ t. Reads ((true, symbol.Build kind.Key 1) ∷ ss) (held.Text t ∷ values) events last) (sym (join_with_byte-slice_split dot text)) d)
