-- Ways to read: each gives all rests that it may leave of some events. What a way gives is shown by parts.
use Rattle.std.proofs.Common.{◌≡◌, ℕ, List, [], ◌∷◌, ◌++◌, Bool, true, false, ◌&&◌, refl, sym, ◌∙◌, ap, subst, flat_map, bytes_eq}
use Rattle.std.proofs.lemmas.Bool.{and_parts}
use Rattle.std.specs.List.{list_any}
use Rattle.std.specs.Cmp.{booleans_Decides}
use Rattle.std.proofs.lemmas.Slice.Eq.{bytes_eq-Decides}
use mathlib.Core.Bool.{beq}
use denote.Enum.Bare.{sameb, same_true}
use Rattle.ada_tree.specs.contracts.word.Word as word_row
use Rattle.ada_tree.specs.contracts.word.Mark as mark_row
use Rattle.ada_tree.specs.Nodes.{is_empty}
use Rattle.ada_tree.specs.Tokens.{Lexeme, a_name, a_number, a_word, a_mark, Event, spelled, comments, spell}

-- ---- tests

abbrev pub same_texts : List (List ℕ) → List (List ℕ) → Bool
same_texts [] [] = true
same_texts (x ∷ xs) (y ∷ ys) = bytes_eq x y && same_texts xs ys
same_texts _ _ = false

pub same_texts_are : (xs ys : List (List ℕ)) → same_texts xs ys ≡ true → xs ≡ ys
same_texts_are [] [] h = refl
same_texts_are [] (y ∷ ys) h = absurd cc
same_texts_are (x ∷ xs) [] h = absurd cc
same_texts_are (x ∷ xs) (y ∷ ys) h =
    let p = and_parts (bytes_eq x y) (same_texts xs ys) h in
    ap (λ (z : List ℕ). z ∷ xs) ((bytes_eq-Decides x y).0 p.0) ∙ ap (λ (zs : List (List ℕ)). y ∷ zs) (same_texts_are xs ys p.1)

abbrev pub same_lexeme : Lexeme → Lexeme → Bool
same_lexeme (a_name a) (a_name b) = bytes_eq a b
same_lexeme (a_number a) (a_number b) = bytes_eq a b
same_lexeme (a_word a) (a_word b) = sameb word_row.the_type a b
same_lexeme (a_mark a) (a_mark b) = sameb mark_row.the_type a b
same_lexeme _ _ = false

pub same_lexeme_is : (a b : Lexeme) → same_lexeme a b ≡ true → a ≡ b
same_lexeme_is (a_name a) (a_name b) h = ap a_name ((bytes_eq-Decides a b).0 h)
same_lexeme_is (a_number a) (a_number b) h = ap a_number ((bytes_eq-Decides a b).0 h)
same_lexeme_is (a_word a) (a_word b) h = ap a_word (same_true word_row.the_type tt a b h)
same_lexeme_is (a_mark a) (a_mark b) h = ap a_mark (same_true mark_row.the_type tt a b h)
same_lexeme_is _ _ h = absurd cc

abbrev pub is_token : Bool → Lexeme → Event → Bool
is_token note lexeme (spelled other_note other) = beq note other_note && same_lexeme lexeme other
is_token note lexeme (comments notes) = false

pub token_is : (note : Bool) (lexeme : Lexeme) (event : Event) → is_token note lexeme event ≡ true → event ≡ spelled note lexeme
token_is note lexeme (spelled other_note other) h =
    let p = and_parts (beq note other_note) (same_lexeme lexeme other) h in
    sym (ap (λ (b : Bool). spelled b lexeme) ((booleans_Decides note other_note).0 p.0) ∙ ap (spelled other_note) (same_lexeme_is lexeme other p.1))
token_is note lexeme (comments notes) h = absurd cc

-- ---- a fact of each element of a list

pub data Every {A : Type 0} (P : A → Type 0) : List A → Type 0 where
  no_element : Every P []
  element : {x : A} {xs : List A} → P x → Every P xs → Every P (x ∷ xs)

pub every_append : {A : Type 0} {P : A → Type 0} (xs : List A) {ys : List A} → Every P xs → Every P ys → Every P (xs ++ ys)
every_append [] no_element more = more
every_append (x ∷ xs) (element p ps) more = element p (every_append xs ps more)

pub every_flat : {A B : Type 0} {P : A → Type 0} {Q : B → Type 0} (f : B → List A) → ((y : B) → Q y → Every P (f y)) → (ys : List B) → Every Q ys → Every P (flat_map f ys)
every_flat f each [] no_element = no_element
every_flat f each (y ∷ ys) (element q qs) = every_append (f y) (each y q) (every_flat f each ys qs)

pub every_map : {A : Type 0} {P Q : A → Type 0} (xs : List A) → ((x : A) → P x → Q x) → Every P xs → Every Q xs
every_map [] implied no_element = no_element
every_map (x ∷ xs) implied (element p ps) = element (implied x p) (every_map xs implied ps)

-- the empty one is among them
pub every_empty : {A : Type 0} (P : List A → Type 0) (xs : List (List A)) → Every P xs → list_any is_empty xs ≡ true → P []
every_empty P [] no_element h = absurd cc
every_empty P ([] ∷ xs) (element p ps) h = p
every_empty P ((y ∷ ys) ∷ xs) (element p ps) h = every_empty P xs ps h

-- ---- ways

abbrev pub Way : Type 0
Way = List Event → List (List Event)

abbrev pub fails : Way
fails events = []

abbrev pub takes_nothing : Way
takes_nothing events = events ∷ []

abbrev pub sequence : Way → Way → Way
sequence p q events = flat_map q (p events)

abbrev pub either : Way → Way → Way
either p q events = p events ++ q events

-- what isn't chosen isn't computed
abbrev pub choose : Bool → Way → Way → Way
choose true p q events = p events
choose false p q events = q events

abbrev pub guarded : Bool → Way → Way
guarded test p events = choose test p fails events

abbrev pub takes_token : Bool → Lexeme → Way
takes_token note lexeme [] = []
takes_token note lexeme (event ∷ events) = choose (is_token note lexeme event) takes_nothing fails events

abbrev pub takes_tokens : Bool → List Lexeme → Way
takes_tokens note [] events = events ∷ []
takes_tokens note (lexeme ∷ lexemes) events = sequence (takes_token note lexeme) (takes_tokens note lexemes) events

abbrev pub takes_comments : List (List ℕ) → Way
takes_comments notes [] = []
takes_comments notes (spelled note lexeme ∷ events) = []
takes_comments notes (comments others ∷ events) = choose (same_texts notes others) takes_nothing fails events

-- ---- what ways give: each rest is related to the events as R says

pub record Gives (way : Way) (R : List Event → List Event → Type 0) : Type 0 where
  pub at : (events : List Event) → Every (R events) (way events)

pub fails_gives : {R : List Event → List Event → Type 0} → Gives fails R
fails_gives = record { at = λ events. no_element }

pub nothing_gives : {R : List Event → List Event → Type 0} → ((events : List Event) → R events events) → Gives takes_nothing R
nothing_gives related = record { at = λ events. element (related events) no_element }

pub sequence_gives : {p q : Way} {R S T : List Event → List Event → Type 0} → Gives p R → Gives q S → ((events middle rest : List Event) → R events middle → S middle rest → T events rest) → Gives (sequence p q) T
sequence_gives {p = p} {q = q} {R = R} {S = S} {T = T} g h joined = record {
  at = λ events. every_flat {P = T events} {Q = R events} q (λ middle r. rests events middle r (q middle) (h.at middle)) (p events) (g.at events);
}
  where
    rests : (events middle : List Event) → R events middle → (xs : List (List Event)) → Every (S middle) xs → Every (T events) xs
    rests events middle r [] no_element = no_element
    rests events middle r (x ∷ xs) (element s ss) = element (joined events middle x r s) (rests events middle r xs ss)

pub either_gives : {p q : Way} {R : List Event → List Event → Type 0} → Gives p R → Gives q R → Gives (either p q) R
either_gives {p = p} g h = record { at = λ events. every_append (p events) (g.at events) (h.at events) }

pub choose_gives : {p q : Way} {R : List Event → List Event → Type 0} (test : Bool) → (test ≡ true → Gives p R) → (test ≡ false → Gives q R) → Gives (choose test p q) R
choose_gives true g h = g refl
choose_gives false g h = h refl

pub guarded_gives : {p : Way} {R : List Event → List Event → Type 0} (test : Bool) → (test ≡ true → Gives p R) → Gives (guarded test p) R
guarded_gives test g = choose_gives test g (λ e. fails_gives)

pub token_gives : (note : Bool) (lexeme : Lexeme) → Gives (takes_token note lexeme) (λ events rest. events ≡ spelled note lexeme ∷ rest)
token_gives note lexeme = record { at = each }
  where
    by_test : (event : Event) (events : List Event) (test : Bool) → is_token note lexeme event ≡ test → Every (λ rest. event ∷ events ≡ spelled note lexeme ∷ rest) (choose test takes_nothing fails events)
    by_test event events true e = element (ap (λ (x : Event). x ∷ events) (token_is note lexeme event e)) no_element
    by_test event events false e = no_element

    each : (events : List Event) → Every (λ rest. events ≡ spelled note lexeme ∷ rest) (takes_token note lexeme events)
    each [] = no_element
    each (event ∷ events) = by_test event events (is_token note lexeme event) refl

pub tokens_give : (note : Bool) (lexemes : List Lexeme) → Gives (takes_tokens note lexemes) (λ events rest. events ≡ spell note lexemes rest)
tokens_give note [] = nothing_gives (λ events. refl)
tokens_give note (lexeme ∷ lexemes) =
    sequence_gives (token_gives note lexeme) (tokens_give note lexemes) (λ events middle rest e f. e ∙ ap (λ (xs : List Event). spelled note lexeme ∷ xs) f)

pub comments_give : (notes : List (List ℕ)) → Gives (takes_comments notes) (λ events rest. events ≡ comments notes ∷ rest)
comments_give notes = record { at = each }
  where
    by_test : (others : List (List ℕ)) (events : List Event) (test : Bool) → same_texts notes others ≡ test → Every (λ rest. comments others ∷ events ≡ comments notes ∷ rest) (choose test takes_nothing fails events)
    by_test others events true e = element (ap (λ (x : List (List ℕ)). comments x ∷ events) (sym (same_texts_are notes others e))) no_element
    by_test others events false e = no_element

    each : (events : List Event) → Every (λ rest. events ≡ comments notes ∷ rest) (takes_comments notes events)
    each [] = no_element
    each (spelled note lexeme ∷ events) = no_element
    each (comments others ∷ events) = by_test others events (same_texts notes others) refl

-- a token, and what follows it
pub after_token : {q : Way} {S T : List Event → List Event → Type 0} (note : Bool) (lexeme : Lexeme) → Gives q S → ((events rest : List Event) → S events rest → T (spelled note lexeme ∷ events) rest) → Gives (sequence (takes_token note lexeme) q) T
after_token {T = T} note lexeme h joined =
    sequence_gives (token_gives note lexeme) h (λ events middle rest e s. subst (λ (xs : List Event). T xs rest) (sym e) (joined middle rest s))

pub after_comments : {q : Way} {S T : List Event → List Event → Type 0} (notes : List (List ℕ)) → Gives q S → ((events rest : List Event) → S events rest → T (comments notes ∷ events) rest) → Gives (sequence (takes_comments notes) q) T
after_comments {T = T} notes h joined =
    sequence_gives (comments_give notes) h (λ events middle rest e s. subst (λ (xs : List Event). T xs rest) (sym e) (joined middle rest s))

-- what a token follows
pub before_token : {p : Way} {R T : List Event → List Event → Type 0} (note : Bool) (lexeme : Lexeme) → Gives p R → ((events rest : List Event) → R events (spelled note lexeme ∷ rest) → T events rest) → Gives (sequence p (takes_token note lexeme)) T
before_token {R = R} note lexeme g joined =
    sequence_gives g (token_gives note lexeme) (λ events middle rest r e. joined events rest (subst (R events) e r))

pub weaker : {p : Way} {R T : List Event → List Event → Type 0} → Gives p R → ((events rest : List Event) → R events rest → T events rest) → Gives p T
weaker {p = p} g implied = record { at = λ events. every_map (p events) (implied events) (g.at events) }
