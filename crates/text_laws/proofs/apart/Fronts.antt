-- What may follow a token, by how its text begins and whether a blank comes between.
use Rattle.std.proofs.Common.{◌≡◌, ℕ, List, [], ◌∷◌, Bool, true, false, not, ◌&&◌, ◌||◌, refl, ◌∙◌, subst, Option, Some, None, arith}
use Rattle.std.specs.Prelude.{◌==◌, codes}
use Rattle.std.proofs.lemmas.Bool.{or_left, or_right, not-true}
use Rattle.std.specs.List.{list_any, list_all}
use Rattle.std.specs.Char.{is_ascii_alphabetic, is_ascii_digit}
use Rattle.std.proofs.lemmas.Bool.{eqb-true}
use Rattle.std.proofs.lemmas.Bool.Decides.{nat_tests}
use Rattle.ada_tree.specs.declared.word.Word.{Word}
use Rattle.ada_tree.specs.declared.word.Word.TheVariants as word
use Rattle.ada_tree.specs.declared.word.Mark.{Mark}
use Rattle.ada_tree.specs.declared.word.Mark.TheVariants as mark
use Rattle.ada_tree.specs.Words.{word_text, mark_text}
use Rattle.ada_tree.specs.Texts.{begins, is_identifier, is_big, is_small, is_number}
use Rattle.ada_tree.specs.Tokens.{Lexeme, a_name, a_number, a_word, a_mark}
use Rattle.ada_tree.specs.Rendering.{lexeme_text, has_no_blank_before, has_no_blank_after}
use Rattle.text_laws.proofs.round_trip.Places.{both}
use Rattle.text_laws.proofs.round_trip.OpenedItems.{one_of}
use Rattle.lex_ada.specs.declared.token.TokenKind.{TokenKind}
use Rattle.lex_ada.specs.declared.token.TokenKind.TheVariants as kind
use Rattle.lex_ada.specs.Lexis.{is_word_byte, goes_on}
use Rattle.lex_ada.specs.Rendered.{is_fitting, kind_of_lexeme, may_follow}

-- ---- fronts

-- What may stand next, in the order of the constructors: any token; any token, and with no blank between also what begins an operand; only what begins an operand; only a mark that asks for no blank before it, or `(` or `@`.
pub data Front : Type 0 where
  usual after_mark starting linking : Front

abbrev links : List ℕ
links = codes ";,)]'.(@"

abbrev is_link : ℕ → Bool
is_link b = list_any (λ c. c == b) links

abbrev is_start : ℕ → Bool
is_start b = is_word_byte b || b == 40

-- `joined` tells that the token asks for no blank before it
abbrev admits : Front → Bool → List ℕ → Bool
admits usual joined text = not joined || begins is_link text
admits after_mark joined text = not joined || (begins is_link text || begins is_start text)
admits starting joined text = not joined && begins is_start text
admits linking joined text = begins is_link text

-- what stands before on the line, with or without a blank after it, lets this front follow
abbrev pub Admits : Front → Option (TokenKind × List ℕ) → Bool → Type 0
Admits front last tight = (joined : Bool) (text : List ℕ) → admits front joined text ≡ true → may_follow last (tight || joined) text ≡ true

-- where one front may follow, the other may
abbrev pub gives : Front → Front → Bool
gives after_mark to = true
gives usual after_mark = false
gives usual to = true
gives starting starting = true
gives linking linking = true
gives _ to = false

pub admits_given : (from to : Front) (last : Option (TokenKind × List ℕ)) (tight : Bool) → gives from to ≡ true → Admits from last tight → Admits to last tight
admits_given after_mark after_mark last tight g a joined text h = a joined text h
admits_given after_mark usual last tight g a true text h = a true text (or_left (begins is_link text) _ h)
admits_given after_mark usual last tight g a false text h = a false text refl
admits_given after_mark starting last tight g a true text h = absurd cc
admits_given after_mark starting last tight g a false text h = a false text refl
admits_given after_mark linking last tight g a true text h = a true text (or_left (begins is_link text) _ h)
admits_given after_mark linking last tight g a false text h = a false text refl
admits_given usual usual last tight g a joined text h = a joined text h
admits_given usual after_mark last tight g a joined text h = absurd cc
admits_given usual starting last tight g a true text h = absurd cc
admits_given usual starting last tight g a false text h = a false text refl
admits_given usual linking last tight g a true text h = a true text h
admits_given usual linking last tight g a false text h = a false text refl
admits_given starting starting last tight g a joined text h = a joined text h
admits_given starting usual last tight g a joined text h = absurd cc
admits_given starting after_mark last tight g a joined text h = absurd cc
admits_given starting linking last tight g a joined text h = absurd cc
admits_given linking linking last tight g a joined text h = a joined text h
admits_given linking usual last tight g a joined text h = absurd cc
admits_given linking after_mark last tight g a joined text h = absurd cc
admits_given linking starting last tight g a joined text h = absurd cc

-- at the beginning of a line
pub fresh_admits : Admits after_mark None false
fresh_admits true text h = refl
fresh_admits false text h = refl

-- ---- glue

abbrev pub may_glue : Front → Bool
may_glue usual = true
may_glue after_mark = true
may_glue _ = false

abbrev pub glued : Front → Front
glued after_mark = starting
glued _ = linking

without_blank : (last : Option (TokenKind × List ℕ)) (tight joined : Bool) (text : List ℕ) → may_follow last (tight || true) text ≡ true → may_follow last (true || joined) text ≡ true
without_blank last true joined text h = h
without_blank last false joined text h = h

pub glue_admits : (from : Front) (last : Option (TokenKind × List ℕ)) (tight : Bool) → may_glue from ≡ true → Admits from last tight → Admits (glued from) last true
glue_admits usual last tight g a joined text h = without_blank last tight joined text (a true text h)
glue_admits after_mark last tight g a true text h = absurd cc
glue_admits after_mark last tight g a false text h = without_blank last tight false text (a true text (or_right (begins is_link text) _ h))
glue_admits starting last tight g a joined text h = absurd cc
glue_admits linking last tight g a joined text h = absurd cc

-- ---- after a token

-- what holds of some bytes holds of a byte among them
all_bytes : (P : ℕ → Bool) (bytes : List ℕ) (b : ℕ) → list_all P bytes ≡ true → list_any (λ c. c == b) bytes ≡ true → P b ≡ true
all_bytes P [] b all h = absurd cc
all_bytes P (c ∷ bytes) b all h = one_of (c == b) _ h (λ e. subst (λ (b : ℕ). P b ≡ true) (eqb-true c b e) (both all).0) (all_bytes P bytes b (both all).1)

stops : (test wanted : ℕ → Bool) (text : List ℕ) → ((b : ℕ) → test b ≡ true → wanted b ≡ false) → begins test text ≡ true → begins wanted text ≡ false
stops test wanted [] h t = refl
stops test wanted (b ∷ text) h t = h b t

word_stops : (b : ℕ) → is_link b ≡ true → is_word_byte b ≡ false
word_stops b h = not-true _ (all_bytes (λ c. not (is_word_byte c)) links b refl h)

after_letters : (last : TokenKind × List ℕ) → ((b : ℕ) → goes_on last.0 last.1 b ≡ is_word_byte b) → Admits usual (Some last) false
after_letters last same false text h = refl
after_letters last same true text h = rw (stops is_link (goes_on last.0 last.1) text (λ b e. same b ∙ word_stops b e) h) refl

-- no mark goes on with what begins an operand
start_stops : (m : Mark) (b : ℕ) → is_start b ≡ true → goes_on kind.Mark (mark_text m) b ≡ false
start_stops mark.Star b h = let e : (42 == b) ≡ false = grind (arith, nat_tests) in rw e refl
start_stops mark.Dot b h = let e : (46 == b) ≡ false = grind (arith, nat_tests) in rw e refl
start_stops mark.Slash b h = let e : (61 == b) ≡ false = grind (arith, nat_tests) in rw e refl
start_stops mark.Colon b h = let e : (61 == b) ≡ false = grind (arith, nat_tests) in rw e refl
start_stops mark.Less b h = let e : (61 == b) ≡ false = grind (arith, nat_tests) in let f : (60 == b) ≡ false = grind (arith, nat_tests) in let g : (62 == b) ≡ false = grind (arith, nat_tests) in rw (e, f, g) refl
start_stops mark.Equal b h = let e : (62 == b) ≡ false = grind (arith, nat_tests) in let f : (61 == b) ≡ false = grind (arith, nat_tests) in rw (e, f) refl
start_stops mark.Greater b h = let e : (61 == b) ≡ false = grind (arith, nat_tests) in let f : (62 == b) ≡ false = grind (arith, nat_tests) in rw (e, f) refl
start_stops mark.Minus b h = let e : (62 == b) ≡ false = grind (arith, nat_tests) in let f : (b == 45) ≡ false = grind (arith, nat_tests) in rw (e, f) refl
start_stops _ b h = refl

abbrev is_dot_mark : Mark → Bool
is_dot_mark mark.Dot = true
is_dot_mark _ = false

-- nor, but for the dot, with what goes on an operand
link_stops : (m : Mark) → is_dot_mark m ≡ false → list_all (λ c. not (goes_on kind.Mark (mark_text m) c)) links ≡ true
link_stops mark.Dot d = absurd cc
link_stops mark.Ampersand d = refl
link_stops _ d = refl

-- what no blank follows goes on with nothing, but for the dot
tight_stops : (m : Mark) → is_dot_mark m ≡ false → has_no_blank_after (a_mark m) ≡ true → (b : ℕ) → goes_on kind.Mark (mark_text m) b ≡ false
tight_stops mark.Open d h b = refl
tight_stops mark.OpenBracket d h b = refl
tight_stops mark.Tick d h b = refl
tight_stops mark.Dot d h b = absurd cc
tight_stops _ d h b = absurd cc

mark_admits : (m : Mark) → is_dot_mark m ≡ false → (tight : Bool) → has_no_blank_after (a_mark m) ≡ tight → Admits after_mark (Some (kind.Mark, mark_text m)) tight
mark_admits m d true t joined [] h = refl
mark_admits m d true t joined (b ∷ text) h = rw (tight_stops m d t b) refl
mark_admits m d false t false text h = refl
mark_admits m d false t true text h = one_of (begins is_link text) _ h
    (λ e. rw (stops is_link (goes_on kind.Mark (mark_text m)) text (λ b i. not-true _ (all_bytes (λ c. not (goes_on kind.Mark (mark_text m) c)) links b (link_stops m d) i)) e) refl)
    (λ e. rw (stops is_start (goes_on kind.Mark (mark_text m)) text (start_stops m) e) refl)

dot_admits : Admits starting (Some (kind.Mark, mark_text mark.Dot)) true
dot_admits true text h = absurd cc
dot_admits false text h = rw (stops is_start (goes_on kind.Mark (mark_text mark.Dot)) text (start_stops mark.Dot) h) refl

abbrev pub front_after : Lexeme → Front
front_after (a_mark mark.Dot) = starting
front_after (a_mark m) = after_mark
front_after _ = usual

pub after_lexeme : (lexeme : Lexeme) → Admits (front_after lexeme) (Some (kind_of_lexeme lexeme, lexeme_text lexeme)) (has_no_blank_after lexeme)
after_lexeme (a_name text) = after_letters (kind.Name, text) (λ b. refl)
after_lexeme (a_number text) = after_letters (kind.Number, text) (λ b. refl)
after_lexeme (a_word w) = after_letters (kind.Word, word_text w) (λ b. refl)
after_lexeme (a_mark mark.Dot) = dot_admits
after_lexeme (a_mark mark.Ampersand) = mark_admits mark.Ampersand refl _ refl
after_lexeme (a_mark m) = mark_admits m refl _ refl

-- in an annotation alone
pub after_small : (text : List ℕ) → Admits usual (Some (kind.Name, text)) false
after_small text = after_letters (kind.Name, text) (λ b. refl)

-- ---- a token after what stands before

letter_starts : (b : ℕ) → is_ascii_alphabetic b ≡ true → is_start b ≡ true
letter_starts b h = grind (arith, nat_tests)

digit_starts : (b : ℕ) → is_ascii_digit b ≡ true → is_start b ≡ true
digit_starts b h = grind (arith, nat_tests)

begins_also : (test wanted : ℕ → Bool) (text : List ℕ) → ((b : ℕ) → test b ≡ true → wanted b ≡ true) → begins test text ≡ true → begins wanted text ≡ true
begins_also test wanted [] h t = t
begins_also test wanted (b ∷ text) h t = h b t

identifier_starts : (text : List ℕ) → is_identifier text ≡ true → begins is_start text ≡ true
identifier_starts text h = begins_also is_ascii_alphabetic is_start text letter_starts (both (both h).0).0

big_starts : (note : Bool) (text : List ℕ) → is_big note text ≡ true → begins is_start text ≡ true
big_starts note text h = identifier_starts text (both (both (both (both h).0).0).0).0

small_starts : (text : List ℕ) → is_small text ≡ true → begins is_start text ≡ true
small_starts text h = identifier_starts text (both (both (both (both h).0).0).0).0

number_starts : (text : List ℕ) → is_number text ≡ true → begins is_start text ≡ true
number_starts text h = begins_also is_ascii_digit is_start text digit_starts (both (both (both h).0).0).0

word_starts : (w : Word) → begins is_start (word_text w) ≡ true
word_starts word.Abort = refl
word_starts _ = refl

abbrev pub takes : Front → Lexeme → Bool
takes front (a_mark m) = admits front (has_no_blank_before (a_mark m)) (mark_text m)
takes front _ = gives front starting

pub lexeme_follows : (note : Bool) (front : Front) (lexeme : Lexeme) (last : Option (TokenKind × List ℕ)) (tight : Bool) → Admits front last tight → is_fitting note lexeme ≡ true → takes front lexeme ≡ true → may_follow last (tight || has_no_blank_before lexeme) (lexeme_text lexeme) ≡ true
lexeme_follows note front (a_name text) last tight a f t = admits_given front starting last tight t a false text (big_starts note text f)
lexeme_follows note front (a_number text) last tight a f t = admits_given front starting last tight t a false text (number_starts text f)
lexeme_follows note front (a_word w) last tight a f t = admits_given front starting last tight t a false (word_text w) (word_starts w)
lexeme_follows note front (a_mark m) last tight a f t = a (has_no_blank_before (a_mark m)) (mark_text m) t

pub small_follows : (front : Front) (text : List ℕ) (last : Option (TokenKind × List ℕ)) (tight : Bool) → Admits front last tight → is_small text ≡ true → gives front starting ≡ true → may_follow last tight text ≡ true
small_follows front text last tight a s g = or_false tight (admits_given front starting last tight g a false text (small_starts text s))
  where
    or_false : (tight : Bool) → may_follow last (tight || false) text ≡ true → may_follow last tight text ≡ true
    or_false true h = h
    or_false false h = h
