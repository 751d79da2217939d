-- A script line by line.
use Rattle.std.proofs.Common.{◌≡◌, ℕ, ◌+◌, ◌<◌, ◌≤◌, List, [], ◌∷◌, ◌++◌, length, Bool, true, false, not, cond, Option, Some, None, refl, sym, ap, ◌∙◌, subst, append_assoc, option_and_then, arith, IsUtf8, take_all, find, filter_map, ◌*◌, length-drop, if◌then◌else◌, inl, inr}
use Rattle.std.proofs.lemmas.List.{drop_all, append-nil}
use Rattle.std.proofs.lemmas.Bool.{cases_lt}
use Rattle.std.proofs.lemmas.List.Elements.{filter_map-append}
use Rattle.std.proofs.lemmas.List.Folds.{find-append}
use Rattle.edit_script.specs.Commands.{edits_of}
use Rattle.edit_script.specs.declared.line.TheConstants.{MOST_MEMBERS}
use Rattle.std.proofs.lemmas.List.Splits.{slice_split_first, slice_split_none}
use Rattle.std.proofs.lemmas.List.Sums.{fails_before_first}
use Rattle.std.proofs.lemmas.Str.{is_utf8-from_IsUtf8, IsUtf8-from_is_utf8}
use Rattle.std.specs.List.{All, slice_split, position_or_len, before_first, after_first}
use Rattle.std.specs.Option.{option_or}
use Rattle.std.specs.Str.{is_utf8}
use Rattle.serde_json.specs.Data.{Data}
use Rattle.serde_json.specs.Read.{read}
use Rattle.edit_script.specs.Table.{command_of}
use Rattle.edit_script.specs.Scripts.{is_line_feed, is_blank, numbered_from, command_in, is_bad, line_in, lines_of, IsReason}
use Rattle.edit_script.specs.declared.script.ScriptError.{ScriptError}
use Rattle.edit_script.specs.declared.script.ScriptError.TheVariants.{BadLine, TooMany, Memory}
use Rattle.edit_script.specs.declared.command.Command.{Command}
use Rattle.edit_script.specs.declared.command.Line.{Line}

kept : {A : Type 0} (b : Bool) (x : A) (xs : List A) → cond b (x ∷ xs) xs ≡ cond b (x ∷ []) [] ++ xs
kept true x xs = refl
kept false x xs = refl

-- the lines from a number on are the first one and those from the next number on
pub numbered-cons : (n : ℕ) (line : List ℕ) (lines : List (List ℕ)) → numbered_from n (line ∷ lines) ≡ numbered_from n (line ∷ []) ++ numbered_from (n + 1) lines
unfolding numbered_from
numbered-cons n line lines = kept (not (is_blank line)) (n, line) (numbered_from (n + 1) lines)

-- after the last line's end nothing is said
pub numbered-end : (n : ℕ) → numbered_from n (slice_split is_line_feed []) ≡ []
unfolding numbered_from
numbered-end n = refl

-- ---- the command of a line

refused : (line : List ℕ) (text : Bool) → is_utf8 line ≡ text → (IsUtf8 line → read line ≡ None) → option_and_then command_of (if text then read line else None) ≡ None
refused line false e h = refl
refused line true e h = rw (h (IsUtf8-from_is_utf8 line e))

pub no_command : (line : List ℕ) → (IsUtf8 line → read line ≡ None) → command_in line ≡ None
unfolding command_in
no_command line h = refused line (is_utf8 line) refl h

pub command_of_data : (line : List ℕ) (d : Data) → IsUtf8 line → read line ≡ Some d → command_in line ≡ command_of d
unfolding command_in
command_of_data line d text is = rw (is_utf8-from_IsUtf8 line text, is)

-- ---- cutting

no_line_end : (text : List ℕ) → length text ≤ position_or_len is_line_feed text → All (λ b. is_line_feed b ≡ false) text
no_line_end text all = λ k d within. fails_before_first is_line_feed text k d (omega arith)

alone : (text : List ℕ) → length text ≤ position_or_len is_line_feed text → before_first is_line_feed text ≡ text
alone text all = take_all _ text all

nothing_after : (text : List ℕ) → length text ≤ position_or_len is_line_feed text → after_first is_line_feed text ≡ []
nothing_after text all = drop_all _ text (omega arith)

abbrev Continues : ℕ → List ℕ → Type 0
Continues n text = numbered_from n (slice_split is_line_feed text) ≡ numbered_from n (before_first is_line_feed text ∷ []) ++ numbered_from (n + 1) (slice_split is_line_feed (after_first is_line_feed text))

last_line : (n : ℕ) (text : List ℕ) → length text ≤ position_or_len is_line_feed text → Continues n text
last_line n text all =
    rw (slice_split_none is_line_feed text (no_line_end text all), alone text all, nothing_after text all, numbered-end (n + 1)) (sym (append-nil (numbered_from n (text ∷ []))))

-- the lines of a text are its first line and those of what follows
pub numbered_next : (n : ℕ) (text : List ℕ)
    → numbered_from n (slice_split is_line_feed text) ≡ numbered_from n (before_first is_line_feed text ∷ []) ++ numbered_from (n + 1) (slice_split is_line_feed (after_first is_line_feed text))
numbered_next n text =
    elim (cases_lt (position_or_len is_line_feed text) (length text)) [
      | inl more ↦ ap (numbered_from n) (slice_split_first is_line_feed text 0 more) ∙ numbered-cons n _ _
      | inr all ↦ last_line n text all
    ]

-- ---- what one line says

blank : (n : ℕ) (line : List ℕ) → is_blank line ≡ true → numbered_from n (line ∷ []) ≡ []
unfolding numbered_from
blank n line is = rw is

said : (n : ℕ) (line : List ℕ) → is_blank line ≡ false → numbered_from n (line ∷ []) ≡ (n, line) ∷ []
unfolding numbered_from
said n line is = rw is

pub blank_is_not_bad : (n : ℕ) (line : List ℕ) → is_blank line ≡ true → find is_bad (numbered_from n (line ∷ [])) ≡ None
blank_is_not_bad n line is = rw (blank n line is)

pub blank_says_nothing : (n : ℕ) (line : List ℕ) → is_blank line ≡ true → filter_map line_in (numbered_from n (line ∷ [])) ≡ []
blank_says_nothing n line is = rw (blank n line is)

pub command_is_not_bad : (n : ℕ) (line : List ℕ) (c : Command) → is_blank line ≡ false → command_in line ≡ Some c → find is_bad (numbered_from n (line ∷ [])) ≡ None
command_is_not_bad n line c is gives = rw (said n line is, gives)

pub command_is_said : (n : ℕ) (line : List ℕ) (c : Command) → is_blank line ≡ false → command_in line ≡ Some c → filter_map line_in (numbered_from n (line ∷ [])) ≡ record { number = n; command = c } ∷ []
command_is_said n line c is gives = rw (said n line is, gives)

pub bad_is_found : (n : ℕ) (line : List ℕ) → is_blank line ≡ false → command_in line ≡ None → find is_bad (numbered_from n (line ∷ [])) ≡ Some (n, line)
bad_is_found n line is gives = rw (said n line is, gives)

-- ---- what is left of a script

-- the lines of what is left, from a number on
abbrev pub lines_from : ℕ → List ℕ → List (ℕ × List ℕ)
lines_from n rest = numbered_from n (slice_split is_line_feed rest)

-- so many lines were read and none was bad, and their commands were found
pub record SoFar (bytes rest : List ℕ) (number : ℕ) (found : List Line) : Type 0 where
  pub bad : find is_bad (lines_of bytes) ≡ find is_bad (lines_from (number + 1) rest)
  pub lines : filter_map line_in (lines_of bytes) ≡ found ++ filter_map line_in (lines_from (number + 1) rest)
  pub few : edits_of found + MOST_MEMBERS * length rest ≤ MOST_MEMBERS * length bytes
  pub counted : number + length rest ≤ length bytes

pub begun : (bytes : List ℕ) → SoFar bytes bytes 0 []
begun bytes = record { bad = refl; lines = refl; few = omega arith; counted = omega arith }

shorter : (text : List ℕ) → 0 < length text → length (after_first is_line_feed text) < length text
shorter text some = omega (arith, length-drop (position_or_len is_line_feed text + 1) text)

past : {A : Type 0} (o p : Option A) → o ≡ None → option_or o p ≡ p
past o p none = rw none

after_line : (bytes rest : List ℕ) (number : ℕ) (found more : List Line) → 0 < length rest → SoFar bytes rest number found
    → find is_bad (numbered_from (number + 1) (before_first is_line_feed rest ∷ [])) ≡ None
    → more ≡ found ++ filter_map line_in (numbered_from (number + 1) (before_first is_line_feed rest ∷ []))
    → edits_of more ≤ edits_of found + MOST_MEMBERS
    → SoFar bytes (after_first is_line_feed rest) (number + 1) more
after_line bytes rest number found more some so_far good adds few =
    record {
      bad = so_far.bad ∙ ap (find is_bad) (numbered_next (number + 1) rest) ∙ find-append is_bad _ _ ∙ past _ _ good;
      lines = so_far.lines ∙ ap (λ ls. found ++ filter_map line_in ls) (numbered_next (number + 1) rest) ∙ ap (λ ls. found ++ ls) (filter_map-append line_in _ _)
          ∙ sym (append_assoc found _ _) ∙ ap (λ ls. ls ++ filter_map line_in (lines_from (number + 1 + 1) (after_first is_line_feed rest))) (sym adds);
      few = omega (arith, shorter rest some, so_far.few);
      counted = omega (arith, shorter rest some, so_far.counted);
    }

-- a line is cut from what is left, and read
pub goes_on : (bytes rest line after : List ℕ) (number : ℕ) (found more : List Line) → 0 < length rest → SoFar bytes rest number found
    → line ≡ before_first is_line_feed rest → after ≡ after_first is_line_feed rest
    → find is_bad (numbered_from (number + 1) (line ∷ [])) ≡ None → more ≡ found ++ filter_map line_in (numbered_from (number + 1) (line ∷ []))
    → edits_of more ≤ edits_of found + MOST_MEMBERS → SoFar bytes after (number + 1) more
goes_on bytes rest line after number found more some so_far cut left good adds few =
    subst (λ (a : List ℕ). SoFar bytes a (number + 1) more) (sym left)
    (after_line bytes rest number found more some so_far
    (subst (λ (l : List ℕ). find is_bad (numbered_from (number + 1) (l ∷ [])) ≡ None) cut good)
    (subst (λ (l : List ℕ). more ≡ found ++ filter_map line_in (numbered_from (number + 1) (l ∷ []))) cut adds) few)

reason_of : (e : ScriptError) (one rest : Option (ℕ × List ℕ)) → IsReason e one → IsReason e (option_or one rest)
reason_of (BadLine n) None rest is = cc
reason_of (TooMany n) one rest is = absurd is
reason_of (BadLine n) (Some line) rest is = is
reason_of Memory one rest is = tt

-- why the first line left stops a reading is why the script does
pub stops : (bytes rest line : List ℕ) (number : ℕ) (found : List Line) (e : ScriptError) → SoFar bytes rest number found → line ≡ before_first is_line_feed rest
    → IsReason e (find is_bad (numbered_from (number + 1) (line ∷ []))) → IsReason e (find is_bad (lines_of bytes))
stops bytes rest line number found e so_far cut is =
    rw (so_far.bad, numbered_next (number + 1) rest, find-append, ← cut) (reason_of e _ _ is)

-- nothing is left
pub read_whole : (bytes rest : List ℕ) (number : ℕ) (found : List Line) → SoFar bytes rest number found → length rest ≡ 0
    → (find is_bad (lines_of bytes) ≡ None) × (found ≡ filter_map line_in (lines_of bytes))
read_whole bytes [] number found so_far over =
    (so_far.bad ∙ ap (find is_bad) (numbered-end (number + 1)), sym (so_far.lines ∙ ap (λ ls. found ++ filter_map line_in ls) (numbered-end (number + 1)) ∙ append-nil found))
read_whole bytes (b ∷ rest) number found so_far over = absurd (omega arith)
