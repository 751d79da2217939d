-- From the lines of a script to its answer.
use Rattle.std.proofs.Common.{◌≡◌, ℕ, ◌<◌, ◌≤◌, IfErr, List, Bool, true, false, nat_le, Option, Some, None, Result, Ok, Err, Vec, Global, find, filter_map, option_map, refl, sym, subst, inl, inr, arith}
use Rattle.std.proofs.lemmas.Bool.{le-leb, leb-true}
use Rattle.std.specs.Result.{IsErrAnd}
use Rattle.edit_script.specs.declared.command.Line.{Line}
use Rattle.edit_script.specs.declared.script.ScriptError.{ScriptError}
use Rattle.edit_script.specs.declared.script.ScriptError.TheVariants.{BadLine, TooMany, Memory}
use Rattle.edit_script.specs.declared.script.TheConstants.{MOST_EDITS}
use Rattle.edit_script.specs.Commands.{edits_of}
use Rattle.edit_script.specs.Scripts.{Script, commands, bad_line, too_many, judged, within_limit, script_of, lines_of, is_bad, line_in, IsReason, Answers, Gets}

-- an answer that is the script's is the only one but for want of memory
pub gets : (result : Result (Vec Line Global) ScriptError) (script : Script) → Answers result script → Gets script result
gets (Ok lines) script is = subst (λ (s : Script). Gets s (Ok lines)) (sym is) (inr refl)
gets (Err (BadLine number)) script is = subst (λ (s : Script). Gets s (Err (BadLine number))) (sym is) (inr refl)
gets (Err (TooMany edits)) script is = subst (λ (s : Script). Gets s (Err (TooMany edits))) (sym is) (inr refl)
gets (Err Memory) (commands lines) is = inl refl
gets (Err Memory) (bad_line number) is = inl refl
gets (Err Memory) (too_many edits) is = inl refl

judged_bad : (found : Option (ℕ × List ℕ)) (lines : List Line) (number : ℕ) → option_map (λ line. line.0) found ≡ Some number → judged found lines ≡ bad_line number
judged_bad None lines number is = cc
judged_bad (Some line) lines number is = cc

-- the reason for which a reading stops is the script's answer
pub stopped : (bytes : List ℕ) (e : ScriptError) → IsReason e (find is_bad (lines_of bytes)) → Answers (Err e) (script_of bytes)
unfolding script_of
stopped bytes (BadLine number) is = judged_bad _ _ number is
stopped bytes (TooMany edits) is = absurd is
stopped bytes Memory is = tt

-- where no line is bad, the script is its commands, within the limit
pub all_good : (bytes : List ℕ) (lines : List Line) → find is_bad (lines_of bytes) ≡ None → lines ≡ filter_map line_in (lines_of bytes) → script_of bytes ≡ within_limit lines
unfolding script_of
all_good bytes lines good is = rw (good, sym is) refl

pub few_enough : (lines : List Line) → edits_of lines ≤ MOST_EDITS → within_limit lines ≡ commands lines
few_enough lines few = rw (le-leb (edits_of lines) MOST_EDITS few)

pub beyond : (lines : List Line) → MOST_EDITS < edits_of lines → within_limit lines ≡ too_many (edits_of lines)
beyond lines many = over _ refl
  where
    over : (b : Bool) → nat_le (edits_of lines) MOST_EDITS ≡ b → within_limit lines ≡ too_many (edits_of lines)
    over true e = absurd (omega (arith, leb-true _ _ e))
    over false e = rw e

-- what holds of an error holds of the error that a result has
pub is_err_for : {A E : Type 0} (r : Result A E) (x : E) (P : E → Type 0) → IsErrAnd r (λ e. e ≡ x) → P x → IfErr r P
is_err_for (Ok a) x P is holds = absurd is
is_err_for (Err e) x P is holds = subst P (sym is) holds

pub answer_for : (r : Result (Vec Line Global) ScriptError) (x : ScriptError) (script : Script) → IsErrAnd r (λ e. e ≡ x) → Answers (Err x) script → Answers r script
answer_for (Ok lines) x script is holds = absurd is
answer_for (Err e) x script is holds = subst (λ (y : ScriptError). Answers (Err y) script) (sym is) holds
