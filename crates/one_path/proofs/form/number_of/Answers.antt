use Rattle.std.proofs.Common.{◌≡◌, true, sym, rules}
use Rattle.std.specs.List.{list_all}
use Rattle.std.specs.Char.{is_ascii_digit}
use Rattle.one_path.proofs.Numbers.{digits_are_text, not_parsed}
use Rattle.one_path.proofs.form.number_of.Goals as goal

pub returns-in_default : goal.returns-in_default
returns-in_default c =
    let digits : list_all is_ascii_digit c.args.text.now ≡ true = search rules in
    absurd (c.in_default.ensures.cases.0 (digits_are_text _ digits))

pub returns-in-Err : goal.returns-in-Err
returns-in-Err c =
    let digits : list_all is_ascii_digit c.args.text.now ≡ true = search rules in
    let parsed = rw c.in-Err.is at c.parse.ensures.value.0 in
    sym (not_parsed c.in-Err.field-0 c.args.text.now digits (rw c.in-Ok.ensures.cases.0 at parsed))
