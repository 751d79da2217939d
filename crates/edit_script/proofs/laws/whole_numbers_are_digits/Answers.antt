use Rattle.edit_script.proofs.Digits.{digits_alone}
use Rattle.edit_script.proofs.laws.whole_numbers_are_digits.Goals as goal

pub returns : goal.returns
returns c = digits_alone
