-- How the code of a fault is written.
use Rattle.std.specs.Prelude.{ℕ, ◌+◌, ◌/◌, ◌%◌, List, [], ◌∷◌, ◌++◌, codes}
use denote.Enum.Declared.{tag_of}
use Rattle.base_kit.specs.declared.fault.Code.{Code}
use Rattle.base_kit.specs.contracts.fault.Code.{the_type}

-- a digit as a character
abbrev pub digit : ℕ → ℕ
digit value = value + 48

-- which code it is, from 1
abbrev pub number_of : Code → ℕ
number_of code = tag_of the_type code + 1

-- `F`, and the code's number in two digits
abbrev pub text_of : Code → List ℕ
text_of code = codes "F" ++ digit (number_of code / 10) ∷ digit (number_of code % 10) ∷ []
