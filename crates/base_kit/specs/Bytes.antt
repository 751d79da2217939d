-- The bytes of texts that have a meaning, by their names.
use Rattle.std.specs.Prelude.{ℕ}

abbrev pub tabulator : ℕ
tabulator = 9

abbrev pub line_feed : ℕ
line_feed = 10

abbrev pub carriage_return : ℕ
carriage_return = 13

abbrev pub space : ℕ
space = 32

abbrev pub asterisk : ℕ
asterisk = 42

abbrev pub comma : ℕ
comma = 44

abbrev pub dash : ℕ
dash = 45

abbrev pub dot : ℕ
dot = 46

abbrev pub slash : ℕ
slash = 47

abbrev pub digit_zero : ℕ
digit_zero = 48

abbrev pub colon : ℕ
colon = 58

abbrev pub less_than : ℕ
less_than = 60

abbrev pub equals : ℕ
equals = 61

abbrev pub greater_than : ℕ
greater_than = 62

abbrev pub at_sign : ℕ
at_sign = 64

abbrev pub underscore : ℕ
underscore = 95

abbrev pub bar : ℕ
bar = 124

abbrev pub tilde : ℕ
tilde = 126
