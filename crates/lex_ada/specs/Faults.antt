-- Where a text has no tokens.
use Rattle.std.specs.Prelude.{◌≡◌, ℕ, suc, ◌+◌, List, [], ◌∷◌, ◌++◌, Bool, not, ◌&&◌, ◌||◌, nat_le, if◌then◌else◌, Result, Ok, Err}
use Rattle.base_kit.specs.declared.fault.Code.{Code}
use Rattle.base_kit.specs.declared.fault.Code.TheVariants.{F01, F02}
use Rattle.base_kit.specs.declared.fault.Place.TheVariants.{Line}
use Rattle.base_kit.specs.declared.fault.Fault.{Fault as AFault}
use Rattle.base_kit.specs.declared.fault.Stop.{Stop}
use Rattle.base_kit.specs.declared.fault.Stop.TheVariants.{Fault, Memory}
use Rattle.base_kit.specs.Bytes as byte
use Rattle.ada_tree.specs.Texts.{ends_line}
use Rattle.lex_ada.specs.declared.token.Token.{Token}
use Rattle.lex_ada.specs.Lexis.{is_return_before_feed, AreTokens}

-- how many lines end in a text
abbrev pub line_ends : List ℕ → ℕ
line_ends [] = 0
line_ends (b ∷ rest) = (if ends_line b && not (is_return_before_feed b rest) then 1 else 0) + line_ends rest

-- some text that begins with these bytes has tokens
abbrev pub GoesOn : List ℕ → Type 0
GoesOn bytes = (more : List ℕ) × (tokens : List Token) × AreTokens (bytes ++ more) tokens

-- printable bytes, HT and the ends of lines
abbrev pub is_text_byte : ℕ → Bool
is_text_byte b = (nat_le byte.space b && nat_le b byte.tilde) || (nat_le byte.tabulator b && nat_le b byte.carriage_return)

-- what is wrong at the first byte that no token admits, or at the end
abbrev pub code_at : List ℕ → Code
code_at [] = F02
code_at (b ∷ rest) = if is_text_byte b then F02 else F01

-- with the next byte no text has tokens, or the text ends here and has none
abbrev pub Refuses : List ℕ → List ℕ → Type 0
Refuses front [] = (tokens : List Token) → AreTokens front tokens → ⊥
Refuses front (b ∷ rest) = (other : List ℕ) (tokens : List Token) → AreTokens (front ++ b ∷ other) tokens → ⊥

-- The front goes on to a text that has tokens, and with the next byte it doesn't any more: so that is the first byte that no token admits. `code` and `line` are those of the fault there.
pub record IsFault (bytes : List ℕ) (code : Code) (line : ℕ) : Type 0 where
  pub front : List ℕ
  pub rest : List ℕ
  pub whole : bytes ≡ front ++ rest
  pub before : GoesOn front
  pub refused : Refuses front rest
  pub code_is : code ≡ code_at rest
  pub line_is : line ≡ suc (line_ends front)

-- file 0 is the text itself, whichever it is
abbrev pub fault_in : Code → ℕ → AFault
fault_in code line = record { code = code; place = Line 0 line; count = 0 }

-- the one answer to a text, want of memory apart
abbrev pub Answers : Result (List Token) Stop → List ℕ → Type 0
Answers (Ok tokens) bytes = AreTokens bytes tokens
Answers (Err (Fault fault)) bytes = (code : Code) × (line : ℕ) × (fault ≡ fault_in code line) × IsFault bytes code line
Answers (Err Memory) bytes = Unit {0}

-- an answer is this one, or tells that memory ran out
abbrev pub Gives : {A : Type 0} → Result A Stop → Result A AFault → Type 0
Gives (Ok tokens) answer = answer ≡ Ok tokens
Gives (Err (Fault fault)) answer = answer ≡ Err fault
Gives (Err Memory) answer = Unit {0}
