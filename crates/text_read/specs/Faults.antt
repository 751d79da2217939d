-- The fault of a text that is none of its part.
use Rattle.std.specs.Prelude.{◌≡◌, ℕ, suc, ◌-◌, List, length, map, filter, slice_get, Bool, true, false, if◌then◌else◌, Option, Some, None}
use Rattle.std.specs.Char.{to_ascii_lowercase}
use Rattle.std.specs.List.{list_any}
use Rattle.std.specs.Option.{option_map_or}
use denote.Enum.Bare.{sameb}
use Rattle.base_kit.specs.declared.fault.Code.{Code}
use Rattle.base_kit.specs.declared.fault.Code.TheVariants.{F03, F04, F23}
use Rattle.base_kit.specs.declared.fault.Fault.{Fault as AFault}
use Rattle.base_kit.specs.declared.fault.Stop.{Stop}
use Rattle.base_kit.specs.declared.fault.Stop.TheVariants.{Fault, Memory}
use Rattle.ada_tree.specs.contracts.word.Mark as mark_row
use Rattle.ada_tree.specs.contracts.word.Word as word_row
use Rattle.ada_tree.specs.declared.part.Part.{Part}
use Rattle.ada_tree.specs.declared.word.Mark.{Mark}
use Rattle.ada_tree.specs.declared.word.TheConstants.{WORDS}
use Rattle.ada_tree.specs.declared.word.Word.{Word}
use Rattle.ada_tree.specs.Texts.{ends_line}
use Rattle.ada_tree.specs.Tokens.{Sign}
use Rattle.ada_tree.specs.Words.{word_of, mark_of}
use Rattle.lex_ada.specs.declared.token.Token.{Token}
use Rattle.lex_ada.specs.declared.token.TokenKind.{TokenKind}
use Rattle.lex_ada.specs.declared.token.TokenKind.TheVariants as kind
use Rattle.lex_ada.specs.Cutting.{note_of}
use Rattle.lex_ada.specs.Faults.{line_ends, fault_in, IsFault}
use Rattle.lex_ada.specs.Lexis.{AreTokens}
use Rattle.lex_ada.specs.Meanings.{bytes_of}
use Rattle.reading_limits.specs.Viable.{StopsAt, IsLimitedAt}
use Rattle.text_read.specs.declared.unsupported.TheConstants.{UNSUPPORTED_WORDS, UNSUPPORTED_MARKS}
use Rattle.text_read.specs.Fragments.{tokens_in, signs_in}

-- ---- the line

abbrev pub ends_in_line_end : List ℕ → Bool
ends_in_line_end bytes = option_map_or ends_line (slice_get bytes (length bytes - 1)) false

-- a line end that ends the text begins no further line
abbrev pub last_line : List ℕ → ℕ
last_line bytes = if ends_in_line_end bytes then line_ends bytes else suc (line_ends bytes)

-- the token behind so many others, comments apart
abbrev pub token_behind : ℕ → List Token → Option Token
token_behind n tokens = slice_get (filter (λ (t : Token). note_of true t.kind) tokens) n

-- the end of the text is a token in its last line
abbrev pub line_behind : List ℕ → List Token → ℕ → ℕ
line_behind bytes tokens n = option_map_or (λ (t : Token). t.line) (token_behind n tokens) (last_line bytes)

-- ---- the code

abbrev is_unsupported_word : Option Word → Bool
is_unsupported_word None = false
is_unsupported_word (Some w) = list_any (sameb word_row.the_type w) UNSUPPORTED_WORDS

abbrev is_unsupported_mark : Option Mark → Bool
is_unsupported_mark None = false
is_unsupported_mark (Some m) = list_any (sameb mark_row.the_type m) UNSUPPORTED_MARKS

-- a word or a mark that begins a form outside the profile
abbrev pub is_unsupported : TokenKind → List ℕ → Bool
is_unsupported kind.Word bytes = is_unsupported_word (word_of WORDS (map to_ascii_lowercase bytes))
is_unsupported kind.Mark bytes = is_unsupported_mark (mark_of bytes)
is_unsupported _ bytes = false

abbrev pub code_behind : List ℕ → List Token → ℕ → Code
code_behind bytes tokens n = if option_map_or (λ (t : Token). is_unsupported t.kind (bytes_of bytes t)) (token_behind n tokens) false then F23 else F03

-- ---- the fault

-- Behind so many tokens no text of the part within the limits goes on with the next one: no reading admits it, or readings do without the limits alone. `Stops` says which.
pub record IsStopped (Stops : ℕ → Part → List Sign → ℕ → Type 0) (part : Part) (bytes : List ℕ) (code : List ℕ → List Token → ℕ → Code) (fault : AFault) : Type 0 where
  pub tokens : List Token
  pub are_tokens : AreTokens bytes tokens
  pub n : ℕ
  pub stops : Stops 0 part (signs_in part bytes tokens) n
  pub fault_is : fault ≡ fault_in (code bytes (tokens_in part bytes tokens) n) (line_behind bytes (tokens_in part bytes tokens) n)

-- the text has no tokens, or one of them is at fault
pub data IsFaultOf (part : Part) (bytes : List ℕ) : AFault → Type 0 where
  no_tokens : {code : Code} {line : ℕ} → IsFault bytes code line → IsFaultOf part bytes (fault_in code line)
  refused : {fault : AFault} → IsStopped StopsAt part bytes code_behind fault → IsFaultOf part bytes fault
  too_deep : {fault : AFault} → IsStopped IsLimitedAt part bytes (λ bytes tokens n. F04) fault → IsFaultOf part bytes fault

-- this holds of the fault, if it is one and no want of memory
abbrev pub OnFault : (AFault → Type 0) → Stop → Type 0
OnFault P (Fault fault) = P fault
OnFault P Memory = Unit {0}
