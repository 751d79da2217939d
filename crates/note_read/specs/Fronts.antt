-- Fronts of tokens that may be read to an end, and the longest one.
use Rattle.std.specs.Prelude.{◌≡◌, ℕ, suc, ◌≤◌, List, ◌∷◌, take, slice_get, Bool, true, false, Option, Some, None}
use Rattle.ada_tree.specs.Tokens.{Sign, token}
use Rattle.lex_ada.specs.declared.token.Token.{Token as SourceToken}
use Rattle.lex_ada.specs.Meanings.{meaning, meanings, bytes_of}
use Rattle.note_read.specs.declared.front.Ending.{Ending}
use Rattle.note_read.specs.declared.front.Ending.TheVariants as ending
use Rattle.note_read.specs.Signs.{read_by_table}
use Rattle.reading_table.specs.Limits.{read, stopped, limited}
use Rattle.reading_table.specs.Rows.{Placed}
use Rattle.reading_table.specs.States.{State}

-- what a token of the source stands for
abbrev pub meaning_in : List ℕ → SourceToken → List Sign
meaning_in source t = meaning t.kind t.note (bytes_of source t)

abbrev pub is_token : List Sign → Bool
is_token (token note lexeme ∷ signs) = true
is_token _ = false

-- the last one of so many tokens is there, and no comment
pub record EndsInToken (source : List ℕ) (tokens : List SourceToken) (n : ℕ) : Type 0 where
  pub last : ℕ
  pub number : n ≡ suc last
  pub token : SourceToken
  pub token_is : slice_get tokens last ≡ Some token
  pub stands : is_token (meaning_in source token) ≡ true

-- so many tokens are read by these symbols to their end, where so many nodes that count are round what is read
pub record IsEnd (round : ℕ) (ss : List Placed) (source : List ℕ) (tokens : List SourceToken) (n : ℕ) : Type 0 where
  pub ends : EndsInToken source tokens n
  pub state : State
  pub reads : read_by_table round ss (meanings source (take n tokens)) ≡ read state

abbrev pub HasNoEnd : ℕ → List Placed → List ℕ → List SourceToken → Type 0
HasNoEnd round ss source tokens = (n : ℕ) → IsEnd round ss source tokens n → ⊥

-- and no more of them are
pub record IsLastEnd (round : ℕ) (ss : List Placed) (source : List ℕ) (tokens : List SourceToken) (n : ℕ) : Type 0 where
  pub end : IsEnd round ss source tokens n
  pub last : (m : ℕ) → IsEnd round ss source tokens m → m ≤ n

-- the last end that was found, or how reading stopped where there was none
abbrev pub last_or : Option ℕ → Ending → Ending
last_or (Some end) other = ending.At end
last_or None other = other

-- how far the tokens are read, or else how reading all of them ends
abbrev pub IsEnding : ℕ → List Placed → List ℕ → List SourceToken → Ending → Type 0
IsEnding round ss source tokens (ending.At n) = IsLastEnd round ss source tokens n
IsEnding round ss source tokens (ending.Refused n) = HasNoEnd round ss source tokens × (read_by_table round ss (meanings source tokens) ≡ stopped n)
IsEnding round ss source tokens (ending.Limited n) = HasNoEnd round ss source tokens × (read_by_table round ss (meanings source tokens) ≡ limited n)
