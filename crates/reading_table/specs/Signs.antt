-- The tokens of a text with the comments before each, and what comes at its end.
use Rattle.std.specs.Prelude.{ℕ, List, [], ◌∷◌, ◌++◌}
use Rattle.ada_tree.specs.Tokens.{Sign, token, comment}
use Rattle.reading_table.specs.States.{Token, State}

-- the comments with which the signs begin, and what follows them
abbrev pub leading : List Sign → List (List ℕ)
leading [] = []
leading (comment text ∷ signs) = text ∷ leading signs
leading (token note lexeme ∷ signs) = []

-- the tokens, each with the comments between the token before and it; `waiting` are those before the signs
abbrev pub tokens_from : List (List ℕ) → List Sign → List Token
tokens_from waiting [] = []
tokens_from waiting (comment text ∷ signs) = tokens_from (waiting ++ text ∷ []) signs
tokens_from waiting (token note lexeme ∷ signs) = record { comments = waiting; note = note; lexeme = lexeme } ∷ tokens_from [] signs

abbrev pub tokens_of : List Sign → List Token
tokens_of signs = tokens_from [] signs

-- the comments behind the last token
abbrev pub trailing_from : List (List ℕ) → List Sign → List (List ℕ)
trailing_from waiting [] = waiting
trailing_from waiting (comment text ∷ signs) = trailing_from (waiting ++ text ∷ []) signs
trailing_from waiting (token note lexeme ∷ signs) = trailing_from [] signs

-- what comes at the end of the text
abbrev pub end_of : List Sign → State → State
end_of signs state = record state { waiting = state.waiting ++ trailing_from [] signs }
