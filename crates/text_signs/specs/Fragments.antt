-- The tokens of a fragment of a part that stands in annotations: it is cut as every text is, and then all its tokens are annotation tokens.
use Rattle.std.specs.Prelude.{ℕ, List, map, true, if◌then◌else◌}
use Rattle.ada_tree.specs.Words.{note_words}
use Rattle.ada_tree.specs.Texts.{is_word_among}
use Rattle.lex_ada.specs.declared.token.Token.{Token}
use Rattle.lex_ada.specs.declared.token.TokenKind.{TokenKind}
use Rattle.lex_ada.specs.declared.token.TokenKind.TheVariants as kind
use Rattle.lex_ada.specs.Cutting.{note_of}
use Rattle.lex_ada.specs.Meanings.{bytes_of}

-- a name is a word where its bytes are a word of annotations
abbrev pub noted_kind : TokenKind → List ℕ → TokenKind
noted_kind kind.Name bytes = if is_word_among note_words bytes then kind.Word else kind.Name
noted_kind k bytes = k

-- the token as one of annotation text; a comment stays one
abbrev pub noted_token : List ℕ → Token → Token
noted_token source t = record { kind = noted_kind t.kind (bytes_of source t); start = t.start; end = t.end; line = t.line; note = note_of true t.kind }

abbrev pub noted_tokens : List ℕ → List Token → List Token
noted_tokens source tokens = map (noted_token source) tokens
