-- What the table reads of a text of a part.
use Rattle.std.proofs.Common.{◌≡◌, List, [], ◌∷◌, ◌++◌, refl, sym, ◌∙◌, ap, subst, Bool, true, false, if◌then◌else◌, arith, All, ℕ}
use Rattle.std.proofs.lemmas.List.{map-append}
use Rattle.std.proofs.lemmas.List.Elements.{All-map}
use Rattle.base_kit.specs.declared.fault.Stop.{Stop}
use Rattle.base_kit.specs.declared.fault.Stop.TheVariants.{Fault, Memory}
use Rattle.lex_ada.specs.Faults.{Answers, fault_in}
use Rattle.lex_ada.specs.Meanings.{LiesIn}
use Rattle.note_read.proofs.Lying.{tokens_lie}
use Rattle.std.proofs.Common.{Err}
use Rattle.base_kit.specs.declared.fault.Code.TheVariants.{F04}
use Rattle.base_kit.specs.declared.fault.Fault.{Fault as AFault}
use Rattle.ada_tree.specs.declared.node.Node.{Node}
use Rattle.ada_tree.specs.declared.part.Part.{Part}
use Rattle.ada_tree.specs.Parts.{place_of, is_noted, has_noted_tokens}
use Rattle.ada_tree.specs.Reading.{takes_comments}
use Rattle.ada_tree.specs.Tokens.{Sign}
use Rattle.lex_ada.specs.declared.token.Token.{Token}
use Rattle.lex_ada.specs.Lexis.{AreTokens}
use Rattle.lex_ada.specs.Meanings.{meanings}
use Rattle.note_read.specs.Signs.{read_by_table}
use Rattle.reading_exact.specs.Whole.{are_signs, whole_start}
use Rattle.reading_limits.specs.Viable.{read_within, StopsAt, IsLimitedAt}
use Rattle.reading_limits.proofs.Law.{is_derived_within, stops, is_limited}
use Rattle.reading_limits.proofs.Weighing.{weighed_is_within}
use Rattle.reading_table.specs.declared.held.Held.TheVariants as held
use Rattle.reading_table.specs.declared.symbol.Symbol.TheVariants as symbol
use Rattle.reading_table.specs.Limits.{read, stopped, limited}
use Rattle.reading_table.specs.Rows.{Line, placed}
use Rattle.reading_table.specs.Spelled.{has_texts}
use Rattle.reading_table.specs.Starts.{start_line}
use Rattle.reading_table.specs.States.{State}
use Rattle.text_signs.specs.Fragments.{noted_token, noted_tokens}
use Rattle.text_signs.proofs.Law.{tokens_fit, noted_tokens_fit}
use Rattle.text_read.specs.Faults.{IsFaultOf, OnFault, no_tokens, refused, too_deep, line_behind, code_behind}
use Rattle.text_read.specs.Fragments.{tokens_in, signs_in, whole_line, IsText}

line_with : (note : Bool) (line : Line) (commented : Bool)
    → placed note (if commented then symbol.Notes ∷ line ++ symbol.Noted ∷ [] else line) ≡ (if commented then (note, symbol.Notes) ∷ placed note line ++ (note, symbol.Noted) ∷ [] else placed note line)
line_with note line true = ap (λ rest. (note, symbol.Notes) ∷ rest) (map-append (λ s. (note, s)) line (symbol.Noted ∷ []))
line_with note line false = refl

pub whole_is : (part : Part) → placed (is_noted part) (whole_line part.rule) ≡ whole_start part
whole_is part = line_with (is_noted part) (start_line (place_of part.rule)) (takes_comments (place_of part.rule))

pub read_as : (round : ℕ) (part : Part) (signs : List Sign) → has_texts part ≡ true → read_by_table round (placed (is_noted part) (whole_line part.rule)) signs ≡ read_within round part signs
read_as round part signs h = ap (λ ss. read_by_table round ss signs) (whole_is part) ∙ weighed_is_within round part signs h

-- the tokens and comments of a text of a part are ones that there are in texts
pub signs_fit : (part : Part) (bytes : List ℕ) (tokens : List Token) → AreTokens bytes tokens → are_signs (signs_in part bytes tokens) ≡ true
signs_fit part bytes tokens a = by (has_noted_tokens part)
  where
    by : (noted : Bool) → are_signs (meanings bytes (if noted then noted_tokens bytes tokens else tokens)) ≡ true
    by true = noted_tokens_fit bytes tokens a
    by false = tokens_fit bytes tokens a

-- what is read is one node, which the text spells
pub record Gives (part : Part) (bytes : List ℕ) (state : State) : Type 0 where
  pub node : Node
  pub only : state.values ≡ held.Tree node ∷ []
  pub text : IsText part bytes node

pub gives : (part : Part) (bytes : List ℕ) (tokens : List Token) (state : State) → has_texts part ≡ true → AreTokens bytes tokens → read_within 0 part (signs_in part bytes tokens) ≡ read state → Gives part bytes state
gives part bytes tokens state h a r =
    let g = is_derived_within 0 part (signs_in part bytes tokens) state (λ none. omega arith) h (signs_fit part bytes tokens a) r in
    record { node = g.node; only = g.only; text = record { tokens = tokens; are_tokens = a; reads = g.reads } }

pub refuses : (part : Part) (bytes : List ℕ) (tokens : List Token) (n : ℕ) → has_texts part ≡ true → AreTokens bytes tokens → read_within 0 part (signs_in part bytes tokens) ≡ stopped n → StopsAt 0 part (signs_in part bytes tokens) n
refuses part bytes tokens n h a r = stops 0 part (signs_in part bytes tokens) n h (signs_fit part bytes tokens a) r

pub limits : (part : Part) (bytes : List ℕ) (tokens : List Token) (n : ℕ) → has_texts part ≡ true → AreTokens bytes tokens → read_within 0 part (signs_in part bytes tokens) ≡ limited n → IsLimitedAt 0 part (signs_in part bytes tokens) n
limits part bytes tokens n h a r = is_limited 0 part (signs_in part bytes tokens) n h (signs_fit part bytes tokens a) r

-- ---- the call

pub noted_tokens_lie : (bytes : List ℕ) (tokens : List Token) → AreTokens bytes tokens → All (λ t. LiesIn t bytes) (noted_tokens bytes tokens)
noted_tokens_lie bytes tokens a = All-map (λ t. LiesIn t bytes) (noted_token bytes) tokens (tokens_lie bytes tokens a)

pub own_tokens_lie : (part : Part) (bytes : List ℕ) (tokens : List Token) → AreTokens bytes tokens → All (λ t. LiesIn t bytes) (tokens_in part bytes tokens)
own_tokens_lie part bytes tokens a = by (has_noted_tokens part)
  where
    by : (noted : Bool) → All (λ t. LiesIn t bytes) (if noted then noted_tokens bytes tokens else tokens)
    by true = noted_tokens_lie bytes tokens a
    by false = tokens_lie bytes tokens a

pub without_tokens : (part : Part) (bytes : List ℕ) (stop : Stop) → Answers (Err stop) bytes → OnFault (IsFaultOf part bytes) stop
without_tokens part bytes (Fault fault) a = subst (IsFaultOf part bytes) (sym a.2) (no_tokens a.3)
without_tokens part bytes Memory a = tt

pub is_refused : (part : Part) (bytes : List ℕ) (tokens : List Token) (n : ℕ) (fault : AFault) → has_texts part ≡ true → AreTokens bytes tokens → read_within 0 part (signs_in part bytes tokens) ≡ stopped n
    → fault ≡ fault_in (code_behind bytes (tokens_in part bytes tokens) n) (line_behind bytes (tokens_in part bytes tokens) n) → IsFaultOf part bytes fault
is_refused part bytes tokens n fault h a r e = refused record { tokens = tokens; are_tokens = a; n = n; stops = refuses part bytes tokens n h a r; fault_is = e }

pub is_too_deep : (part : Part) (bytes : List ℕ) (tokens : List Token) (n : ℕ) (fault : AFault) → has_texts part ≡ true → AreTokens bytes tokens → read_within 0 part (signs_in part bytes tokens) ≡ limited n
    → fault ≡ fault_in F04 (line_behind bytes (tokens_in part bytes tokens) n) → IsFaultOf part bytes fault
is_too_deep part bytes tokens n fault h a r e = too_deep record { tokens = tokens; are_tokens = a; n = n; stops = limits part bytes tokens n h a r; fault_is = e }
