-- What telling tokens apart asks of the places and lines of the grammar, tested on each of them.
use Rattle.std.proofs.Common.{◌≡◌, ℕ, List, [], ◌∷◌, refl, sym, ◌∙◌, ap, Bool, true, false, not, ◌&&◌, ◌||◌, Option, Some, None, if◌then◌else◌}
use Rattle.std.specs.Prelude.{IfSome}
use Rattle.std.specs.Option.{option_map_or}
use Rattle.std.specs.List.{list_all}
use denote.Enum.Bare.{sameb}
use Rattle.ada_tree.specs.declared.kind.Kind.{Kind}
use Rattle.ada_tree.specs.declared.kind.Kind.TheVariants as kind
use Rattle.ada_tree.specs.declared.word.Mark.{Mark}
use Rattle.ada_tree.specs.declared.grammar.Choice.{Choice}
use Rattle.ada_tree.specs.declared.grammar.Choice.TheVariants as choice
use Rattle.ada_tree.specs.declared.grammar.Own.TheVariants as own
use Rattle.ada_tree.specs.declared.grammar.Shape.{Shape}
use Rattle.ada_tree.specs.declared.grammar.Shape.TheVariants.{One, Any, Many, Listed, MaybeListed, ForAll}
use Rattle.ada_tree.specs.declared.grammar.Piece.{Piece}
use Rattle.ada_tree.specs.declared.grammar.Piece.TheVariants.{Word, Mark as its_mark, Own, Kid, Members, Arguments, Option as Optional, Shown, End, Indent, Outdent, Glue, NoteOn, NoteOff}
use Rattle.ada_tree.specs.declared.operator.OperatorEntry.{OperatorEntry}
use Rattle.ada_tree.specs.declared.operator.Level.{Level}
use Rattle.ada_tree.specs.declared.operator.Level.TheVariants as level
use Rattle.ada_tree.specs.contracts.operator.Level as level_row
use Rattle.ada_tree.specs.Kinds.{is_kind, is_among}
use Rattle.ada_tree.specs.Operators.{operator_line, entry_of}
use Rattle.ada_tree.specs.Choices.{kinds, expression_kinds, floor, binds, is_coefficient, is_only, stands, comments_of}
use Rattle.ada_tree.specs.Tokens.{a_word, a_mark}
use Rattle.ada_tree.specs.Lines.{line, line_by_operator, unary_line}
use Rattle.ada_tree.specs.Spelling.{after_end, starts_with_comments, ends_with_comments, keeps_comments}
use Rattle.ada_tree.proofs.Found.{entry_passes}
use Rattle.text_laws.proofs.round_trip.Places.{same_kind, all_among, both}
use Rattle.text_laws.proofs.round_trip.Lines.{has_kid, has_lists}
use Rattle.text_laws.proofs.round_trip.OpenedItems.{one_of}
use Rattle.lex_ada.specs.Rendered.{is_fitting}
use Rattle.text_laws.proofs.apart.Fronts.{Front, usual, after_mark, starting, gives, may_glue, glued, front_after, takes}
use Rattle.text_laws.proofs.apart.Texts.{is_noted_own}

-- ---- kinds and places, in annotations and in Ada text

-- The kinds whose lines may stand there: annotations take no annotations and no comments, and Ada text has no words of annotations.
abbrev is_noted : Bool → Kind → Bool
is_noted true k = is_among k (expression_kinds true) || is_among k (expression_kinds false)
    || is_among k (kind.Assoc ∷ kind.Span ∷ kind.RangeOf ∷ kind.Others ∷ kind.Choices ∷ kind.Id ∷ kind.Global ∷ kind.In ∷ kind.Out ∷ kind.RaiseC ∷ kind.Incl ∷ kind.Op ∷ kind.Gen ∷ kind.Vars ∷ kind.Eqn ∷ kind.Lemma ∷ kind.Key ∷ kind.Step ∷ [])
is_noted false k = not (is_among k (kind.Doc ∷ kind.Global ∷ kind.Exists ∷ kind.Incl ∷ kind.Gen ∷ kind.Step ∷ kind.Key ∷ []))

-- the kinds of nodes with operators
abbrev pub operator_kinds : List Kind
operator_kinds = kind.Binary ∷ kind.Unary ∷ kind.Member ∷ kind.Make ∷ []

-- no place is theirs alone
abbrev pub is_noted_place : Bool → Choice → Bool
is_noted_place note (choice.Only k) = is_noted note k && not (is_among k operator_kinds)
is_noted_place note place = list_all (is_noted note) (kinds place)

noted_expressions : (note : Bool) → list_all (is_noted note) (expression_kinds note) ≡ true
noted_expressions true = refl
noted_expressions false = refl

noted_unary : (note : Bool) → is_noted note kind.Unary ≡ true
noted_unary true = refl
noted_unary false = refl

noted_kinds : (note : Bool) (place : Choice) → is_noted_place note place ≡ true → list_all (is_noted note) (kinds place) ≡ true
noted_kinds note (choice.Only k) h = refl
noted_kinds note choice.Item h = h
noted_kinds note _ h = h

pub noted_standing : (note : Bool) (place : Choice) (k : Kind) (text : List ℕ) → is_noted_place note place ≡ true → stands note place k text ≡ true → is_noted note k ≡ true
noted_standing note place k text n h =
    one_of (is_only note place k text || is_among k (kinds place) || is_coefficient place k text) _ h
    (λ e. one_of (is_only note place k text || is_among k (kinds place)) _ e
    (λ f. one_of (is_only note place k text) _ f (at_only place n) (all_among (is_noted note) (kinds place) (noted_kinds note place n) k))
    (at_coefficient place))
    (bound (floor place))
  where
    at_only : (place : Choice) → is_noted_place note place ≡ true → is_only note place k text ≡ true → is_noted note k ≡ true
    at_only (choice.Only wanted) n e = ap (is_noted note) (sym (same_kind wanted k (both e).0)) ∙ (both n).0
    at_only _ n e = absurd cc

    at_coefficient : (place : Choice) → is_coefficient place k text ≡ true → is_noted note k ≡ true
    at_coefficient choice.Coefficient e = ap (is_noted note) (same_kind k kind.Unary (both e).0) ∙ noted_unary note
    at_coefficient _ e = absurd cc

    bound : (least : Option Level) → binds note place least k text ≡ true → is_noted note k ≡ true
    bound None e = absurd cc
    bound (Some l) e = all_among (is_noted note) (expression_kinds note) (noted_expressions note) k (both (both e).0).0

-- the places that only operands stand at: they begin so that a sign may stand before them without a blank
abbrev pub needs : Choice → Front
needs (choice.Operand l) = starting
needs (choice.Only kind.Int) = starting
needs _ = usual

abbrev pub is_apart_list : Bool → Choice → Bool
is_apart_list note place = is_noted_place note place && not (keeps_comments (comments_of place)) && (not note || not (starts_with_comments (comments_of place) true) && not (ends_with_comments (comments_of place)))

-- a mark that may stand after a member, and before any other
abbrev pub is_apart_mark : Mark → Bool
is_apart_mark m = takes usual (a_mark m) && gives (front_after (a_mark m)) usual

-- ---- shapes

abbrev pub is_apart_shape : Bool → Shape → Bool
is_apart_shape note (One place) = is_noted_place note place
is_apart_shape note (Any place) = is_apart_list note place
is_apart_shape note (Many place) = is_apart_list note place
is_apart_shape note (Listed place m) = is_noted_place note place && is_apart_mark m
is_apart_shape note (MaybeListed place m) = is_noted_place note place && is_apart_mark m
is_apart_shape note ForAll = true

abbrev pub needs_of : Shape → Front
needs_of (One place) = needs place
needs_of _ = usual

-- ---- lines

-- which operator a line has as its text: none; one between blanks; a sign, which no blank follows; one that a list in parentheses follows
pub data Use : Type 0 where
  no_operator between sign named : Use

abbrev pub before_use : Use → Front
before_use named = starting
before_use _ = usual

abbrev pub after_use : Use → Front
after_use sign = after_mark
after_use _ = usual

abbrev pub is_used : Use → Bool
is_used no_operator = false
is_used _ = true

abbrev pub is_same : Bool → Bool → Bool
is_same outer now = if outer then now else not now

-- The tokens of a line can be told apart. The first argument tells whether the line stands in an annotation, the fifth whether this part of it does, and the fourth that a part is left out; the front is what may stand next.
abbrev pub is_apart_line : Bool → Use → Front → Bool → Bool → List Piece → Bool
is_apart_line outer how front skip now [] = is_same outer now && gives front usual
is_apart_line outer how front skip now (End ∷ pieces) = is_apart_line outer how front false now pieces
is_apart_line outer how front true now (piece ∷ pieces) = is_apart_line outer how front true now pieces
is_apart_line outer how front false now (Word w ∷ pieces) = is_fitting now (a_word w) && takes front (a_word w) && is_apart_line outer how usual false now pieces
is_apart_line outer how front false now (its_mark m ∷ pieces) = takes front (a_mark m) && is_apart_line outer how (front_after (a_mark m)) false now pieces
is_apart_line outer how front false now (Own own.Operator ∷ pieces) = is_used how && is_same outer now && gives front (before_use how) && is_apart_line outer how (after_use how) false now pieces
is_apart_line outer how front false now (Own own ∷ pieces) = is_noted_own now own && gives front starting && is_apart_line outer how usual false now pieces
is_apart_line outer how front false now (Kid shape ∷ pieces) = is_apart_shape now shape && gives front (needs_of shape) && is_apart_line outer how usual false now pieces
is_apart_line outer how front false now (Members place ∷ pieces) = is_apart_list now place && gives front usual && is_same outer now
is_apart_line outer how front false now (Arguments ∷ pieces) = gives front usual && is_apart_line outer how usual false now pieces
is_apart_line outer how front false now (Optional ∷ pieces) = has_kid pieces && is_apart_line outer how front true now pieces && is_apart_line outer how front false now pieces
is_apart_line outer how front false now (Shown count ∷ pieces) = has_lists pieces count && is_apart_line outer how front true now pieces && is_apart_line outer how front false now pieces
is_apart_line outer how front false now (Indent ∷ pieces) = is_apart_line outer how after_mark false now pieces
is_apart_line outer how front false now (Outdent ∷ pieces) = is_apart_line outer how after_mark false now pieces
is_apart_line outer how front false now (Glue ∷ pieces) = may_glue front && is_apart_line outer how (glued front) false now pieces
is_apart_line outer how front false now (NoteOn ∷ pieces) = not now && is_apart_line outer how after_mark false true pieces
is_apart_line outer how front false now (NoteOff ∷ pieces) = now && is_apart_line outer how after_mark false false pieces

pub apart_skipped : (outer : Bool) (how : Use) (front : Front) (now : Bool) (pieces : List Piece) → is_apart_line outer how front true now pieces ≡ is_apart_line outer how front false now (after_end pieces)
apart_skipped outer how front now [] = refl
apart_skipped outer how front now (End ∷ pieces) = refl
apart_skipped outer how front now (_ ∷ pieces) = apart_skipped outer how front now pieces

-- ---- the written table

-- by what its entry says of an operator
abbrev pub use_of_entry : OperatorEntry → Use
use_of_entry entry = if is_kind entry.kind kind.Make then named else (if sameb level_row.the_type entry.level level.Signed then sign else between)

abbrev pub use_of : Option OperatorEntry → Use
use_of entry = option_map_or use_of_entry entry no_operator

abbrev pub use_at : Choice → Kind → List ℕ → Use
use_at place kind.Binary text = use_of (entry_of kind.Binary text)
use_at choice.Coefficient kind.Unary text = sign
use_at place kind.Unary text = use_of (entry_of kind.Unary text)
use_at place kind.Member text = use_of (entry_of kind.Member text)
use_at place kind.Make text = use_of (entry_of kind.Make text)
use_at place _ text = no_operator

-- a line that begins after this front can be told apart with the operator of this entry
abbrev pub is_apart_after : Bool → Front → OperatorEntry → Bool
is_apart_after note front entry = is_apart_line note (use_of_entry entry) front false note (operator_line entry.operator)

pub apart_entry : (note : Bool) (front : Front) → is_apart_line note no_operator front false note [] ≡ true → (e : Option OperatorEntry) → IfSome e (λ entry. is_apart_after note front entry ≡ true)
    → is_apart_line note (use_of e) front false note (option_map_or (λ entry. operator_line entry.operator) e []) ≡ true
apart_entry note front empty None h = empty
apart_entry note front empty (Some entry) h = h

apart_operator : (note : Bool) (k : Kind) (text : List ℕ) → is_apart_line note (use_of (entry_of k text)) usual false note (line_by_operator k text) ≡ true
apart_operator true k text = apart_entry true usual refl (entry_of k text) (entry_passes (is_apart_after true usual) refl k text)
apart_operator false k text = apart_entry false usual refl (entry_of k text) (entry_passes (is_apart_after false usual) refl k text)

apart_unary : (note : Bool) (place : Choice) (text : List ℕ) → is_apart_line note (use_at place kind.Unary text) usual false note (unary_line place text) ≡ true
apart_unary true choice.Coefficient text = refl
apart_unary false choice.Coefficient text = refl
apart_unary note choice.Item text = apart_operator note kind.Unary text
apart_unary note _ text = apart_operator note kind.Unary text

apart_select : (note : Bool) (place : Choice) (text : List ℕ) → is_apart_line note no_operator usual false note (line place kind.Select text) ≡ true
apart_select true choice.Mark text = refl
apart_select true choice.Dis text = refl
apart_select true choice.LemmaName text = refl
apart_select true _ text = refl
apart_select false choice.Mark text = refl
apart_select false choice.Dis text = refl
apart_select false choice.LemmaName text = refl
apart_select false _ text = refl

pub apart_line : (note : Bool) (place : Choice) (k : Kind) (text : List ℕ) → is_noted note k ≡ true → is_apart_line note (use_at place k text) usual false note (line place k text) ≡ true
apart_line note place kind.Binary text h = apart_operator note kind.Binary text
apart_line note place kind.Unary text h = apart_unary note place text
apart_line note place kind.Member text h = apart_operator note kind.Member text
apart_line note place kind.Make text h = apart_operator note kind.Make text
apart_line note place kind.Select text h = apart_select note place text
apart_line true place kind.Doc text h = absurd cc
apart_line false place kind.Doc text h = absurd cc
apart_line true place _ text h = cc
apart_line false place _ text h = cc
