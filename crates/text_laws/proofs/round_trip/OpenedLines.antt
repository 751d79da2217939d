-- What open parentheses ask of the places and lines of the grammar, tested on each of them.
use Rattle.std.proofs.Common.{◌≡◌, ℕ, List, [], ◌∷◌, refl, sym, ◌∙◌, ap, subst, Bool, true, false, not, ◌&&◌, ◌||◌, Option, Some, None}
use Rattle.std.specs.Prelude.{IfSome}
use Rattle.std.specs.Option.{option_map_or}
use Rattle.std.specs.List.{list_all}
use Rattle.ada_tree.specs.declared.kind.Kind.{Kind}
use Rattle.ada_tree.specs.declared.kind.Kind.TheVariants as kind
use Rattle.ada_tree.specs.declared.word.Mark.{Mark}
use Rattle.ada_tree.specs.declared.word.Mark.TheVariants as mark
use Rattle.ada_tree.specs.declared.grammar.Choice.{Choice}
use Rattle.ada_tree.specs.declared.grammar.Choice.TheVariants as choice
use Rattle.ada_tree.specs.declared.grammar.Argument.{Argument}
use Rattle.ada_tree.specs.declared.grammar.Argument.TheVariants as argument
use Rattle.ada_tree.specs.declared.grammar.Shape.{Shape}
use Rattle.ada_tree.specs.declared.grammar.Shape.TheVariants.{One, Listed, MaybeListed}
use Rattle.ada_tree.specs.declared.grammar.Piece.{Piece}
use Rattle.ada_tree.specs.declared.grammar.Piece.TheVariants.{Word, Mark as its_mark, Own, Kid, Members, Arguments, Option as Optional, Shown, End, Indent, Outdent, Glue, NoteOn, NoteOff}
use Rattle.ada_tree.specs.declared.operator.OperatorEntry.{OperatorEntry}
use Rattle.ada_tree.specs.declared.operator.Level.{Level}
use Rattle.ada_tree.specs.declared.operator.Level.TheVariants as level
use Rattle.ada_tree.specs.Kinds.{is_among}
use Rattle.ada_tree.specs.Nodes.{is_nested}
use Rattle.ada_tree.specs.Tokens.{a_mark}
use Rattle.ada_tree.specs.Operators.{entry_of}
use Rattle.ada_tree.specs.Choices.{kinds, expression_kinds, level_of, on_side, floor, binds, is_coefficient, is_only, is_tight as is_tight_level, stands}
use Rattle.ada_tree.specs.Lines.{line, line_by_operator, select_line, unary_line}
use Rattle.ada_tree.specs.Spelling.{after_end, listed_place}
use Rattle.ada_tree.specs.Canonical.{is_compound, is_looser, is_wrapped}
use Rattle.ada_tree.proofs.Found.{entry_of_kind_passes, line_holds, line_of_kind_holds, found_line_holds}
use Rattle.text_laws.proofs.round_trip.Places.{both, same_kind, all_among}
use Rattle.text_laws.proofs.round_trip.Parentheses.{wrapped_opens, same_line}
use Rattle.text_laws.proofs.round_trip.Lines.{has_kid, has_lists}
use Rattle.text_laws.proofs.round_trip.OpenedItems.{is_flat_lexeme, one_of}

-- ---- kinds and places

-- the kinds of expressions and of their parts: fewer parentheses are open at once in a node of these than nodes are nested in it, or none
abbrev pub is_tight_kind : Kind → Bool
is_tight_kind k = is_among k (expression_kinds false) || is_among k (expression_kinds true) || is_among k (kind.Assoc ∷ kind.Span ∷ kind.RangeOf ∷ kind.Others ∷ kind.Choices ∷ kind.Formal ∷ kind.Id ∷ [])

-- the kinds among them that are nested, or contain a node that is
abbrev pub is_counted_kind : Kind → Bool
is_counted_kind k = is_among k (expression_kinds false) || is_among k (expression_kinds true) || is_among k (kind.Assoc ∷ kind.Span ∷ kind.RangeOf ∷ kind.Formal ∷ [])

-- the places where only nodes of such kinds stand, of kinds that those of expressions are among
abbrev places_of : (Kind → Bool) → Choice → Bool
places_of P (choice.Only k) = P k
places_of P choice.Item = false
places_of P choice.Clause = false
places_of P choice.Lib = false
places_of P choice.Spec = false
places_of P choice.Decl = false
places_of P choice.Tdef = false
places_of P choice.Choices = P kind.Others
places_of P choice.Stmt = false
places_of P choice.Head = false
places_of P choice.Wclause = false
places_of P _ = true

abbrev pub is_tight : Choice → Bool
is_tight place = places_of is_tight_kind place

abbrev pub is_counted : Choice → Bool
is_counted place = places_of is_counted_kind place

-- what holds of all kinds of expressions and of the kinds of a place holds of each node that stands there
all_standing : (P : Kind → Bool) → ((note : Bool) → list_all P (expression_kinds note) ≡ true) → (note : Bool) (place : Choice) (k : Kind) (text : List ℕ)
    → ((wanted : Kind) → place ≡ choice.Only wanted → P wanted ≡ true) → list_all P (kinds place) ≡ true → stands note place k text ≡ true → P k ≡ true
all_standing P exps note place k text only own h =
    one_of (is_only note place k text || is_among k (kinds place) || is_coefficient place k text) _ h
    (λ e. one_of (is_only note place k text || is_among k (kinds place)) _ e
    (λ f. one_of (is_only note place k text) _ f (at_only place only) (all_among P (kinds place) own k))
    (at_coefficient place))
    (bound (floor place))
  where
    at_only : (place : Choice) → ((wanted : Kind) → place ≡ choice.Only wanted → P wanted ≡ true) → is_only note place k text ≡ true → P k ≡ true
    at_only (choice.Only wanted) only e = ap P (sym (same_kind wanted k (both e).0)) ∙ only wanted refl
    at_only _ only e = absurd cc

    at_coefficient : (place : Choice) → is_coefficient place k text ≡ true → P k ≡ true
    at_coefficient choice.Coefficient e = ap P (same_kind k kind.Unary (both e).0) ∙ all_among P (expression_kinds false) (exps false) kind.Unary refl
    at_coefficient _ e = absurd cc

    bound : (least : Option Level) → binds note place least k text ≡ true → P k ≡ true
    bound None e = absurd cc
    bound (Some l) e = all_among P (expression_kinds note) (exps note) k (both (both e).0).0

tight_expressions : (note : Bool) → list_all is_tight_kind (expression_kinds note) ≡ true
tight_expressions true = refl
tight_expressions false = refl

counted_expressions : (note : Bool) → list_all is_counted_kind (expression_kinds note) ≡ true
counted_expressions true = refl
counted_expressions false = refl

tight_kinds : (place : Choice) → is_tight place ≡ true → list_all is_tight_kind (kinds place) ≡ true
tight_kinds choice.Item h = absurd cc
tight_kinds choice.Clause h = absurd cc
tight_kinds choice.Lib h = absurd cc
tight_kinds choice.Spec h = absurd cc
tight_kinds choice.Decl h = absurd cc
tight_kinds choice.Tdef h = absurd cc
tight_kinds choice.Stmt h = absurd cc
tight_kinds choice.Head h = absurd cc
tight_kinds choice.Wclause h = absurd cc
tight_kinds _ h = refl

counted_kinds : (place : Choice) → is_counted place ≡ true → list_all is_counted_kind (kinds place) ≡ true
counted_kinds choice.Item h = absurd cc
counted_kinds choice.Clause h = absurd cc
counted_kinds choice.Lib h = absurd cc
counted_kinds choice.Spec h = absurd cc
counted_kinds choice.Decl h = absurd cc
counted_kinds choice.Tdef h = absurd cc
counted_kinds choice.Choices h = absurd cc
counted_kinds choice.Stmt h = absurd cc
counted_kinds choice.Head h = absurd cc
counted_kinds choice.Wclause h = absurd cc
counted_kinds _ h = refl

pub tight_standing : (note : Bool) (place : Choice) (k : Kind) (text : List ℕ) → is_tight place ≡ true → stands note place k text ≡ true → is_tight_kind k ≡ true
tight_standing note place k text t h = all_standing is_tight_kind tight_expressions note place k text (λ wanted e. rw (sym (ap is_tight e)) t) (tight_kinds place t) h

pub counted_standing : (note : Bool) (place : Choice) (k : Kind) (text : List ℕ) → is_counted place ≡ true → stands note place k text ≡ true → is_counted_kind k ≡ true
counted_standing note place k text t h = all_standing is_counted_kind counted_expressions note place k text (λ wanted e. rw (sym (ap is_counted e)) t) (counted_kinds place t) h

-- ---- shapes

abbrev pub is_flat_mark : Mark → Bool
is_flat_mark m = is_flat_lexeme (a_mark m)

-- no parentheses stand between the members
abbrev pub is_loose_shape : Shape → Bool
is_loose_shape (Listed place m) = is_flat_mark m
is_loose_shape (MaybeListed place m) = is_flat_mark m
is_loose_shape _ = true

abbrev pub is_tight_shape : Shape → Bool
is_tight_shape (One place) = is_tight place
is_tight_shape (Listed place m) = is_tight place && is_flat_mark m
is_tight_shape _ = false

abbrev pub is_counted_shape : Shape → Bool
is_counted_shape (One place) = is_counted place
is_counted_shape (Listed place m) = is_counted place
is_counted_shape _ = false

-- ---- lines

-- A line opens parentheses one at a time, round parts that are tight, and closes them. The first argument tells that one is open, the second that a part is left out.
abbrev pub is_loose_line : Bool → Bool → List Piece → Bool
is_loose_line inside skip [] = not inside
is_loose_line inside skip (End ∷ pieces) = is_loose_line inside false pieces
is_loose_line inside true (piece ∷ pieces) = is_loose_line inside true pieces
is_loose_line inside false (Word w ∷ pieces) = is_loose_line inside false pieces
is_loose_line inside false (its_mark mark.Open ∷ pieces) = not inside && is_loose_line true false pieces
is_loose_line inside false (its_mark mark.Close ∷ pieces) = inside && is_loose_line false false pieces
is_loose_line inside false (its_mark m ∷ pieces) = is_loose_line inside false pieces
is_loose_line inside false (Own own ∷ pieces) = is_loose_line inside false pieces
is_loose_line inside false (Kid shape ∷ pieces) = (not inside || is_tight_shape shape) && is_loose_shape shape && is_loose_line inside false pieces
is_loose_line inside false (Members place ∷ pieces) = not inside
is_loose_line inside false (Arguments ∷ pieces) = not inside && is_loose_line inside false pieces
is_loose_line inside false (Optional ∷ pieces) = has_kid pieces && is_loose_line inside true pieces && is_loose_line inside false pieces
is_loose_line inside false (Shown count ∷ pieces) = has_lists pieces count && is_loose_line inside true pieces && is_loose_line inside false pieces
is_loose_line inside false (Indent ∷ pieces) = is_loose_line inside false pieces
is_loose_line inside false (Outdent ∷ pieces) = is_loose_line inside false pieces
is_loose_line inside false (Glue ∷ pieces) = is_loose_line inside false pieces
is_loose_line inside false (NoteOn ∷ pieces) = is_loose_line inside false pieces
is_loose_line inside false (NoteOff ∷ pieces) = is_loose_line inside false pieces

pub loose_skipped : (inside : Bool) (pieces : List Piece) → is_loose_line inside true pieces ≡ is_loose_line inside false (after_end pieces)
loose_skipped inside [] = refl
loose_skipped inside (End ∷ pieces) = refl
loose_skipped inside (_ ∷ pieces) = loose_skipped inside pieces

-- a line of tight parts without parentheses
abbrev pub is_tight_line : List Piece → Bool
is_tight_line [] = true
is_tight_line (Word w ∷ pieces) = is_tight_line pieces
is_tight_line (its_mark m ∷ pieces) = is_flat_mark m && is_tight_line pieces
is_tight_line (Own own ∷ pieces) = is_tight_line pieces
is_tight_line (Kid shape ∷ pieces) = is_tight_shape shape && is_tight_line pieces
is_tight_line (Glue ∷ pieces) = is_tight_line pieces
is_tight_line _ = false

-- a part is nested, or contains a node that is
abbrev pub is_counted_line : List Piece → Bool
is_counted_line (Word w ∷ pieces) = is_counted_line pieces
is_counted_line (its_mark m ∷ pieces) = is_counted_line pieces
is_counted_line (Own own ∷ pieces) = is_counted_line pieces
is_counted_line (Kid shape ∷ pieces) = is_counted_shape shape || is_counted_line pieces
is_counted_line (Glue ∷ pieces) = is_counted_line pieces
is_counted_line _ = false

-- ---- the written table

loose_operator : (k : Kind) (text : List ℕ) → is_loose_line false false (line_by_operator k text) ≡ true
loose_operator k text = line_holds (is_loose_line false false) refl refl k text

loose_unary : (place : Choice) (text : List ℕ) → is_loose_line false false (unary_line place text) ≡ true
loose_unary choice.Coefficient text = refl
loose_unary _ text = loose_operator kind.Unary text

loose_select : (place : Choice) → is_loose_line false false (select_line place) ≡ true
loose_select choice.Mark = refl
loose_select _ = refl

pub loose_line : (place : Choice) (k : Kind) (text : List ℕ) → is_loose_line false false (line place k text) ≡ true
loose_line place kind.Binary text = loose_operator kind.Binary text
loose_line place kind.Unary text = loose_unary place text
loose_line place kind.Select text = loose_select place
loose_line place kind.Member text = loose_operator kind.Member text
loose_line place kind.Make text = loose_operator kind.Make text
loose_line place _ text = refl

-- a tight line, or that of a nested kind, with parentheses round parts that are counted
abbrev pub is_fit : Kind → List Piece → Bool
is_fit k pieces = is_tight_line pieces || (is_nested k && is_counted_line pieces)

fit_unary : (place : Choice) (text : List ℕ) → is_fit kind.Unary (unary_line place text) ≡ true
fit_unary choice.Coefficient text = refl
fit_unary _ text = line_holds (is_fit kind.Unary) refl refl kind.Unary text

fit_select : (place : Choice) (text : List ℕ) → is_fit kind.Select (line place kind.Select text) ≡ true
fit_select choice.Mark text = refl
fit_select _ text = refl

pub fit_line : (place : Choice) (k : Kind) (text : List ℕ) → is_tight_kind k ≡ true → is_fit k (line place k text) ≡ true
fit_line place kind.Binary text h = line_holds (is_fit kind.Binary) refl refl kind.Binary text
fit_line place kind.Unary text h = fit_unary place text
fit_line place kind.Member text h = line_holds (is_fit kind.Member) refl refl kind.Member text
fit_line place kind.Make text h = line_holds (is_fit kind.Make) refl refl kind.Make text
fit_line place kind.Select text h = fit_select place text
fit_line place kind.Doc text h = absurd cc
fit_line place _ text h = cc

-- a nested kind, or one with a part that is counted
pub counted_line : (place : Choice) (k : Kind) (text : List ℕ) → is_counted_kind k ≡ true → is_nested k || is_counted_line (line place k text) ≡ true
counted_line place kind.Doc text h = absurd cc
counted_line place kind.Binary text h = refl
counted_line place kind.Unary text h = refl
counted_line place kind.Member text h = refl
counted_line place kind.Make text h = refl
counted_line place kind.Select text h = refl
counted_line place _ text h = cc

-- ---- what is written in parentheses

-- the kinds that are
abbrev wrapped_kinds : List Kind
wrapped_kinds = kind.Binary ∷ kind.Unary ∷ kind.Member ∷ kind.All ∷ kind.Exists ∷ kind.Cond ∷ kind.Old ∷ []

compound_kind : (k : Kind) → is_compound k ≡ true → is_among k wrapped_kinds ≡ true
compound_kind k h = all_among (λ k. is_among k wrapped_kinds) (kind.Binary ∷ kind.Unary ∷ kind.Member ∷ kind.All ∷ kind.Exists ∷ kind.Cond ∷ []) refl k h

no_looser : (e : Option OperatorEntry) → IfSome e (λ entry. is_tight_level level.Sum (Some entry.level) ≡ true) → is_looser level.Sum (option_map_or (λ entry. Some entry.level) e None) ≡ true → ⊥
no_looser None h w = absurd cc
no_looser (Some entry) h w = absurd cc

looser_kind : (k : Kind) (text : List ℕ) → is_looser level.Sum (level_of k text) ≡ true → is_among k wrapped_kinds ≡ true
looser_kind kind.Binary text w = refl
looser_kind kind.Unary text w = refl
looser_kind kind.Member text w = refl
looser_kind kind.All text w = refl
looser_kind kind.Exists text w = refl
looser_kind kind.Cond text w = refl
looser_kind kind.Make text w = absurd (no_looser (entry_of kind.Make text) (entry_of_kind_passes kind.Make (λ entry. is_tight_level level.Sum (Some entry.level)) refl text) w)
looser_kind _ text w = absurd cc

wrapped_kind : (place : Choice) (k : Kind) (text : List ℕ) → is_wrapped place k text ≡ true → is_among k wrapped_kinds ≡ true
wrapped_kind (choice.Operand level.Prefix) k text w = one_of (is_compound k) _ w (compound_kind k) (λ e. ap (λ k. is_among k wrapped_kinds) (same_kind k kind.Old e))
wrapped_kind (choice.Operand _) k text w = compound_kind k w
wrapped_kind (choice.Chain operator) k text w = compound_kind k w
wrapped_kind choice.Bound k text w = looser_kind k text w
wrapped_kind _ k text w = absurd cc

tight_anywhere : (k : Kind) (text : List ℕ) → is_among k wrapped_kinds ≡ true → is_tight_line (line choice.Expr k text) ≡ true
tight_anywhere kind.Binary text h = line_of_kind_holds is_tight_line refl kind.Binary refl text
tight_anywhere kind.Unary text h = line_of_kind_holds is_tight_line refl kind.Unary refl text
tight_anywhere kind.Member text h = line_of_kind_holds is_tight_line refl kind.Member refl text
tight_anywhere kind.Make text h = absurd cc
tight_anywhere kind.Doc text h = absurd cc
tight_anywhere _ text h = cc

counted_anywhere : (note : Bool) (k : Kind) (text : List ℕ) → is_among k wrapped_kinds ≡ true → on_side note k text ≡ true → is_counted_line (line choice.Expr k text) ≡ true
counted_anywhere note kind.Binary text h s = found_line_holds is_counted_line refl note kind.Binary text s
counted_anywhere note kind.Unary text h s = found_line_holds is_counted_line refl note kind.Unary text s
counted_anywhere note kind.Member text h s = found_line_holds is_counted_line refl note kind.Member text s
counted_anywhere note kind.Make text h s = absurd cc
counted_anywhere note kind.Doc text h s = absurd cc
counted_anywhere note _ text h s = cc

pub wrapped_nested : (place : Choice) (k : Kind) (text : List ℕ) → is_wrapped place k text ≡ true → is_nested k ≡ true
wrapped_nested place k text w = all_among is_nested wrapped_kinds refl k (wrapped_kind place k text w)

pub wrapped_tight : (place : Choice) (k : Kind) (text : List ℕ) → is_wrapped place k text ≡ true → is_tight_line (line place k text) ≡ true
wrapped_tight place k text w = ap is_tight_line (same_line place k text (wrapped_opens place k text w)) ∙ tight_anywhere k text (wrapped_kind place k text w)

pub wrapped_counted : (note : Bool) (place : Choice) (k : Kind) (text : List ℕ) → is_wrapped place k text ≡ true → stands note choice.Expr k text ≡ true → is_counted_line (line place k text) ≡ true
wrapped_counted note place k text w h =
    ap is_counted_line (same_line place k text (wrapped_opens place k text w)) ∙ counted_anywhere note k text (wrapped_kind place k text w) (both (both h).0).1

-- ---- arguments of proof steps

-- a list of arguments in parentheses has tight members
pub tight_arguments : (a : Argument) (place : Choice) → listed_place a ≡ Some place → is_tight place ≡ true
tight_arguments argument.Names place h = let e : choice.Only kind.Name ≡ place = cc in subst (λ p. is_tight p ≡ true) e refl
tight_arguments argument.Terms place h = let e : choice.Expr ≡ place = cc in subst (λ p. is_tight p ≡ true) e refl
tight_arguments argument.Coefficients place h = let e : choice.Coefficient ≡ place = cc in subst (λ p. is_tight p ≡ true) e refl
tight_arguments _ place h = absurd cc
