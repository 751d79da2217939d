-- Operators by where a node stands, and operands that begin as they must after a sign.
use Rattle.std.proofs.Common.{◌≡◌, ℕ, List, [], ◌∷◌, refl, sym, ◌∙◌, ap, subst, Bool, true, false, not, ◌&&◌, ◌||◌, Option, Some, None}
use Rattle.std.proofs.lemmas.Bool.{not-true}
use Rattle.std.specs.Prelude.{is_some, bytes_eq, codes, IfSome}
use Rattle.std.specs.Option.{option_map_or}
use Rattle.std.specs.List.{list_all}
use Rattle.std.proofs.lemmas.Slice.Eq.{bytes_eq-Decides}
use Rattle.ada_tree.specs.declared.kind.Kind.{Kind}
use Rattle.ada_tree.specs.declared.kind.Kind.TheVariants as kind
use Rattle.ada_tree.specs.declared.grammar.Choice.{Choice}
use Rattle.ada_tree.specs.declared.grammar.Choice.TheVariants as choice
use Rattle.ada_tree.specs.declared.operator.OperatorEntry.{OperatorEntry}
use Rattle.ada_tree.specs.declared.operator.TheConstants.{OPERATORS}
use Rattle.ada_tree.specs.declared.operator.Level.{Level}
use Rattle.ada_tree.specs.declared.operator.Level.TheVariants as level
use Rattle.ada_tree.specs.Kinds.{is_kind, is_among}
use Rattle.ada_tree.specs.Operators.{OperatorRow, operator_line, entry_of}
use Rattle.ada_tree.specs.Choices.{kinds, expression_kinds, floor, binds, is_coefficient, is_only, stands, opens, has_side, has_operator, on_side}
use Rattle.ada_tree.specs.Texts.{symbol_items}
use Rattle.ada_tree.specs.Lines.{line, line_by_operator}
use Rattle.ada_tree.specs.Canonical.{is_compound, is_wrapped}
use Rattle.ada_tree.proofs.Found.{entry_found, entry_of_kind_passes, if_so}
use Rattle.text_laws.proofs.round_trip.Places.{same_kind, all_among, both, left_of_three}
use Rattle.text_laws.proofs.round_trip.OpenedItems.{one_of}
use Rattle.text_laws.proofs.apart.Fronts.{usual, after_mark, starting}
use Rattle.text_laws.proofs.apart.Items.{IsApart, fit_items, fit_apart}
use Rattle.text_laws.proofs.apart.Lines.{is_noted_place, noted_standing, apart_line, operator_kinds, needs, Use, before_use, after_use, is_used, use_of_entry, use_of, use_at, is_apart_after, is_apart_line}

-- the operator of a line, where it has one, can be told apart
abbrev pub Operates : Use → Bool → List ℕ → Type 0
Operates how note text = is_used how ≡ true → IsApart note note (before_use how) (after_use how) (symbol_items text)

-- ---- an operator that is found

abbrev fits : Bool → OperatorRow → Bool
fits note row = not (has_side note row.0.side) || fit_items note (before_use (use_of_entry row.0)) (after_use (use_of_entry row.0)) (symbol_items row.1.now)

all_fit : (note : Bool) → list_all (fits note) OPERATORS ≡ true
all_fit true = refl
all_fit false = refl

found_operates : (note : Bool) (k : Kind) (text : List ℕ) → has_operator note k text ≡ true → Operates (use_of (entry_of k text)) note text
found_operates note k text h =
    by (entry_of k text) (entry_found k text (fits note) (λ entry. has_side note entry.side ≡ true → Operates (use_of_entry entry) note text) row_operates (all_fit note)) h
  where
    row_operates : (row : OperatorRow) → is_kind row.0.kind k ≡ true → bytes_eq row.1.now text ≡ true → fits note row ≡ true → has_side note row.0.side ≡ true → Operates (use_of_entry row.0) note text
    row_operates row e t f s u =
        let same = (bytes_eq-Decides row.1.now text).0 t in
        subst (λ t. IsApart note note (before_use (use_of_entry row.0)) (after_use (use_of_entry row.0)) (symbol_items t)) same
        (fit_apart (before_use (use_of_entry row.0)) (symbol_items row.1.now) (if_so (has_side note row.0.side) _ s f))

    by : (e : Option OperatorEntry) → IfSome e (λ entry. has_side note entry.side ≡ true → Operates (use_of_entry entry) note text) → option_map_or (λ entry. has_side note entry.side) e false ≡ true → Operates (use_of e) note text
    by None f h u = absurd cc
    by (Some entry) f h u = f h u

-- ---- a node with an operator

no_operators : (place : Choice) → list_all (λ k. not (is_among k operator_kinds)) (kinds place) ≡ true
no_operators choice.Item = refl
no_operators _ = refl

clash : {P : Type 0} (b : Bool) → b ≡ true → b ≡ false → P
clash b t f = absurd cc

-- one that stands somewhere is a coefficient, or has a level
levelled : {P : Type 0} (note : Bool) (place : Choice) (k : Kind) (text : List ℕ) → is_noted_place note place ≡ true → stands note place k text ≡ true → is_among k operator_kinds ≡ true
    → (is_coefficient place k text ≡ true → P) → (opens place ≡ true → on_side note k text ≡ true → P) → P
levelled {P = P} note place k text n h o coefficient level =
    one_of (is_only note place k text || is_among k (kinds place) || is_coefficient place k text) _ h
    (λ e. one_of (is_only note place k text || is_among k (kinds place)) _ e
    (λ f. one_of (is_only note place k text) _ f (at_only place n) (λ a. clash (is_among k operator_kinds) o (not-true _ (all_among (λ k. not (is_among k operator_kinds)) (kinds place) (no_operators place) k a))))
    coefficient)
    (bound (floor place) refl)
  where
    at_only : (place : Choice) → is_noted_place note place ≡ true → is_only note place k text ≡ true → P
    at_only (choice.Only wanted) n e = clash (is_among wanted operator_kinds) (ap (λ k. is_among k operator_kinds) (same_kind wanted k (both e).0) ∙ o) (not-true (is_among wanted operator_kinds) (both n).1)
    at_only _ n e = absurd cc

    bound : (least : Option Level) → floor place ≡ least → binds note place least k text ≡ true → P
    bound None f e = absurd cc
    bound (Some l) f e = level (ap is_some f) (both (both e).0).1

no_coefficient : (place : Choice) (k : Kind) (text : List ℕ) → is_kind k kind.Unary ≡ false → is_coefficient place k text ≡ false
no_coefficient choice.Coefficient k text n = rw n refl
no_coefficient _ k text n = refl

minus_fits : (note : Bool) → fit_items note usual after_mark (symbol_items (codes "-")) ≡ true
minus_fits true = refl
minus_fits false = refl

minus_operates : (note : Bool) (text : List ℕ) → bytes_eq text (codes "-") ≡ true → IsApart note note usual after_mark (symbol_items text)
minus_operates note text e = fit_apart usual (symbol_items text) (ap (λ t. fit_items note usual after_mark (symbol_items t)) ((bytes_eq-Decides text (codes "-")).0 e) ∙ minus_fits note)

as_coefficient : (note : Bool) (place : Choice) (text : List ℕ) → is_coefficient place kind.Unary text ≡ true → Operates (use_at place kind.Unary text) note text
as_coefficient note choice.Coefficient text h u = minus_operates note text h
as_coefficient note choice.Item text h u = absurd cc
as_coefficient note _ text h u = absurd cc

unary_use : (place : Choice) (text : List ℕ) → opens place ≡ true → use_at place kind.Unary text ≡ use_of (entry_of kind.Unary text)
unary_use choice.Coefficient text o = absurd cc
unary_use choice.Item text o = refl
unary_use _ text o = refl

pub same_use : (place : Choice) (k : Kind) (text : List ℕ) → opens place ≡ true → use_at place k text ≡ use_at choice.Expr k text
same_use place kind.Unary text o = unary_use place text o
same_use place kind.Doc text o = refl
same_use place _ text o = refl

-- the operator of a node that stands somewhere can be told apart
pub operates : (note : Bool) (place : Choice) (k : Kind) (text : List ℕ) → is_noted_place note place ≡ true → stands note place k text ≡ true → Operates (use_at place k text) note text
operates note place kind.Binary text n h =
    levelled note place kind.Binary text n h refl (λ c. clash (is_coefficient place kind.Binary text) c (no_coefficient place kind.Binary text refl)) (λ o s. found_operates note kind.Binary text s)
operates note place kind.Member text n h =
    levelled note place kind.Member text n h refl (λ c. clash (is_coefficient place kind.Member text) c (no_coefficient place kind.Member text refl)) (λ o s. found_operates note kind.Member text s)
operates note place kind.Make text n h =
    levelled note place kind.Make text n h refl (λ c. clash (is_coefficient place kind.Make text) c (no_coefficient place kind.Make text refl)) (λ o s. found_operates note kind.Make text s)
operates note place kind.Unary text n h =
    levelled note place kind.Unary text n h refl (as_coefficient note place text)
    (λ o s. subst (λ how. Operates how note text) (sym (unary_use place text o)) (found_operates note kind.Unary text s))
operates note place kind.Doc text n h = λ u. absurd cc
operates note place _ text n h = λ u. absurd cc

-- ---- operands

-- the kinds of operands that are written without parentheses
abbrev starting_kinds : List Kind
starting_kinds = kind.Int ∷ kind.Name ∷ kind.Select ∷ kind.Apply ∷ kind.Attr ∷ kind.Aggr ∷ kind.Old ∷ kind.Result ∷ kind.Make ∷ []

bare_expressions : (note : Bool) → list_all (λ k. is_compound k || is_among k starting_kinds) (expression_kinds note) ≡ true
bare_expressions true = refl
bare_expressions false = refl

-- they begin so that a sign may stand before them without a blank
abbrev Starts : Bool → Choice → Kind → List ℕ → Type 0
Starts note place k text = is_apart_line note (use_at place k text) starting false note (line place k text) ≡ true

make_starts : (note : Bool) → list_all (λ (row : OperatorRow). not (is_kind row.0.kind kind.Make) || is_apart_after note starting row.0) OPERATORS ≡ true
make_starts true = refl
make_starts false = refl

found_starts : (note : Bool) (text : List ℕ) → has_operator note kind.Make text ≡ true → is_apart_line note (use_of (entry_of kind.Make text)) starting false note (line_by_operator kind.Make text) ≡ true
found_starts note text h = by (entry_of kind.Make text) (entry_of_kind_passes kind.Make (is_apart_after note starting) (make_starts note) text) h
  where
    by : (e : Option OperatorEntry) → IfSome e (λ entry. is_apart_after note starting entry ≡ true) → option_map_or (λ entry. has_side note entry.side) e false ≡ true
        → is_apart_line note (use_of e) starting false note (option_map_or (λ entry. operator_line entry.operator) e []) ≡ true
    by None f h = absurd cc
    by (Some entry) f h = f

operand_starts : (note : Bool) (l : Level) (k : Kind) (text : List ℕ) → is_among k starting_kinds ≡ true → on_side note k text ≡ true → Starts note (choice.Operand l) k text
operand_starts note l kind.Make text s h = found_starts note text h
operand_starts true l kind.Doc text s h = absurd cc
operand_starts false l kind.Doc text s h = absurd cc
operand_starts true l kind.Binary text s h = absurd cc
operand_starts false l kind.Binary text s h = absurd cc
operand_starts true l kind.Unary text s h = absurd cc
operand_starts false l kind.Unary text s h = absurd cc
operand_starts true l kind.Member text s h = absurd cc
operand_starts false l kind.Member text s h = absurd cc
operand_starts true l _ text s h = cc
operand_starts false l _ text s h = cc

number_starts : (note : Bool) (k : Kind) (text : List ℕ) → stands note (choice.Only kind.Int) k text ≡ true → Starts note (choice.Only kind.Int) k text
number_starts note k text h = subst (λ k. Starts note (choice.Only kind.Int) k text) (same_kind kind.Int k (both (left_of_three (is_kind kind.Int k && on_side note k text) h)).0) (by_note note)
  where
    by_note : (note : Bool) → Starts note (choice.Only kind.Int) kind.Int text
    by_note true = refl
    by_note false = refl

not_compound : (l : Level) (k : Kind) (text : List ℕ) → is_wrapped (choice.Operand l) k text ≡ false → is_compound k ≡ false
not_compound level.Prefix k text w = left_false (is_compound k) (is_kind k kind.Old) w
  where
    left_false : (b c : Bool) → b || c ≡ false → b ≡ false
    left_false true c h = absurd cc
    left_false false c h = refl
not_compound _ k text w = w

bare_standing : (note : Bool) (l : Level) (k : Kind) (text : List ℕ) → is_wrapped (choice.Operand l) k text ≡ false → stands note (choice.Operand l) k text ≡ true → is_among k starting_kinds ≡ true
bare_standing note l k text w h = one_of (is_compound k) _ (all_among (λ k. is_compound k || is_among k starting_kinds) (expression_kinds note) (bare_expressions note) k (both (both h).0).0) (λ e. clash (is_compound k) e (not_compound l k text w)) (λ e. e)

-- the line of a node that is written without parentheses, wherever it stands
pub bare_line : (note : Bool) (place : Choice) (k : Kind) (text : List ℕ) → is_noted_place note place ≡ true → is_wrapped place k text ≡ false → stands note place k text ≡ true
    → is_apart_line note (use_at place k text) (needs place) false note (line place k text) ≡ true
bare_line note (choice.Operand l) k text n w h = operand_starts note l k text (bare_standing note l k text w h) (both (both h).0).1
bare_line note (choice.Only kind.Int) k text n w h = number_starts note k text h
bare_line note (choice.Only kind.Doc) k text n w h = apart_line note (choice.Only kind.Doc) k text (noted_standing note (choice.Only kind.Doc) k text n h)
bare_line note (choice.Only wanted) k text n w h = apart_line note (choice.Only wanted) k text (noted_standing note (choice.Only wanted) k text n h)
bare_line note choice.Item k text n w h = apart_line note choice.Item k text (noted_standing note choice.Item k text n h)
bare_line note (choice.Chain operator) k text n w h = apart_line note (choice.Chain operator) k text (noted_standing note (choice.Chain operator) k text n h)
bare_line note place k text n w h = apart_line note place k text (noted_standing note place k text n h)
