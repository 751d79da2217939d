-- Canonical parentheses: where a node is written without them it may stand as it is, and where it is written in them they may stand.
use Rattle.std.proofs.Common.{◌≡◌, ℕ, List, refl, Bool, true, false, not, ◌&&◌, ◌||◌, Option, Some, None}
use Rattle.std.proofs.lemmas.Bool.{not-false}
use Rattle.std.specs.Prelude.{is_some, IfSome}
use Rattle.std.specs.List.{list_all}
use Rattle.std.specs.Option.{option_map_or}
use Rattle.ada_tree.specs.declared.kind.Kind.{Kind}
use Rattle.ada_tree.specs.declared.kind.Kind.TheVariants as kind
use Rattle.ada_tree.specs.declared.grammar.Choice.{Choice}
use Rattle.ada_tree.specs.declared.grammar.Choice.TheVariants as choice
use Rattle.ada_tree.specs.declared.operator.OperatorEntry.{OperatorEntry}
use Rattle.ada_tree.specs.declared.operator.TheConstants.{OPERATORS}
use Rattle.ada_tree.specs.declared.operator.Level.{Level}
use Rattle.ada_tree.specs.declared.operator.Level.TheVariants as level
use Rattle.ada_tree.specs.Kinds.{is_kind, is_among}
use Rattle.ada_tree.specs.Operators.{OperatorRow, entry_of}
use Rattle.ada_tree.specs.Choices.{kinds, expression_kinds, level_of, operator_level, has_operator, has_side, on_side, is_tight, goes_on, binds, stands, opens}
use Rattle.ada_tree.specs.Lines.{line, unary_line, select_line}
use Rattle.ada_tree.specs.Canonical.{is_compound, is_looser, is_wrapped}
use Rattle.ada_tree.proofs.Found.{entry_of_kind_passes}
use Rattle.text_laws.proofs.round_trip.Places.{same_kind}

-- ---- levels

tight_prefix : (l : Level) → is_tight l (Some level.Prefix) ≡ true
tight_prefix level.Term = refl
tight_prefix _ = refl

tight_term : (l : Option Level) → is_some l ≡ true → is_tight level.Term l ≡ true
tight_term None h = absurd cc
tight_term (Some level.Term) h = refl
tight_term (Some _) h = refl

operator_found : (note : Bool) (k : Kind) (text : List ℕ) → has_operator note k text ≡ true → is_some (operator_level k text) ≡ true
operator_found note k text h = by (entry_of k text) h
  where
    by : (e : Option OperatorEntry) → option_map_or (λ entry. has_side note entry.side) e false ≡ true → is_some (option_map_or (λ entry. Some entry.level) e None) ≡ true
    by None h = absurd cc
    by (Some entry) h = refl

-- a node of an expression has a level
has_level : (note : Bool) (k : Kind) (text : List ℕ) → is_among k (expression_kinds note) ≡ true → on_side note k text ≡ true → is_some (level_of k text) ≡ true
has_level note kind.Binary text a h = operator_found note kind.Binary text h
has_level note kind.Unary text a h = operator_found note kind.Unary text h
has_level note kind.Member text a h = operator_found note kind.Member text h
has_level note kind.Make text a h = operator_found note kind.Make text h
has_level true _ text a h = cc
has_level false _ text a h = cc

make_binds : (least : Level) → list_all (λ (row : OperatorRow). not (is_kind row.0.kind kind.Make) || is_tight least (Some row.0.level)) OPERATORS ≡ true
make_binds level.Term = refl
make_binds _ = refl

tight_entry : (least : Level) (e : Option OperatorEntry) → IfSome e (λ entry. is_tight least (Some entry.level) ≡ true) → is_some (option_map_or (λ entry. Some entry.level) e None) ≡ true
    → is_tight least (option_map_or (λ entry. Some entry.level) e None) ≡ true
tight_entry least None h s = absurd cc
tight_entry least (Some entry) h s = h

-- what isn't compound, nor the value at entry, binds as tightly as anything
tight_simple : (least : Level) (k : Kind) (text : List ℕ) → is_compound k || is_kind k kind.Old ≡ false → is_some (level_of k text) ≡ true → is_tight least (level_of k text) ≡ true
tight_simple least kind.Binary text c s = absurd cc
tight_simple least kind.Unary text c s = absurd cc
tight_simple least kind.Member text c s = absurd cc
tight_simple least kind.All text c s = absurd cc
tight_simple least kind.Exists text c s = absurd cc
tight_simple least kind.Cond text c s = absurd cc
tight_simple least kind.Old text c s = absurd cc
tight_simple least kind.Make text c s = tight_entry least (entry_of kind.Make text) (entry_of_kind_passes kind.Make (λ entry. is_tight least (Some entry.level)) (make_binds least) text) s
tight_simple least kind.Int text c s = tight_prefix least
tight_simple least kind.Name text c s = tight_prefix least
tight_simple least kind.Select text c s = tight_prefix least
tight_simple least kind.Apply text c s = tight_prefix least
tight_simple least kind.Attr text c s = tight_prefix least
tight_simple least kind.Aggr text c s = tight_prefix least
tight_simple least kind.Result text c s = tight_prefix least
tight_simple least _ text c s = absurd cc

-- ... but the value at entry isn't a prefix
tight_primary : (least : Level) (k : Kind) (text : List ℕ) → is_tight least (Some level.Primary) ≡ true → is_compound k ≡ false → is_some (level_of k text) ≡ true → is_tight least (level_of k text) ≡ true
tight_primary least k text p c s = by_test (is_kind k kind.Old) refl
  where
    by_test : (b : Bool) → is_kind k kind.Old ≡ b → is_tight least (level_of k text) ≡ true
    by_test true e = rw (same_kind k kind.Old e) p
    by_test false e = tight_simple least k text (rw (c, e) refl) s

tight_operand : (least : Level) (k : Kind) (text : List ℕ) → is_wrapped (choice.Operand least) k text ≡ false → is_some (level_of k text) ≡ true → is_tight least (level_of k text) ≡ true
tight_operand level.Prefix k text w s = tight_simple level.Prefix k text w s
tight_operand level.Term k text w s = tight_primary level.Term k text refl w s
tight_operand least k text w s = tight_primary least k text refl w s

tight_bound : (l : Option Level) → is_looser level.Sum l ≡ false → is_some l ≡ true → is_tight level.Sum l ≡ true
tight_bound None w s = absurd cc
tight_bound (Some l) w s = not-false _ w

-- ---- where a node stands

-- an expression that stands in parentheses
stands_loosely : (note : Bool) (place : Choice) (least : Option Level) (k : Kind) (text : List ℕ) → binds note place least k text ≡ true → stands note choice.Expr k text ≡ true
stands_loosely note place None k text h = absurd cc
stands_loosely note place (Some least) k text h = by_tests (is_among k (expression_kinds note)) (on_side note k text) refl refl h
  where
    by_tests : (a b : Bool) → is_among k (expression_kinds note) ≡ a → on_side note k text ≡ b → a && b && (is_tight least (level_of k text) || goes_on place k text) ≡ true → a && b && (is_tight level.Term (level_of k text) || false) ≡ true
    by_tests true true a b h = rw (tight_term (level_of k text) (has_level note k text a b)) refl
    by_tests true false a b h = absurd cc
    by_tests false s a b h = absurd cc

stands_tightly : (note : Bool) (place : Choice) (least : Level) (k : Kind) (text : List ℕ) → (is_some (level_of k text) ≡ true → is_tight least (level_of k text) ≡ true)
    → stands note choice.Expr k text ≡ true → binds note place (Some least) k text ≡ true
stands_tightly note place least k text tight h = by_tests (is_among k (expression_kinds note)) (on_side note k text) refl refl h
  where
    by_tests : (a b : Bool) → is_among k (expression_kinds note) ≡ a → on_side note k text ≡ b → a && b && (is_tight level.Term (level_of k text) || false) ≡ true → a && b && (is_tight least (level_of k text) || goes_on place k text) ≡ true
    by_tests true true a b h = rw (tight (has_level note k text a b)) refl
    by_tests true false a b h = absurd cc
    by_tests false s a b h = absurd cc

last_of : (a b : Bool) → b ≡ true → a || false || b ≡ true
last_of true b h = refl
last_of false b h = h

-- a node that is written without parentheses stands at the place as it is
pub stands_bare : (note : Bool) (place : Choice) (k : Kind) (text : List ℕ) → opens place ≡ true → is_wrapped place k text ≡ false → stands note choice.Expr k text ≡ true → stands note place k text ≡ true
stands_bare note choice.Expr k text o w h = h
stands_bare note choice.Arg k text o w h = last_of (is_among k (kinds choice.Arg)) _ (stands_tightly note choice.Arg level.Term k text (tight_term (level_of k text)) h)
stands_bare note choice.Choice k text o w h = last_of (is_among k (kinds choice.Choice)) _ (stands_tightly note choice.Choice level.Term k text (tight_term (level_of k text)) h)
stands_bare note choice.Bound k text o w h = stands_tightly note choice.Bound level.Sum k text (tight_bound (level_of k text) w) h
stands_bare note (choice.Operand least) k text o w h = stands_tightly note (choice.Operand least) least k text (tight_operand least k text w) h
stands_bare note (choice.Chain operator) k text o w h = stands_tightly note (choice.Chain operator) level.Relation k text (tight_primary level.Relation k text refl w) h
stands_bare note _ k text o w h = absurd cc

-- a node that is written in parentheses may stand in them, and they may stand there
pub stands_in_them : (note : Bool) (place : Choice) (k : Kind) (text : List ℕ) → is_wrapped place k text ≡ true → stands note place k text ≡ true → stands note choice.Expr k text ≡ true
stands_in_them note (choice.Operand least) k text w h = stands_loosely note (choice.Operand least) (Some least) k text h
stands_in_them note (choice.Chain operator) k text w h = stands_loosely note (choice.Chain operator) (Some level.Relation) k text h
stands_in_them note choice.Bound k text w h = stands_loosely note choice.Bound (Some level.Sum) k text h
stands_in_them note _ k text w h = absurd cc

pub wrapped_opens : (place : Choice) (k : Kind) (text : List ℕ) → is_wrapped place k text ≡ true → opens place ≡ true
wrapped_opens (choice.Operand least) k text w = refl
wrapped_opens (choice.Chain operator) k text w = refl
wrapped_opens choice.Bound k text w = refl
wrapped_opens _ k text w = absurd cc

-- what stands there in parentheses has the line that it has anywhere
same_unary : (place : Choice) (text : List ℕ) → opens place ≡ true → unary_line place text ≡ unary_line choice.Expr text
same_unary choice.Coefficient text o = absurd cc
same_unary _ text o = refl

same_select : (place : Choice) → opens place ≡ true → select_line place ≡ select_line choice.Expr
same_select choice.Mark o = absurd cc
same_select choice.Dis o = absurd cc
same_select choice.LemmaName o = absurd cc
same_select _ o = refl

pub same_line : (place : Choice) (k : Kind) (text : List ℕ) → opens place ≡ true → line place k text ≡ line choice.Expr k text
same_line place kind.Unary text o = same_unary place text o
same_line place kind.Select text o = same_select place o
same_line place _ text o = refl
