-- To which class a node belongs, by its kind and text and by where it stands.
use Rattle.std.proofs.Common.{◌≡◌, ℕ, List, [], ◌∷◌, ◌++◌, refl, sym, ◌∙◌, ap, subst, Bool, true, false, ◌&&◌, ◌||◌, Option, Some, None, map, codes}
use Rattle.std.specs.Prelude.{bytes_eq}
use Rattle.std.specs.List.{list_any}
use Rattle.std.specs.Option.{option_map_or}
use denote.Enum.Bare.{sameb, same_true}
use Rattle.ada_tree.specs.contracts.kind.Kind as kind_row
use Rattle.ada_tree.specs.contracts.operator.Operator as operator_row
use Rattle.ada_tree.specs.declared.kind.Kind.{Kind}
use Rattle.ada_tree.specs.declared.kind.Kind.TheVariants as kind
use Rattle.ada_tree.specs.declared.grammar.Choice.{Choice}
use Rattle.ada_tree.specs.declared.grammar.Choice.TheVariants as choice
use Rattle.ada_tree.specs.declared.operator.Level.{Level}
use Rattle.ada_tree.specs.declared.operator.OperatorEntry.{OperatorEntry}
use Rattle.ada_tree.specs.declared.operator.TheConstants.{OPERATORS}
use Rattle.ada_tree.specs.Choices.{kinds, floor, on_side, level_of, is_tight, goes_on, binds, is_coefficient, is_only, stands, expression_kinds}
use Rattle.ada_tree.specs.Kinds.{is_kind, is_among}
use Rattle.ada_tree.specs.Lines.{line, line_of_kind}
use Rattle.ada_tree.specs.Nodes.{is_empty}
use Rattle.ada_tree.specs.Operators.{OperatorRow, entry_of}
use Rattle.ada_tree.specs.Rules.{arguments_of}
use Rattle.reading_table.specs.declared.symbol.Form.{Form}
use Rattle.reading_table.specs.Tables.{Has, first, later}
use Rattle.reading_table.specs.TokenSets.{arguments_in}
use Rattle.reading_table.proofs.Predictive.{any_has, has_front, has_back}
use Rattle.reading_complete.proofs.Classes.{Sort, plain, by_form, Class, classes, plain_kinds, plain_class, operator_class, step_class, other_classes, forms, admits, is_of_coefficient}
use Rattle.reading_complete.proofs.Kids.{first_fits}
use Rattle.reading_complete.proofs.Routes.{is_bracket}

-- A class for a node of this kind with this text, at this place, whose first kid is of this class.
pub record HasClass (note : Bool) (place : Choice) (k : Kind) (text : List ℕ) (head : Option Class) : Type 0 where
  pub class : Class
  pub there : Has classes class
  pub stands : admits note place class ≡ true
  pub line_so : class.line ≡ line place k text
  pub kind_so : class.kind ≡ k
  pub told : is_empty class.text ≡ false → text ≡ class.text
  pub steps : (f : Form) → class.sort ≡ by_form f → arguments_of text ≡ arguments_in f
  pub unranged : (f : Form) → class.sort ≡ by_form f → is_empty class.text ≡ true → bytes_eq text (codes "range") ≡ false
  pub fits : first_fits class.sort head ≡ true
  pub unbracketed : is_bracket class.sort ≡ false

-- ---- where classes stand in the list

pub has_mapped : {A B : Type 0} → (f : A → B) (xs : List A) (x : A) → Has xs x → Has (map f xs) (f x)
has_mapped f [] x m = elim m [ ]
has_mapped f (y ∷ xs) x first = first
has_mapped f (y ∷ xs) x (later m) = later (has_mapped f xs x m)

has_plain : (c : Class) → Has (map plain_class plain_kinds) c → Has classes c
has_plain c m = has_front (map plain_class plain_kinds) (map operator_class OPERATORS ++ (map step_class forms ++ other_classes)) c m

pub has_operator_class : (c : Class) → Has (map operator_class OPERATORS) c → Has classes c
has_operator_class c m = has_back (map plain_class plain_kinds) (map operator_class OPERATORS ++ (map step_class forms ++ other_classes)) c (has_front (map operator_class OPERATORS) (map step_class forms ++ other_classes) c m)

pub has_step : (c : Class) → Has (map step_class forms) c → Has classes c
has_step c m = has_back (map plain_class plain_kinds) (map operator_class OPERATORS ++ (map step_class forms ++ other_classes)) c
    (has_back (map operator_class OPERATORS) (map step_class forms ++ other_classes) c (has_front (map step_class forms) other_classes c m))

pub has_other : (c : Class) → Has other_classes c → Has classes c
has_other c m = has_back (map plain_class plain_kinds) (map operator_class OPERATORS ++ (map step_class forms ++ other_classes)) c
    (has_back (map operator_class OPERATORS) (map step_class forms ++ other_classes) c (has_back (map step_class forms) other_classes c m))

-- ---- kinds without operators stand by their kinds alone

abbrev has_operators : Kind → Bool
has_operators k = list_any (λ (row : OperatorRow). is_kind row.0.kind k) OPERATORS

record IsFree (k : Kind) (text : List ℕ) : Type 0 where
  entry : entry_of k text ≡ None
  side : (note : Bool) → on_side note k text ≡ true
  level : level_of k text ≡ level_of k []
  unary : is_kind k kind.Unary ≡ false

is_free : (k : Kind) (text : List ℕ) → has_operators k ≡ false → IsFree k text
is_free kind.Binary text h = absurd cc
is_free kind.Unary text h = absurd cc
is_free kind.Member text h = absurd cc
is_free kind.Make text h = absurd cc
is_free _ text h = record { entry = refl; side = λ note. refl; level = refl; unary = refl }

pub stands_freely : (note : Bool) (place : Choice) (k : Kind) (text : List ℕ) → has_operators k ≡ false → stands note place k text ≡ stands note place k []
stands_freely note place k text h =
    ap (λ b. b || is_among k (kinds place) || is_coefficient place k text || binds note place (floor place) k text) (only place)
    ∙ ap (λ b. is_only note place k [] || is_among k (kinds place) || b || binds note place (floor place) k text) (coefficient place)
    ∙ ap (λ b. is_only note place k [] || is_among k (kinds place) || is_coefficient place k [] || b) (bound (floor place))
  where
    x : IsFree k text
    x = is_free k text h

    y : IsFree k []
    y = is_free k [] h

    only : (place : Choice) → is_only note place k text ≡ is_only note place k []
    only (choice.Only wanted) = ap (λ b. is_kind wanted k && b) (x.side note ∙ sym (y.side note))
    only _ = refl

    coefficient : (place : Choice) → is_coefficient place k text ≡ is_coefficient place k []
    coefficient choice.Coefficient = ap (λ b. b && bytes_eq text (codes "-")) x.unary ∙ ap (λ b. b && bytes_eq [] (codes "-")) (sym x.unary)
    coefficient _ = refl

    along : (place : Choice) → goes_on place k text ≡ goes_on place k []
    along (choice.Chain o) = ap (λ (e : Option OperatorEntry). option_map_or (λ entry. sameb operator_row.the_type entry.operator o) e false) (x.entry ∙ sym y.entry)
    along _ = refl

    bound : (l : Option Level) → binds note place l k text ≡ binds note place l k []
    bound None = refl
    bound (Some l) =
        ap (λ b. is_among k (expression_kinds note) && b && (is_tight l (level_of k text) || goes_on place k text)) (x.side note ∙ sym (y.side note))
        ∙ ap (λ v. is_among k (expression_kinds note) && on_side note k [] && (is_tight l v || goes_on place k text)) x.level
        ∙ ap (λ b. is_among k (expression_kinds note) && on_side note k [] && (is_tight l (level_of k []) || b)) (along place)

plain_line : (place : Choice) (k : Kind) (text : List ℕ) → is_among k plain_kinds ≡ true → line place k text ≡ line_of_kind k
plain_line place kind.Select text h = absurd cc
plain_line place kind.Binary text h = absurd cc
plain_line place kind.Unary text h = absurd cc
plain_line place kind.Member text h = absurd cc
plain_line place kind.Make text h = absurd cc
plain_line place _ text h = refl

-- a test that is false of a class is false of no node
pub when_false : (b x : Bool) → b ≡ false → x ≡ true → elim b as (λ b. Bool) [ true ↦ false | false ↦ x ] ≡ true
when_false true x e h = absurd cc
when_false false x e h = h

pub plainly : (note : Bool) (place : Choice) (k : Kind) (text : List ℕ) → (is_of_coefficient place && is_kind k kind.Unary) ≡ false → stands note place k text ≡ true
    → elim (is_of_coefficient place) as (λ b. Bool) [ true ↦ elim (is_kind k kind.Unary) as (λ b. Bool) [ true ↦ false | false ↦ stands note place k text ] | false ↦ stands note place k text ] ≡ true
plainly note place k text e h = by (is_of_coefficient place) (is_kind k kind.Unary) e
  where
    by : (a b : Bool) → (a && b) ≡ false → elim a as (λ b. Bool) [ true ↦ elim b as (λ b. Bool) [ true ↦ false | false ↦ stands note place k text ] | false ↦ stands note place k text ] ≡ true
    by true true e = absurd cc
    by true false e = h
    by false b e = h

pub both_false : (a b : Bool) → b ≡ false → (a && b) ≡ false
both_false true b e = e
both_false false b e = refl

-- a sort that asks nothing of the first kid
pub head_fits : (sort : Sort) → ((d : Class) → first_fits sort (Some d) ≡ true) → (head : Option Class) → first_fits sort head ≡ true
head_fits sort h None = refl
head_fits sort h (Some d) = h d

pub plain_has : (note : Bool) (place : Choice) (k : Kind) (text : List ℕ) (head : Option Class) → is_among k plain_kinds ≡ true → has_operators k ≡ false → stands note place k text ≡ true → HasClass note place k text head
plain_has note place k text head p q h =
    let found = any_has (is_kind k) plain_kinds p in
    let same : k ≡ found.0 = same_true kind_row.the_type tt k found.0 found.2 in
    record {
      class = plain_class k;
      there = has_plain (plain_class k) (has_mapped plain_class plain_kinds k (subst (λ x. Has plain_kinds x) (sym same) found.1));
      stands = plainly note place k [] (both_false (is_of_coefficient place) (is_kind k kind.Unary) (is_free k [] q).unary) (sym (stands_freely note place k text q) ∙ h);
      line_so = sym (plain_line place k text p);
      kind_so = refl;
      told = λ e. absurd cc;
      steps = λ f e. absurd cc;
      unranged = λ f e. absurd cc;
      fits = head_fits plain (λ d. refl) head;
      unbracketed = refl;
    }
