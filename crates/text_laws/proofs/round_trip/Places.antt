-- What the round trip asks of the places of the grammar, and where a node may stand as it is written canonically.
use Rattle.std.proofs.Common.{◌≡◌, ℕ, List, [], ◌∷◌, refl, sym, ◌∙◌, ap, Bool, true, false, not, ◌&&◌, ◌||◌, Option, Some, None}
use Rattle.std.proofs.lemmas.Bool.{and_parts, not-true, not-false}
use Rattle.std.specs.List.{list_all}
use denote.Enum.Bare.{same_true}
use Rattle.ada_tree.specs.contracts.kind.Kind as kind_row
use Rattle.ada_tree.specs.declared.kind.Kind.{Kind}
use Rattle.ada_tree.specs.declared.kind.Kind.TheVariants as kind
use Rattle.ada_tree.specs.declared.grammar.Choice.{Choice}
use Rattle.ada_tree.specs.declared.grammar.Choice.TheVariants as choice
use Rattle.ada_tree.specs.declared.operator.Level.{Level}
use Rattle.ada_tree.specs.Kinds.{is_kind, is_among}
use Rattle.ada_tree.specs.Choices.{kinds, expression_kinds, floor, on_side, binds, is_coefficient, is_only, stands}

-- ---- tests of places

-- the kinds whose text may end with the comments at the end of a list
abbrev pub is_open_kind : Kind → Bool
is_open_kind k = is_among k (kind.File ∷ kind.Seq ∷ kind.Handler ∷ kind.Elsif ∷ kind.Alt ∷ [])

abbrev pub is_open : Choice → Bool
is_open (choice.Only k) = is_open_kind k
is_open _ = false

-- the kinds whose text doesn't begin with a comment
abbrev pub is_plain_kind : Kind → Bool
is_plain_kind k = not (is_among k (kind.Doc ∷ kind.File ∷ kind.Seq ∷ []))

abbrev pub is_plain : Choice → Bool
is_plain (choice.Only k) = is_plain_kind k
is_plain _ = true

-- the kinds whose text begins with a token, and the places where only such ones stand
abbrev pub is_sure_kind : Kind → Bool
is_sure_kind k = is_among k (kinds choice.Item) || is_among k (kinds choice.Lib) || is_among k (kinds choice.Decl) || is_among k (kinds choice.Stmt) || is_among k (kind.Handler ∷ kind.Alt ∷ [])

abbrev pub is_sure : Choice → Bool
is_sure choice.Item = true
is_sure choice.Lib = true
is_sure choice.Decl = true
is_sure choice.Stmt = true
is_sure (choice.Only k) = is_among k (kind.Handler ∷ kind.Alt ∷ [])
is_sure _ = false

-- a document isn't written as one text, and a part that is left out isn't written
abbrev pub is_improper_kind : Kind → Bool
is_improper_kind k = is_among k (kind.Doc ∷ kind.None ∷ [])

abbrev pub is_proper : Choice → Bool
is_proper (choice.Only k) = not (is_improper_kind k)
is_proper _ = true

-- the kinds that stand nowhere but at their own places
abbrev specials : List Kind
specials = kind.Doc ∷ kind.None ∷ kind.File ∷ kind.Seq ∷ kind.Handler ∷ kind.Elsif ∷ kind.Alt ∷ []

abbrev is_special : Kind → Bool
is_special k = is_among k specials

-- ---- Bool

-- what a conjunction says
pub both : {a b : Bool} → a && b ≡ true → (a ≡ true) × (b ≡ true)
both {a = a} {b = b} h = and_parts a b h

no_others : (a b c d : Bool) → b ≡ false → c ≡ false → d ≡ false → a || b || c || d ≡ true → a ≡ true
no_others true b c d eb ec ed h = refl
no_others false false false false eb ec ed h = absurd cc
no_others false true c d eb ec ed h = absurd cc
no_others false false true d eb ec ed h = absurd cc
no_others false false false true eb ec ed h = absurd cc

-- ---- kinds of a list

pub same_kind : (a b : Kind) → is_kind a b ≡ true → a ≡ b
same_kind a b h = same_true kind_row.the_type tt a b h

-- what holds of all kinds of a list
pub all_among : (P : Kind → Bool) (ks : List Kind) → list_all P ks ≡ true → (k : Kind) → is_among k ks ≡ true → P k ≡ true
all_among P [] t k h = absurd cc
all_among P (x ∷ ks) t k h = by_test (is_kind k x) refl (all_among P ks (both t).1 k)
  where
    by_test : (b : Bool) → is_kind k x ≡ b → (is_among k ks ≡ true → P k ≡ true) → P k ≡ true
    by_test true e later = ap P (same_kind k x e) ∙ (both t).0
    by_test false e later = later (rw e at h)

-- ---- special kinds

binds_none : (note : Bool) (place : Choice) (least : Option Level) (k : Kind) (text : List ℕ) → is_among k (expression_kinds note) ≡ false → binds note place least k text ≡ false
binds_none note place None k text h = refl
binds_none note place (Some l) k text h = rw h refl

special_binds : (note : Bool) (k : Kind) → is_special k ≡ true → is_among k (expression_kinds note) ≡ false
special_binds true k h = not-true _ (all_among (λ k. not (is_among k (expression_kinds true))) specials refl k h)
special_binds false k h = not-true _ (all_among (λ k. not (is_among k (expression_kinds false))) specials refl k h)

no_specials : (place : Choice) → list_all (λ k. not (is_among k (kinds place))) specials ≡ true
no_specials choice.Item = refl
no_specials _ = refl

special_coefficient : (place : Choice) (text : List ℕ) → list_all (λ k. not (is_coefficient place k text)) specials ≡ true
special_coefficient choice.Coefficient text = refl
special_coefficient _ text = refl

-- a special kind stands at its own place alone
only_there : (note : Bool) (place : Choice) (k : Kind) (text : List ℕ) → is_special k ≡ true → stands note place k text ≡ true → is_only note place k text ≡ true
only_there note place k text s h =
    no_others (is_only note place k text) _ _ _
    (not-true _ (all_among (λ k. not (is_among k (kinds place))) specials (no_specials place) k s))
    (not-true _ (all_among (λ k. not (is_coefficient place k text)) specials (special_coefficient place text) k s))
    (binds_none note place (floor place) k text (special_binds note k s)) h

-- what a test says of a special kind that stands somewhere, it says of the place
at_own_place : (P : Choice → Bool) (note : Bool) (place : Choice) (k : Kind) (text : List ℕ) → is_only note place k text ≡ true → P place ≡ P (choice.Only k)
at_own_place P note (choice.Only wanted) k text h = ap (λ k. P (choice.Only k)) (same_kind wanted k (both h).0)
at_own_place P note choice.Item k text h = absurd cc
at_own_place P note _ k text h = absurd cc

-- where kinds that may end with comments, or begin with them, or that begin with a token stand

pub open_stands : (note : Bool) (place : Choice) (k : Kind) (text : List ℕ) → stands note place k text ≡ true → is_open_kind k ≡ true → is_open place ≡ true
open_stands note place k text h o =
    at_own_place is_open note place k text (only_there note place k text (all_among is_special (kind.File ∷ kind.Seq ∷ kind.Handler ∷ kind.Elsif ∷ kind.Alt ∷ []) refl k o) h) ∙ o

pub plain_stands : (note : Bool) (place : Choice) (k : Kind) (text : List ℕ) → stands note place k text ≡ true → is_plain place ≡ true → is_plain_kind k ≡ true
plain_stands note place k text h p = by_test (is_plain_kind k) refl
  where
    by_test : (b : Bool) → is_plain_kind k ≡ b → is_plain_kind k ≡ true
    by_test true e = e
    by_test false e =
        sym (at_own_place is_plain note place k text (only_there note place k text (all_among is_special (kind.Doc ∷ kind.File ∷ kind.Seq ∷ []) refl k (not-false _ e)) h)) ∙ p

pub proper_stands : (note : Bool) (place : Choice) (k : Kind) (text : List ℕ) → stands note place k text ≡ true → is_proper place ≡ true → is_improper_kind k ≡ false
proper_stands note place k text h p = by_test (is_improper_kind k) refl
  where
    by_test : (b : Bool) → is_improper_kind k ≡ b → is_improper_kind k ≡ false
    by_test false e = e
    by_test true e =
        not-true _ (sym (at_own_place is_proper note place k text (only_there note place k text (all_among is_special (kind.Doc ∷ kind.None ∷ []) refl k e) h)) ∙ p)

left_of_two : (a : Bool) → a || false || false ≡ true → a ≡ true
left_of_two true h = refl
left_of_two false h = absurd cc

pub left_of_three : (a : Bool) → a || false || false || false ≡ true → a ≡ true
left_of_three true h = refl
left_of_three false h = absurd cc

pub sure_stands : (note : Bool) (place : Choice) (k : Kind) (text : List ℕ) → stands note place k text ≡ true → is_sure place ≡ true → is_sure_kind k ≡ true
sure_stands note choice.Item k text h s = all_among is_sure_kind (kinds choice.Item) refl k (left_of_two _ h)
sure_stands note choice.Lib k text h s = all_among is_sure_kind (kinds choice.Lib) refl k (left_of_two _ h)
sure_stands note choice.Decl k text h s = all_among is_sure_kind (kinds choice.Decl) refl k (left_of_two _ h)
sure_stands note choice.Stmt k text h s = all_among is_sure_kind (kinds choice.Stmt) refl k (left_of_two _ h)
sure_stands note (choice.Only wanted) k text h s =
    all_among is_sure_kind (kind.Handler ∷ kind.Alt ∷ []) refl k (ap (λ k. is_among k (kind.Handler ∷ kind.Alt ∷ [])) (sym (same_kind wanted k (both (left_of_three (is_kind wanted k && on_side note k text) h)).0)) ∙ s)
sure_stands note _ k text h s = absurd cc
