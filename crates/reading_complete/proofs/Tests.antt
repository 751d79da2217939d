-- The walks along all lines, computed.
use Rattle.std.proofs.Common.{◌≡◌, [], ◌∷◌, refl, subst, Option, Some, None, Bool, true, false}
use Rattle.ada_tree.specs.declared.kind.Kind.{Kind}
use Rattle.ada_tree.specs.declared.kind.Kind.TheVariants as kind
use Rattle.ada_tree.specs.declared.operator.Level.{Level}
use Rattle.ada_tree.specs.declared.operator.Level.TheVariants as level
use Rattle.ada_tree.specs.declared.grammar.Choice.{Choice}
use Rattle.ada_tree.specs.declared.grammar.Choice.TheVariants as choice
use Rattle.reading_table.specs.declared.symbol.Symbol.TheVariants as symbol
use Rattle.reading_table.specs.declared.rule.Rule.{Rule}
use Rattle.reading_table.specs.Rows.{Part}
use Rattle.reading_table.specs.Tables.{Has}
use Rattle.reading_table.proofs.Parts.{tests, of_each_part}
use Rattle.reading_complete.proofs.Classes.{Class, classes, admits}
use Rattle.reading_complete.proofs.Lazy.{all_of, all_of_has}
use Rattle.reading_complete.proofs.Routes.{routes}
use Rattle.reading_complete.proofs.Readers.{reader}
use Rattle.reading_complete.proofs.Walks.{Route, passes}

-- each route of a rule leads where it says
abbrev pub route_passes : Bool → Rule → Route → Bool
route_passes note r route = all_of classes (λ c. elim (route.reads c) [ true ↦ passes routes note c ((note, symbol.Part r) ∷ route.also) route.rest | false ↦ true ])

abbrev pub rule_passes : Part → Bool
rule_passes p = all_of (routes p.0 p.1) (λ route. route_passes p.0 p.1 route)

rules_pass : tests rule_passes ≡ true
rules_pass = refl

pub if_true : (a b : Bool) → elim a as (λ a. Bool) [ true ↦ b | false ↦ true ] ≡ true → a ≡ true → b ≡ true
if_true true b h e = h
if_true false b h e = absurd cc

pub route_leads : (note : Bool) (r : Rule) (route : Route) (c : Class) → Has (routes note r) route → Has classes c → route.reads c ≡ true → passes routes note c ((note, symbol.Part r) ∷ route.also) route.rest ≡ true
route_leads note r route c m n e =
    let all = all_of_has (routes note r) (λ route. route_passes note r route) route (of_each_part rule_passes rules_pass (note, r)) m in
    if_true (route.reads c) _ (all_of_has classes (λ c. elim (route.reads c) as (λ b. Bool) [ true ↦ passes routes note c ((note, symbol.Part r) ∷ route.also) route.rest | false ↦ true ]) c all n) e

-- each node of a place is read by the place's rule
abbrev pub reader_passes : Bool → Choice → Option Rule → Bool
reader_passes note place None = true
reader_passes note place (Some r) = all_of classes (λ c. elim (admits note place c) [ true ↦ passes routes note c ((note, symbol.Part r) ∷ []) [] | false ↦ true ])

kinds_pass : (note : Bool) (k : Kind) → reader_passes note (choice.Only k) (reader note (choice.Only k)) ≡ true
kinds_pass false kind.Id = refl
kinds_pass false _ = refl
kinds_pass true kind.Id = refl
kinds_pass true _ = refl

operands_pass : (note : Bool) (l : Level) → reader_passes note (choice.Operand l) (reader note (choice.Operand l)) ≡ true
operands_pass false level.Term = refl
operands_pass false _ = refl
operands_pass true level.Term = refl
operands_pass true _ = refl

readers_pass : (note : Bool) (place : Choice) → reader_passes note place (reader note place) ≡ true
readers_pass false (choice.Only k) = kinds_pass false k
readers_pass false (choice.Operand l) = operands_pass false l
readers_pass false (choice.Chain o) = refl
readers_pass false _ = refl
readers_pass true (choice.Only k) = kinds_pass true k
readers_pass true (choice.Operand l) = operands_pass true l
readers_pass true (choice.Chain o) = refl
readers_pass true _ = refl

pub reader_leads : (note : Bool) (place : Choice) (c : Class) (r : Rule) → reader note place ≡ Some r → Has classes c → admits note place c ≡ true → passes routes note c ((note, symbol.Part r) ∷ []) [] ≡ true
reader_leads note place c r e n a = if_true (admits note place c) _ (by (reader note place) e (readers_pass note place)) a
  where
    by : (o : Option Rule) → o ≡ Some r → reader_passes note place o ≡ true → elim (admits note place c) as (λ b. Bool) [ true ↦ passes routes note c ((note, symbol.Part r) ∷ []) [] | false ↦ true ] ≡ true
    by None e h = absurd cc
    by (Some s) e h =
        let same : s ≡ r = cc in
        all_of_has classes (λ c. elim (admits note place c) as (λ b. Bool) [ true ↦ passes routes note c ((note, symbol.Part r) ∷ []) [] | false ↦ true ]) c (subst (λ q. reader_passes note place (Some q) ≡ true) same h) n
