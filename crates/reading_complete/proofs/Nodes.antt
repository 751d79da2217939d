-- What is proved of a spelled node, and how it is used where a line reads one.
use Rattle.std.proofs.Common.{◌≡◌, ℕ, zero, suc, List, [], ◌∷◌, ◌++◌, refl, sym, ◌∙◌, ap, subst, Bool, true, false, ◌&&◌, Option, Some, None, append_assoc}
use Rattle.std.proofs.lemmas.Bool.{and_parts}
use denote.Enum.Bare.{sameb, same_true}
use Rattle.ada_tree.specs.declared.kind.Kind.TheVariants as kind
use Rattle.ada_tree.specs.declared.grammar.Choice.{Choice}
use Rattle.ada_tree.specs.declared.node.Node.{Node}
use Rattle.ada_tree.specs.Kinds.{is_kind}
use Rattle.ada_tree.specs.Nodes.{kind_of}
use Rattle.ada_tree.specs.Tokens.{Event}
use Rattle.reading_table.specs.contracts.rule.Rule as rule_row
use Rattle.reading_table.specs.declared.held.Held.{Held}
use Rattle.reading_table.specs.declared.held.Held.TheVariants as held
use Rattle.reading_table.specs.declared.rule.Rule.{Rule}
use Rattle.reading_table.specs.declared.symbol.Symbol.TheVariants as symbol
use Rattle.reading_table.specs.Events.{Reads, event_table, event_view, event_fits, event_taken}
use Rattle.reading_table.specs.Rows.{Placed}
use Rattle.reading_table.specs.Tables.{token, arrived, Has, takes}
use Rattle.reading_complete.specs.Bare.{bare}
use Rattle.reading_complete.proofs.Classes.{Class, classes, admits}
use Rattle.reading_complete.proofs.Lazy.{any_of, any_of_has, all_of_has}
use Rattle.reading_complete.proofs.Moves.{unfolded_reads}
use Rattle.reading_complete.proofs.Routes.{routes}
use Rattle.reading_complete.proofs.Symbols.{same_side, side_told, after_front, front_after}
use Rattle.reading_complete.proofs.Tests.{route_leads, reader_leads}
use Rattle.reading_complete.proofs.Readers.{reader}
use Rattle.reading_complete.proofs.Seeking.{unfoldings, seek_line_by, seek_line, depth}
use Rattle.reading_complete.proofs.Walks.{Route, passes, whole_at, routed, route_at, each_class}

-- ---- tokens

same_arrived : (events : List Event) (values : List Held) → arrived event_table (λ vs. vs) events values ≡ values
same_arrived [] values = refl
same_arrived (e ∷ events) values = refl

pub take_event : (s : Placed) (ss : List Placed) (values new : List Held) (e : Event) (events : List Event) (last : List Held)
    → event_view s.0 s.1 ≡ token → event_fits s values e ≡ true → event_taken s values e ≡ new → Reads ss new events last → Reads (s ∷ ss) values (e ∷ events) last
take_event s ss values new e events last v f t d =
    takes v f (subst (λ w. Reads ss w events last) (sym (same_arrived events (event_taken s values e) ∙ t)) d)

-- ---- lines that lead to others

seek_line_by_to : (P : List Placed → Type 0) → ((line unfolded : List Placed) → Has (unfoldings line) unfolded → P unfolded → P line) → (test : List Placed → Bool) → ((l : List Placed) → test l ≡ true → P l)
    → (fuel : ℕ) (line : List Placed) → seek_line_by fuel test line ≡ true → P line
seek_line_by_to P back test k zero line h = k line h
seek_line_by_to P back test k (suc fuel) line h = by_test (λ line h. seek_line_by_to P back test k fuel line h) (test line) refl h
  where
    by_test : ((line : List Placed) → seek_line_by fuel test line ≡ true → P line) → (b : Bool) → test line ≡ b → elim b as (λ b. Bool) [ true ↦ true | false ↦ any_of (unfoldings line) (λ u. seek_line_by fuel test u) ] ≡ true → P line
    by_test go true e g = k line e
    by_test go false e g = let u = any_of_has (unfoldings line) (λ u. seek_line_by fuel test u) g in back line u.0 u.1 (go u.0 u.2)

pub seek_line_to : (P : List Placed → Type 0) → ((line unfolded : List Placed) → Has (unfoldings line) unfolded → P unfolded → P line) → (test : List Placed → Bool) → ((l : List Placed) → test l ≡ true → P l)
    → (line : List Placed) → seek_line test line ≡ true → P line
seek_line_to P back test k line h = seek_line_by_to P back test k depth line h

-- ---- a spelled node

-- The node is of a class that stands at the place; and where a line leaves another one after nodes of the class, what the second reads behind the node the first reads from it on.
pub record IsRead (note : Bool) (place : Choice) (node : Node) (events rest : List Event) : Type 0 where
  pub class : Class
  pub there : Has classes class
  pub stands : admits note place class ≡ true
  pub association : is_kind (kind_of node) kind.Assoc ≡ true → is_kind class.kind kind.Assoc ≡ true
  pub reads : (front goal : List Placed) → passes routes note class front goal ≡ true → (ss : List Placed) (below last : List Held)
      → Reads (goal ++ ss) (held.Tree (bare node) ∷ below) rest last → Reads (front ++ ss) below events last

-- A line leads over a node to another line that passes.
pub record LeadsOver (next : List Placed → Bool) (node : Node) (events rest : List Event) (line : List Placed) : Type 0 where
  pub to : List Placed
  pub passed : next to ≡ true
  pub over : (ss : List Placed) (below last : List Held) → Reads (to ++ ss) (held.Tree (bare node) ∷ below) rest last → Reads (line ++ ss) below events last

pub over_unfolded : (next : List Placed → Bool) (node : Node) (events rest : List Event) (line unfolded : List Placed) → Has (unfoldings line) unfolded → LeadsOver next node events rest unfolded → LeadsOver next node events rest line
over_unfolded next node events rest line unfolded m o = record {
  to = o.to;
  passed = o.passed;
  over = λ ss below last d. unfolded_reads line unfolded ss below events last m (o.over ss below last d);
}

module _ {note : Bool} {place : Choice} {node : Node} {events rest : List Event} (n : IsRead note place node events rest) where
  pub over_whole : (next : List Placed → Bool) (line : List Placed) → whole_at routes note (reader note place) next line ≡ true → LeadsOver next node events rest line
  over_whole next line h = by (reader note place) refl line h
    where
      at_rule : (r : Rule) → reader note place ≡ Some r → (side : Bool) (met : Rule) (line : List Placed) → (t : Bool) → (same_side side note && sameb rule_row.the_type r met) ≡ t
          → elim t as (λ t. Bool) [ true ↦ next line | false ↦ false ] ≡ true → LeadsOver next node events rest ((side, symbol.Part met) ∷ line)
      at_rule r e side met line true t h =
          let parts = and_parts (same_side side note) (sameb rule_row.the_type r met) t in
          let sides : side ≡ note = side_told side note parts.0 in
          let rules : r ≡ met = same_true rule_row.the_type tt r met parts.1 in
          let front : (note, symbol.Part r) ∷ [] ≡ (side, symbol.Part met) ∷ [] = ap (λ (s : Bool). (s, symbol.Part r) ∷ []) (sym sides) ∙ ap (λ (r : Rule). (side, symbol.Part r) ∷ []) rules in
          record {
            to = line;
            passed = h;
            over = λ ss below last d. n.reads ((side, symbol.Part met) ∷ []) [] (subst (λ f. passes routes note n.class f [] ≡ true) front (reader_leads note place n.class r e n.there n.stands)) (line ++ ss) below last d;
          }
      at_rule r e side met line false t h = absurd cc

      by : (o : Option Rule) → reader note place ≡ o → (line : List Placed) → whole_at routes note o next line ≡ true → LeadsOver next node events rest line
      by (Some r) e ((side, symbol.Part met) ∷ line) h = at_rule r e side met line (same_side side note && sameb rule_row.the_type r met) refl h
      by _ e _ h = absurd cc

  pub over_route : (next : List Placed → Bool) (line : List Placed) → route_at routes note n.class next line ≡ true → LeadsOver next node events rest line
  over_route next ((side, symbol.Part r) ∷ line) h = by (same_side side note) refl h
    where
      through : (route : Route) → Has (routes note r) route → (a : Bool) → route.reads n.class ≡ a → (o : Option (List Placed)) → after_front route.also line ≡ o
          → elim a as (λ a. Bool) [ true ↦ elim o as (λ o. Bool) [ Some left ↦ next (route.rest ++ left) | None ↦ false ] | false ↦ false ] ≡ true → side ≡ note → LeadsOver next node events rest ((side, symbol.Part r) ∷ line)
      through route m true a (Some left) o h e = record {
        to = route.rest ++ left;
        passed = h;
        over = λ ss below last d.
            let whole : ((note, symbol.Part r) ∷ route.also) ++ (left ++ ss) ≡ ((side, symbol.Part r) ∷ line) ++ ss =
            ap (λ (s : Bool). (s, symbol.Part r) ∷ (route.also ++ (left ++ ss))) (sym e) ∙ ap (λ l. (side, symbol.Part r) ∷ l) (sym (append_assoc route.also left ss) ∙ ap (λ l. l ++ ss) (sym (front_after route.also line left o))) in
            subst (λ l. Reads l below events last) whole
            (n.reads ((note, symbol.Part r) ∷ route.also) route.rest (route_leads note r route n.class m n.there a) (left ++ ss) below last
            (subst (λ l. Reads l (held.Tree (bare node) ∷ below) rest last) (append_assoc route.rest left ss) d));
      }
      through route m true a None o h e = absurd cc
      through route m false a o f h e = absurd cc

      by : (t : Bool) → same_side side note ≡ t → elim t as (λ t. Bool) [ true ↦ any_of (routes note r) (λ route. routed routes n.class next line route) | false ↦ false ] ≡ true → LeadsOver next node events rest ((side, symbol.Part r) ∷ line)
      by true e h =
          let f = any_of_has (routes note r) (λ route. routed routes n.class next line route) h in
          through f.0 f.1 (f.0.reads n.class) refl (after_front f.0.also line) refl f.2 (side_told side note e)
      by false e h = absurd cc
  over_route next _ h = absurd cc

  -- a test of each class that stands at the place is one of the node's class
  pub of_class : (among test : Class → Bool) → each_class routes note place among test ≡ true → among n.class ≡ true → test n.class ≡ true
  of_class among test h a =
      by (admits note place n.class) n.stands (among n.class) a (all_of_has classes (λ d. elim (admits note place d) as (λ b. Bool) [ true ↦ elim (among d) as (λ b. Bool) [ true ↦ test d | false ↦ true ] | false ↦ true ]) n.class h n.there)
    where
      by : (s : Bool) → s ≡ true → (a : Bool) → a ≡ true → elim s as (λ b. Bool) [ true ↦ elim a as (λ b. Bool) [ true ↦ test n.class | false ↦ true ] | false ↦ true ] ≡ true → test n.class ≡ true
      by true s true a h = h
      by true s false a h = absurd cc
      by false s a b h = absurd cc
