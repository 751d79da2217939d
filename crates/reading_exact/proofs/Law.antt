-- The table reads the texts of the grammar, and no others.
use Rattle.std.proofs.Common.{◌≡◌, List, [], ◌∷◌, ◌++◌, refl, sym, ◌∙◌, ap, subst, Bool, true, false, ◌&&◌, ◌||◌, if◌then◌else◌, Ok}
use Rattle.std.specs.Prelude.{ℕ}
use Rattle.std.specs.List.{list_all}
use Rattle.std.proofs.lemmas.Bool.{and_parts, and_from}
use Rattle.std.proofs.lemmas.List.Folds.{list_all-append}
use Rattle.ada_tree.specs.declared.node.Node.{Node}
use Rattle.ada_tree.specs.declared.part.Part.{Part as GrammarPart}
use Rattle.ada_tree.specs.declared.grammar.Choice.{Choice}
use Rattle.ada_tree.specs.Choices.{comments_of}
use Rattle.ada_tree.specs.Nodes.{notes_of, is_silent}
use Rattle.ada_tree.specs.Parts.{place_of, is_noted}
use Rattle.ada_tree.specs.Reading.{takes_comments, IsUnlimitedReading, Attached, dropped, waits, taken, passed}
use Rattle.ada_tree.specs.Spelling.{keeps_comments, SpellsNode}
use Rattle.ada_tree.specs.Texts.{is_comment}
use Rattle.ada_tree.specs.Tokens.{Sign, Event, comments}
use Rattle.reading_table.specs.declared.held.Held.TheVariants as held
use Rattle.reading_table.specs.declared.symbol.Symbol.TheVariants as symbol
use Rattle.reading_table.specs.Events.{Reads}
use Rattle.reading_table.specs.Reading.{reading_table, deepest}
use Rattle.reading_table.specs.Signs.{tokens_of, end_of}
use Rattle.reading_table.specs.Spelled.{has_texts, are_events, SpelledAs, start_of}
use Rattle.reading_table.specs.States.{State}
use Rattle.reading_table.specs.Tables.{Derives, ends, takes, acts}
use Rattle.reading_table.proofs.Complete.{run_reads}
use Rattle.reading_table.proofs.Conditions.{table_is_predictive, is_clear, clear_is_good}
use Rattle.reading_table.proofs.Signs.{events_are_read, signs_are_events, came_is, no_more}
use Rattle.reading_table.proofs.Sound.{run_derives}
use Rattle.reading_complete.proofs.Held.{noted_again}
use Rattle.reading_complete.proofs.Law.{spelled_reads, whole_reads, bare_member}
use Rattle.reading_sound.proofs.Law.{StandsAlone, without_comments, with_comments, leaves_one, line_is_spelled}
use Rattle.reading_exact.specs.Whole.{are_signs, start_with, whole_start, at_start, read_whole, GrammarReads, TableReads, GivesNode}
use Rattle.reading_exact.proofs.Starts.{part_passes}

passed_parts : (part : GrammarPart) → has_texts part ≡ true → (is_clear (whole_start part) ≡ true) × (leaves_one (is_noted part) (place_of part.rule) (takes_comments (place_of part.rule)) (whole_start part) ≡ true)
passed_parts part h = and_parts (is_clear (whole_start part)) (leaves_one (is_noted part) (place_of part.rule) (takes_comments (place_of part.rule)) (whole_start part)) (part_passes part h)

-- ---- a node that stands by itself, with the comments before it or without

abbrev fits_with : Bool → Choice → Node → Bool
fits_with commented place node = if commented then list_all is_comment (notes_of node) else keeps_comments (comments_of place) || is_silent node

abbrev standing_with : Bool → Node → List Event → List Event
standing_with commented node events = if commented then comments (notes_of node) ∷ events else events

-- ---- what the grammar reads, the table reads

standing_reads : (commented : Bool) (part : GrammarPart) (node : Node) (events : List Event) → has_texts part ≡ true → SpelledAs part node events []
    → fits_with commented (place_of part.rule) node ≡ true → Reads (start_with commented part) [] (standing_with commented node events) (held.Tree node ∷ [])
standing_reads true part node events h d f =
    takes refl refl (subst (λ values. Reads (start_of part ++ (is_noted part, symbol.Noted) ∷ []) values events (held.Tree node ∷ [])) (sym (no_more events (held.Comments (notes_of node) ∷ [])))
    (spelled_reads part node events [] ((is_noted part, symbol.Noted) ∷ []) (held.Comments (notes_of node) ∷ []) (held.Tree node ∷ []) h d
    (acts refl (subst (λ n. Reads [] (held.Tree n ∷ []) [] (held.Tree node ∷ [])) (sym (noted_again node)) ends))))
standing_reads false part node events h d f =
    subst (λ n. Reads (start_of part) [] events (held.Tree n ∷ [])) (bare_member f d) (whole_reads part node events h d)

pub is_read : (part : GrammarPart) (signs : List Sign) (node : Node) → has_texts part ≡ true → GrammarReads part signs node → TableReads part signs node
is_read part signs node h u =
    let c = events_are_read (standing_reads (takes_comments (place_of part.rule)) part node u.events h u.spelling u.fitting) [] signs u.attached in
    record {
      state = c.state;
      read = run_reads reading_table deepest table_is_predictive (end_of signs) (tokens_of signs) (whole_start part) (at_start signs) c.state (clear_is_good (whole_start part) (passed_parts part h).0)
          (subst (λ state. Derives reading_table (end_of signs) (whole_start part) state (tokens_of signs) c.state) (sym (came_is signs [] [])) c.derives);
      only = c.values_are;
    }

pub one_reading : (part : GrammarPart) (signs : List Sign) (a b : Node) → has_texts part ≡ true → GrammarReads part signs a → GrammarReads part signs b → a ≡ b
one_reading part signs a b h u v =
    let x = is_read part signs a h u in
    let y = is_read part signs b h v in
    let same : Ok x.state ≡ Ok y.state = sym x.read ∙ y.read in
    let state : x.state ≡ y.state = cc in
    let trees : held.Tree a ∷ [] ≡ held.Tree b ∷ [] = sym x.only ∙ ap (λ (state : State). state.values) state ∙ y.only in
    cc

-- ---- what the table reads, the grammar reads

-- what is attached to tokens and comments that there are in texts
are_attached : {waiting : List (List ℕ)} {events : List Event} {signs : List Sign} → Attached waiting events signs → list_all is_comment waiting ≡ true → are_signs signs ≡ true → are_events events ≡ true
are_attached dropped w x = refl
are_attached (waits {waiting = waiting} {text = text} {signs = signs} a) w x =
    let parts = and_parts (is_comment text) (are_signs signs) x in
    are_attached a (list_all-append is_comment waiting (text ∷ []) ∙ and_from (list_all is_comment waiting) (is_comment text && true) w (and_from (is_comment text) true parts.0 refl)) parts.1
are_attached (taken {waiting = waiting} {events = events} n a) w x = and_from (list_all is_comment waiting) (are_events events) w (are_attached a refl x)
are_attached (passed {note = note} {lexeme = lexeme} {events = events} {signs = signs} a) w x =
    let parts = and_parts _ (are_signs signs) x in
    and_from _ (are_events events) parts.0 (are_attached a w parts.1)

standing_at : {note : Bool} {place : Choice} {signs : List Sign} {node : Node} {events : List Event} (commented : Bool) → takes_comments place ≡ commented → SpellsNode note place node events []
    → fits_with commented place node ≡ true → Attached [] (standing_with commented node events) signs → IsUnlimitedReading note place signs node
standing_at {place = place} {signs = signs} {node = node} {events = events} commented e d f a = record {
  events = events;
  spelling = d;
  fitting = subst (λ c. fits_with c place node ≡ true) (sym e) f;
  attached = subst (λ c. Attached [] (standing_with c node events) signs) (sym e) a;
}

standing_is : {note commented : Bool} {place : Choice} {signs : List Sign} {node : Node} {events : List Event} → takes_comments place ≡ commented → StandsAlone note place commented node events [] → Attached [] events signs
    → IsUnlimitedReading note place signs node
standing_is e (without_comments f d) a = standing_at false e d f a
standing_is e (with_comments f d) a = standing_at true e d f a

pub is_derived : (part : GrammarPart) (signs : List Sign) (state : State) → has_texts part ≡ true → are_signs signs ≡ true → read_whole part signs ≡ Ok state → GivesNode part signs state
is_derived part signs state h x r =
    let front = signs_are_events [] [] signs (run_derives reading_table (end_of signs) table_is_predictive.quiet deepest (tokens_of signs) (whole_start part) (at_start signs) state r) in
    let place = place_of part.rule in
    let one = line_is_spelled (is_noted part) place (takes_comments place) (whole_start part) front.events state.values (passed_parts part h).1 (are_attached front.attaches refl x) front.reads in
    record { node = one.0; only = one.1; reading = standing_is refl one.2 front.attaches }
