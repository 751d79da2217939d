-- Tokens and own texts, as a stage reads them.
use Rattle.std.proofs.Common.{◌≡◌, List, [], ◌∷◌, ◌++◌, refl, sym, ◌∙◌, ap, subst, Bool, true, false, ◌&&◌}
use Rattle.std.specs.Cmp.Lexicographic.{bytes_decides}
use Rattle.std.specs.Prelude.{bytes_eq}
use Rattle.ada_tree.specs.declared.grammar.Own.{Own as OwnText}
use Rattle.ada_tree.specs.declared.node.Node.{Node}
use Rattle.ada_tree.specs.Nodes.{text_of, is_empty}
use Rattle.ada_tree.specs.Items.{lexemes}
use Rattle.ada_tree.specs.Rendering.{lexeme_text}
use Rattle.ada_tree.specs.Texts.{own_items, may_be_omitted}
use Rattle.ada_tree.specs.Tokens.{Event, Lexeme, spelled, spell}
use Rattle.reading_table.specs.declared.held.Held.{Held}
use Rattle.reading_table.specs.declared.held.Held.TheVariants as held
use Rattle.reading_table.specs.declared.symbol.Symbol.TheVariants as symbol
use Rattle.reading_table.specs.Events.{Reads}
use Rattle.reading_table.specs.Reading.{is_side}
use Rattle.reading_table.specs.Rows.{Placed}
use Rattle.reading_table.specs.States.{is_of}
use Rattle.reading_complete.proofs.Classes.{Class}
use Rattle.reading_complete.proofs.Moves.{seek_reads}
use Rattle.reading_complete.proofs.Nodes.{take_event}
use Rattle.reading_complete.proofs.Routes.{routes}
use Rattle.reading_complete.proofs.Stages.{an_own, a_known, ReadsFrom, IsOf}
use Rattle.reading_complete.proofs.Seeking.{Value, own, known, Stage, seek, takes_lexeme, feeds, feeds_all}
use Rattle.reading_complete.proofs.Walks.{at_known, told_text, omitted_text}

module _ (node : Node) (c : Class) (ss : List Placed) (below last : List Held) (ks : List Node) where
  abbrev pub From : List Event → Stage → Type 0
  From events stage = ReadsFrom node ss below last ks events stage

  pub sought : (events : List Event) (test : Stage → Bool) → ((s : Stage) → test s ≡ true → From events s) → (stage : Stage) → seek c false test stage ≡ true → From events stage
  sought events test k stage h = seek_reads node c false (λ e. absurd cc) ss below last ks (λ e. absurd cc) events test k stage h

  takes_reads : (note : Bool) (lexeme : Lexeme) (events : List Event) (next : Stage → Bool) → ((s : Stage) → next s ≡ true → From events s) → (line : List Placed) (values : List Value)
      → takes_lexeme note lexeme next line values ≡ true → From (spelled note lexeme ∷ events) (line, values)
  takes_reads note lexeme events next k ((side, symbol.Take set) ∷ line) values h = by (is_side side note && is_of set lexeme) refl h
    where
      by : (b : Bool) → (is_side side note && is_of set lexeme) ≡ b → elim b as (λ b. Bool) [ true ↦ next (line, values) | false ↦ false ] ≡ true → From (spelled note lexeme ∷ events) ((side, symbol.Take set) ∷ line, values)
      by true e h = λ hs t. take_event (side, symbol.Take set) (line ++ ss) (hs ++ below) (hs ++ below) (spelled note lexeme) events last refl (ap (λ b. b && true) e) refl (k (line, values) h hs t)
      by false e h = absurd cc
  takes_reads note lexeme events next k ((side, symbol.Keep set) ∷ line) values h = by (is_side side note && is_of set lexeme) refl h
    where
      by : (b : Bool) → (is_side side note && is_of set lexeme) ≡ b → elim b as (λ b. Bool) [ true ↦ next (line, known (lexeme_text lexeme) ∷ values) | false ↦ false ] ≡ true
          → From (spelled note lexeme ∷ events) ((side, symbol.Keep set) ∷ line, values)
      by true e h = λ hs t. take_event (side, symbol.Keep set) (line ++ ss) (hs ++ below) (held.Text (lexeme_text lexeme) ∷ (hs ++ below)) (spelled note lexeme) events last refl (ap (λ b. b && true) e) refl
          (k (line, known (lexeme_text lexeme) ∷ values) h (held.Text (lexeme_text lexeme) ∷ hs) (a_known t))
      by false e h = absurd cc
  takes_reads note lexeme events next k _ values h = absurd cc

  pub feeds_reads : (note : Bool) (lexeme : Lexeme) (events : List Event) (next : Stage → Bool) → ((s : Stage) → next s ≡ true → From events s) → (stage : Stage) → feeds c note lexeme next stage ≡ true
      → From (spelled note lexeme ∷ events) stage
  feeds_reads note lexeme events next k stage h =
      sought (spelled note lexeme ∷ events) (λ s. takes_lexeme note lexeme next s.0 s.1) (λ s g. takes_reads note lexeme events next k s.0 s.1 g) stage h

  feeds_all_reads : (written : List Lexeme) (note : Bool) (events : List Event) (next : Stage → Bool) → ((s : Stage) → next s ≡ true → From events s) → (stage : Stage) → feeds_all written c note next stage ≡ true
      → From (spell note written events) stage
  feeds_all_reads [] note events next k stage h = k stage h
  feeds_all_reads (lexeme ∷ others) note events next k stage h =
      feeds_reads note lexeme (spell note others events) (λ s. feeds_all others c note next s) (λ s g. feeds_all_reads others note events next k s g) stage h

module _ (node : Node) (c : Class) (o : IsOf c node) (ss : List Placed) (below last : List Held) (ks : List Node) where
  known_reads : (events : List Event) (next : Stage → Bool) → ((s : Stage) → next s ≡ true → ReadsFrom node ss below last ks events s) → is_empty c.text ≡ false → (stage : Stage) → at_known routes c next stage ≡ true → ReadsFrom node ss below last ks events stage
  known_reads events next k f (line, known text ∷ values) h = by (bytes_eq text c.text) refl h
    where
      by : (b : Bool) → bytes_eq text c.text ≡ b → elim b as (λ b. Bool) [ true ↦ next (line, own ∷ values) | false ↦ false ] ≡ true → ReadsFrom node ss below last ks events (line, known text ∷ values)
      by true e h =
          let same : text_of node ≡ text = o.told f ∙ sym (((bytes_decides text c.text).0 e)) in
          as_own (k (line, own ∷ values) h) same
        where
          as_own : ReadsFrom node ss below last ks events (line, own ∷ values) → text_of node ≡ text → ReadsFrom node ss below last ks events (line, known text ∷ values)
          as_own d e _ (a_known {hs = hs} t) = subst (λ x. Reads (line ++ ss) (held.Text x ∷ (hs ++ below)) events last) e (d (held.Text (text_of node) ∷ hs) (an_own t))
      by false e h = absurd cc
  known_reads events next k f _ h = absurd cc

  pub told_reads : (note : Bool) (text : OwnText) (events : List Event) (next : Stage → Bool) → ((s : Stage) → next s ≡ true → ReadsFrom node ss below last ks events s) → (stage : Stage) → told_text routes c note text next stage ≡ true
      → ReadsFrom node ss below last ks (spell note (lexemes (own_items text (text_of node))) events) stage
  told_reads note text events next k stage h = by (is_empty c.text) refl h
    where
      by : (b : Bool) → is_empty c.text ≡ b → elim b as (λ b. Bool) [ true ↦ false | false ↦ feeds_all (lexemes (own_items text c.text)) c note (seek c false (at_known routes c next)) stage ] ≡ true
          → ReadsFrom node ss below last ks (spell note (lexemes (own_items text (text_of node))) events) stage
      by true e h = absurd cc
      by false e h = subst (λ t. ReadsFrom node ss below last ks (spell note (lexemes (own_items text t)) events) stage) (sym (o.told e))
          (feeds_all_reads node c ss below last ks (lexemes (own_items text c.text)) note events (seek c false (at_known routes c next)) (λ s g. sought node c ss below last ks events (at_known routes c next) (λ s g. known_reads events next k e s g) s g) stage h)

  -- a text that is left out, where it may be
  pub omitted_reads : (text : OwnText) (events : List Event) (next : Stage → Bool) → ((s : Stage) → next s ≡ true → ReadsFrom node ss below last ks events s) → (stage : Stage) → is_empty c.text ≡ false → may_be_omitted text (text_of node) ≡ true
      → omitted_text routes c text next stage ≡ true → ReadsFrom node ss below last ks events stage
  omitted_reads text events next k stage f m h = by (may_be_omitted text c.text) (ap (may_be_omitted text) (sym (o.told f)) ∙ m) h
    where
      by : (b : Bool) → b ≡ true → elim b as (λ b. Bool) [ true ↦ seek c false (at_known routes c next) stage | false ↦ true ] ≡ true → ReadsFrom node ss below last ks events stage
      by true e h = sought node c ss below last ks events (at_known routes c next) (λ s g. known_reads events next k f s g) stage h
      by false e h = absurd cc

  pub told_is : (note : Bool) (text : OwnText) (next : Stage → Bool) (stage : Stage) → told_text routes c note text next stage ≡ true → is_empty c.text ≡ false
  told_is note text next stage h = by (is_empty c.text) h
    where
      by : (b : Bool) → elim b as (λ b. Bool) [ true ↦ false | false ↦ feeds_all (lexemes (own_items text c.text)) c note (seek c false (at_known routes c next)) stage ] ≡ true → b ≡ false
      by true h = absurd cc
      by false h = refl
