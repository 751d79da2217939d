-- The own text of a node, where a stage reads it.
use Rattle.std.proofs.Common.{◌≡◌, ℕ, List, [], ◌∷◌, ◌++◌, refl, sym, ◌∙◌, ap, subst, Bool, true, false, not, ◌&&◌, ◌||◌, map, if◌then◌else◌}
use Rattle.std.specs.Prelude.{bytes_eq}
use Rattle.std.specs.Char.{to_ascii_uppercase, to_ascii_lowercase}
use Rattle.std.specs.Cmp.Lexicographic.{bytes_decides, pointwise}
use Rattle.std.proofs.lemmas.Bool.{and_parts}
use denote.Enum.Bare.{sameb, same_true}
use Rattle.ada_tree.specs.contracts.grammar.Argument as argument_row
use Rattle.ada_tree.specs.declared.kind.Kind.{Kind}
use Rattle.ada_tree.specs.declared.kind.Kind.TheVariants as kind
use Rattle.ada_tree.specs.declared.grammar.Own.{Own as OwnText}
use Rattle.ada_tree.specs.declared.grammar.Own.TheVariants as own_text
use Rattle.ada_tree.specs.declared.node.Node.{Node}
use Rattle.ada_tree.specs.declared.word.Word.TheVariants as word
use Rattle.ada_tree.specs.Kinds.{is_kind}
use Rattle.ada_tree.specs.Nodes.{text_of, kids_of, kind_of, node_of, is_empty}
use Rattle.ada_tree.specs.Items.{lexemes, put, put_small}
use Rattle.ada_tree.specs.Rules.{arguments_of}
use Rattle.ada_tree.specs.Texts.{fits_own, own_items, may_be_omitted, is_name, is_small, is_rule, is_key, name_items, rule_items}
use Rattle.ada_tree.specs.Tokens.{Event, a_name, a_number, a_word, spelled, spell}
use Rattle.reading_table.specs.contracts.symbol.Form as form_row
use Rattle.reading_table.specs.declared.held.Held.{Held}
use Rattle.reading_table.specs.declared.held.Held.TheVariants as held
use Rattle.reading_table.specs.declared.rule.Rule.TheVariants as rule
use Rattle.reading_table.specs.declared.symbol.Form.{Form}
use Rattle.reading_table.specs.declared.symbol.Form.TheVariants as form
use Rattle.reading_table.specs.declared.symbol.Symbol.{Symbol}
use Rattle.reading_table.specs.declared.symbol.Symbol.TheVariants as symbol
use Rattle.reading_table.specs.declared.symbol.Tokens.TheVariants as tokens
use Rattle.reading_table.specs.Events.{Reads}
use Rattle.reading_table.specs.Rows.{Placed}
use Rattle.reading_table.specs.States.{text_below}
use Rattle.reading_table.specs.Tables.{acts}
use Rattle.reading_table.specs.TokenSets.{arguments_in, has_form}
use Rattle.reading_complete.specs.Bare.{bare}
use Rattle.reading_complete.proofs.Classes.{Class, Sort, by_form}
use Rattle.reading_complete.proofs.Keys.{reads_key}
use Rattle.reading_complete.proofs.Lazy.{both_parts}
use Rattle.reading_complete.proofs.Names.{small_again, reads_note_text, reads_atom, reads_kept_name, reads_ada_text, ada_lexemes}
use Rattle.reading_complete.proofs.Nodes.{take_event}
use Rattle.reading_complete.proofs.Routes.{routes}
use Rattle.reading_complete.proofs.Stages.{in_order, an_own, the_whole, none_stand, ReadsFrom, IsOf, named_below}
use Rattle.reading_complete.proofs.Symbols.{same_side}
use Rattle.reading_complete.proofs.Texts.{sought, told_reads, omitted_reads, told_is}
use Rattle.reading_complete.proofs.Seeking.{Value, own, whole, Stage, seek, names_own}
use Rattle.reading_complete.proofs.Walks.{told_text, omitted_text, at_identifier, at_atom, at_number, at_closing, at_rule, rule_text, at_key, own_read}

same_arguments : (f : Form) → pointwise (sameb argument_row.the_type) (arguments_in f) (arguments_in f) ≡ true
same_arguments form.Plain = refl
same_arguments _ = refl

-- a node without kids, made of its text
made_of_text : (node : Node) (k : Kind) → k ≡ kind_of node → is_kind k kind.File ≡ false → kids_of node ≡ [] → node_of k (text_of node) [] [] ≡ bare node
made_of_text node k e f n = by (is_kind (kind_of node) kind.File) (ap (λ k. is_kind k kind.File) (sym e) ∙ f)
  where
    by : (b : Bool) → is_kind (kind_of node) kind.File ≡ false → node_of k (text_of node) [] [] ≡ bare node
    by b f = rw f (ap (λ k. node_of k (text_of node) [] []) e ∙ ap (λ ns. node_of (kind_of node) (text_of node) [] ns) (sym n))

module _ (node : Node) (c : Class) (o : IsOf c node) (ss : List Placed) (below last : List Held) (ks : List Node) (events : List Event) (next : Stage → Bool)
    (k : (s : Stage) → next s ≡ true → ReadsFrom node ss below last ks events s) where
  At : List Event → Stage → Type 0
  At es stage = ReadsFrom node ss below last ks es stage

  -- ---- names

  at_keep : (side note : Bool) (line : List Placed) (values : List Value) → is_name note (text_of node) ≡ true → elim (side || note) as (λ b. Bool) [ true ↦ false | false ↦ next (line, own ∷ values) ] ≡ true
      → ReadsFrom node ss below last ks (spell note (lexemes (name_items (text_of node))) events) ((side, symbol.Keep tokens.Name) ∷ line, values)
  at_keep false false line values f h = λ hs t. reads_kept_name (text_of node) f (line ++ ss) (hs ++ below) events last (k (line, own ∷ values) h (held.Text (text_of node) ∷ hs) (an_own t))
  at_keep true note line values f h = absurd cc
  at_keep false true line values f h = absurd cc

  at_text : (side note : Bool) (line : List Placed) (values : List Value) → is_name note (text_of node) ≡ true → elim (same_side side note) as (λ b. Bool) [ true ↦ next (line, own ∷ values) | false ↦ false ] ≡ true
      → ReadsFrom node ss below last ks (spell note (lexemes (name_items (text_of node))) events) ((side, symbol.Part rule.Text) ∷ line, values)
  at_text false false line values f h = λ hs t. reads_ada_text (text_of node) f (line ++ ss) (hs ++ below) events last (k (line, own ∷ values) h (held.Text (text_of node) ∷ hs) (an_own t))
  at_text true true line values f h = λ hs t. reads_note_text (text_of node) f (line ++ ss) (hs ++ below) events last (k (line, own ∷ values) h (held.Text (text_of node) ∷ hs) (an_own t))
  at_text true false line values f h = absurd cc
  at_text false true line values f h = absurd cc

  -- the node is made of its text at once
  at_once : (kd : Kind) → kd ≡ c.kind → is_kind kd kind.File ≡ false → (line : List Placed) (es : List Event) (first : Symbol) → in_order ks ≡ kids_of node → next (line, whole ∷ []) ≡ true
      → (Reads ((true, symbol.Build kd 1) ∷ (line ++ ss)) (held.Text (text_of node) ∷ below) events last → Reads ((true, first) ∷ (line ++ ss)) below es last)
      → ReadsFrom node ss below last ks es ((true, first) ∷ line, [])
  at_once kd e f line es first all h reads hs t =
      let none = none_stand t in
      let no_kids : kids_of node ≡ [] = sym all ∙ ap in_order none.0 in
      let made : Reads (line ++ ss) (held.Tree (node_of kd (text_of node) [] []) ∷ below) events last =
      subst (λ x. Reads (line ++ ss) (held.Tree x ∷ below) events last) (sym (made_of_text node kd (e ∙ o.kind) f no_kids)) (k (line, whole ∷ []) h (held.Tree (bare node) ∷ []) the_whole) in
      subst (λ x. Reads ((true, first) ∷ (line ++ ss)) (x ++ below) es last) (sym none.1) (reads (acts refl made))

  named_atom : (note alone : Bool) (kd : Kind) → kd ≡ c.kind → (line : List Placed) (values : List Value) → is_name note (text_of node) ≡ true → (alone ≡ true → in_order ks ≡ kids_of node) → at_atom routes note alone kd values next line ≡ true
      → ReadsFrom node ss below last ks (spell note (lexemes (name_items (text_of node))) events) ((true, symbol.Part rule.Atom) ∷ line, values)
  named_atom true true kind.Name e line [] f all h =
      at_once kind.Name e refl line (spell true (lexemes (name_items (text_of node))) events) (symbol.Part rule.Atom) (all refl) h (λ d. reads_atom (text_of node) f (line ++ ss) below events last d)
  named_atom _ _ _ e line _ f all h = absurd cc

  named : (note alone : Bool) (line : List Placed) (values : List Value) → is_name note (text_of node) ≡ true → (alone ≡ true → in_order ks ≡ kids_of node) → at_identifier routes c note alone next line values ≡ true
      → ReadsFrom node ss below last ks (spell note (lexemes (name_items (text_of node))) events) (line, values)
  named note alone ((side, symbol.Keep tokens.Name) ∷ line) values f all h = at_keep side note line values f h
  named note alone ((side, symbol.Part rule.Text) ∷ line) values f all h = at_text side note line values f h
  named note alone ((true, symbol.Part rule.Atom) ∷ line) values f all h = named_atom note alone c.kind refl line values f all h
  named note alone _ values f all h = absurd cc

  closed_by : (side note : Bool) (deep : ℕ) (line : List Placed) (values : List Value) → is_name note (text_of node) ≡ true
      → elim (side || note) as (λ b. Bool) [ true ↦ false | false ↦ elim (names_own deep values) as (λ b. Bool) [ true ↦ next (line, values) | false ↦ false ] ] ≡ true
      → ReadsFrom node ss below last ks (spell note (lexemes (name_items (text_of node))) events) ((side, symbol.Closing deep) ∷ line, values)
  closed_by false false deep line values f h = λ hs t.
      let parts = both_parts (names_own deep values) (next (line, values)) h in
      let same : bytes_eq (text_of node) (text_below deep (hs ++ below)) ≡ true = (bytes_decides (text_of node) (text_below deep (hs ++ below))).1 (sym (named_below below t deep parts.0)) in
      subst (λ ls. Reads ((false, symbol.Closing deep) ∷ (line ++ ss)) (hs ++ below) (spell false ls events) last) (sym (ada_lexemes (text_of node) f))
      (take_event (false, symbol.Closing deep) (line ++ ss) (hs ++ below) (hs ++ below) _ events last refl same refl (k (line, values) parts.1 hs t))
  closed_by true note deep line values f h = absurd cc
  closed_by false true deep line values f h = absurd cc

  closed : (note : Bool) (line : List Placed) (values : List Value) → is_name note (text_of node) ≡ true → at_closing routes c note next line values ≡ true
      → ReadsFrom node ss below last ks (spell note (lexemes (name_items (text_of node))) events) (line, values)
  closed note ((side, symbol.Closing deep) ∷ line) values f h = closed_by side note deep line values f h
  closed note _ values f h = absurd cc

  -- ---- numbers

  numbered_by : (side note : Bool) (line : List Placed) (values : List Value) → elim (same_side side note) as (λ b. Bool) [ true ↦ next (line, own ∷ values) | false ↦ false ] ≡ true
      → ReadsFrom node ss below last ks (spelled note (a_number (text_of node)) ∷ events) ((side, symbol.Keep tokens.Number) ∷ line, values)
  numbered_by false false line values h = λ hs t. take_event (false, symbol.Keep tokens.Number) (line ++ ss) (hs ++ below) (held.Text (text_of node) ∷ (hs ++ below)) _ events last refl refl refl (k (line, own ∷ values) h (held.Text (text_of node) ∷ hs) (an_own t))
  numbered_by true true line values h = λ hs t. take_event (true, symbol.Keep tokens.Number) (line ++ ss) (hs ++ below) (held.Text (text_of node) ∷ (hs ++ below)) _ events last refl refl refl (k (line, own ∷ values) h (held.Text (text_of node) ∷ hs) (an_own t))
  numbered_by true false line values h = absurd cc
  numbered_by false true line values h = absurd cc

  numbered : (note : Bool) (line : List Placed) (values : List Value) → at_number routes note next line values ≡ true → ReadsFrom node ss below last ks (spelled note (a_number (text_of node)) ∷ events) (line, values)
  numbered note ((side, symbol.Keep tokens.Number) ∷ line) values h = numbered_by side note line values h
  numbered note _ values h = absurd cc

  -- ---- rules of proof

  ruled_by : (f g : Form) → f ≡ g → arguments_of (text_of node) ≡ arguments_in f → is_small (text_of node) ≡ true → (side note other : Bool) → same_side side note ≡ true → (line : List Placed) (values : List Value) → next (line, own ∷ values) ≡ true
      → ReadsFrom node ss below last ks (spelled note (a_name (map to_ascii_uppercase (text_of node))) ∷ events) ((side, symbol.Keep (tokens.NameOf g)) ∷ (other, symbol.Lower) ∷ line, values)
  ruled_by f g e a s side note other n line values h = λ hs t.
      let again = small_again (text_of node) s in
      let has : has_form g (map to_ascii_uppercase (text_of node)) ≡ true =
      ap (λ x. pointwise (sameb argument_row.the_type) (arguments_of x) (arguments_in g)) again ∙ ap (λ xs. pointwise (sameb argument_row.the_type) xs (arguments_in g)) (a ∙ ap arguments_in e) ∙ same_arguments g in
      let lowered : Reads (line ++ ss) (held.Text (map to_ascii_lowercase (map to_ascii_uppercase (text_of node))) ∷ (hs ++ below)) events last =
      subst (λ x. Reads (line ++ ss) (held.Text x ∷ (hs ++ below)) events last) (sym again) (k (line, own ∷ values) h (held.Text (text_of node) ∷ hs) (an_own t)) in
      take_event (side, symbol.Keep (tokens.NameOf g)) ((other, symbol.Lower) ∷ (line ++ ss)) (hs ++ below) (held.Text (map to_ascii_uppercase (text_of node)) ∷ (hs ++ below)) _ events last refl (fits side note n (has_form g (map to_ascii_uppercase (text_of node))) has) refl
      (acts refl lowered)
    where
      fits : (side note : Bool) → same_side side note ≡ true → (b : Bool) → b ≡ true → ((if side then note else not note) && b && true) ≡ true
      fits true true n true e = refl
      fits false false n true e = refl
      fits true false n b e = absurd cc
      fits false true n b e = absurd cc
      fits _ _ n false e = absurd cc

  ruled : (note : Bool) (sort : Sort) → sort ≡ c.sort → is_empty c.text ≡ true → is_rule (text_of node) ≡ true → (line : List Placed) (values : List Value) → at_rule routes sort note next line values ≡ true
      → ReadsFrom node ss below last ks (spell note (lexemes (rule_items (text_of node))) events) (line, values)
  ruled note (by_form f) e em r ((side, symbol.Keep (tokens.NameOf g)) ∷ (other, symbol.Lower) ∷ line) values h =
      let parts = both_parts (same_side side note && sameb form_row.the_type f g) (next (line, own ∷ values)) h in
      let two = and_parts (same_side side note) (sameb form_row.the_type f g) parts.0 in
      let unranged = o.unranged f (sym e) em in
      subst (λ b. ReadsFrom node ss below last ks (spell note (lexemes (if b then put (a_word word.Range) ∷ [] else put_small (text_of node) ∷ [])) events) ((side, symbol.Keep (tokens.NameOf g)) ∷ (other, symbol.Lower) ∷ line, values)) (sym unranged)
      (ruled_by f g (same_true form_row.the_type tt f g two.1) (o.steps f (sym e)) (subst (λ b. (b || is_small (text_of node)) ≡ true) unranged r) side note other two.0 line values parts.1)
  ruled note _ e em r _ values h = absurd cc

  -- ---- keys

  keyed : (note alone : Bool) (kd : Kind) → kd ≡ c.kind → (values : List Value) (line : List Placed) → is_key (text_of node) ≡ true → (alone ≡ true → in_order ks ≡ kids_of node) → at_key routes note alone kd values next line ≡ true
      → ReadsFrom node ss below last ks (spell note (lexemes (own_items own_text.Key (text_of node))) events) (line, values)
  keyed true true kind.Key e [] ((true, symbol.Part rule.Key) ∷ line) f all h =
      at_once kind.Key e refl line (spell true (lexemes (own_items own_text.Key (text_of node))) events) (symbol.Part rule.Key) (all refl) h (λ d. reads_key (text_of node) f (line ++ ss) below events last d)
  keyed _ _ _ e _ _ f all h = absurd cc

  -- ---- all

  pub own_reads : (note alone : Bool) (text : OwnText) (stage : Stage) → fits_own note text (text_of node) ≡ true → (alone ≡ true → in_order ks ≡ kids_of node) → own_read routes c note alone text next stage ≡ true
      → ReadsFrom node ss below last ks (spell note (lexemes (own_items text (text_of node))) events) stage
  own_reads note alone own_text.Id stage f all h = sought node c ss below last ks _ (λ s. at_identifier routes c note alone next s.0 s.1) (λ s g. named note alone s.0 s.1 f all g) stage h
  own_reads note alone own_text.Closing stage f all h =
      sought node c ss below last ks _ (λ s. at_closing routes c note next s.0 s.1) (λ s g. closed note s.0 s.1 f g) stage (both_parts (next stage) (seek c false (λ s. at_closing routes c note next s.0 s.1) stage) h).1
  own_reads note alone own_text.Num stage f all h = sought node c ss below last ks _ (λ s. at_number routes note next s.0 s.1) (λ s g. numbered note s.0 s.1 g) stage h
  own_reads note alone own_text.Operator stage f all h = told_reads node c o ss below last ks note own_text.Operator events next k stage h
  own_reads note alone own_text.Mode stage f all h =
      told_reads node c o ss below last ks note own_text.Mode events next k stage (both_parts (told_text routes c note own_text.Mode next stage) (omitted_text routes c own_text.Mode next stage) h).0
  own_reads note alone own_text.GlobalMode stage f all h =
      told_reads node c o ss below last ks note own_text.GlobalMode events next k stage (both_parts (told_text routes c note own_text.GlobalMode next stage) (omitted_text routes c own_text.GlobalMode next stage) h).0
  own_reads note alone own_text.Rule stage f all h = by (is_empty c.text) refl h
    where
      by : (b : Bool) → is_empty c.text ≡ b → rule_text routes b c note next stage ≡ true → ReadsFrom node ss below last ks (spell note (lexemes (rule_items (text_of node))) events) stage
      by true e h = sought node c ss below last ks _ (λ s. at_rule routes c.sort note next s.0 s.1) (λ s g. ruled note c.sort refl e f s.0 s.1 g) stage h
      by false e h = told_reads node c o ss below last ks note own_text.Rule events next k stage h
  own_reads note alone own_text.Key stage f all h = keyed note alone c.kind refl stage.1 stage.0 f all h

  pub own_left_out : (note alone : Bool) (text : OwnText) (stage : Stage) → may_be_omitted text (text_of node) ≡ true → own_read routes c note alone text next stage ≡ true → ReadsFrom node ss below last ks events stage
  own_left_out note alone own_text.Closing stage m h = k stage (both_parts (next stage) (seek c false (λ s. at_closing routes c note next s.0 s.1) stage) h).0
  own_left_out note alone own_text.Mode stage m h =
      let parts = both_parts (told_text routes c note own_text.Mode next stage) (omitted_text routes c own_text.Mode next stage) h in
      omitted_reads node c o ss below last ks own_text.Mode events next k stage (told_is node c o ss below last ks note own_text.Mode next stage parts.0) m parts.1
  own_left_out note alone own_text.GlobalMode stage m h =
      let parts = both_parts (told_text routes c note own_text.GlobalMode next stage) (omitted_text routes c own_text.GlobalMode next stage) h in
      omitted_reads node c o ss below last ks own_text.GlobalMode events next k stage (told_is node c o ss below last ks note own_text.GlobalMode next stage parts.0) m parts.1
  own_left_out note alone _ stage m h = absurd cc
