-- What a symbol does, its traces say.
use Rattle.std.proofs.Common.{◌≡◌, ℕ, zero, suc, List, [], ◌∷◌, ◌++◌, refl, sym, ◌∙◌, ap, subst, eqb-true, Bool, true, false, ◌&&◌, ◌||◌, map, append_assoc, Option, Some, None}
use Rattle.std.specs.Prelude.{bytes_eq, codes, if◌then◌else◌, ◌==◌}
use Rattle.std.specs.Char.{to_ascii_lowercase, to_ascii_uppercase}
use Rattle.std.specs.List.{list_all}
use Rattle.std.proofs.lemmas.Slice.Eq.{bytes_eq-Decides}
use denote.Enum.Bare.{sameb, same_true}
use Rattle.ada_tree.specs.contracts.word.Word as word_row
use Rattle.ada_tree.specs.contracts.word.Mark as mark_row
use Rattle.ada_tree.specs.declared.kind.Kind.{Kind}
use Rattle.ada_tree.specs.declared.kind.Kind.TheVariants as kind
use Rattle.ada_tree.specs.declared.node.Node.{Node, Node-F, out-roll-Node}
use Rattle.ada_tree.specs.declared.word.Word.{Word as AWord}
use Rattle.ada_tree.specs.declared.word.Mark.{Mark}
use Rattle.ada_tree.specs.declared.word.Mark.TheVariants as mark
use Rattle.ada_tree.specs.declared.word.Word.TheVariants as word
use Rattle.std.specs.Cmp.Lexicographic.{pointwise}
use Rattle.base_kit.specs.Bytes as byte
use Rattle.ada_tree.specs.contracts.grammar.Argument as argument_row
use Rattle.ada_tree.specs.declared.grammar.Choice.{Choice}
use Rattle.ada_tree.specs.Nodes.{kind_of, text_of, notes_of, kids_of, node_of, is_empty}
use Rattle.ada_tree.specs.Texts.{is_big, is_comment}
use Rattle.ada_tree.specs.Rendering.{lexeme_text}
use Rattle.ada_tree.specs.Spelling.{SpellsNode}
use Rattle.ada_tree.specs.Tokens.{Lexeme, a_name, a_number, a_word, a_mark, Event, spelled, comments, spell}
use Rattle.reading_table.specs.declared.held.Held.{Held}
use Rattle.reading_table.specs.declared.held.Held.TheVariants as held
use Rattle.reading_table.specs.declared.symbol.Symbol.{Symbol}
use Rattle.reading_table.specs.declared.symbol.Symbol.TheVariants as symbol
use Rattle.reading_table.specs.declared.symbol.Tokens.{Tokens}
use Rattle.reading_table.specs.declared.symbol.Tokens.TheVariants as tokens
use Rattle.reading_table.specs.Events.{event_view, event_fits, event_taken, of_values}
use Rattle.reading_table.specs.Reading.{is_side}
use Rattle.reading_table.specs.Spelled.{is_event}
use Rattle.reading_table.specs.States.{is_of, does, built, joined as joined_values, noted, lowered, pasted, with_notes, text_below}
use Rattle.reading_table.specs.Tables.{token, done, Has, first, later}
use Rattle.reading_table.specs.TokenSets.{words_of, marks_of, has_name, has_number}
use Rattle.reading_table.specs.declared.symbol.Form.{Form}
use Rattle.reading_table.proofs.TokenSets.{same_lists, is_argument}
use Rattle.reading_table.proofs.Predictive.{any_has, has_front, has_back}
use Rattle.text_laws.proofs.round_trip.Places.{both}
use Rattle.reading_sound.proofs.Conditions.{step}
use Rattle.ada_tree.proofs.evaluator.Ways.{same_lexeme, same_lexeme_is}
use Rattle.reading_sound.proofs.Equal.{if_so_some, one_side, one_list}
use Rattle.reading_sound.proofs.Lists.{joined_holding}
use Rattle.reading_sound.proofs.Meaning.{AreDotted, one, more, IsWord, IsText, IsMember, alone, commented, writes, tells, stands, joins, begins, omits, closes, recalls, waits, ends, loses, Runs, nothing, last, RunsOne}
use Rattle.reading_sound.proofs.Lines.{some_inside}
use Rattle.reading_sound.proofs.Nodes.{built_runs}
use Rattle.reading_sound.proofs.Owned.{no_lexemes}
use Rattle.reading_sound.proofs.Stacks.{if_runs, leaves_from}
use Rattle.reading_sound.proofs.Traces.{Word, big, named, small, number, entry, Text, simple, says, ruled, by_rule, dotted, written, told, stood, joined, begun, closing, waiting, lost, Stack}
use Rattle.reading_sound.proofs.Words.{small_of, big_at_small, return_at_small}
use Rattle.reading_sound.proofs.Walks.{words_in, dotted_of, step_at, step_dotted, step_built, step_taken, step_kept, step_joined, step_noted, step_lowered, step_pasted, built_list, says_lexeme}

-- ---- tokens

word_of_set : (w : AWord) (l : Lexeme) → is_of (tokens.Word w) l ≡ true → l ≡ a_word w
word_of_set w (a_word v) h = by (sameb word_row.the_type v w) refl h
  where
    by : (b : Bool) → sameb word_row.the_type v w ≡ b → (b || false) ≡ true → a_word v ≡ a_word w
    by true q h = ap a_word (same_true word_row.the_type tt v w q)
    by false q h = absurd cc
word_of_set w _ h = absurd cc

mark_of_set : (m : Mark) (l : Lexeme) → is_of (tokens.Mark m) l ≡ true → l ≡ a_mark m
mark_of_set m (a_mark n) h = by (sameb mark_row.the_type n m) refl h
  where
    by : (b : Bool) → sameb mark_row.the_type n m ≡ b → (b || false) ≡ true → a_mark n ≡ a_mark m
    by true q h = ap a_mark (same_true mark_row.the_type tt n m q)
    by false q h = absurd cc
mark_of_set m _ h = absurd cc

-- a token that isn't kept
wrote : {stack : Stack} {v w : List Held} {e f : List Event} {note side : Bool} {l m : Lexeme} → note ≡ side → m ≡ l → Runs stack v e w (spelled side m ∷ f) → Runs (written note l ∷ stack) v e w f
wrote {stack = stack} {v = v} {w = w} {e = e} {f = f} {note = note} {m = m} q s r = last (subst (λ l. Runs stack v e w (spelled note l ∷ f)) s (subst (λ n. Runs stack v e w (spelled n m ∷ f)) (sym q) r)) writes

-- one that is kept
kept_as : {stack : Stack} {v w : List Held} {e f : List Event} {note side : Bool} {l : Lexeme} (t : Text) → note ≡ side → IsText note t (lexeme_text l) (l ∷ []) → Runs stack v e w (spelled side l ∷ f)
    → Runs (told note t ∷ stack) v e (held.Text (lexeme_text l) ∷ w) f
kept_as {stack = stack} {v = v} {w = w} {e = e} {f = f} {note = note} {l = l} t q m r = last r (tells (l ∷ []) m (ap (λ n. spelled n l ∷ f) (sym q)))

taken_runs : {stack : Stack} {v w : List Held} {e f : List Event} (note side : Bool) (set : Tokens) (l : Lexeme) → note ≡ side → is_of set l ≡ true → Runs stack v e w (spelled side l ∷ f) → Runs (step_taken note set stack) v e w f
taken_runs note side (tokens.Word w) l q h r = wrote q (word_of_set w l h) r
taken_runs note side (tokens.Mark m) l q h r = wrote q (mark_of_set m l h) r
taken_runs note side _ l q h r = last nothing loses

pub has_mapped : {A B : Type 0} (f : A → B) (xs : List A) (x : A) → Has xs x → Has (map f xs) (f x)
has_mapped f [] x m = elim m [ ]
has_mapped f (y ∷ xs) x first = first
has_mapped f (y ∷ xs) x (later m) = later (has_mapped f xs x m)

-- a token of a set without names and numbers
known_runs : {stack : Stack} {v w : List Held} {e f : List Event} (note side : Bool) (set : Tokens) (l : Lexeme) → ((text : List ℕ) → has_name set text ≡ false) → has_number set ≡ false → note ≡ side → is_of set l ≡ true
    → Runs stack v e w (spelled side l ∷ f)
    → RunsOne (map (λ w. told note (says_lexeme (a_word w)) ∷ stack) (words_of set) ++ map (λ m. told note (says_lexeme (a_mark m)) ∷ stack) (marks_of set)) v e (held.Text (lexeme_text l) ∷ w) f
known_runs note side set (a_name text) names numbers q h r = absurd (let z : true ≡ false = sym h ∙ names text in cc)
known_runs note side set (a_number text) names numbers q h r = absurd (let z : true ≡ false = sym h ∙ numbers in cc)
known_runs {stack = stack} {e = e} note side set (a_word w) names numbers q h r =
    let m = any_has (sameb word_row.the_type w) (words_of set) h in
    let same : w ≡ m.0 = same_true word_row.the_type tt w m.0 m.2 in (
      told note (says_lexeme (a_word w)) ∷ stack,
      has_front _ _ _ (has_mapped (λ w. told note (says_lexeme (a_word w)) ∷ stack) (words_of set) w (subst (Has (words_of set)) (sym same) m.1)),
      kept_as (says_lexeme (a_word w)) q (refl, refl) r,
    )
known_runs {stack = stack} note side set (a_mark m) names numbers q h r =
    let x = any_has (sameb mark_row.the_type m) (marks_of set) h in
    let same : m ≡ x.0 = same_true mark_row.the_type tt m x.0 x.2 in (
      told note (says_lexeme (a_mark m)) ∷ stack,
      has_back (map (λ w. told note (says_lexeme (a_word w)) ∷ stack) (words_of set)) _ _ (has_mapped (λ m. told note (says_lexeme (a_mark m)) ∷ stack) (marks_of set) m (subst (Has (marks_of set)) (sym same) x.1)),
      kept_as (says_lexeme (a_mark m)) q (refl, refl) r,
    )

kept_runs : {stack : Stack} {v w : List Held} {e f : List Event} (note side : Bool) (set : Tokens) (l : Lexeme) → note ≡ side → is_of set l ≡ true → is_event (spelled side l) ≡ true → Runs stack v e w (spelled side l ∷ f)
    → RunsOne (step_kept note set stack) v e (held.Text (lexeme_text l) ∷ w) f
kept_runs note side tokens.Name (a_name text) q h x r = (_, first, kept_as (simple big) q (ap (λ n. is_big n text) q ∙ x, refl) r)
kept_runs note side (tokens.NameOf f) (a_name text) q h x r = (_, first, kept_as (ruled f) q (ap (λ n. is_big n text) q ∙ x, h, refl) r)
kept_runs note side tokens.Number (a_number text) q h x r = (_, first, kept_as (simple number) q (x, refl) r)
kept_runs note side (tokens.Word w) l q h x r = known_runs note side (tokens.Word w) l (λ text. refl) refl q h r
kept_runs note side (tokens.Mark m) l q h x r = known_runs note side (tokens.Mark m) l (λ text. refl) refl q h r
kept_runs note side tokens.Relational l q h x r = known_runs note side tokens.Relational l (λ text. refl) refl q h r
kept_runs note side tokens.Adding l q h x r = known_runs note side tokens.Adding l (λ text. refl) refl q h r
kept_runs note side tokens.Multiplying l q h x r = known_runs note side tokens.Multiplying l (λ text. refl) refl q h r
kept_runs note side tokens.Highest l q h x r = known_runs note side tokens.Highest l (λ text. refl) refl q h r
kept_runs note side tokens.Maker l q h x r = known_runs note side tokens.Maker l (λ text. refl) refl q h r
kept_runs note side _ _ q h x r = absurd cc

closing_runs : {stack : Stack} {v w : List Held} {e f : List Event} (note side : Bool) (d : ℕ) (l : Lexeme) → note ≡ side → is_of tokens.Name l ≡ true → bytes_eq (lexeme_text l) (text_below d w) ≡ true → is_event (spelled side l) ≡ true
    → Runs stack v e w (spelled side l ∷ f) → Runs (closing note d ∷ stack) v e w f
closing_runs {stack = stack} {v = v} {w = w} {e = e} {f = f} note side d (a_name text) q h b x r =
    let same : text ≡ text_below d w = (bytes_eq-Decides text (text_below d w)).0 b in
    last (subst (λ t. Runs stack v e w (spelled note (a_name t) ∷ f)) same (subst (λ n. Runs stack v e w (spelled n (a_name text) ∷ f)) (sym q) r))
    (closes (subst (λ t. is_big note t ≡ true) same (ap (λ n. is_big n text) q ∙ x)))
closing_runs note side d _ q h b x r = absurd cc

-- a symbol that reads
pub read_runs : {stack : Stack} {v w : List Held} {e f : List Event} (note : Bool) (s : Symbol) (ev : Event) → event_view note s ≡ token → event_fits (note, s) w ev ≡ true → is_event ev ≡ true → Runs stack v e w (ev ∷ f)
    → RunsOne (step note s stack) v e (event_taken (note, s) w ev) f
read_runs note (symbol.Take set) (spelled side l) t h x r = let p = both (both h).0 in (_, first, taken_runs note side set l (one_side note side p.0) p.1 r)
read_runs note (symbol.Keep set) (spelled side l) t h x r = let p = both (both h).0 in kept_runs note side set l (one_side note side p.0) p.1 x r
read_runs note (symbol.Closing d) (spelled side l) t h x r = let p = both (both h).0 in (_, first, closing_runs note side d l (one_side note side p.0) p.1 (both h).1 x r)
read_runs note symbol.Notes (comments texts) t h x r = (_, first, last r (waits x))
read_runs note symbol.EndNotes (comments texts) t h x r = (_, first, last r (ends x))
read_runs note _ _ t h x r = absurd cc

-- ---- what is done to the values

renoted : (ns notes : List (List ℕ)) (node : Node) → with_notes ns (with_notes notes node) ≡ with_notes ns node
renoted ns notes node = ap (λ (l : Node-F Node). node_of l.kind l.text ns l.kids) (out-roll-Node record { kind = kind_of node; text = text_of node; notes = notes; kids = kids_of node })

notes_now : (notes : List (List ℕ)) (node : Node) → notes_of (with_notes notes node) ≡ notes
notes_now notes node = ap (λ (l : Node-F Node). l.notes) (out-roll-Node record { kind = kind_of node; text = text_of node; notes = notes; kids = kids_of node })

noted_member : {n : Bool} {ps : List Choice} {node : Node} {e f : List Event} (notes : List (List ℕ)) → list_all is_comment notes ≡ true → IsMember n false ps node e f → IsMember n true ps (with_notes notes node) (comments notes ∷ e) f
noted_member {n = n} {ps = ps} {node = node} {e = e} {f = f} notes c (alone s at) =
    subst (λ ns. IsMember n true ps (with_notes notes node) (comments ns ∷ e) f) (notes_now notes node)
    (commented (ap (list_all is_comment) (notes_now notes node) ∙ c) (λ p m ns. subst (λ node. SpellsNode n p node e f) (sym (renoted ns notes node)) (at p m ns)))

noted_runs : {v w : List Held} {e f : List Event} (stack : Stack) → Runs stack v e w f → Runs (step_noted stack) v e (noted w) f
noted_runs (stood n false ps ∷ waiting ∷ stack) (last (last r (waits {notes = notes} c)) (stands i)) = last r (stands (noted_member notes c i))
noted_runs _ r = last nothing loses

joined_runs : {v w : List Held} {e f : List Event} (stack : Stack) → Runs stack v e w f → Runs (step_joined stack) v e (joined_values w) f
joined_runs (stood n c ps ∷ stack) (last r (stands i)) = last r (joins i)
joined_runs _ r = last nothing loses

small_text : {text : List ℕ} {ls : List Lexeme} → IsWord true big text ls → IsWord true small (map to_ascii_lowercase text) ls
small_text {text = text} {ls = ls} m = let s = small_of text m.0 in (s.0, m.1 ∙ s.1)

rule_text : {text : List ℕ} {ls : List Lexeme} (f : Form) → IsText true (ruled f) text ls → IsText true (by_rule f) (map to_ascii_lowercase text) ls
rule_text {text = text} f m = let s = small_of text m.0 in (s.0, same_lists is_argument (same_true argument_row.the_type tt) _ _ m.1, m.2 ∙ s.1)

lowered_runs : {v w : List Held} {e f : List Event} (stack : Stack) → Runs stack v e w f → Runs (step_lowered stack) v e (lowered w) f
lowered_runs (told true (simple big) ∷ stack) (last r (tells ls m q)) = last r (tells ls (small_text m) q)
lowered_runs (told true (ruled f) ∷ stack) (last r (tells ls m q)) = last r (tells ls (rule_text f m) q)
lowered_runs (written n l ∷ told true (simple big) ∷ stack) (last (last r (tells ls m q)) writes) = last (last r (tells ls (small_text m) q)) writes
lowered_runs _ r = last nothing loses

list_runs : {v w : List Held} {e f : List Event} (stack : Stack) → Runs stack v e w f → Runs (built_list stack) v e (built kind.List 1 w) f
list_runs {v = v} {e = e} {f = f} (stood n false ps ∷ stack) (last {w = u} r (stands {node = node} i)) =
    subst (λ w. Runs (joined n false ps ∷ begun kind.List ∷ stack) v e w f) (joined_holding kind.List [] [] node u) (last (last r begins) (joins i))
list_runs _ r = last nothing loses

step_built_runs : {v w : List Held} {e f : List Event} (note : Bool) (k : Kind) (n : ℕ) (stack : Stack) → Runs stack v e w f → Runs (step_built note k n stack) v e (built k n w) f
step_built_runs note kind.None zero stack r = last r omits
step_built_runs note kind.List zero stack r = last r begins
step_built_runs note kind.File zero stack r = last r begins
step_built_runs note kind.List (suc zero) stack r = list_runs stack r
step_built_runs note kind.None (suc n) stack r = built_runs note kind.None (suc n) stack r
step_built_runs note kind.List (suc (suc n)) stack r = built_runs note kind.List (suc (suc n)) stack r
step_built_runs note kind.File (suc n) stack r = built_runs note kind.File (suc n) stack r
step_built_runs note _ n stack r = built_runs note _ n stack r

spelled_on : (n : Bool) (ms ls : List Lexeme) (f : List Event) → spell n (ms ++ ls) f ≡ spell n ms (spell n ls f)
spelled_on n [] ls f = refl
spelled_on n (m ∷ ms) ls f = ap (λ e. spelled n m ∷ e) (spelled_on n ms ls f)

at_runs : {v w : List Held} {e f : List Event} (stack : Stack) → Runs stack v e w f → Runs (step_at stack) v e (pasted byte.at_sign w) f
at_runs {f = f} (told true (simple small) ∷ written true l ∷ told true (simple big) ∷ stack) (last (last (last r (tells {text = front} ks m q)) (writes {e = e})) (tells {text = back} ls i p)) =
    if_runs (same_lexeme l (a_mark mark.AtSign))
    (λ h. last r (tells _ (big_at_small front back m.0 i.0)
    (q ∙ ap (λ ks. spell true ks (spelled true l ∷ e)) m.1 ∙ ap (λ l. spelled true (a_name front) ∷ spelled true l ∷ e) (same_lexeme_is l (a_mark mark.AtSign) h)
    ∙ ap (λ e. spelled true (a_name front) ∷ spelled true (a_mark mark.AtSign) ∷ e) (p ∙ ap (λ ls. spell true ls f) i.1))))
    (last nothing loses)
at_runs {f = f} (told true (simple small) ∷ told true (says t js) ∷ written true l ∷ written true x ∷ stack) (last (last (last (last r writes) (writes {e = e})) (tells {text = front} {f = d} ks m q)) (tells {text = back} ls i p)) =
    if_runs ((same_lexeme l (a_mark mark.AtSign) && same_lexeme x (a_word word.Return)) && (bytes_eq t (codes "return") && is_empty js))
    (λ h.
    let marks = both (both h).0 in
    let told_so = both (both h).1 in
    let same : front ≡ codes "return" = m.0 ∙ (bytes_eq-Decides t (codes "return")).0 told_so.0 in
    last r (leaves_from
    (ap (λ e. spelled true (a_word word.Return) ∷ spelled true (a_mark mark.AtSign) ∷ e) (sym (q ∙ ap (λ ks. spell true ks d) (m.1 ∙ no_lexemes js told_so.1) ∙ p ∙ ap (λ ls. spell true ls f) i.1))
    ∙ ap (λ l. spelled true (a_word word.Return) ∷ spelled true l ∷ e) (sym (same_lexeme_is l (a_mark mark.AtSign) marks.0)) ∙ ap (λ x. spelled true x ∷ spelled true l ∷ e) (sym (same_lexeme_is x (a_word word.Return) marks.1)))
    (tells (a_word word.Return ∷ a_mark mark.AtSign ∷ a_name (map to_ascii_uppercase back) ∷ [])
    (subst (λ t. IsWord true named (t ++ byte.at_sign ∷ back) (a_word word.Return ∷ a_mark mark.AtSign ∷ a_name (map to_ascii_uppercase back) ∷ [])) (sym same) (return_at_small back i.0)) refl)))
    (last nothing loses)
at_runs _ r = last nothing loses

words_told : {text : List ℕ} {ls : List Lexeme} (t : Text) (ws : List Word) → words_in t ≡ Some ws → IsText true t text ls → AreDotted ws text ls
words_told {text = text} {ls = ls} (simple w) ws h m = subst (λ ws. AreDotted ws text ls) (some_inside h) (one m)
words_told {text = text} {ls = ls} (dotted vs) ws h m = subst (λ ws. AreDotted ws text ls) (some_inside h) m
words_told {text = text} {ls = ls} (says t ks) ws h m =
    let g = if_so_some (bytes_eq t (codes "entry") && pointwise same_lexeme ks (a_word word.Entry ∷ [])) (Some (entry ∷ [])) ws h in
    subst (λ ws. AreDotted ws text ls) (some_inside g.1) (one (m.0 ∙ (bytes_eq-Decides t (codes "entry")).0 (both g.0).0, m.1 ∙ one_list ks (a_word word.Entry ∷ []) (both g.0).1))
words_told _ ws h m = absurd cc

-- dotted parts before others
dotted_on : {ws vs : List Word} {a b : List ℕ} {ks ls : List Lexeme} → AreDotted ws a ks → AreDotted vs b ls → AreDotted (ws ++ vs) (a ++ byte.dot ∷ b) (ks ++ a_mark mark.Dot ∷ ls)
dotted_on {a = a} {b = b} {ks = ks} {ls = ls} (one m) d = more a b ks ls m d
dotted_on {ws = w ∷ ws} {vs = vs} {b = b} {ls = ls} (more text others js ms m c) d =
    subst (λ t. AreDotted (w ∷ ws ++ vs) t ((js ++ a_mark mark.Dot ∷ ms) ++ a_mark mark.Dot ∷ ls)) (sym (append_assoc text (byte.dot ∷ others) (byte.dot ∷ b)))
    (subst (λ ks. AreDotted (w ∷ ws ++ vs) (text ++ byte.dot ∷ (others ++ byte.dot ∷ b)) ks) (sym (append_assoc js (a_mark mark.Dot ∷ ms) (a_mark mark.Dot ∷ ls)))
    (more text (others ++ byte.dot ∷ b) js (ms ++ a_mark mark.Dot ∷ ls) m (dotted_on c d)))

dotted_runs : {v w : List Held} {e f : List Event} (stack : Stack) → Runs stack v e w f → Runs (step_dotted stack) v e (pasted byte.dot w) f
dotted_runs {v = v} {e = e} {f = f} (told true t ∷ written true l ∷ told true u ∷ stack) (last (last (last {w = x} {f = d} r (tells {text = front} ks m q)) (writes {e = g})) (tells {text = back} ls i p)) =
    if_runs (same_lexeme l (a_mark mark.Dot))
    (λ h. by (words_in u) (words_in t) refl refl (q ∙ ap (λ l. spell true ks (spelled true l ∷ g)) (same_lexeme_is l (a_mark mark.Dot) h) ∙ ap (λ g. spell true ks (spelled true (a_mark mark.Dot) ∷ g)) p ∙ sym (spelled_on true ks (a_mark mark.Dot ∷ ls) f)))
    (last nothing loses)
  where
    by : (a b : Option (List Word)) → words_in u ≡ a → words_in t ≡ b → d ≡ spell true (ks ++ a_mark mark.Dot ∷ ls) f → Runs (dotted_of a b stack) v e (held.Text (front ++ byte.dot ∷ back) ∷ x) f
    by (Some ws) (Some vs) y z s = last r (tells (ks ++ a_mark mark.Dot ∷ ls) (dotted_on (words_told u ws y m) (words_told t vs z i)) s)
    by (Some ws) None y z s = last nothing loses
    by None _ y z s = last nothing loses
dotted_runs _ r = last nothing loses

other_pasted : {v w : List Held} {e f : List Event} (between : ℕ) (stack : Stack) → Runs stack v e w f
    → Runs (if between == byte.at_sign then step_at stack else (if between == byte.dot then step_dotted stack else lost ∷ [])) v e (pasted between w) f
other_pasted {v = v} {w = w} {e = e} {f = f} between stack r = by (between == byte.at_sign) refl
  where
    by_dot : (b : Bool) → (between == byte.dot) ≡ b → Runs (if b then step_dotted stack else lost ∷ []) v e (pasted between w) f
    by_dot true q = subst (λ c. Runs (step_dotted stack) v e (pasted c w) f) (sym (eqb-true between byte.dot q)) (dotted_runs stack r)
    by_dot false q = last nothing loses

    by : (b : Bool) → (between == byte.at_sign) ≡ b → Runs (if b then step_at stack else (if between == byte.dot then step_dotted stack else lost ∷ [])) v e (pasted between w) f
    by true q = subst (λ c. Runs (step_at stack) v e (pasted c w) f) (sym (eqb-true between byte.at_sign q)) (at_runs stack r)
    by false q = by_dot (between == byte.dot) refl

pasted_runs : {v w : List Held} {e f : List Event} (between : ℕ) (stack : Stack) → Runs stack v e w f → Runs (step_pasted between stack) v e (pasted between w) f
pasted_runs {f = f} between (told n (says t ls) ∷ told o (says u ms) ∷ stack) (last (last {f = d} r (tells {f = g} ks m q)) (tells {text = back} js i p)) =
    if_runs (is_side n o)
    (λ h. last r (tells (ks ++ js) (ap (λ x. x ++ between ∷ back) m.0 ∙ ap (λ x. u ++ between ∷ x) i.0, ap (λ x. x ++ js) m.1 ∙ ap (λ x. ms ++ x) i.1)
    (q ∙ ap (λ o. spell o ks g) (sym (one_side n o h)) ∙ ap (spell n ks) p ∙ sym (spelled_on n ks js f))))
    (last nothing loses)
pasted_runs between _ r = other_pasted between _ r

-- a symbol that acts
pub act_runs : {stack : Stack} {v w : List Held} {e f : List Event} (note : Bool) (s : Symbol) → event_view note s ≡ done → Runs stack v e w f → RunsOne (step note s stack) v e (does s (of_values w)).values f
act_runs {stack = stack} note (symbol.Build k count) t r = (_, first, step_built_runs note k count stack r)
act_runs {stack = stack} note symbol.Join t r = (_, first, joined_runs stack r)
act_runs note (symbol.Say w) t r = (_, first, last r (tells [] (refl, refl) refl))
act_runs {stack = stack} note (symbol.Paste between) t r = (_, first, pasted_runs between stack r)
act_runs {stack = stack} note symbol.Lower t r = (_, first, lowered_runs stack r)
act_runs note (symbol.Recall depth) t r = (_, first, last r recalls)
act_runs {stack = stack} note symbol.Noted t r = (_, first, noted_runs stack r)
act_runs note _ t r = absurd cc
