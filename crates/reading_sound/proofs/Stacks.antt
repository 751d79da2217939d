-- A stack that says as much as another says what that one says.
use Rattle.std.proofs.Common.{◌≡◌, ℕ, List, [], ◌∷◌, ◌++◌, refl, sym, ◌∙◌, ap, subst, Bool, true, false, not, ◌&&◌, Option, Some, eqb-true}
use Rattle.std.specs.Prelude.{if◌then◌else◌, filter, cond}
use Rattle.std.proofs.lemmas.Bool.{not-true, cond-true, cond-false}
use Rattle.std.proofs.lemmas.Slice.Eq.{bytes_eq-Decides}
use denote.Enum.Bare.{same_true}
use Rattle.ada_tree.specs.contracts.kind.Kind as kind_row
use Rattle.ada_tree.specs.declared.grammar.Choice.{Choice}
use Rattle.ada_tree.specs.declared.grammar.Choice.TheVariants as choice
use Rattle.ada_tree.specs.declared.node.Node.{Node}
use Rattle.ada_tree.specs.declared.word.Mark.TheVariants as mark
use Rattle.ada_tree.specs.Choices.{comments_of, opens}
use Rattle.ada_tree.specs.Spelling.{SpellsNode, in_parentheses, end_with_comments, end_without, ends_with_comments}
use Rattle.ada_tree.specs.Tokens.{Lexeme, a_mark, Event, spelled, comments}
use Rattle.reading_table.specs.contracts.symbol.Form as form_row
use Rattle.reading_table.specs.declared.held.Held.{Held}
use Rattle.reading_table.specs.States.{end_noted, with_notes}
use Rattle.reading_table.specs.Reading.{is_side}
use Rattle.reading_table.specs.Tables.{Has, first, later}
use Rattle.text_laws.proofs.round_trip.Places.{both}
use Rattle.ada_tree.proofs.evaluator.Ways.{same_lexeme, same_lexeme_is}
use Rattle.reading_sound.proofs.Equal.{if_so_some, one_side, one_place, one_mark, one_list, among, covered}
use Rattle.reading_sound.proofs.Lists.{add_member, add_listed, member_on}
use Rattle.reading_sound.proofs.Meaning.{no_others, others, IsText, IsWord, end_joined, IsMember, alone, commented, Leaves, writes, tells, stands, joins, goes_on, goes_on_listed, ends, Runs, nothing, last}
use Rattle.reading_sound.proofs.Traces.{Word, big, named, small, number, Text, simple, says, by_rule, Trace, written, told, stood, joined, begun, absent, rest, tail, closing, ended, Stack, stands_in, covers, gives_word, gives_text, gives_trace, strip, is_bare, is_member, settle, is_optional, gives, places}
use Rattle.reading_sound.proofs.Words.{big_is_named}

-- ---- stacks on each other

pub on_top : {a b : Stack} {v w x : List Held} {e f g : List Event} → Runs b v e w f → Runs a w f x g → Runs (a ++ b) v e x g
on_top r nothing = r
on_top r (last s l) = last (on_top r s) l

-- ---- one trace and another

word_given : (note : Bool) (a b : Word) (text : List ℕ) (ls : List Lexeme) → gives_word a b ≡ true → IsWord note a text ls → IsWord note b text ls
word_given note big big text ls h m = m
word_given note big named text ls h m = big_is_named note text ls m
word_given note named named text ls h m = m
word_given note small small text ls h m = m
word_given note number number text ls h m = m
word_given note _ _ text ls h m = absurd cc

text_given : (note : Bool) (t u : Text) (text : List ℕ) (ls : List Lexeme) → gives_text t u ≡ true → IsText note t text ls → IsText note u text ls
text_given note (simple a) (simple b) text ls h m = word_given note a b text ls h m
text_given note (says t ks) (says u ms) text ls h m = (m.0 ∙ (bytes_eq-Decides t u).0 (both h).0, m.1 ∙ one_list ks ms (both h).1)
text_given note (by_rule f) (by_rule g) text ls h m = subst (λ g. IsText note (by_rule g) text ls) (same_true form_row.the_type tt f g h) m
text_given note _ _ text ls h m = absurd cc

member_given : {n c : Bool} {ps qs : List Choice} {node : Node} {e f : List Event} → covers ps qs ≡ true → IsMember n c ps node e f → IsMember n c qs node e f
member_given {ps = ps} {qs = qs} h (alone s at) = alone s (λ p m notes. at p (covered ps qs p h m) notes)
member_given {ps = ps} {qs = qs} h (commented c at) = commented c (λ p m notes. at p (covered ps qs p h m) notes)

pub trace_given : (t u : Trace) {v w : List Held} {e f : List Event} → gives_trace t u ≡ true → Leaves t v e w f → Leaves u v e w f
trace_given (written n l) (written o m) {v = v} {w = w} {e = e} {f = f} h d =
    subst (λ n. Leaves (written n m) v e w f) (one_side n o (both h).0) (subst (λ m. Leaves (written n m) v e w f) (same_lexeme_is l m (both h).1) d)
trace_given (told n t) (told o u) {v = v} {w = w} {e = e} {f = f} h (tells {text = text} ls m q) =
    subst (λ n. Leaves (told n u) v e w f) (one_side n o (both h).0) (tells ls (text_given n t u text ls (both h).1 m) q)
trace_given (stood n c ps) (stood o d qs) {v = v} {w = w} {e = e} {f = f} h (stands m) =
    let sides = both (both h).0 in
    subst (λ n. Leaves (stood n d qs) v e w f) (one_side n o sides.0) (subst (λ c. Leaves (stood n c qs) v e w f) (one_side c d sides.1) (stands (member_given (both h).1 m)))
trace_given (joined n c ps) (joined o d qs) {v = v} {w = w} {e = e} {f = f} h (joins m) =
    let sides = both (both h).0 in
    subst (λ n. Leaves (joined n d qs) v e w f) (one_side n o sides.0) (subst (λ c. Leaves (joined n c qs) v e w f) (one_side c d sides.1) (joins (member_given (both h).1 m)))
trace_given (begun k) (begun l) {v = v} {w = w} {e = e} {f = f} h d = subst (λ k. Leaves (begun k) v e w f) (same_true kind_row.the_type tt k l h) d
trace_given absent absent h d = d
trace_given (rest n p) (rest o q) {v = v} {w = w} {e = e} {f = f} h d =
    subst (λ n. Leaves (rest n q) v e w f) (one_side n o (both h).0) (subst (λ p. Leaves (rest n p) v e w f) (one_place p q (both h).1) d)
trace_given ended (rest o q) h (ends {notes = notes} {v = v} {e = e} c) =
    let ending : end_joined q notes v ≡ end_noted notes v = cond-true (ends_with_comments (comments_of q)) _ _ h in
    subst (λ w. Leaves (rest o q) v (comments notes ∷ e) w e) ending (goes_on {nodes = []} (end_with_comments h c))
trace_given (tail n p m) (tail o q l) {v = v} {w = w} {e = e} {f = f} h d =
    let parts = both (both h).0 in
    subst (λ n. Leaves (tail n q l) v e w f) (one_side n o parts.0) (subst (λ p. Leaves (tail n p l) v e w f) (one_place p q parts.1) (subst (λ m. Leaves (tail n p m) v e w f) (one_mark m l (both h).1) d))
trace_given (closing n d) (closing o c) {v = v} {w = w} {e = e} {f = f} h l =
    subst (λ n. Leaves (closing n c) v e w f) (one_side n o (both h).0) (subst (λ d. Leaves (closing n d) v e w f) (eqb-true d c (both h).1) l)
trace_given _ _ h d = absurd cc

-- ---- what stands on top of a stack

pub record Below (wanted below : Stack) (v : List Held) (e : List Event) (w : List Held) (f : List Event) : Type 0 where
  pub values : List Held
  pub events : List Event
  pub under : Runs below v e values events
  pub over : Runs wanted values events w f

pub stripped : (wanted stack below : Stack) {v w : List Held} {e f : List Event} → strip wanted stack ≡ Some below → Runs stack v e w f → Below wanted below v e w f
stripped [] stack below {v = v} {w = w} {e = e} {f = f} h r = record { values = w; events = f; under = (let z : stack ≡ below = cc in subst (λ s. Runs s v e w f) z r); over = nothing }
stripped (x ∷ wanted) [] below h r = absurd cc
stripped (x ∷ wanted) (y ∷ stack) below h (last r l) =
    let p = if_so_some (gives_trace y x) (strip wanted stack) below h in
    let s = stripped wanted stack below p.1 r in
    record { values = s.values; events = s.events; under = s.under; over = last s.over (trace_given y x p.0 l) }

-- ---- the same said shorter

pub if_runs : {a b : Stack} {v w : List Held} {e f : List Event} (t : Bool) → (t ≡ true → Runs a v e w f) → Runs b v e w f → Runs (if t then a else b) v e w f
if_runs true h r = h refl
if_runs false h r = r

kept_first : {A : Type 0} (test : A → Bool) (xs : List A) (b : Bool) (y x : A) → test y ≡ b → Has (cond b (y ∷ filter test xs) (filter test xs)) x → (Has (filter test xs) x → test x ≡ true) → test x ≡ true
kept_first test xs true y x e first more = e
kept_first test xs true y x e (later m) more = more m
kept_first test xs false y x e m more = more m

pub kept_passes : {A : Type 0} (test : A → Bool) (xs : List A) (x : A) → Has (filter test xs) x → test x ≡ true
kept_passes test [] x h = elim h [ ]
kept_passes test (y ∷ xs) x h = kept_first test xs (test y) y x refl h (kept_passes test xs x)

pub leaves_from : {t : Trace} {v w : List Held} {d e f : List Event} → d ≡ e → Leaves t v d w f → Leaves t v e w f
leaves_from {t = t} {v = v} {w = w} {f = f} q l = subst (λ e. Leaves t v e w f) q l

-- an expression in parentheses
enclosed : {o n c : Bool} {l : Lexeme} {ps : List Choice} {node : Node} {e f : List Event} → not c ≡ true → stands_in ps choice.Expr ≡ true → o ≡ n → l ≡ a_mark mark.Close
    → IsMember o c ps node e (spelled n l ∷ f) → IsMember o false (filter opens places) node (spelled o (a_mark mark.Open) ∷ e) f
enclosed {o = o} {n = n} {l = l} {ps = ps} {node = node} {e = e} {f = f} z x q r (alone s at) =
    alone s (λ p m notes. in_parentheses (kept_passes opens places p m)
    (subst (λ n. SpellsNode o choice.Expr (with_notes notes node) e (spelled n (a_mark mark.Close) ∷ f)) (sym q)
    (subst (λ l. SpellsNode o choice.Expr (with_notes notes node) e (spelled n l ∷ f)) r (at choice.Expr (among ps choice.Expr x) notes))))
enclosed z x q r (commented s at) = absurd cc

settled : (other stack : Stack) {v w : List Held} {e f : List Event} → Runs other v e w f → Runs stack v e w f → Runs (settle other stack) v e w f
settled other (rest n p ∷ joined o c ps ∷ []) r (last (last nothing (joins {node = node} m)) (goes_on {nodes = nodes} ds)) =
    if_runs (is_side n o && is_member p false c ps) (λ h. last nothing (goes_on {nodes = node ∷ nodes} (add_member (both h).1 (member_on (sym (one_side n o (both h).0)) m) ds))) r
settled other (tail n p m ∷ joined o c ps ∷ written q l ∷ []) r (last (last (last nothing (writes {e = e})) (joins {node = node} i)) (goes_on_listed {nodes = nodes} more)) =
    if_runs (((is_side n o && is_side n q) && (not c && stands_in ps p)) && same_lexeme l (a_mark m))
    (λ h.
    let parts = both (both h).0 in
    let listed = add_listed parts.1 (member_on (sym (one_side n o (both parts.0).0)) i) more in
    last nothing (leaves_from (ap (λ q. spelled q l ∷ e) (one_side n q (both parts.0).1)) (leaves_from (ap (λ l. spelled n l ∷ e) (sym (same_lexeme_is l (a_mark m) (both h).1))) (goes_on_listed {nodes = node ∷ nodes} (others listed))))) r
settled other (written n l ∷ stood o c ps ∷ written q m ∷ []) r (last (last (last nothing (writes {e = e})) (stands {node = node} i)) (writes {e = g})) =
    if_runs (((is_side o n && is_side o q) && (not c && stands_in ps choice.Expr)) && (same_lexeme m (a_mark mark.Open) && same_lexeme l (a_mark mark.Close)))
    (λ h.
    let sides = both (both (both h).0).0 in
    let marks = both (both h).1 in
    let inside = both (both (both h).0).1 in
    last nothing (leaves_from (ap (λ q. spelled q m ∷ e) (one_side o q sides.1)) (leaves_from (ap (λ m. spelled o m ∷ e) (sym (same_lexeme_is m (a_mark mark.Open) marks.0)))
    (stands (enclosed inside.0 inside.1 (one_side o n sides.0) (same_lexeme_is l (a_mark mark.Close) marks.1) i))))) r
settled other _ r s = r

optional : (wanted : Stack) (v : List Held) (e : List Event) → is_optional wanted ≡ true → Runs wanted v e v e
optional [] v e h = nothing
optional (rest n p ∷ []) v e h =
    let ends : ends_with_comments (comments_of p) ≡ false = not-true _ h in
    last nothing (subst (λ w. Leaves (rest n p) v e w e) (cond-false (ends_with_comments (comments_of p)) _ _ ends) (goes_on {nodes = []} {notes = []} (end_without ends)))
optional (tail n p m ∷ []) v e h = last nothing (goes_on_listed {nodes = []} no_others)
optional _ v e h = absurd cc

bare : (o : Option Stack) → is_bare o ≡ true → o ≡ Some []
bare (Some []) h = refl
bare _ h = absurd cc

pub given : (stack wanted : Stack) {v w : List Held} {e f : List Event} → gives stack wanted ≡ true → Runs stack v e w f → Runs wanted v e w f
given [] wanted {v = v} {e = e} h nothing = optional wanted v e h
given (x ∷ stack) wanted h r = whole (stripped wanted (settle (x ∷ stack) (x ∷ stack)) [] (bare _ h) (settled (x ∷ stack) (x ∷ stack) r r))
  where
    whole : {v w : List Held} {e f : List Event} → Below wanted [] v e w f → Runs wanted v e w f
    whole b = by b.under b.over
      where
        by : {v u w : List Held} {e g f : List Event} → Runs [] v e u g → Runs wanted u g w f → Runs wanted v e w f
        by nothing r = r
