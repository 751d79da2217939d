-- The classes of nodes with operators, of selections, of proof steps, and of nodes with modes.
use Rattle.std.proofs.Common.{◌≡◌, ℕ, List, [], ◌∷◌, refl, sym, ◌∙◌, ap, subst, Bool, true, false, not, ◌&&◌, ◌||◌, Option, Some, None, codes}
use Rattle.std.specs.Prelude.{bytes_eq, if◌then◌else◌}
use Rattle.std.specs.Option.{option_map_or}
use Rattle.std.specs.Cmp.Lexicographic.{bytes_decides}
use Rattle.std.proofs.lemmas.Bool.{and_parts}
use denote.Enum.Bare.{same_true}
use Rattle.ada_tree.specs.contracts.kind.Kind as kind_row
use Rattle.ada_tree.specs.declared.kind.Kind.{Kind}
use Rattle.ada_tree.specs.declared.kind.Kind.TheVariants as kind
use Rattle.ada_tree.specs.declared.grammar.Choice.{Choice}
use Rattle.ada_tree.specs.declared.grammar.Choice.TheVariants as choice
use Rattle.ada_tree.specs.declared.lines.expressions.TheConstants.{SELECT, SELECT_OF_MARK, SELECT_OF_LEMMA}
use Rattle.ada_tree.specs.declared.operator.Level.{Level}
use Rattle.ada_tree.specs.declared.grammar.Piece.{Piece}
use Rattle.ada_tree.specs.declared.operator.OperatorEntry.{OperatorEntry}
use Rattle.ada_tree.specs.declared.operator.TheConstants.{OPERATORS}
use Rattle.ada_tree.specs.declared.rule.ProofRule.{ProofRule}
use Rattle.ada_tree.specs.declared.rule.ProofRule.TheVariants as rule
use Rattle.ada_tree.specs.Choices.{kinds, floor, has_side, on_side, level_of, is_tight, goes_on, binds, is_coefficient, is_only, stands, expression_kinds}
use Rattle.ada_tree.specs.Kinds.{is_kind, is_among}
use Rattle.ada_tree.specs.Lines.{line_of_kind, line, line_by_operator, unary_line}
use Rattle.ada_tree.specs.Operators.{OperatorRow, operator_line, entry_of}
use Rattle.ada_tree.specs.Rules.{rule_of, rule_arguments, arguments_of}
use Rattle.ada_tree.specs.Tables.{first_value}
use Rattle.ada_tree.specs.Texts.{is_mode, is_global_mode}
use Rattle.reading_table.specs.declared.symbol.Form.{Form}
use Rattle.reading_table.specs.declared.symbol.Form.TheVariants as form
use Rattle.reading_table.specs.Tables.{Has, first, later}
use Rattle.reading_table.specs.TokenSets.{arguments_in}
use Rattle.reading_complete.proofs.Classes.{plain, admits, Sort, of_names, of_others, of_mark, of_lemma, of_coefficient, by_form, Class, classes, told_class, operator_class, select_class, step_class, range_class, coefficient_class, other_classes, forms, is_of_mark, is_of_lemma, is_of_coefficient}
use Rattle.reading_complete.proofs.Kids.{first_fits}
use Rattle.reading_complete.proofs.Places.{HasClass, has_mapped, has_operator_class, has_step, has_other, plainly, stands_freely, plain_has, when_false, both_false, head_fits}
use Rattle.reading_complete.proofs.Routes.{is_bracket}
use Rattle.reading_complete.proofs.Walks.{is_name}

-- ---- operators

and_false : (a b c : Bool) → b ≡ false → (a && b && c) ≡ false
and_false true b c e = ap (λ b. b && c) e
and_false false b c e = refl

-- a node that has no operator of the side stands nowhere
module _ (note : Bool) (k : Kind) (text : List ℕ) (none : on_side note k text ≡ false) where
  none_only : (place : Choice) → is_only note place k text ≡ false
  none_only (choice.Only wanted) = by (is_kind wanted k)
    where
      by : (b : Bool) → (b && on_side note k text) ≡ false
      by true = none
      by false = refl
  none_only _ = refl

  none_binds : (place : Choice) (l : Option Level) → binds note place l k text ≡ false
  none_binds place None = refl
  none_binds place (Some l) = and_false (is_among k (expression_kinds note)) (on_side note k text) (is_tight l (level_of k text) || goes_on place k text) none

  none_stands : (place : Choice) → is_among k (kinds place) ≡ false → is_coefficient place k text ≡ false → stands note place k text ≡ false
  none_stands place a c =
      ap (λ b. b || is_among k (kinds place) || is_coefficient place k text || binds note place (floor place) k text) (none_only place)
      ∙ ap (λ b. b || is_coefficient place k text || binds note place (floor place) k text) a
      ∙ ap (λ b. b || binds note place (floor place) k text) c
      ∙ none_binds place (floor place)

-- the row of an entry that was found
record FromRow (k : Kind) (text : List ℕ) (e : OperatorEntry) : Type 0 where
  row : OperatorRow
  there : Has OPERATORS row
  of_kind : row.0.kind ≡ k
  of_text : row.1.now ≡ text
  is : row.0 ≡ e

row_found : (k : Kind) (text : List ℕ) (rows : List OperatorRow) (e : OperatorEntry)
    → first_value (λ (row : OperatorRow). row.0) (λ (row : OperatorRow). is_kind row.0.kind k && bytes_eq row.1.now text) rows ≡ Some e
    → (row : OperatorRow) × Has rows row × ((is_kind row.0.kind k && bytes_eq row.1.now text) ≡ true) × (row.0 ≡ e)
row_found k text [] e h = absurd cc
row_found k text (row ∷ rows) e h = by (is_kind row.0.kind k && bytes_eq row.1.now text) refl h (row_found k text rows e)
  where
    by : (b : Bool) → (is_kind row.0.kind k && bytes_eq row.1.now text) ≡ b
        → (if b then Some row.0 else first_value (λ (row : OperatorRow). row.0) (λ (row : OperatorRow). is_kind row.0.kind k && bytes_eq row.1.now text) rows) ≡ Some e
        → (first_value (λ (row : OperatorRow). row.0) (λ (row : OperatorRow). is_kind row.0.kind k && bytes_eq row.1.now text) rows ≡ Some e
        → (row : OperatorRow) × Has rows row × ((is_kind row.0.kind k && bytes_eq row.1.now text) ≡ true) × (row.0 ≡ e))
        → (r : OperatorRow) × Has (row ∷ rows) r × ((is_kind r.0.kind k && bytes_eq r.1.now text) ≡ true) × (r.0 ≡ e)
    by true t h go = (row, first, t, cc)
    by false t h go = let r = go h in (r.0, later r.1, r.2, r.3)

from_row : (k : Kind) (text : List ℕ) (e : OperatorEntry) → entry_of k text ≡ Some e → FromRow k text e
from_row k text e h =
    let r = row_found k text OPERATORS e h in
    let parts = and_parts (is_kind r.0.0.kind k) (bytes_eq r.0.1.now text) r.2 in
    record { row = r.0; there = r.1; of_kind = same_true kind_row.the_type tt r.0.0.kind k parts.0; of_text = (bytes_decides r.0.1.now text).0 parts.1; is = r.3 }

by_entry : (note : Bool) (place : Choice) (k : Kind) (text : List ℕ) (head : Option Class) → line place k text ≡ line_by_operator k text → (is_of_coefficient place && is_kind k kind.Unary) ≡ false
    → (on_side note k text ≡ option_map_or (λ entry. has_side note entry.side) (entry_of k text) false) → is_among k (kinds place) ≡ false → is_coefficient place k text ≡ false
    → stands note place k text ≡ true → HasClass note place k text head
by_entry note place k text head l u side a c h = by (entry_of k text) refl
  where
    by : (o : Option OperatorEntry) → entry_of k text ≡ o → HasClass note place k text head
    by None e =
        let wrong : true ≡ false = sym h ∙ none_stands note k text (side ∙ ap (λ (o : Option OperatorEntry). option_map_or (λ entry. has_side note entry.side) o false) e) place a c in
        absurd cc
    by (Some e) f =
        let r = from_row k text e f in
        record {
          class = operator_class r.row;
          there = has_operator_class (operator_class r.row) (has_mapped operator_class OPERATORS r.row r.there);
          stands = plainly note place r.row.0.kind r.row.1.now (subst (λ k. (is_of_coefficient place && is_kind k kind.Unary) ≡ false) (sym r.of_kind) u)
              (subst (λ k. stands note place k r.row.1.now ≡ true) (sym r.of_kind) (subst (λ t. stands note place k t ≡ true) (sym r.of_text) h));
          line_so = ap (λ (e : OperatorEntry). operator_line e.operator) r.is ∙ sym (l ∙ ap (λ (o : Option OperatorEntry). option_map_or (λ entry. operator_line entry.operator) o []) f);
          kind_so = r.of_kind;
          told = λ x. sym r.of_text;
          steps = λ f e. absurd cc;
          unranged = λ f e. absurd cc;
          fits = head_fits plain (λ d. refl) head;
          unbracketed = refl;
        }

not_there : (place : Choice) → (is_among kind.Binary (kinds place) ≡ false) × (is_among kind.Unary (kinds place) ≡ false) × (is_among kind.Member (kinds place) ≡ false) × (is_among kind.Make (kinds place) ≡ false)
not_there choice.Item = (refl, refl, refl, refl)
not_there _ = (refl, refl, refl, refl)

no_coefficient : (place : Choice) (text : List ℕ) → (is_coefficient place kind.Binary text ≡ false) × (is_coefficient place kind.Member text ≡ false) × (is_coefficient place kind.Make text ≡ false)
no_coefficient choice.Coefficient text = (refl, refl, refl)
no_coefficient _ text = (refl, refl, refl)

never : (b : Bool) → (b && false) ≡ false
never true = refl
never false = refl

-- a sign stands at another place than that of a coefficient
elsewhere : (place : Choice) (text : List ℕ) → is_of_coefficient place ≡ false → (unary_line place text ≡ line_by_operator kind.Unary text) × (is_coefficient place kind.Unary text ≡ false)
elsewhere choice.Coefficient text e = absurd cc
elsewhere _ text e = (refl, refl)

only_minus : (note : Bool) (place : Choice) (text : List ℕ) (head : Option Class) → is_of_coefficient place ≡ true → stands note place kind.Unary text ≡ true → HasClass note place kind.Unary text head
only_minus note choice.Coefficient text head e h = record {
  class = coefficient_class;
  there = has_other coefficient_class (later (later (later (later (later (later (later (later (later first)))))))));
  stands = refl;
  line_so = refl;
  kind_so = refl;
  told = λ x. (bytes_decides text (codes "-")).0 (minus (bytes_eq text (codes "-")) h);
  steps = λ f e. absurd cc;
  unranged = λ f e. absurd cc;
  fits = head_fits of_coefficient (λ d. refl) head;
  unbracketed = refl;
}
  where
    minus : (b : Bool) → (false || b || false) ≡ true → b ≡ true
    minus true h = refl
    minus false h = absurd cc
only_minus note _ text head e h = absurd cc

unary_has : (note : Bool) (place : Choice) (text : List ℕ) (head : Option Class) → stands note place kind.Unary text ≡ true → HasClass note place kind.Unary text head
unary_has note place text head h = by (is_of_coefficient place) refl
  where
    by : (b : Bool) → is_of_coefficient place ≡ b → HasClass note place kind.Unary text head
    by true e = only_minus note place text head e h
    by false e = by_entry note place kind.Unary text head (elsewhere place text e).0 (ap (λ b. b && true) e) refl (not_there place).1 (elsewhere place text e).1 h

-- ---- selections

-- a selection of a sort
as_select : (note : Bool) (place : Choice) (text : List ℕ) (head : Option Class) (sort : Sort) (pieces : List Piece) → Has other_classes (select_class sort pieces) → admits note place (select_class sort pieces) ≡ true → line place kind.Select text ≡ pieces
    → ((f : Form) → sort ≡ by_form f → ⊥) → is_bracket sort ≡ false → first_fits sort head ≡ true → HasClass note place kind.Select text head
as_select note place text head sort pieces m a l f b h = record {
  class = select_class sort pieces;
  there = has_other (select_class sort pieces) m;
  stands = a;
  line_so = sym l;
  kind_so = refl;
  told = λ e. absurd cc;
  steps = λ g e. absurd (f g e);
  unranged = λ g e. absurd (f g e);
  fits = h;
  unbracketed = b;
}

by_names : (note : Bool) (place : Choice) (text : List ℕ) (head : Option Class) → is_of_lemma place ≡ false → is_of_mark place ≡ false → line place kind.Select text ≡ SELECT.now → stands note place kind.Select [] ≡ true → HasClass note place kind.Select text head
by_names note place text head l m s h = by head
  where
    at_names : (d : Class) → is_name d ≡ true → HasClass note place kind.Select text (Some d)
    at_names d n = as_select note place text (Some d) of_names SELECT.now (later (later (later (later (later first))))) (when_false (is_of_lemma place) _ l h) s (λ f e. absurd cc) refl n

    at_others : (head : Option Class) → first_fits of_others head ≡ true → HasClass note place kind.Select text head
    at_others head n = as_select note place text head of_others SELECT.now (later (later (later (later (later (later (later first)))))))
        (when_false (is_of_lemma place) _ l (when_false (is_of_mark place) _ m h)) s (λ f e. absurd cc) refl n

    by : (head : Option Class) → HasClass note place kind.Select text head
    by None = at_others None refl
    by (Some d) = at (is_name d) refl
      where
        at : (b : Bool) → is_name d ≡ b → HasClass note place kind.Select text (Some d)
        at true e = at_names d e
        at false e = at_others (Some d) (ap not e)

mark_has : (note : Bool) (place : Choice) (text : List ℕ) (head : Option Class) → is_of_lemma place ≡ false → line place kind.Select text ≡ SELECT_OF_MARK.now → stands note place kind.Select [] ≡ true → HasClass note place kind.Select text head
mark_has note place text head l s h =
    as_select note place text head of_mark SELECT_OF_MARK.now (later (later (later (later (later (later first)))))) (when_false (is_of_lemma place) _ l h) s (λ f e. absurd cc) refl (head_fits of_mark (λ d. refl) head)

select_at : (note : Bool) (place : Choice) (text : List ℕ) (head : Option Class) → stands note place kind.Select [] ≡ true → HasClass note place kind.Select text head
select_at note choice.LemmaName text head h =
    as_select note choice.LemmaName text head of_lemma SELECT_OF_LEMMA.now (later (later (later (later (later (later (later (later first)))))))) refl refl (λ f e. absurd cc) refl (head_fits of_lemma (λ d. refl) head)
select_at note choice.Mark text head h = mark_has note choice.Mark text head refl refl h
select_at note choice.Dis text head h = mark_has note choice.Dis text head refl refl h
select_at note place text head h = by_names note place text head refl refl refl h

select_has : (note : Bool) (place : Choice) (text : List ℕ) (head : Option Class) → stands note place kind.Select text ≡ true → HasClass note place kind.Select text head
select_has note place text head h = select_at note place text head (sym (stands_freely note place kind.Select text refl) ∙ h)

-- ---- proof steps

-- the form of the arguments of a rule
abbrev form_of_rule : ProofRule → Form
form_of_rule rule.Hyp = form.Number
form_of_rule rule.Absurd = form.Number
form_of_rule rule.AndHyp = form.Number
form_of_rule rule.OrGoal = form.Number
form_of_rule rule.OrHyp = form.Number
form_of_rule rule.ImpHyp = form.Number
form_of_rule rule.NotHyp = form.Number
form_of_rule rule.IffHyp = form.Number
form_of_rule rule.Drop = form.Number
form_of_rule rule.AllGoal = form.Name
form_of_rule rule.Descend = form.Name
form_of_rule rule.AllHyp = form.NumberTerm
form_of_rule rule.SomeGoal = form.Term
form_of_rule rule.Range = form.Term
form_of_rule rule.Cut = form.Term
form_of_rule rule.Cases = form.Term
form_of_rule rule.SomeHyp = form.NumberName
form_of_rule rule.Rewrite = form.NumberIn
form_of_rule rule.Unfold = form.NameIn
form_of_rule rule.Induct = form.NameNames
form_of_rule rule.Linear = form.Coefficients
form_of_rule rule.Lemma = form.Lemma
form_of_rule _ = form.Plain

arguments_so : (r : ProofRule) → rule_arguments r ≡ arguments_in (form_of_rule r)
arguments_so rule.Open = refl
arguments_so _ = refl

has_form_in : (f : Form) → Has forms f
has_form_in form.Plain = first
has_form_in form.Number = later first
has_form_in form.Name = later (later first)
has_form_in form.NumberTerm = later (later (later first))
has_form_in form.Term = later (later (later (later first)))
has_form_in form.NumberName = later (later (later (later (later first))))
has_form_in form.NumberIn = later (later (later (later (later (later first)))))
has_form_in form.NameIn = later (later (later (later (later (later (later first))))))
has_form_in form.NameNames = later (later (later (later (later (later (later (later first)))))))
has_form_in form.Coefficients = later (later (later (later (later (later (later (later (later first))))))))
has_form_in form.Lemma = later (later (later (later (later (later (later (later (later (later first)))))))))

form_of_text : (text : List ℕ) → (f : Form) × (arguments_of text ≡ arguments_in f)
form_of_text text = by (rule_of text) refl
  where
    by : (o : Option ProofRule) → rule_of text ≡ o → (f : Form) × (option_map_or rule_arguments o [] ≡ arguments_in f)
    by None e = (form.Plain, refl)
    by (Some r) e = (form_of_rule r, arguments_so r)

step_has : (note : Bool) (place : Choice) (text : List ℕ) (head : Option Class) → stands note place kind.Step text ≡ true → HasClass note place kind.Step text head
step_has note place text head h = by (bytes_eq text (codes "range")) refl
  where
    alone : stands note place kind.Step [] ≡ true
    alone = sym (stands_freely note place kind.Step text refl) ∙ h

    by_rule : (f : Form) → arguments_of text ≡ arguments_in f → bytes_eq text (codes "range") ≡ false → HasClass note place kind.Step text head
    by_rule f a e = record {
      class = step_class f;
      there = has_step (step_class f) (has_mapped step_class forms f (has_form_in f));
      stands = alone;
      line_so = refl;
      kind_so = refl;
      told = λ x. absurd cc;
      steps = λ g x. let same : f ≡ g = cc in a ∙ ap arguments_in same;
      unranged = λ g x y. e;
      fits = head_fits (by_form f) (λ d. refl) head;
      unbracketed = refl;
    }

    by : (b : Bool) → bytes_eq text (codes "range") ≡ b → HasClass note place kind.Step text head
    by true e = record {
      class = range_class;
      there = has_other range_class (later (later (later (later (later (later (later (later (later (later first))))))))));
      stands = stands_freely note place kind.Step (codes "range") refl ∙ alone;
      line_so = refl;
      kind_so = refl;
      told = λ x. (bytes_decides text (codes "range")).0 e;
      steps = λ g x. let same : form.Term ≡ g = cc in ap arguments_of ((bytes_decides text (codes "range")).0 e) ∙ ap arguments_in same;
      unranged = λ g x y. absurd cc;
      fits = head_fits (by_form form.Term) (λ d. refl) head;
      unbracketed = refl;
    }
    by false e = let f = form_of_text text in by_rule f.0 f.1 e

-- ---- modes

mode_has : (note : Bool) (place : Choice) (k : Kind) (written text : List ℕ) (head : Option Class) → Has classes (told_class k written) → line_of_kind k ≡ line place k text → is_kind k kind.Unary ≡ false → bytes_eq text written ≡ true
    → stands note place k text ≡ true → HasClass note place k text head
mode_has note place k written text head m l u e h = record {
  class = told_class k written;
  there = m;
  stands = plainly note place k written (both_false (is_of_coefficient place) (is_kind k kind.Unary) u) (ap (stands note place k) (sym ((bytes_decides text written).0 e)) ∙ h);
  line_so = l;
  kind_so = refl;
  told = λ x. (bytes_decides text written).0 e;
  steps = λ f e. absurd cc;
  unranged = λ f e. absurd cc;
  fits = head_fits plain (λ d. refl) head;
  unbracketed = refl;
}

formal_has : (note : Bool) (place : Choice) (text : List ℕ) (head : Option Class) → is_mode text ≡ true → stands note place kind.Formal text ≡ true → HasClass note place kind.Formal text head
formal_has note place text head m h = by (bytes_eq text (codes "in")) refl (bytes_eq text (codes "out")) refl (bytes_eq text (codes "in out")) refl m
  where
    by : (a : Bool) → bytes_eq text (codes "in") ≡ a → (b : Bool) → bytes_eq text (codes "out") ≡ b → (c : Bool) → bytes_eq text (codes "in out") ≡ c → (a || b || c) ≡ true → HasClass note place kind.Formal text head
    by true e b f c g m = mode_has note place kind.Formal (codes "in") text head (has_other (told_class kind.Formal (codes "in")) first) refl refl e h
    by false e true f c g m = mode_has note place kind.Formal (codes "out") text head (has_other (told_class kind.Formal (codes "out")) (later first)) refl refl f h
    by false e false f true g m = mode_has note place kind.Formal (codes "in out") text head (has_other (told_class kind.Formal (codes "in out")) (later (later first))) refl refl g h
    by false e false f false g m = absurd cc

global_has : (note : Bool) (place : Choice) (text : List ℕ) (head : Option Class) → is_global_mode text ≡ true → stands note place kind.Global text ≡ true → HasClass note place kind.Global text head
global_has note place text head m h = by (bytes_eq text (codes "in")) refl (bytes_eq text (codes "in out")) refl m
  where
    by : (a : Bool) → bytes_eq text (codes "in") ≡ a → (c : Bool) → bytes_eq text (codes "in out") ≡ c → (a || c) ≡ true → HasClass note place kind.Global text head
    by true e c g m = mode_has note place kind.Global (codes "in") text head (has_other (told_class kind.Global (codes "in")) (later (later (later first)))) refl refl e h
    by false e true g m = mode_has note place kind.Global (codes "in out") text head (has_other (told_class kind.Global (codes "in out")) (later (later (later (later first))))) refl refl g h
    by false e false g m = absurd cc

-- ---- all kinds

pub class_of : (note : Bool) (place : Choice) (k : Kind) (text : List ℕ) (head : Option Class) → stands note place k text ≡ true → (k ≡ kind.Formal → is_mode text ≡ true) → (k ≡ kind.Global → is_global_mode text ≡ true) → HasClass note place k text head
class_of note place kind.Binary text head h f g = by_entry note place kind.Binary text head refl (never (is_of_coefficient place)) refl (not_there place).0 (no_coefficient place text).0 h
class_of note place kind.Unary text head h f g = unary_has note place text head h
class_of note place kind.Member text head h f g = by_entry note place kind.Member text head refl (never (is_of_coefficient place)) refl (not_there place).2 (no_coefficient place text).1 h
class_of note place kind.Make text head h f g = by_entry note place kind.Make text head refl (never (is_of_coefficient place)) refl (not_there place).3 (no_coefficient place text).2 h
class_of note place kind.Select text head h f g = select_has note place text head h
class_of note place kind.Step text head h f g = step_has note place text head h
class_of note place kind.Formal text head h f g = formal_has note place text head (f refl) h
class_of note place kind.Global text head h f g = global_has note place text head (g refl) h
class_of note place k text head h f g = plain_has note place k text head refl refl h
