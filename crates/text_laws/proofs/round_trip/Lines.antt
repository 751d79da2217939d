-- What the round trip asks of the lines of the grammar, tested on each of them.
use Rattle.std.proofs.Common.{◌≡◌, ℕ, suc, zero, List, [], ◌∷◌, refl, Bool, true, false, not, ◌&&◌, ◌||◌, if◌then◌else◌}
use Rattle.std.proofs.lemmas.Bool.{not-true}
use Rattle.ada_tree.specs.declared.kind.Kind.{Kind}
use Rattle.ada_tree.specs.declared.kind.Kind.TheVariants as kind
use Rattle.ada_tree.specs.declared.grammar.Choice.{Choice}
use Rattle.ada_tree.specs.declared.grammar.Choice.TheVariants as choice
use Rattle.ada_tree.specs.declared.grammar.Own.{Own as OwnText}
use Rattle.ada_tree.specs.declared.grammar.Own.TheVariants as own
use Rattle.ada_tree.specs.declared.grammar.Shape.{Shape}
use Rattle.ada_tree.specs.declared.grammar.Shape.TheVariants.{One, Any, Many, Listed, MaybeListed, ForAll}
use Rattle.ada_tree.specs.declared.grammar.Piece.{Piece}
use Rattle.ada_tree.specs.declared.grammar.Piece.TheVariants.{Word, Mark, Own, Kid, Members, Arguments, Option as Optional, Shown, End, Indent, Outdent, Glue, NoteOn, NoteOff}
use Rattle.ada_tree.specs.Choices.{comments_of}
use Rattle.ada_tree.specs.Lines.{line, line_by_operator, unary_line}
use Rattle.ada_tree.specs.Spelling.{after_end, starts_with_comments, ends_with_comments, keeps_comments}
use Rattle.ada_tree.proofs.Found.{line_holds}
use Rattle.text_laws.proofs.round_trip.Places.{both, is_open_kind, is_open, is_plain_kind, is_plain, is_sure_kind, is_sure, is_improper_kind, is_proper}

abbrev implies : Bool → Bool → Bool
implies a b = not a || b

-- ---- lists

-- no comments belong to the members or to the list
abbrev pub is_uncommented : Choice → Bool
is_uncommented place = not (starts_with_comments (comments_of place) true) && not (ends_with_comments (comments_of place)) && not (keeps_comments (comments_of place))

-- Comments before a member are followed by a token, and where a member ends with comments, no others follow.
abbrev pub is_sound_list : Choice → Bool
is_sound_list place = is_proper place && not (keeps_comments (comments_of place)) && implies (starts_with_comments (comments_of place) true) (is_plain place && is_sure place)
    && implies (is_open place) (is_plain place && not (starts_with_comments (comments_of place) false) && not (ends_with_comments (comments_of place)))

pub record IsSoundList (place : Choice) : Type 0 where
  pub proper : is_proper place ≡ true
  pub unkept : keeps_comments (comments_of place) ≡ false
  pub starts_plain : starts_with_comments (comments_of place) true ≡ true → is_plain place ≡ true
  pub starts_sure : starts_with_comments (comments_of place) true ≡ true → is_sure place ≡ true
  pub open_plain : is_open place ≡ true → is_plain place ≡ true
  pub open_starts : is_open place ≡ true → starts_with_comments (comments_of place) false ≡ false
  pub open_ends : is_open place ≡ true → ends_with_comments (comments_of place) ≡ false

pub given_true : {a b : Bool} → implies a b ≡ true → a ≡ true → b ≡ true
given_true {a = true} h e = h
given_true {a = false} h e = absurd cc

pub sound_list : (place : Choice) → is_sound_list place ≡ true → IsSoundList place
sound_list place h =
    let front = (both h).0 in
    record {
      proper = (both (both front).0).0;
      unkept = not-true _ (both (both front).0).1;
      starts_plain = λ e. (both (given_true (both front).1 e)).0;
      starts_sure = λ e. (both (given_true (both front).1 e)).1;
      open_plain = λ e. (both (both (given_true (both h).1 e)).0).0;
      open_starts = λ e. not-true _ (both (both (given_true (both h).1 e)).0).1;
      open_ends = λ e. not-true _ (both (given_true (both h).1 e)).1;
    }

pub record IsUncommented (place : Choice) : Type 0 where
  pub starts : starts_with_comments (comments_of place) true ≡ false
  pub ends : ends_with_comments (comments_of place) ≡ false
  pub unkept : keeps_comments (comments_of place) ≡ false

pub uncommented : (place : Choice) → is_uncommented place ≡ true → IsUncommented place
uncommented place h = record {
  starts = not-true _ (both (both h).0).0;
  ends = not-true _ (both (both h).0).1;
  unkept = not-true _ (both h).1;
}

abbrev pub is_open_list : Choice → Bool
is_open_list place = is_open place || ends_with_comments (comments_of place)

-- ---- shapes

abbrev pub is_sound_shape : Shape → Bool
is_sound_shape (One place) = is_proper place
is_sound_shape (Any place) = is_sound_list place
is_sound_shape (Many place) = is_sound_list place
is_sound_shape (Listed place m) = is_proper place && not (is_open place)
is_sound_shape (MaybeListed place m) = is_proper place && not (is_open place)
is_sound_shape ForAll = true

abbrev pub is_open_shape : Shape → Bool
is_open_shape (One place) = is_open place
is_open_shape (Any place) = is_open_list place
is_open_shape (Many place) = is_open_list place
is_open_shape _ = false

abbrev pub is_plain_shape : Shape → Bool
is_plain_shape (One place) = is_plain place
is_plain_shape (Any place) = is_plain place && is_uncommented place
is_plain_shape (Many place) = is_plain place && is_uncommented place
is_plain_shape (Listed place m) = is_plain place
is_plain_shape (MaybeListed place m) = is_plain place
is_plain_shape ForAll = true

abbrev pub is_sure_shape : Shape → Bool
is_sure_shape (One place) = is_sure place
is_sure_shape _ = false

-- ---- parts of lines

-- a part that may be left out has a kid that isn't None where it is there
abbrev pub has_kid : List Piece → Bool
has_kid (Word w ∷ pieces) = has_kid pieces
has_kid (Mark m ∷ pieces) = has_kid pieces
has_kid (Indent ∷ pieces) = has_kid pieces
has_kid (Kid shape ∷ pieces) = is_sound_shape shape
has_kid _ = false

abbrev pub is_sound_list_shape : Shape → Bool
is_sound_list_shape (Any place) = is_uncommented place
is_sound_list_shape ForAll = true
is_sound_list_shape _ = false

-- so many lists follow, to which no comments belong
abbrev pub has_lists : List Piece → ℕ → Bool
has_lists pieces zero = true
has_lists (Word w ∷ pieces) (suc n) = has_lists pieces (suc n)
has_lists (Indent ∷ pieces) (suc n) = has_lists pieces (suc n)
has_lists (Kid shape ∷ pieces) (suc n) = is_sound_list_shape shape && has_lists pieces n
has_lists _ n = false

-- the text of a proof step is there, whatever it is
abbrev pub is_rule_name : OwnText → Bool
is_rule_name own.Rule = true
is_rule_name _ = false

-- ---- lines

-- A line doesn't begin with a comment, where nothing that follows does. The first argument tells that nothing that follows does, the second that a part is left out.
abbrev pub is_plain_line : Bool → Bool → List Piece → Bool
is_plain_line fine skip [] = fine
is_plain_line fine skip (End ∷ pieces) = is_plain_line fine false pieces
is_plain_line fine true (piece ∷ pieces) = is_plain_line fine true pieces
is_plain_line fine false (Word w ∷ pieces) = true
is_plain_line fine false (Mark m ∷ pieces) = true
is_plain_line fine false (Own own ∷ pieces) = is_rule_name own || is_plain_line fine false pieces
is_plain_line fine false (Kid shape ∷ pieces) = is_plain_shape shape && (is_sure_shape shape || is_plain_line fine false pieces)
is_plain_line fine false (Members place ∷ pieces) = false
is_plain_line fine false (Arguments ∷ pieces) = false
is_plain_line fine false (Optional ∷ pieces) = has_kid pieces && is_plain_line fine true pieces && is_plain_line fine false pieces
is_plain_line fine false (Shown count ∷ pieces) = has_lists pieces count && is_plain_line fine true pieces && is_plain_line fine false pieces
is_plain_line fine false (Indent ∷ pieces) = is_plain_line fine false pieces
is_plain_line fine false (Outdent ∷ pieces) = is_plain_line fine false pieces
is_plain_line fine false (Glue ∷ pieces) = is_plain_line fine false pieces
is_plain_line fine false (NoteOn ∷ pieces) = is_plain_line fine false pieces
is_plain_line fine false (NoteOff ∷ pieces) = is_plain_line fine false pieces

-- A line is written so that it reads back. The first argument tells whether it stands in an annotation, the last but one whether this part of it does.
abbrev pub is_sound_line : Bool → Bool → Bool → Bool → List Piece → Bool
is_sound_line outer fine skip now [] = if outer then now else not now
is_sound_line outer fine skip now (End ∷ pieces) = is_sound_line outer fine false now pieces
is_sound_line outer fine true now (piece ∷ pieces) = is_sound_line outer fine true now pieces
is_sound_line outer fine false now (Word w ∷ pieces) = is_sound_line outer fine false now pieces
is_sound_line outer fine false now (Mark m ∷ pieces) = is_sound_line outer fine false now pieces
is_sound_line outer fine false now (Own own ∷ pieces) = is_sound_line outer fine false now pieces
is_sound_line outer fine false now (Kid shape ∷ pieces) = is_sound_shape shape && implies (is_open_shape shape) (is_plain_line fine false pieces) && is_sound_line outer fine false now pieces
is_sound_line outer fine false now (Members place ∷ pieces) = is_sound_list place && implies (is_open_list place) fine && (if outer then now else not now)
is_sound_line outer fine false now (Arguments ∷ pieces) = is_sound_line outer fine false now pieces
is_sound_line outer fine false now (Optional ∷ pieces) = has_kid pieces && is_sound_line outer fine true now pieces && is_sound_line outer fine false now pieces
is_sound_line outer fine false now (Shown count ∷ pieces) = has_lists pieces count && is_sound_line outer fine true now pieces && is_sound_line outer fine false now pieces
is_sound_line outer fine false now (Indent ∷ pieces) = is_sound_line outer fine false now pieces
is_sound_line outer fine false now (Outdent ∷ pieces) = is_sound_line outer fine false now pieces
is_sound_line outer fine false now (Glue ∷ pieces) = is_sound_line outer fine false now pieces
is_sound_line outer fine false now (NoteOn ∷ pieces) = if now then true else is_sound_line outer fine false true pieces
is_sound_line outer fine false now (NoteOff ∷ pieces) = if now then is_sound_line outer fine false false pieces else true

-- a part that is left out

pub plain_skipped : (fine : Bool) (pieces : List Piece) → is_plain_line fine true pieces ≡ is_plain_line fine false (after_end pieces)
plain_skipped fine [] = refl
plain_skipped fine (End ∷ pieces) = refl
plain_skipped fine (_ ∷ pieces) = plain_skipped fine pieces

pub sound_skipped : (outer fine now : Bool) (pieces : List Piece) → is_sound_line outer fine true now pieces ≡ is_sound_line outer fine false now (after_end pieces)
sound_skipped outer fine now [] = refl
sound_skipped outer fine now (End ∷ pieces) = refl
sound_skipped outer fine now (_ ∷ pieces) = sound_skipped outer fine now pieces

-- ---- the written table

sound_operator : (note : Bool) (k : Kind) (text : List ℕ) → is_sound_line note false false note (line_by_operator k text) ≡ true
sound_operator true k text = line_holds (is_sound_line true false false true) refl refl k text
sound_operator false k text = line_holds (is_sound_line false false false false) refl refl k text

sound_unary : (note : Bool) (place : Choice) (text : List ℕ) → is_sound_line note false false note (unary_line place text) ≡ true
sound_unary true choice.Coefficient text = refl
sound_unary false choice.Coefficient text = refl
sound_unary note _ text = sound_operator note kind.Unary text

sound_select : (note : Bool) (place : Choice) (text : List ℕ) → is_sound_line note false false note (line place kind.Select text) ≡ true
sound_select true choice.Mark text = refl
sound_select true choice.Dis text = refl
sound_select true choice.LemmaName text = refl
sound_select true _ text = refl
sound_select false choice.Mark text = refl
sound_select false choice.Dis text = refl
sound_select false choice.LemmaName text = refl
sound_select false _ text = refl

pub sound_line : (note : Bool) (place : Choice) (k : Kind) (text : List ℕ) → is_improper_kind k ≡ false → is_sound_line note (is_open_kind k) false note (line place k text) ≡ true
sound_line note place kind.Doc text h = absurd cc
sound_line note place kind.Binary text h = sound_operator note kind.Binary text
sound_line note place kind.Unary text h = sound_unary note place text
sound_line note place kind.Member text h = sound_operator note kind.Member text
sound_line note place kind.Make text h = sound_operator note kind.Make text
sound_line note place kind.Select text h = sound_select note place text
sound_line true place _ text h = refl
sound_line false place _ text h = refl

plain_operator : (k : Kind) (text : List ℕ) → is_plain_line true false (line_by_operator k text) ≡ true
plain_operator k text = line_holds (is_plain_line true false) refl refl k text

plain_unary : (place : Choice) (text : List ℕ) → is_plain_line true false (unary_line place text) ≡ true
plain_unary choice.Coefficient text = refl
plain_unary _ text = plain_operator kind.Unary text

plain_select : (place : Choice) (text : List ℕ) → is_plain_line true false (line place kind.Select text) ≡ true
plain_select choice.Mark text = refl
plain_select choice.Dis text = refl
plain_select choice.LemmaName text = refl
plain_select _ text = refl

pub plain_line : (place : Choice) (k : Kind) (text : List ℕ) → is_plain_kind k ≡ true → is_plain_line true false (line place k text) ≡ true
plain_line place kind.Binary text h = plain_operator kind.Binary text
plain_line place kind.Unary text h = plain_unary place text
plain_line place kind.Member text h = plain_operator kind.Member text
plain_line place kind.Make text h = plain_operator kind.Make text
plain_line place kind.Select text h = plain_select place text
plain_line place kind.Doc text h = absurd cc
plain_line place kind.File text h = absurd cc
plain_line place kind.Seq text h = absurd cc
plain_line place _ text h = refl

pub sure_line : (place : Choice) (k : Kind) (text : List ℕ) → is_sure_kind k ≡ true → is_plain_line false false (line place k text) ≡ true
sure_line place kind.Doc text h = absurd cc
sure_line place kind.Binary text h = absurd cc
sure_line place kind.Unary text h = absurd cc
sure_line place kind.Member text h = absurd cc
sure_line place kind.Make text h = absurd cc
sure_line place kind.Select text h = absurd cc
sure_line place _ text h = cc
