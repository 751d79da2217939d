-- The walk along the line of a class, as a test: whether lines of the table read what the line spells, and which line is left then. Where the
-- spelling may go on in several ways, each must be read; where the table may, one way is enough.
use Rattle.std.proofs.Common.{ℕ, zero, suc, List, [], ◌∷◌, ◌++◌, Bool, true, false, not, ◌&&◌, ◌||◌, Option, Some, None}
use Rattle.std.specs.Prelude.{bytes_eq}
use Rattle.std.specs.List.{list_any}
use denote.Enum.Bare.{sameb}
use Rattle.ada_tree.specs.declared.kind.Kind.{Kind}
use Rattle.ada_tree.specs.declared.kind.Kind.TheVariants as kind
use Rattle.ada_tree.specs.declared.word.Word.TheVariants as word
use Rattle.ada_tree.specs.declared.word.Mark.{Mark}
use Rattle.ada_tree.specs.declared.word.Mark.TheVariants as mark
use Rattle.ada_tree.specs.declared.grammar.Choice.{Choice}
use Rattle.ada_tree.specs.declared.grammar.Choice.TheVariants as choice
use Rattle.ada_tree.specs.declared.grammar.Own.{Own as OwnText}
use Rattle.ada_tree.specs.declared.grammar.Own.TheVariants as own_text
use Rattle.ada_tree.specs.declared.grammar.Shape.{Shape}
use Rattle.ada_tree.specs.declared.grammar.Shape.TheVariants.{One, Any, Many, Listed, MaybeListed, ForAll}
use Rattle.ada_tree.specs.declared.grammar.Piece.{Piece}
use Rattle.ada_tree.specs.declared.grammar.Piece.TheVariants.{Word as a_word_piece, Mark as a_mark_piece, Own, Kid, Members, Arguments, Option as Optional, Shown, End, Indent, Outdent, Glue, NoteOn, NoteOff}
use Rattle.ada_tree.specs.declared.grammar.Argument.{Argument}
use Rattle.ada_tree.specs.declared.grammar.Argument.TheVariants as argument
use Rattle.ada_tree.specs.Choices.{comments_of}
use Rattle.ada_tree.specs.Items.{lexemes}
use Rattle.ada_tree.specs.Kinds.{is_kind}
use Rattle.ada_tree.specs.Nodes.{is_empty}
use Rattle.ada_tree.specs.Spelling.{is_own, starts_with_comments, ends_with_comments, argument_place, listed_place}
use Rattle.ada_tree.specs.Texts.{own_items, may_be_omitted}
use Rattle.ada_tree.specs.Tokens.{a_word, a_mark}
use Rattle.reading_table.specs.declared.rule.Rule.{Rule}
use Rattle.reading_table.specs.declared.rule.Rule.TheVariants as rule
use Rattle.reading_table.specs.contracts.rule.Rule as rule_row
use Rattle.reading_table.specs.contracts.symbol.Form as form_row
use Rattle.reading_table.specs.declared.symbol.Symbol.TheVariants as symbol
use Rattle.reading_table.specs.declared.symbol.Tokens.TheVariants as tokens
use Rattle.reading_table.specs.Rows.{Placed}
use Rattle.reading_table.specs.TokenSets.{arguments_in}
use Rattle.reading_complete.proofs.Classes.{Sort, plain, of_names, of_others, of_mark, in_brackets, by_form, Class, classes, admits}
use Rattle.reading_complete.proofs.Lazy.{any_of, all_of}
use Rattle.reading_complete.proofs.Symbols.{same_side, same_line, after_front}
use Rattle.reading_complete.proofs.Seeking.{Value, Stage, names_own, seek, seek_line, feeds, feeds_all, drops, does_symbol, own, known, kid, namesake, nothing, empty, begun, whole}
use Rattle.reading_complete.proofs.Readers.{reader}

-- What a rule leaves of itself, and of the symbols behind it, after a node of some classes at its beginning.
pub record Route : Type 0 where
  pub also : List Placed
  pub reads : Class → Bool
  pub rest : List Placed

-- names alone
abbrev is_name_by : Sort → Kind → Bool
is_name_by plain k = is_kind k kind.Name
is_name_by of_names k = true
is_name_by of_mark k = true
is_name_by _ k = false

abbrev pub is_name : Class → Bool
is_name d = is_name_by d.sort d.kind

module _ (routes : Bool → Rule → List Route) where
  -- by the rule that reads all nodes of the place
  abbrev pub whole_at : Bool → Option Rule → (List Placed → Bool) → List Placed → Bool
  whole_at note (Some r) next ((side, symbol.Part other) ∷ line) = elim (same_side side note && sameb rule_row.the_type r other) [ true ↦ next line | false ↦ false ]
  whole_at note _ next _ = false

  abbrev pub routed : Class → (List Placed → Bool) → List Placed → Route → Bool
  routed d next line route =
      elim (route.reads d) [ true ↦ elim (after_front route.also line) [ Some rest ↦ next (route.rest ++ rest) | None ↦ false ] | false ↦ false ]

  -- a node of the class, by a rule that leaves something
  abbrev pub route_at : Bool → Class → (List Placed → Bool) → List Placed → Bool
  route_at note d next ((side, symbol.Part r) ∷ line) = elim (same_side side note) [ true ↦ any_of (routes note r) (λ route. routed d next line route) | false ↦ false ]
  route_at note d next _ = false

  -- the classes that stand at a place, and pass
  abbrev pub each_class : Bool → Choice → (Class → Bool) → (Class → Bool) → Bool
  each_class note place among test = all_of classes (λ d. elim (admits note place d) [ true ↦ elim (among d) [ true ↦ test d | false ↦ true ] | false ↦ true ])

  abbrev pub every : Class → Bool
  every d = true

  -- what a class asks of the first kid
  abbrev pub fits_front : Sort → Class → Bool
  fits_front of_names d = is_name d
  fits_front of_others d = not (is_name d)
  fits_front _ d = true

  abbrev pub fits_first : Bool → Sort → Class → Bool
  fits_first true sort d = fits_front sort d
  fits_first false sort d = true

  -- a body's specification has its text
  abbrev pub kid_value : Bool → Kind → Value
  kid_value front k = elim front [ true ↦ elim (is_kind k kind.SubBody) [ true ↦ namesake | false ↦ kid ] | false ↦ kid ]

  abbrev pub kid_read : Class → Bool → Bool → Choice → (Stage → Bool) → Stage → Bool
  kid_read c front note place next stage =
      elim (seek c false (λ s. whole_at note (reader note place) (λ line. next (line, kid_value front c.kind ∷ s.1)) s.0) stage) [
        | true ↦ true
        | false ↦ each_class note place (fits_first front c.sort) (λ d. seek c false (λ s. route_at note d (λ line. next (line, kid_value front c.kind ∷ s.1)) s.0) stage)
      ]

  -- ---- lists

  abbrev pub opening : Bool → (List Placed → Bool) → List Placed → Bool
  opening true next line = seek_line (does_symbol symbol.Notes next) line
  opening false next line = next line

  abbrev pub closing : Bool → (List Placed → Bool) → List Placed → Bool
  closing true next line = does_symbol symbol.Noted (does_symbol symbol.Join next) line
  closing false next line = does_symbol symbol.Join next line

  abbrev pub member : Bool → Choice → Bool → (List Placed → Bool) → List Placed → Bool
  member note place starts next line =
      elim (opening starts (seek_line (whole_at note (reader note place) (closing starts next))) line) [
        | true ↦ true
        | false ↦ each_class note place every (λ d. opening starts (seek_line (route_at note d (closing starts next))) line)
      ]

  -- the mark, and a member
  abbrev pub more : Bool → Choice → Mark → (List Placed → Bool) → List Placed → Bool
  more note place m next line = drops note (a_mark m) (member note place false next) line

  -- any number more, which lead back to the line
  abbrev pub many_more : Bool → Choice → Mark → (List Placed → Bool) → List Placed → Bool
  many_more note place m next line = elim (more note place m (λ new. same_line new line) line) [ true ↦ next line | false ↦ false ]

  abbrev pub listed_read : Bool → Choice → Mark → (List Placed → Bool) → List Placed → Bool
  listed_read note place m next line = member note place false (many_more note place m next) line

  -- a list that is made of its first member
  abbrev pub made_list : Bool → Class → (List Placed → Bool) → List Placed → Bool
  made_list note d next line = seek_line (route_at note d (seek_line (does_symbol (symbol.Build kind.List 1) next))) line

  -- one component alone is an association
  abbrev pub needs_more : Class → Class → Bool
  needs_more c d = is_kind c.kind kind.Aggr && not (is_kind d.kind kind.Assoc)

  abbrev pub after_first : Bool → Bool → Choice → Mark → (List Placed → Bool) → List Placed → Bool
  after_first true note place m next line = more note place m (many_more note place m next) line
  after_first false note place m next line = many_more note place m next line

  abbrev pub late_listed : Class → Bool → Choice → Mark → (List Placed → Bool) → List Placed → Bool
  late_listed c note place m next line = each_class note place every (λ d. made_list note d (after_first (needs_more c d) note place m next) line)

  abbrev pub ending_by : Bool → (List Placed → Bool) → List Placed → Bool
  ending_by true next line = seek_line (does_symbol symbol.EndNotes next) line
  ending_by false next line = next line

  abbrev pub ending : Choice → (List Placed → Bool) → List Placed → Bool
  ending place next line = ending_by (ends_with_comments (comments_of place)) next line

  abbrev pub starts : Choice → Bool → Bool
  starts place first = starts_with_comments (comments_of place) first

  -- any number of members more, which lead back to the line
  abbrev pub all_more : Bool → Choice → (List Placed → Bool) → List Placed → Bool
  all_more note place next line = elim (member note place (starts place false) (λ new. same_line new line) line) [ true ↦ ending place next line | false ↦ false ]

  abbrev pub some_members : Bool → Choice → (List Placed → Bool) → List Placed → Bool
  some_members note place next line = member note place (starts place true) (all_more note place next) line

  abbrev pub late_members : Bool → Choice → (List Placed → Bool) → List Placed → Bool
  late_members note place next line =
      elim (starts place true) [ true ↦ false | false ↦ each_class note place every (λ d. made_list note d (all_more note place next) line) ]

  -- an empty list is there
  abbrev pub at_empty : (List Placed → List Value → Bool) → Stage → Bool
  at_empty next (line, empty ∷ values) = next line values
  at_empty next _ = false

  abbrev pub at_nothing : (List Placed → List Value → Bool) → Stage → Bool
  at_nothing next (line, nothing ∷ values) = next line values
  at_nothing next _ = false

  -- ---- arguments of proof steps

  abbrev pub argument_by : Option Choice → Option Choice → Argument → Bool → (List Placed → Bool) → (List Placed → Bool) → List Placed → Bool
  argument_by (Some place) lists a note next others line = member note place false others line
  argument_by None (Some place) a note next others line =
      elim (next line) [ true ↦ drops note (a_mark mark.Open) (listed_read note place mark.Comma (drops note (a_mark mark.Close) next)) line | false ↦ false ]
  argument_by None None argument.InNumber note next others line =
      elim (next line) [ true ↦ drops note (a_word word.In) (member note (choice.Only kind.Int) false next) line | false ↦ false ]
  argument_by None None _ note next others line = false

  abbrev pub arguments_read : List Argument → Bool → (List Placed → Bool) → List Placed → Bool
  arguments_read [] note next line = next line
  arguments_read (a ∷ others) note next line = argument_by (argument_place a) (listed_place a) a note next (arguments_read others note next) line

  -- ---- own texts

  abbrev pub at_known : Class → (Stage → Bool) → Stage → Bool
  at_known c next (line, known text ∷ values) = elim (bytes_eq text c.text) [ true ↦ next (line, own ∷ values) | false ↦ false ]
  at_known c next _ = false

  -- a text that is told
  abbrev pub told_text : Class → Bool → OwnText → (Stage → Bool) → Stage → Bool
  told_text c note text next stage =
      elim (is_empty c.text) [ true ↦ false | false ↦ feeds_all (lexemes (own_items text c.text)) c note (seek c false (at_known c next)) stage ]

  abbrev pub omitted_text : Class → OwnText → (Stage → Bool) → Stage → Bool
  omitted_text c text next stage = elim (may_be_omitted text c.text) [ true ↦ seek c false (at_known c next) stage | false ↦ true ]

  abbrev pub told_or_omitted : Class → Bool → OwnText → (Stage → Bool) → Stage → Bool
  told_or_omitted c note text next stage = elim (told_text c note text next stage) [ true ↦ omitted_text c text next stage | false ↦ false ]

  -- a name that is a node by itself, at the beginning of an expression
  abbrev pub at_atom : Bool → Bool → Kind → List Value → (Stage → Bool) → List Placed → Bool
  at_atom true true kind.Name [] next line = next (line, whole ∷ [])
  at_atom _ _ _ _ next line = false

  -- `alone` tells that the text is the end of the line
  abbrev pub at_identifier : Class → Bool → Bool → (Stage → Bool) → List Placed → List Value → Bool
  at_identifier c note alone next ((side, symbol.Keep tokens.Name) ∷ line) values = elim (side || note) [ true ↦ false | false ↦ next (line, own ∷ values) ]
  at_identifier c note alone next ((side, symbol.Part rule.Text) ∷ line) values = elim (same_side side note) [ true ↦ next (line, own ∷ values) | false ↦ false ]
  at_identifier c note alone next ((true, symbol.Part rule.Atom) ∷ line) values = at_atom note alone c.kind values next line
  at_identifier c note alone next _ values = false

  abbrev pub at_number : Bool → (Stage → Bool) → List Placed → List Value → Bool
  at_number note next ((side, symbol.Keep tokens.Number) ∷ line) values = elim (same_side side note) [ true ↦ next (line, own ∷ values) | false ↦ false ]
  at_number note next _ values = false

  abbrev pub at_closing : Class → Bool → (Stage → Bool) → List Placed → List Value → Bool
  at_closing c note next ((side, symbol.Closing deep) ∷ line) values = elim (side || note) [ true ↦ false | false ↦ elim (names_own deep values) [ true ↦ next (line, values) | false ↦ false ] ]
  at_closing c note next _ values = false

  abbrev pub at_rule : Sort → Bool → (Stage → Bool) → List Placed → List Value → Bool
  at_rule (by_form f) note next ((side, symbol.Keep (tokens.NameOf g)) ∷ (other, symbol.Lower) ∷ line) values =
      elim (same_side side note && sameb form_row.the_type f g) [ true ↦ next (line, own ∷ values) | false ↦ false ]
  at_rule _ note next _ values = false

  abbrev pub rule_text : Bool → Class → Bool → (Stage → Bool) → Stage → Bool
  rule_text true c note next stage = seek c false (λ s. at_rule c.sort note next s.0 s.1) stage
  rule_text false c note next stage = told_text c note own_text.Rule next stage

  abbrev pub at_key : Bool → Bool → Kind → List Value → (Stage → Bool) → List Placed → Bool
  at_key true true kind.Key [] next ((true, symbol.Part rule.Key) ∷ line) = next (line, whole ∷ [])
  at_key _ _ _ _ next _ = false

  abbrev pub own_read : Class → Bool → Bool → OwnText → (Stage → Bool) → Stage → Bool
  own_read c note alone own_text.Id next stage = seek c false (λ s. at_identifier c note alone next s.0 s.1) stage
  own_read c note alone own_text.Closing next stage = elim (next stage) [ true ↦ seek c false (λ s. at_closing c note next s.0 s.1) stage | false ↦ false ]
  own_read c note alone own_text.Num next stage = seek c false (λ s. at_number note next s.0 s.1) stage
  own_read c note alone own_text.Operator next stage = told_text c note own_text.Operator next stage
  own_read c note alone own_text.Mode next stage = told_or_omitted c note own_text.Mode next stage
  own_read c note alone own_text.GlobalMode next stage = told_or_omitted c note own_text.GlobalMode next stage
  own_read c note alone own_text.Rule next stage = rule_text (is_empty c.text) c note next stage
  own_read c note alone own_text.Key next stage = at_key note alone c.kind stage.1 next stage.0

  -- ---- kids; `some` tells how many lists follow of which one has a member, if that is known

  abbrev pub filled : Class → Bool → Choice → (Stage → Bool) → Stage → Bool
  filled c note place next stage =
      elim (seek c false (at_empty (λ line values. some_members note place (λ l. next (l, kid ∷ values)) line)) stage) [
        | true ↦ true
        | false ↦ late_members note place (λ l. next (l, kid ∷ stage.1)) stage.0
      ]

  abbrev pub any_or_none : Choice → Bool → (Stage → Bool) → List Placed → List Value → Bool
  any_or_none place note next line values =
      elim (ending place (λ l. next (l, kid ∷ values)) line) [ true ↦ some_members note place (λ l. next (l, kid ∷ values)) line | false ↦ false ]

  abbrev pub any_read : ℕ → Class → Bool → Choice → (ℕ → Stage → Bool) → Stage → Bool
  any_read zero c note place next stage = seek c false (at_empty (any_or_none place note (next zero))) stage
  any_read (suc zero) c note place next stage = elim (ends_with_comments (comments_of place)) [ true ↦ false | false ↦ filled c note place (next zero) stage ]
  any_read (suc (suc n)) c note place next stage = false

  abbrev pub listed_kid : Class → Bool → Bool → Choice → Mark → (Stage → Bool) → Stage → Bool
  listed_kid c front note place m next stage =
      elim (seek c false (at_empty (λ line values. listed_read note place m (λ l. next (l, kid ∷ values)) line)) stage) [
        | true ↦ true
        | false ↦ elim front [ true ↦ late_listed c note place m (λ l. next (l, kid ∷ stage.1)) stage.0 | false ↦ false ]
      ]

  abbrev pub no_list : Class → (Stage → Bool) → Stage → Bool
  no_list c next stage = seek c false (at_empty (λ line values. next (line, kid ∷ values))) stage

  abbrev pub variables : Class → Bool → (Stage → Bool) → Stage → Bool
  variables c note next stage =
      seek c false (at_empty (λ line values.
      drops note (a_word word.For) (drops note (a_word word.All) (listed_read note (choice.Only kind.Vars) mark.Semicolon (λ l. next (l, kid ∷ values)))) line)) stage

  abbrev pub no_variables_read : ℕ → Class → (ℕ → Stage → Bool) → Stage → Bool
  no_variables_read zero c next stage = no_list c (next zero) stage
  no_variables_read (suc zero) c next stage = true
  no_variables_read (suc (suc n)) c next stage = no_list c (next (suc n)) stage

  abbrev pub kid_piece : Shape → Class → Bool → Bool → ℕ → (ℕ → Stage → Bool) → Stage → Bool
  kid_piece (One place) c note front some next stage = kid_read c front note place (next zero) stage
  kid_piece (Any place) c note front some next stage = any_read some c note place next stage
  kid_piece (Many place) c note front some next stage = filled c note place (next zero) stage
  kid_piece (Listed place m) c note front some next stage = listed_kid c front note place m (next zero) stage
  kid_piece (MaybeListed place m) c note front some next stage = elim (listed_kid c front note place m (next zero) stage) [ true ↦ no_list c (next zero) stage | false ↦ false ]
  kid_piece ForAll c note front some next stage = elim (variables c note (next zero) stage) [ true ↦ no_variables_read some c next stage | false ↦ false ]

  abbrev pub empties : ℕ → Class → (Stage → Bool) → Stage → Bool
  empties zero c next stage = next stage
  empties (suc n) c next stage = no_list c (λ s. empties n c next s) stage

  abbrev pub at_begun : (List Placed → Bool) → Stage → Bool
  at_begun next (line, begun ∷ []) = next line
  at_begun next _ = false

  abbrev pub items_read : Class → Bool → Choice → (Stage → Bool) → Stage → Bool
  items_read c note place finish stage =
      elim (is_kind c.kind kind.File && not (list_any is_own c.line)) [
        | true ↦ seek c false (at_begun (λ line. elim (ending place (λ l. finish (l, whole ∷ [])) line) [ true ↦ some_members note place (λ l. finish (l, whole ∷ [])) line | false ↦ false ])) stage
        | false ↦ false
      ]

  abbrev pub arguments_piece : Sort → Class → Bool → (Stage → Bool) → Stage → Bool
  arguments_piece (by_form f) c note next stage = seek c false (at_empty (λ line values. arguments_read (arguments_in f) note (λ l. next (l, kid ∷ values)) line)) stage
  arguments_piece _ c note next stage = false

  -- ---- lines; `skip` tells that a part is left out, up to its end, and `front` that no kid has been read

  abbrev pub walk : List Piece → Bool → Class → Bool → Bool → ℕ → (Stage → Bool) → Stage → Bool
  walk [] skip c note front some finish stage = finish stage
  walk (End ∷ pieces) skip c note front some finish stage = walk pieces false c note front some finish stage
  walk (a_word_piece w ∷ pieces) false c note front some finish stage = feeds c note (a_word w) (λ s. walk pieces false c note front some finish s) stage
  walk (a_mark_piece m ∷ pieces) false c note front some finish stage = feeds c note (a_mark m) (λ s. walk pieces false c note front some finish s) stage
  walk (Own text ∷ pieces) false c note front some finish stage = own_read c note (is_empty pieces) text (λ s. walk pieces false c note front some finish s) stage
  walk (Kid shape ∷ pieces) false c note front some finish stage = kid_piece shape c note front some (λ n s. walk pieces false c note false n finish s) stage
  walk (Members place ∷ pieces) false c note front some finish stage = items_read c note place finish stage
  walk (Arguments ∷ pieces) false c note front some finish stage = arguments_piece c.sort c note (λ s. walk pieces false c note false zero finish s) stage
  walk (Optional ∷ pieces) false c note front some finish stage =
      elim (walk pieces false c note front zero finish stage) [ true ↦ seek c false (at_nothing (λ line values. walk pieces true c note false zero finish (line, kid ∷ values))) stage | false ↦ false ]
  walk (Shown count ∷ pieces) false c note front some finish stage =
      elim (walk pieces false c note front count finish stage) [ true ↦ empties count c (λ s. walk pieces true c note false zero finish s) stage | false ↦ false ]
  walk (Indent ∷ pieces) false c note front some finish stage = walk pieces false c note front some finish stage
  walk (Outdent ∷ pieces) false c note front some finish stage = walk pieces false c note front some finish stage
  walk (Glue ∷ pieces) false c note front some finish stage = walk pieces false c note front some finish stage
  walk (NoteOn ∷ pieces) false c false front some finish stage = walk pieces false c true front some finish stage
  walk (NoteOff ∷ pieces) false c true front some finish stage = walk pieces false c false front some finish stage
  walk (NoteOn ∷ pieces) false c true front some finish stage = false
  walk (NoteOff ∷ pieces) false c false front some finish stage = false
  walk (_ ∷ pieces) true c note front some finish stage = walk pieces true c note front some finish stage

  abbrev pub is_whole : List Value → Bool
  is_whole (whole ∷ []) = true
  is_whole _ = false

  abbrev pub is_the_kid : List Value → Bool
  is_the_kid (kid ∷ []) = true
  is_the_kid _ = false

  abbrev pub finishes : Class → List Placed → Stage → Bool
  finishes c goal stage = seek c true (λ s. elim (is_whole s.1) [ true ↦ same_line s.0 goal | false ↦ false ]) stage

  abbrev pub brackets : Bool → Class → List Placed → Stage → Bool
  brackets note c goal stage =
      feeds c note (a_mark mark.Open) (λ s. kid_read c false note choice.Expr (λ t. feeds c note (a_mark mark.Close)
      (seek c false (λ u. elim (is_the_kid u.1) [ true ↦ same_line u.0 goal | false ↦ false ])) t) s) stage

  abbrev pub passed : Sort → Bool → Class → List Placed → List Placed → Bool
  passed in_brackets note c front goal = brackets note c goal (front, [])
  passed _ note c front goal = walk c.line false c note true zero (finishes c goal) (front, [])

  -- Of a node of the class, the first line leaves the second.
  abbrev pub passes : Bool → Class → List Placed → List Placed → Bool
  passes note c front goal = passed c.sort note c front goal
