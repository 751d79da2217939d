-- How symbols change traces.
use Rattle.std.proofs.Common.{ℕ, zero, suc, ◌+◌, List, [], ◌∷◌, ◌++◌, Bool, true, false, not, ◌&&◌, ◌||◌, nat_eq, Option, Some, None, map, length}
use Rattle.std.specs.Prelude.{bytes_eq, codes, if◌then◌else◌, filter, is_some, option_and_then, take, ◌==◌}
use Rattle.std.specs.List.{list_any}
use Rattle.std.specs.Cmp.Lexicographic.{pointwise}
use denote.Enum.Bare.{sameb}
use Rattle.base_kit.specs.Bytes as byte
use Rattle.ada_tree.specs.contracts.word.Mark as mark_row
use Rattle.ada_tree.specs.declared.kind.Kind.{Kind}
use Rattle.ada_tree.specs.declared.kind.Kind.TheVariants as kind
use Rattle.ada_tree.specs.declared.grammar.Argument.{Argument}
use Rattle.ada_tree.specs.declared.grammar.Argument.TheVariants as argument
use Rattle.ada_tree.specs.declared.grammar.Choice.{Choice}
use Rattle.ada_tree.specs.declared.grammar.Choice.TheVariants as choice
use Rattle.ada_tree.specs.declared.grammar.Own.{Own as OwnText}
use Rattle.ada_tree.specs.declared.grammar.Own.TheVariants as own
use Rattle.ada_tree.specs.declared.grammar.Piece.{Piece}
use Rattle.ada_tree.specs.declared.grammar.Piece.TheVariants.{Word as a_word_piece, Mark as a_mark_piece, Own, Kid, Members, Arguments, Option as Optional, Shown, End, Indent, Outdent, Glue, NoteOn, NoteOff}
use Rattle.ada_tree.specs.declared.grammar.Shape.{Shape}
use Rattle.ada_tree.specs.declared.grammar.Shape.TheVariants.{One, Any, Many, Listed, MaybeListed, ForAll}
use Rattle.ada_tree.specs.declared.word.Mark.{Mark}
use Rattle.ada_tree.specs.declared.word.Mark.TheVariants as mark
use Rattle.ada_tree.specs.declared.word.Word.TheVariants as word
use Rattle.ada_tree.specs.Choices.{stands, comments_of}
use Rattle.ada_tree.specs.Items.{lexemes}
use Rattle.ada_tree.specs.Kinds.{is_kind, is_among}
use Rattle.ada_tree.specs.Lines.{line, line_of_kind}
use Rattle.ada_tree.specs.Nodes.{is_empty}
use Rattle.ada_tree.specs.Rendering.{lexeme_text}
use Rattle.ada_tree.specs.Rules.{arguments_of}
use Rattle.ada_tree.specs.Spelling.{is_own, starts_with_comments, ends_with_comments, argument_place, listed_place}
use Rattle.ada_tree.specs.Texts.{fits_own, own_items, may_be_omitted}
use Rattle.ada_tree.specs.Tokens.{Lexeme, a_word, a_mark}
use Rattle.reading_table.specs.declared.symbol.Tokens.{Tokens}
use Rattle.reading_table.specs.declared.symbol.Tokens.TheVariants as tokens
use Rattle.reading_table.specs.Reading.{is_side}
use Rattle.reading_table.specs.TokenSets.{words_of, marks_of, arguments_in}
use Rattle.ada_tree.proofs.evaluator.Ways.{same_lexeme}
use Rattle.reading_sound.proofs.Traces.{Word, big, named, small, number, entry, Text, simple, says, ruled, by_rule, dotted, Trace, written, told, stood, joined, begun, absent, rest, tail, closing, recalled, waiting, ended, lost, Stack, stands_in, same_place, if_so, is_member, places}

-- ---- the kids of a line

abbrev pub is_list_kind : Kind → Bool
is_list_kind k = is_kind k kind.List

-- what follows the members, up to the end of the list
abbrev pub past_members : Bool → Choice → Bool → List Trace → Option (List Trace)
past_members note p first (joined n c ps ∷ traces) = if_so (is_side note n && is_member p first c ps) (past_members note p false traces)
past_members note p first (rest n q ∷ traces) = if_so ((is_side note n && same_place q p) && is_side (starts_with_comments (comments_of p) first) (starts_with_comments (comments_of p) false)) (Some traces)
past_members note p first (ended ∷ traces) = if_so (ends_with_comments (comments_of p)) (Some traces)
past_members note p first _ = None

-- a member without comments
abbrev pub is_plain_member : Bool → Choice → Bool → Bool → List Choice → Bool
is_plain_member note p n c ps = is_side note n && (not c && stands_in ps p)

-- what follows the first member and all that have the mark before them
abbrev pub past_listed : Bool → Choice → Mark → List Trace → Option (List Trace)
past_listed note p m (tail n q l ∷ traces) = if_so ((is_side note n && same_place q p) && sameb mark_row.the_type l m) (Some traces)
past_listed note p m (written o l ∷ joined n c ps ∷ traces) = if_so ((is_side note o && same_lexeme l (a_mark m)) && is_plain_member note p n c ps) (past_listed note p m traces)
past_listed note p m _ = None

abbrev pub past_first : Bool → Choice → Mark → List Trace → Option (List Trace)
past_first note p m (joined n c ps ∷ traces) = if_so (is_plain_member note p n c ps) (past_listed note p m traces)
past_first note p m _ = None

abbrev pub begins_joined : List Trace → Bool
begins_joined (joined n c ps ∷ traces) = true
begins_joined _ = false

-- what follows a kid, and whether that is a list that has members
abbrev pub filled : Bool → Option (List Trace) → Option (List Trace × Bool)
filled full None = None
filled full (Some traces) = Some (traces, full)

abbrev pub past_list : Bool → Shape → List Trace → Option (List Trace × Bool)
past_list note (Any p) traces = filled (begins_joined traces) (past_members note p true traces)
past_list note (Many p) traces = if_so (begins_joined traces) (filled true (past_members note p true traces))
past_list note (Listed p m) traces = filled true (past_first note p m traces)
past_list note (MaybeListed p m) (joined n c ps ∷ traces) = filled true (past_first note p m (joined n c ps ∷ traces))
past_list note (MaybeListed p m) traces = Some (traces, false)
past_list note ForAll (written n l ∷ written o m ∷ traces) =
    if_so ((is_side note n && is_side note o) && (same_lexeme l (a_word word.For) && same_lexeme m (a_word word.All))) (filled true (past_first note (choice.Only kind.Vars) mark.Semicolon traces))
past_list note ForAll traces = Some (traces, false)
past_list note (One p) traces = None

abbrev pub past_kid : Bool → Shape → List Trace → Option (List Trace × Bool)
past_kid note (One p) (stood n c ps ∷ traces) = if_so (is_side note n && (not c && stands_in ps p)) (Some (traces, false))
past_kid note shape (begun k ∷ traces) = if_so (is_list_kind k) (past_list note shape traces)
past_kid note shape _ = None

-- ---- the arguments of a proof step

abbrev pub past_one : Bool → Option Choice → List Trace → Option (List Trace)
past_one note (Some p) (joined n c ps ∷ traces) = if_so (is_plain_member note p n c ps) (Some traces)
past_one note _ _ = None

abbrev pub past_close : Bool → Option (List Trace) → Option (List Trace)
past_close note (Some (written n l ∷ traces)) = if_so (is_side note n && same_lexeme l (a_mark mark.Close)) (Some traces)
past_close note _ = None

abbrev pub past_parentheses : Bool → Option Choice → List Trace → Option (List Trace)
past_parentheses note (Some p) (written n l ∷ traces) =
    if is_side note n && same_lexeme l (a_mark mark.Open) then past_close note (past_first note p mark.Comma traces) else Some (written n l ∷ traces)
past_parentheses note (Some p) traces = Some traces
past_parentheses note None traces = None

abbrev pub past_number : Bool → List Trace → Option (List Trace)
past_number note (written n l ∷ joined o c ps ∷ traces) = if_so ((is_side note n && same_lexeme l (a_word word.In)) && is_plain_member note (choice.Only kind.Int) o c ps) (Some traces)
past_number note traces = Some traces

abbrev pub is_single : Argument → Bool
is_single a = is_some (argument_place a)

abbrev pub past_arguments : Bool → List Argument → List Trace → Option (List Trace)
past_arguments note [] traces = Some traces
past_arguments note (argument.InNumber ∷ []) traces = past_number note traces
past_arguments note (a ∷ []) traces = if is_single a then past_one note (argument_place a) traces else past_parentheses note (listed_place a) traces
past_arguments note (a ∷ b ∷ others) traces = option_and_then (past_arguments note (b ∷ others)) (past_one note (argument_place a) traces)

abbrev pub past_argument_list : Bool → List Argument → List Trace → Option (List Trace)
past_argument_list note args (begun k ∷ traces) = if_so (is_list_kind k) (past_arguments note args traces)
past_argument_list note args _ = None

-- ---- the text of a node

-- Where the node's text is: not read yet, if it has one, and which it will be, where that is known; or the text of the value so many below. Then whether that is a name of Ada text, whether it is
-- still to become a value once more, and the arguments of the rule of proof that it names, where they are known.
pub data Place : Type 0 where
  before : Bool → Option (List ℕ) → Place
  after : ℕ → Bool → Bool → Option (List Argument) → Place

abbrev pub one_more : Place → Place
one_more (before due known) = before due known
one_more (after n name due args) = after (suc n) name due args

-- a text is still to be read
abbrev pub is_due : Place → Bool
is_due (before due known) = due
is_due (after n name due args) = due

abbrev pub arguments_at : Place → Option (List Argument)
arguments_at (before due known) = None
arguments_at (after n name due args) = args

abbrev pub arguments_told : Text → Option (List Argument)
arguments_told (by_rule f) = Some (arguments_in f)
arguments_told (says t ls) = Some (arguments_of t)
arguments_told _ = None

abbrev pub is_name_text : Bool → Text → Bool
is_name_text note (simple big) = not note
is_name_text note (simple named) = not note
is_name_text note _ = false

abbrev pub is_name_word : Word → Bool
is_name_word big = true
is_name_word named = true
is_name_word _ = false

abbrev pub is_big_word : Word → Bool
is_big_word big = true
is_big_word _ = false

abbrev pub is_label_word : Word → Bool
is_label_word small = true
is_label_word entry = true
is_label_word _ = false

abbrev pub is_number_word : Word → Bool
is_number_word number = true
is_number_word _ = false

abbrev pub are_key_words : List Word → Bool
are_key_words (a ∷ b ∷ []) = is_name_word a && is_name_word b
are_key_words (a ∷ b ∷ c ∷ []) = (is_big_word a && is_label_word b) && is_number_word c
are_key_words (a ∷ b ∷ c ∷ d ∷ []) = ((is_big_word a && is_big_word b) && is_label_word c) && is_number_word d
are_key_words _ = false

-- the text fits, and its tokens are those of the text
abbrev pub owns : Bool → OwnText → Text → Bool
owns note o (says t ls) = fits_own note o t && pointwise same_lexeme ls (lexemes (own_items o t))
owns note own.Id (simple w) = is_name_word w
owns note own.Num (simple w) = is_number_word w
owns note own.Rule (by_rule f) = note
owns note own.Key (dotted ws) = note && are_key_words ws
owns note _ _ = false

-- it fits, and isn't written
abbrev pub omits : Bool → OwnText → Text → Bool
omits note o (says t ls) = (fits_own note o t && may_be_omitted o t) && is_empty ls
omits note o _ = false

-- ---- lines

-- what follows a text that is a value once more
abbrev pub past_recall : Place → List Trace → Option (Place × List Trace)
past_recall (after n name due args) (recalled d ∷ traces) = if_so (due && nat_eq n d) (Some (after (suc n) name false args, traces))
past_recall place traces = Some (place, traces)

-- what follows a closing name, or where it isn't written
abbrev pub past_closing : Place → List Trace → Option (Place × List Trace)
past_closing (after n true due args) (closing o d ∷ traces) = if_so (not o && nat_eq n d) (past_recall (after n true due args) traces)
past_closing (after n true due args) traces = past_recall (after n true due args) traces
past_closing place traces = None

-- the text may be the one that is known
abbrev pub may_be : Option (List ℕ) → Text → Bool
may_be None t = true
may_be (Some known) (says t ls) = bytes_eq t known
may_be (Some known) _ = false

abbrev pub past_text : Bool → OwnText → Place → List Trace → Option (Place × List Trace)
past_text note o (before true known) (told n t ∷ traces) = if_so (is_side note n && (owns note o t || omits note o t) && may_be known t) (Some (after 0 (is_name_text note t) false (arguments_told t), traces))
past_text note o _ _ = None

abbrev pub past_own : Bool → OwnText → Place → List Trace → Option (Place × List Trace)
past_own note own.Closing place traces = if_so (not note) (past_closing place traces)
past_own note o place traces = past_text note o place traces

abbrev pub past_token : Bool → Lexeme → List Trace → Option (List Trace)
past_token note l (written n m ∷ traces) = if_so (is_side note n && same_lexeme m l) (Some traces)
past_token note l _ = None

-- lists without members
abbrev pub past_empty : ℕ → List Trace → Option (List Trace)
past_empty zero traces = Some traces
past_empty (suc n) (begun k ∷ traces) = if_so (is_list_kind k) (past_empty n traces)
past_empty (suc n) _ = None

-- as a part is left out or not, and as a token is next or not
abbrev pub by_absent : (List Trace → Option (List Bool)) → (List Trace → Option (List Bool)) → List Trace → Option (List Bool)
by_absent f g [] = g []
by_absent f g (absent ∷ traces) = f traces
by_absent f g (trace ∷ traces) = g (trace ∷ traces)

abbrev pub by_token : (List Trace → Option (List Bool)) → (List Trace → Option (List Bool)) → List Trace → Option (List Bool)
by_token f g [] = g []
by_token f g (written n l ∷ traces) = f (written n l ∷ traces)
by_token f g (trace ∷ traces) = g (trace ∷ traces)

abbrev pub left_out_first : List Trace → Bool
left_out_first (absent ∷ traces) = true
left_out_first _ = false

abbrev pub falses : ℕ → List Bool
falses zero = []
falses (suc n) = false ∷ falses n

abbrev pub more_ago : ℕ → Place → Place
more_ago zero place = place
more_ago (suc n) place = more_ago n (one_more place)

-- one of the next so many kids is a list with members
abbrev pub if_full : ℕ → Option (List Bool) → Option (List Bool)
if_full n None = None
if_full n (Some fulls) = if_so (list_any (λ b. b) (take n fulls)) (Some fulls)

-- The traces are those of the line: then for each kid, whether it is a list that surely has members. `skip` tells that a part is left out.
abbrev pub fills : Bool → Bool → List Piece → Place → List Trace → Option (List Bool)
fills note skip [] place [] = if_so (not (is_due place)) (Some [])
fills note skip [] place (trace ∷ traces) = None
fills note true (End ∷ pieces) place traces = fills note false pieces place traces
fills note true (piece ∷ pieces) place traces = fills note true pieces place traces
fills note false (a_word_piece w ∷ pieces) place traces = option_and_then (fills note false pieces place) (past_token note (a_word w) traces)
fills note false (a_mark_piece m ∷ pieces) place traces = option_and_then (fills note false pieces place) (past_token note (a_mark m) traces)
fills note false (Own o ∷ pieces) place traces = option_and_then (λ (r : Place × List Trace). fills note false pieces r.0 r.1) (past_own note o place traces)
fills note false (Kid shape ∷ pieces) place traces =
    option_and_then (λ (r : List Trace × Bool). option_and_then (λ fulls. Some (r.1 ∷ fulls)) (fills note false pieces (one_more place) r.0)) (past_kid note shape traces)
fills note false (Members p ∷ pieces) place traces = None
fills note false (Arguments ∷ pieces) place traces =
    option_and_then (λ traces. option_and_then (λ fulls. Some (false ∷ fulls)) (fills note false pieces (one_more place) traces)) (option_and_then (λ args. past_argument_list note args traces) (arguments_at place))
fills note false (Optional ∷ pieces) place traces = by_absent (λ traces. option_and_then (λ fulls. Some (false ∷ fulls)) (fills note true pieces (one_more place) traces)) (fills note false pieces place) traces
fills note false (Shown n ∷ pieces) place traces =
    by_token (λ traces. if_full n (fills note false pieces place traces))
    (λ traces. option_and_then (λ traces. option_and_then (λ fulls. Some (falses n ++ fulls)) (fills note true pieces (more_ago n place) traces)) (past_empty n traces)) traces
fills note false (End ∷ pieces) place traces = fills note false pieces place traces
fills note false (Indent ∷ pieces) place traces = fills note false pieces place traces
fills note false (Outdent ∷ pieces) place traces = fills note false pieces place traces
fills note false (Glue ∷ pieces) place traces = fills note false pieces place traces
fills false false (NoteOn ∷ pieces) place traces = fills true false pieces place traces
fills true false (NoteOn ∷ pieces) place traces = None
fills true false (NoteOff ∷ pieces) place traces = fills false false pieces place traces
fills false false (NoteOff ∷ pieces) place traces = None

-- ---- nodes

-- the text of a node that has these traces, where it is known
abbrev pub text_known : List Trace → Option (List ℕ)
text_known [] = None
text_known (told n (says t ls) ∷ traces) = Some t
text_known (trace ∷ traces) = text_known traces

abbrev pub known_or_none : Option (List ℕ) → List ℕ
known_or_none (Some t) = t
known_or_none None = []

abbrev pub is_text : Trace → Bool
is_text (told n t) = true
is_text (recalled d) = true
is_text _ = false

-- kinds whose nodes have an operator, by which they stand and are written
abbrev pub has_operator_kind : Kind → Bool
has_operator_kind k = is_among k (kind.Binary ∷ kind.Unary ∷ kind.Member ∷ kind.Make ∷ [])

-- the first member is an association, or there are two
abbrev pub are_components_of : List Trace → Bool
are_components_of (written n l ∷ begun k ∷ joined o c ps ∷ tail q p m ∷ written r x ∷ []) = stands_in ps (choice.Only kind.Assoc) && is_list_kind k
are_components_of (written n l ∷ begun k ∷ joined o c ps ∷ written r m ∷ joined q d qs ∷ tail s p x ∷ written t y ∷ []) = is_list_kind k
are_components_of _ = false

-- so many values are kids, and a text, if there is one
abbrev pub values_of : Bool → List Bool → ℕ
values_of due fulls = length fulls + (if due then 1 else 0)

abbrev pub counts : ℕ → Bool → Option (List Bool) → Bool
counts n due None = false
counts n due (Some fulls) = nat_eq (values_of due fulls) n

-- a subprogram's text is that of its specification
abbrev pub fills_body : ℕ → Bool → List Piece → List Trace → Bool
fills_body (suc n) false (Kid (One p) ∷ pieces) (stood o c ps ∷ traces) = ((not o && not c) && (stands_in ps p && same_place p choice.Spec)) && (list_any is_own pieces && counts n true (fills false false pieces (after 0 true true None) traces))
fills_body n note pieces traces = false

abbrev pub fills_line : ℕ → Bool → Kind → List Piece → List Trace → Bool
fills_line n note kind.SubBody pieces traces = fills_body n note pieces traces
fills_line n note kind.Aggr pieces traces = are_components_of traces && counts n false (fills note false pieces (before false None) traces)
fills_line n note k pieces traces = counts n (list_any is_text traces) (fills note false pieces (before (list_any is_text traces) (text_known traces)) traces)

-- a node of the kind that has these traces, of so many values, stands at the place; `t` is its text, where it is known
abbrev pub fits_at : ℕ → Bool → Kind → List Trace → Choice → List ℕ → Bool
fits_at n note k traces p t =
    (stands note p k t && (not (has_operator_kind k) || is_some (text_known traces))) && ((list_any is_own (line p k t) || not (list_any is_text traces)) && fills_line n note k (line p k t) traces)

abbrev pub fits : ℕ → Bool → Kind → List Trace → Choice → Bool
fits n note k traces p = fits_at n note k traces p (known_or_none (text_known traces))

abbrev pub begins_annotation : List Piece → Bool
begins_annotation (NoteOn ∷ pieces) = true
begins_annotation _ = false

-- the side of the place of a node whose last symbol is on this one
abbrev pub outer : Bool → Kind → Bool
outer note k = note && not (begins_annotation (line_of_kind k))

-- a line's tokens before all else, where a part that may be left out is there or not
abbrev pub front_tokens : Bool → List Piece → ℕ
front_tokens given (a_word_piece w ∷ pieces) = suc (front_tokens given pieces)
front_tokens given (a_mark_piece m ∷ pieces) = suc (front_tokens given pieces)
front_tokens given (Indent ∷ pieces) = front_tokens given pieces
front_tokens given (NoteOn ∷ pieces) = front_tokens given pieces
front_tokens true (Optional ∷ pieces) = front_tokens true pieces
front_tokens given _ = zero

abbrev pub is_value : Trace → Bool
is_value (told n t) = true
is_value (stood n c ps) = true
is_value (begun k) = true
is_value absent = true
is_value (recalled d) = true
is_value _ = false

-- so many tokens, before the traces that follow, and what is below
abbrev pub fronted : ℕ → List Trace → Stack → Option (List Trace × Stack)
fronted zero traces stack = Some (traces, stack)
fronted (suc front) traces (written n l ∷ stack) = fronted front (written n l ∷ traces) stack
fronted (suc front) traces _ = None

-- the traces of the last so many values and of a line's tokens before them, the first one first, and what is below
abbrev pub parted : List Piece → ℕ → List Trace → Stack → Option (List Trace × Stack)
parted pieces zero traces stack = fronted (front_tokens (not (left_out_first traces)) pieces) traces stack
parted pieces (suc n) traces [] = None
parted pieces (suc n) traces (trace ∷ stack) = if is_value trace then parted pieces n (trace ∷ traces) stack else parted pieces (suc n) (trace ∷ traces) stack

abbrev pub built_at : Bool → List Choice → Stack → Stack
built_at note [] stack = lost ∷ []
built_at note (p ∷ ps) stack = stood note false (p ∷ ps) ∷ stack

abbrev pub built_of : ℕ → Bool → Kind → Option (List Trace × Stack) → Stack
built_of n note k None = lost ∷ []
built_of n note k (Some r) = built_at note (filter (fits n note k r.0) (choice.Only k ∷ places)) r.1

abbrev pub built_node : Bool → Kind → ℕ → Stack → Stack
built_node note k n stack = built_of n (outer note k) k (parted (line_of_kind k) n [] stack)

abbrev pub built_list : Stack → Stack
built_list (stood n false ps ∷ stack) = joined n false ps ∷ begun kind.List ∷ stack
built_list _ = lost ∷ []

-- ---- symbols

abbrev pub step_built : Bool → Kind → ℕ → Stack → Stack
step_built note kind.None zero stack = absent ∷ stack
step_built note kind.List zero stack = begun kind.List ∷ stack
step_built note kind.File zero stack = begun kind.File ∷ stack
step_built note kind.List (suc zero) stack = built_list stack
step_built note k n stack = built_node note k n stack

abbrev pub step_taken : Bool → Tokens → Stack → Stack
step_taken note (tokens.Word w) stack = written note (a_word w) ∷ stack
step_taken note (tokens.Mark m) stack = written note (a_mark m) ∷ stack
step_taken note _ stack = lost ∷ []

abbrev pub says_lexeme : Lexeme → Text
says_lexeme l = says (lexeme_text l) (l ∷ [])

abbrev pub step_kept : Bool → Tokens → Stack → List Stack
step_kept note tokens.Name stack = (told note (simple big) ∷ stack) ∷ []
step_kept note (tokens.NameOf f) stack = (told note (ruled f) ∷ stack) ∷ []
step_kept note tokens.Number stack = (told note (simple number) ∷ stack) ∷ []
step_kept note set stack = map (λ w. told note (says_lexeme (a_word w)) ∷ stack) (words_of set) ++ map (λ m. told note (says_lexeme (a_mark m)) ∷ stack) (marks_of set)

abbrev pub step_joined : Stack → Stack
step_joined (stood n c ps ∷ stack) = joined n c ps ∷ stack
step_joined _ = lost ∷ []

abbrev pub step_noted : Stack → Stack
step_noted (stood n false ps ∷ waiting ∷ stack) = stood n true ps ∷ stack
step_noted _ = lost ∷ []

abbrev pub step_lowered : Stack → Stack
step_lowered (told true (simple big) ∷ stack) = told true (simple small) ∷ stack
step_lowered (told true (ruled f) ∷ stack) = told true (by_rule f) ∷ stack
step_lowered (written n l ∷ told true (simple big) ∷ stack) = written n l ∷ told true (simple small) ∷ stack
step_lowered _ = lost ∷ []

-- parts of a key
abbrev pub words_in : Text → Option (List Word)
words_in (simple w) = Some (w ∷ [])
words_in (dotted ws) = Some ws
words_in (says t ls) = if_so (bytes_eq t (codes "entry") && pointwise same_lexeme ls (a_word word.Entry ∷ [])) (Some (entry ∷ []))
words_in _ = None

abbrev pub dotted_of : Option (List Word) → Option (List Word) → Stack → Stack
dotted_of (Some ws) (Some vs) stack = told true (dotted (ws ++ vs)) ∷ stack
dotted_of _ _ stack = lost ∷ []

abbrev pub step_dotted : Stack → Stack
step_dotted (told true t ∷ written true l ∷ told true u ∷ stack) = if same_lexeme l (a_mark mark.Dot) then dotted_of (words_in u) (words_in t) stack else lost ∷ []
step_dotted _ = lost ∷ []

abbrev pub step_at : Stack → Stack
step_at (told true (simple small) ∷ written true l ∷ told true (simple big) ∷ stack) = if same_lexeme l (a_mark mark.AtSign) then told true (simple named) ∷ stack else lost ∷ []
step_at (told true (simple small) ∷ told true (says t ls) ∷ written true l ∷ written true m ∷ stack) =
    if (same_lexeme l (a_mark mark.AtSign) && same_lexeme m (a_word word.Return)) && (bytes_eq t (codes "return") && is_empty ls) then told true (simple named) ∷ stack else lost ∷ []
step_at _ = lost ∷ []

abbrev pub step_pasted : ℕ → Stack → Stack
step_pasted between (told n (says t ls) ∷ told o (says u ms) ∷ stack) = if is_side n o then told n (says (u ++ between ∷ t) (ms ++ ls)) ∷ stack else lost ∷ []
step_pasted between stack = if between == byte.at_sign then step_at stack else (if between == byte.dot then step_dotted stack else lost ∷ [])
