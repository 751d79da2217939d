-- Each way to read a node gives rests that its spellings leave.
use Rattle.std.proofs.Common.{◌≡◌, ℕ, zero, suc, List, [], ◌∷◌, drop, Bool, true, false, not, ◌&&◌, ◌||◌, refl, sym, ◌∙◌, ap, subst, Option, Some, None, flat_map, bytes_eq}
use Rattle.std.proofs.lemmas.Bool.{not-true, and_parts}
use Rattle.std.specs.List.{list_all}
use Rattle.ada_tree.specs.declared.kind.Kind.{Kind}
use Rattle.ada_tree.specs.declared.kind.Kind.TheVariants as kind
use Rattle.ada_tree.specs.declared.word.Word.TheVariants as word
use Rattle.ada_tree.specs.declared.word.Mark.{Mark}
use Rattle.ada_tree.specs.declared.word.Mark.TheVariants as mark
use Rattle.ada_tree.specs.declared.grammar.Choice.{Choice}
use Rattle.ada_tree.specs.declared.grammar.Choice.TheVariants as choice
use Rattle.ada_tree.specs.declared.grammar.Shape.{Shape}
use Rattle.ada_tree.specs.declared.grammar.Shape.TheVariants.{One, Any, Many, Listed, MaybeListed, ForAll}
use Rattle.ada_tree.specs.declared.grammar.Piece.{Piece}
use Rattle.ada_tree.specs.declared.grammar.Piece.TheVariants.{Word as a_word_piece, Mark as a_mark_piece, Own, Kid, Members, Arguments, Option as Optional, Shown, End, Indent, Outdent, Glue, NoteOn, NoteOff}
use Rattle.ada_tree.specs.declared.grammar.Argument.{Argument}
use Rattle.ada_tree.specs.declared.grammar.Argument.TheVariants as argument
use Rattle.ada_tree.specs.declared.node.Node.{Node, Node-F, roll-Node, out-roll-Node}
use Rattle.ada_tree.specs.Kinds.{is_kind}
use Rattle.ada_tree.specs.Nodes.{kind_of, text_of, notes_of, kids_of, node_of, is_empty, is_silent, is_list, is_empty_list, is_none, are_empty}
use Rattle.ada_tree.specs.Tokens.{a_word, a_mark, Event, spelled, comments}
use Rattle.ada_tree.specs.Items.{lexemes}
use Rattle.ada_tree.specs.Choices.{stands, opens, comments_of}
use Rattle.ada_tree.specs.Lines.{line}
use Rattle.ada_tree.specs.Rules.{arguments_of}
use Rattle.ada_tree.specs.Texts.{fits_own, own_items, may_be_omitted, is_comment}
use Rattle.ada_tree.specs.Spelling.{after_end, has_place, are_components, is_consistent, starts_with_comments, ends_with_comments, keeps_comments, argument_place, listed_place, SpellsNode, SpellsKid, SpellsMembers, SpellsListed, SpellsLine, SpellsArguments, by_line, in_parentheses, one, any, many, listed, some_listed, none_listed, some_variables, no_variables, end_with_comments, end_without, member_with_comments, member_without, last, and_more, done, its_word, its_mark, its_text, omitted, its_kid, its_members, its_arguments, given, left_out, shown, hidden, laid_out, note_begins, note_ends, no_more, an_argument, in_number, no_in_number, a_list, no_list}
use Rattle.ada_tree.proofs.Trees.{Tree, Forest, tree, no_trees, ◌&◌, grown, all_grown, folded, all_folded}
use Rattle.ada_tree.proofs.evaluator.Ways.{Every, no_element, every_append, every_flat, every_map, Way, guarded, is_token, token_is, takes_token, Gives, fails_gives, nothing_gives, sequence_gives, either_gives, choose_gives, guarded_gives, token_gives, tokens_give, comments_give, after_token, after_comments, before_token, weaker}
use Rattle.ada_tree.proofs.evaluator.Lines.{Ways, silent, empty_list, left_out_part, empty_lists, are_component_ways, consistent, member_ways, listed_ways, placed, with_first, in_number_ways, list_argument_ways, last_argument_ways, argument_ways, line_ways, plain_ways, bracketed, kid_ways, node_ways, all_ways, layer_ways}

-- as the arguments of a step
abbrev SpellsAsArguments : Bool → List Argument → Node → List Event → List Event → Type 0
SpellsAsArguments note those node events rest = (is_list node && is_silent node ≡ true) × SpellsArguments note those (kids_of node) events rest

pub record Sound (w : Ways) (n : Node) : Type 0 where
  pub kind : kind_of n ≡ w.kind
  pub text : text_of n ≡ w.text
  pub notes : notes_of n ≡ w.notes
  pub without_kids : is_empty (kids_of n) ≡ w.without_kids
  pub components : are_components (kids_of n) ≡ w.components
  pub node : (note : Bool) (place : Choice) → Gives (w.node note place) (SpellsNode note place n)
  pub kid : (note : Bool) (shape : Shape) → Gives (w.kid note shape) (SpellsKid note shape n)
  pub arguments : (note : Bool) (those : List Argument) → Gives (w.arguments note those) (SpellsAsArguments note those n)

pub data AllSound : List Ways → List Node → Type 0 where
  no_ways : AllSound [] []
  some_ways : {w : Ways} {n : Node} {ws : List Ways} {ns : List Node} → Sound w n → AllSound ws ns → AllSound (w ∷ ws) (n ∷ ns)

-- ---- tests give the same

pub silent_same : {w : Ways} {n : Node} → Sound w n → is_silent n ≡ silent w
silent_same s = ap is_empty s.notes

pub empty_list_same : {w : Ways} {n : Node} → Sound w n → is_empty_list n ≡ empty_list w
empty_list_same {w = w} {n = n} s =
    ap (λ (k : Kind). (is_kind k kind.List && is_empty (text_of n)) && is_empty (notes_of n) && is_empty (kids_of n)) s.kind
    ∙ ap (λ (text : List ℕ). (is_kind w.kind kind.List && is_empty text) && is_empty (notes_of n) && is_empty (kids_of n)) s.text
    ∙ ap (λ (notes : List (List ℕ)). (is_kind w.kind kind.List && is_empty w.text) && is_empty notes && is_empty (kids_of n)) s.notes
    ∙ ap (λ (b : Bool). (is_kind w.kind kind.List && is_empty w.text) && is_empty w.notes && b) s.without_kids

pub none_same : {w : Ways} {n : Node} → Sound w n → is_none n ≡ left_out_part w
none_same {w = w} {n = n} s =
    ap (λ (k : Kind). is_kind k kind.None && is_empty (text_of n) && is_empty (notes_of n) && is_empty (kids_of n)) s.kind
    ∙ ap (λ (text : List ℕ). is_kind w.kind kind.None && is_empty text && is_empty (notes_of n) && is_empty (kids_of n)) s.text
    ∙ ap (λ (notes : List (List ℕ)). is_kind w.kind kind.None && is_empty w.text && is_empty notes && is_empty (kids_of n)) s.notes
    ∙ ap (λ (b : Bool). is_kind w.kind kind.None && is_empty w.text && is_empty w.notes && b) s.without_kids

pub empty_lists_same : (count : ℕ) {ws : List Ways} {ns : List Node} → AllSound ws ns → are_empty count ns ≡ empty_lists count ws
empty_lists_same zero all = refl
empty_lists_same (suc count) no_ways = refl
empty_lists_same (suc count) (some_ways {w = w} {n = n} {ws = ws} {ns = ns} s all) =
    ap (λ (b : Bool). b && are_empty count ns) (empty_list_same s) ∙ ap (λ (b : Bool). empty_list w && b) (empty_lists_same count all)

pub drop_sound : (count : ℕ) {ws : List Ways} {ns : List Node} → AllSound ws ns → AllSound (drop count ws) (drop count ns)
drop_sound zero all = all
drop_sound (suc count) no_ways = no_ways
drop_sound (suc count) (some_ways {w = w} {n = n} {ws = ws} {ns = ns} s all) = drop_sound count all

pub empty_same : {ws : List Ways} {ns : List Node} → AllSound ws ns → is_empty ns ≡ is_empty ws
empty_same no_ways = refl
empty_same (some_ways {w = w} {n = n} {ws = ws} {ns = ns} s all) = refl

pub no_nodes : {ws : List Ways} {ns : List Node} → AllSound ws ns → is_empty ws ≡ true → ns ≡ []
no_nodes no_ways h = refl
no_nodes (some_ways {w = w} {n = n} {ws = ws} {ns = ns} s all) h = absurd cc

components_same : {ws : List Ways} {ns : List Node} → AllSound ws ns → are_components ns ≡ are_component_ways ws
components_same no_ways = refl
components_same (some_ways s no_ways) = ap (λ (k : Kind). is_kind k kind.Assoc) s.kind
components_same (some_ways s (some_ways r all)) = refl

pub consistent_same : (k : Kind) (text : List ℕ) {ws : List Ways} {ns : List Node} → AllSound ws ns → is_consistent k text ns ≡ consistent k text ws
consistent_same kind.SubBody text all = named all
  where
    named : {ws : List Ways} {ns : List Node} → AllSound ws ns → is_consistent kind.SubBody text ns ≡ consistent kind.SubBody text ws
    named no_ways = refl
    named (some_ways s more) = ap (λ (x : List ℕ). bytes_eq x text) s.text
consistent_same kind.Aggr text all = joined all
  where
    joined : {ws : List Ways} {ns : List Node} → AllSound ws ns → is_consistent kind.Aggr text ns ≡ consistent kind.Aggr text ws
    joined no_ways = refl
    joined (some_ways s more) = s.components
consistent_same _ text all = refl

no_notes : (notes : List (List ℕ)) → is_empty notes ≡ true → notes ≡ []
no_notes [] h = refl
no_notes (x ∷ xs) h = absurd cc

-- ---- lists

members_sound : {ws : List Ways} {ns : List Node} → AllSound ws ns → (note : Bool) (place : Choice) (first : Bool) (notes : List (List ℕ)) → Gives (member_ways ws note place first notes) (SpellsMembers note place first ns notes)
members_sound no_ways note place first notes =
    choose_gives (ends_with_comments (comments_of place))
    (λ e. guarded_gives (list_all is_comment notes) (λ c. weaker (comments_give notes)
    (λ events rest h. subst (λ (xs : List Event). SpellsMembers note place first [] notes xs rest) (sym h) (end_with_comments e c))))
    (λ e. guarded_gives (is_empty notes) (λ z. nothing_gives
    (λ events. subst (λ (xs : List (List ℕ)). SpellsMembers note place first [] xs events events) (sym (no_notes notes z)) (end_without e))))
members_sound (some_ways {w = w} {n = n} {ws = ws} {ns = ns} s all) note place first notes =
    choose_gives (starts_with_comments (comments_of place) first)
    (λ e. guarded_gives (list_all is_comment w.notes) (λ c. after_comments {S = λ events rest. SpellsMembers note place first (n ∷ ns) notes (comments (notes_of n) ∷ events) rest} w.notes
    (sequence_gives (s.node note place) (members_sound all note place false notes)
    (λ events middle rest d ds. member_with_comments e (ap (list_all is_comment) s.notes ∙ c) d ds))
    (λ events rest d. subst (λ (xs : List (List ℕ)). SpellsMembers note place first (n ∷ ns) notes (comments xs ∷ events) rest) s.notes d)))
    (λ e. guarded_gives (keeps_comments (comments_of place) || silent w) (λ q. sequence_gives (s.node note place) (members_sound all note place false notes)
    (λ events middle rest d ds. member_without e (ap (λ (b : Bool). keeps_comments (comments_of place) || b) (silent_same s) ∙ q) d ds)))

listed_sound : {ws : List Ways} {ns : List Node} → AllSound ws ns → (note : Bool) (place : Choice) (m : Mark) → Gives (listed_ways ws note place m) (SpellsListed note place m ns)
listed_sound no_ways note place m = fails_gives
listed_sound (some_ways {w = w} {n = n} {ws = ws} {ns = ns} s all) note place m =
    guarded_gives (silent w) (λ q. either_gives
    (guarded_gives (is_empty ws) (λ z. weaker (s.node note place)
    (λ events rest d. subst (λ (ks : List Node). SpellsListed note place m (n ∷ ks) events rest) (sym (no_nodes all z)) (last (silent_same s ∙ q) d))))
    (sequence_gives (before_token note (a_mark m) (s.node note place) (λ events rest d. d)) (listed_sound all note place m) (λ events middle rest d ds. and_more (silent_same s ∙ q) d ds)))

-- ---- arguments of proof steps

placed_gives : {way : Choice → Way} {R : List Event → List Event → Type 0} (o : Option Choice) → ((place : Choice) → o ≡ Some place → Gives (way place) R) → Gives (placed o way) R
placed_gives None g = fails_gives
placed_gives (Some place) g = g place refl

first_gives : {way : Ways → List Ways → Way} (R : List Node → List Event → List Event → Type 0) {ws : List Ways} {ns : List Node} → AllSound ws ns
    → ((w : Ways) (more : List Ways) (n : Node) (others : List Node) → Sound w n → AllSound more others → Gives (way w more) (R (n ∷ others)))
    → Gives (with_first ws way) (R ns)
first_gives R no_ways g = fails_gives
first_gives R (some_ways {w = w} {n = n} {ws = ws} {ns = ns} s all) g = g w ws n ns s all

in_number_sound : {ws : List Ways} {ns : List Node} → AllSound ws ns → (note : Bool) → Gives (in_number_ways ws note) (SpellsArguments note (argument.InNumber ∷ []) ns)
in_number_sound no_ways note = nothing_gives (λ events. no_in_number)
in_number_sound (some_ways {w = w} s no_ways) note =
    guarded_gives (silent w) (λ q. after_token note (a_word word.In) (s.node note (choice.Only kind.Int)) (λ events rest d. in_number (silent_same s ∙ q) d))
in_number_sound (some_ways s (some_ways r all)) note = fails_gives

list_argument_sound : (a : Argument) (place : Choice) → listed_place a ≡ Some place → {ws : List Ways} {ns : List Node} → AllSound ws ns → (note : Bool)
    → Gives (list_argument_ways ws note place) (SpellsArguments note (a ∷ []) ns)
list_argument_sound a place p no_ways note = nothing_gives (λ events. no_list p)
list_argument_sound a place p (some_ways s all) note =
    after_token note (a_mark mark.Open)
    (before_token note (a_mark mark.Close) (listed_sound (some_ways s all) note place mark.Comma) (λ events rest d. d))
    (λ events rest d. a_list p d)

last_argument_sound : (a : Argument) (others : List Argument) {ws : List Ways} {ns : List Node} → AllSound ws ns → (note : Bool)
    → Gives (last_argument_ways a others ws note) (SpellsArguments note (a ∷ others) ns)
last_argument_sound a (other ∷ others) all note = fails_gives
last_argument_sound argument.InNumber [] all note = in_number_sound all note
last_argument_sound a [] all note = placed_gives (listed_place a) (λ place p. list_argument_sound a place p all note)

arguments_sound : (those : List Argument) {ws : List Ways} {ns : List Node} → AllSound ws ns → (note : Bool) → Gives (argument_ways those ws note) (SpellsArguments note those ns)
arguments_sound [] {ws = ws} all note =
    guarded_gives (is_empty ws) (λ z. nothing_gives (λ events. subst (λ (ks : List Node). SpellsArguments note [] ks events events) (sym (no_nodes all z)) no_more))
arguments_sound (a ∷ others) all note = either_gives
    (first_gives (SpellsArguments note (a ∷ others)) all (λ w more n ms s alls. placed_gives (argument_place a) (λ place p. guarded_gives (silent w)
    (λ q. sequence_gives (s.node note place) (arguments_sound others alls note) (λ events middle rest d ds. an_argument p (silent_same s ∙ q) d ds)))))
    (last_argument_sound a others all note)

-- ---- lines

-- what is left of the line where a part of it may be left out up to its end
abbrev pub seen : Bool → List Piece → List Piece
seen true pieces = after_end pieces
seen false pieces = pieces

line_sound : (pieces : List Piece) (skips note : Bool) (n : Node) {ws : List Ways} {ns : List Node} → AllSound ws ns
    → Gives (line_ways pieces skips note (text_of n) (notes_of n) ws) (SpellsLine note (seen skips pieces) n ns)
line_sound [] true note n {ws = ws} all =
    guarded_gives (is_empty ws) (λ z. nothing_gives (λ events. subst (λ (ks : List Node). SpellsLine note [] n ks events events) (sym (no_nodes all z)) done))
line_sound [] false note n {ws = ws} all =
    guarded_gives (is_empty ws) (λ z. nothing_gives (λ events. subst (λ (ks : List Node). SpellsLine note [] n ks events events) (sym (no_nodes all z)) done))
line_sound (End ∷ pieces) true note n all = line_sound pieces false note n all
line_sound (End ∷ pieces) false note n all = weaker (line_sound pieces false note n all) (λ events rest d. laid_out refl d)
line_sound (_ ∷ pieces) true note n all = line_sound pieces true note n all
line_sound (a_word_piece w ∷ pieces) false note n all = after_token note (a_word w) (line_sound pieces false note n all) (λ events rest d. its_word d)
line_sound (a_mark_piece m ∷ pieces) false note n all = after_token note (a_mark m) (line_sound pieces false note n all) (λ events rest d. its_mark d)
line_sound (Own own ∷ pieces) false note n all =
    guarded_gives (fits_own note own (text_of n)) (λ f. either_gives
    (sequence_gives (tokens_give note (lexemes (own_items own (text_of n)))) (line_sound pieces false note n all) (λ events middle rest e d. its_text f e d))
    (guarded_gives (may_be_omitted own (text_of n)) (λ m. weaker (line_sound pieces false note n all) (λ events rest d. omitted f m d))))
line_sound (Kid shape ∷ pieces) false note n all =
    first_gives (SpellsLine note (Kid shape ∷ pieces) n) all
    (λ w more k ks s alls. sequence_gives (s.kid note shape) (line_sound pieces false note n alls) (λ events middle rest d ds. its_kid d ds))
line_sound (Members place ∷ []) false note n all = weaker (members_sound all note place true (notes_of n)) (λ events rest d. its_members d)
line_sound (Members place ∷ piece ∷ pieces) false note n all = fails_gives
line_sound (Arguments ∷ pieces) false note n all =
    first_gives (SpellsLine note (Arguments ∷ pieces) n) all
    (λ w more k ks s alls. sequence_gives (s.arguments note (arguments_of (text_of n))) (line_sound pieces false note n alls)
    (λ events middle rest d ds. let p = and_parts (is_list k) (is_silent k) d.0 in its_arguments p.0 p.1 d.1 ds))
line_sound (Optional ∷ pieces) false note n all = either_gives
    (weaker (line_sound pieces false note n all) (λ events rest d. given d))
    (first_gives (SpellsLine note (Optional ∷ pieces) n) all
    (λ w more k ks s alls. guarded_gives (left_out_part w) (λ e. weaker (line_sound pieces true note n alls) (λ events rest d. left_out (none_same s ∙ e) d))))
line_sound (Shown count ∷ pieces) false note n {ws = ws} all =
    choose_gives (empty_lists count ws)
    (λ e. weaker (line_sound pieces true note n (drop_sound count all)) (λ events rest d. hidden (empty_lists_same count all ∙ e) d))
    (λ e. weaker (line_sound pieces false note n all) (λ events rest d. shown (empty_lists_same count all ∙ e) d))
line_sound (Indent ∷ pieces) false note n all = weaker (line_sound pieces false note n all) (λ events rest d. laid_out refl d)
line_sound (Outdent ∷ pieces) false note n all = weaker (line_sound pieces false note n all) (λ events rest d. laid_out refl d)
line_sound (Glue ∷ pieces) false note n all = weaker (line_sound pieces false note n all) (λ events rest d. laid_out refl d)
line_sound (NoteOn ∷ pieces) false true n all = fails_gives
line_sound (NoteOn ∷ pieces) false false n all = weaker (line_sound pieces false true n all) (λ events rest d. note_begins d)
line_sound (NoteOff ∷ pieces) false true n all = weaker (line_sound pieces false false n all) (λ events rest d. note_ends d)
line_sound (NoteOff ∷ pieces) false false n all = fails_gives

-- ---- nodes

plain_sound : (n : Node) (ws : List Ways) → AllSound ws (kids_of n) → (note : Bool) (place : Choice) → Gives (plain_ways (kind_of n) (text_of n) (notes_of n) ws note place) (SpellsNode note place n)
plain_sound n ws all note place =
    guarded_gives (stands note place (kind_of n) (text_of n)) (λ stood. guarded_gives (has_place (line place (kind_of n) (text_of n)) (text_of n) && consistent (kind_of n) (text_of n) ws) (λ h.
    let p = and_parts (has_place (line place (kind_of n) (text_of n)) (text_of n)) (consistent (kind_of n) (text_of n) ws) h in
    weaker (line_sound (line place (kind_of n) (text_of n)) false note n all)
    (λ events rest d. by_line stood p.0 (consistent_same (kind_of n) (text_of n) all ∙ p.1) d)))

bracketed_every : (note : Bool) (plain : Choice → Way) (n : Node) → ((place : Choice) → Gives (plain place) (SpellsNode note place n)) → (place : Choice) (events : List Event)
    → Every (SpellsNode note place n events) (bracketed note plain place events)
bracketed_every note plain n g place [] = (g place).at []
bracketed_every note plain n g place (event ∷ events) =
    every_append (plain place (event ∷ events)) ((g place).at (event ∷ events))
    (by_test (bracketed_every note plain n g choice.Expr events) (opens place && is_token note (a_mark mark.Open) event) refl)
  where
    by_test : Every (SpellsNode note choice.Expr n events) (bracketed note plain choice.Expr events) → (test : Bool) → opens place && is_token note (a_mark mark.Open) event ≡ test
        → Every (SpellsNode note place n (event ∷ events)) (guarded test (λ all. flat_map (takes_token note (a_mark mark.Close)) (bracketed note plain choice.Expr events)) (event ∷ events))
    by_test each false e = no_element
    by_test each true e =
        let p = and_parts (opens place) (is_token note (a_mark mark.Open) event) e in
        every_flat (takes_token note (a_mark mark.Close))
        (λ middle d. every_map (takes_token note (a_mark mark.Close) middle)
        (λ rest closed. subst (λ (x : Event). SpellsNode note place n (x ∷ events) rest) (sym (token_is note (a_mark mark.Open) event p.1)) (in_parentheses p.0 (subst (SpellsNode note choice.Expr n events) closed d)))
        ((token_gives note (a_mark mark.Close)).at middle))
        (bracketed note plain choice.Expr events) each

node_sound : (n : Node) (ws : List Ways) → AllSound ws (kids_of n) → (note : Bool) (place : Choice) → Gives (node_ways (kind_of n) (text_of n) (notes_of n) ws note place) (SpellsNode note place n)
node_sound n ws all note place = record {
  at = bracketed_every note (plain_ways (kind_of n) (text_of n) (notes_of n) ws note) n (plain_sound n ws all note) place;
}

kid_sound : (n : Node) (node : Choice → Way) (ws : List Ways) (empty note : Bool) → AllSound ws (kids_of n) → is_empty_list n ≡ empty → ((place : Choice) → Gives (node place) (SpellsNode note place n)) → (shape : Shape)
    → Gives (kid_ways (is_list n) (is_silent n) empty node ws (notes_of n) note shape) (SpellsKid note shape n)
kid_sound n node ws empty note all e g (One place) = guarded_gives (is_silent n) (λ q. weaker (g place) (λ events rest d. one q d))
kid_sound n node ws empty note all e g (Any place) = guarded_gives (is_list n) (λ l. weaker (members_sound all note place true (notes_of n)) (λ events rest d. any l d))
kid_sound n node ws empty note all e g (Many place) =
    guarded_gives (is_list n && not (is_empty ws)) (λ h.
    let p = and_parts (is_list n) (not (is_empty ws)) h in
    weaker (members_sound all note place true (notes_of n)) (λ events rest d. many p.0 (empty_same all ∙ not-true (is_empty ws) p.1) d))
kid_sound n node ws empty note all e g (Listed place m) =
    guarded_gives (is_list n && is_silent n) (λ h.
    let p = and_parts (is_list n) (is_silent n) h in
    weaker (listed_sound all note place m) (λ events rest d. listed p.0 p.1 d))
kid_sound n node ws empty note all e g (MaybeListed place m) = either_gives
    (guarded_gives (is_list n && is_silent n) (λ h.
    let p = and_parts (is_list n) (is_silent n) h in
    weaker (listed_sound all note place m) (λ events rest d. some_listed p.0 p.1 d)))
    (guarded_gives empty (λ h. nothing_gives (λ events. none_listed (e ∙ h))))
kid_sound n node ws empty note all e g ForAll = either_gives
    (guarded_gives (is_list n && is_silent n) (λ h.
    let p = and_parts (is_list n) (is_silent n) h in
    after_token {S = λ events rest. SpellsKid note ForAll n (spelled note (a_word word.For) ∷ events) rest} note (a_word word.For)
    (after_token note (a_word word.All) (listed_sound all note (choice.Only kind.Vars) mark.Semicolon) (λ events rest d. some_variables p.0 p.1 d))
    (λ events rest d. d)))
    (guarded_gives empty (λ h. nothing_gives (λ events. no_variables (e ∙ h))))

pub layer_sound : (n : Node) (ws : List Ways) → AllSound ws (kids_of n) → Sound (all_ways (kind_of n) (text_of n) (notes_of n) ws) n
layer_sound n ws all = record {
  kind = refl;
  text = refl;
  notes = refl;
  without_kids = empty_same all;
  components = components_same all;
  node = λ note place. node_sound n ws all note place;
  kid = λ note shape. kid_sound n (node_ways (kind_of n) (text_of n) (notes_of n) ws note) ws (is_list n && is_silent n && is_empty ws) note all
      (ap (λ (b : Bool). is_list n && is_silent n && b) (empty_same all)) (node_sound n ws all note) shape;
  arguments = λ note those. guarded_gives (is_list n && is_silent n) (λ h. weaker (arguments_sound those all note) (λ events rest d. (h, d)));
}

-- ---- trees

grown_sound : (k : Kind) (text : List ℕ) (notes : List (List ℕ)) (ns : List Node) (ws : List Ways) → AllSound ws ns → Sound (all_ways k text notes ws) (node_of k text notes ns)
grown_sound k text notes ns ws all =
    let layer : Node-F Node = record { kind = k; text = text; notes = notes; kids = ns } in
    subst (λ (l : Node-F Node). Sound (all_ways l.kind l.text l.notes ws) (roll-Node layer)) (out-roll-Node layer)
    (layer_sound (roll-Node layer) ws (subst (λ (l : Node-F Node). AllSound ws l.kids) (sym (out-roll-Node layer)) all))

mutual
  pub tree_sound : (t : Tree) → Sound (folded Ways layer_ways t) (grown t)
  tree_sound (tree k text notes kids) = grown_sound k text notes (all_grown kids) (all_folded Ways layer_ways kids) (forest_sound kids)

  pub forest_sound : (ts : Forest) → AllSound (all_folded Ways layer_ways ts) (all_grown ts)
  forest_sound no_trees = no_ways
  forest_sound (t & ts) = some_ways (tree_sound t) (forest_sound ts)
