-- Documents of files that were read, and what is written of them.
use Rattle.std.proofs.Common.{◌≡◌, ℕ, ◌+◌, ◌≤◌, List, [], ◌∷◌, refl, sym, ap, subst, Bool, true, false, map, if◌then◌else◌, arith}
use Rattle.std.specs.Prelude.{Some, Contains}
use Rattle.std.specs.List.{All}
use Rattle.std.proofs.lemmas.List.Elements.{All-nil, All-cons, All-head, All-tail, All-weaker}
use Rattle.ada_tree.specs.declared.kind.Kind.{Kind}
use Rattle.ada_tree.specs.declared.kind.Kind.TheVariants as kind
use Rattle.ada_tree.specs.declared.limits.TheConstants.{MOST_NESTED, MOST_NESTED_STEPS}
use Rattle.ada_tree.specs.declared.grammar.Choice.TheVariants.{Only}
use Rattle.ada_tree.specs.declared.node.Node.{Node, Node-F, out-Node, fold-roll-Node, out-roll-Node}
use Rattle.ada_tree.specs.Nodes.{kids_of, nesting_of, greatest, is_nested, is_step}
use Rattle.ada_tree.specs.Choices.{stands}
use Rattle.ada_tree.specs.Lines.{line}
use Rattle.ada_tree.specs.Fits.{Fits}
use Rattle.ada_tree.specs.Reading.{IsReading}
use Rattle.ada_tree.specs.Rendering.{file_text}
use Rattle.ada_tree.specs.Tokens.{Event}
use Rattle.ada_tree.specs.Spelling.{has_place, is_consistent, SpellsNode, SpellsMembers, SpellsLine, by_line, its_members, end_without, member_without}
use Rattle.lex_ada.specs.declared.token.Token.{Token}
use Rattle.lex_ada.specs.Lexis.{AreTokens}
use Rattle.lex_ada.specs.Meanings.{meanings}
use Rattle.text_laws.proofs.round_trip.Law.{canonical_spelling}
use Rattle.text_read.specs.Files.{file_part}
use Rattle.text_read.specs.Fragments.{IsText}
use Rattle.file_laws.specs.Documents.{HasText, document}

-- ---- the files are spelled one after another

record AreSpelled (first : Bool) (files : List Node) : Type 0 where
  pub events : List Event
  pub spelling : SpellsMembers false (Only kind.File) first files [] events []

files_spelled : (first : Bool) (files : List Node) → All HasText files → AreSpelled first files
files_spelled first [] h = record { events = []; spelling = end_without refl }
files_spelled first (file ∷ files) h =
    let own = canonical_spelling (All-head HasText file files h).text.reads.reading.spelling in
    let others = files_spelled false files (All-tail HasText file files h) in
    record { events = own.events others.events; spelling = member_without refl refl (own.spelling others.events) others.spelling }

abbrev root_layer : List Node → Node-F Node
root_layer files = record { kind = kind.Doc; text = []; notes = []; kids = files }

root_spelled : {events : List Event} (node : Node) (files : List Node) → root_layer files ≡ out-Node node → SpellsMembers false (Only kind.File) true files [] events [] → SpellsNode false (Only kind.Doc) node events []
root_spelled {events = events} node files e d =
    let place = Only kind.Doc in
    by_line (subst (λ (layer : Node-F Node). stands false place layer.kind layer.text ≡ true) e refl)
    (subst (λ (layer : Node-F Node). has_place (line place layer.kind layer.text) layer.text ≡ true) e refl)
    (subst (λ (layer : Node-F Node). is_consistent layer.kind layer.text layer.kids ≡ true) e refl)
    (subst (λ (layer : Node-F Node). SpellsLine false (line place layer.kind layer.text) node layer.kids events []) e
    (its_members (subst (λ (layer : Node-F Node). SpellsMembers false (Only kind.File) true files layer.notes events []) e d)))

pub kids_made : (files : List Node) → kids_of (document files) ≡ files
kids_made files = ap (λ (layer : Node-F Node). layer.kids) (out-roll-Node (root_layer files))

-- ---- they are nested no deeper than the limits

none_deeper : (test : Kind → Bool) (bound : ℕ) (files : List Node) → All (λ file. nesting_of test file ≤ bound) files → greatest (map (nesting_of test) files) ≤ bound
none_deeper test bound [] h = omega arith
none_deeper test bound (file ∷ files) h =
    let own = All-head (λ file. nesting_of test file ≤ bound) file files h in
    let others = none_deeper test bound files (All-tail (λ file. nesting_of test file ≤ bound) file files h) in
    omega (arith, own, others)

nested_within : (test : Kind → Bool) (bound : ℕ) (files : List Node) → test kind.Doc ≡ false → All (λ file. nesting_of test file ≤ bound) files → nesting_of test (document files) ≤ bound
nested_within test bound files t h =
    let e : nesting_of test (document files) ≡ (if test kind.Doc then 1 else 0) + greatest (map (nesting_of test) files) = fold-roll-Node ℕ (λ layer. (if test layer.kind then 1 else 0) + greatest layer.kids) (root_layer files) in
    let none : ◌≡◌ {A = ℕ} (if test kind.Doc then 1 else 0) 0 = rw t refl in
    let all = none_deeper test bound files h in
    omega (arith, e, none, all)

pub files_fit : (files : List Node) → All HasText files → Fits (document files)
files_fit files h =
    let spelled = files_spelled true files h in
    record {
      events = spelled.events;
      spelling = root_spelled (document files) files (sym (out-roll-Node (root_layer files))) spelled.spelling;
      nested = record {
        nodes = nested_within is_nested MOST_NESTED files refl (All-weaker HasText (λ file. nesting_of is_nested file ≤ MOST_NESTED) (λ file has. let within = has.text.reads in omega (arith, within.nodes)) files h);
        steps = nested_within is_step MOST_NESTED_STEPS files refl (All-weaker HasText (λ file. nesting_of is_step file ≤ MOST_NESTED_STEPS) (λ file has. has.text.reads.steps) files h);
      };
    }

-- ---- what is written of a file

pub text_back : (file : Node) (tokens : List Token) → AreTokens (file_text (Some file)) tokens → IsReading false (Only kind.File) (meanings (file_text (Some file)) tokens) file → IsText file_part (file_text (Some file)) file
text_back file tokens fall reading = record {
  tokens = tokens;
  are_tokens = fall;
  reads = record { reading = reading.reading; nodes = omega (arith, reading.nested.nodes); steps = reading.nested.steps; opened = reading.opened };
}

-- ---- the document of one file

pub one_file : (bytes : List ℕ) (file : Node) → IsText file_part bytes file → All HasText (file ∷ [])
one_file bytes file text = All-cons HasText file [] record { bytes = bytes; text = text } (All-nil HasText)

pub its_file : (file : Node) → Contains (kids_of (document (file ∷ []))) file
its_file file = rw (kids_made (file ∷ [])) (0, omega arith, refl)
