-- What is done with the values, and the tokens that are kept, show in what limits see of the values as `rise` says, and leave the tags that the symbols leave.
use Rattle.std.proofs.Common.{◌≡◌, ℕ, List, [], ◌∷◌, ◌++◌, refl, sym, ◌∙◌, ap, subst, Some, Bool, true, false, ◌&&◌, take, append_assoc}
use Rattle.std.specs.Prelude.{if◌then◌else◌}
use Rattle.std.proofs.lemmas.Bool.{and_parts}
use Rattle.ada_tree.specs.declared.kind.Kind.{Kind}
use Rattle.ada_tree.specs.declared.node.Node.{Node, Node-F, out-roll-Node}
use Rattle.ada_tree.specs.Nodes.{kind_of, text_of, notes_of, kids_of, node_of}
use Rattle.ada_tree.specs.Tokens.{Lexeme}
use Rattle.ada_tree.specs.Words.{word_text}
use Rattle.reading_table.specs.declared.held.Held.{Held}
use Rattle.reading_table.specs.declared.held.Held.TheVariants as held
use Rattle.reading_table.specs.declared.need.Mass.{Mass}
use Rattle.reading_table.specs.declared.need.Mass.TheVariants as mass
use Rattle.reading_table.specs.declared.symbol.Symbol.{Symbol}
use Rattle.reading_table.specs.declared.symbol.Symbol.TheVariants as symbol
use Rattle.reading_table.specs.Heights.{masses, rise, least}
use Rattle.reading_table.specs.Reading.{view_in}
use Rattle.reading_table.specs.Rows.{Placed}
use Rattle.reading_table.specs.States.{State, text_in, nodes_in, lowered, with_notes, text_below, does, taken}
use Rattle.reading_table.specs.Tables.{token, done}
use Rattle.reading_limits.proofs.Steps.{are_many, are-append, cut, weighs, weighs_on, weigh, rises, rest_is, many_values, suits, suits_on, suit}
use Rattle.reading_limits.proofs.Tags.{Tag, a_text, a_list, a_tree, values, finds, leaves, move, moves, moved, steps}
use Rattle.reading_limits.proofs.Values.{built_is, is_plain, height_joined, height_noted}

-- ---- of lines, and what limits see

-- what limits see rises in front alone
pub record Raised (line : List Placed) (ms : List Mass) (out : List Tag) : Type 0 where
  pub leaving : weigh (least line ms) out ≡ true
  pub alone : (behind : List Mass) → least line (ms ++ behind) ≡ least line ms ++ behind

pub raised_along : (line : List Placed) (ms : List Mass) (tags out : List Tag) → weigh ms tags ≡ true → moves line tags ≡ Some out → Raised line ms out
raised_along [] ms tags out g h = let z : tags ≡ out = cc in record { leaving = subst (λ t. weigh ms t ≡ true) z g; alone = λ behind. refl }
raised_along (s ∷ ss) ms tags out g h =
    let p = steps s ss tags out h in
    let m = moved s.1 tags p.between p.step in
    let c = cut weighs weighs_on (finds s.1) tags m.rest ms g m.pops in
    let r = rises s.1 c.front c.behind c.fronts in
    let own : rise s.1 ms ≡ rise s.1 c.front ++ c.behind = ap (rise s.1) (sym c.whole) ∙ r.alone in
    let tagged = are-append weighs (rise s.1 c.front) c.behind (leaves s.1) m.rest r.leaving c.behinds in
    let go = raised_along ss (rise s.1 ms) p.between out (subst (λ x. weigh x p.between ≡ true) (sym own) (subst (λ t. weigh (rise s.1 c.front ++ c.behind) t ≡ true) m.is tagged)) p.onward in
    record { leaving = go.leaving; alone = λ behind. ap (least ss) (wide c.front c.behind behind c.whole c.fronts own) ∙ go.alone behind }
  where
    wide : (front below behind : List Mass) → front ++ below ≡ ms → weigh front (finds s.1) ≡ true → rise s.1 ms ≡ rise s.1 front ++ below → rise s.1 (ms ++ behind) ≡ rise s.1 ms ++ behind
    wide front below behind whole h own =
        let r = rises s.1 front (below ++ behind) h in
        let a : rise s.1 (ms ++ behind) ≡ rise s.1 (front ++ (below ++ behind)) = ap (rise s.1) (ap (λ x. x ++ behind) (sym whole) ∙ append_assoc front below behind) in
        let b : rise s.1 front ++ (below ++ behind) ≡ rise s.1 ms ++ behind = sym (append_assoc (rise s.1 front) below behind) ∙ ap (λ x. x ++ behind) (sym own) in
        a ∙ r.alone ∙ b

-- ---- of values

pub record Changed (s : Symbol) (before after : List Held) (out : List Tag) : Type 0 where
  pub weight : masses after ≡ rise s (masses before)
  pub suiting : suit after out ≡ true

-- what is made of the values that are found, in front of those below
record Made (s : Symbol) (front behind : List Held) (waiting : List (List ℕ)) : Type 0 where
  made : List Held
  is : (does s record { values = front ++ behind; waiting = waiting }).values ≡ made ++ behind
  fits : suit made (leaves s) ≡ true
  weight : masses (does s record { values = front ++ behind; waiting = waiting }).values ≡ rise s (masses (front ++ behind))

kind_at : (k : Kind) (text : List ℕ) (notes : List (List ℕ)) (kids : List Node) → kind_of (node_of k text notes kids) ≡ k
kind_at k text notes kids = ap (λ (layer : Node-F Node). layer.kind) (out-roll-Node record { kind = k; text = text; notes = notes; kids = kids })

abbrev built_node : Kind → ℕ → List Held → Node
built_node k n vs = node_of k (text_in (take n vs)) [] (nodes_in (take n vs))

made_built : (k : Kind) (n : ℕ) (front behind : List Held) (waiting : List (List ℕ)) → suit front (values n) ≡ true → Made (symbol.Build k n) front behind waiting
made_built k n front behind waiting h = record {
  made = held.Tree (built_node k n (front ++ behind)) ∷ [];
  is = ap (λ vs. held.Tree (built_node k n (front ++ behind)) ∷ vs) (rest_is front behind n (are_many suits front (values n) h ∙ many_values n));
  fits = by (is_plain k) refl;
  weight = built_is k n (front ++ behind);
}
  where
    by : (b : Bool) → is_plain k ≡ b → (suits (held.Tree (built_node k n (front ++ behind))) (if b then a_list else a_tree) && true) ≡ true
    by true e = ap (λ k. is_plain k && true) (kind_at k (text_in (take n (front ++ behind))) [] (nodes_in (take n (front ++ behind)))) ∙ ap (λ b. b && true) e
    by false e = refl

made_joined : (member list : Node) (behind : List Held) (waiting : List (List ℕ)) → (is_plain (kind_of list) && true) ≡ true → Made symbol.Join (held.Tree member ∷ held.Tree list ∷ []) behind waiting
made_joined member list behind waiting h =
    let plain : is_plain (kind_of list) ≡ true = (and_parts (is_plain (kind_of list)) true h).0 in
    record {
      made = held.Tree (node_of (kind_of list) (text_of list) (notes_of list) (kids_of list ++ member ∷ [])) ∷ [];
      is = refl;
      fits = ap (λ k. is_plain k && true) (kind_at (kind_of list) (text_of list) (notes_of list) (kids_of list ++ member ∷ [])) ∙ h;
      weight = ap (λ h. mass.Tree h ∷ masses behind) (height_joined member list plain);
    }

made_by : (note : Bool) (s : Symbol) (front behind : List Held) (waiting : List (List ℕ)) → view_in note s ≡ done → suit front (finds s) ≡ true → Made s front behind waiting
made_by note (symbol.Build k n) front behind waiting v h = made_built k n front behind waiting h
made_by note symbol.Join (held.Tree member ∷ held.Tree list ∷ []) behind waiting v h = made_joined member list behind waiting h
made_by note symbol.Join (held.Tree member ∷ held.Tree list ∷ other ∷ front) behind waiting v h = absurd (let z : false ≡ true = (and_parts (is_plain (kind_of list)) false h).1 in cc)
made_by note (symbol.Paste between) (held.Text back ∷ held.Text front ∷ []) behind waiting v h = record { made = held.Text (front ++ between ∷ back) ∷ []; is = refl; fits = refl; weight = refl }
made_by note symbol.Lower (held.Text text ∷ []) behind waiting v h = record { made = lowered (held.Text text ∷ []); is = refl; fits = refl; weight = refl }
made_by note symbol.Noted (held.Tree node ∷ held.Comments comments ∷ []) behind waiting v h =
    record { made = held.Tree (with_notes comments node) ∷ []; is = refl; fits = refl; weight = ap (λ h. mass.Tree h ∷ masses behind) (height_noted comments node) }
made_by note symbol.EndNotes (held.Tree node ∷ []) behind waiting v h = record { made = held.Tree (with_notes waiting node) ∷ []; is = refl; fits = refl; weight = ap (λ h. mass.Tree h ∷ masses behind) (height_noted waiting node) }
made_by note (symbol.Say w) [] behind waiting v h = record { made = held.Text (word_text w) ∷ []; is = refl; fits = refl; weight = refl }
made_by note (symbol.Recall depth) [] behind waiting v h = record { made = held.Text (text_below depth behind) ∷ []; is = refl; fits = refl; weight = refl }
made_by note symbol.Notes [] behind waiting v h = record { made = held.Comments waiting ∷ []; is = refl; fits = refl; weight = refl }
made_by note (symbol.Take set) front behind waiting v h = absurd (let z : token ≡ done = v in cc)
made_by note (symbol.Keep set) front behind waiting v h = absurd cc
made_by note (symbol.Closing depth) front behind waiting v h = absurd cc
made_by note (symbol.Part r) front behind waiting v h = absurd cc
made_by note _ _ behind waiting v h = absurd cc

pub change_done : (note : Bool) (s : Symbol) (state : State) (tags out : List Tag) → view_in note s ≡ done → suit state.values tags ≡ true → move s tags ≡ Some out → Changed s state.values (does s state).values out
change_done note s state tags out v g h =
    let m = moved s tags out h in
    let c = cut suits suits_on (finds s) tags m.rest state.values g m.pops in
    let made = made_by note s c.front c.behind state.waiting v c.fronts in
    let w = are-append suits made.made c.behind (leaves s) m.rest made.fits c.behinds in
    subst (λ (vs : List Held). Changed s vs (does s record { values = vs; waiting = state.waiting }).values out) c.whole
    record { weight = made.weight; suiting = subst (λ vs. suit vs out ≡ true) (sym made.is) (subst (λ t. suit (made.made ++ c.behind) t ≡ true) m.is w) }

pub change_token : (note : Bool) (s : Symbol) (state : State) (lexeme : Lexeme) (tags out : List Tag) → view_in note s ≡ token → suit state.values tags ≡ true → move s tags ≡ Some out
    → Changed s state.values (taken s state lexeme).values out
change_token note (symbol.Take set) state lexeme tags out v g h = let z : tags ≡ out = cc in record { weight = refl; suiting = subst (λ t. suit state.values t ≡ true) z g }
change_token note (symbol.Closing depth) state lexeme tags out v g h = let z : tags ≡ out = cc in record { weight = refl; suiting = subst (λ t. suit state.values t ≡ true) z g }
change_token note (symbol.Keep set) state lexeme tags out v g h = let z : a_text ∷ tags ≡ out = cc in record { weight = refl; suiting = subst (λ t. suit (taken (symbol.Keep set) state lexeme).values t ≡ true) z g }
change_token note _ state lexeme tags out v g h = absurd cc
