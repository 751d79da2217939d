-- What the symbols of the table find among the values and what they leave, by what the values are: texts, comments, lists and trees.
use Rattle.std.proofs.Common.{◌≡◌, ℕ, zero, suc, List, [], ◌∷◌, ◌++◌, refl, sym, ◌∙◌, ap, subst, Option, Some, None, Bool, true, false, ◌&&◌, map, append_assoc}
use Rattle.std.specs.Prelude.{if◌then◌else◌, option_map}
use Rattle.std.specs.Option.{option_and_then, option_map_or}
use Rattle.std.proofs.lemmas.Bool.{and_parts, and_from}
use Rattle.reading_table.specs.declared.need.Sort.{Sort}
use Rattle.reading_table.specs.declared.need.Sort.TheVariants as sort
use Rattle.reading_table.specs.declared.rule.Rule.{Rule}
use Rattle.reading_table.specs.declared.rule.Rule.TheVariants as rule
use Rattle.reading_table.specs.declared.symbol.Symbol.{Symbol}
use Rattle.reading_table.specs.declared.symbol.Symbol.TheVariants as symbol
use Rattle.reading_table.specs.Rows.{need_of, Placed}
use Rattle.reading_limits.proofs.Values.{is_plain}

-- a text, comments, a node of a kind that limits don't count, any node, anything
pub data Tag : Type 0 where
  a_text some_notes a_list a_tree a_value : Tag

-- what is of the first is of the second
abbrev pub serves : Tag → Tag → Bool
serves _ a_value = true
serves a_text a_text = true
serves some_notes some_notes = true
serves a_list a_list = true
serves a_list a_tree = true
serves a_tree a_tree = true
serves _ _ = false

pub serves_itself : (a : Tag) → serves a a ≡ true
serves_itself a_text = refl
serves_itself some_notes = refl
serves_itself a_list = refl
serves_itself a_tree = refl
serves_itself a_value = refl

pub serves_on : (a b c : Tag) → serves a b ≡ true → serves b c ≡ true → serves a c ≡ true
serves_on a b a_value g h = refl
serves_on a_text a_text c g h = h
serves_on some_notes some_notes c g h = h
serves_on a_list a_list c g h = h
serves_on a_tree a_tree c g h = h
serves_on a_value a_value c g h = h
serves_on a_list a_tree a_tree g h = refl
serves_on _ _ _ g h = absurd cc

abbrev pub serve_all : List Tag → List Tag → Bool
serve_all [] [] = true
serve_all (a ∷ ps) (b ∷ bs) = serves a b && serve_all ps bs
serve_all _ _ = false

-- ---- what symbols find, and leave in its place

-- rules that find a list to go on with
abbrev pub finds_list : Rule → Bool
finds_list rule.Items = true
finds_list rule.Clauses = true
finds_list rule.MoreDecls = true
finds_list rule.MoreFormals = true
finds_list rule.MoreIds = true
finds_list rule.MoreNames = true
finds_list rule.MoreComps = true
finds_list rule.MoreStmts = true
finds_list rule.MoreHandlers = true
finds_list rule.Elsifs = true
finds_list rule.MoreAlts = true
finds_list rule.MoreChoices = true
finds_list rule.MoreArgs = true
finds_list rule.MoreMarks = true
finds_list rule.MoreExprs = true
finds_list rule.Wclauses = true
finds_list rule.Incls = true
finds_list rule.Ops = true
finds_list rule.Gens = true
finds_list rule.Eqns = true
finds_list rule.MoreVars = true
finds_list rule.Lemmas = true
finds_list rule.MoreSteps = true
finds_list rule.InNumber = true
finds_list rule.MaybeNames = true
finds_list rule.MaybeTerms = true
finds_list rule.MaybeCoefficients = true
finds_list rule.MoreCoefficients = true
finds_list rule.ForAllRest = true
finds_list rule.ImpliesRest = true
finds_list rule.ForAll = true
finds_list rule.AssertsRest = true
finds_list _ = false

abbrev pub tag_of_sort : Sort → Tag
tag_of_sort sort.Text = a_text
tag_of_sort sort.Tree = a_tree

-- the last node among them is a list
abbrev pub with_list : Bool → List Tag → List Tag
with_list false tags = tags
with_list true [] = []
with_list true (a_tree ∷ tags) = a_list ∷ tags
with_list true (tag ∷ tags) = tag ∷ with_list true tags

abbrev pub found : Rule → List Tag
found r = with_list (finds_list r) (map tag_of_sort (need_of r).0.now)

abbrev pub left : Rule → List Tag
left r = option_map_or (λ sort. tag_of_sort sort ∷ []) (need_of r).1 []

abbrev pub values : ℕ → List Tag
values zero = []
values (suc n) = a_value ∷ values n

abbrev pub finds : Symbol → List Tag
finds (symbol.Part r) = found r
finds (symbol.Build k count) = values count
finds symbol.Join = a_tree ∷ a_list ∷ []
finds (symbol.Paste between) = a_text ∷ a_text ∷ []
finds symbol.Lower = a_text ∷ []
finds symbol.Noted = a_tree ∷ some_notes ∷ []
finds symbol.EndNotes = a_tree ∷ []
finds _ = []

abbrev pub leaves : Symbol → List Tag
leaves (symbol.Keep set) = a_text ∷ []
leaves (symbol.Part r) = left r
leaves (symbol.Build k count) = (if is_plain k then a_list else a_tree) ∷ []
leaves symbol.Join = a_list ∷ []
leaves (symbol.Say w) = a_text ∷ []
leaves (symbol.Paste between) = a_text ∷ []
leaves symbol.Lower = a_text ∷ []
leaves (symbol.Recall depth) = a_text ∷ []
leaves symbol.Notes = some_notes ∷ []
leaves symbol.Noted = a_tree ∷ []
leaves symbol.EndNotes = a_tree ∷ []
leaves _ = []

-- what is left of the second list behind what serves as the first
abbrev pub popped : List Tag → List Tag → Option (List Tag)
popped [] tags = Some tags
popped (wanted ∷ others) [] = None
popped (wanted ∷ others) (tag ∷ tags) = if serves tag wanted then popped others tags else None

abbrev pub move : Symbol → List Tag → Option (List Tag)
move s tags = option_map (λ rest. leaves s ++ rest) (popped (finds s) tags)

abbrev pub moves : List Placed → List Tag → Option (List Tag)
moves [] tags = Some tags
moves (s ∷ ss) tags = option_and_then (moves ss) (move s.1 tags)

-- ---- lists of tags

pub serve_all_itself : (ps : List Tag) → serve_all ps ps ≡ true
serve_all_itself [] = refl
serve_all_itself (a ∷ ps) = and_from (serves a a) (serve_all ps ps) (serves_itself a) (serve_all_itself ps)

pub serve_all-append : (ps bs cs ds : List Tag) → serve_all ps bs ≡ true → serve_all cs ds ≡ true → serve_all (ps ++ cs) (bs ++ ds) ≡ true
serve_all-append [] [] cs ds g h = h
serve_all-append (a ∷ ps) (b ∷ bs) cs ds g h =
    let p = and_parts (serves a b) (serve_all ps bs) g in
    and_from (serves a b) (serve_all (ps ++ cs) (bs ++ ds)) p.0 (serve_all-append ps bs cs ds p.1 h)
serve_all-append [] (b ∷ bs) cs ds g h = absurd cc
serve_all-append (a ∷ ps) [] cs ds g h = absurd cc

pub serve_all_on : (ps bs cs : List Tag) → serve_all ps bs ≡ true → serve_all bs cs ≡ true → serve_all ps cs ≡ true
serve_all_on [] [] [] g h = refl
serve_all_on (a ∷ ps) (b ∷ bs) (c ∷ cs) g h =
    let p = and_parts (serves a b) (serve_all ps bs) g in
    let q = and_parts (serves b c) (serve_all bs cs) h in
    and_from (serves a c) (serve_all ps cs) (serves_on a b c p.0 q.0) (serve_all_on ps bs cs p.1 q.1)
serve_all_on [] (b ∷ bs) cs g h = absurd cc
serve_all_on (a ∷ ps) [] cs g h = absurd cc
serve_all_on [] [] (c ∷ cs) g h = absurd cc
serve_all_on (a ∷ ps) (b ∷ bs) [] g h = absurd cc

-- what is popped where the tags are others that serve
pub record Popped (wanted tags rest : List Tag) : Type 0 where
  pub left_over : List Tag
  pub is : popped wanted tags ≡ Some left_over
  pub serve : serve_all left_over rest ≡ true

pub popped_serving : (wanted tags others rest : List Tag) → serve_all others tags ≡ true → popped wanted tags ≡ Some rest → Popped wanted others rest
popped_serving [] tags others rest g h = let z : tags ≡ rest = cc in record { left_over = others; is = refl; serve = subst (λ r. serve_all others r ≡ true) z g }
popped_serving (w ∷ ws) [] others rest g h = absurd cc
popped_serving (w ∷ ws) (x ∷ xs) [] rest g h = absurd cc
popped_serving (w ∷ ws) (x ∷ xs) (y ∷ ys) rest g h = by (serves x w) refl h (popped_serving ws xs ys rest (and_parts (serves y x) (serve_all ys xs) g).1)
  where
    by : (b : Bool) → serves x w ≡ b → (if b then popped ws xs else None) ≡ Some rest → (popped ws xs ≡ Some rest → Popped ws ys rest) → Popped (w ∷ ws) (y ∷ ys) rest
    by false e h go = absurd cc
    by true e h go =
        let p = go h in
        let t = serves_on y x w (and_parts (serves y x) (serve_all ys xs) g).0 e in
        record { left_over = p.left_over; is = ap (λ b. if b then popped ws ys else None) t ∙ p.is; serve = p.serve }

pub popped-append : (wanted tags rest more : List Tag) → popped wanted tags ≡ Some rest → popped wanted (tags ++ more) ≡ Some (rest ++ more)
popped-append [] tags rest more h = let z : tags ≡ rest = cc in ap (λ r. Some (r ++ more)) z
popped-append (w ∷ ws) [] rest more h = absurd cc
popped-append (w ∷ ws) (x ∷ xs) rest more h = by (serves x w) h (popped-append ws xs rest more)
  where
    by : (b : Bool) → (if b then popped ws xs else None) ≡ Some rest → (popped ws xs ≡ Some rest → popped ws (xs ++ more) ≡ Some (rest ++ more)) → (if b then popped ws (xs ++ more) else None) ≡ Some (rest ++ more)
    by false h go = absurd cc
    by true h go = go h

-- the values that are found stand in front
pub record Front (wanted tags rest : List Tag) : Type 0 where
  pub front : List Tag
  pub whole : front ++ rest ≡ tags
  pub serve : serve_all front wanted ≡ true

pub popped_front : (wanted tags rest : List Tag) → popped wanted tags ≡ Some rest → Front wanted tags rest
popped_front [] tags rest h = let z : rest ≡ tags = cc in record { front = []; whole = z; serve = refl }
popped_front (w ∷ ws) [] rest h = absurd cc
popped_front (w ∷ ws) (x ∷ xs) rest h = by (serves x w) refl h (popped_front ws xs rest)
  where
    by : (b : Bool) → serves x w ≡ b → (if b then popped ws xs else None) ≡ Some rest → (popped ws xs ≡ Some rest → Front ws xs rest) → Front (w ∷ ws) (x ∷ xs) rest
    by false e h go = absurd cc
    by true e h go = let f = go h in record { front = x ∷ f.front; whole = ap (λ r. x ∷ r) f.whole; serve = and_from (serves x w) (serve_all f.front ws) e f.serve }

-- ---- moves

pub record Moved (s : Symbol) (tags out : List Tag) : Type 0 where
  pub rest : List Tag
  pub pops : popped (finds s) tags ≡ Some rest
  pub is : leaves s ++ rest ≡ out

pub moved : (s : Symbol) (tags out : List Tag) → move s tags ≡ Some out → Moved s tags out
moved s tags out h = by (popped (finds s) tags) refl h
  where
    by : (o : Option (List Tag)) → popped (finds s) tags ≡ o → option_map (λ rest. leaves s ++ rest) o ≡ Some out → Moved s tags out
    by None e h = absurd cc
    by (Some rest) e h = record { rest = rest; pops = e; is = cc }

pub record Steps (s : Placed) (ss : List Placed) (tags out : List Tag) : Type 0 where
  pub between : List Tag
  pub step : move s.1 tags ≡ Some between
  pub onward : moves ss between ≡ Some out

pub steps : (s : Placed) (ss : List Placed) (tags out : List Tag) → moves (s ∷ ss) tags ≡ Some out → Steps s ss tags out
steps s ss tags out h = by (move s.1 tags) refl h
  where
    by : (o : Option (List Tag)) → move s.1 tags ≡ o → option_and_then (moves ss) o ≡ Some out → Steps s ss tags out
    by None e h = absurd cc
    by (Some between) e h = record { between = between; step = e; onward = h }

pub stepped : (s : Placed) (ss : List Placed) (tags between : List Tag) (out : Option (List Tag)) → move s.1 tags ≡ Some between → moves ss between ≡ out → moves (s ∷ ss) tags ≡ out
stepped s ss tags between out e h = ap (option_and_then (moves ss)) e ∙ h

pub move-append : (s : Symbol) (tags out more : List Tag) → move s tags ≡ Some out → move s (tags ++ more) ≡ Some (out ++ more)
move-append s tags out more h =
    let m = moved s tags out h in
    ap (option_map (λ rest. leaves s ++ rest)) (popped-append (finds s) tags m.rest more m.pops) ∙ ap Some (sym (append_assoc (leaves s) m.rest more) ∙ ap (λ o. o ++ more) m.is)

pub moves-append : (line : List Placed) (tags out more : List Tag) → moves line tags ≡ Some out → moves line (tags ++ more) ≡ Some (out ++ more)
moves-append [] tags out more h = let z : tags ≡ out = cc in ap (λ r. Some (r ++ more)) z
moves-append (s ∷ ss) tags out more h =
    let p = steps s ss tags out h in
    stepped s ss (tags ++ more) (p.between ++ more) (Some (out ++ more)) (move-append s.1 tags p.between more p.step) (moves-append ss p.between out more p.onward)

pub moves_along : (line ss : List Placed) (tags out : List Tag) → moves line tags ≡ Some out → moves (line ++ ss) tags ≡ moves ss out
moves_along [] ss tags out h = let z : tags ≡ out = cc in ap (moves ss) z
moves_along (s ∷ line) ss tags out h =
    let p = steps s line tags out h in
    stepped s (line ++ ss) tags p.between (moves ss out) p.step (moves_along line ss p.between out p.onward)

pub moves_on : (line ss : List Placed) (tags between : List Tag) (out : Option (List Tag)) → moves line tags ≡ Some between → moves ss between ≡ out → moves (line ++ ss) tags ≡ out
moves_on line ss tags between out h g = moves_along line ss tags between h ∙ g

-- where others serve, the same is done, and what comes serves
pub record Serving (line : List Placed) (tags out : List Tag) : Type 0 where
  pub gives : List Tag
  pub moves_to : moves line tags ≡ Some gives
  pub serve : serve_all gives out ≡ true

pub moves_serving : (line : List Placed) (tags others out : List Tag) → serve_all others tags ≡ true → moves line tags ≡ Some out → Serving line others out
moves_serving [] tags others out g h = let z : tags ≡ out = cc in record { gives = others; moves_to = refl; serve = subst (λ r. serve_all others r ≡ true) z g }
moves_serving (s ∷ ss) tags others out g h =
    let p = steps s ss tags out h in
    let m = moved s.1 tags p.between p.step in
    let q = popped_serving (finds s.1) tags others m.rest g m.pops in
    let e : move s.1 others ≡ Some (leaves s.1 ++ q.left_over) = ap (option_map (λ rest. leaves s.1 ++ rest)) q.is in
    let k = serve_all-append (leaves s.1) (leaves s.1) q.left_over m.rest (serve_all_itself (leaves s.1)) q.serve in
    let go = moves_serving ss p.between (leaves s.1 ++ q.left_over) out (subst (λ b. serve_all (leaves s.1 ++ q.left_over) b ≡ true) m.is k) p.onward in
    record { gives = go.gives; moves_to = stepped s ss others (leaves s.1 ++ q.left_over) (Some go.gives) e go.moves_to; serve = go.serve }

-- ---- lines in the place of parts

-- a line that finds and leaves what the rule does
abbrev pub keeps_tags : Rule → List Placed → Bool
keeps_tags r line = option_map_or (λ out. serve_all out (left r)) (moves line (found r)) false

pub kept_tags : (r : Rule) (line : List Placed) → keeps_tags r line ≡ true → Serving line (found r) (left r)
kept_tags r line h = by (moves line (found r)) refl h
  where
    by : (o : Option (List Tag)) → moves line (found r) ≡ o → option_map_or (λ out. serve_all out (left r)) o false ≡ true → Serving line (found r) (left r)
    by None e h = absurd cc
    by (Some out) e h = record { gives = out; moves_to = e; serve = h }

-- where a part is read by such a line, what comes serves
pub moves_in_place : (note : Bool) (r : Rule) (line ss : List Placed) (tags out : List Tag) → keeps_tags r line ≡ true → moves ((note, symbol.Part r) ∷ ss) tags ≡ Some out → Serving (line ++ ss) tags out
moves_in_place note r line ss tags out k h =
    let p = steps (note, symbol.Part r) ss tags out h in
    let m = moved (symbol.Part r) tags p.between p.step in
    let f = popped_front (found r) tags m.rest m.pops in
    let own = kept_tags r line k in
    let a = moves_serving line (found r) f.front own.gives f.serve own.moves_to in
    let wide = moves-append line f.front a.gives m.rest a.moves_to in
    let fits = serve_all-append a.gives (left r) m.rest m.rest (serve_all_on a.gives own.gives (left r) a.serve own.serve) (serve_all_itself m.rest) in
    let b = moves_serving ss p.between (a.gives ++ m.rest) out (subst (λ t. serve_all (a.gives ++ m.rest) t ≡ true) m.is fits) p.onward in
    let e = moves_on line ss (f.front ++ m.rest) (a.gives ++ m.rest) (Some b.gives) wide b.moves_to in
    record { gives = b.gives; moves_to = subst (λ t. moves (line ++ ss) t ≡ Some b.gives) f.whole e; serve = b.serve }
