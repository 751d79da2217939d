-- Symbols take from the values what they find there, and leave what they say; and what limits see of the values changes as `rise` says.
use Rattle.std.proofs.Common.{◌≡◌, ℕ, zero, suc, List, [], ◌∷◌, ◌++◌, refl, sym, ◌∙◌, ap, subst, Option, Some, None, Bool, true, false, ◌&&◌, map, take, drop, length}
use Rattle.std.specs.Prelude.{if◌then◌else◌}
use Rattle.std.specs.Option.{option_map_or}
use Rattle.std.proofs.Math.Seq.{take-append_seam, drop-append_seam, take-length, drop-length}
use Rattle.std.proofs.lemmas.List.{length-map}
use Rattle.std.proofs.lemmas.Bool.{and_parts, and_from}
use Rattle.ada_tree.specs.declared.kind.Kind.{Kind}
use Rattle.ada_tree.specs.Nodes.{kind_of}
use Rattle.reading_table.specs.declared.held.Held.{Held}
use Rattle.reading_table.specs.declared.held.Held.TheVariants as held
use Rattle.reading_table.specs.declared.need.Height.{Height}
use Rattle.reading_table.specs.declared.need.Mass.{Mass}
use Rattle.reading_table.specs.declared.need.Mass.TheVariants as mass
use Rattle.reading_table.specs.declared.need.Sort.{Sort}
use Rattle.reading_table.specs.declared.need.Sort.TheVariants as sort
use Rattle.reading_table.specs.declared.rule.Rule.{Rule}
use Rattle.reading_table.specs.declared.symbol.Symbol.{Symbol}
use Rattle.reading_table.specs.declared.symbol.Symbol.TheVariants as symbol
use Rattle.reading_table.specs.Heights.{raised, highest, own_height, built_mass, made_mass, needed_mass, rise}
use Rattle.reading_table.specs.Rows.{Need, need_of}
use Rattle.reading_limits.proofs.Tags.{Tag, a_text, some_notes, a_list, a_tree, a_value, serves, serve_all, found, values, tag_of_sort, with_list, finds_list, finds, leaves, popped}
use Rattle.reading_limits.proofs.Values.{is_plain}

-- ---- lists of values of given tags, whatever the values are

module _ {V : Type 0} (is : V → Tag → Bool) where
  abbrev pub are : List V → List Tag → Bool
  are [] [] = true
  are (v ∷ vs) (t ∷ ts) = is v t && are vs ts
  are _ _ = false

  pub are_many : (vs : List V) (ts : List Tag) → are vs ts ≡ true → length vs ≡ length ts
  are_many [] [] h = refl
  are_many (v ∷ vs) (t ∷ ts) h = ap suc (are_many vs ts (and_parts (is v t) (are vs ts) h).1)
  are_many [] (t ∷ ts) h = absurd cc
  are_many (v ∷ vs) [] h = absurd cc

  pub are-append : (vs ws : List V) (ts us : List Tag) → are vs ts ≡ true → are ws us ≡ true → are (vs ++ ws) (ts ++ us) ≡ true
  are-append [] ws [] us g h = h
  are-append (v ∷ vs) ws (t ∷ ts) us g h =
      let p = and_parts (is v t) (are vs ts) g in
      and_from (is v t) (are (vs ++ ws) (ts ++ us)) p.0 (are-append vs ws ts us p.1 h)
  are-append [] ws (t ∷ ts) us g h = absurd cc
  are-append (v ∷ vs) ws [] us g h = absurd cc

  module _ (on : (v : V) (a b : Tag) → is v a ≡ true → serves a b ≡ true → is v b ≡ true) where
    pub are_on : (vs : List V) (ts us : List Tag) → are vs ts ≡ true → serve_all ts us ≡ true → are vs us ≡ true
    are_on [] [] [] g h = refl
    are_on (v ∷ vs) (t ∷ ts) (u ∷ us) g h =
        let p = and_parts (is v t) (are vs ts) g in
        let q = and_parts (serves t u) (serve_all ts us) h in
        and_from (is v u) (are vs us) (on v t u p.0 q.0) (are_on vs ts us p.1 q.1)
    are_on [] (t ∷ ts) us g h = absurd cc
    are_on (v ∷ vs) [] us g h = absurd cc
    are_on [] [] (u ∷ us) g h = absurd cc
    are_on (v ∷ vs) (t ∷ ts) [] g h = absurd cc

    -- the values that are found, and those below
    pub record Cut (wanted rest : List Tag) (vs : List V) : Type 0 where
      pub front : List V
      pub behind : List V
      pub whole : front ++ behind ≡ vs
      pub fronts : are front wanted ≡ true
      pub behinds : are behind rest ≡ true

    pub cut : (wanted tags rest : List Tag) (vs : List V) → are vs tags ≡ true → popped wanted tags ≡ Some rest → Cut wanted rest vs
    cut [] tags rest vs g h = let z : tags ≡ rest = cc in record { front = []; behind = vs; whole = refl; fronts = refl; behinds = subst (λ t. are vs t ≡ true) z g }
    cut (w ∷ ws) [] rest vs g h = absurd cc
    cut (w ∷ ws) (x ∷ xs) rest [] g h = absurd cc
    cut (w ∷ ws) (x ∷ xs) rest (v ∷ vs) g h = by (serves x w) refl h (cut ws xs rest vs (and_parts (is v x) (are vs xs) g).1)
      where
        by : (b : Bool) → serves x w ≡ b → (if b then popped ws xs else None) ≡ Some rest → (popped ws xs ≡ Some rest → Cut ws rest vs) → Cut (w ∷ ws) rest (v ∷ vs)
        by false e h go = absurd cc
        by true e h go =
            let c = go h in
            record {
              front = v ∷ c.front;
              behind = c.behind;
              whole = ap (λ r. v ∷ r) c.whole;
              fronts = and_from (is v w) (are c.front ws) (on v x w (and_parts (is v x) (are vs xs) g).0 e) c.fronts;
              behinds = c.behinds;
            }

-- ---- what limits see of values

abbrev pub weighs : Mass → Tag → Bool
weighs _ a_value = true
weighs mass.Text a_text = true
weighs mass.Comments some_notes = true
weighs (mass.Tree h) a_list = true
weighs (mass.Tree h) a_tree = true
weighs _ _ = false

pub weighs_on : (m : Mass) (a b : Tag) → weighs m a ≡ true → serves a b ≡ true → weighs m b ≡ true
weighs_on m a a_value g h = refl
weighs_on m a_value b g h = by b h
  where
    by : (b : Tag) → serves a_value b ≡ true → weighs m b ≡ true
    by a_value h = refl
    by a_text h = absurd cc
    by some_notes h = absurd cc
    by a_list h = absurd cc
    by a_tree h = absurd cc
weighs_on m a_text a_text g h = g
weighs_on m some_notes some_notes g h = g
weighs_on m a_list a_list g h = g
weighs_on m a_tree a_tree g h = g
weighs_on (mass.Tree x) a_list a_tree g h = refl
weighs_on _ _ _ g h = absurd cc

abbrev pub weigh : List Mass → List Tag → Bool
weigh ms tags = are weighs ms tags

-- a symbol takes what it finds, and nothing below
pub record Rises (s : Symbol) (front behind : List Mass) : Type 0 where
  pub leaving : weigh (rise s front) (leaves s) ≡ true
  pub alone : rise s (front ++ behind) ≡ rise s front ++ behind

pub first_is : (front behind : List Mass) (n : ℕ) → length front ≡ n → take n (front ++ behind) ≡ front
first_is front behind n h = ap (λ k. take k (front ++ behind)) (sym h) ∙ take-append_seam front behind

pub rest_is : {V : Type 0} → (front behind : List V) (n : ℕ) → length front ≡ n → drop n (front ++ behind) ≡ behind
rest_is front behind n h = ap (λ k. drop k (front ++ behind)) (sym h) ∙ drop-append_seam front behind

all_taken : (front : List Mass) (n : ℕ) → length front ≡ n → take n front ≡ front
all_taken front n h = ap (λ k. take k front) (sym h) ∙ take-length front

none_left : (front : List Mass) (n : ℕ) → length front ≡ n → drop n front ≡ []
none_left front n h = ap (λ k. drop k front) (sym h) ∙ drop-length front

pub many_values : (n : ℕ) → length (values n) ≡ n
many_values zero = refl
many_values (suc n) = ap suc (many_values n)

pub many_found : (r : Rule) → length (found r) ≡ length (need_of r).0.now
many_found r = listed (finds_list r) (map tag_of_sort (need_of r).0.now) ∙ length-map (need_of r).0.now tag_of_sort
  where
    listed : (b : Bool) (tags : List Tag) → length (with_list b tags) ≡ length tags
    listed false tags = refl
    listed true [] = refl
    listed true (a_tree ∷ tags) = refl
    listed true (a_text ∷ tags) = ap suc (listed true tags)
    listed true (some_notes ∷ tags) = ap suc (listed true tags)
    listed true (a_list ∷ tags) = ap suc (listed true tags)
    listed true (a_value ∷ tags) = ap suc (listed true tags)

-- the values that are found in front of others
split : (f : List Mass → List Mass → List Mass) (front behind : List Mass) (n : ℕ) → length front ≡ n → f (take n (front ++ behind)) (drop n (front ++ behind)) ≡ f front behind
split f front behind n h = ap (λ ms. f ms (drop n (front ++ behind))) (first_is front behind n h) ∙ ap (f front) (rest_is front behind n h)

split_alone : (f : List Mass → List Mass → List Mass) (front : List Mass) (n : ℕ) → length front ≡ n → f (take n front) (drop n front) ≡ f front []
split_alone f front n h = ap (λ ms. f ms (drop n front)) (all_taken front n h) ∙ ap (f front) (none_left front n h)

pub needed_alone : (need : Need) (front : List Mass) → length front ≡ length need.0.now
    → needed_mass need front ≡ made_mass need.1 record { nodes = need.2.0; steps = need.2.1 } record { nodes = need.3.0; steps = need.3.1 } front []
needed_alone need front h = split_alone (λ found rest. made_mass need.1 record { nodes = need.2.0; steps = need.2.1 } record { nodes = need.3.0; steps = need.3.1 } found rest) front (length need.0.now) h

part_rises : (need : Need) (front behind : List Mass) → length front ≡ length need.0.now
    → (weigh (needed_mass need front) (option_map_or (λ sort. tag_of_sort sort ∷ []) need.1 []) ≡ true) × (needed_mass need (front ++ behind) ≡ needed_mass need front ++ behind)
part_rises need front behind h =
    let n = length need.0.now in
    let own : Height = record { nodes = need.2.0; steps = need.2.1 } in
    let owed : Height = record { nodes = need.3.0; steps = need.3.1 } in
    let f : List Mass → List Mass → List Mass = λ found rest. made_mass need.1 own owed found rest in
    let a : needed_mass need (front ++ behind) ≡ f front behind = split f front behind n h in
    let b : needed_mass need front ≡ f front [] = split_alone f front n h in (
      subst (λ ms. weigh ms (option_map_or (λ sort. tag_of_sort sort ∷ []) need.1 []) ≡ true) (sym b) (made_tags need.1 own owed front),
      a ∙ made_alone need.1 own owed front behind ∙ ap (λ ms. ms ++ behind) (sym b),
    )
  where
    made_tags : (o : Option Sort) (own owed : Height) (front : List Mass) → weigh (made_mass o own owed front []) (option_map_or (λ sort. tag_of_sort sort ∷ []) o []) ≡ true
    made_tags None own owed front = refl
    made_tags (Some sort.Text) own owed front = refl
    made_tags (Some sort.Tree) own owed front = refl

    made_alone : (o : Option Sort) (own owed : Height) (front behind : List Mass) → made_mass o own owed front behind ≡ made_mass o own owed front [] ++ behind
    made_alone None own owed front behind = refl
    made_alone (Some sort.Text) own owed front behind = refl
    made_alone (Some sort.Tree) own owed front behind = refl

built_rises : (k : Kind) (n : ℕ) (front behind : List Mass) → length front ≡ n → Rises (symbol.Build k n) front behind
built_rises k n front behind h =
    let f : List Mass → List Mass → List Mass = λ found rest. mass.Tree (raised (highest found) (own_height k)) ∷ rest in
    let a : built_mass k n (front ++ behind) ≡ f front behind = split f front behind n h in
    let b : built_mass k n front ≡ f front [] = split_alone f front n h in
    record {
      leaving = subst (λ ms. weigh ms ((if is_plain k then a_list else a_tree) ∷ []) ≡ true) (sym b) (by (is_plain k));
      alone = a ∙ ap (λ ms. ms ++ behind) (sym b);
    }
  where
    by : (b : Bool) → (weighs (mass.Tree (raised (highest front) (own_height k))) (if b then a_list else a_tree) && true) ≡ true
    by true = refl
    by false = refl

pub rises : (s : Symbol) (front behind : List Mass) → weigh front (finds s) ≡ true → Rises s front behind
rises (symbol.Part r) front behind h =
    let p = part_rises (need_of r) front behind (are_many weighs front (found r) h ∙ many_found r) in
    record { leaving = p.0; alone = p.1 }
rises (symbol.Build k n) front behind h = built_rises k n front behind (are_many weighs front (values n) h ∙ many_values n)
rises symbol.Join (mass.Tree a ∷ mass.Tree b ∷ []) behind h = record { leaving = refl; alone = refl }
rises (symbol.Paste between) (mass.Text ∷ mass.Text ∷ []) behind h = record { leaving = refl; alone = refl }
rises symbol.Lower (mass.Text ∷ []) behind h = record { leaving = refl; alone = refl }
rises symbol.Noted (mass.Tree a ∷ mass.Comments ∷ []) behind h = record { leaving = refl; alone = refl }
rises symbol.EndNotes (mass.Tree a ∷ []) behind h = record { leaving = refl; alone = refl }
rises (symbol.Take set) [] behind h = record { leaving = refl; alone = refl }
rises (symbol.Keep set) [] behind h = record { leaving = refl; alone = refl }
rises (symbol.Closing depth) [] behind h = record { leaving = refl; alone = refl }
rises (symbol.Say w) [] behind h = record { leaving = refl; alone = refl }
rises (symbol.Recall depth) [] behind h = record { leaving = refl; alone = refl }
rises symbol.Notes [] behind h = record { leaving = refl; alone = refl }
rises _ _ behind h = absurd cc

-- ---- the same of values

abbrev pub suits : Held → Tag → Bool
suits _ a_value = true
suits (held.Text text) a_text = true
suits (held.Comments comments) some_notes = true
suits (held.Tree node) a_list = is_plain (kind_of node)
suits (held.Tree node) a_tree = true
suits _ _ = false

pub suits_on : (v : Held) (a b : Tag) → suits v a ≡ true → serves a b ≡ true → suits v b ≡ true
suits_on v a a_value g h = refl
suits_on v a_text a_text g h = g
suits_on v some_notes some_notes g h = g
suits_on v a_list a_list g h = g
suits_on v a_tree a_tree g h = g
suits_on (held.Tree x) a_list a_tree g h = refl
suits_on _ _ _ g h = absurd cc

abbrev pub suit : List Held → List Tag → Bool
suit vs tags = are suits vs tags
