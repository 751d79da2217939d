-- How high values become as one height is put in: the greatest of a number and, perhaps, that height with another on it. So lines are run with heights that aren't known.
use Rattle.std.proofs.Common.{◌≡◌, ℕ, List, [], ◌∷◌, refl, sym, ◌∙◌, ap, map, Option, Some, None, take, drop, length, arith}
use Rattle.std.specs.Prelude.{option_map}
use Rattle.std.specs.Option.{option_map_or}
use Rattle.std.proofs.lemmas.List.{take-map, drop-map}
use Rattle.ada_tree.specs.declared.kind.Kind.{Kind}
use Rattle.reading_table.specs.declared.need.Height.{Height}
use Rattle.reading_table.specs.declared.need.Mass.{Mass}
use Rattle.reading_table.specs.declared.need.Mass.TheVariants as mass
use Rattle.reading_table.specs.declared.need.Sort.{Sort}
use Rattle.reading_table.specs.declared.need.Sort.TheVariants as sort
use Rattle.reading_table.specs.declared.symbol.Symbol.{Symbol}
use Rattle.reading_table.specs.declared.symbol.Symbol.TheVariants as symbol
use Rattle.reading_table.specs.Heights.{flat, raised, higher, own_height, highest, built_mass, joined_mass, pasted_mass, noted_mass, made_mass, rise, least}
use Rattle.reading_table.specs.Rows.{Need, need_of, Placed}
use Rattle.reading_limits.proofs.Values.{height_is}

pub record Outline : Type 0 where
  pub own : Height
  pub round : Option Height

pub data Drawn : Type 0 where
  text_drawn notes_drawn : Drawn
  tree_drawn : Outline → Drawn

-- ---- what they stand for, at a height

abbrev pub at_height : Height → Outline → Height
at_height g o = higher o.own (option_map_or (λ h. raised g h) o.round flat)

abbrev pub mass_at : Height → Drawn → Mass
mass_at g text_drawn = mass.Text
mass_at g notes_drawn = mass.Comments
mass_at g (tree_drawn o) = mass.Tree (at_height g o)

abbrev pub masses_at : Height → List Drawn → List Mass
masses_at g ds = map (mass_at g) ds

-- ---- what symbols make of them

abbrev pub level : Outline
level = record { own = flat; round = None }

abbrev higher_of : Option Height → Option Height → Option Height
higher_of None b = b
higher_of (Some a) None = Some a
higher_of (Some a) (Some b) = Some (higher a b)

abbrev both : Outline → Outline → Outline
both a b = record { own = higher a.own b.own; round = higher_of a.round b.round }

abbrev lifted : Outline → Height → Outline
lifted o w = record { own = raised o.own w; round = option_map (λ h. raised h w) o.round }

abbrev outline_in : Drawn → Outline
outline_in text_drawn = level
outline_in notes_drawn = level
outline_in (tree_drawn o) = o

abbrev highest_of : List Drawn → Outline
highest_of [] = level
highest_of (d ∷ ds) = both (outline_in d) (highest_of ds)

abbrev made_drawn : Option Sort → Height → Height → List Drawn → List Drawn → List Drawn
made_drawn None own owed found ds = ds
made_drawn (Some sort.Text) own owed found ds = text_drawn ∷ ds
made_drawn (Some sort.Tree) own owed found ds = tree_drawn (both record { own = own; round = None } (lifted (highest_of found) owed)) ∷ ds

abbrev needed_drawn : Need → List Drawn → List Drawn
needed_drawn need ds = made_drawn need.1 record { nodes = need.2.0; steps = need.2.1 } record { nodes = need.3.0; steps = need.3.1 } (take (length need.0.now) ds) (drop (length need.0.now) ds)

abbrev joined_drawn : List Drawn → List Drawn
joined_drawn (tree_drawn member ∷ tree_drawn list ∷ ds) = tree_drawn (both member list) ∷ ds
joined_drawn ds = ds

abbrev pasted_drawn : List Drawn → List Drawn
pasted_drawn (text_drawn ∷ text_drawn ∷ ds) = text_drawn ∷ ds
pasted_drawn ds = ds

abbrev noted_drawn : List Drawn → List Drawn
noted_drawn (tree_drawn node ∷ notes_drawn ∷ ds) = tree_drawn node ∷ ds
noted_drawn ds = ds

abbrev pub draw : Symbol → List Drawn → List Drawn
draw (symbol.Keep set) ds = text_drawn ∷ ds
draw (symbol.Part r) ds = needed_drawn (need_of r) ds
draw (symbol.Build k count) ds = tree_drawn (lifted (highest_of (take count ds)) (own_height k)) ∷ drop count ds
draw symbol.Join ds = joined_drawn ds
draw (symbol.Say w) ds = text_drawn ∷ ds
draw (symbol.Paste between) ds = pasted_drawn ds
draw (symbol.Recall depth) ds = text_drawn ∷ ds
draw symbol.Notes ds = notes_drawn ∷ ds
draw symbol.Noted ds = noted_drawn ds
draw _ ds = ds

abbrev pub drawn : List Placed → List Drawn → List Drawn
drawn [] ds = ds
drawn (s ∷ ss) ds = drawn ss (draw s.1 ds)

-- ---- what is drawn stands for what comes

both_at : (g : Height) (a b : Outline) → at_height g (both a b) ≡ higher (at_height g a) (at_height g b)
both_at g a b = by a.own b.own a.round b.round
  where
    by : (x y : Height) (p q : Option Height) → at_height g (both record { own = x; round = p } record { own = y; round = q }) ≡ higher (at_height g record { own = x; round = p }) (at_height g record { own = y; round = q })
    by x y None None = height_is _ _ (omega arith) (omega arith)
    by x y None (Some q) = height_is _ _ (omega arith) (omega arith)
    by x y (Some p) None = height_is _ _ (omega arith) (omega arith)
    by x y (Some p) (Some q) = height_is _ _ (omega arith) (omega arith)

lifted_at : (g : Height) (a : Outline) (w : Height) → at_height g (lifted a w) ≡ raised (at_height g a) w
lifted_at g a w = by a.own a.round
  where
    by : (x : Height) (p : Option Height) → at_height g (lifted record { own = x; round = p } w) ≡ raised (at_height g record { own = x; round = p }) w
    by x None = height_is _ _ (omega arith) (omega arith)
    by x (Some p) = height_is _ _ (omega arith) (omega arith)

highest_at : (g : Height) (ds : List Drawn) → highest (masses_at g ds) ≡ at_height g (highest_of ds)
highest_at g [] = refl
highest_at g (text_drawn ∷ ds) = ap (higher flat) (highest_at g ds) ∙ sym (both_at g level (highest_of ds))
highest_at g (notes_drawn ∷ ds) = ap (higher flat) (highest_at g ds) ∙ sym (both_at g level (highest_of ds))
highest_at g (tree_drawn o ∷ ds) = ap (higher (at_height g o)) (highest_at g ds) ∙ sym (both_at g o (highest_of ds))

own_at : (g own : Height) → at_height g record { own = own; round = None } ≡ own
own_at g own = height_is _ _ (omega arith) (omega arith)

made_at : (g : Height) (o : Option Sort) (own owed : Height) (found ds : List Drawn) → masses_at g (made_drawn o own owed found ds) ≡ made_mass o own owed (masses_at g found) (masses_at g ds)
made_at g None own owed found ds = refl
made_at g (Some sort.Text) own owed found ds = refl
made_at g (Some sort.Tree) own owed found ds =
    let a : at_height g (both record { own = own; round = None } (lifted (highest_of found) owed)) ≡ higher (at_height g record { own = own; round = None }) (at_height g (lifted (highest_of found) owed)) =
    both_at g record { own = own; round = None } (lifted (highest_of found) owed) in
    let b : at_height g (lifted (highest_of found) owed) ≡ raised (highest (masses_at g found)) owed = lifted_at g (highest_of found) owed ∙ ap (λ h. raised h owed) (sym (highest_at g found)) in
    ap (λ h. mass.Tree h ∷ masses_at g ds) (a ∙ ap (λ h. higher h (at_height g (lifted (highest_of found) owed))) (own_at g own) ∙ ap (higher own) b)

joined_at : (g : Height) (ds : List Drawn) → masses_at g (joined_drawn ds) ≡ joined_mass (masses_at g ds)
joined_at g (tree_drawn a ∷ tree_drawn b ∷ ds) = ap (λ h. mass.Tree h ∷ masses_at g ds) (both_at g a b)
joined_at g _ = refl

pasted_at : (g : Height) (ds : List Drawn) → masses_at g (pasted_drawn ds) ≡ pasted_mass (masses_at g ds)
pasted_at g (text_drawn ∷ text_drawn ∷ ds) = refl
pasted_at g _ = refl

noted_at : (g : Height) (ds : List Drawn) → masses_at g (noted_drawn ds) ≡ noted_mass (masses_at g ds)
noted_at g (tree_drawn a ∷ notes_drawn ∷ ds) = refl
noted_at g _ = refl

built_at : (g : Height) (k : Kind) (count : ℕ) (ds : List Drawn) → masses_at g (draw (symbol.Build k count) ds) ≡ built_mass k count (masses_at g ds)
built_at g k count ds =
    let e : at_height g (lifted (highest_of (take count ds)) (own_height k)) ≡ raised (highest (take count (masses_at g ds))) (own_height k) =
    lifted_at g (highest_of (take count ds)) (own_height k) ∙ ap (λ h. raised h (own_height k)) (sym (highest_at g (take count ds)) ∙ ap highest (sym (take-map (mass_at g) count ds))) in
    ap (λ h. mass.Tree h ∷ masses_at g (drop count ds)) e ∙ ap (λ ms. mass.Tree (raised (highest (take count (masses_at g ds))) (own_height k)) ∷ ms) (sym (drop-map (mass_at g) count ds))

needed_at : (g : Height) (need : Need) (ds : List Drawn) → masses_at g (needed_drawn need ds)
    ≡ made_mass need.1 record { nodes = need.2.0; steps = need.2.1 } record { nodes = need.3.0; steps = need.3.1 } (take (length need.0.now) (masses_at g ds)) (drop (length need.0.now) (masses_at g ds))
needed_at g need ds =
    let n = length need.0.now in
    let f : List Mass → List Mass → List Mass = λ a b. made_mass need.1 record { nodes = need.2.0; steps = need.2.1 } record { nodes = need.3.0; steps = need.3.1 } a b in
    made_at g need.1 record { nodes = need.2.0; steps = need.2.1 } record { nodes = need.3.0; steps = need.3.1 } (take n ds) (drop n ds)
    ∙ ap (λ a. f a (masses_at g (drop n ds))) (sym (take-map (mass_at g) n ds)) ∙ ap (f (take n (masses_at g ds))) (sym (drop-map (mass_at g) n ds))

draw_at : (g : Height) (s : Symbol) (ds : List Drawn) → masses_at g (draw s ds) ≡ rise s (masses_at g ds)
draw_at g (symbol.Take set) ds = refl
draw_at g (symbol.Keep set) ds = refl
draw_at g (symbol.Closing depth) ds = refl
draw_at g (symbol.Part r) ds = needed_at g (need_of r) ds
draw_at g (symbol.Build k count) ds = built_at g k count ds
draw_at g symbol.Join ds = joined_at g ds
draw_at g (symbol.Say w) ds = refl
draw_at g (symbol.Paste between) ds = pasted_at g ds
draw_at g symbol.Lower ds = refl
draw_at g (symbol.Recall depth) ds = refl
draw_at g symbol.Notes ds = refl
draw_at g symbol.Noted ds = noted_at g ds
draw_at g symbol.EndNotes ds = refl

pub drawn_at : (g : Height) (line : List Placed) (ds : List Drawn) → masses_at g (drawn line ds) ≡ least line (masses_at g ds)
drawn_at g [] ds = refl
drawn_at g (s ∷ ss) ds = drawn_at g ss (draw s.1 ds) ∙ ap (least ss) (draw_at g s.1 ds)
