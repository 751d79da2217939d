-- A line in the place of a part makes the values no less high than the part is said to, and the least ones no higher; where the line passes a test.
use Rattle.std.proofs.Common.{◌≡◌, List, [], ◌∷◌, ◌++◌, refl, sym, ◌∙◌, ap, subst, Option, Some, None, Bool, true, false, ◌&&◌, map, arith, leb-true}
use Rattle.std.specs.Prelude.{nat_le}
use Rattle.std.specs.Option.{option_map_or}
use Rattle.std.proofs.lemmas.Bool.{and_parts}
use Rattle.reading_table.specs.declared.need.Height.{Height}
use Rattle.reading_table.specs.declared.need.Mass.{Mass}
use Rattle.reading_table.specs.declared.need.Mass.TheVariants as mass
use Rattle.reading_table.specs.declared.need.Sort.{Sort}
use Rattle.reading_table.specs.declared.need.Sort.TheVariants as sort
use Rattle.reading_table.specs.declared.rule.Rule.{Rule}
use Rattle.reading_table.specs.declared.symbol.Symbol.TheVariants as symbol
use Rattle.reading_table.specs.Heights.{tallest, flat, raised, higher, height_in, highest, made_mass, rise, least}
use Rattle.reading_table.specs.Rows.{need_of, Placed}
use Rattle.reading_limits.proofs.Changes.{raised_along}
use Rattle.reading_limits.proofs.Order.{Lower, lower_itself, higher_least, Below, none, texts, notes, trees, below_on, below_both, below-append, least_below}
use Rattle.reading_limits.proofs.Outlines.{Outline, Drawn, text_drawn, notes_drawn, tree_drawn, at_height, masses_at, level, drawn, drawn_at}
use Rattle.reading_limits.proofs.Steps.{are_many, are_on, cut, weighs, weighs_on, weigh, rises, many_found, needed_alone}
use Rattle.reading_limits.proofs.Tags.{Tag, a_text, some_notes, a_list, a_tree, a_value, tag_of_sort, found, left, move, moved, keeps_tags, kept_tags}

-- ---- heights compared

abbrev pub is_lower : Height → Height → Bool
is_lower a b = nat_le a.nodes b.nodes && nat_le a.steps b.steps

pub lower_is : (a b : Height) → is_lower a b ≡ true → Lower a b
lower_is a b h = let p = and_parts (nat_le a.nodes b.nodes) (nat_le a.steps b.steps) h in record { nodes = leb-true a.nodes b.nodes p.0; steps = leb-true a.steps b.steps p.1 }

-- ---- what is found, with a height that isn't known in one place, or in all

abbrev plain : Tag → Drawn
plain a_text = text_drawn
plain some_notes = notes_drawn
plain a_list = tree_drawn level
plain a_tree = tree_drawn level
plain a_value = text_drawn

abbrev known : List Tag → Bool
known [] = true
known (a_value ∷ tags) = false
known (_ ∷ tags) = known tags

abbrev round_one : Drawn
round_one = tree_drawn record { own = flat; round = Some flat }

abbrev in_place : Tag → Bool → Bool
in_place a_text test = true
in_place some_notes test = true
in_place a_list test = test
in_place a_tree test = test
in_place a_value test = false

-- the test passes, whichever node's height isn't known
abbrev each_place : (List Drawn → Bool) → List Tag → Bool
each_place test [] = true
each_place test (t ∷ ts) = in_place t (test (round_one ∷ map plain ts)) && each_place (λ ds. test (plain t ∷ ds)) ts

abbrev rounded : Tag → Drawn
rounded a_list = round_one
rounded a_tree = round_one
rounded tag = plain tag

flat_lowest : (h : Height) → Lower flat h
flat_lowest h = record { nodes = omega arith; steps = omega arith }

level_lowest : (g h : Height) → Lower (at_height g level) h
level_lowest g h = record { nodes = omega arith; steps = omega arith }

round_is : (h : Height) → Lower (at_height h record { own = flat; round = Some flat }) h
round_is h = record { nodes = omega arith; steps = omega arith }

plain_below : (g : Height) (tags : List Tag) (ms : List Mass) → known tags ≡ true → weigh ms tags ≡ true → Below (masses_at g (map plain tags)) ms
plain_below g [] [] k h = none
plain_below g (a_text ∷ tags) (mass.Text ∷ ms) k h = texts (plain_below g tags ms k h)
plain_below g (some_notes ∷ tags) (mass.Comments ∷ ms) k h = notes (plain_below g tags ms k h)
plain_below g (a_list ∷ tags) (mass.Tree x ∷ ms) k h = trees (level_lowest g x) (plain_below g tags ms k h)
plain_below g (a_tree ∷ tags) (mass.Tree x ∷ ms) k h = trees (level_lowest g x) (plain_below g tags ms k h)
plain_below g (a_value ∷ tags) (m ∷ ms) k h = absurd cc
plain_below g _ _ k h = absurd cc

-- what holds of nothing's height, and of each height that the test tells, holds of the highest
highest_by : (P : Height → Type 0) → ((a b : Height) → P a → P b → P (higher a b)) → P flat → (tags : List Tag) (test : List Drawn → Bool) (ms : List Mass)
    → ((ds : List Drawn) (x : Height) → test ds ≡ true → Below (masses_at x ds) ms → P x) → known tags ≡ true → weigh ms tags ≡ true → each_place test tags ≡ true → P (highest ms)
highest_by P join low [] test [] sound k w h = low
highest_by P join low (a_text ∷ ts) test (mass.Text ∷ ms) sound k w h = join flat (highest ms) low (highest_by P join low ts (λ ds. test (plain a_text ∷ ds)) ms (λ ds x e b. sound (plain a_text ∷ ds) x e (texts b)) k w h)
highest_by P join low (some_notes ∷ ts) test (mass.Comments ∷ ms) sound k w h =
    join flat (highest ms) low (highest_by P join low ts (λ ds. test (plain some_notes ∷ ds)) ms (λ ds x e b. sound (plain some_notes ∷ ds) x e (notes b)) k w h)
highest_by P join low (a_list ∷ ts) test (mass.Tree y ∷ ms) sound k w h =
    let p = and_parts (test (round_one ∷ map plain ts)) (each_place (λ ds. test (plain a_list ∷ ds)) ts) h in
    join y (highest ms) (sound (round_one ∷ map plain ts) y p.0 (trees (round_is y) (plain_below y ts ms k w)))
    (highest_by P join low ts (λ ds. test (plain a_list ∷ ds)) ms (λ ds x e b. sound (plain a_list ∷ ds) x e (trees (level_lowest x y) b)) k w p.1)
highest_by P join low (a_tree ∷ ts) test (mass.Tree y ∷ ms) sound k w h =
    let p = and_parts (test (round_one ∷ map plain ts)) (each_place (λ ds. test (plain a_tree ∷ ds)) ts) h in
    join y (highest ms) (sound (round_one ∷ map plain ts) y p.0 (trees (round_is y) (plain_below y ts ms k w)))
    (highest_by P join low ts (λ ds. test (plain a_tree ∷ ds)) ms (λ ds x e b. sound (plain a_tree ∷ ds) x e (trees (level_lowest x y) b)) k w p.1)
highest_by P join low (a_value ∷ ts) test (m ∷ ms) sound k w h = absurd cc
highest_by P join low _ test _ sound k w h = absurd cc

-- ---- the tests of a line

abbrev over : Height → List Drawn → Bool
over owed (tree_drawn o ∷ []) = option_map_or (λ h. is_lower owed h) o.round false
over owed _ = false

abbrev tall : Height → Height → List Drawn → Bool
tall own owed (tree_drawn o ∷ []) = is_lower own o.own && is_lower (raised flat owed) o.own
tall own owed _ = false

abbrev low_by : Option Sort → Height → Height → List Tag → List Placed → Bool
low_by (Some sort.Tree) own owed tags line = (known tags && tall own owed (drawn line (map plain tags))) && each_place (λ ds. over owed (drawn line ds)) tags
low_by _ own owed tags line = true

abbrev own_of : Rule → Height
own_of r = record { nodes = (need_of r).2.0; steps = (need_of r).2.1 }

abbrev owed_of : Rule → Height
owed_of r = record { nodes = (need_of r).3.0; steps = (need_of r).3.1 }

-- the line makes the values no less high than the rule is said to
abbrev pub is_high_enough : Rule → List Placed → Bool
is_high_enough r line = low_by (need_of r).1 (own_of r) (owed_of r) (found r) line

abbrev under : Height → Height → List Drawn → Bool
under own owed (tree_drawn o ∷ []) = is_lower o.own (higher own (raised flat owed)) && option_map_or (λ h. is_lower h owed) o.round true
under own owed _ = false

abbrev high_by : Option Sort → Height → Height → List Tag → List Placed → Bool
high_by (Some sort.Tree) own owed tags line = known tags && under own owed (drawn line (map rounded tags))
high_by _ own owed tags line = true

-- the line makes the values no higher
abbrev pub is_least : Rule → List Placed → Bool
is_least r line = high_by (need_of r).1 (own_of r) (owed_of r) (found r) line

-- ---- no less high

over_is : (owed x h : Height) (ds : List Drawn) → over owed ds ≡ true → Below (masses_at x ds) (mass.Tree h ∷ []) → Lower (raised x owed) h
over_is owed x h (tree_drawn o ∷ []) t (trees b none) = by o.round t b
  where
    by : (q : Option Height) → option_map_or (λ h. is_lower owed h) q false ≡ true → Lower (higher o.own (option_map_or (λ h. raised x h) q flat)) h → Lower (raised x owed) h
    by None t b = absurd cc
    by (Some q) t b = let l = lower_is owed q t in record { nodes = omega (arith, l.nodes, b.nodes); steps = omega (arith, l.steps, b.steps) }
over_is owed x h (text_drawn ∷ ds) t b = absurd cc
over_is owed x h (notes_drawn ∷ ds) t b = absurd cc
over_is owed x h (tree_drawn o ∷ d ∷ ds) t b = absurd cc
over_is owed x h [] t b = absurd cc

tall_is : (own owed h : Height) (ds : List Drawn) → tall own owed ds ≡ true → Below (masses_at flat ds) (mass.Tree h ∷ []) → Lower own h × Lower (raised flat owed) h
tall_is own owed h (tree_drawn o ∷ []) t (trees b none) =
    let p = and_parts (is_lower own o.own) (is_lower (raised flat owed) o.own) t in
    let l = lower_is own o.own p.0 in
    let k = lower_is (raised flat owed) o.own p.1 in
    (record { nodes = omega (arith, l.nodes, b.nodes); steps = omega (arith, l.steps, b.steps) }, record { nodes = omega (arith, k.nodes, b.nodes); steps = omega (arith, k.steps, b.steps) })
tall_is own owed h (text_drawn ∷ ds) t b = absurd cc
tall_is own owed h (notes_drawn ∷ ds) t b = absurd cc
tall_is own owed h (tree_drawn o ∷ d ∷ ds) t b = absurd cc
tall_is own owed h [] t b = absurd cc

made_low : (o : Option Sort) (own owed : Height) (tags : List Tag) (line : List Placed) (front out : List Mass) → least line front ≡ out → low_by o own owed tags line ≡ true → weigh front tags ≡ true
    → weigh out (option_map_or (λ sort. tag_of_sort sort ∷ []) o []) ≡ true → Below (made_mass o own owed front []) out
made_low None own owed tags line front [] e t w v = none
made_low (Some sort.Text) own owed tags line front (mass.Text ∷ []) e t w v = texts none
made_low (Some sort.Tree) own owed tags line front (mass.Tree h ∷ []) e t w v =
    let p = and_parts (known tags && tall own owed (drawn line (map plain tags))) (each_place (λ ds. over owed (drawn line ds)) tags) t in
    let q = and_parts (known tags) (tall own owed (drawn line (map plain tags))) p.0 in
    let a = tall_is own owed h (drawn line (map plain tags)) q.1 (becomes flat (map plain tags) (plain_below flat tags front q.0 w)) in
    let b = highest_by (λ x. Lower (raised x owed) h) (λ a b p q. record { nodes = omega (arith, p.nodes, q.nodes); steps = omega (arith, p.steps, q.steps) }) a.1 tags (λ ds. over owed (drawn line ds)) front
    (λ ds x t b. over_is owed x h (drawn line ds) t (becomes x ds b)) q.0 w p.1 in
    trees (higher_least a.0 b) none
  where
    becomes : (g : Height) (ds : List Drawn) → Below (masses_at g ds) front → Below (masses_at g (drawn line ds)) (mass.Tree h ∷ [])
    becomes g ds b = subst (λ ms. Below ms (mass.Tree h ∷ [])) (sym (drawn_at g line ds)) (subst (λ ms. Below (least line (masses_at g ds)) ms) e (least_below line b))
made_low o own owed tags line front out e t w v = absurd cc

-- ---- no higher

abbrev pub top : Height
top = record { nodes = tallest; steps = tallest }

abbrev pub Capped : List Mass → Type 0
Capped [] = Unit {0}
Capped (m ∷ ms) = Lower (height_in m) top × Capped ms

rounded_above : (g : Height) (tags : List Tag) (ms : List Mass) → known tags ≡ true → weigh ms tags ≡ true → Capped ms → Lower (highest ms) g → Below ms (masses_at g (map rounded tags))
rounded_above g [] [] k w c l = none
rounded_above g (a_text ∷ tags) (mass.Text ∷ ms) k w c l = texts (rounded_above g tags ms k w c.1 record { nodes = omega (arith, l.nodes); steps = omega (arith, l.steps) })
rounded_above g (some_notes ∷ tags) (mass.Comments ∷ ms) k w c l = notes (rounded_above g tags ms k w c.1 record { nodes = omega (arith, l.nodes); steps = omega (arith, l.steps) })
rounded_above g (a_list ∷ tags) (mass.Tree x ∷ ms) k w c l =
    let t = c.0 in
    trees record { nodes = omega (arith, l.nodes, t.nodes); steps = omega (arith, l.steps, t.steps) } (rounded_above g tags ms k w c.1 record { nodes = omega (arith, l.nodes); steps = omega (arith, l.steps) })
rounded_above g (a_tree ∷ tags) (mass.Tree x ∷ ms) k w c l =
    let t = c.0 in
    trees record { nodes = omega (arith, l.nodes, t.nodes); steps = omega (arith, l.steps, t.steps) } (rounded_above g tags ms k w c.1 record { nodes = omega (arith, l.nodes); steps = omega (arith, l.steps) })
rounded_above g (a_value ∷ tags) (m ∷ ms) k w c l = absurd cc
rounded_above g _ _ k w c l = absurd cc

under_one : (own owed g : Height) (o : Outline) (out : List Mass) → (is_lower o.own (higher own (raised flat owed)) && option_map_or (λ h. is_lower h owed) o.round true) ≡ true → Below out (mass.Tree (at_height g o) ∷ [])
    → Below out (mass.Tree (higher own (raised g owed)) ∷ [])
under_one own owed g o out t b =
    let p = and_parts (is_lower o.own (higher own (raised flat owed))) (option_map_or (λ h. is_lower h owed) o.round true) t in
    below_on b (trees (by o.round p.1 (lower_is o.own (higher own (raised flat owed)) p.0)) none)
  where
    by : (q : Option Height) → option_map_or (λ h. is_lower h owed) q true ≡ true → Lower o.own (higher own (raised flat owed)) → Lower (higher o.own (option_map_or (λ h. raised g h) q flat)) (higher own (raised g owed))
    by None t l = record { nodes = omega (arith, l.nodes); steps = omega (arith, l.steps) }
    by (Some q) t l = let k = lower_is q owed t in record { nodes = omega (arith, l.nodes, k.nodes); steps = omega (arith, l.steps, k.steps) }

under_is : (own owed g : Height) (ds : List Drawn) (out : List Mass) → under own owed ds ≡ true → Below out (masses_at g ds) → Below out (mass.Tree (higher own (raised g owed)) ∷ [])
under_is own owed g (tree_drawn o ∷ []) out t b = under_one own owed g o out t b
under_is own owed g (text_drawn ∷ ds) out t b = absurd cc
under_is own owed g (notes_drawn ∷ ds) out t b = absurd cc
under_is own owed g (tree_drawn o ∷ d ∷ ds) out t b = absurd cc
under_is own owed g [] out t b = absurd cc

made_high : (o : Option Sort) (own owed : Height) (tags : List Tag) (line : List Placed) (front out : List Mass) → least line front ≡ out → high_by o own owed tags line ≡ true → weigh front tags ≡ true → Capped front
    → weigh out (option_map_or (λ sort. tag_of_sort sort ∷ []) o []) ≡ true → Below out (made_mass o own owed front [])
made_high None own owed tags line front [] e t w c v = none
made_high (Some sort.Text) own owed tags line front (mass.Text ∷ []) e t w c v = texts none
made_high (Some sort.Tree) own owed tags line front (mass.Tree h ∷ []) e t w c v =
    let p = and_parts (known tags) (under own owed (drawn line (map rounded tags))) t in
    let g = highest front in
    let b = rounded_above g tags front p.0 w c (lower_itself g) in
    let d = subst (λ ms. Below (mass.Tree h ∷ []) ms) (sym (drawn_at g line (map rounded tags))) (subst (λ ms. Below ms (least line (masses_at g (map rounded tags)))) e (least_below line b)) in
    under_is own owed g (drawn line (map rounded tags)) (mass.Tree h ∷ []) p.1 d
made_high o own owed tags line front out e t w c v = absurd cc

-- ---- a line in the place of a part

-- the values that the rule finds, above others
record InPlace (r : Rule) (line : List Placed) (ms : List Mass) : Type 0 where
  front : List Mass
  behind : List Mass
  whole : front ++ behind ≡ ms
  weighs_found : weigh front (found r) ≡ true
  weighs_left : weigh (least line front) (left r) ≡ true
  made_is : rise (symbol.Part r) front ≡ made_mass (need_of r).1 (own_of r) (owed_of r) front []
  part_is : rise (symbol.Part r) ms ≡ rise (symbol.Part r) front ++ behind
  line_is : least line ms ≡ least line front ++ behind

placed_at : (r : Rule) (line : List Placed) (ms : List Mass) (tags between : List Tag) → keeps_tags r line ≡ true → weigh ms tags ≡ true → move (symbol.Part r) tags ≡ Some between → InPlace r line ms
placed_at r line ms tags between k w h =
    let m = moved (symbol.Part r) tags between h in
    let c = cut weighs weighs_on (found r) tags m.rest ms w m.pops in
    let own = kept_tags r line k in
    let up = raised_along line c.front (found r) own.gives c.fronts own.moves_to in
    record {
      front = c.front;
      behind = c.behind;
      whole = c.whole;
      weighs_found = c.fronts;
      weighs_left = are_on weighs weighs_on (least line c.front) own.gives (left r) up.leaving own.serve;
      made_is = needed_alone (need_of r) c.front (are_many weighs c.front (found r) c.fronts ∙ many_found r);
      part_is = ap (rise (symbol.Part r)) (sym c.whole) ∙ (rises (symbol.Part r) c.front c.behind c.fronts).alone;
      line_is = ap (least line) (sym c.whole) ∙ up.alone c.behind;
    }

-- The line makes the values no less high than the part.
pub part_below : (r : Rule) (line : List Placed) (ms : List Mass) (tags between : List Tag) → keeps_tags r line ≡ true → is_high_enough r line ≡ true → weigh ms tags ≡ true → move (symbol.Part r) tags ≡ Some between
    → Below (rise (symbol.Part r) ms) (least line ms)
part_below r line ms tags between k t w h =
    let p = placed_at r line ms tags between k w h in
    let b = made_low (need_of r).1 (own_of r) (owed_of r) (found r) line p.front (least line p.front) refl t p.weighs_found p.weighs_left in
    let c : Below (rise (symbol.Part r) p.front) (least line p.front) = subst (λ x. Below x (least line p.front)) (sym p.made_is) b in
    subst (λ x. Below x (least line ms)) (sym p.part_is) (subst (λ x. Below (rise (symbol.Part r) p.front ++ p.behind) x) (sym p.line_is) (below-append p.behind c))

capped_front : (front behind : List Mass) → Capped (front ++ behind) → Capped front
capped_front [] behind c = tt
capped_front (m ∷ front) behind c = (c.0, capped_front front behind c.1)

-- Where it is a least one, it makes them as high.
pub part_is : (r : Rule) (line : List Placed) (ms : List Mass) (tags between : List Tag) → keeps_tags r line ≡ true → is_high_enough r line ≡ true → is_least r line ≡ true → weigh ms tags ≡ true → Capped ms
    → move (symbol.Part r) tags ≡ Some between → least line ms ≡ rise (symbol.Part r) ms
part_is r line ms tags between k t u w c h =
    let p = placed_at r line ms tags between k w h in
    let b = made_high (need_of r).1 (own_of r) (owed_of r) (found r) line p.front (least line p.front) refl u p.weighs_found (capped_front p.front p.behind (subst Capped (sym p.whole) c)) p.weighs_left in
    let d : Below (least line p.front) (rise (symbol.Part r) p.front) = subst (λ x. Below (least line p.front) x) (sym p.made_is) b in
    let e : Below (least line ms) (rise (symbol.Part r) ms) = subst (λ x. Below x (rise (symbol.Part r) ms)) (sym p.line_is) (subst (λ x. Below (least line p.front ++ p.behind) x) (sym p.part_is) (below-append p.behind d)) in
    below_both e (part_below r line ms tags between k t w h)
