-- What limits see of values, in order: the same values, as high or less high. All symbols keep it.
use Rattle.std.proofs.Common.{◌≡◌, ℕ, zero, suc, ◌≤◌, List, [], ◌∷◌, ◌++◌, refl, ◌∙◌, ap, Option, Some, None, take, drop, length, arith}
use Rattle.reading_table.specs.declared.need.Height.{Height}
use Rattle.reading_table.specs.declared.need.Mass.{Mass}
use Rattle.reading_table.specs.declared.need.Mass.TheVariants as mass
use Rattle.reading_table.specs.declared.need.Sort.{Sort}
use Rattle.reading_table.specs.declared.need.Sort.TheVariants as sort
use Rattle.reading_table.specs.declared.symbol.Symbol.{Symbol}
use Rattle.reading_table.specs.declared.symbol.Symbol.TheVariants as symbol
use Rattle.reading_table.specs.Heights.{flat, raised, higher, own_height, highest, made_mass, rise, least}
use Rattle.reading_table.specs.Rows.{need_of, Placed}
use Rattle.reading_limits.proofs.Values.{height_is}

-- ---- heights

pub record Lower (a b : Height) : Type 0 where
  pub nodes : a.nodes ≤ b.nodes
  pub steps : a.steps ≤ b.steps

pub lower_itself : (a : Height) → Lower a a
lower_itself a = record { nodes = omega arith; steps = omega arith }

pub lower_on : {a b c : Height} → Lower a b → Lower b c → Lower a c
lower_on p q = record { nodes = omega (arith, p.nodes, q.nodes); steps = omega (arith, p.steps, q.steps) }

pub lower_both : {a b : Height} → Lower a b → Lower b a → a ≡ b
lower_both {a = a} {b = b} p q = height_is a b (omega (arith, p.nodes, q.nodes)) (omega (arith, p.steps, q.steps))

pub higher_lower : {a b c d : Height} → Lower a b → Lower c d → Lower (higher a c) (higher b d)
higher_lower p q = record { nodes = omega (arith, p.nodes, q.nodes); steps = omega (arith, p.steps, q.steps) }

pub higher_least : {a b c : Height} → Lower a c → Lower b c → Lower (higher a b) c
higher_least p q = record { nodes = omega (arith, p.nodes, q.nodes); steps = omega (arith, p.steps, q.steps) }

pub raised_lower : {a b : Height} (c : Height) → Lower a b → Lower (raised a c) (raised b c)
raised_lower c p = record { nodes = omega (arith, p.nodes); steps = omega (arith, p.steps) }

-- ---- values

pub data Below : List Mass → List Mass → Type 0 where
  none : Below [] []
  texts : {ms ns : List Mass} → Below ms ns → Below (mass.Text ∷ ms) (mass.Text ∷ ns)
  notes : {ms ns : List Mass} → Below ms ns → Below (mass.Comments ∷ ms) (mass.Comments ∷ ns)
  trees : {a b : Height} {ms ns : List Mass} → Lower a b → Below ms ns → Below (mass.Tree a ∷ ms) (mass.Tree b ∷ ns)

pub below_itself : (ms : List Mass) → Below ms ms
below_itself [] = none
below_itself (mass.Text ∷ ms) = texts (below_itself ms)
below_itself (mass.Comments ∷ ms) = notes (below_itself ms)
below_itself (mass.Tree h ∷ ms) = trees (lower_itself h) (below_itself ms)

pub below_on : {ks ms ns : List Mass} → Below ks ms → Below ms ns → Below ks ns
below_on none none = none
below_on (texts p) (texts q) = texts (below_on p q)
below_on (notes p) (notes q) = notes (below_on p q)
below_on (trees g p) (trees h q) = trees (lower_on g h) (below_on p q)

pub below_both : {ms ns : List Mass} → Below ms ns → Below ns ms → ms ≡ ns
below_both none none = refl
below_both (texts p) (texts q) = ap (λ ms. mass.Text ∷ ms) (below_both p q)
below_both (notes p) (notes q) = ap (λ ms. mass.Comments ∷ ms) (below_both p q)
below_both (trees {a = a} {b = b} {ms = ms} {ns = ns} g p) (trees h q) = ap (λ a. mass.Tree a ∷ ms) (lower_both g h) ∙ ap (λ ms. mass.Tree b ∷ ms) (below_both p q)

pub below-append : {ms ns : List Mass} (ks : List Mass) → Below ms ns → Below (ms ++ ks) (ns ++ ks)
below-append ks none = below_itself ks
below-append ks (texts p) = texts (below-append ks p)
below-append ks (notes p) = notes (below-append ks p)
below-append ks (trees h p) = trees h (below-append ks p)

take_below : {ms ns : List Mass} (n : ℕ) → Below ms ns → Below (take n ms) (take n ns)
take_below zero p = none
take_below (suc n) none = none
take_below (suc n) (texts p) = texts (take_below n p)
take_below (suc n) (notes p) = notes (take_below n p)
take_below (suc n) (trees h p) = trees h (take_below n p)

drop_below : {ms ns : List Mass} (n : ℕ) → Below ms ns → Below (drop n ms) (drop n ns)
drop_below zero p = p
drop_below (suc n) none = none
drop_below (suc n) (texts p) = drop_below n p
drop_below (suc n) (notes p) = drop_below n p
drop_below (suc n) (trees h p) = drop_below n p

pub highest_below : {ms ns : List Mass} → Below ms ns → Lower (highest ms) (highest ns)
highest_below none = lower_itself flat
highest_below (texts p) = higher_lower (lower_itself flat) (highest_below p)
highest_below (notes p) = higher_lower (lower_itself flat) (highest_below p)
highest_below (trees h p) = higher_lower h (highest_below p)

made_below : {f g ms ns : List Mass} (o : Option Sort) (own owed : Height) → Below f g → Below ms ns → Below (made_mass o own owed f ms) (made_mass o own owed g ns)
made_below None own owed p q = q
made_below (Some sort.Text) own owed p q = texts q
made_below (Some sort.Tree) own owed p q = trees (higher_lower (lower_itself own) (raised_lower owed (highest_below p))) q

joined_below : {ms ns : List Mass} → Below ms ns → Below (rise symbol.Join ms) (rise symbol.Join ns)
joined_below none = none
joined_below (texts p) = texts p
joined_below (notes p) = notes p
joined_below (trees h none) = trees h none
joined_below (trees h (texts p)) = trees h (texts p)
joined_below (trees h (notes p)) = trees h (notes p)
joined_below (trees h (trees k p)) = trees (higher_lower h k) p

pasted_below : {ms ns : List Mass} (between : ℕ) → Below ms ns → Below (rise (symbol.Paste between) ms) (rise (symbol.Paste between) ns)
pasted_below between none = none
pasted_below between (texts none) = texts none
pasted_below between (texts (texts p)) = texts p
pasted_below between (texts (notes p)) = texts (notes p)
pasted_below between (texts (trees h p)) = texts (trees h p)
pasted_below between (notes p) = notes p
pasted_below between (trees h p) = trees h p

noted_below : {ms ns : List Mass} → Below ms ns → Below (rise symbol.Noted ms) (rise symbol.Noted ns)
noted_below none = none
noted_below (texts p) = texts p
noted_below (notes p) = notes p
noted_below (trees h none) = trees h none
noted_below (trees h (texts p)) = trees h (texts p)
noted_below (trees h (notes p)) = trees h p
noted_below (trees h (trees k p)) = trees h (trees k p)

pub rise_below : (s : Symbol) {ms ns : List Mass} → Below ms ns → Below (rise s ms) (rise s ns)
rise_below (symbol.Take set) p = p
rise_below (symbol.Keep set) p = texts p
rise_below (symbol.Closing depth) p = p
rise_below (symbol.Part r) p =
    let need = need_of r in
    let n = length need.0.now in
    made_below need.1 record { nodes = need.2.0; steps = need.2.1 } record { nodes = need.3.0; steps = need.3.1 } (take_below n p) (drop_below n p)
rise_below (symbol.Build k count) p = trees (raised_lower (own_height k) (highest_below (take_below count p))) (drop_below count p)
rise_below symbol.Join p = joined_below p
rise_below (symbol.Say w) p = texts p
rise_below (symbol.Paste between) p = pasted_below between p
rise_below symbol.Lower p = p
rise_below (symbol.Recall depth) p = texts p
rise_below symbol.Notes p = notes p
rise_below symbol.Noted p = noted_below p
rise_below symbol.EndNotes p = p

pub least_below : (line : List Placed) {ms ns : List Mass} → Below ms ns → Below (least line ms) (least line ns)
least_below [] p = p
least_below (s ∷ ss) p = least_below ss (rise_below s.1 p)

pub least-append : (a b : List Placed) (ms : List Mass) → least (a ++ b) ms ≡ least b (least a ms)
least-append [] b ms = refl
least-append (s ∷ a) b ms = least-append a b (rise s.1 ms)
