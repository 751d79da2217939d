-- The sums over a stack bound what limits see.
use Rattle.std.proofs.Common.{arith, leb-true, ◌≡◌, ℕ, zero, suc, ◌+◌, ◌-◌, ◌≤◌, ◌<◌, List, [], ◌∷◌, ◌++◌, max, take, drop, length, refl, sym, subst, Bool, true, false, ◌&&◌, if◌then◌else◌, Option, Some, None}
use Rattle.std.specs.Prelude.{nat_le, nat_lt}
use Rattle.std.proofs.lemmas.Bool.{and_parts, ltb-true}
use Rattle.std.proofs.lemmas.Bool.Decides.{nat_tests}
use denote.Enum.Bare.{sameb}
use Rattle.ada_tree.specs.contracts.word.Mark as mark_row
use Rattle.ada_tree.specs.declared.word.Mark.TheVariants as mark
use Rattle.reading_machine.specs.Loads.{load_of, load_in, load_on, together, most, is_light, Bounds, Covers, last_height}
use Rattle.reading_machine.specs.declared.load.Load.{Load}
use Rattle.reading_table.proofs.Parts.{tests, of_each_part}
use Rattle.reading_table.specs.declared.need.Height.{Height}
use Rattle.reading_table.specs.declared.need.Mass.{Mass}
use Rattle.reading_table.specs.declared.need.Mass.TheVariants as mass
use Rattle.reading_table.specs.declared.need.Sort.{Sort}
use Rattle.reading_table.specs.declared.need.Sort.TheVariants as sort
use Rattle.reading_table.specs.declared.rule.Rule.{Rule}
use Rattle.reading_table.specs.declared.symbol.Symbol.{Symbol}
use Rattle.reading_table.specs.declared.symbol.Symbol.TheVariants as symbol
use Rattle.reading_table.specs.declared.symbol.Tokens.{Tokens}
use Rattle.reading_table.specs.declared.symbol.Tokens.TheVariants as tokens
use Rattle.reading_table.specs.Heights.{higher, highest, raised, own_height, joined_mass, pasted_mass, noted_mass, made_mass, rise, least}
use Rattle.reading_table.specs.Limits.{opened, open_within, open_behind, widest}
use Rattle.reading_table.specs.Rows.{Part, Placed, need_of}
use Rattle.reading_table.specs.Weighed.{Progress, is_within}

-- ---- what each rule makes without any value is low

abbrev low : Part → Bool
low p = nat_le (need_of p.1).2.0 2 && (nat_le (need_of p.1).2.1 1 && nat_le (need_of p.1).4 1)

all_low : tests low ≡ true
all_low = refl

need_low : (r : Rule) → ((need_of r).2.0 ≤ 2) × ((need_of r).2.1 ≤ 1) × ((need_of r).4 ≤ 1)
need_low r =
    let a = and_parts (nat_le (need_of r).2.0 2) (nat_le (need_of r).2.1 1 && nat_le (need_of r).4 1) (of_each_part low all_low (false, r)) in
    let b = and_parts (nat_le (need_of r).2.1 1) (nat_le (need_of r).4 1) a.1 in
    (leb-true (need_of r).2.0 2 a.0, leb-true (need_of r).2.1 1 b.0, leb-true (need_of r).4 1 b.1)

-- ---- heights

module _ (n s : ℕ) where
  abbrev AtMost : Height → Type 0
  AtMost h = (h.nodes ≤ n) × (h.steps ≤ s)

  front_low : (k : ℕ) (ms : List Mass) → AtMost (highest ms) → AtMost (highest (take k ms))
  front_low zero ms h = (omega arith, omega arith)
  front_low (suc k) [] h = (omega arith, omega arith)
  front_low (suc k) (m ∷ ms) h = let r = front_low k ms (omega (arith, h.0), omega (arith, h.1)) in (omega (arith, h.0, r.0), omega (arith, h.1, r.1))

  back_low : (k : ℕ) (ms : List Mass) → AtMost (highest ms) → AtMost (highest (drop k ms))
  back_low zero ms h = h
  back_low (suc k) [] h = h
  back_low (suc k) (m ∷ ms) h = back_low k ms (omega (arith, h.0), omega (arith, h.1))

  joined_low : (ms : List Mass) → AtMost (highest ms) → AtMost (highest (joined_mass ms))
  joined_low [] h = h
  joined_low (mass.Text ∷ ms) h = h
  joined_low (mass.Comments ∷ ms) h = h
  joined_low (mass.Tree a ∷ []) h = h
  joined_low (mass.Tree a ∷ mass.Text ∷ ms) h = h
  joined_low (mass.Tree a ∷ mass.Comments ∷ ms) h = h
  joined_low (mass.Tree a ∷ mass.Tree b ∷ ms) h = (omega (arith, h.0), omega (arith, h.1))

  pasted_low : (ms : List Mass) → AtMost (highest ms) → AtMost (highest (pasted_mass ms))
  pasted_low [] h = h
  pasted_low (mass.Comments ∷ ms) h = h
  pasted_low (mass.Tree a ∷ ms) h = h
  pasted_low (mass.Text ∷ []) h = h
  pasted_low (mass.Text ∷ mass.Text ∷ ms) h = (omega (arith, h.0), omega (arith, h.1))
  pasted_low (mass.Text ∷ mass.Comments ∷ ms) h = h
  pasted_low (mass.Text ∷ mass.Tree a ∷ ms) h = h

  noted_low : (ms : List Mass) → AtMost (highest ms) → AtMost (highest (noted_mass ms))
  noted_low [] h = h
  noted_low (mass.Text ∷ ms) h = h
  noted_low (mass.Comments ∷ ms) h = h
  noted_low (mass.Tree a ∷ []) h = h
  noted_low (mass.Tree a ∷ mass.Text ∷ ms) h = h
  noted_low (mass.Tree a ∷ mass.Comments ∷ ms) h = (omega (arith, h.0), omega (arith, h.1))
  noted_low (mass.Tree a ∷ mass.Tree b ∷ ms) h = h

made_low : (n s : ℕ) (leaves : Option Sort) (own owed : ℕ × ℕ) (found rest : List Mass) → own.0 ≤ n → own.1 ≤ s → AtMost n s (highest found) → AtMost n s (highest rest)
    → AtMost (owed.0 + n) (owed.1 + s) (highest (made_mass leaves record { nodes = own.0; steps = own.1 } record { nodes = owed.0; steps = owed.1 } found rest))
made_low n s None own owed found rest a b f r = (omega (arith, r.0), omega (arith, r.1))
made_low n s (Some sort.Text) own owed found rest a b f r = (omega (arith, r.0), omega (arith, r.1))
made_low n s (Some sort.Tree) own owed found rest a b f r = (omega (arith, a, f.0, r.0), omega (arith, b, f.1, r.1))

-- a symbol makes values no higher than it adds
rise_low : (n s : ℕ) (x : Symbol) (ms : List Mass) → 2 ≤ n → 1 ≤ s → AtMost n s (highest ms) → AtMost ((load_of x).nodes + n) ((load_of x).steps + s) (highest (rise x ms))
rise_low n s (symbol.Take set) ms a b h = (omega (arith, h.0), omega (arith, h.1))
rise_low n s (symbol.Keep set) ms a b h = (omega (arith, h.0), omega (arith, h.1))
rise_low n s (symbol.Closing depth) ms a b h = (omega (arith, h.0), omega (arith, h.1))
rise_low n s (symbol.Part r) ms a b h =
    let low = need_low r in
    let k = length (need_of r).0.now in
    made_low n s (need_of r).1 (need_of r).2 (need_of r).3 (take k ms) (drop k ms) (omega (arith, a, low.0)) (omega (arith, b, low.1)) (front_low n s k ms h) (back_low n s k ms h)
rise_low n s (symbol.Build kind k) ms a b h =
    let f = front_low n s k ms h in
    let r = back_low n s k ms h in
    (omega (arith, f.0, r.0), omega (arith, f.1, r.1))
rise_low n s symbol.Join ms a b h = let r = joined_low n s ms h in (omega (arith, r.0), omega (arith, r.1))
rise_low n s (symbol.Say w) ms a b h = (omega (arith, h.0), omega (arith, h.1))
rise_low n s (symbol.Paste between) ms a b h = let r = pasted_low n s ms h in (omega (arith, r.0), omega (arith, r.1))
rise_low n s symbol.Lower ms a b h = (omega (arith, h.0), omega (arith, h.1))
rise_low n s (symbol.Recall depth) ms a b h = (omega (arith, h.0), omega (arith, h.1))
rise_low n s symbol.Notes ms a b h = (omega (arith, h.0), omega (arith, h.1))
rise_low n s symbol.Noted ms a b h = let r = noted_low n s ms h in (omega (arith, r.0), omega (arith, r.1))
rise_low n s symbol.EndNotes ms a b h = (omega (arith, h.0), omega (arith, h.1))

-- all that is still to be read makes values no higher
least_low : (n s : ℕ) (ss : List Placed) (ms : List Mass) → 2 ≤ n → 1 ≤ s → AtMost n s (highest ms) → AtMost ((load_in ss).nodes + n) ((load_in ss).steps + s) (highest (least ss ms))
least_low n s [] ms a b h = (omega (arith, h.0), omega (arith, h.1))
least_low n s (x ∷ ss) ms a b h =
    let r = least_low ((load_of x.1).nodes + n) ((load_of x.1).steps + s) ss (rise x.1 ms) (omega (arith, a)) (omega (arith, b)) (rise_low n s x.1 ms a b h) in
    (omega (arith, r.0), omega (arith, r.1))

-- ---- parentheses

open_low : (count : ℕ) (set : Tokens) → opened count set ≤ count + opened 0 set
open_low count (tokens.Mark m) = by (sameb mark_row.the_type mark.Open m) (sameb mark_row.the_type mark.Close m)
  where
    by : (a b : Bool) → (if a then suc count else if b then count - 1 else count) ≤ count + (if a then suc 0 else if b then 0 - 1 else 0)
    by true b = omega arith
    by false true = omega arith
    by false false = omega arith
open_low count _ = omega arith

behind_low : (count : ℕ) (x : Symbol) → open_behind count x ≤ count + (load_of x).opens
behind_low count (symbol.Take set) = open_low count set
behind_low count (symbol.Keep set) = open_low count set
behind_low count (symbol.Part r) = omega arith
behind_low count _ = omega arith

within_low : (count : ℕ) (x : Symbol) → open_within count x ≤ count + 1
within_low count (symbol.Part r) = let low = need_low r in omega (arith, low.2)
within_low count _ = omega arith

-- a greater count stays greater
wide_low : (count most : ℕ) (ss : List Placed) → count ≤ most → widest count ss ≤ most + (load_in ss).opens + 1
wide_low count most [] h = omega (arith, h)
wide_low count most (x ∷ ss) h =
    let a = within_low count x.1 in
    let b = behind_low count x.1 in
    let r = wide_low (open_behind count x.1) (most + (load_of x.1).opens) ss (omega (arith, b, h)) in
    omega (arith, a, r, h)

-- ---- the last value

-- what a symbol makes is the last value, or was there
module _ (ms : List Mass) where
  abbrev IsTop : List Mass → Type 0
  IsTop made = ((highest made).nodes ≤ max (highest ms).nodes (last_height made).nodes) × ((highest made).steps ≤ max (highest ms).steps (last_height made).steps)

  on_top : (m : Mass) (rest : List Mass) → AtMost (highest ms).nodes (highest ms).steps (highest rest) → IsTop (m ∷ rest)
  on_top m rest h = (omega (arith, h.0), omega (arith, h.1))

  as_before : IsTop ms
  as_before = (omega arith, omega arith)

all_low_here : (ms : List Mass) → AtMost (highest ms).nodes (highest ms).steps (highest ms)
all_low_here ms = (omega arith, omega arith)

joined_top : (ms : List Mass) → IsTop ms (joined_mass ms)
joined_top [] = as_before []
joined_top (mass.Text ∷ ms) = as_before (mass.Text ∷ ms)
joined_top (mass.Comments ∷ ms) = as_before (mass.Comments ∷ ms)
joined_top (mass.Tree a ∷ []) = as_before (mass.Tree a ∷ [])
joined_top (mass.Tree a ∷ mass.Text ∷ ms) = as_before (mass.Tree a ∷ mass.Text ∷ ms)
joined_top (mass.Tree a ∷ mass.Comments ∷ ms) = as_before (mass.Tree a ∷ mass.Comments ∷ ms)
joined_top (mass.Tree a ∷ mass.Tree b ∷ ms) = (omega arith, omega arith)

pasted_top : (ms : List Mass) → IsTop ms (pasted_mass ms)
pasted_top [] = as_before []
pasted_top (mass.Comments ∷ ms) = as_before (mass.Comments ∷ ms)
pasted_top (mass.Tree a ∷ ms) = as_before (mass.Tree a ∷ ms)
pasted_top (mass.Text ∷ []) = as_before (mass.Text ∷ [])
pasted_top (mass.Text ∷ mass.Text ∷ ms) = (omega arith, omega arith)
pasted_top (mass.Text ∷ mass.Comments ∷ ms) = as_before (mass.Text ∷ mass.Comments ∷ ms)
pasted_top (mass.Text ∷ mass.Tree a ∷ ms) = as_before (mass.Text ∷ mass.Tree a ∷ ms)

noted_top : (ms : List Mass) → IsTop ms (noted_mass ms)
noted_top [] = as_before []
noted_top (mass.Text ∷ ms) = as_before (mass.Text ∷ ms)
noted_top (mass.Comments ∷ ms) = as_before (mass.Comments ∷ ms)
noted_top (mass.Tree a ∷ []) = as_before (mass.Tree a ∷ [])
noted_top (mass.Tree a ∷ mass.Text ∷ ms) = as_before (mass.Tree a ∷ mass.Text ∷ ms)
noted_top (mass.Tree a ∷ mass.Comments ∷ ms) = (omega arith, omega arith)
noted_top (mass.Tree a ∷ mass.Tree b ∷ ms) = as_before (mass.Tree a ∷ mass.Tree b ∷ ms)

made_top : (ms : List Mass) (leaves : Option Sort) (own owed : Height) (found rest : List Mass) → AtMost (highest ms).nodes (highest ms).steps (highest rest) → IsTop ms (made_mass leaves own owed found rest)
made_top ms None own owed found rest h = (omega (arith, h.0), omega (arith, h.1))
made_top ms (Some sort.Text) own owed found rest h = on_top ms mass.Text rest h
made_top ms (Some sort.Tree) own owed found rest h = on_top ms (mass.Tree (higher own (raised (highest found) owed))) rest h

rise_top : (x : Symbol) (ms : List Mass) → IsTop ms (rise x ms)
rise_top (symbol.Take set) ms = as_before ms
rise_top (symbol.Keep set) ms = on_top ms mass.Text ms (all_low_here ms)
rise_top (symbol.Closing depth) ms = as_before ms
rise_top (symbol.Part r) ms =
    let k = length (need_of r).0.now in
    made_top ms (need_of r).1 record { nodes = (need_of r).2.0; steps = (need_of r).2.1 } record { nodes = (need_of r).3.0; steps = (need_of r).3.1 } (take k ms) (drop k ms)
    (back_low (highest ms).nodes (highest ms).steps k ms (all_low_here ms))
rise_top (symbol.Build kind k) ms =
    on_top ms (mass.Tree (raised (highest (take k ms)) (own_height kind))) (drop k ms) (back_low (highest ms).nodes (highest ms).steps k ms (all_low_here ms))
rise_top symbol.Join ms = joined_top ms
rise_top (symbol.Say w) ms = on_top ms mass.Text ms (all_low_here ms)
rise_top (symbol.Paste between) ms = pasted_top ms
rise_top symbol.Lower ms = as_before ms
rise_top (symbol.Recall depth) ms = on_top ms mass.Text ms (all_low_here ms)
rise_top symbol.Notes ms = on_top ms mass.Comments ms (all_low_here ms)
rise_top symbol.Noted ms = noted_top ms
rise_top symbol.EndNotes ms = as_before ms

-- the higher of a height that covers what was there and that of the last value covers what a symbol makes
pub risen_covered : (x : Symbol) (ms : List Mass) (h : Height) → Covers (highest ms) h → Covers (highest (rise x ms)) (higher h (last_height (rise x ms)))
risen_covered x ms h c =
    let top = rise_top x ms in
    (omega (arith, c.0, top.0), omega (arith, c.1, top.1))

-- ---- sums

load_append : (a b : List Placed) → load_in (a ++ b) ≡ together (load_in a) (load_in b)
load_append [] b = none_before (load_in b)
  where
    none_before : (y : Load) → y ≡ together record { nodes = 0; steps = 0; opens = 0 } y
    none_before y =
        let n : 0 + y.nodes ≡ y.nodes = omega arith in
        let s : 0 + y.steps ≡ y.steps = omega arith in
        let o : 0 + y.opens ≡ y.opens = omega arith in
        rw (n, s, o) refl
load_append (x ∷ a) b = rw (load_append a b) (together_all (load_of x.1) (load_in a) (load_in b))
  where
    together_all : (x y z : Load) → together x (together y z) ≡ together (together x y) z
    together_all x y z =
        let n : x.nodes + (y.nodes + z.nodes) ≡ (x.nodes + y.nodes) + z.nodes = omega arith in
        let s : x.steps + (y.steps + z.steps) ≡ (x.steps + y.steps) + z.steps = omega arith in
        let o : x.opens + (y.opens + z.opens) ≡ (x.opens + y.opens) + z.opens = omega arith in
        rw (n, s, o) refl

pub load_before : (line old : List Placed) (bound : Load) → Bounds (together (load_in line) (load_in old)) bound → Bounds (load_in (line ++ old)) bound
load_before line old bound h = subst (λ l. Bounds l bound) (sym (load_append line old)) h

pub self_bounds : (a : Load) → Bounds a a
self_bounds a = (omega arith, omega arith, omega arith)

-- what was next is in the sum
pub sum_step : (whole sum next new rest : Load) → Bounds (together sum next) new → Bounds whole (together sum (together next rest)) → Bounds whole (together new rest)
sum_step whole sum next new rest a b = (omega (arith, a.0, b.0), omega (arith, a.1, b.1), omega (arith, a.2, b.2))

-- ---- both together

pub surely_within : (round : ℕ) (p : Progress) (height : Height) (bound : Load) → Covers (highest p.weighed.masses) height → Bounds (together (load_in p.stack) (load_on height p.parentheses)) bound
    → is_light round bound ≡ true → is_within round p ≡ true
surely_within round p height bound c b h =
    let outer = and_parts (nat_le (round + bound.nodes) 64 && nat_le bound.steps 200) (nat_lt bound.opens 64) h in
    let inner = and_parts (nat_le (round + bound.nodes) 64) (nat_le bound.steps 200) outer.0 in
    let n : round + bound.nodes ≤ 64 = leb-true (round + bound.nodes) 64 inner.0 in
    let s : bound.steps ≤ 200 = leb-true bound.steps 200 inner.1 in
    let o : bound.opens < 64 = ltb-true bound.opens 64 outer.1 in
    let high = least_low (max height.nodes 2) (max height.steps 1) p.stack p.weighed.masses (omega arith) (omega arith) (omega (arith, c.0, b.0, n), omega (arith, c.1, b.1, s)) in
    let wide = wide_low p.parentheses p.parentheses p.stack (omega arith) in
    let nodes : round + (highest (least p.stack p.weighed.masses)).nodes ≤ 64 = omega (arith, high.0, b.0, n) in
    let steps : (highest (least p.stack p.weighed.masses)).steps ≤ 200 = omega (arith, high.1, b.1, s) in
    let few : widest p.parentheses p.stack ≤ 64 = omega (arith, wide, b.2, o) in
    grind (arith, nat_tests)
