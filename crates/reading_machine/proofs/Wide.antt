-- The greater of two numbers is within a limit where both are.
use Rattle.std.proofs.Common.{arith, leb-true, ◌≡◌, ◌+◌, ◌-◌, ◌≤◌, ◌<◌, ℕ, suc, Bool, List, [], ◌∷◌, true, false, ◌&&◌, if◌then◌else◌, max, drop, sym, ◌∙◌, ap, Some}
use Rattle.std.specs.Prelude.{nat_le, slice_get}
use denote.Enum.Bare.{sameb}
use Rattle.ada_tree.specs.contracts.word.Mark as mark_row
use Rattle.ada_tree.specs.declared.word.Mark.TheVariants as mark
use Rattle.reading_machine.proofs.Stacks.{from_here}
use Rattle.std.proofs.lemmas.Bool.{and_parts}
use Rattle.std.proofs.lemmas.Bool.Decides.{nat_tests}
use Rattle.ada_tree.specs.declared.limits.TheConstants.{MOST_NESTED, MOST_NESTED_STEPS, MOST_OPEN}
use Rattle.reading_table.specs.declared.symbol.Symbol.{Symbol}
use Rattle.reading_table.specs.declared.symbol.Symbol.TheVariants as symbol
use Rattle.reading_table.specs.declared.symbol.Tokens.{Tokens}
use Rattle.reading_table.specs.declared.symbol.Tokens.TheVariants as tokens
use Rattle.reading_table.specs.Limits.{opened, open_within, open_behind, widest}
use Rattle.reading_table.specs.Rows.{Placed}
use Rattle.reading_table.specs.Weighed.{Progress, height_to_be, is_within}

pub wide_on : (a b most : ℕ) → a ≤ most → nat_le (max a b) most ≡ nat_le b most
wide_on a b most h = grind (arith, nat_tests)

pub wide_out : (a b most : ℕ) → most < a → nat_le (max a b) most ≡ false
wide_out a b most h = grind (arith, nat_tests)

few_first : (count : ℕ) (ss : List Placed) → count ≤ widest count ss
few_first count [] = omega arith
few_first count (s ∷ ss) = by s.1
  where
    by : (x : Symbol) → count ≤ max (open_within count x) (widest (open_behind count x) ss)
    by (symbol.Part r) = omega arith
    by _ = omega arith

-- where what is read may end within the limits, few enough parentheses are open now
pub few_within : (round : ℕ) (p : Progress) → is_within round p ≡ true → p.parentheses ≤ 64
few_within round p h =
    let parts = and_parts (nat_le (round + (height_to_be p).nodes) MOST_NESTED && nat_le (height_to_be p).steps MOST_NESTED_STEPS) (nat_le (widest p.parentheses p.stack) MOST_OPEN) h in
    let few : widest p.parentheses p.stack ≤ 64 = leb-true (widest p.parentheses p.stack) 64 parts.1 in
    let first = few_first p.parentheses p.stack in
    omega (arith, few, first)

opened_le : (count : ℕ) (set : Tokens) → opened count set ≤ count + 1
opened_le count (tokens.Mark m) = by (sameb mark_row.the_type mark.Open m) (sameb mark_row.the_type mark.Close m)
  where
    by : (a b : Bool) → (if a then suc count else if b then count - 1 else count) ≤ count + 1
    by true b = omega arith
    by false true = omega arith
    by false false = omega arith
opened_le count _ = omega arith

behind_le : (count : ℕ) (s : Symbol) → open_behind count s ≤ count + 1
behind_le count (symbol.Take set) = opened_le count set
behind_le count (symbol.Keep set) = opened_le count set
behind_le count (symbol.Part r) = omega arith
behind_le count _ = omega arith

within_le : (count : ℕ) (s : Symbol) → count ≤ open_within count s
within_le count (symbol.Part r) = omega arith
within_le count _ = omega arith

-- behind a symbol with which few enough are open, few are open, and what is left decides
pub wide_step : (count depth : ℕ) (stack : List Placed) (x : Placed) → slice_get stack depth ≡ Some x → open_within count x.1 ≤ 64
    → (open_behind count x.1 ≤ 65) × (nat_le (widest (open_behind count x.1) (drop (depth + 1) stack)) 64 ≡ nat_le (widest count (drop depth stack)) 64)
wide_step count depth stack x g h =
    let a = within_le count x.1 in
    let b = behind_le count x.1 in (
      omega (arith, a, b, h),
      sym (wide_on (open_within count x.1) (widest (open_behind count x.1) (drop (depth + 1) stack)) 64 h) ∙ sym (ap (λ ss. nat_le (widest count ss) 64) (from_here stack depth x g)),
    )
