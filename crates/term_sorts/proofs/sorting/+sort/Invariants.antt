use Rattle.std.proofs.Common.{◌≡◌, ◌++◌, drop}
use Rattle.std.specs.Option.{option_map}
use Rattle.term_core.specs.Options.{all_some}
use Rattle.term_sorts.specs.Sorting.{scope_of, within, sorts_each}
use Rattle.term_sorts.proofs.sorting.+sort.Given as goal

abbrev pub invariant-operand_sorts-loop-term : goal.invariant-operand_sorts-loop-term
invariant-operand_sorts-loop-term l =
    let scope = within (scope_of l.vars) l.initial.bound.items in
    record {
      kept : l.bound.items ≡ l.initial.bound.items;
      gathered : option_map (λ rest. l.sorts ++ rest) (all_some (sorts_each l.ops scope (drop l.term-index l.terms))) ≡ all_some (sorts_each l.ops scope l.terms);
    }
