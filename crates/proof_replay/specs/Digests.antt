-- The digest of a sequent, by which it is sought: equal sequents have equal digests. The variables aren't in it.
use mir.Syntax.{w128}
use Rattle.std.specs.Int.{cast_unsigned}
use Rattle.std.specs.Prelude.{ℕ, ℤ, List, ◌*◌, ◌/◌, ◌%◌, ◌^◌, fold, bit_xor, cond}
use Rattle.term_core.specs.declared.sequent.Sequent.{Sequent}
use Rattle.term_core.specs.declared.term.Term.{Term}
use Rattle.term_core.specs.declared.term.Term.TheFolds.{fold-Term}
use Rattle.term_core.specs.declared.term.Term.TheOpen.{Term-F}
use Rattle.term_core.specs.Opers.{number_of}

-- a number mixed into a digest
abbrev stirred : ℕ → ℕ
stirred product = bit_xor product (product / 2 ^ 32)

unfoldable pub mixed : ℕ → ℕ → ℕ
mixed digest number = stirred (bit_xor digest number * 11400714819323198485 % 2 ^ 64)

abbrev pub mixed_all : ℕ → List ℕ → ℕ
mixed_all = fold mixed

-- a number below 2 ^ 64 of a whole number of 128 bits
abbrev pub low_part : ℤ → ℕ
low_part number = cast_unsigned w128 number % 2 ^ 64

abbrev pub digest_step : Term-F ℕ → ℕ
digest_step (Term-F.Int number) = mixed 1 (low_part number)
digest_step (Term-F.Truth value) = mixed 2 (cond value 1 0)
digest_step (Term-F.Var name) = mixed_all 3 name
digest_step (Term-F.Op oper digests) = mixed_all (mixed (mixed 4 (number_of oper).0) (number_of oper).1) digests
digest_step (Term-F.All name low high body) = mixed (mixed (mixed (mixed_all 5 name) low) high) body
digest_step (Term-F.Some name low high body) = mixed (mixed (mixed (mixed_all 6 name) low) high) body

abbrev pub digest_of_term : Term → ℕ
digest_of_term = fold-Term ℕ digest_step

abbrev pub digest_of_terms : ℕ → List Term → ℕ
digest_of_terms = fold (λ digest term. mixed digest (digest_of_term term))

-- the hypotheses and the goal
abbrev pub digest_of : Sequent → ℕ
digest_of sequent = mixed (digest_of_terms 7 sequent.hyps) (digest_of_term sequent.goal)
