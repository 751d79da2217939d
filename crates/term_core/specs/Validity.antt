-- Which sequents are valid.
use Rattle.std.specs.Prelude.{◌≡◌, ℕ, List, [], ◌∷◌, true, Option, Some, None, bytes_eq, if◌then◌else◌}
use Rattle.term_core.specs.declared.sort.Sort.{Sort}
use Rattle.term_core.specs.declared.term.Term.{Term}
use Rattle.term_core.specs.declared.sequent.Var.{Var}
use Rattle.term_core.specs.declared.sequent.Sequent.{Sequent}
use Rattle.term_core.specs.Values.{a_truth, Env}
use Rattle.term_core.specs.Sorts.{lies_in}
use Rattle.term_core.specs.Evaluation.{Meaning, value}

-- the sort of a name: of equal names the first counts
abbrev pub sort_in : List Var → List ℕ → Option Sort
sort_in [] x = None
sort_in (v ∷ vs) x = if bytes_eq v.name x then Some v.sort else sort_in vs x

-- each variable has a value of its sort
abbrev pub Typed : Meaning → List Var → Env → Type 0
Typed me vars env = (x : List ℕ) (sort : Sort) → sort_in vars x ≡ Some sort → lies_in me.generators (env x) sort ≡ true

-- true from some number of equations on
abbrev pub Holds : Meaning → Term → Env → Type 0
Holds me t env = (n : ℕ) × (value n me t env ≡ Some (a_truth true))

abbrev pub AllHold : Meaning → List Term → Env → Type 0
AllHold me [] env = Unit {0}
AllHold me (t ∷ ts) env = Holds me t env × AllHold me ts env

-- wherever each variable has a value of its sort and all hypotheses hold, the goal holds
abbrev pub Valid : Meaning → Sequent → Type 0
Valid me sequent = (env : Env) → Typed me sequent.vars env → AllHold me sequent.hyps env → Holds me sequent.goal env
