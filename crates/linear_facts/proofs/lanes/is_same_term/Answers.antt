use Rattle.std.proofs.Common.{◌≡◌, ◌↔◌, Bool, true, false, IsTrue, refl, sym}
use Rattle.term_core.specs.declared.term.Term.{Term}
use Rattle.term_core.specs.contracts.term.Term as term
use Rattle.base_kit.specs.Sameness.{same_decides}
use Rattle.linear_facts.specs.Forms.{same_term}
use Rattle.linear_facts.proofs.lanes.is_same_term.Goals as goal

-- as the code tells terms apart
same_by : (t u : Term) (b : Bool) → IsTrue b ↔ (t ≡ u) → b ≡ same_term t u
same_by t u true h = sym ((same_decides term.the_row.coded t u).1 (h.0 refl))
same_by t u false h = by_test (same_term t u) (same_decides term.the_row.coded t u).0
  where
    by_test : (c : Bool) → (c ≡ true → t ≡ u) → false ≡ c
    by_test false e = refl
    by_test true e = h.1 (e refl)

pub returns : goal.returns
returns c = same_by c.args.a.now c.args.b.now c.equal.result c.equal.ensures
