use Rattle.std.proofs.Common.{◌≡◌, ap, sym, ◌∙◌, IfOk, subst, List, ℕ}
use Rattle.term_core.specs.Substitution.{free}
use Rattle.term_core.proofs.PutLaws.{free_var}
use Rattle.term_core.proofs.replacing.free_at.Goals as goal

pub returns-in-None : goal.returns-in-None
returns-in-None c = subst (λ (l : List (List ℕ)). IfOk c.one_name.result (λ names. names ≡ l)) (sym (ap free c.in-None.ensures ∙ free_var c.args.name.now)) c.one_name.ensures
