use Rattle.std.proofs.Common.{rules, arith, inl, inr, refl}
use Rattle.std.proofs.lemmas.Grind.{common_steps}
use Rattle.outside.specs.MemorySink.{FailsAt}
use Rattle.outside.proofs.memory_sink.MemSinkSink.write.Goals as goal
use Rattle.outside.proofs.memory_sink.MemSinkSink.write.Goals.{then-contains-via-then-contains, then-contains-via-else-contains+then-not-is_empty}

pub returns-then-contains-clause-fails : goal.returns-then-contains-clause-fails
returns-then-contains-clause-fails c = (
  λ _. elim c.then-contains.branch as (λ _. FailsAt c.args.self.now c.args.piece.now) [
    | then-contains-via-then-contains w ↦ inl (search rules)
    | then-contains-via-else-contains+then-not-is_empty w ↦ inr (grind (arith, common_steps), grind (arith, common_steps))
  ],
  λ _. refl,
)
