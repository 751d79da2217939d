use Rattle.std.proofs.Common.{◌≡◌, ◌∷◌, [], ◌++◌, sym, ◌∙◌, append_assoc, drop, bytes_eq, true, false, ◌+◌}
use Rattle.term_core.specs.Names.{without}
use Rattle.term_core.proofs.NameLaws.{without_same, without_other}
use Rattle.term_core.proofs.naming.all_but.Goals as goal
use Rattle.term_core.proofs.naming.all_but.Goals.{then-not-same_text+in_ok-copy+in_ok-push, else-not-same_text}

pub loop-other-preserved : goal.loop-other-preserved
loop-other-preserved c = elim c.if-not-same_text.branch [
  | then-not-same_text+in_ok-copy+in_ok-push w ↦
      let t : bytes_eq c.other-item.result c.args.name.now ≡ false = sym c.same_text.ensures.test ∙ w.if-not-same_text.true in
      let e = without_other c.args.name.now c.args.names.now c.loop-other.other-index c.other-item.result c.loop-other-test.true c.other-item.is t in
      let f : c.loop-other.left ++ without c.args.name.now (drop c.loop-other.other-index c.args.names.now) ≡ without c.args.name.now c.args.names.now = c.loop-other.invariant in
      let p = w.in_ok-push.ensures.ok in
      let q = w.in_ok-copy.ensures in
      let k = w.left-is in
      let a = append_assoc c.loop-other.left (w.in_ok-copy.field-0 ∷ []) (without c.args.name.now (drop (c.loop-other.other-index + 1) c.args.names.now)) in cc
  | else-not-same_text w ↦
      let t : bytes_eq c.other-item.result c.args.name.now ≡ true = sym c.same_text.ensures.test ∙ w.if-not-same_text.false in
      let e = without_same c.args.name.now c.args.names.now c.loop-other.other-index c.other-item.result c.loop-other-test.true c.other-item.is t in
      let f : c.loop-other.left ++ without c.args.name.now (drop c.loop-other.other-index c.args.names.now) ≡ without c.args.name.now c.args.names.now = c.loop-other.invariant in
      let k = w.left-is in cc
]
