use Rattle.std.proofs.Common.{◌≡◌, ℕ, ◌<◌, List, ◌∷◌, length, Bool, not, refl, sym, ap, ◌∙◌, subst, arith}
use Rattle.std.proofs.lemmas.Bool.{not-false, not-true}
use Rattle.std.specs.Str.{bytes_eq}
use Rattle.edit_script.proofs.Lists.{named_from, named_step, named_other, named_over, names_of-members_view}
use Rattle.edit_script.proofs.form.has_names.Goals as goal
use Rattle.edit_script.proofs.form.has_names.Goals.{then-count-names-via-then-count-names, then-count-names-via-else-count-names+then-ne}

pub loop-name-init : goal.loop-name-init
loop-name-init c =
    (omega arith, rw (names_of-members_view c.args.members.now.entries, c.into_iter-name-iterator.ensures.into_iter_gives, c.keys-name-items.ensures.rest) refl)

-- what the comparison told of the key itself
told : (text key other : List ℕ) (differs : Bool) → text ≡ key → differs ≡ not (bytes_eq text other) → not (bytes_eq key other) ≡ differs
told text key other differs is tells = sym (subst (λ (t : List ℕ). differs ≡ not (bytes_eq t other)) is tells)

pub returns-then-count-names : goal.returns-then-count-names
returns-then-count-names c =
    let key = c.in-Some.name.now in
    let keys = c.next.new.self in
    let here = c.loop-name.invariant.1 ∙ ap (λ ks. named_from ks c.args.names.now c.loop-name.count) c.in-Some.ensures.steps in
    elim c.then-count-names.branch [
      | then-count-names-via-then-count-names w ↦
          sym (here ∙ ap (λ i. named_from (key ∷ keys) c.args.names.now i) w.if-count-names.true ∙ named_over c.args.names.now key keys)
      | then-count-names-via-else-count-names+then-ne w ↦
          let within : c.loop-name.count < length c.args.names.now = omega arith in
          sym (here ∙ named_other c.args.names.now c.loop-name.count _ key keys within (not-true _ (told _ _ _ _ w.as_str.ensures.value w.ne.ensures ∙ w.if-ne.true)))
    ]

pub loop-name-preserved : goal.loop-name-preserved
loop-name-preserved c =
    let here = c.loop-name.invariant.1 ∙ ap (λ ks. named_from ks c.args.names.now c.loop-name.count) c.in-Some.ensures.steps in
    let within : c.loop-name.count < length c.args.names.now = omega arith in
    (omega arith, here ∙ named_step c.args.names.now c.loop-name.count _ c.in-Some.name.now c.next.new.self within (not-false _ (told _ _ _ _ c.as_str.ensures.value c.ne.ensures ∙ c.if-ne.false)))
