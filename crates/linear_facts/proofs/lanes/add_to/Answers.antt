use Rattle.std.proofs.Common.{◌≡◌, ℕ, ◌+◌, ◌<◌, pos, List, ◌++◌, length, map, take, drop, get_or, set, sym, subst, ap, ◌∙◌, if◌then◌else◌}
use Rattle.std.proofs.lemmas.List.Edits.{map_over_more}
use mir.Syntax.{w128}
use mir.Val.{to_z, of_z}
use Rattle.linear_facts.specs.declared.lanes.Lane.{Lane}
use Rattle.linear_facts.specs.Views.{part_behind}
use Rattle.linear_facts.specs.Lanes.{is_lane_of, seen, with_more}
use Rattle.linear_facts.proofs.lanes.add_to.Goals as goal

next : (f : Lane → Lane) (xs ys : List Lane) (i : ℕ) (x r : Lane) → i < length xs → ys ≡ map f (take i xs) ++ drop i xs → x ≡ get_or ys i x → r ≡ f (get_or ys i x)
    → set ys i r ≡ map f (take (i + 1) xs) ++ drop (i + 1) xs
next f xs ys i x r l e is h = subst (λ z. set ys i z ≡ map f (take (i + 1) xs) ++ drop (i + 1) xs) (sym (h ∙ ap f (sym is))) (map_over_more f xs ys i x l e is)

pub loop-lane-preserved : goal.loop-lane-preserved
loop-lane-preserved c =
    let part = part_behind c.args.part in
    let number = to_z w128 (of_z w128 c.args.number) in
    let lane = get_or c.loop-lane.lanes c.loop-lane.lane-index c.lane-item.result in
    next (λ lane. with_more (seen lane part number) lane) c.args.lanes.now c.loop-lane.lanes c.loop-lane.lane-index c.lane-item.result c.with_number.result
    c.loop-lane-test.true c.loop-lane.invariant c.lane-item.is
    (c.with_number.ensures ∙ ap (λ mark. with_more (if is_lane_of lane part mark then number else pos 0) lane) c.mark-mark.ensures)
