use Rattle.std.proofs.Common.{◌≡◌, ◌≤◌, ◌+◌, ◌-◌, ◌++◌, sym, ◌∙◌, ap, arith, length, drop}
use Rattle.std.specs.Option.{option_to_list}
use Rattle.lex_ada.specs.Cutting.{size_of, line_after}
use Rattle.lex_ada.proofs.Turns.{some_bytes, good, cuts, IsWithin, within, within_bad, turned, line_bound}
use Rattle.lex_ada.proofs.scan.scan.Goals as goal

pub overflow_add-result : goal.overflow_add-result
overflow_add-result c =
    let some = some_bytes c.loop-rest.rest.now c.is_empty.result c.is_empty.ensures c.loop-rest-test.true in
    let most = within_bad c.loop-rest.note c.loop-rest.rest.now c.in-Bad.size (sym c.in-Bad.is ∙ c.cut_front-cut.ensures) some in
    omega (arith, most)

pub token_of-requires : goal.token_of-requires
token_of-requires c =
    let some = some_bytes c.loop-rest.rest.now c.is_empty.result c.is_empty.ensures c.loop-rest-test.true in
    let fits : IsWithin c.loop-rest.rest.now c.cut_front-cut.result = within c.loop-rest.note _ _ (cuts c.loop-rest.note c.loop-rest.rest.now c.cut_front-cut.result c.cut_front-cut.ensures some (good _ c.in_default.not-Bad)) in
    record { end = omega (arith, fits.most); line = omega (arith, some) }

pub split_at-requires : goal.split_at-requires
split_at-requires c =
    let some = some_bytes c.loop-rest.rest.now c.is_empty.result c.is_empty.ensures c.loop-rest-test.true in
    let fits : IsWithin c.loop-rest.rest.now c.cut_front-cut.result = within c.loop-rest.note _ _ (cuts c.loop-rest.note c.loop-rest.rest.now c.cut_front-cut.result c.cut_front-cut.ensures some (good _ c.in_default.not-Bad)) in
    omega (arith, c.size.ensures, fits.most)

pub loop-rest-smaller : goal.loop-rest-smaller
loop-rest-smaller c =
    let some = some_bytes c.loop-rest.rest.now c.is_empty.result c.is_empty.ensures c.loop-rest-test.true in
    let fits : IsWithin c.loop-rest.rest.now c.cut_front-cut.result = within c.loop-rest.note _ _ (cuts c.loop-rest.note c.loop-rest.rest.now c.cut_front-cut.result c.cut_front-cut.ensures some (good _ c.in_default.not-Bad)) in
    omega (arith, c.size.ensures, c.split_at.ensures.back_len, fits.least)

pub loop-rest-preserved : goal.loop-rest-preserved
loop-rest-preserved c =
    let some = some_bytes c.loop-rest.rest.now c.is_empty.result c.is_empty.ensures c.loop-rest-test.true in
    let front = cuts c.loop-rest.note c.loop-rest.rest.now c.cut_front-cut.result c.cut_front-cut.ensures some (good _ c.in_default.not-Bad) in
    let fits : IsWithin c.loop-rest.rest.now c.cut_front-cut.result = within c.loop-rest.note _ _ front in
    let at = length c.args.bytes.now - length c.loop-rest.rest.now in
    let moved : length c.args.bytes.now - length c.split_at.result.1.now ≡ at + size_of c.cut_front-cut.result = omega (arith, c.size.ensures, c.split_at.ensures.back_len, fits.most) in
    let lines : line_after c.cut_front-cut.result c.loop-rest.line ≤ 1 + (at + size_of c.cut_front-cut.result) = line_bound c.cut_front-cut.result c.loop-rest.line at fits.least c.loop-rest.invariant.lines in
    record {
      whole = turned c.loop-rest.tokens.items _ c.loop-rest.note _ at _ c.loop-rest.line _ c.loop-rest.rest.now _ c.cut_front-cut.result _ front
          (c.in_ok-add.ensures ∙ ap (λ t. c.loop-rest.tokens.items ++ option_to_list t) c.token_of.ensures) c.note_after-note.ensures moved c.line_after-line.ensures
          (c.split_at.ensures.back ∙ ap (λ n. drop n c.loop-rest.rest.now) c.size.ensures) c.loop-rest.invariant.whole;
      shorter = omega (arith, c.split_at.ensures.back_len);
      lines = omega (arith, c.line_after-line.ensures, moved);
    }
