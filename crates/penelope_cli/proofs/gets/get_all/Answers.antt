use Rattle.std.proofs.Common.{rules, ap, ◌∙◌, arith, length-append, ◌≡◌, ◌≤◌, ◌<◌, length, map, ℕ, ◌+◌, List, [], ◌∷◌, ◌++◌, drop}
use Rattle.std.proofs.lemmas.Result.{err_from_is_err_and}
use Rattle.std.specs.Prelude.{string_bytes}
use Rattle.penelope_cli.proofs.Getting.{went_to_first, went_to_next, ran_to_next, gave_up_behind, names_left}
use Rattle.outside.specs.declared.status.Status.TheVariants.{NoMemory}
use Rattle.std.proofs.lemmas.List.Elements.{All-push}
use Rattle.penelope_cli.specs.declared.gets.TheConstants.{MOST_BYTES}
use Rattle.penelope_cli.proofs.gets.get_all.Goals as goal

pub loop-name-init : goal.loop-name-init
loop-name-init g c =
    (went_to_first (map string_bytes c.args.names.now) c.new-sources.result (g.S.Shelf.state c.args.shelf.now) (g.K.Sink.state c.args.out.now) c.new-sources.ensures, search rules, search rules)

pub returns-in_err-bytes-clause-gets : goal.returns-in_err-bytes-clause-gets
returns-in_err-bytes-clause-gets g c =
    let names = map string_bytes c.args.names.now in
    let left = map string_bytes (drop c.loop-name.name-index c.args.names.now) in
    let behind = map string_bytes (drop (c.loop-name.name-index + 1) c.args.names.now) in
    let within : c.loop-name.name-index < length c.args.names.now = search rules in
    let first : left ≡ c.as_str.result.now ∷ behind = rw c.as_str.ensures.value (names_left c.args.names.now c.loop-name.name-index c.name-item.result within c.name-item.is) in
    let p = err_from_is_err_and c.from_residual.result c.from_residual.ensures.1 in
    rw (p.1, p.2) (ran_to_next names left behind c.loop-name.sources c.as_str.result.now c.in_err-bytes.field-0.0 (g.S.Shelf.state c.args.shelf.now) (g.S.Shelf.state c.loop-name.shelf) (g.S.Shelf.state c.get.new.shelf) (g.K.Sink.state c.args.out.now) (g.K.Sink.state c.loop-name.out) (g.K.Sink.state c.get.new.out) first c.loop-name.invariant.0 c.in_err-bytes.ensures.gets)

pub returns-in_err-map_err-clause-gets : goal.returns-in_err-map_err-clause-gets
returns-in_err-map_err-clause-gets g c =
    let names = map string_bytes c.args.names.now in
    let left = map string_bytes (drop c.loop-name.name-index c.args.names.now) in
    let behind = map string_bytes (drop (c.loop-name.name-index + 1) c.args.names.now) in
    let within : c.loop-name.name-index < length c.args.names.now = search rules in
    let first : left ≡ c.as_str.result.now ∷ behind = rw c.as_str.ensures.value (names_left c.args.names.now c.loop-name.name-index c.name-item.result within c.name-item.is) in
    let memory : c.in_err-map_err.field-0.0 ≡ NoMemory = search rules in
    let p = err_from_is_err_and c.from_residual-in_err-map_err.result c.from_residual-in_err-map_err.ensures.1 in
    rw (p.1, p.2, memory) (gave_up_behind names left behind c.loop-name.sources c.as_str.result.now c.in_ok-bytes.bytes (g.S.Shelf.state c.args.shelf.now) (g.S.Shelf.state c.loop-name.shelf) (g.S.Shelf.state c.get.new.shelf) (g.K.Sink.state c.args.out.now) (g.K.Sink.state c.loop-name.out) (g.K.Sink.state c.get.new.out) first c.loop-name.invariant.0 c.in_ok-bytes.ensures.gets)

pub loop-name-preserved : goal.loop-name-preserved
loop-name-preserved g c =
    let names = map string_bytes c.args.names.now in
    let left = map string_bytes (drop c.loop-name.name-index c.args.names.now) in
    let behind = map string_bytes (drop (c.loop-name.name-index + 1) c.args.names.now) in
    let within : c.loop-name.name-index < length c.args.names.now = search rules in
    let first : left ≡ c.as_str.result.now ∷ behind = rw c.as_str.ensures.value (names_left c.args.names.now c.loop-name.name-index c.name-item.result within c.name-item.is) in
    let last : c.push.new.self ≡ c.loop-name.sources ++ c.in_ok-bytes.bytes ∷ [] = search rules in
    let longer : length c.push.new.self ≡ length c.loop-name.sources + 1 = ap length last ∙ length-append c.loop-name.sources (c.in_ok-bytes.bytes ∷ []) in
    (went_to_next names left behind c.loop-name.sources c.push.new.self c.as_str.result.now c.in_ok-bytes.bytes (g.S.Shelf.state c.args.shelf.now) (g.S.Shelf.state c.loop-name.shelf) (g.S.Shelf.state c.get.new.shelf) (g.K.Sink.state c.args.out.now) (g.K.Sink.state c.loop-name.out) (g.K.Sink.state c.get.new.out) first last c.loop-name.invariant.0 c.in_ok-bytes.ensures.gets, rw last (All-push (λ (bytes : List ℕ). length bytes ≤ MOST_BYTES) c.loop-name.sources c.in_ok-bytes.bytes c.loop-name.invariant.1 c.in_ok-bytes.ensures.short), omega (arith, longer, c.loop-name.invariant.2))
