use Rattle.std.proofs.Common.{rules, ◌≡◌, ◌+◌, ◌≤◌, length, List, refl, sym, subst, All, true}
use Rattle.std.proofs.lemmas.List.Elements.{All-drop}
use Rattle.lex_ada.specs.declared.token.Token.{Token}
use Rattle.lex_ada.specs.Meanings.{LiesIn, meanings}
use Rattle.reading_exact.specs.Whole.{are_signs}
use Rattle.reading_limits.specs.Viable.{ReadsWithin}
use Rattle.text_read.proofs.OnePart.{few_tokens, longest_from}
use Rattle.text_read.proofs.Sources.{they_lie, rest_fits}
use Rattle.text_read.proofs.front.read_part.Goals as goal

pub longest-requires-clause-lie : goal.longest-requires-clause-lie
longest-requires-clause-lie c =
    subst (All (λ t. LiesIn t c.args.source.now)) (sym c.split_at.ensures.back)
    (All-drop (λ t. LiesIn t c.args.source.now) c.args.from c.args.tokens.now (they_lie c.args.source.now c.args.tokens.now c.requires.of_source))

pub longest-requires-clause-fit : goal.longest-requires-clause-fit
longest-requires-clause-fit c =
    subst (λ (ts : List Token). are_signs (meanings c.args.source.now ts) ≡ true) (sym c.split_at.ensures.back) (rest_fits c.args.source.now c.args.tokens.now c.args.from c.requires.of_source)

pub overflow_add-result : goal.overflow_add-result
overflow_add-result c =
    let few : c.args.from + c.in_ok-node.count ≤ length c.args.tokens.now =
    few_tokens (ReadsWithin c.args.depth c.args.part) c.args.source.now c.args.tokens.now c.split_at.result.1.now c.args.from c.in_ok-node.count c.in_ok-node.node c.split_at.ensures.back c.requires.within c.in_ok-node.ensures.value in
    search (rules, few)

pub returns-clause-value : goal.returns-clause-value
returns-clause-value c =
    longest_from (ReadsWithin c.args.depth c.args.part) c.args.source.now c.args.tokens.now c.split_at.result.1.now c.args.from c.in_ok-node.count (c.args.from + c.in_ok-node.count) c.in_ok-node.node c.split_at.ensures.back refl
    c.in_ok-node.ensures.value
