use Rattle.std.proofs.Common.{arith, rules, ◌≡◌, [], ◌∷◌, length, sym, ◌∙◌, ap, subst, Some}
use Rattle.std.proofs.lemmas.List.{nil_from_length}
use Rattle.ada_tree.specs.Tokens.{token, comment}
use Rattle.note_read.specs.Fronts.{IsEnding, meaning_in}
use Rattle.note_read.specs.Signs.{signs_of}
use Rattle.note_read.proofs.Fronts.{at_first, none_stands, comment_stands, ending_stands, open_stands, refused_ends, limited_ends, all_read}
use Rattle.note_read.proofs.Tails.{tail_lies, fewer}
use Rattle.reading_machine.specs.declared.machine.Fed.TheVariants as fed_as
use Rattle.reading_machine.specs.Lexemes.{lexeme_of, token_of}
use Rattle.reading_machine.specs.Machines.{FeedsWithin, progress_of, commented}
use Rattle.reading_table.specs.Rows.{placed}
use Rattle.note_read.proofs.front.last_end.Goals as goal

pub loop-token-init : goal.loop-token-init
loop-token-init c = record {
  stands = at_first c.args.round (placed c.args.note c.args.line.now) c.args.source.now c.args.tokens.now (progress_of c.in_ok-machine.machine) c.in_ok-machine.ensures c.requires.some;
  lie = c.requires.lie;
  counted = omega arith;
  numbered = omega arith;
}

pub loop-token-preserved-in-None : goal.loop-token-preserved-in-None
loop-token-preserved-in-None c =
    let l = c.loop-token in
    let cut : l.rest.now ≡ c.in-Some.token.now ∷ c.in-Some.behind.now = search rules in
    let means : [] ≡ meaning_in c.args.source.now c.in-Some.token.now = ap signs_of (sym c.in-None.is) ∙ c.in_ok-sign_of.ensures in
    let counted = l.invariant.counted in
    record {
      stands = none_stands c.args.round (placed c.args.note c.args.line.now) c.args.source.now c.args.tokens.now (progress_of l.machine) l.found l.count l.number l.rest.now c.in-Some.token.now c.in-Some.behind.now cut l.invariant.stands means;
      lie = tail_lies c.args.source.now l.rest.now c.in-Some.token.now c.in-Some.behind.now cut l.invariant.lie;
      counted = omega (arith, counted);
      numbered = fewer l.number (length c.args.tokens.now) l.rest.now c.in-Some.token.now c.in-Some.behind.now cut l.invariant.numbered;
    }

pub loop-token-preserved-in_ok-wait-in-Some-Comment : goal.loop-token-preserved-in_ok-wait-in-Some-Comment
loop-token-preserved-in_ok-wait-in-Some-Comment c =
    let l = c.loop-token in
    let cut : l.rest.now ≡ c.in-Some.token.now ∷ c.in-Some.behind.now = search rules in
    let means : comment c.in-Some-Comment.text ∷ [] ≡ meaning_in c.args.source.now c.in-Some.token.now =
    ap (λ s. signs_of (Some s)) (sym c.in-Some-Comment.field-0-is) ∙ ap signs_of (sym c.in-Some-Comment.is) ∙ c.in_ok-sign_of.ensures in
    let waits : progress_of c.wait.new.self ≡ commented c.in-Some-Comment.text (progress_of l.machine) = search rules in
    let counted = l.invariant.counted in
    record {
      stands = comment_stands c.args.round (placed c.args.note c.args.line.now) c.args.source.now c.args.tokens.now (progress_of l.machine) l.found l.count l.number l.rest.now c.in-Some.token.now c.in-Some.behind.now cut l.invariant.stands
          c.in-Some-Comment.text (progress_of c.wait.new.self) means waits;
      lie = tail_lies c.args.source.now l.rest.now c.in-Some.token.now c.in-Some.behind.now cut l.invariant.lie;
      counted = omega (arith, counted);
      numbered = fewer l.number (length c.args.tokens.now) l.rest.now c.in-Some.token.now c.in-Some.behind.now cut l.invariant.numbered;
    }

pub loop-token-preserved-then-may_end : goal.loop-token-preserved-then-may_end
loop-token-preserved-then-may_end c =
    let l = c.loop-token in
    let t = c.in-Some-Token.token in
    let cut : l.rest.now ≡ c.in-Some.token.now ∷ c.in-Some.behind.now = search rules in
    let means : token t.note (lexeme_of t.lexeme) ∷ [] ≡ meaning_in c.args.source.now c.in-Some.token.now =
    ap (λ s. signs_of (Some s)) (sym c.in-Some-Token.field-0-is) ∙ ap signs_of (sym c.in-Some-Token.is) ∙ c.in_ok-sign_of.ensures in
    let fed : FeedsWithin c.args.round (token_of t) l.machine fed_as.Admitted c.feed.new.self = subst (λ fed. FeedsWithin c.args.round (token_of t) l.machine fed c.feed.new.self) c.in-Admitted.is c.in_ok-feed-in-Some-Token.ensures in
    let counted = l.invariant.counted in
    record {
      stands = ending_stands c.args.round (placed c.args.note c.args.line.now) c.args.source.now c.args.tokens.now (progress_of l.machine) l.found l.count l.number l.rest.now c.in-Some.token.now c.in-Some.behind.now cut l.invariant.stands
          t.note (lexeme_of t.lexeme) means (progress_of c.feed.new.self) fed.0 fed.1 (sym c.may_end.ensures ∙ c.if-may_end.true);
      lie = tail_lies c.args.source.now l.rest.now c.in-Some.token.now c.in-Some.behind.now cut l.invariant.lie;
      counted = omega (arith, counted);
      numbered = fewer l.number (length c.args.tokens.now) l.rest.now c.in-Some.token.now c.in-Some.behind.now cut l.invariant.numbered;
    }

pub loop-token-preserved : goal.loop-token-preserved
loop-token-preserved c =
    let l = c.loop-token in
    let t = c.in-Some-Token.token in
    let cut : l.rest.now ≡ c.in-Some.token.now ∷ c.in-Some.behind.now = search rules in
    let means : token t.note (lexeme_of t.lexeme) ∷ [] ≡ meaning_in c.args.source.now c.in-Some.token.now =
    ap (λ s. signs_of (Some s)) (sym c.in-Some-Token.field-0-is) ∙ ap signs_of (sym c.in-Some-Token.is) ∙ c.in_ok-sign_of.ensures in
    let fed : FeedsWithin c.args.round (token_of t) l.machine fed_as.Admitted c.feed.new.self = subst (λ fed. FeedsWithin c.args.round (token_of t) l.machine fed c.feed.new.self) c.in-Admitted.is c.in_ok-feed-in-Some-Token.ensures in
    let counted = l.invariant.counted in
    record {
      stands = open_stands c.args.round (placed c.args.note c.args.line.now) c.args.source.now c.args.tokens.now (progress_of l.machine) l.found l.count l.number l.rest.now c.in-Some.token.now c.in-Some.behind.now cut l.invariant.stands
          t.note (lexeme_of t.lexeme) means (progress_of c.feed.new.self) fed.0 fed.1 (sym c.may_end.ensures ∙ c.if-may_end.false);
      lie = tail_lies c.args.source.now l.rest.now c.in-Some.token.now c.in-Some.behind.now cut l.invariant.lie;
      counted = omega (arith, counted);
      numbered = fewer l.number (length c.args.tokens.now) l.rest.now c.in-Some.token.now c.in-Some.behind.now cut l.invariant.numbered;
    }

pub returns-in-Refused : goal.returns-in-Refused
returns-in-Refused c =
    let l = c.loop-token in
    let t = c.in-Some-Token.token in
    let cut : l.rest.now ≡ c.in-Some.token.now ∷ c.in-Some.behind.now = search rules in
    let means : token t.note (lexeme_of t.lexeme) ∷ [] ≡ meaning_in c.args.source.now c.in-Some.token.now =
    ap (λ s. signs_of (Some s)) (sym c.in-Some-Token.field-0-is) ∙ ap signs_of (sym c.in-Some-Token.is) ∙ c.in_ok-sign_of.ensures in
    let fed : FeedsWithin c.args.round (token_of t) l.machine fed_as.Refused c.feed.new.self = subst (λ fed. FeedsWithin c.args.round (token_of t) l.machine fed c.feed.new.self) c.in-Refused.is c.in_ok-feed-in-Some-Token.ensures in
    subst (IsEnding c.args.round (placed c.args.note c.args.line.now) c.args.source.now c.args.tokens.now) (sym c.last_or.ensures)
    (refused_ends c.args.round (placed c.args.note c.args.line.now) c.args.source.now c.args.tokens.now (progress_of l.machine) l.found l.count l.number l.rest.now c.in-Some.token.now c.in-Some.behind.now cut l.invariant.stands
    t.note (lexeme_of t.lexeme) means fed)

pub returns-in-Limited : goal.returns-in-Limited
returns-in-Limited c =
    let l = c.loop-token in
    let t = c.in-Some-Token.token in
    let cut : l.rest.now ≡ c.in-Some.token.now ∷ c.in-Some.behind.now = search rules in
    let means : token t.note (lexeme_of t.lexeme) ∷ [] ≡ meaning_in c.args.source.now c.in-Some.token.now =
    ap (λ s. signs_of (Some s)) (sym c.in-Some-Token.field-0-is) ∙ ap signs_of (sym c.in-Some-Token.is) ∙ c.in_ok-sign_of.ensures in
    let fed : FeedsWithin c.args.round (token_of t) l.machine fed_as.Limited c.feed.new.self = subst (λ fed. FeedsWithin c.args.round (token_of t) l.machine fed c.feed.new.self) c.in-Limited.is c.in_ok-feed-in-Some-Token.ensures in
    subst (IsEnding c.args.round (placed c.args.note c.args.line.now) c.args.source.now c.args.tokens.now) (sym c.last_or-in-Limited.ensures)
    (limited_ends c.args.round (placed c.args.note c.args.line.now) c.args.source.now c.args.tokens.now (progress_of l.machine) l.found l.count l.number l.rest.now c.in-Some.token.now c.in-Some.behind.now cut l.invariant.stands
    t.note (lexeme_of t.lexeme) means fed.0 fed.1 fed.2)

pub returns : goal.returns
returns c =
    let l = c.loop-token in
    let none : l.rest.now ≡ [] = nil_from_length l.rest.now c.in_default.ensures.cases in
    subst (IsEnding c.args.round (placed c.args.note c.args.line.now) c.args.source.now c.args.tokens.now) (sym c.last_or-2.ensures)
    (all_read c.args.round (placed c.args.note c.args.line.now) c.args.source.now c.args.tokens.now (progress_of l.machine) l.found l.count l.number l.rest.now none l.invariant.stands)
