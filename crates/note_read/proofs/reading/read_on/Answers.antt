use Rattle.std.proofs.Common.{arith, rules, ◌≡◌, ◌+◌, [], ◌∷◌, length, sym, ◌∙◌, ap, subst, Some}
use Rattle.ada_tree.specs.Tokens.{token, comment}
use Rattle.lex_ada.specs.Meanings.{meaning, meanings, bytes_of}
use Rattle.reading_machine.specs.declared.machine.Fed.TheVariants as fed_as
use Rattle.reading_machine.specs.Lexemes.{lexeme_of, token_of}
use Rattle.reading_machine.specs.Machines.{FeedsWithin, progress_of, commented}
use Rattle.note_read.specs.Signs.{signs_of}
use Rattle.note_read.proofs.Tails.{tail_lies, fewer}
use Rattle.note_read.proofs.Thin.{none_here, comment_here, token_here, thinned_ends}
use Rattle.note_read.proofs.reading.read_on.Goals as goal

pub loop-token-preserved-in-None : goal.loop-token-preserved-in-None
loop-token-preserved-in-None c =
    let cut : c.loop-token.rest.now ≡ c.in-Some.token.now ∷ c.in-Some.behind.now = search rules in
    let means : [] ≡ meaning c.in-Some.token.now.kind c.in-Some.token.now.note (bytes_of c.args.source.now c.in-Some.token.now) = ap signs_of (sym c.in-None.is) ∙ c.in_ok-sign_of.ensures in
    let more = fewer c.loop-token.count (length c.args.tokens.now) c.loop-token.rest.now c.in-Some.token.now c.in-Some.behind.now cut c.loop-token.invariant.counted in
    record {
      read = c.loop-token.invariant.read ∙ none_here c.args.most c.loop-token.lost c.loop-token.count c.args.round c.args.source.now c.loop-token.rest.now c.in-Some.token.now c.in-Some.behind.now cut c.loop-token.machine means;
      lie = tail_lies c.args.source.now c.loop-token.rest.now c.in-Some.token.now c.in-Some.behind.now cut c.loop-token.invariant.lie;
      counted = omega (arith, more);
    }

pub loop-token-preserved-in_ok-wait-in-Some-Comment : goal.loop-token-preserved-in_ok-wait-in-Some-Comment
loop-token-preserved-in_ok-wait-in-Some-Comment c =
    let cut : c.loop-token.rest.now ≡ c.in-Some.token.now ∷ c.in-Some.behind.now = search rules in
    let means : comment c.in-Some-Comment.text ∷ [] ≡ meaning c.in-Some.token.now.kind c.in-Some.token.now.note (bytes_of c.args.source.now c.in-Some.token.now) =
    ap (λ s. signs_of (Some s)) (sym c.in-Some-Comment.field-0-is) ∙ ap signs_of (sym c.in-Some-Comment.is) ∙ c.in_ok-sign_of.ensures in
    let more = fewer c.loop-token.count (length c.args.tokens.now) c.loop-token.rest.now c.in-Some.token.now c.in-Some.behind.now cut c.loop-token.invariant.counted in
    let waits : progress_of c.wait.new.self ≡ commented c.in-Some-Comment.text (progress_of c.loop-token.machine) = search rules in
    record {
      read = c.loop-token.invariant.read
          ∙ comment_here c.args.most c.loop-token.lost c.loop-token.count c.args.round c.args.source.now c.loop-token.rest.now c.in-Some.token.now c.in-Some.behind.now cut c.loop-token.machine c.wait.new.self c.in-Some-Comment.text means waits;
      lie = tail_lies c.args.source.now c.loop-token.rest.now c.in-Some.token.now c.in-Some.behind.now cut c.loop-token.invariant.lie;
      counted = omega (arith, more);
    }

pub loop-token-preserved-in_ok-lost-in-Admitted : goal.loop-token-preserved-in_ok-lost-in-Admitted
loop-token-preserved-in_ok-lost-in-Admitted c =
    let cut : c.loop-token.rest.now ≡ c.in-Some.token.now ∷ c.in-Some.behind.now = search rules in
    let t = c.in-Some-Token.token in
    let means : token t.note (lexeme_of t.lexeme) ∷ [] ≡ meaning c.in-Some.token.now.kind c.in-Some.token.now.note (bytes_of c.args.source.now c.in-Some.token.now) =
    ap (λ s. signs_of (Some s)) (sym c.in-Some-Token.field-0-is) ∙ ap signs_of (sym c.in-Some-Token.is) ∙ c.in_ok-sign_of.ensures in
    let fed : FeedsWithin c.args.round (token_of t) c.loop-token.machine fed_as.Admitted c.feed.new.self = subst (λ fed. FeedsWithin c.args.round (token_of t) c.loop-token.machine fed c.feed.new.self) c.in-Admitted.is c.in_ok-feed-in-Some-Token.ensures in
    record {
      read = c.loop-token.invariant.read
          ∙ token_here c.args.most c.loop-token.lost c.loop-token.count c.args.round c.args.source.now c.loop-token.rest.now c.in-Some.token.now c.in-Some.behind.now cut c.loop-token.machine c.feed.new.self t means fed
          ∙ thinned_ends c.args.most c.args.round (c.loop-token.count + 1) (progress_of c.feed.new.self) (progress_of c.thin_out.new.self) c.loop-token.lost c.in_ok-lost-in-Admitted.lost (meanings c.args.source.now c.in-Some.behind.now) c.in_ok-lost-in-Admitted.ensures;
      lie = tail_lies c.args.source.now c.loop-token.rest.now c.in-Some.token.now c.in-Some.behind.now cut c.loop-token.invariant.lie;
      counted = fewer c.loop-token.count (length c.args.tokens.now) c.loop-token.rest.now c.in-Some.token.now c.in-Some.behind.now cut c.loop-token.invariant.counted;
    }

pub loop-token-preserved : goal.loop-token-preserved
loop-token-preserved c =
    let cut : c.loop-token.rest.now ≡ c.in-Some.token.now ∷ c.in-Some.behind.now = search rules in
    let t = c.in-Some-Token.token in
    let means : token t.note (lexeme_of t.lexeme) ∷ [] ≡ meaning c.in-Some.token.now.kind c.in-Some.token.now.note (bytes_of c.args.source.now c.in-Some.token.now) =
    ap (λ s. signs_of (Some s)) (sym c.in-Some-Token.field-0-is) ∙ ap signs_of (sym c.in-Some-Token.is) ∙ c.in_ok-sign_of.ensures in
    let fed : FeedsWithin c.args.round (token_of t) c.loop-token.machine fed_as.Admitted c.feed.new.self = subst (λ fed. FeedsWithin c.args.round (token_of t) c.loop-token.machine fed c.feed.new.self) c.in-Admitted.is c.in_ok-feed-in-Some-Token.ensures in
    record {
      read = c.loop-token.invariant.read
          ∙ token_here c.args.most c.loop-token.lost c.loop-token.count c.args.round c.args.source.now c.loop-token.rest.now c.in-Some.token.now c.in-Some.behind.now cut c.loop-token.machine c.feed.new.self t means fed;
      lie = tail_lies c.args.source.now c.loop-token.rest.now c.in-Some.token.now c.in-Some.behind.now cut c.loop-token.invariant.lie;
      counted = fewer c.loop-token.count (length c.args.tokens.now) c.loop-token.rest.now c.in-Some.token.now c.in-Some.behind.now cut c.loop-token.invariant.counted;
    }
