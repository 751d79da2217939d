-- Of parts that are told apart by their first words, the one that is told reads what any of them reads.
use Rattle.std.proofs.Common.{◌≡◌, ℕ, List, [], ◌∷◌, ◌++◌, length, take, drop, sym, ◌∙◌, ap, subst, true, ◌⊎◌, inl, inr, Option, append-nil}
use Rattle.std.specs.Prelude.{Contains, Result, Ok, Err, IfOk, IfErr}
use Rattle.std.proofs.lemmas.Bool.{and_parts}
use Rattle.std.proofs.lemmas.List.{nil_from_length}
use Rattle.std.proofs.lemmas.List.Folds.{list_all-append}
use Rattle.base_kit.specs.declared.fault.Fault.{Fault as AFault}
use Rattle.base_kit.specs.declared.fault.Stop.{Stop}
use Rattle.base_kit.specs.declared.fault.Stop.TheVariants.{Fault, Memory}
use Rattle.ada_tree.specs.declared.node.Node.{Node}
use Rattle.ada_tree.specs.declared.part.Part.{Part}
use Rattle.ada_tree.specs.declared.word.Word.{Word}
use Rattle.ada_tree.specs.Tokens.{Sign, token, comment}
use Rattle.lex_ada.specs.declared.token.Token.{Token}
use Rattle.lex_ada.specs.Meanings.{meanings}
use Rattle.reading_exact.specs.Whole.{GrammarReads, is_sign, are_signs}
use Rattle.reading_exact.proofs.Law.{one_reading}
use Rattle.reading_limits.specs.Viable.{ReadsWithin, GoesOn, Refuses, Limits, StopsBehind}
use Rattle.reading_limits.proofs.Law.{comments_go_on}
use Rattle.reading_table.specs.Signs.{tokens_of}
use Rattle.text_read.specs.Faults.{OnFault}
use Rattle.text_read.specs.FirstWords.{first_word}
use Rattle.text_read.specs.Fronts.{GrammarReadsOne, ReadsOneWithin, IsFront, IsLongest, IsFaultOfFronts, refused, too_deep, AnswersLongest}
use Rattle.text_read.proofs.FirstWords.{has_token, first_before, first_kept, none_or_some, not_both, front_has_token}
use Rattle.text_read.proofs.Sources.{meant_apart}
use Rattle.text_read.proofs.Told.{Tells}
use Rattle.text_read.proofs.Unique.{answers}

module _ (parts : List Part) (tell : Option Word → Part) (tells : Tells parts tell) where
  one_within : (round : ℕ) (signs : List Sign) (node : Node) → ReadsOneWithin round parts signs node → GrammarReadsOne parts signs node
  one_within round signs node reads = record { part = reads.part; among = reads.among; reads = reads.reads.reading }

  one_once : (signs : List Sign) (a b : Node) → GrammarReadsOne parts signs a → GrammarReadsOne parts signs b → a ≡ b
  one_once signs a b x y =
      let same : x.part ≡ y.part = sym (tells.told x.part signs a x.among x.reads) ∙ tells.told y.part signs b y.among y.reads in
      one_reading y.part signs a b (tells.texts y.part y.among) (subst (λ part. GrammarReads part signs a) same x.reads) y.reads

  module _ (round : ℕ) (source : List ℕ) (rest : List Token) (fit : are_signs (meanings source rest) ≡ true) where
    abbrev all : List Sign
    all = meanings source rest

    abbrev told : Part
    told = tell (first_word all)

    -- a text that begins with the same word is one of the part that is told
    same_part : (part : Part) (signs : List Sign) (node : Node) → Contains parts part → GrammarReads part signs node → first_word signs ≡ first_word all → part ≡ told
    same_part part signs node among reads e = sym (tells.told part signs node among reads) ∙ ap tell e

    reads_told : (signs : List Sign) (node : Node) → GrammarReadsOne parts signs node → first_word signs ≡ first_word all → GrammarReads told signs node
    reads_told signs node reads e = subst (λ part. GrammarReads part signs node) (same_part reads.part signs node reads.among reads.reads e) reads.reads

    within_told : (signs : List Sign) (node : Node) → ReadsOneWithin round parts signs node → first_word signs ≡ first_word all → ReadsWithin round told signs node
    within_told signs node reads e = subst (λ part. ReadsWithin round part signs node) (same_part reads.part signs node reads.among reads.reads.reading e) reads.reads

    -- ---- fronts

    front_up : (n : ℕ) (node : Node) → IsFront (ReadsWithin round told) source rest n node → IsFront (ReadsOneWithin round parts) source rest n node
    front_up n node front = record { ends = front.ends; reads = record { part = told; among = tells.among (first_word all); reads = front.reads } }

    front_down : (n : ℕ) (node : Node) → IsFront (ReadsOneWithin round parts) source rest n node → IsFront (ReadsWithin round told) source rest n node
    front_down n node front =
        let same : first_word (meanings source (take n rest)) ≡ first_word all =
        sym (first_kept (meanings source (take n rest)) (meanings source (drop n rest)) (front_has_token source rest n front.ends)) ∙ ap first_word (meant_apart source rest n) in
        record { ends = front.ends; reads = within_told (meanings source (take n rest)) node front.reads same }

    -- ---- where reading stops

    refuses_up : (front left : List Sign) → all ≡ front ++ left → Refuses (GrammarReads told) front left → Refuses (GrammarReadsOne parts) front left
    refuses_up front [] e refuses = λ node reads. refuses node (reads_told front node reads (ap first_word (sym (append-nil front) ∙ sym e)))
    refuses_up front (comment text ∷ left) e refuses = refuses
    refuses_up front (token note lexeme ∷ left) e refuses = λ other node reads.
        refuses other node (reads_told (front ++ token note lexeme ∷ other) node reads (first_before front other left note lexeme ∙ ap first_word (sym e)))

    limits_up : (front left : List Sign) → all ≡ front ++ left → Limits (GrammarReads told) (ReadsWithin round told) front left → Limits (GrammarReadsOne parts) (ReadsOneWithin round parts) front left
    limits_up front [] e limits = limits
    limits_up front (comment text ∷ left) e limits = limits
    limits_up front (token note lexeme ∷ left) e limits = (
      record { more = limits.0.more; fitting = limits.0.fitting; node = limits.0.node; reads = record { part = told; among = tells.among (first_word all); reads = limits.0.reads } },
      λ other node reads. limits.1 other node (within_told (front ++ token note lexeme ∷ other) node reads (first_before front other left note lexeme ∙ ap first_word (sym e))),
    )

    goes_up : (part : Part) (front : List Sign) → Contains parts part → GoesOn (ReadsWithin round part) front → GoesOn (ReadsOneWithin round parts) front
    goes_up part front among goes = record { more = goes.more; fitting = goes.fitting; node = goes.node; reads = record { part = part; among = among; reads = goes.reads } }

    stops_up : (A B : List Sign → List Sign → Type 0) (n : ℕ) → ((front left : List Sign) → all ≡ front ++ left → A front left → B front left) → StopsBehind (GoesOn (ReadsWithin round told)) A all n
        → StopsBehind (GoesOn (ReadsOneWithin round parts)) B all n
    stops_up A B n up s = record {
      front = s.front;
      rest = s.rest;
      whole = s.whole;
      before = s.before;
      goes_on = λ goes. by goes (none_or_some [] s.front);
      stops = up s.front s.rest s.whole s.stops;
    }
      where
        fits : are_signs s.front ≡ true
        fits = (and_parts (are_signs s.front) (are_signs s.rest) (sym (list_all-append is_sign s.front s.rest) ∙ ap are_signs (sym s.whole) ∙ fit)).0

        by : (n ≡ 0 → GoesOn (ReadsOneWithin round parts) []) → (tokens_of s.front ≡ []) ⊎ (has_token s.front ≡ true) → GoesOn (ReadsOneWithin round parts) s.front
        by goes (inl none) =
            let first = goes (sym s.before ∙ ap length none) in
            let part = first.reads.part in
            goes_up part s.front first.reads.among
            (comments_go_on round part s.front (tells.texts part first.reads.among) fits none record { more = first.more; fitting = first.fitting; node = first.node; reads = first.reads.reads })
        by goes (inr some) =
            goes_up told s.front (tells.among (first_word all)) (s.goes_on (λ zero. absurd (not_both [] s.front (nil_from_length (tokens_of s.front) (s.before ∙ zero)) some)))

    -- ---- the answer

    fault_up : (f : AFault) → IsFaultOfFronts (GrammarReads told) (ReadsWithin round told) source rest f → IsFaultOfFronts (GrammarReadsOne parts) (ReadsOneWithin round parts) source rest f
    fault_up f (refused s) = refused record {
      unread = λ n node front. s.unread n node (front_down n node front);
      n = s.n;
      stops = stops_up (Refuses (GrammarReads told)) (Refuses (GrammarReadsOne parts)) s.n refuses_up s.stops;
      fault_is = s.fault_is;
    }
    fault_up f (too_deep s) = too_deep record {
      unread = λ n node front. s.unread n node (front_down n node front);
      n = s.n;
      stops = stops_up (Limits (GrammarReads told) (ReadsWithin round told)) (Limits (GrammarReadsOne parts) (ReadsOneWithin round parts)) s.n limits_up s.stops;
      fault_is = s.fault_is;
    }

  module _ (round : ℕ) (source : List ℕ) (tokens : List Token) (from : ℕ) (fit : are_signs (meanings source (drop from tokens)) ≡ true) where
    abbrev told_from : Part
    told_from = tell (first_word (meanings source (drop from tokens)))

    right : (result : Result (Node × ℕ) Stop) → IfOk result (IsLongest (ReadsWithin round told_from) source tokens from) → IfOk result (IsLongest (ReadsOneWithin round parts) source tokens from)
    right (Ok answer) l = record {
      n = l.n;
      behind = l.behind;
      front = front_up round source (drop from tokens) fit l.n answer.0 l.front;
      longest = λ m node front. l.longest m node (front_down round source (drop from tokens) fit m node front);
    }
    right (Err stop) l = tt

    wrong : (result : Result (Node × ℕ) Stop) → IfErr result (OnFault (IsFaultOfFronts (GrammarReads told_from) (ReadsWithin round told_from) source (drop from tokens)))
        → IfErr result (OnFault (IsFaultOfFronts (GrammarReadsOne parts) (ReadsOneWithin round parts) source (drop from tokens)))
    wrong (Ok answer) f = tt
    wrong (Err (Fault fault)) f = fault_up round source (drop from tokens) fit fault f
    wrong (Err Memory) f = tt

    -- what the part that is told answers, all of them answer
    pub all_answer : (result : Result (Node × ℕ) Stop) → IfOk result (IsLongest (ReadsWithin round told_from) source tokens from)
        → IfErr result (OnFault (IsFaultOfFronts (GrammarReads told_from) (ReadsWithin round told_from) source (drop from tokens))) → AnswersLongest (GrammarReadsOne parts) (ReadsOneWithin round parts) source tokens from result
    all_answer result l f = answers (GrammarReadsOne parts) (ReadsOneWithin round parts) (one_within round) one_once source tokens from result (right result l) (wrong result f)
