-- How far tokens may be read: what is known where some of them have been read.
use Rattle.std.proofs.Common.{arith, ◌≡◌, ℕ, zero, suc, ◌+◌, ◌≤◌, ◌<◌, List, [], ◌∷◌, ◌++◌, length, take, refl, sym, ◌∙◌, ap, Bool, true, false, ◌⊎◌, inl, inr, Option, Some, None, option_map, if◌then◌else◌, append_assoc, append-nil, length-append}
use Rattle.std.specs.Prelude.{slice_get, is_some}
use Rattle.std.proofs.lemmas.List.Concat.{flat_map-append}
use Rattle.ada_tree.specs.Tokens.{Sign, Lexeme, token, comment}
use Rattle.lex_ada.specs.declared.token.Token.{Token as SourceToken}
use Rattle.lex_ada.specs.Meanings.{meanings}
use Rattle.note_read.specs.declared.front.Ending.{Ending}
use Rattle.note_read.specs.declared.front.Ending.TheVariants as ending
use Rattle.note_read.specs.Fronts.{meaning_in, is_token, IsEnd, HasNoEnd, IsEnding, last_or}
use Rattle.note_read.specs.Signs.{read_by_table, read_signs, ended_at, behind}
use Rattle.note_read.proofs.Outcomes.{behind_none}
use Rattle.note_read.proofs.Runs.{read_is_run}
use Rattle.note_read.proofs.Thin.{behind_later}
use Rattle.reading_machine.specs.Machines.{commented, may_end, ended}
use Rattle.reading_table.specs.Limits.{Outcome, read, stopped, limited, later}
use Rattle.reading_table.specs.Machine.{hush, apply}
use Rattle.reading_table.specs.Reading.{deepest}
use Rattle.reading_table.specs.Rows.{Placed}
use Rattle.reading_table.specs.States.{Token, State}
use Rattle.reading_table.specs.Weighed.{weighed_table, Progress, with_token, is_within, within_limits, at_beginning}

-- ---- lists

took_front : {A : Type 0} (front xs : List A) (k : ℕ) → take (length front + k) (front ++ xs) ≡ front ++ take k xs
took_front [] xs k = ap (λ n. take n xs) (omega arith)
took_front (x ∷ front) xs k =
    let more : suc (length front) + k ≡ suc (length front + k) = omega arith in
    ap (λ n. take n (x ∷ (front ++ xs))) more ∙ ap (λ ys. x ∷ ys) (took_front front xs k)

got_next : {A : Type 0} (front xs : List A) (x : A) → slice_get (front ++ x ∷ xs) (length front) ≡ Some x
got_next [] xs x = refl
got_next (y ∷ front) xs x = got_next front xs x

pub got_within : {A : Type 0} (xs : List A) (n : ℕ) (x : A) → slice_get xs n ≡ Some x → n < length xs
got_within [] n x h = absurd cc
got_within (y ∷ xs) zero x h = omega arith
got_within (y ∷ xs) (suc n) x h = let more = got_within xs n x h in omega (arith, more)

-- ---- numbers

nat_split : (m n : ℕ) → (m ≤ n) ⊎ ((k : ℕ) × (m ≡ n + suc k))
nat_split zero n = inl (omega arith)
nat_split (suc m) zero = inr (m, omega arith)
nat_split (suc m) (suc n) = by (nat_split m n)
  where
    by : (m ≤ n) ⊎ ((k : ℕ) × (m ≡ n + suc k)) → (suc m ≤ suc n) ⊎ ((k : ℕ) × (suc m ≡ suc n + suc k))
    by (inl h) = inl (omega (arith, h))
    by (inr (k, e)) = inr (k, omega (arith, e))

nat_next : (m n : ℕ) → m ≤ n + 1 → (m ≤ n) ⊎ (m ≡ n + 1)
nat_next m n h = by (nat_split m n)
  where
    by : (m ≤ n) ⊎ ((k : ℕ) × (m ≡ n + suc k)) → (m ≤ n) ⊎ (m ≡ n + 1)
    by (inl l) = inl l
    by (inr (k, e)) = inr (omega (arith, h, e))

-- ---- outcomes

abbrev is_read : Outcome → Bool
is_read (read state) = true
is_read _ = false

behind_read : (n : ℕ) (o : Outcome) → is_read (behind n o) ≡ is_read o
behind_read n (read state) = refl
behind_read n (stopped m) = refl
behind_read n (limited m) = refl

not_read : (o : Outcome) (state : State) → is_read o ≡ false → o ≡ read state → ⊥
not_read o state h e = let same : false ≡ true = sym h ∙ ap is_read e in cc

-- ---- where reading stands

module _ (round : ℕ) (ss : List Placed) (source : List ℕ) (all : List SourceToken) where
  -- the ends among so many tokens
  abbrev IsFound : Option ℕ → ℕ → Type 0
  IsFound None number = (m : ℕ) → IsEnd round ss source all m → m ≤ number → ⊥
  IsFound (Some n) number = IsEnd round ss source all n × ((m : ℕ) → IsEnd round ss source all m → m ≤ number → m ≤ n)

  -- these tokens are left, and what is read before them leads here
  pub record Stands (p : Progress) (found : Option ℕ) (count number : ℕ) (rest : List SourceToken) : Type 0 where
    pub front : List SourceToken
    pub whole : all ≡ front ++ rest
    pub numbered : length front ≡ number
    pub leads : (more : List Sign) → read_by_table round ss (meanings source front ++ more) ≡ behind count (read_signs round p more)
    pub found_is : IsFound found number
    pub unended : found ≡ None → may_end p.stack ≡ false

  pub at_first : (p : Progress) → p ≡ at_beginning ss → may_end ss ≡ false → Stands p None 0 0 all
  at_first p e unended = record {
    front = [];
    whole = refl;
    numbered = refl;
    leads = λ more. read_is_run round ss more ∙ ap (λ p. read_signs round p more) (sym e) ∙ sym (behind_none (read_signs round p more));
    found_is = λ m end few. (let number = end.ends.number in absurd (omega (arith, number, few)));
    unended = λ none. ap (λ (p : Progress). may_end p.stack) e ∙ unended;
  }

  -- ---- one token more

  module _ (p : Progress) (found : Option ℕ) (count number : ℕ) (ts : List SourceToken) (t : SourceToken) (rest : List SourceToken) (cut : ts ≡ t ∷ rest) (s : Stands p found count number ts) where
    whole_here : all ≡ s.front ++ t ∷ rest
    whole_here = s.whole ∙ ap (λ ts. s.front ++ ts) cut

    whole_next : all ≡ (s.front ++ t ∷ []) ++ rest
    whole_next = whole_here ∙ sym (append_assoc s.front (t ∷ []) rest)

    numbered_next : length (s.front ++ t ∷ []) ≡ number + 1
    numbered_next = let long = length-append s.front (t ∷ []) in let own = s.numbered in omega (arith, long, own)

    meant_next : (own : List Sign) → own ≡ meaning_in source t → (more : List Sign) → meanings source (s.front ++ t ∷ []) ++ more ≡ meanings source s.front ++ (own ++ more)
    meant_next own e more =
        ap (λ signs. signs ++ more) (flat_map-append (meaning_in source) s.front (t ∷ []) ∙ ap (λ signs. meanings source s.front ++ signs) (append-nil (meaning_in source t) ∙ sym e))
        ∙ append_assoc (meanings source s.front) own more

    got_here : slice_get all number ≡ Some t
    got_here = ap (λ ts. slice_get ts number) whole_here ∙ ap (slice_get (s.front ++ t ∷ rest)) (sym s.numbered) ∙ got_next s.front rest t

    -- the token isn't the last one of an end
    none_new : ((m : ℕ) → IsEnd round ss source all m → m ≡ number + 1 → ⊥) → IsFound found (number + 1)
    none_new never = by found s.found_is
      where
        low : (m : ℕ) → IsEnd round ss source all m → m ≤ number + 1 → m ≤ number
        low m end few = by_case (nat_next m number few)
          where
            by_case : (m ≤ number) ⊎ (m ≡ number + 1) → m ≤ number
            by_case (inl h) = h
            by_case (inr e) = absurd (never m end e)

        by : (found : Option ℕ) → IsFound found number → IsFound found (number + 1)
        by None h = λ m end few. h m end (low m end few)
        by (Some n) h = (h.0, λ m end few. h.1 m end (low m end few))

    no_token_here : is_token (meaning_in source t) ≡ false → (m : ℕ) → IsEnd round ss source all m → m ≡ number + 1 → ⊥
    no_token_here none m end e =
        let number_is = end.ends.number in
        let last : end.ends.last ≡ number = omega (arith, number_is, e) in
        let same : Some end.ends.token ≡ Some t = sym end.ends.token_is ∙ ap (slice_get all) last ∙ got_here in
        let token_is : end.ends.token ≡ t = cc in
        let both : true ≡ false = sym end.ends.stands ∙ ap (λ t. is_token (meaning_in source t)) token_is ∙ none in
        cc

    pub none_stands : [] ≡ meaning_in source t → Stands p found count (number + 1) rest
    none_stands e = record {
      front = s.front ++ t ∷ [];
      whole = whole_next;
      numbered = numbered_next;
      leads = λ more. ap (read_by_table round ss) (meant_next [] e more) ∙ s.leads more;
      found_is = none_new (no_token_here (ap is_token (sym e)));
      unended = s.unended;
    }

    pub comment_stands : (text : List ℕ) (q : Progress) → comment text ∷ [] ≡ meaning_in source t → q ≡ commented text p → Stands q found count (number + 1) rest
    comment_stands text q e c = record {
      front = s.front ++ t ∷ [];
      whole = whole_next;
      numbered = numbered_next;
      leads = λ more. ap (read_by_table round ss) (meant_next (comment text ∷ []) e more) ∙ s.leads (comment text ∷ more) ∙ ap (λ p. behind count (read_signs round p more)) (sym c);
      found_is = none_new (no_token_here (ap is_token (sym e)));
      unended = λ none. ap (λ (p : Progress). may_end p.stack) c ∙ s.unended none;
    }

    -- ---- a token that stands for itself

    module _ (note : Bool) (lexeme : Lexeme) (e : token note lexeme ∷ [] ≡ meaning_in source t) where
      abbrev alone : Token
      alone = record { comments = []; note = note; lexeme = lexeme }

      leads_token : (more : List Sign) → read_by_table round ss (meanings source (s.front ++ t ∷ []) ++ more) ≡ behind count (within_limits round (with_token deepest p alone) (λ next. read_signs round next more))
      leads_token more = ap (read_by_table round ss) (meant_next (token note lexeme ∷ []) e more) ∙ s.leads (token note lexeme ∷ more)

      module _ (q : Progress) (admitted : with_token deepest p alone ≡ Some q) (within : is_within round q ≡ true) where
        leads_next : (more : List Sign) → read_by_table round ss (meanings source (s.front ++ t ∷ []) ++ more) ≡ behind (count + 1) (read_signs round q more)
        leads_next more =
            leads_token more ∙ ap (λ o. behind count (within_limits round o (λ next. read_signs round next more))) admitted
            ∙ ap (λ b. behind count (if b then later (read_signs round q more) else limited 0)) within ∙ behind_later count (read_signs round q more)

        reads_here : read_by_table round ss (meanings source (take (number + 1) all)) ≡ behind (count + 1) (ended_at (ended q.stack q.weighed))
        reads_here =
            let taken : take (number + 1) all ≡ s.front ++ t ∷ [] = ap (take (number + 1)) whole_here ∙ ap (λ n. take (n + 1) (s.front ++ t ∷ rest)) (sym s.numbered) ∙ took_front s.front (t ∷ rest) 1 in
            ap (λ ts. read_by_table round ss (meanings source ts)) taken ∙ ap (read_by_table round ss) (sym (append-nil (meanings source (s.front ++ t ∷ [])))) ∙ leads_next []

        pub ending_stands : may_end q.stack ≡ true → Stands q (Some (number + 1)) (count + 1) (number + 1) rest
        ending_stands ends = record {
          front = s.front ++ t ∷ [];
          whole = whole_next;
          numbered = numbered_next;
          leads = leads_next;
          found_is = (by (hush weighed_table q.stack) refl, λ m end few. few);
          unended = λ none. absurd cc;
        }
          where
            by : (o : Option (List Placed)) → hush weighed_table q.stack ≡ o → IsEnd round ss source all (number + 1)
            by None h = let same : true ≡ false = sym ends ∙ ap is_some h in absurd cc
            by (Some line) h = record {
              ends = record { last = number; number = omega arith; token = t; token_is = got_here; stands = ap is_token (sym e) };
              state = (apply weighed_table line q.weighed).state;
              reads = reads_here ∙ ap (λ o. behind (count + 1) (ended_at (option_map (λ line. apply weighed_table line q.weighed) o))) h;
            }

        pub open_stands : may_end q.stack ≡ false → Stands q found (count + 1) (number + 1) rest
        open_stands unended = record {
          front = s.front ++ t ∷ [];
          whole = whole_next;
          numbered = numbered_next;
          leads = leads_next;
          found_is = none_new (λ m end n. not_here m end n);
          unended = λ none. unended;
        }
          where
            stops : (o : Option (List Placed)) → hush weighed_table q.stack ≡ o → is_read (ended_at (ended q.stack q.weighed)) ≡ false
            stops None h = ap (λ o. is_read (ended_at (option_map (λ line. apply weighed_table line q.weighed) o))) h
            stops (Some line) h = let same : false ≡ true = sym unended ∙ ap is_some h in absurd cc

            not_here : (m : ℕ) → IsEnd round ss source all m → m ≡ number + 1 → ⊥
            not_here m end n =
                not_read (behind (count + 1) (ended_at (ended q.stack q.weighed))) end.state (behind_read (count + 1) (ended_at (ended q.stack q.weighed)) ∙ stops (hush weighed_table q.stack) refl)
                (sym reads_here ∙ ap (λ n. read_by_table round ss (meanings source (take n all))) (sym n) ∙ end.reads)

      -- ---- a token at which reading stops

      module _ (o : Outcome) (unread : is_read o ≡ false) (stops : (more : List Sign) → within_limits round (with_token deepest p alone) (λ next. read_signs round next more) ≡ o) where
        stops_behind : (others : List SourceToken) → read_by_table round ss (meanings source (s.front ++ t ∷ others)) ≡ behind count o
        stops_behind others =
            let cut_here : meanings source (s.front ++ t ∷ others) ≡ meanings source (s.front ++ t ∷ []) ++ meanings source others =
            ap (meanings source) (sym (append_assoc s.front (t ∷ []) others)) ∙ flat_map-append (meaning_in source) (s.front ++ t ∷ []) others in
            ap (read_by_table round ss) cut_here ∙ leads_token (meanings source others) ∙ ap (behind count) (stops (meanings source others))

        none_beyond : (m : ℕ) → IsEnd round ss source all m → m ≤ number
        none_beyond m end = by (nat_split m number)
          where
            by : (m ≤ number) ⊎ ((k : ℕ) × (m ≡ number + suc k)) → m ≤ number
            by (inl h) = h
            by (inr (k, e)) =
                let taken : take m all ≡ s.front ++ t ∷ take k rest =
                ap (take m) whole_here ∙ ap (λ n. take n (s.front ++ t ∷ rest)) (e ∙ ap (λ n. n + suc k) (sym s.numbered)) ∙ took_front s.front (t ∷ rest) (suc k) in
                absurd (not_read (behind count o) end.state (behind_read count o ∙ unread) (sym (stops_behind (take k rest)) ∙ ap (λ ts. read_by_table round ss (meanings source ts)) (sym taken) ∙ end.reads))

        pub stops_all : read_by_table round ss (meanings source all) ≡ behind count o
        stops_all = ap (λ ts. read_by_table round ss (meanings source ts)) whole_here ∙ stops_behind rest

  -- ---- how it ends

  finished : (found : Option ℕ) (number : ℕ) (stop : Ending) → IsFound found number → ((m : ℕ) → IsEnd round ss source all m → m ≤ number) → (HasNoEnd round ss source all → found ≡ None → IsEnding round ss source all stop)
      → IsEnding round ss source all (last_or found stop)
  finished None number stop f few h = h (λ m end. f m end (few m end)) refl
  finished (Some n) number stop f few h = record { end = f.0; last = λ m end. f.1 m end (few m end) }

  module _ (p : Progress) (found : Option ℕ) (count number : ℕ) (ts : List SourceToken) (t : SourceToken) (rest : List SourceToken) (cut : ts ≡ t ∷ rest) (s : Stands p found count number ts) (note : Bool) (lexeme : Lexeme)
      (e : token note lexeme ∷ [] ≡ meaning_in source t) where
    pub refused_ends : with_token deepest p (alone p found count number ts t rest cut s note lexeme e) ≡ None → IsEnding round ss source all (last_or found (ending.Refused count))
    refused_ends none =
        let stops : (more : List Sign) → within_limits round (with_token deepest p (alone p found count number ts t rest cut s note lexeme e)) (λ next. read_signs round next more) ≡ stopped 0 =
        λ more. ap (λ o. within_limits round o (λ next. read_signs round next more)) none in
        finished found number (ending.Refused count) s.found_is (none_beyond p found count number ts t rest cut s note lexeme e (stopped 0) refl stops)
        (λ no none. (no, stops_all p found count number ts t rest cut s note lexeme e (stopped 0) refl stops ∙ ap stopped (omega arith)))

    pub limited_ends : (q : Progress) → with_token deepest p (alone p found count number ts t rest cut s note lexeme e) ≡ Some q → is_within round q ≡ false → IsEnding round ss source all (last_or found (ending.Limited count))
    limited_ends q some deep =
        let stops : (more : List Sign) → within_limits round (with_token deepest p (alone p found count number ts t rest cut s note lexeme e)) (λ next. read_signs round next more) ≡ limited 0 =
        λ more. ap (λ o. within_limits round o (λ next. read_signs round next more)) some ∙ ap (λ b. if b then later (read_signs round q more) else limited 0) deep in
        finished found number (ending.Limited count) s.found_is (none_beyond p found count number ts t rest cut s note lexeme e (limited 0) refl stops)
        (λ no none. (no, stops_all p found count number ts t rest cut s note lexeme e (limited 0) refl stops ∙ ap limited (omega arith)))

  pub all_read : (p : Progress) (found : Option ℕ) (count number : ℕ) (ts : List SourceToken) → ts ≡ [] → Stands p found count number ts → IsEnding round ss source all (last_or found (ending.Refused count))
  all_read p found count number ts none s = finished found number (ending.Refused count) s.found_is few (λ no f. (no, whole f))
    where
      front_all : all ≡ s.front
      front_all = s.whole ∙ ap (λ ts. s.front ++ ts) none ∙ append-nil s.front

      few : (m : ℕ) → IsEnd round ss source all m → m ≤ number
      few m end =
          let within = got_within all end.ends.last end.ends.token end.ends.token_is in
          let long : length all ≡ length s.front = ap length front_all in
          let own = s.numbered in
          let number_is = end.ends.number in
          omega (arith, within, long, own, number_is)

      stops : (o : Option (List Placed)) → hush weighed_table p.stack ≡ o → is_some o ≡ false → behind count (ended_at (ended p.stack p.weighed)) ≡ stopped count
      stops None h n = ap (λ o. behind count (ended_at (option_map (λ line. apply weighed_table line p.weighed) o))) h ∙ ap stopped (omega arith)
      stops (Some line) h n = absurd cc

      whole : found ≡ None → read_by_table round ss (meanings source all) ≡ stopped count
      whole f =
          ap (λ ts. read_by_table round ss (meanings source ts)) front_all ∙ ap (read_by_table round ss) (sym (append-nil (meanings source s.front))) ∙ s.leads []
          ∙ stops (hush weighed_table p.stack) refl (s.unended f)
