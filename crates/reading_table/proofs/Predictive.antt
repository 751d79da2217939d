-- Tests of a table by sets of tokens, and that a table which passes them can be read by the next token alone.
use Rattle.std.proofs.Common.{◌≡◌, ℕ, zero, suc, List, [], ◌∷◌, ◌++◌, refl, sym, ◌∙◌, ap, Option, Some, None, Bool, true, false, ◌&&◌, ◌||◌, if◌then◌else◌, map}
use Rattle.std.specs.Prelude.{is_some}
use Rattle.std.specs.List.{list_any, list_all, flat_map}
use Rattle.std.proofs.lemmas.Bool.{and_parts}
use Rattle.reading_table.specs.Tables.{View, token, done, part, Table, Has, first, later}
use Rattle.reading_table.specs.Machine.{or_else, first_some, after, both, before, hush, lead_at, lead, enter}
use Rattle.reading_table.proofs.Answers.{after_some, both_some, if_some, first_some_has}
use Rattle.reading_table.proofs.Sound.{IsQuiet}
use Rattle.reading_table.proofs.Complete.{EndsWell, IsPredictive, Good}

-- ---- tests of lists

pub all_has : {A : Type 0} → (f : A → Bool) (xs : List A) (x : A) → list_all f xs ≡ true → Has xs x → f x ≡ true
all_has f [] x h m = elim m [ ]
all_has f (y ∷ xs) x h first = (and_parts (f y) (list_all f xs) h).0
all_has f (y ∷ xs) x h (later m) = all_has f xs x (and_parts (f y) (list_all f xs) h).1 m

pub any_has : {A : Type 0} → (f : A → Bool) (xs : List A) → list_any f xs ≡ true → (x : A) × Has xs x × (f x ≡ true)
any_has f [] h = absurd cc
any_has {A = A} f (y ∷ xs) h = by_test (f y) refl (any_has f xs) h
  where
    by_test : (b : Bool) → f y ≡ b → (list_any f xs ≡ true → (x : A) × Has xs x × (f x ≡ true)) → (b || list_any f xs) ≡ true → (x : A) × Has (y ∷ xs) x × (f x ≡ true)
    by_test true e go h = (y, first, e)
    by_test false e go h = let r = go h in (r.0, later r.1, r.2)

pub has_any : {A : Type 0} → (f : A → Bool) (xs : List A) (x : A) → Has xs x → f x ≡ true → list_any f xs ≡ true
has_any f [] x m e = elim m [ ]
has_any f (y ∷ xs) x first e = ap (λ b. b || list_any f xs) e
has_any f (y ∷ xs) x (later m) e = by_test (f y) (has_any f xs x m e)
  where
    by_test : (b : Bool) → list_any f xs ≡ true → (b || list_any f xs) ≡ true
    by_test true g = refl
    by_test false g = g

pub has_front : {A : Type 0} → (xs ys : List A) (x : A) → Has xs x → Has (xs ++ ys) x
has_front [] ys x m = elim m [ ]
has_front (z ∷ xs) ys x first = first
has_front (z ∷ xs) ys x (later m) = later (has_front xs ys x m)

pub has_back : {A : Type 0} → (xs ys : List A) (x : A) → Has ys x → Has (xs ++ ys) x
has_back [] ys x m = m
has_back (z ∷ xs) ys x m = later (has_back xs ys x m)

pub has_flat : {A B : Type 0} → (f : A → List B) (xs : List A) (x : A) (y : B) → Has xs x → Has (f x) y → Has (flat_map f xs) y
has_flat f [] x y m n = elim m [ ]
has_flat f (z ∷ xs) x y first n = has_front (f z) (flat_map f xs) y n
has_flat f (z ∷ xs) x y (later m) n = has_back (f z) (flat_map f xs) y (has_flat f xs x y m n)

-- the first one, where the second is an answer
abbrev pub kept : {A : Type 0} → Option A → Option A → Option A
kept e None = None
kept e (Some x) = e

module _ {Symbol Part Token State Set : Type 0} (T : Table Symbol Part Token State) (set : Symbol → Set) (apart covers : Set → Set → Bool) where
  -- ---- the sets of tokens with which parts begin, by parts within each other at most so deep

  abbrev pub firsts_at : (Part → List Set) → View Part → Symbol → List Set → List Set
  firsts_at firsts token s rest = set s ∷ []
  firsts_at firsts done s rest = rest
  firsts_at firsts (part p) s rest = firsts p ++ (if is_some (T.silence p) then rest else [])

  abbrev pub firsts_line : (Part → List Set) → List Symbol → List Set
  firsts_line firsts [] = []
  firsts_line firsts (s ∷ ss) = firsts_at firsts (T.view s) s (firsts_line firsts ss)

  abbrev pub firsts : ℕ → Part → List Set
  firsts zero p = []
  firsts (suc depth) p = flat_map (firsts_line (firsts depth)) (T.rows p)

  -- parts that begin a row stand within each other at most so deep
  abbrev pub sinks_at : (Part → Bool) → View Part → Bool → Bool
  sinks_at sinks token rest = true
  sinks_at sinks done rest = rest
  sinks_at sinks (part p) rest = sinks p && (if is_some (T.silence p) then rest else true)

  abbrev pub sinks_line : (Part → Bool) → List Symbol → Bool
  sinks_line sinks [] = true
  sinks_line sinks (s ∷ ss) = sinks_at sinks (T.view s) (sinks_line sinks ss)

  abbrev pub sinks : ℕ → Part → Bool
  sinks zero p = false
  sinks (suc depth) p = list_all (sinks_line (sinks depth)) (T.rows p)

  -- ---- the tests of a part; `bars` has at least the sets of tokens that may not follow a part

  abbrev pub all_apart : List Set → List Set → Bool
  all_apart xs ys = list_all (λ a. list_all (apart a) ys) xs

  abbrev pub all_covered : List Set → List Set → Bool
  all_covered xs ys = list_all (λ a. list_any (λ b. covers b a) ys) xs

  abbrev pub rows_apart : ℕ → List (List Symbol) → Bool
  rows_apart depth [] = true
  rows_apart depth (row ∷ rows) = list_all (λ other. all_apart (firsts_line (firsts depth) row) (firsts_line (firsts depth) other)) rows && rows_apart depth rows

  -- behind each part of a line stands nothing that begins with what bars the part
  abbrev pub clear_at : ℕ → (Part → List Set) → View Part → List Symbol → Bool
  clear_at depth bars (part m) ss = all_apart (firsts_line (firsts depth) ss) (bars m)
  clear_at depth bars _ ss = true

  abbrev pub clear_line : ℕ → (Part → List Set) → List Symbol → Bool
  clear_line depth bars [] = true
  clear_line depth bars (s ∷ ss) = clear_at depth bars (T.view s) ss && clear_line depth bars ss

  abbrev pub ends_at : ℕ → (Part → List Set) → Part → View Part → List Symbol → Bool
  ends_at depth bars p (part m) ss = all_apart (firsts_line (firsts depth) ss) (bars m) && (if is_some (hush T ss) then all_covered (bars m) (bars p) else true)
  ends_at depth bars p _ ss = true

  abbrev pub ends_line : ℕ → (Part → List Set) → Part → List Symbol → Bool
  ends_line depth bars p [] = true
  ends_line depth bars p (s ∷ ss) = ends_at depth bars p (T.view s) ss && ends_line depth bars p ss

  abbrev pub is_done : View Part → Bool
  is_done done = true
  is_done _ = false

  abbrev pub keeps_quiet : ℕ → (Part → List Set) → Part → Option (List Symbol) → Bool
  keeps_quiet depth bars p None = true
  keeps_quiet depth bars p (Some line) = list_all (λ s. is_done (T.view s)) line && all_covered (firsts depth p) (bars p)

  abbrev pub passes : ℕ → (Part → List Set) → Part → Bool
  passes depth bars p = (sinks depth p && rows_apart depth (T.rows p)) && (keeps_quiet depth bars p (T.silence p) && list_all (ends_line depth bars p) (T.rows p))

  -- each row of the part that may be nothing is then what the part is
  abbrev pub IsStill : Part → Type 0
  IsStill p = map (λ row. kept (T.silence p) (hush T row)) (T.rows p) ≡ map (hush T) (T.rows p)

  module _ (holds : Set → Token → Bool) (tells : (s : Symbol) (t : Token) → T.may s t ≡ true → holds (set s) t ≡ true)
      (parted : (a b : Set) (t : Token) → apart a b ≡ true → holds a t ≡ true → holds b t ≡ true → ⊥) (covered : (b a : Set) (t : Token) → covers b a ≡ true → holds a t ≡ true → holds b t ≡ true) where
    abbrev among : List Set → Token → Bool
    among sets t = list_any (λ a. holds a t) sets

    apart_sets : (xs ys : List Set) (t : Token) → all_apart xs ys ≡ true → among xs t ≡ true → among ys t ≡ true → ⊥
    apart_sets xs ys t h x y =
        let a = any_has (λ a. holds a t) xs x in
        let b = any_has (λ a. holds a t) ys y in
        parted a.0 b.0 t (all_has (apart a.0) ys b.0 (all_has (λ a. list_all (apart a) ys) xs a.0 h a.1) b.1) a.2 b.2

    covered_sets : (xs ys : List Set) (t : Token) → all_covered xs ys ≡ true → among xs t ≡ true → among ys t ≡ true
    covered_sets xs ys t h x =
        let a = any_has (λ a. holds a t) xs x in
        let b = any_has (λ b. covers b a.0) ys (all_has (λ a. list_any (λ b. covers b a) ys) xs a.0 h a.1) in
        has_any (λ a. holds a t) ys b.0 b.1 (covered b.0 a.0 t b.2 a.2)

    among_more : (xs ys : List Set) (t : Token) → among xs t ≡ true → among (xs ++ ys) t ≡ true
    among_more xs ys t h = let a = any_has (λ a. holds a t) xs h in has_any (λ a. holds a t) (xs ++ ys) a.0 (has_front xs ys a.0 a.1) a.2

    among_later : (xs ys : List Set) (t : Token) → among ys t ≡ true → among (xs ++ ys) t ≡ true
    among_later xs ys t h = let a = any_has (λ a. holds a t) ys h in has_any (λ a. holds a t) (xs ++ ys) a.0 (has_back xs ys a.0 a.1) a.2

    -- ---- what leads begins with the token

    abbrev Begins : ℕ → Token → Type 0
    Begins depth t = (p : Part) (l : List Symbol) → enter T depth p t ≡ Some l → among (firsts depth p) t ≡ true

    led : (depth : ℕ) (t : Token) → Begins depth t → (line l : List Symbol) → lead T (enter T depth) t line ≡ Some l → among (firsts_line (firsts depth) line) t ≡ true
    led depth t b [] l h = absurd cc
    led depth t b (s ∷ ss) l h = by_view (led depth t b ss) (T.view s) h
      where
        by_silence : (p : Part) → ((l : List Symbol) → lead T (enter T depth) t ss ≡ Some l → among (firsts_line (firsts depth) ss) t ≡ true)
            → (q : Option (List Symbol)) → both q (lead T (enter T depth) t ss) ≡ Some l → among (firsts depth p ++ (if is_some q then firsts_line (firsts depth) ss else [])) t ≡ true
        by_silence p go None h = absurd cc
        by_silence p go (Some q) h = let r = both_some (Some q) (lead T (enter T depth) t ss) l h in among_later (firsts depth p) (firsts_line (firsts depth) ss) t (go r.1 r.3)

        by_entry : (p : Part) → ((l : List Symbol) → lead T (enter T depth) t ss ≡ Some l → among (firsts_line (firsts depth) ss) t ≡ true) → (o : Option (List Symbol)) → enter T depth p t ≡ o
            → before o ss (both (T.silence p) (lead T (enter T depth) t ss)) ≡ Some l → among (firsts_at (firsts depth) (part p) s (firsts_line (firsts depth) ss)) t ≡ true
        by_entry p go (Some a) e h = among_more (firsts depth p) (if is_some (T.silence p) then firsts_line (firsts depth) ss else []) t (b p a e)
        by_entry p go None e h = by_silence p go (T.silence p) h

        by_view : ((l : List Symbol) → lead T (enter T depth) t ss ≡ Some l → among (firsts_line (firsts depth) ss) t ≡ true) → (v : View Part)
            → lead_at T (enter T depth) t v s ss (lead T (enter T depth) t ss) ≡ Some l → among (firsts_at (firsts depth) v s (firsts_line (firsts depth) ss)) t ≡ true
        by_view go token h = ap (λ b. b || false) (tells s t (if_some (T.may s t) (s ∷ ss) l h).0)
        by_view go done h = let r = after_some s (lead T (enter T depth) t ss) l h in go r.0 r.1
        by_view go (part p) h = by_entry p go (enter T depth p t) refl h

    begins : (depth : ℕ) (t : Token) → Begins depth t
    begins zero t p l h = absurd cc
    begins (suc depth) t p l h =
        let r = first_some_has (lead T (enter T depth) t) (T.rows p) l h in
        let a = any_has (λ a. holds a t) (firsts_line (firsts depth) r.0) (led depth t (begins depth t) r.0 l r.2) in
        has_any (λ a. holds a t) (firsts (suc depth) p) a.0 (has_flat (firsts_line (firsts depth)) (T.rows p) r.0 a.0 r.1 a.1) a.2

    -- ---- deep enough is deep enough

    same_first : {A B : Type 0} → (f g : A → Option B) (test : A → Bool) (xs : List A) → ((x : A) → test x ≡ true → f x ≡ g x) → list_all test xs ≡ true → first_some f xs ≡ first_some g xs
    same_first f g test [] e h = refl
    same_first f g test (x ∷ xs) e h =
        let parts = and_parts (test x) (list_all test xs) h in
        ap (λ o. or_else o (first_some f xs)) (e x parts.0) ∙ ap (or_else (g x)) (same_first f g test xs e parts.1)

    same_line : (depth : ℕ) (t : Token) → ((p : Part) → sinks depth p ≡ true → enter T depth p t ≡ enter T (suc depth) p t) → (line : List Symbol) → sinks_line (sinks depth) line ≡ true
        → lead T (enter T depth) t line ≡ lead T (enter T (suc depth)) t line
    same_line depth t f [] h = refl
    same_line depth t f (s ∷ ss) h = by_view (same_line depth t f ss) (T.view s) h
      where
        by_silence : (q : Option (List Symbol)) → (sinks_line (sinks depth) ss ≡ true → lead T (enter T depth) t ss ≡ lead T (enter T (suc depth)) t ss)
            → (if is_some q then sinks_line (sinks depth) ss else true) ≡ true → both q (lead T (enter T depth) t ss) ≡ both q (lead T (enter T (suc depth)) t ss)
        by_silence None go h = refl
        by_silence (Some q) go h = ap (both (Some q)) (go h)

        by_view : (sinks_line (sinks depth) ss ≡ true → lead T (enter T depth) t ss ≡ lead T (enter T (suc depth)) t ss) → (v : View Part) → sinks_at (sinks depth) v (sinks_line (sinks depth) ss) ≡ true
            → lead_at T (enter T depth) t v s ss (lead T (enter T depth) t ss) ≡ lead_at T (enter T (suc depth)) t v s ss (lead T (enter T (suc depth)) t ss)
        by_view go token h = refl
        by_view go done h = ap (after s) (go h)
        by_view go (part p) h =
            let parts = and_parts (sinks depth p) (if is_some (T.silence p) then sinks_line (sinks depth) ss else true) h in
            ap (λ o. before o ss (both (T.silence p) (lead T (enter T depth) t ss))) (f p parts.0) ∙ ap (before (enter T (suc depth) p t) ss) (by_silence (T.silence p) go parts.1)

    settles : (depth : ℕ) (p : Part) (t : Token) → sinks depth p ≡ true → enter T depth p t ≡ enter T (suc depth) p t
    settles zero p t h = absurd cc
    settles (suc depth) p t h =
        same_first (lead T (enter T depth) t) (lead T (enter T (suc depth)) t) (sinks_line (sinks depth)) (T.rows p) (same_line depth t (λ p h. settles depth p t h)) h

    -- ---- one row of a part at most leads

    abbrev is_apart : ℕ → List Symbol → List Symbol → Bool
    is_apart depth r other = all_apart (firsts_line (firsts depth) r) (firsts_line (firsts depth) other)

    picks : (depth : ℕ) (t : Token) (rows : List (List Symbol)) (row l : List Symbol) → rows_apart depth rows ≡ true → Has rows row → lead T (enter T depth) t row ≡ Some l → first_some (lead T (enter T depth) t) rows ≡ Some l
    picks depth t [] row l h m e = elim m [ ]
    picks depth t (r ∷ rows) row l h first e = ap (λ o. or_else o (first_some (lead T (enter T depth) t) rows)) e
    picks depth t (r ∷ rows) row l h (later m) e = by_lead (picks depth t rows row l) (lead T (enter T depth) t r) refl
      where
        by_lead : (rows_apart depth rows ≡ true → Has rows row → lead T (enter T depth) t row ≡ Some l → first_some (lead T (enter T depth) t) rows ≡ Some l)
            → (o : Option (List Symbol)) → lead T (enter T depth) t r ≡ o → or_else o (first_some (lead T (enter T depth) t) rows) ≡ Some l
        by_lead go None x = go (and_parts (list_all (is_apart depth r) rows) (rows_apart depth rows) h).1 m e
        by_lead go (Some a) x =
            absurd (apart_sets (firsts_line (firsts depth) r) (firsts_line (firsts depth) row) t (all_has (is_apart depth r) rows row (and_parts (list_all (is_apart depth r) rows) (rows_apart depth rows) h).0 m)
            (led depth t (begins depth t) r a x) (led depth t (begins depth t) row l e))

    -- ---- a table that passes

    is_quiet : (line : List Symbol) → list_all (λ s. is_done (T.view s)) line ≡ true → IsQuiet T line
    is_quiet [] h = tt
    is_quiet (s ∷ line) h =
        let parts = and_parts (is_done (T.view s)) (list_all (λ s. is_done (T.view s)) line) h in
        (by_view (T.view s) parts.0, is_quiet line parts.1)
      where
        by_view : (v : View Part) → is_done v ≡ true → v ≡ done
        by_view token e = absurd cc
        by_view done e = refl
        by_view (part p) e = absurd cc

    kept_row : (e : Option (List Symbol)) (rows : List (List Symbol)) (row q : List Symbol) → map (λ row. kept e (hush T row)) rows ≡ map (hush T) rows → Has rows row → hush T row ≡ Some q → e ≡ Some q
    kept_row e [] row q h m x = elim m [ ]
    kept_row e (r ∷ rows) row q h first x =
        let front : kept e (hush T r) ≡ hush T r = cc in
        sym (ap (kept e) x) ∙ front ∙ x
    kept_row e (r ∷ rows) row q h (later m) x = let rest : map (λ row. kept e (hush T row)) rows ≡ map (hush T) rows = cc in kept_row e rows row q rest m x

    -- not barred, where that can't be
    unbarred : (b : Bool) → (b ≡ true → ⊥) → b ≡ false
    unbarred true f = absurd (f refl)
    unbarred false f = refl

    -- nothing that the line begins with bars the part
    clear : (depth : ℕ) (sets : List Set) (ss : List Symbol) → all_apart (firsts_line (firsts depth) ss) sets ≡ true → (t : Token) (l : List Symbol) → lead T (enter T depth) t ss ≡ Some l → among sets t ≡ false
    clear depth sets ss h t l e = unbarred (among sets t) (λ b. apart_sets (firsts_line (firsts depth) ss) sets t h (led depth t (begins depth t) ss l e) b)

    pub good_line : (depth : ℕ) (bars : Part → List Set) (P : IsPredictive T depth) → P.bars ≡ (λ p t. among (bars p) t) → (line : List Symbol) → clear_line depth bars line ≡ true → Good T depth P line
    good_line depth bars P same [] h = tt
    good_line depth bars P same (s ∷ ss) h =
        let parts = and_parts (clear_at depth bars (T.view s) ss) (clear_line depth bars ss) h in
        ((λ m v t l e. ap (λ f. f m t) same ∙ clear depth (bars m) ss (ap (λ v. clear_at depth bars v ss) (sym v) ∙ parts.0) t l e), good_line depth bars P same ss parts.1)

    ends_well : (depth : ℕ) (bars : Part → List Set) (p : Part) (line : List Symbol) → ends_line depth bars p line ≡ true → EndsWell T depth (λ p t. among (bars p) t) p line
    ends_well depth bars p [] h = tt
    ends_well depth bars p (s ∷ ss) h =
        let parts = and_parts (ends_at depth bars p (T.view s) ss) (ends_line depth bars p ss) h in
        ((λ m v t. behind m (ap (λ v. ends_at depth bars p v ss) (sym v) ∙ parts.0) t), ends_well depth bars p ss parts.1)
      where
        by_hush : (m : Part) (o : Option (List Symbol)) → (if is_some o then all_covered (bars m) (bars p) else true) ≡ true → (q : List Symbol) → o ≡ Some q → all_covered (bars m) (bars p) ≡ true
        by_hush m None h q e = absurd cc
        by_hush m (Some a) h q e = h

        behind : (m : Part) → ends_at depth bars p (part m) ss ≡ true → (t : Token)
            → ((l : List Symbol) → lead T (enter T depth) t ss ≡ Some l → among (bars m) t ≡ false) × ((q : List Symbol) → hush T ss ≡ Some q → among (bars m) t ≡ true → among (bars p) t ≡ true)
        behind m h t =
            let parts = and_parts (all_apart (firsts_line (firsts depth) ss) (bars m)) (if is_some (hush T ss) then all_covered (bars m) (bars p) else true) h in (
              (λ l e. clear depth (bars m) ss parts.0 t l e),
              (λ q e b. covered_sets (bars m) (bars p) t (by_hush m (hush T ss) parts.1 q e) b),
            )

    pub is_predictive : (depth : ℕ) (bars : Part → List Set) → ((s : Symbol) (state : State) (t : Token) → T.fits s state t ≡ true → T.may s t ≡ true)
        → ((p : Part) → passes depth bars p ≡ true) → ((p : Part) → IsStill p) → IsPredictive T depth
    is_predictive depth bars fitting pass still = record {
      quiet = λ p q e. is_quiet q (and_parts (list_all (λ s. is_done (T.view s)) q) (all_covered (firsts depth p) (bars p)) (silent p q e)).0;
      fitting = fitting;
      still = λ p row q m e. kept_row (T.silence p) (T.rows p) row q (still p) m e;
      entered = λ p row l t m e. settles depth p t (fronts p).0 ∙ picks depth t (T.rows p) row l (fronts p).1 m e;
      bars = λ p t. among (bars p) t;
      own = λ p q l t e x. covered_sets (firsts depth p) (bars p) t (and_parts (list_all (λ s. is_done (T.view s)) q) (all_covered (firsts depth p) (bars p)) (silent p q e)).1 (begins depth t p l x);
      behind = λ p row m. ends_well depth bars p row (all_has (ends_line depth bars p) (T.rows p) row (backs p).1 m);
    }
      where
        fronts : (p : Part) → (sinks depth p ≡ true) × (rows_apart depth (T.rows p) ≡ true)
        fronts p = and_parts (sinks depth p) (rows_apart depth (T.rows p)) (and_parts (sinks depth p && rows_apart depth (T.rows p)) (keeps_quiet depth bars p (T.silence p) && list_all (ends_line depth bars p) (T.rows p)) (pass p)).0

        backs : (p : Part) → (keeps_quiet depth bars p (T.silence p) ≡ true) × (list_all (ends_line depth bars p) (T.rows p) ≡ true)
        backs p =
            and_parts (keeps_quiet depth bars p (T.silence p)) (list_all (ends_line depth bars p) (T.rows p))
            (and_parts (sinks depth p && rows_apart depth (T.rows p)) (keeps_quiet depth bars p (T.silence p) && list_all (ends_line depth bars p) (T.rows p)) (pass p)).1

        silent : (p : Part) (q : List Symbol) → T.silence p ≡ Some q → keeps_quiet depth bars p (Some q) ≡ true
        silent p q e = ap (keeps_quiet depth bars p) (sym e) ∙ (backs p).0

    pub its_bars : (depth : ℕ) (bars : Part → List Set) (fitting : (s : Symbol) (state : State) (t : Token) → T.fits s state t ≡ true → T.may s t ≡ true)
        (pass : (p : Part) → passes depth bars p ≡ true) (still : (p : Part) → IsStill p) → (is_predictive depth bars fitting pass still).bars ≡ (λ p t. among (bars p) t)
    unfolding is_predictive
    its_bars depth bars fitting pass still = refl
