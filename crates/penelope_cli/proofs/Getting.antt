-- Getting sources one after another.
use Rattle.std.proofs.Common.{◌≡◌, ◌<◌, ℕ, ◌+◌, List, [], ◌∷◌, ◌++◌, length, get_or, drop, map, refl, sym, ap, ◌∙◌, subst, drop-cons, add-one, String}
use Rattle.std.specs.Global.{Global}
use Rattle.std.specs.Prelude.{string_bytes}
use Rattle.std.proofs.lemmas.List.{append_assoc}
use Rattle.outside.specs.declared.status.Status.{Status}
use Rattle.outside.specs.declared.status.Status.TheVariants.{NoMemory}
use Rattle.outside.specs.Meaning.{ShelfState, SinkState}
use Rattle.outside.specs.Plan.{Plan, Went, Ran}
use Rattle.outside.proofs.Runs.{went_nowhere, went_then, went_ran, ran_gave_up}
use Rattle.penelope_cli.specs.Plans.{fetch_source, fetch_all}

-- so far the run went to the plan that gets the names that are left, and goes on with what was got before them
abbrev pub WentTo : List (List ℕ) → List (List ℕ) → List (List ℕ) → ShelfState → ShelfState → SinkState → SinkState → Type 0
WentTo names left got s s' k k' = (more : List (List ℕ) → Plan) → Went (fetch_all names more) (fetch_all left (λ rest. more (got ++ rest))) s s' k k'

pub went_to_first : (names got : List (List ℕ)) (s : ShelfState) (k : SinkState) → got ≡ [] → WentTo names names got s s k k
went_to_first names got s k e = subst (λ (found : List (List ℕ)). WentTo names names found s s k k) (sym e) (λ more. went_nowhere (fetch_all names more) s k)

pub went_to_next : (names left behind got later : List (List ℕ)) (name bytes : List ℕ) (s s' s'' : ShelfState) (k k' k'' : SinkState) → left ≡ name ∷ behind → later ≡ got ++ bytes ∷ []
    → WentTo names left got s s' k k' → ((more : List ℕ → Plan) → Went (fetch_source name more) (more bytes) s' s'' k' k'') → WentTo names behind later s s'' k k''
went_to_next names left behind got later name bytes s s' s'' k k' k'' first last before next =
    subst (λ (found : List (List ℕ)). WentTo names behind found s s'' k k'') (sym last) (λ more. subst (λ (m : List (List ℕ) → Plan). Went (fetch_all names more) (fetch_all behind m) s s'' k k'') (λ i rest. more (sym (append_assoc got (bytes ∷ []) rest) i)) (went_then (subst (λ (found : List (List ℕ)). WentTo names found got s s' k k') first before more) (next (λ b. fetch_all behind (λ rest. more (got ++ b ∷ rest))))))

-- and ended at the next source
pub ran_to_next : (names left behind got : List (List ℕ)) (name : List ℕ) (status : Status) (s s' s'' : ShelfState) (k k' k'' : SinkState) → left ≡ name ∷ behind
    → WentTo names left got s s' k k' → ((more : List ℕ → Plan) → Ran (fetch_source name more) status s' s'' k' k'') → (more : List (List ℕ) → Plan) → Ran (fetch_all names more) status s s'' k k''
ran_to_next names left behind got name status s s' s'' k k' k'' first before next more =
    went_ran (subst (λ (found : List (List ℕ)). WentTo names found got s s' k k') first before more) (next (λ b. fetch_all behind (λ rest. more (got ++ b ∷ rest))))

-- and gave up behind it
pub gave_up_behind : (names left behind got : List (List ℕ)) (name bytes : List ℕ) (s s' s'' : ShelfState) (k k' k'' : SinkState) → left ≡ name ∷ behind
    → WentTo names left got s s' k k' → ((more : List ℕ → Plan) → Went (fetch_source name more) (more bytes) s' s'' k' k'') → (more : List (List ℕ) → Plan) → Ran (fetch_all names more) NoMemory s s'' k k''
gave_up_behind names left behind got name bytes s s' s'' k k' k'' first before next more =
    went_ran (went_to_next names left behind got (got ++ bytes ∷ []) name bytes s s' s'' k k' k'' first refl before next more) (ran_gave_up _ s'' k'')

-- the first of the names that are left
pub names_left : (names : List (String Global)) (i : ℕ) (name : String Global) → i < length names → name ≡ get_or names i name → map string_bytes (drop i names) ≡ string_bytes name ∷ map string_bytes (drop (i + 1) names)
names_left names i name within is =
    let here : drop i names ≡ get_or names i name ∷ drop (i + 1) names = rw (add-one, drop-cons names i name) in
    ap (map string_bytes) here ∙ ap (λ (first : String Global). string_bytes first ∷ map string_bytes (drop (i + 1) names)) (sym is)
