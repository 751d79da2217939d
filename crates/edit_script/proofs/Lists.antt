-- Lists of which each member gives something.
use Rattle.std.proofs.Common.{◌≡◌, ℕ, ◌+◌, ◌<◌, List, [], ◌∷◌, ◌++◌, length, get_or, drop, map, Option, Some, None, option_map, refl, sym, ap, ◌∙◌, append_assoc, add-one, arith, drop-cons}
use Rattle.std.proofs.Common.{String, Global, string_bytes, Bor, Bool, true, false}
use Rattle.std.proofs.lemmas.List.{drop-map, drop_all}
use Rattle.std.specs.Cmp.Lexicographic.{pointwise}
use Rattle.std.specs.Map.{keys_of}
use Rattle.std.specs.Str.{bytes_eq}
use Rattle.serde_json.specs.Data.{Data}
use Rattle.serde_json.specs.View.{items_of, members_view}
use Rattle.serde_json.specs.declared.value.Value.{Value}
use Rattle.edit_script.specs.Values.{listed, each_of}
use Rattle.edit_script.specs.Table.{names_of}

-- what is left of a reading by f: what was found stands before what the rest gives
abbrev pub goes_on : {A B : Type 0} → (A → Option B) → List B → List A → Option (List B)
goes_on f found rest = option_map (λ ys. found ++ ys) (each_of f rest)

moved : {B : Type 0} (found : List B) (y : B) (o : Option (List B)) → option_map (λ ys. found ++ ys) (option_map (λ ys. y ∷ ys) o) ≡ option_map (λ ys. (found ++ y ∷ []) ++ ys) o
moved found y None = refl
moved found y (Some ys) = ap Some (sym (append_assoc found (y ∷ []) ys))

found_one : {A B : Type 0} (f : A → Option B) (found : List B) (x : A) (xs : List A) (y : B) → f x ≡ Some y → goes_on f found (x ∷ xs) ≡ goes_on f (found ++ y ∷ []) xs
found_one f found x xs y is = rw is (moved found y (each_of f xs))

found_none : {A B : Type 0} (f : A → Option B) (found : List B) (x : A) (xs : List A) → f x ≡ None → goes_on f found (x ∷ xs) ≡ None
found_none f found x xs is = rw is

next_at : {V : Type 0} (vs : List V) (i : ℕ) (d : V) → i < length vs → drop i vs ≡ get_or vs i d ∷ drop (i + 1) vs
next_at vs i d within = rw (add-one, drop-cons vs i d)

next_of : {V : Type 0} (vs : List V) (i : ℕ) (v : V) → i < length vs → v ≡ get_or vs i v → drop i vs ≡ v ∷ drop (i + 1) vs
next_of vs i v within is = next_at vs i v within ∙ ap (λ x. x ∷ drop (i + 1) vs) (sym is)

-- a member gives y
pub each_of_step : {V A B : Type 0} (view : V → A) (f : A → Option B) (vs : List V) (i : ℕ) (v : V) (y : B) (found : List B) → i < length vs → v ≡ get_or vs i v → f (view v) ≡ Some y
    → each_of f (map view vs) ≡ goes_on f found (map view (drop i vs)) → each_of f (map view vs) ≡ goes_on f (found ++ y ∷ []) (map view (drop (i + 1) vs))
each_of_step view f vs i v y found within is gives so_far =
    so_far ∙ ap (λ rest. goes_on f found (map view rest)) (next_of vs i v within is) ∙ found_one f found (view v) (map view (drop (i + 1) vs)) y gives

-- a member gives nothing
pub each_of_stop : {V A B : Type 0} (view : V → A) (f : A → Option B) (vs : List V) (i : ℕ) (v : V) (found : List B) → i < length vs → v ≡ get_or vs i v → f (view v) ≡ None
    → each_of f (map view vs) ≡ goes_on f found (map view (drop i vs)) → each_of f (map view vs) ≡ None
each_of_stop view f vs i v found within is gives so_far =
    so_far ∙ ap (λ rest. goes_on f found (map view rest)) (next_of vs i v within is) ∙ found_none f found (view v) (map view (drop (i + 1) vs)) gives

-- ---- views

pub listed-items_of : (ds : List Data) → listed (items_of ds) ≡ ds
listed-items_of [] = refl
listed-items_of (d ∷ ds) = ap (λ rest. d ∷ rest) (listed-items_of ds)

-- the names of an object's members are its keys
pub names_of-members_view : (es : List (String Global × Value)) → names_of (members_view es) ≡ map string_bytes (keys_of es)
names_of-members_view [] = refl
names_of-members_view (e ∷ es) = ap (λ rest. string_bytes e.0 ∷ rest) (names_of-members_view es)

-- ---- keys beside names, from the i-th name on

abbrev pub named_from : List (String Global) → List (Bor (List ℕ)) → ℕ → Bool
named_from keys names i = pointwise bytes_eq (map string_bytes keys) (drop i (map (λ name. name.now) names))

names_next : (names : List (Bor (List ℕ))) (i : ℕ) (d : Bor (List ℕ)) → i < length names → drop i (map (λ n. n.now) names) ≡ (get_or names i d).now ∷ drop (i + 1) (map (λ n. n.now) names)
names_next names i d within =
    drop-map (λ n. n.now) i names ∙ ap (map (λ n. n.now)) (next_at names i d within) ∙ ap (λ rest. (get_or names i d).now ∷ rest) (sym (drop-map (λ n. n.now) (i + 1) names))

pub named_step : (names : List (Bor (List ℕ))) (i : ℕ) (d : Bor (List ℕ)) (key : String Global) (keys : List (String Global)) → i < length names
    → bytes_eq (string_bytes key) (get_or names i d).now ≡ true → named_from (key ∷ keys) names i ≡ named_from keys names (i + 1)
named_step names i d key keys within same = rw (names_next names i d within, same)

pub named_other : (names : List (Bor (List ℕ))) (i : ℕ) (d : Bor (List ℕ)) (key : String Global) (keys : List (String Global)) → i < length names
    → bytes_eq (string_bytes key) (get_or names i d).now ≡ false → named_from (key ∷ keys) names i ≡ false
named_other names i d key keys within other = rw (names_next names i d within, other)

pub named_over : (names : List (Bor (List ℕ))) (key : String Global) (keys : List (String Global)) → named_from (key ∷ keys) names (length names) ≡ false
named_over names key keys = rw (drop-map {X = Bor (List ℕ)} (λ n. n.now) (length names) names, drop_all (length names) names (omega arith))

pub ruleset list_views = (listed-items_of)
