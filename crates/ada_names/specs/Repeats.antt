-- Which declarations and clauses stand where what they say is taken, and which number a declaration has.
use Rattle.std.specs.Prelude.{◌≡◌, ℕ, zero, suc, List, take, length, Bool, true, false, not, ◌&&◌, ◌||◌, nat_le, Option, Some, None, is_some, Result, Ok, Err, find, option_map, if◌then◌else◌}
use Rattle.base_kit.specs.declared.fault.Code.TheVariants as code
use Rattle.base_kit.specs.declared.fault.Stop.{Stop}
use Rattle.base_kit.specs.declared.fault.Stop.TheVariants as stop
use Rattle.ada_tree.specs.declared.kind.Kind.{Kind}
use Rattle.ada_tree.specs.declared.kind.Kind.TheVariants as kind
use Rattle.ada_tree.specs.declared.doc.DeclId.{DeclId}
use Rattle.ada_tree.specs.Sights.{fault}
use Rattle.ada_names.specs.declared.entry.Entry.{Entry}
use Rattle.ada_names.specs.declared.entry.Space.{Space}
use Rattle.ada_names.specs.declared.entry.Space.TheVariants as space
use Rattle.ada_names.specs.Places.{has_ended}
use Rattle.ada_names.specs.Entries.{is_space, first_of, entry_at, has_number}
use Rattle.ada_names.specs.Clauses.{is_other, is_in_subprogram, is_clause_again, is_block_again}

-- ---- a name that its region has already

-- what may stand once in its region; clauses may repeat a name
abbrev pub stands_once : Space → Bool
stands_once space.Names = true
stands_once space.Completions = true
stands_once space.Components = true
stands_once space.Operators = true
stands_once space.Traits = true
stands_once space.Lemmas = true
stands_once _ = false

-- a declaration after the first of its name in its region; a second body, or a second full type, likewise
abbrev pub is_repeated : List Entry → Entry → Bool
is_repeated es e = stands_once e.space && is_other e (first_of es e.space e.region e.name)

-- ---- the rule of no hiding

-- variables, constants, formals and loop parameters
abbrev pub is_object : Kind → Bool
is_object kind.Obj = true
is_object kind.Const = true
is_object kind.Formal = true
is_object kind.For = true
is_object kind.Reverse = true
is_object _ = false

abbrev pub is_object_at : List ℕ → Option Entry → Bool
is_object_at place (Some o) = is_object o.kind && has_ended o.from place
is_object_at place None = false

-- the regions between a declaration's own and the subprogram, that one included, from inside
abbrev pub hides_from : List Entry → Entry → ℕ → Bool
hides_from es e zero = false
hides_from es e (suc n) = nat_le (length e.within) n && (is_object_at e.place (first_of es space.Names (take n e.region) e.name) || hides_from es e n)

-- A declaration in a subprogram may not bear the name of an object of that subprogram that is visible there.
abbrev pub hides_object : List Entry → Entry → Bool
hides_object es e = is_some e.number && is_in_subprogram e && hides_from es e (length e.region)

-- ---- all that is refused

abbrev pub is_taken : List Entry → Entry → Bool
is_taken es e = is_repeated es e || hides_object es e || is_clause_again es e || is_block_again es e

-- ---- the number of a declaration

-- what stands at a path: a declaration with this number; what is taken already; or nothing that has a number
pub data Claim : Type 0 where
  numbered : DeclId → Claim
  taken : Claim
  without : Claim

abbrev pub claim_of : List Entry → Option Entry → Claim
claim_of es (Some e) = if is_taken es e then taken else by e.number
  where
    by : Option DeclId → Claim
    by (Some id) = numbered id
    by None = without
claim_of es None = without

-- what stands at the path of a node that holds a declared name, of a mark of a `global` clause, of a raise clause, or of a `where` block
abbrev pub claim : List Entry → List ℕ → Claim
claim es path = claim_of es (entry_at es path)

-- The answer for a path. Want of memory is free.
abbrev pub Answers : Claim → List ℕ → Result DeclId Stop → Type 0
Answers (numbered id) path (Ok given) = given ≡ id
Answers taken path (Ok given) = ⊥
Answers without path (Ok given) = ⊥
Answers (numbered id) path (Err (stop.Fault f)) = ⊥
Answers taken path (Err (stop.Fault f)) = f ≡ fault code.F06 path
Answers without path (Err (stop.Fault f)) = f ≡ fault code.F05 path
Answers c path (Err stop.Memory) = Unit {0}

-- F06 exactly where it is taken
abbrev pub Distinct : Claim → List ℕ → Result (Unit {0}) Stop → Type 0
Distinct taken path (Ok given) = ⊥
Distinct c path (Ok given) = Unit {0}
Distinct taken path (Err (stop.Fault f)) = f ≡ fault code.F06 path
Distinct c path (Err (stop.Fault f)) = ⊥
Distinct c path (Err stop.Memory) = Unit {0}

-- ---- from a number to its place

abbrev pub is_declared_as : DeclId → Entry → Bool
is_declared_as id e = not (is_space e.space space.Predefined) && has_number id e

-- the path of the first declaration of a document that has this number: bodies and full types stand after it
abbrev pub place_of : List Entry → DeclId → Option (List ℕ)
place_of es id = option_map (λ (e : Entry). e.place) (find (is_declared_as id) es)
