-- The bindings that the program keeps have the values of the symbolic store.
use Rattle.std.proofs.Common.{◌≡◌, ◌<◌, ◌≤◌, ℕ, suc, List, [], ◌∷◌, length, map, get_or, ◌+◌, Bool, true, false, cond, refl, sym, ◌∙◌, ap, subst, arith}
use Rattle.std.specs.Prelude.{not, ◌||◌, bytes_eq, nat_lt, position, Some, None}
use Rattle.std.proofs.lemmas.Bool.Decides.{nat_tests}
use Rattle.std.proofs.Math.ListN.{set}
use Rattle.std.specs.List.{list_all, prefix_len}
use Rattle.std.proofs.lemmas.Bool.{and_parts}
use Rattle.std.proofs.lemmas.Slice.Eq.{bytes_eq-Decides}
use Rattle.one_path.specs.declared.procedure.Procedure.{Procedure}
use Rattle.one_path.specs.declared.procedure.Statement.{Statement}
use Rattle.one_path.specs.declared.procedure.Statement.TheVariants.{Null, Assign}
use Rattle.one_path.specs.declared.procedure.Clause.{Clause}
use Rattle.one_path.specs.declared.procedure.Clause.TheVariants.{In, Out}
use Rattle.one_path.specs.declared.procedure.Operand.{Operand}
use Rattle.one_path.specs.declared.procedure.Operand.TheVariants.{Plain, Entry}
use Rattle.one_path.specs.declared.procedure.Atom.{Atom}
use Rattle.one_path.specs.declared.procedure.Atom.TheVariants.{Name, Number}
use Rattle.one_path.specs.Conditions.{has, knows_atom, knows_operand, knows_clause, knows_statement, Meets}
use Rattle.term_core.specs.declared.term.Term.{Term}
use Rattle.term_core.specs.Terms.{var, equal}
use Rattle.term_core.proofs.NameLaws.{same_name}
use Rattle.penelope_cli.specs.declared.obligations.Binding.{Binding}
use Rattle.penelope_cli.specs.Bindings.{bound_value, rebound, bound_atom, bound_operand, bound_conclusions, after_statement, after_statements, entry_bindings}
use Rattle.penelope_cli.specs.Paths.{Store, entry_store, value_of, operand_of, after, after_all, conclusions_of}

abbrev objects : List Binding → List (List ℕ)
objects bindings = map (λ binding. binding.object) bindings

-- the values are those of the store, for each object that has a place
abbrev Agrees : List Binding → Store → Type 0
Agrees bindings store = (name : List ℕ) → has (objects bindings) name ≡ true → bound_value bindings name ≡ store name

other_true : (a b : Bool) → a ≡ false → (a || b) ≡ true → b ≡ true
other_true true b e f = cc
other_true false b e f = f

bytes_eq-same : (x y : List ℕ) → x ≡ y → bytes_eq x y ≡ true
bytes_eq-same x y e = (bytes_eq-Decides x y).1 e

bytes_eq-along : (x y z : List ℕ) → bytes_eq x y ≡ true → bytes_eq x z ≡ bytes_eq y z
bytes_eq-along x y z e = ap (λ (w : List ℕ). bytes_eq w z) (same_name x y e)

-- x is apart from b, and y is b, so x is apart from y
apart_by : (b x y : List ℕ) (t : Bool) → bytes_eq x y ≡ t → bytes_eq b x ≡ false → bytes_eq b y ≡ true → t ≡ false
apart_by b x y true e f g = let same : b ≡ x = same_name b y g ∙ sym (same_name x y e) in let is = bytes_eq-same b x same in cc
apart_by b x y false e f g = refl

-- the place of a name among bindings
abbrev place : List ℕ → List Binding → ℕ
place name bindings = prefix_len (λ binding. not (bytes_eq binding.object name)) bindings

set_first : (t : Bool) (b : Binding) (bs : List Binding) (name : List ℕ) (value : Term) (d : Binding) (n : ℕ) → (t ≡ false → set bs n (record { object = (get_or bs n d).object; value = value }) ≡ rebound name value bs)
    → set (b ∷ bs) (cond (not t) (1 + n) 0) (record { object = (get_or (b ∷ bs) (cond (not t) (1 + n) 0) d).object; value = value }) ≡ cond t (record b { value = value } ∷ bs) (b ∷ rebound name value bs)
set_first true b bs name value d n h = refl
set_first false b bs name value d n h =
    let next : 1 + n ≡ suc n = omega arith in
    ap (λ (k : ℕ). set (b ∷ bs) k (record { object = (get_or (b ∷ bs) k d).object; value = value })) next ∙ ap (λ (xs : List Binding). b ∷ xs) (h refl)

below_next : (t : Bool) (n size : ℕ) → cond (not t) (1 + n) 0 < suc size → t ≡ false → n < size
below_next true n size h e = cc
below_next false n size h e = omega arith

set_place : (bindings : List Binding) (name : List ℕ) (value : Term) (d : Binding) → place name bindings < length bindings → set bindings (place name bindings) (record { object = (get_or bindings (place name bindings) d).object; value = value }) ≡ rebound name value bindings
set_place [] name value d lt = absurd (omega arith)
set_place (b ∷ bs) name value d lt = set_first (bytes_eq b.object name) b bs name value d (place name bs) (λ e. set_place bs name value d (below_next (bytes_eq b.object name) (place name bs) (length bs) lt e))

-- another value at the place of the name
set-place : (bindings : List Binding) (name : List ℕ) (value : Term) (d : Binding) (n : ℕ) → n ≡ place name bindings → n < length bindings → set bindings n (record { object = (get_or bindings n d).object; value = value }) ≡ rebound name value bindings
set-place bindings name value d n e lt =
    subst (λ (k : ℕ). set bindings k (record { object = (get_or bindings k d).object; value = value }) ≡ rebound name value bindings) (sym e)
    (set_place bindings name value d (subst (λ (k : ℕ). k < length bindings) e lt))

no_first : (t : Bool) (b : Binding) (bs : List Binding) (name : List ℕ) (value : Term) → (t ≡ true → ⊥) → (t ≡ false → bs ≡ rebound name value bs) → b ∷ bs ≡ cond t (record b { value = value } ∷ bs) (b ∷ rebound name value bs)
no_first true b bs name value never h = absurd (never refl)
no_first false b bs name value never h = ap (λ (xs : List Binding). b ∷ xs) (h refl)

not_first : (t : Bool) (n size : ℕ) → suc size ≤ cond (not t) (1 + n) 0 → t ≡ true → ⊥
not_first true n size h e = omega arith
not_first false n size h e = cc

above_next : (t : Bool) (n size : ℕ) → suc size ≤ cond (not t) (1 + n) 0 → size ≤ n
above_next true n size h = omega arith
above_next false n size h = omega arith

-- a name without a place
no-place : (bindings : List Binding) (name : List ℕ) (value : Term) → length bindings ≤ place name bindings → bindings ≡ rebound name value bindings
no-place [] name value le = refl
no-place (b ∷ bs) name value le = no_first (bytes_eq b.object name) b bs name value (not_first (bytes_eq b.object name) (place name bs) (length bs) le) (λ e. no-place bs name value (above_next (bytes_eq b.object name) (place name bs) (length bs) le))

-- what a search for the place of a name says, where it found one and where not

placed : (n size : ℕ) (t : Bool) → nat_lt n size ≡ t → (k : ℕ) → cond t (Some n) None ≡ Some k → (k ≡ n) × (k < size)
placed n size true e k h = let same : k ≡ n = cc in (same, grind (arith, nat_tests, same))
placed n size false e k h = absurd cc

unplaced : (n size : ℕ) (t : Bool) → nat_lt n size ≡ t → cond t (Some n) None ≡ None → size ≤ n
unplaced n size true e h = absurd cc
unplaced n size false e h = grind (arith, nat_tests)

pub set-position : (bindings : List Binding) (name : List ℕ) (value : Term) (d : Binding) (n : ℕ) → Some n ≡ position (λ binding. bytes_eq binding.object name) bindings
    → set bindings n (record { object = (get_or bindings n d).object; value = value }) ≡ rebound name value bindings
set-position bindings name value d n e =
    let is = placed (place name bindings) (length bindings) (nat_lt (place name bindings) (length bindings)) refl n (sym e) in
    set-place bindings name value d n is.0 is.1

pub no-position : (bindings : List Binding) (name : List ℕ) (value : Term) → None ≡ position (λ binding. bytes_eq binding.object name) bindings → bindings ≡ rebound name value bindings
no-position bindings name value e = no-place bindings name value (unplaced (place name bindings) (length bindings) (nat_lt (place name bindings) (length bindings)) refl (sym e))

-- the objects keep their places
objects_by : (t : Bool) (b : Binding) (bs : List Binding) (name : List ℕ) (value : Term) → objects (rebound name value bs) ≡ objects bs → objects (cond t (record b { value = value } ∷ bs) (b ∷ rebound name value bs)) ≡ b.object ∷ objects bs
objects_by true b bs name value e = refl
objects_by false b bs name value e = ap (λ (xs : List (List ℕ)). b.object ∷ xs) e

objects-rebound : (bindings : List Binding) (name : List ℕ) (value : Term) → objects (rebound name value bindings) ≡ objects bindings
objects-rebound [] name value = refl
objects-rebound (b ∷ bs) name value = objects_by (bytes_eq b.object name) b bs name value (objects-rebound bs name value)

both_tests : (s s' : Bool) (u v w : Term) → s' ≡ s → cond s' v w ≡ cond s v (cond s' u w)
both_tests true true u v w e = refl
both_tests true false u v w e = cc
both_tests false true u v w e = cc
both_tests false false u v w e = refl

one_test : (s s' : Bool) (u v w x : Term) → (s' ≡ true → s ≡ false) → x ≡ cond s v w → cond s' u x ≡ cond s v (cond s' u w)
one_test true true u v w x apart e = let no : true ≡ false = apart refl in cc
one_test false true u v w x apart e = refl
one_test true false u v w x apart e = e
one_test false false u v w x apart e = e

bound_by : (t : Bool) (b : Binding) (bs : List Binding) (x : List ℕ) (v : Term) (y : List ℕ) → bytes_eq b.object x ≡ t → (t ≡ false → bound_value (rebound x v bs) y ≡ cond (bytes_eq x y) v (bound_value bs y))
    → bound_value (cond t (record b { value = v } ∷ bs) (b ∷ rebound x v bs)) y ≡ cond (bytes_eq x y) v (cond (bytes_eq b.object y) b.value (bound_value bs y))
bound_by true b bs x v y e h = both_tests (bytes_eq x y) (bytes_eq b.object y) b.value v (bound_value bs y) (bytes_eq-along b.object x y e)
bound_by false b bs x v y e h = one_test (bytes_eq x y) (bytes_eq b.object y) b.value v (bound_value bs y) (bound_value (rebound x v bs) y) (λ is. apart_by b.object x y (bytes_eq x y) refl e is) (h refl)

bound-rebound : (bindings : List Binding) (x : List ℕ) (v : Term) (y : List ℕ) → has (objects bindings) x ≡ true → bound_value (rebound x v bindings) y ≡ cond (bytes_eq x y) v (bound_value bindings y)
bound-rebound [] x v y h = cc
bound-rebound (b ∷ bs) x v y h = bound_by (bytes_eq b.object x) b bs x v y refl (λ e. bound-rebound bs x v y (other_true (bytes_eq b.object x) (has (objects bs) x) e h))

-- at entry
entry_by : (t : Bool) (name y : List ℕ) (rest : Term) → bytes_eq name y ≡ t → rest ≡ var y → cond t (var name) rest ≡ var y
entry_by true name y rest e h = ap var (same_name name y e)
entry_by false name y rest e h = h

bound-entry : (names : List (List ℕ)) (y : List ℕ) → bound_value (entry_bindings names) y ≡ var y
bound-entry [] y = refl
bound-entry (name ∷ names) y = entry_by (bytes_eq name y) name y (bound_value (entry_bindings names) y) refl (bound-entry names y)

objects-entry : (names : List (List ℕ)) → objects (entry_bindings names) ≡ names
objects-entry [] = refl
objects-entry (name ∷ names) = ap (λ (xs : List (List ℕ)). name ∷ xs) (objects-entry names)

-- atoms and operands
atom_agrees : (bindings : List Binding) (store : Store) (atom : Atom) → Agrees bindings store → knows_atom (objects bindings) atom ≡ true → bound_atom bindings atom ≡ value_of store atom
atom_agrees bindings store (Name name) agrees known = agrees name known
atom_agrees bindings store (Number value) agrees known = refl

operand_agrees : (bindings : List Binding) (store : Store) (operand : Operand) → Agrees bindings store → knows_operand (objects bindings) operand ≡ true → bound_operand bindings operand ≡ operand_of store operand
operand_agrees bindings store (Plain value) agrees known = atom_agrees bindings store value agrees known
operand_agrees bindings store (Entry name) agrees known = refl

-- statements
statement_agrees : (bindings : List Binding) (store : Store) (statement : Statement) → Agrees bindings store → knows_statement (objects bindings) statement ≡ true → Agrees (after_statement statement bindings) (after statement store)
statement_agrees bindings store Null agrees known = agrees
statement_agrees bindings store (Assign target value) agrees known = λ name is.
    let value_is = atom_agrees bindings store value agrees (and_parts (has (objects bindings) target) (knows_atom (objects bindings) value) known).1 in
    let name_is = agrees name (subst (λ (names : List (List ℕ)). has names name ≡ true) (objects-rebound bindings target (bound_atom bindings value)) is) in
    bound-rebound bindings target (bound_atom bindings value) name (and_parts (has (objects bindings) target) (knows_atom (objects bindings) value) known).0
    ∙ ap (λ (v : Term). cond (bytes_eq target name) v (bound_value bindings name)) value_is
    ∙ ap (λ (w : Term). cond (bytes_eq target name) (value_of store value) w) name_is

objects-statement : (bindings : List Binding) (statement : Statement) → objects (after_statement statement bindings) ≡ objects bindings
objects-statement bindings Null = refl
objects-statement bindings (Assign target value) = objects-rebound bindings target (bound_atom bindings value)

objects-statements : (statements : List Statement) (bindings : List Binding) → objects (after_statements statements bindings) ≡ objects bindings
objects-statements [] bindings = refl
objects-statements (statement ∷ statements) bindings = objects-statements statements (after_statement statement bindings) ∙ objects-statement bindings statement

statements_agree : (statements : List Statement) (bindings : List Binding) (store : Store) → Agrees bindings store → list_all (knows_statement (objects bindings)) statements ≡ true → Agrees (after_statements statements bindings) (after_all statements store)
statements_agree [] bindings store agrees known = agrees
statements_agree (statement ∷ statements) bindings store agrees known =
    let here = (and_parts (knows_statement (objects bindings) statement) (list_all (knows_statement (objects bindings)) statements) known).0 in
    let there = (and_parts (knows_statement (objects bindings) statement) (list_all (knows_statement (objects bindings)) statements) known).1 in
    statements_agree statements (after_statement statement bindings) (after statement store) (statement_agrees bindings store statement agrees here)
    (subst (λ (names : List (List ℕ)). list_all (knows_statement names) statements ≡ true) (sym (objects-statement bindings statement)) there)

-- clauses
conclusions_agree : (bindings : List Binding) (store : Store) (clauses : List Clause) → Agrees bindings store → list_all (knows_clause (objects bindings)) clauses ≡ true → bound_conclusions bindings clauses ≡ conclusions_of store clauses
conclusions_agree bindings store [] agrees known = refl
conclusions_agree bindings store (In left right ∷ clauses) agrees known =
    conclusions_agree bindings store clauses agrees (and_parts (knows_clause (objects bindings) (In left right)) (list_all (knows_clause (objects bindings)) clauses) known).1
conclusions_agree bindings store (Out left right ∷ clauses) agrees known =
    let here = (and_parts (knows_clause (objects bindings) (Out left right)) (list_all (knows_clause (objects bindings)) clauses) known).0 in
    let there = (and_parts (knows_clause (objects bindings) (Out left right)) (list_all (knows_clause (objects bindings)) clauses) known).1 in
    let left_is = operand_agrees bindings store left agrees (and_parts (knows_operand (objects bindings) left) (knows_operand (objects bindings) right) here).0 in
    let right_is = operand_agrees bindings store right agrees (and_parts (knows_operand (objects bindings) left) (knows_operand (objects bindings) right) here).1 in
    ap (λ (l : Term). equal l (bound_operand bindings right) ∷ bound_conclusions bindings clauses) left_is
    ∙ ap (λ (r : Term). equal (operand_of store left) r ∷ bound_conclusions bindings clauses) right_is
    ∙ ap (λ (ts : List Term). equal (operand_of store left) (operand_of store right) ∷ ts) (conclusions_agree bindings store clauses agrees there)

-- the out clauses of a procedure, by its bindings and by its store
conclusions-end : (unit : Procedure) → Meets unit → bound_conclusions (after_statements unit.statements (entry_bindings unit.formals)) unit.clauses ≡ conclusions_of (after_all unit.statements entry_store) unit.clauses
conclusions-end unit meets =
    let names = objects-entry unit.formals in
    let known_statements = subst (λ (xs : List (List ℕ)). list_all (knows_statement xs) unit.statements ≡ true) (sym names) meets.statements_known in
    let known_clauses = subst (λ (xs : List (List ℕ)). list_all (knows_clause xs) unit.clauses ≡ true) (sym (objects-statements unit.statements (entry_bindings unit.formals) ∙ names)) meets.clauses_known in
    conclusions_agree (after_statements unit.statements (entry_bindings unit.formals)) (after_all unit.statements entry_store) unit.clauses
    (statements_agree unit.statements (entry_bindings unit.formals) entry_store (λ name is. bound-entry unit.formals name) known_statements) known_clauses

-- the same, of bindings and clauses that are those of the procedure
pub conclusions_end : (unit : Procedure) (bindings : List Binding) (clauses : List Clause) → Meets unit → bindings ≡ after_statements unit.statements (entry_bindings unit.formals) → clauses ≡ unit.clauses → bound_conclusions bindings clauses ≡ conclusions_of (after_all unit.statements entry_store) unit.clauses
conclusions_end unit bindings clauses meets b c = ap (λ (xs : List Binding). bound_conclusions xs clauses) b ∙ ap (bound_conclusions (after_statements unit.statements (entry_bindings unit.formals))) c ∙ conclusions-end unit meets
