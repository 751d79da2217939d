-- What a name sees.
use Rattle.std.specs.Prelude.{◌≡◌, ℕ, List, [], ◌∷◌, Result, Ok, Err, if◌then◌else◌}
use Rattle.base_kit.specs.declared.fault.Code.{Code}
use Rattle.base_kit.specs.declared.fault.Code.TheVariants as code
use Rattle.base_kit.specs.declared.fault.Place.TheVariants.{At}
use Rattle.base_kit.specs.declared.fault.Fault.{Fault}
use Rattle.base_kit.specs.declared.fault.Stop.{Stop}
use Rattle.base_kit.specs.declared.fault.Stop.TheVariants as stop
use Rattle.ada_tree.specs.declared.doc.DeclId.{DeclId}
use Rattle.ada_tree.specs.declared.kind.Kind.{Kind}
use Rattle.ada_tree.specs.declared.kind.Kind.TheVariants as kind
use Rattle.ada_tree.specs.declared.node.Node.{Node}
use Rattle.ada_tree.specs.Kinds.{is_kind}
use Rattle.ada_tree.specs.Nodes.{kind_of, text_of, kids_of}

-- one declaration; none; or those of two packages that are used, and no other
pub data Sight : Type 0 where
  declared : DeclId → Sight
  nothing : Sight
  two : Sight

abbrev pub fault : Code → List ℕ → Fault
fault c path = record { code = c; place = At path; count = 0 }

-- The answer to a name at a path. Want of memory is free.
abbrev pub Answers : Sight → List ℕ → Result DeclId Stop → Type 0
Answers (declared id) path (Ok found) = found ≡ id
Answers nothing path (Ok found) = ⊥
Answers two path (Ok found) = ⊥
Answers (declared id) path (Err (stop.Fault f)) = ⊥
Answers nothing path (Err (stop.Fault f)) = f ≡ fault code.F05 path
Answers two path (Err (stop.Fault f)) = f ≡ fault code.F07 path
Answers sight path (Err stop.Memory) = Unit {0}

-- the parts of a name, or of a name selected from one; none of any other node
abbrev pub parts_of : Node → List (List ℕ)
parts_of node = by (kind_of node) (kids_of node)
  where
    by : Kind → List Node → List (List ℕ)
    by kind.Name kids = text_of node ∷ []
    by kind.Select (prefix ∷ []) = if is_kind (kind_of prefix) kind.Name then text_of prefix ∷ text_of node ∷ [] else []
    by _ _ = []
