-- Whether kinds are the same.
use Rattle.std.specs.Prelude.{Bool, List}
use Rattle.std.specs.List.{list_any}
use denote.Enum.Bare.{sameb}
use Rattle.ada_tree.specs.declared.kind.Kind.{Kind}
use Rattle.ada_tree.specs.contracts.kind.Kind as kind_row

abbrev pub is_kind : Kind → Kind → Bool
is_kind a b = sameb kind_row.the_type a b

abbrev pub is_among : Kind → List Kind → Bool
is_among k ks = list_any (is_kind k) ks
