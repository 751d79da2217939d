-- Keys: how a proof names what it proves, within a unit or a lemma.
use Rattle.base_kit.specs.Bytes.{dot}
use Rattle.std.specs.Prelude.{ℕ, List, [], ◌∷◌, ◌++◌, decimal}
use Rattle.term_core.specs.declared.obligation.Obligation.{Obligation}

-- the cut's label, a dot and the ordinal, as `entry.1`; empty where both are, as for a lemma
abbrev pub key_from : List ℕ → ℕ → List ℕ
key_from [] ℕ.zero = []
key_from cut ordinal = cut ++ dot ∷ decimal ordinal

abbrev pub key_of : Obligation → List ℕ
key_of obligation = key_from obligation.cut obligation.ordinal
