use Rattle.std.proofs.Common.{◌≡◌, ◌+◌, ◌++◌, ◌∷◌, [], length, rules}
use Rattle.std.specs.Prelude.{bytes_eq, if◌then◌else◌}
use Rattle.ada_names.specs.contracts.table.KeyPartialEq.TheImpl.{eq-value}
use Rattle.ada_names.specs.Entries.{is_at, is_use_in, is_own}
use Rattle.ada_names.specs.Tables.{Numbers, AddsFirst, AddsAll, test_name}
use Rattle.ada_names.proofs.Grown.{grown}
use Rattle.ada_names.proofs.table.Table.with.Goals as goal

pub invariant_of-result : goal.invariant_of-result
invariant_of-result c =
    let more : c.push.new.self.items ≡ c.self.inside.entries.items ++ c.args.entry ∷ [] = search rules in
    let long : c.len-number.result ≡ length c.self.inside.entries.items = search rules in
    let names : AddsFirst (eq-value).it test_name c.self.inside.names c.in_ok-names.names c.args.entry c.len-number.result = search rules in
    let places : AddsFirst (λ (a b : Numbers). bytes_eq a.items b.items) (λ (place : Numbers). is_at place.items) c.self.inside.places c.in_ok-places.places c.args.entry c.len-number.result = search rules in
    let uses : AddsAll (λ (a b : Numbers). bytes_eq a.items b.items) (λ (region : Numbers). is_use_in region.items) c.self.inside.uses c.in_ok-uses.uses c.args.entry c.len-number.result = search rules in
    let numbers : c.in_ok-numbers.numbers ≡ c.self.inside.numbers + (if is_own c.args.entry then 1 else 0) = search rules in
    grown (eq-value).it (λ (a b : Numbers). bytes_eq a.items b.items) c.self.inside.names c.in_ok-names.names c.self.inside.places c.in_ok-places.places c.self.inside.uses c.in_ok-uses.uses c.self.inside.numbers c.in_ok-numbers.numbers c.self.inside.entries.items c.args.entry c.len-number.result long c.push.new.self.items more c.self.invariant names places uses numbers
