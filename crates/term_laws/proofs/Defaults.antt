-- The default that a value's shape shows is that of its sort.
use Rattle.std.proofs.Common.{◌≡◌, ℕ, ℤ, pos, List, [], ◌∷◌, map, length, Bool, true, false, ◌&&◌, eqb, Option, Some, None, refl, sym, ◌∙◌, ap}
use Rattle.std.specs.Prelude.{find}
use Rattle.std.specs.Ordering.{int_eq}
use Rattle.std.specs.Option.{option_map_or}
use Rattle.std.proofs.lemmas.Bool.{and_parts, eqb-true}
use Rattle.std.proofs.lemmas.Bool.Decides.{Decides-int_eq}
use Rattle.term_core.specs.declared.sort.Sort.{Sort}
use Rattle.term_core.specs.declared.sort.Sort.TheOpen.{Sort-F}
use Rattle.term_core.specs.declared.sort.Sort.TheViews.{out-Sort}
use Rattle.term_core.specs.declared.sort.Sort.TheFolds.{fold_out-Sort, map-Sort}
use Rattle.term_core.specs.Sorts.{has_number, has_truth, has_list, has_record, made_of, has_made, lies_in, all_lie_in, lie_in}
use Rattle.term_core.specs.Values.{Value, Values, a_number, a_truth, a_list, a_record, a_made, no_value, more, values, items, how_many, copies, Generator, default_step, made_within, default_of, default_made, default_like, defaults_like}

abbrev layer_default : List Generator → Sort-F Sort → Value
layer_default gs y = default_step (made_within (length gs) gs) (map-Sort Sort Value (default_of gs) y)

opened : (gs : List Generator) (s : Sort) → default_of gs s ≡ layer_default gs (out-Sort s)
opened gs s = fold_out-Sort Value (default_step (made_within (length gs) gs)) s

at_number : (gs : List Generator) (z : ℤ) (y : Sort-F Sort) → has_number z y ≡ true → a_number (pos 0) ≡ layer_default gs y
at_number gs z Sort-F.Whole h = refl
at_number gs z (Sort-F.Range l k) h = refl
at_number gs z Sort-F.Truth h = absurd cc
at_number gs z (Sort-F.Array l k e) h = absurd cc
at_number gs z (Sort-F.Record n ss) h = absurd cc
at_number gs z (Sort-F.Free n) h = absurd cc

at_truth : (gs : List Generator) (y : Sort-F Sort) → has_truth y ≡ true → a_truth false ≡ layer_default gs y
at_truth gs Sort-F.Truth h = refl
at_truth gs Sort-F.Whole h = absurd cc
at_truth gs (Sort-F.Range l k) h = absurd cc
at_truth gs (Sort-F.Array l k e) h = absurd cc
at_truth gs (Sort-F.Record n ss) h = absurd cc
at_truth gs (Sort-F.Free n) h = absurd cc

at_list : (gs : List Generator) (first : ℤ) (vs : Values) (y : Sort-F Sort)
    → ((e : Sort) → all_lie_in gs vs e ≡ true → defaults_like (default_made gs) vs ≡ copies (length (items vs)) (default_of gs e))
    → has_list first (length (items vs)) (λ s. all_lie_in gs vs s) y ≡ true → a_list first (defaults_like (default_made gs) vs) ≡ layer_default gs y
at_list gs first vs (Sort-F.Array l k e) all h =
    let p = and_parts (int_eq first l && eqb (length (items vs)) (how_many l k)) (all_lie_in gs vs e) h in
    let q = and_parts (int_eq first l) (eqb (length (items vs)) (how_many l k)) p.0 in
    let low = (Decides-int_eq first l).0 q.0 in
    let count = eqb-true (length (items vs)) (how_many l k) q.1 in
    let elements = all e p.1 ∙ ap (λ n. copies n (default_of gs e)) count in
    λ i. a_list (low i) (elements i)
at_list gs first vs Sort-F.Whole all h = absurd cc
at_list gs first vs (Sort-F.Range l k) all h = absurd cc
at_list gs first vs Sort-F.Truth all h = absurd cc
at_list gs first vs (Sort-F.Record n ss) all h = absurd cc
at_list gs first vs (Sort-F.Free n) all h = absurd cc

at_record : (gs : List Generator) (vs : Values) (y : Sort-F Sort) → ((ss : List Sort) → lie_in gs vs ss ≡ true → defaults_like (default_made gs) vs ≡ values (map (default_of gs) ss))
    → has_record (λ ss. lie_in gs vs ss) y ≡ true → a_record (defaults_like (default_made gs) vs) ≡ layer_default gs y
at_record gs vs (Sort-F.Record n ss) each h = ap a_record (each ss h)
at_record gs vs Sort-F.Whole each h = absurd cc
at_record gs vs (Sort-F.Range l k) each h = absurd cc
at_record gs vs Sort-F.Truth each h = absurd cc
at_record gs vs (Sort-F.Array l k e) each h = absurd cc
at_record gs vs (Sort-F.Free n) each h = absurd cc

made_default : List Generator → Option Generator → Value
made_default gs o = option_map_or (λ g. made_within (length gs) gs g.sort) o (a_number (pos 0))

by_generator : (gs : List Generator) (o : Option Generator) (n : ℕ) (test : List Sort → Bool) → made_of o n test ≡ true → made_default gs o ≡ made_within (length gs) gs n
unfolding made_default
by_generator gs None n test h = absurd cc
by_generator gs (Some g) n test h = ap (made_within (length gs) gs) (eqb-true g.sort n (and_parts (eqb g.sort n) (test g.parts) h).0)

at_made : (gs : List Generator) (o : Option Generator) (test : List Sort → Bool) (y : Sort-F Sort) → has_made o test y ≡ true → made_default gs o ≡ layer_default gs y
at_made gs o test (Sort-F.Free n) h = by_generator gs o n test h
at_made gs o test Sort-F.Whole h = absurd cc
at_made gs o test (Sort-F.Range l k) h = absurd cc
at_made gs o test Sort-F.Truth h = absurd cc
at_made gs o test (Sort-F.Array l k e) h = absurd cc
at_made gs o test (Sort-F.Record n ss) h = absurd cc

own_made : (gs : List Generator) (g : ℕ) → default_made gs g ≡ made_default gs (find (λ h. eqb h.operator g) gs)
unfolding made_default
own_made gs g = refl

mutual
  pub default-like : (gs : List Generator) (v : Value) (s : Sort) → lies_in gs v s ≡ true → default_like (default_made gs) v ≡ default_of gs s
  default-like gs (a_number z) s h = at_number gs z (out-Sort s) h ∙ sym (opened gs s)
  default-like gs (a_truth b) s h = at_truth gs (out-Sort s) h ∙ sym (opened gs s)
  default-like gs (a_list first vs) s h = at_list gs first vs (out-Sort s) (λ e k. all_like gs vs e k) h ∙ sym (opened gs s)
  default-like gs (a_record vs) s h = at_record gs vs (out-Sort s) (λ ss k. each_like gs vs ss k) h ∙ sym (opened gs s)
  default-like gs (a_made g vs) s h = own_made gs g ∙ (at_made gs (find (λ k. eqb k.operator g) gs) (λ ss. lie_in gs vs ss) (out-Sort s) h ∙ sym (opened gs s))

  all_like : (gs : List Generator) (vs : Values) (e : Sort) → all_lie_in gs vs e ≡ true → defaults_like (default_made gs) vs ≡ copies (length (items vs)) (default_of gs e)
  all_like gs no_value e h = refl
  all_like gs (more v vs) e h = let p = and_parts (lies_in gs v e) (all_lie_in gs vs e) h in let a = default-like gs v e p.0 in let b = all_like gs vs e p.1 in λ i. more (a i) (b i)

  each_like : (gs : List Generator) (vs : Values) (ss : List Sort) → lie_in gs vs ss ≡ true → defaults_like (default_made gs) vs ≡ values (map (default_of gs) ss)
  each_like gs no_value [] h = refl
  each_like gs (more v vs) (s ∷ ss) h = let p = and_parts (lies_in gs v s) (lie_in gs vs ss) h in let a = default-like gs v s p.0 in let b = each_like gs vs ss p.1 in λ i. more (a i) (b i)
  each_like gs no_value (s ∷ ss) h = absurd cc
  each_like gs (more v vs) [] h = absurd cc
