-- What a line is unfolded to, by its first symbol.
use Rattle.std.proofs.Common.{◌≡◌, List, [], ◌∷◌, ◌++◌, refl, Bool, true, false, ◌&&◌, Option, Some, None, append-nil, sym, ap}
use Rattle.reading_table.specs.Machine.{after, both, lead}
use Rattle.reading_table.specs.Reading.{view_in, is_side}
use Rattle.reading_table.specs.declared.symbol.Symbol.{Symbol}
use Rattle.reading_table.specs.declared.symbol.Tokens.{Tokens}
use Rattle.reading_table.specs.Rows.{Part, Placed, silence}
use Rattle.reading_table.specs.States.{Token, is_of, set_of}
use Rattle.reading_table.specs.Tables.{token, done, part}
use Rattle.reading_table.specs.Weighed.{weighed_table}

module _ (enter : Part → Token → Option (List Placed)) (t : Token) (note : Bool) (s : Symbol) (rest : List Placed) where
  abbrev led : Option (List Placed)
  led = lead weighed_table enter t ((note, s) ∷ rest)

  pub leads_token : (set : Tokens) → view_in note s ≡ token → set_of s ≡ set → (is_side note t.note && is_of set t.lexeme) ≡ true → led ≡ both (Some ((note, s) ∷ rest)) (Some [])
  leads_token set v e h = rw (v, e, h) (ap Some (sym (append-nil ((note, s) ∷ rest))))

  pub leads_no_token : (set : Tokens) → view_in note s ≡ token → set_of s ≡ set → (is_side note t.note && is_of set t.lexeme) ≡ false → led ≡ None
  leads_no_token set v e h = rw (v, e, h) refl

  pub leads_quiet : view_in note s ≡ done → led ≡ both (Some ((note, s) ∷ [])) (lead weighed_table enter t rest)
  leads_quiet v = rw v (by_rest (lead weighed_table enter t rest))
    where
      by_rest : (o : Option (List Placed)) → after (note, s) o ≡ both (Some ((note, s) ∷ [])) o
      by_rest None = refl
      by_rest (Some line) = refl

  pub leads_part : (p : Part) (line : List Placed) → view_in note s ≡ part p → enter p t ≡ Some line → led ≡ Some (line ++ rest)
  leads_part p line v e = rw (v, e) refl

  pub leads_behind : (p : Part) (quiet : List Placed) → view_in note s ≡ part p → enter p t ≡ None → silence p ≡ Some quiet → led ≡ both (Some quiet) (lead weighed_table enter t rest)
  leads_behind p quiet v e h = rw (v, e, h) refl

  pub leads_nowhere : (p : Part) → view_in note s ≡ part p → enter p t ≡ None → silence p ≡ None → led ≡ None
  leads_nowhere p v e h = rw (v, e, h) refl
