-- What is known of how parts are read holds for each token that looks so.
use Rattle.std.proofs.Common.{◌≡◌, ℕ, zero, suc, List, [], ◌∷◌, refl, sym, ◌∙◌, ap, subst, Bool, Option, Some, None, option_map, map}
use Rattle.std.specs.Char.{to_ascii_lowercase}
use Rattle.std.specs.Option.{option_map_or}
use Rattle.std.specs.Prelude.{slice_get}
use Rattle.std.proofs.Math.ListN.{set}
use Rattle.std.specs.Borrow.{Bor}
use denote.Enum.Bare.{sameb, tag_one}
use Rattle.std.specs.Cmp.Lexicographic.{pointwise}
use Rattle.ada_tree.specs.Rules.{rule_of, rule_arguments}
use Rattle.ada_tree.specs.Tokens.{Lexeme, a_name, a_number, a_word, a_mark}
use Rattle.ada_tree.specs.contracts.grammar.Argument as argument_row
use Rattle.reading_machine.proofs.Alike.{enter_same}
use Rattle.reading_machine.specs.declared.ways.Way.{Way}
use Rattle.reading_machine.specs.declared.ways.Way.TheVariants as way
use Rattle.reading_machine.specs.Sights.{class_of, sight_of}
use Rattle.reading_machine.specs.declared.sight.Sight.{Sight}
use Rattle.reading_machine.specs.declared.ways.Slot.{Slot}
use Rattle.reading_machine.specs.declared.ways.Sought.{Sought}
use Rattle.reading_machine.specs.Ways.{either_way, way_at, IsWay, IsKnown}
use Rattle.reading_machine.specs.Finds.{IsFound, IsFoundFor}
use Rattle.reading_table.specs.contracts.rule.Rule.{the_type}
use denote.Enum.Declared.{tag_of}
use Rattle.reading_table.specs.declared.rule.Rule.{Rule}
use Rattle.reading_table.specs.declared.symbol.Tokens.{Tokens}
use Rattle.reading_table.specs.declared.symbol.Tokens.TheVariants as tokens
use Rattle.reading_table.specs.Machine.{enter}
use Rattle.reading_table.specs.Reading.{reading_table, deepest}
use Rattle.reading_table.specs.Rows.{Line, Placed, placed, side_in, silence}
use Rattle.reading_table.specs.States.{Token, is_of, set_of}
use Rattle.reading_table.specs.TokenSets.{arguments_in, has_name}
use Rattle.reading_table.specs.Weighed.{weighed_table}

has_same : (set : Tokens) (a b : List ℕ) → rule_of (map to_ascii_lowercase a) ≡ rule_of (map to_ascii_lowercase b) → has_name set a ≡ has_name set b
has_same (tokens.NameOf form) a b h = ap (λ o. pointwise (sameb argument_row.the_type) (option_map_or rule_arguments o []) (arguments_in form)) h
has_same tokens.Name a b h = refl
has_same (tokens.Word w) a b h = refl
has_same (tokens.Mark m) a b h = refl
has_same tokens.Number a b h = refl
has_same tokens.Relational a b h = refl
has_same tokens.Adding a b h = refl
has_same tokens.Multiplying a b h = refl
has_same tokens.Highest a b h = refl
has_same tokens.Maker a b h = refl

-- texts of one class are of the same sets
of_class : (set : Tokens) (a b : Lexeme) → class_of a ≡ class_of b → is_of set a ≡ is_of set b
of_class set (a_name a) (a_name b) h = has_same set a b cc
of_class set (a_number a) (a_number b) h = refl
of_class set (a_word a) (a_word b) h = let z : a ≡ b = cc in ap (λ w. is_of set (a_word w)) z
of_class set (a_mark a) (a_mark b) h = let z : a ≡ b = cc in ap (λ m. is_of set (a_mark m)) z
of_class set (a_name a) (a_number b) h = absurd cc
of_class set (a_name a) (a_word b) h = absurd cc
of_class set (a_name a) (a_mark b) h = absurd cc
of_class set (a_number a) (a_name b) h = absurd cc
of_class set (a_number a) (a_word b) h = absurd cc
of_class set (a_number a) (a_mark b) h = absurd cc
of_class set (a_word a) (a_name b) h = absurd cc
of_class set (a_word a) (a_number b) h = absurd cc
of_class set (a_word a) (a_mark b) h = absurd cc
of_class set (a_mark a) (a_name b) h = absurd cc
of_class set (a_mark a) (a_number b) h = absurd cc
of_class set (a_mark a) (a_word b) h = absurd cc

may_same : (t u : Token) → sight_of t ≡ sight_of u → (s : Placed) → reading_table.may s t ≡ reading_table.may s u
may_same t u h s =
    let n : t.note ≡ u.note = ap (λ g. g.note) h in
    let c : class_of t.lexeme ≡ class_of u.lexeme = ap (λ g. g.class) h in
    rw (n, of_class (set_of s.1) t.lexeme u.lexeme c) refl

-- the way for one token is that for another one that looks so
way_same : (note : Bool) (r : Rule) (t u : Token) → sight_of t ≡ sight_of u → way_at note r t ≡ way_at note r u
unfolding way_at
way_same note r t u h = ap (λ o. either_way o (silence (side_in note r, r))) (enter_same t u (may_same t u h) deepest (side_in note r, r))

-- what is found for one token is known for all that look so
pub found_known : (note : Bool) (r : Rule) (t : Token) (w : Way) (sight : Sight) → IsWay note r t w → sight ≡ sight_of t → IsKnown (Some record { note = note; rule = r; sight = sight }) w
found_known note r t w sight h z s e u k =
    let q : record { note = note; rule = r; sight = sight } ≡ s = cc in
    subst (λ (s : Sought). IsWay s.note s.rule u w) q (h ∙ way_same note r t u (sym z ∙ ap (λ (s : Sought). s.sight) q ∙ sym k))

pub nothing_known : (w : Way) → IsKnown None w
nothing_known w s e t k = absurd cc

-- what is known of what is sought is found there
pub known_found : (slots : List Slot) (n : ℕ) (slot : Slot) (s : Sought) → slice_get slots n ≡ Some slot → slot.sought ≡ Some s → IsFoundFor s n slots
known_found slots n slot s g e t k other h = let z : slot ≡ other = cc in subst (λ (x : Slot). IsWay s.note s.rule t x.way) z (slot.right s e t k)

none_there : (n : ℕ) (slot : Slot) → slice_get {X = Slot} [] n ≡ Some slot → ⊥
none_there zero slot h = cc
none_there (suc n) slot h = cc

pub set_found : (note : Bool) (r : Rule) (t : Token) (slots : List Slot) (n : ℕ) (slot : Slot) → IsWay note r t slot.way → IsFound note r t n (set slots n slot)
set_found note r t [] n slot h other g = absurd (none_there n other g)
set_found note r t (x ∷ slots) zero slot h other g = let z : slot ≡ other = cc in subst (λ (x : Slot). IsWay note r t x.way) z h
set_found note r t (x ∷ slots) (suc n) slot h other g = set_found note r t slots n slot h other g

pub same_sought : (a b : Sought) → tag_of the_type a.rule ≡ tag_of the_type b.rule → a.note ≡ b.note → a.sight ≡ b.sight → a ≡ b
same_sought a b r n g = let z : a.rule ≡ b.rule = tag_one the_type tt a.rule b.rule r in rw (z, n, g) refl

-- ---- what a way says

module _ (note : Bool) (r : Rule) (t : Token) where
  abbrev entered : Option (List Placed)
  entered = enter weighed_table deepest (side_in note r, r) t

  abbrev quiet : Option (List Placed)
  quiet = silence (side_in note r, r)

  either : way_at note r t ≡ either_way entered quiet
  unfolding way_at
  either = refl

  pub line_entered : (line : List Placed) → IsWay note r t (way.Line line) → entered ≡ Some line
  line_entered line h = by entered (h ∙ either)
    where
      by : (o : Option (List Placed)) → (Some line, None) ≡ either_way o quiet → o ≡ Some line
      by (Some l) h = sym (ap (λ (pair : Option (List Placed) × Option (List Placed)). pair.0) h)
      by None h = absurd (let z : Some line ≡ None = ap (λ (pair : Option (List Placed) × Option (List Placed)). pair.0) h in cc)

  none_entered : (q : Option (List Placed)) → (None, q) ≡ either_way entered quiet → (entered ≡ None) × (quiet ≡ q)
  none_entered q h = by entered h
    where
      by : (o : Option (List Placed)) → (None, q) ≡ either_way o quiet → (o ≡ None) × (quiet ≡ q)
      by (Some l) h = absurd (let z : None ≡ Some l = ap (λ (pair : Option (List Placed) × Option (List Placed)). pair.0) h in cc)
      by None h = (refl, sym (ap (λ (pair : Option (List Placed) × Option (List Placed)). pair.1) h))

  pub silent_entered : (line : Bor Line) → IsWay note r t (way.Silent line) → (entered ≡ None) × (quiet ≡ Some (placed (side_in note r) line.now))
  silent_entered line h = none_entered (Some (placed (side_in note r) line.now)) (h ∙ either)

  pub refused_entered : IsWay note r t way.Refused → (entered ≡ None) × (quiet ≡ None)
  refused_entered h = none_entered None (h ∙ either)

  -- what is found is a way
  pub line_way : (o : Option (List Placed)) (line : List Placed) → o ≡ entered → o ≡ Some line → IsWay note r t (way.Line line)
  line_way o line e h = ap (λ o. either_way o quiet) (sym h ∙ e) ∙ sym either

  pub silent_way : (o : Option (List Placed)) (q : Option (Bor Line)) (line : Bor Line) → o ≡ entered → o ≡ None → option_map (λ line. placed (side_in note r) line.now) q ≡ quiet → q ≡ Some line
      → IsWay note r t (way.Silent line)
  silent_way o q line e h g k = ap (λ q. (None, q)) (sym (ap (λ q. option_map (λ line. placed (side_in note r) line.now) q) k) ∙ g) ∙ ap (λ o. either_way o quiet) (sym h ∙ e) ∙ sym either

  pub refused_way : (o : Option (List Placed)) (q : Option (Bor Line)) → o ≡ entered → o ≡ None → option_map (λ line. placed (side_in note r) line.now) q ≡ quiet → q ≡ None → IsWay note r t way.Refused
  refused_way o q e h g k = ap (λ q. (None, q)) (sym (ap (λ q. option_map (λ line. placed (side_in note r) line.now) q) k) ∙ g) ∙ ap (λ o. either_way o quiet) (sym h ∙ e) ∙ sym either
