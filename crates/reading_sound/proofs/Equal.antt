-- What tests of equality tell.
use Rattle.std.proofs.Common.{◌≡◌, List, Bool, true, false, Option, Some, refl, sym, subst}
use Rattle.std.specs.Cmp.Lexicographic.{pointwise}
use denote.Enum.Bare.{sameb, same_true}
use Rattle.base_kit.specs.Sameness.{told as told_code}
use Rattle.ada_tree.specs.contracts.grammar.Choice as choice_row
use Rattle.ada_tree.specs.contracts.word.Mark as mark_row
use Rattle.ada_tree.specs.declared.grammar.Choice.{Choice}
use Rattle.ada_tree.specs.declared.word.Mark.{Mark}
use Rattle.ada_tree.specs.Tokens.{Lexeme}
use Rattle.reading_table.specs.Reading.{is_side}
use Rattle.reading_table.specs.Tables.{Has}
use Rattle.reading_table.proofs.Predictive.{any_has, all_has}
use Rattle.reading_table.proofs.TokenSets.{same_lists}
use Rattle.ada_tree.proofs.evaluator.Ways.{same_lexeme, same_lexeme_is}
use Rattle.reading_sound.proofs.Traces.{same_place, stands_in, covers, if_so}

pub if_so_some : {A : Type 0} (b : Bool) (o : Option A) (a : A) → if_so b o ≡ Some a → (b ≡ true) × (o ≡ Some a)
if_so_some true o a h = (refl, h)
if_so_some false o a h = absurd cc

pub one_side : (a b : Bool) → is_side a b ≡ true → a ≡ b
one_side true true h = refl
one_side false false h = refl
one_side true false h = absurd cc
one_side false true h = absurd cc

pub one_place : (p q : Choice) → same_place p q ≡ true → p ≡ q
one_place p q h = choice_row.the_row.coded.inj p q (told_code (choice_row.the_row.coded.code p) (choice_row.the_row.coded.code q) h)

pub one_mark : (m n : Mark) → sameb mark_row.the_type m n ≡ true → m ≡ n
one_mark m n h = same_true mark_row.the_type tt m n h

pub one_list : (ls ms : List Lexeme) → pointwise same_lexeme ls ms ≡ true → ls ≡ ms
one_list = same_lists same_lexeme same_lexeme_is

-- a place that is among those of a set is in it
pub among : (places : List Choice) (p : Choice) → stands_in places p ≡ true → Has places p
among places p h = let r = any_has (same_place p) places h in subst (Has places) (sym (one_place p r.0 r.2)) r.1

pub covered : (places wanted : List Choice) (p : Choice) → covers places wanted ≡ true → Has wanted p → Has places p
covered places wanted p h m = among places p (all_has (stands_in places) wanted p h m)
