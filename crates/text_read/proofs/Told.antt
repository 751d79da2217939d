-- The first word of a text tells which one of the parts it is of.
use Rattle.std.proofs.Common.{arith, ◌≡◌, zero, suc, List, refl, ap, subst, true, false, Option, Some}
use Rattle.std.specs.Prelude.{Contains}
use Rattle.ada_tree.specs.declared.kind.Kind.TheVariants as kind
use Rattle.ada_tree.specs.declared.node.Node.{Node}
use Rattle.ada_tree.specs.declared.part.Part.{Part}
use Rattle.ada_tree.specs.declared.word.Word.{Word}
use Rattle.ada_tree.specs.declared.word.Word.TheVariants as word
use Rattle.ada_tree.specs.Tokens.{Sign}
use Rattle.reading_exact.specs.Whole.{GrammarReads, whole_start}
use Rattle.reading_machine.specs.Machines.{may_end}
use Rattle.reading_table.specs.Spelled.{has_texts}
use Rattle.text_read.specs.declared.parts.TheConstants.{WHERE, BASED, VIEW, INVARIANT, ASSERT, PROOF, ORPHAN, NOTES, PROOFS}
use Rattle.text_read.specs.FirstWords.{first_word}
use Rattle.text_read.specs.Told.{note_told, proof_told}
use Rattle.text_read.proofs.Begins.{begins_with}

-- parts of which each has texts, and is told from the others by the first word of a text
pub record Tells (parts : List Part) (tell : Option Word → Part) : Type 0 where
  pub among : (w : Option Word) → Contains parts (tell w)
  pub texts : (part : Part) → Contains parts part → has_texts part ≡ true
  pub some : (part : Part) → Contains parts part → may_end (whole_start part) ≡ false
  pub told : (part : Part) (signs : List Sign) (node : Node) → Contains parts part → GrammarReads part signs node → tell (first_word signs) ≡ part

note_among : (w : Option Word) → Contains NOTES (note_told w)
note_among (Some word.Where) = (0, omega arith, refl)
note_among (Some word.Based) = (1, omega arith, refl)
note_among (Some word.View) = (2, omega arith, refl)
note_among (Some word.Invariant) = (3, omega arith, refl)
note_among _ = (4, omega arith, refl)

note_texts : (part : Part) → Contains NOTES part → has_texts part ≡ true
note_texts part (zero, l, e) = subst (λ part. has_texts part ≡ true) e refl
note_texts part (suc zero, l, e) = subst (λ part. has_texts part ≡ true) e refl
note_texts part (suc (suc zero), l, e) = subst (λ part. has_texts part ≡ true) e refl
note_texts part (suc (suc (suc zero)), l, e) = subst (λ part. has_texts part ≡ true) e refl
note_texts part (suc (suc (suc (suc zero))), l, e) = subst (λ part. has_texts part ≡ true) e refl
note_texts part (suc (suc (suc (suc (suc k)))), l, e) = absurd (omega (arith, l))

note_some : (part : Part) → Contains NOTES part → may_end (whole_start part) ≡ false
note_some part (zero, l, e) = subst (λ part. may_end (whole_start part) ≡ false) e refl
note_some part (suc zero, l, e) = subst (λ part. may_end (whole_start part) ≡ false) e refl
note_some part (suc (suc zero), l, e) = subst (λ part. may_end (whole_start part) ≡ false) e refl
note_some part (suc (suc (suc zero)), l, e) = subst (λ part. may_end (whole_start part) ≡ false) e refl
note_some part (suc (suc (suc (suc zero))), l, e) = subst (λ part. may_end (whole_start part) ≡ false) e refl
note_some part (suc (suc (suc (suc (suc k)))), l, e) = absurd (omega (arith, l))

abbrev IsTold : (Option Word → Part) → Part → Type 0
IsTold tell part = (signs : List Sign) (node : Node) → GrammarReads part signs node → tell (first_word signs) ≡ part

where_told : IsTold note_told WHERE
where_told signs node reads = ap note_told (begins_with kind.Where WHERE.note word.Where _ signs node (λ text. refl) reads)

based_told : IsTold note_told BASED
based_told signs node reads = ap note_told (begins_with kind.Based BASED.note word.Based _ signs node (λ text. refl) reads)

view_told : IsTold note_told VIEW
view_told signs node reads = ap note_told (begins_with kind.View VIEW.note word.View _ signs node (λ text. refl) reads)

invariant_told : IsTold note_told INVARIANT
invariant_told signs node reads = ap note_told (begins_with kind.Invariant INVARIANT.note word.Invariant _ signs node (λ text. refl) reads)

assert_told : IsTold note_told ASSERT
assert_told signs node reads = ap note_told (begins_with kind.Assert ASSERT.note word.Assert _ signs node (λ text. refl) reads)

proof_is_told : IsTold proof_told PROOF
proof_is_told signs node reads = ap proof_told (begins_with kind.Proof PROOF.note word.Proof _ signs node (λ text. refl) reads)

orphan_told : IsTold proof_told ORPHAN
orphan_told signs node reads = ap proof_told (begins_with kind.Orphan ORPHAN.note word.Orphan _ signs node (λ text. refl) reads)

note_is : (part : Part) → Contains NOTES part → IsTold note_told part
note_is part (zero, l, e) = subst (IsTold note_told) e where_told
note_is part (suc zero, l, e) = subst (IsTold note_told) e based_told
note_is part (suc (suc zero), l, e) = subst (IsTold note_told) e view_told
note_is part (suc (suc (suc zero)), l, e) = subst (IsTold note_told) e invariant_told
note_is part (suc (suc (suc (suc zero))), l, e) = subst (IsTold note_told) e assert_told
note_is part (suc (suc (suc (suc (suc k)))), l, e) = absurd (omega (arith, l))

pub notes_tell : Tells NOTES note_told
notes_tell = record { among = note_among; texts = note_texts; some = note_some; told = λ part signs node c reads. note_is part c signs node reads }

proof_among : (w : Option Word) → Contains PROOFS (proof_told w)
proof_among (Some word.Orphan) = (1, omega arith, refl)
proof_among _ = (0, omega arith, refl)

proof_texts : (part : Part) → Contains PROOFS part → has_texts part ≡ true
proof_texts part (zero, l, e) = subst (λ part. has_texts part ≡ true) e refl
proof_texts part (suc zero, l, e) = subst (λ part. has_texts part ≡ true) e refl
proof_texts part (suc (suc k), l, e) = absurd (omega (arith, l))

proof_some : (part : Part) → Contains PROOFS part → may_end (whole_start part) ≡ false
proof_some part (zero, l, e) = subst (λ part. may_end (whole_start part) ≡ false) e refl
proof_some part (suc zero, l, e) = subst (λ part. may_end (whole_start part) ≡ false) e refl
proof_some part (suc (suc k), l, e) = absurd (omega (arith, l))

proof_is : (part : Part) → Contains PROOFS part → IsTold proof_told part
proof_is part (zero, l, e) = subst (IsTold proof_told) e proof_is_told
proof_is part (suc zero, l, e) = subst (IsTold proof_told) e orphan_told
proof_is part (suc (suc k), l, e) = absurd (omega (arith, l))

pub proofs_tell : Tells PROOFS proof_told
proofs_tell = record { among = proof_among; texts = proof_texts; some = proof_some; told = λ part signs node c reads. proof_is part c signs node reads }
