-- Which one of some parts a text may be of is told by its first word.
use Rattle.std.specs.Prelude.{Option, Some}
use Rattle.ada_tree.specs.declared.part.Part.{Part}
use Rattle.ada_tree.specs.declared.word.Word.{Word}
use Rattle.ada_tree.specs.declared.word.Word.TheVariants as word
use Rattle.text_read.specs.declared.parts.TheConstants.{WHERE, BASED, VIEW, INVARIANT, ASSERT, PROOF, ORPHAN}

-- where no text of any of them begins so, it may be any
abbrev pub note_told : Option Word → Part
note_told (Some word.Where) = WHERE
note_told (Some word.Based) = BASED
note_told (Some word.View) = VIEW
note_told (Some word.Invariant) = INVARIANT
note_told _ = ASSERT

abbrev pub proof_told : Option Word → Part
proof_told (Some word.Orphan) = ORPHAN
proof_told _ = PROOF
