use Rattle.std.proofs.Common.{rules, ◌≡◌, true}
use denote.Enum.Bare.{sameb, same_true}
use Rattle.ada_tree.specs.contracts.word.Word as word_row
use Rattle.reading_machine.proofs.sight.Class.is.Goals as goal

pub returns-in-Word-Word : goal.returns-in-Word-Word
returns-in-Word-Word c = λ h.
    let told : sameb word_row.the_type c.in-Word-Word.own c.in-Word-Word.word ≡ true = search (rules, h) in
    let same : c.in-Word-Word.own ≡ c.in-Word-Word.word = same_true word_row.the_type tt c.in-Word-Word.own c.in-Word-Word.word told in
    search (rules, same)
