use Rattle.std.proofs.Common.{Some}
use Rattle.ada_tree.specs.Rendering.{file_text}
use Rattle.file_laws.proofs.Beginnings.{first_byte, spelled_file_begins}
use Rattle.file_laws.proofs.laws.file_begins.Goals as goal

pub returns-clause-front : goal.returns-clause-front
returns-clause-front c file has = spelled_file_begins file has.text.reads.reading.spelling

pub returns-clause-read : goal.returns-clause-read
returns-clause-read c file has = first_byte (file_text (Some file)) (returns-clause-front c file has)

pub returns-clause-written_front : goal.returns-clause-written_front
returns-clause-written_front c root file fits i = returns-clause-front c file record { bytes = file_text (Some file); text = c.written_files_are_read_back.ensures.text root file fits i }

pub returns-clause-written : goal.returns-clause-written
returns-clause-written c root file fits i = first_byte (file_text (Some file)) (returns-clause-written_front c root file fits i)
