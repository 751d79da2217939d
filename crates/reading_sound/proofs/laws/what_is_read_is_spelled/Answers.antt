use Rattle.reading_sound.proofs.Law.{read_is_spelled}
use Rattle.reading_sound.proofs.laws.what_is_read_is_spelled.Goals as goal

pub returns : goal.returns
returns c = record { read_is_spelled = read_is_spelled }
