use Rattle.text_laws.proofs.round_trip.Whole.{canonical_is_read}
use Rattle.text_laws.proofs.laws.canonical_text_is_read.Goals as goal

pub returns : goal.returns
returns c = canonical_is_read
