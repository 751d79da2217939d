use Rattle.text_signs.proofs.Law.{tokens_fit, noted_tokens_fit}
use Rattle.text_signs.proofs.laws.the_tokens_of_texts_fit.Goals as goal

pub returns : goal.returns
returns c = record { texts = tokens_fit; fragments = noted_tokens_fit }
