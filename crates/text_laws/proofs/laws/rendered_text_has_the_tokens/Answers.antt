use Rattle.text_laws.proofs.rendering.Law.{rendered_has_signs}
use Rattle.text_laws.proofs.laws.rendered_text_has_the_tokens.Goals as goal

pub returns : goal.returns
returns c = rendered_has_signs
