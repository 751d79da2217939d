use Rattle.name_laws.proofs.Parts.{found_visible, last_name}
use Rattle.name_laws.proofs.laws.what_is_found_has_the_last_name.Goals as goal

pub returns : goal.returns
returns c = λ es parts place e is. last_name es place parts e (found_visible es parts place e is)
