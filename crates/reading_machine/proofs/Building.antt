-- Values that become the parts of a node.
use Rattle.std.proofs.Common.{◌≡◌, List, [], ◌∷◌, ◌++◌, refl, sym, ◌∙◌, ap, reverse, append-nil}
use Rattle.std.proofs.lemmas.List.{reverse-append}
use Rattle.reading_table.specs.declared.held.Held.{Held}
use Rattle.reading_table.specs.declared.held.Held.TheVariants as held
use Rattle.reading_table.specs.States.{text_in, nodes_in}

text_of_part : (part : Held) (values : List Held) → text_in (part ∷ held.Text (text_in values) ∷ []) ≡ text_in (part ∷ values)
text_of_part (held.Text text) values = refl
text_of_part (held.Comments texts) values = refl
text_of_part (held.Tree node) values = refl

nodes_of_part : (part : Held) (values : List Held) → nodes_in values ++ nodes_in (part ∷ []) ≡ nodes_in (part ∷ values)
nodes_of_part (held.Text text) values = append-nil (nodes_in values)
nodes_of_part (held.Comments texts) values = append-nil (nodes_in values)
nodes_of_part (held.Tree node) values = refl

-- one part more
pub text_further : (parts : List Held) (part : Held) → text_in (part ∷ held.Text (text_in (reverse parts)) ∷ []) ≡ text_in (reverse (parts ++ part ∷ []))
text_further parts part = text_of_part part (reverse parts) ∙ sym (ap text_in (reverse-append parts (part ∷ [])))

pub nodes_further : (parts : List Held) (part : Held) → nodes_in (reverse parts) ++ nodes_in (part ∷ []) ≡ nodes_in (reverse (parts ++ part ∷ []))
nodes_further parts part = nodes_of_part part (reverse parts) ∙ sym (ap nodes_in (reverse-append parts (part ∷ [])))
