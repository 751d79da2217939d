use Rattle.std.proofs.Common.{◌≡◌, ◌∷◌, [], refl, sym, ap, subst, true, Some}
use Rattle.ada_tree.specs.declared.node.Node.{Node}
use Rattle.ada_tree.specs.Rendering.{file_text}
use Rattle.text_read.specs.Files.{file_part, is_small}
use Rattle.text_read.specs.Fragments.{IsText}
use Rattle.text_read.proofs.Once.{text_once}
use Rattle.file_laws.specs.Documents.{document}
use Rattle.file_laws.proofs.Documents.{one_file, its_file}
use Rattle.file_laws.proofs.laws.printed_files_print_alike.Goals as goal

pub returns-clause-node : goal.returns-clause-node
returns-clause-node c root file again fits i reading =
    text_once file_part (file_text (Some file)) again file refl reading (c.written_files_are_read_back.ensures.text root file fits i)

pub returns-clause-bytes : goal.returns-clause-bytes
returns-clause-bytes c root file again fits i reading = ap (λ (node : Node). file_text (Some node)) (returns-clause-node c root file again fits i reading)

pub returns-clause-text : goal.returns-clause-text
returns-clause-text c bytes node again text =
    let fits = c.read_files_make_a_document.ensures (node ∷ []) (one_file bytes node text) in
    let back = c.written_files_are_read_back.ensures.text (document (node ∷ [])) node fits (its_file node) in (
      λ reading. text_once file_part (file_text (Some node)) again node refl reading back,
      λ same. subst (IsText file_part (file_text (Some node))) (sym same) back,
    )

pub returns-clause-file : goal.returns-clause-file
returns-clause-file c bytes node again file =
    let law = returns-clause-text c bytes node again file.text in (
      λ reading. law.0 reading.text,
      λ same. record { text = law.1 same; small = subst (λ (node : Node). is_small node ≡ true) (sym same) file.small },
    )
