use Rattle.layer_tests.proofs.attributes.edited.Given as goal

abbrev pub ghosts-edited_by : goal.ghosts-edited_by
ghosts-edited_by a = record { name = a.blank.name; parts = a.blank.parts }
