use Rattle.layer_tests.proofs.bases.steps_cost_nothing.Given as goal

abbrev pub ghosts-bytes_of_steps : goal.ghosts-bytes_of_steps
ghosts-bytes_of_steps _ call = record { name = call.blank.name; parts = call.blank.parts }
