use Rattle.reading_machine.proofs.masses.+take_highest.Given as goal

abbrev pub decreases-take_highest : goal.decreases-take_highest
decreases-take_highest l = l.count
