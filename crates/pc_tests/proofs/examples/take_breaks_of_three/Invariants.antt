use Rattle.pc_tests.proofs.examples.take_breaks_of_three.Given as goal

abbrev pub ghosts-take_breaks : goal.ghosts-take_breaks
ghosts-take_breaks a = record { name = a.blank.name; parts = a.blank.parts }
