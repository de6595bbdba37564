use Rattle.pc_tests.proofs.examples.find_the_best_of_three.Given as goal

abbrev pub ghosts-find_the_best : goal.ghosts-find_the_best
ghosts-find_the_best a = record { name = a.blank.name; parts = a.blank.parts }
