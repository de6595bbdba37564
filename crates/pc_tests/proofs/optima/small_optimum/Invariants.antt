use Rattle.pc_tests.proofs.optima.small_optimum.Given as goal

abbrev pub ghosts-optimum : goal.ghosts-optimum
ghosts-optimum a = record { name = a.blank.name; parts = a.blank.parts }
