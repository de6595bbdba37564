use Rattle.pc_tests.proofs.searches.small_ways.Given as goal

abbrev pub ghosts-ways : goal.ghosts-ways
ghosts-ways a = record { name = a.blank.name; parts = a.blank.parts }
