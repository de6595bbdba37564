use Rattle.pc_tests.proofs.bench.says_of_four.Given as goal

abbrev pub ghosts-says : goal.ghosts-says
ghosts-says a = record { name = a.blank.name; parts = a.blank.parts }
