use Rattle.pc_tests.proofs.examples.read_a_point_of_three.Given as goal

abbrev pub ghosts-read_a_point : goal.ghosts-read_a_point
ghosts-read_a_point a = record { name = a.blank.name; parts = a.blank.parts }
