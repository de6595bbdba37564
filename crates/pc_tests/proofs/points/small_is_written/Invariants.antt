use Rattle.pc_tests.proofs.points.small_is_written.Given as goal

abbrev pub ghosts-is_written : goal.ghosts-is_written
ghosts-is_written a = record { name = a.blank.name; parts = a.blank.parts }
