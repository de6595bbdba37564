use Rattle.pc_tests.proofs.curves.curve.Given as goal

abbrev pub ghosts-segments : goal.ghosts-segments
ghosts-segments a = record { name = a.blank.name; parts = a.blank.parts }
