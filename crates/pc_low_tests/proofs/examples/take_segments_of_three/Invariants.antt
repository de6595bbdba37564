use Rattle.pc_low_tests.proofs.examples.take_segments_of_three.Given as goal

abbrev pub ghosts-take_segments : goal.ghosts-take_segments
ghosts-take_segments a = record { name = a.blank.name; parts = a.blank.parts }
