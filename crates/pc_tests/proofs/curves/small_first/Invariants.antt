use Rattle.pc_tests.proofs.curves.small_first.Given as goal

abbrev pub ghosts-first : goal.ghosts-first
ghosts-first a = record { name = a.blank.name; parts = a.blank.parts }
