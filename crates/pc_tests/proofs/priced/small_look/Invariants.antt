use Rattle.pc_tests.proofs.priced.small_look.Given as goal

abbrev pub ghosts-is_looked_at : goal.ghosts-is_looked_at
ghosts-is_looked_at a = record { name = a.blank.name; parts = a.blank.parts }
