use Rattle.pc_tests.proofs.parts.small_is_put_in_parts.Given as goal

abbrev pub ghosts-is_put_in_parts : goal.ghosts-is_put_in_parts
ghosts-is_put_in_parts a = record { name = a.blank.name; parts = a.blank.parts }
