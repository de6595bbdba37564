use Rattle.pc_tests.proofs.surface.small_is_written_in_parts.Given as goal

abbrev pub ghosts-is_written_in_parts : goal.ghosts-is_written_in_parts
ghosts-is_written_in_parts a = record { name = a.blank.name; parts = a.blank.parts }
