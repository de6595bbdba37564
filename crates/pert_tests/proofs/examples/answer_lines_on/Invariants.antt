use Rattle.pert_tests.proofs.examples.answer_lines_on.Given as goal

abbrev pub ghosts-answer_lines : goal.ghosts-answer_lines
ghosts-answer_lines a = record { name = a.blank.name; parts = a.blank.parts }
