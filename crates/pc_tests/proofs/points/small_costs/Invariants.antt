use Rattle.pc_tests.proofs.points.small_costs.Given as goal

abbrev pub ghosts-costs : goal.ghosts-costs
ghosts-costs a = record { name = a.blank.name; parts = a.blank.parts }
