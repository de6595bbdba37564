use Rattle.pc_whatif.proofs.session.SessionAnswers.reply.Given as goal

abbrev pub ghosts-counted : goal.ghosts-counted
ghosts-counted g a = record { name = a.blank.name; parts = a.blank.parts }
