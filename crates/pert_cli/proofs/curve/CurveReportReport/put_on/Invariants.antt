use Rattle.pert_cli.proofs.curve.CurveReportReport.put_on.Given as goal

abbrev pub ghosts-put_lines : goal.ghosts-put_lines
ghosts-put_lines g a = record { name = a.blank.name; parts = a.blank.parts }
