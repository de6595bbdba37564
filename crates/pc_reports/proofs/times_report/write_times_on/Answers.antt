use Rattle.pc_reports.proofs.times_report.write_times_on.Goals as goal

pub returns-clause-text : goal.returns-clause-text
returns-clause-text g c = c.finish.ensures.text _ _ c.requires.fresh c.put_times.ensures
