use Rattle.pc_reports.proofs.times_report.TimesReport.write.Goals as goal

pub returns-clause-text : goal.returns-clause-text
returns-clause-text g c = c.finish.ensures.text _ _ c.without_buffer-page.ensures c.put.ensures
