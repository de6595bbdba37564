use Rattle.pc_reports.proofs.times_report.write_times.Goals as goal

pub returns : goal.returns
returns g c = c.push_out.ensures.text _ _ c.without_buffer-page.ensures c.put_times.ensures
