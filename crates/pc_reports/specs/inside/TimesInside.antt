-- The times that the parts of a report of times hold.
use Rattle.pc_reports.specs.declared.times_report.TimesReport.TheInside.{Inside}
use Rattle.pc_reports.specs.Times.{Times}
use Rattle.pc_reports.specs.inside.Times.{AreSmallTimes}

abbrev pub times_from : Inside → Times
times_from a = record { early = a.longest.times; late = a.late.items; path = a.longest.path }

abbrev pub AreSmallInside : Inside → Type 0
AreSmallInside a = AreSmallTimes (times_from a)
