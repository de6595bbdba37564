use Rattle.pc_reports.proofs.OutlookLaws.{AreCostsTo}
use Rattle.pc_reports.proofs.outlook_report.costs_in.Given as goal

abbrev pub invariant-loop-a : goal.invariant-loop-a
invariant-loop-a l = AreCostsTo l.net l.durations l.a l.costs.items
