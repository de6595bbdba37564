use Rattle.pc_reports.proofs.DateLaws.{AreDatesTo}
use Rattle.pc_reports.proofs.dates.dates_of.Given as goal

abbrev pub invariant-loop-time : goal.invariant-loop-time
invariant-loop-time l = AreDatesTo l.start l.times l.time-index l.dates.items
