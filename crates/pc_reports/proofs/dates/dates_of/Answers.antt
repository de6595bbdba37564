use Rattle.std.proofs.Common.{arith}
use Rattle.pc_reports.proofs.DateLaws.{dates_more, dates_all}
use Rattle.pc_reports.proofs.dates.dates_of.Goals as goal

pub loop-time-preserved : goal.loop-time-preserved
loop-time-preserved c = dates_more _ _ _ _ _ _ c.loop-time.invariant c.in_ok-push.ensures.items c.date_text.ensures.date

pub returns : goal.returns
returns c = dates_all _ _ _ _ c.loop-time.invariant (omega arith)
