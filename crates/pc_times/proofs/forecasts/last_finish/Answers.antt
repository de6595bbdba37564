use Rattle.std.proofs.Common.{arith}
use Rattle.pc_model.proofs.Walks.PlaceLaws.{ord_max-nat}
use Rattle.pc_times.proofs.ForecastLaws.{last_of_greatest}
use Rattle.pc_times.proofs.GreatestLaws.{greatest_more, greatest_all}
use Rattle.pc_times.proofs.forecasts.last_finish.Goals as goal

pub loop-a-preserved : goal.loop-a-preserved
loop-a-preserved c =
    rw (c.max-last.ensures, ord_max-nat) (greatest_more _ _ _ _ _ c.loop-a.invariant c.finish_at.ensures)

pub returns : goal.returns
returns c =
    last_of_greatest _ _ _ _ c.requires.sound c.requires.event
    (greatest_all _ _ _ c.in_arcs-a-items.result.now c.loop-a.a-index _ c.in_arcs-a-items.ensures.listed (omega arith) c.loop-a.invariant)
