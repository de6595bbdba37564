use Rattle.pc_times.specs.inside.Forecast.{finish_at}
use Rattle.pc_times.proofs.GreatestLaws.{IsGreatestOf}
use Rattle.pc_times.proofs.forecasts.last_finish.Given as goal

abbrev pub invariant-loop-a : goal.invariant-loop-a
invariant-loop-a l = IsGreatestOf (finish_at l.net l.lengths l.states l.as_of l.times) l.a-items l.a-index l.last
