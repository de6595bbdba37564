use Rattle.pc_times.specs.inside.Forecast.{AreFinishes}
use Rattle.pc_times.proofs.forecasts.finishes.Given as goal

abbrev pub invariant-loop-a : goal.invariant-loop-a
invariant-loop-a l = AreFinishes l.net l.lengths l.states l.as_of l.times l.a l.finishes.items
