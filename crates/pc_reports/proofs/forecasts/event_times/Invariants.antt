use Rattle.std.proofs.Common.{◌≡◌, take}
use Rattle.pc_reports.proofs.forecasts.event_times.Given as goal

abbrev pub invariant-loop-e : goal.invariant-loop-e
invariant-loop-e l = l.times.items ≡ take l.e l.expected.times
