use Rattle.pc_flow.specs.inside.Paces.{durations_at}
use Rattle.pc_flow.proofs.EarlyTimes.{AreEarlyTo}
use Rattle.pc_flow.proofs.early.keep_early_times.Given as goal

abbrev pub invariant-loop-e : goal.invariant-loop-e
invariant-loop-e l = AreEarlyTo l.net.network (durations_at l.net.terms l.pace) l.e-items l.initial.board l.board l.e-index
