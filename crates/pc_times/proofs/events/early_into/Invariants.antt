use Rattle.pc_times.proofs.TimesLaws.{AreEarlyTo}
use Rattle.pc_times.proofs.events.early_into.Given as goal

abbrev pub invariant-loop-event : goal.invariant-loop-event
invariant-loop-event l = AreEarlyTo l.net l.lengths l.times l.event-items l.event-index
