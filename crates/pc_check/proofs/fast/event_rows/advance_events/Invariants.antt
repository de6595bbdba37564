use Rattle.std.proofs.Common.{length}
use Rattle.pc_check.proofs.lemmas.fast.AlongLaws.{IsAlong}
use Rattle.pc_check.proofs.fast.event_rows.advance_events.Given as goal

abbrev pub invariant-loop-ends : goal.invariant-loop-ends
invariant-loop-ends l = IsAlong l.net l.piece l.rest l.reader l.initial.kept l.kept l.place l.count

abbrev pub decreases-loop-ends : goal.decreases-loop-ends
decreases-loop-ends l = length l.rest
