use Rattle.std.proofs.Common.{◌≤◌, length}
use Rattle.pc_check.specs.inside.fast.Rows.{across_at}
use Rattle.pc_check.proofs.lemmas.fast.AlongLaws.{IsAlong}
use Rattle.pc_check.proofs.fast.act_rows.advance_acts.Given as goal

abbrev pub invariant-loop-same-2 : goal.invariant-loop-same-2
invariant-loop-same-2 l = IsAlong l.net l.piece l.rest l.reader l.kept (across_at l.kept l.a l.cut) l.place l.count × (length l.rest ≤ length l.initial.rest)

abbrev pub decreases-loop-same-2 : goal.decreases-loop-same-2
decreases-loop-same-2 l = length l.rest

abbrev pub invariant-loop-same : goal.invariant-loop-same
invariant-loop-same l = IsAlong l.net l.piece l.rest l.reader l.kept (across_at l.kept l.a l.cut) l.place l.count

abbrev pub decreases-loop-same : goal.decreases-loop-same
decreases-loop-same l = length l.rest
