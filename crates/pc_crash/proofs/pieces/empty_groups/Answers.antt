use Rattle.pc_crash.proofs.GroupLaws.{AreGroups-push}
use Rattle.pc_crash.proofs.pieces.empty_groups.Goals as goal

pub loop-preserved : goal.loop-preserved
loop-preserved c = rw (c.in_ok-push.ensures.items) (AreGroups-push _ _ _ c.loop.invariant c.new.ensures)
