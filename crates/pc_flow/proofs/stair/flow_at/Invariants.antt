use Rattle.std.proofs.Common.{◌≡◌, ◌-◌}
use Rattle.pc_laws.specs.Stair.{reach}
use Rattle.pc_flow.specs.inside.stair.Rows.{stair}
use Rattle.pc_flow.proofs.stair.flow_at.Given as goal

abbrev pub invariant-loop-knee : goal.invariant-loop-knee
invariant-loop-knee l = l.rest ≡ l.flow - reach (stair l.knees 0) l.knee-index
