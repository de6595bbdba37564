use Rattle.std.proofs.Common.{◌≡◌, ◌≤◌}
use Rattle.pc_laws.specs.Stair.{reach}
use Rattle.pc_flow.specs.inside.stair.Rows.{stair}
use Rattle.pc_flow.proofs.stair.piece_of.Given as goal

abbrev pub invariant-loop-knee : goal.invariant-loop-knee
invariant-loop-knee l = (l.below ≡ reach (stair l.knees l.crash) l.knee-index) × (l.below ≤ l.unit)
