use Rattle.std.proofs.Common.{◌≡◌, ◌<◌, length, Some}
use Rattle.pc_wbs.specs.Climb.{climb}
use Rattle.pc_wbs.proofs.levels.level_within.Given as goal

abbrev pub invariant-loop-climbed : goal.invariant-loop-climbed
invariant-loop-climbed l =
    (climb l.rows l.climbed l.fn.item ≡ Some l.at) × (l.at < length l.rows)
