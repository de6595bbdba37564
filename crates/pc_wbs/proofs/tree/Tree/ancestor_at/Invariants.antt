use Rattle.std.proofs.Common.{◌≡◌, ◌-◌, ◌<◌, length}
use Rattle.pc_wbs.specs.Climb.{HasLevel, IsBelow}
use Rattle.pc_wbs.proofs.tree.Tree.ancestor_at.Given as goal

abbrev pub invariant-loop-step : goal.invariant-loop-step
invariant-loop-step l =
    HasLevel l.self l.at (l.own - (l._step - l.level)) × IsBelow l.self l.i l.at × (l.at < length l.self) × (l.own < l.level → l._step ≡ l.level)
