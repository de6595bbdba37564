-- What the fields of a checker say.
use Rattle.std.specs.Prelude.{IfNone}
use Rattle.pc_check.specs.declared.checker.Checker.TheInside.{Inside}
use Rattle.pc_check.specs.inside.Bounds.{IsBounded}
use Rattle.pc_check.specs.inside.Checking.{Checking}
use Rattle.pc_check.specs.inside.fast.Fronts.{AreFronts}
use Rattle.pc_check.specs.inside.Safe.{IsSafe}

-- the checker of the fields
abbrev pub checking : Inside → Checking
checking a = record { net = a.net.now; kept = a.kept; fail = a.fail }

-- the lists are as long as the network asks, the row stored for each activity has passed, the sums are those over all
-- rows, the counts of lines are bounded if no line failed, and the lines of each event begin with its stored front
pub record IsSoundChecker (a : Inside) : Type 0 where
  pub safe : IsSafe a.net.now a.kept.tally
  pub bounded : IfNone a.fail (IsBounded a.net.now a.kept)
  pub fronts : AreFronts a.net.now a.fronts.items
