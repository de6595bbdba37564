use Rattle.std.proofs.Common.{[]}
use Rattle.pc_crash.specs.inside.Groups.{AreGroups}
use Rattle.pc_crash.proofs.pieces.empty_groups.Given as goal

abbrev pub invariant-loop : goal.invariant-loop
invariant-loop l = AreGroups [] l.counter l.groups.items
