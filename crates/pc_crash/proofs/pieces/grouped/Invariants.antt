use Rattle.std.proofs.Common.{length, take}
use Rattle.pc_crash.specs.inside.Groups.{AreGroups}
use Rattle.pc_crash.proofs.pieces.grouped.Given as goal

abbrev pub invariant-loop-piece : goal.invariant-loop-piece
invariant-loop-piece l = AreGroups (take l.piece-index l.pieces) (length l.terms) l.groups.items
