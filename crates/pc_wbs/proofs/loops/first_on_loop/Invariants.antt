use Rattle.std.proofs.Common.{length, ◌^◌}
use Rattle.pc_wbs.specs.inside.Ends.{AreEnds}
use Rattle.pc_wbs.proofs.loops.first_on_loop.Given as goal

abbrev pub invariant-loop-round : goal.invariant-loop-round
invariant-loop-round l = AreEnds l.rows (length l.rows) (2 ^ l._round) l.ends.items
