use Rattle.std.proofs.Common.{arith}
use Rattle.pc_net.proofs.LabelLaws.{AreSpreadLabels-lower, NeverFalls-from_spread}
use Rattle.pc_net.proofs.components.spread_all.Goals as goal

pub spread_next-requires-clause-spread : goal.spread_next-requires-clause-spread
spread_next-requires-clause-spread c =
    AreSpreadLabels-lower _ _ _ _ _ c.loop-round.invariant.spread (omega arith) (omega arith)

pub returns-clause-never_falls : goal.returns-clause-never_falls
returns-clause-never_falls c =
    NeverFalls-from_spread _ _ _ _ c.loop-round.invariant.spread
