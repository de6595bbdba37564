use Rattle.std.proofs.Common.{length, ◌-◌, ◌≤◌, take}
use Rattle.pc_edges.specs.Writes.{Wrote}
use Rattle.pc_edges.proofs.sink.push_all.Given as goal

pub record Kept (P Q : Type 0) : Type 0 where
  pub within : P
  pub wrote : Q

abbrev pub invariant-loop-at : goal.invariant-loop-at
invariant-loop-at g l =
    let o = g.O.Sink in
    Kept (l.at ≤ length l.piece) (Wrote (o.taken l.fn.sink) (o.taken l.sink) (o.faults l.fn.sink) (o.faults l.sink) (take l.at l.piece))

abbrev pub decreases-loop-at : goal.decreases-loop-at
decreases-loop-at g l = length l.piece - l.at
