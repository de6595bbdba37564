use Rattle.pc_rollup.specs.figures.Slacks.{slack_at}
use Rattle.pc_rollup.specs.inside.figures.Slacks.{ArePlacedSlacks}
use Rattle.pc_rollup.proofs.figures.slacks.placed_slacks.Given as goal

abbrev pub invariant-loop-a : goal.invariant-loop-a
invariant-loop-a l = ArePlacedSlacks l.places (slack_at l.net l.late l.expected.finishes) l.a l.placed.items
