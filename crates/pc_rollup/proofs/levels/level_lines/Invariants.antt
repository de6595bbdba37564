use Rattle.pc_rollup.proofs.LineLaws.{AreLinesTo}
use Rattle.pc_rollup.proofs.levels.level_lines.Given as goal

abbrev pub invariant-loop-item : goal.invariant-loop-item
invariant-loop-item l = AreLinesTo l.tree l.item-items l.item-index l.level l.totals l.lines.items
