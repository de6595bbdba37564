use Rattle.pc_load.proofs.TableLaws.{AreSummedIn}
use Rattle.pc_load.proofs.table.Table.build.Given as goal

abbrev pub invariant-loop-entry : goal.invariant-loop-entry
invariant-loop-entry l = AreSummedIn l.fn.rows l.fn.periods l.entries l.fn.width l.entry-index l.cells.items
