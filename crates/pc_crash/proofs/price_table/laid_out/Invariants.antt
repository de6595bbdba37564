use Rattle.pc_crash.specs.inside.Laid.{AreLaid}
use Rattle.pc_crash.proofs.price_table.laid_out.Given as goal

abbrev pub invariant-loop-a : goal.invariant-loop-a
invariant-loop-a l = AreLaid l.net.arcs l.terms l.pieces l.a l.rows.items l.knees.items
