use Rattle.pc_text.proofs.DigitsLemmas.{IsWritten}
use Rattle.pc_text.proofs.number.decimal_of.Given as goal

abbrev pub invariant-loop-rest : goal.invariant-loop-rest
invariant-loop-rest g l = IsWritten g.row.N l.fn.n l.rest l.start l.cells

abbrev pub decreases-loop-rest : goal.decreases-loop-rest
decreases-loop-rest g l = l.rest
