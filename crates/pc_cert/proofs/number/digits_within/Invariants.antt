use Rattle.pc_cert.proofs.NumberLemmas.{AreSoFar}
use Rattle.pc_cert.proofs.number.digits_within.Given as goal

abbrev pub invariant-loop-i : goal.invariant-loop-i
invariant-loop-i l = AreSoFar l.bytes l.number l.i
