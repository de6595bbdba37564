use Rattle.pc_flow.proofs.lemmas.search.LengthLaws.{AreKeptTo}
use Rattle.pc_flow.proofs.lengths.keep_lengths.Given as goal

abbrev pub invariant-loop-a : goal.invariant-loop-a
invariant-loop-a l = AreKeptTo l.net l.initial.board l.board l.a
