use Rattle.std.proofs.Common.{◌+◌, ◌-◌}
use Rattle.pc_edges.specs.declared.lines.reader.TheConstants.{INPUT_LIMIT}
use Rattle.pc_edges.proofs.lemmas.lines.StepLemmas.{Keeping}
use Rattle.pc_edges.proofs.lines.reader.LineReader.next.Given as goal

abbrev pub invariant-loop-self : goal.invariant-loop-self
invariant-loop-self g l = Keeping l.fn.self l.self g.S.Source.left g.S.Source.pulls g.S.Source.faults l.fn.source l.source

abbrev pub decreases-loop-self : goal.decreases-loop-self
decreases-loop-self g l = INPUT_LIMIT + 1 - l.self.taken
