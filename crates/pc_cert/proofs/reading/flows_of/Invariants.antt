use Rattle.std.proofs.Common.{◌-◌, length}
use Rattle.pc_cert.proofs.FlowsLemmas.{IsReadingFlows}
use Rattle.pc_cert.proofs.reading.flows_of.Given as goal

abbrev pub invariant-loop-rest : goal.invariant-loop-rest
invariant-loop-rest l = IsReadingFlows l.fields l.flows l.rest

abbrev pub decreases-loop-rest : goal.decreases-loop-rest
decreases-loop-rest l = 6 - length l.flows
