use Rattle.pc_project.specs.DisorderFaults.{IsDisorderAt}
use Rattle.pc_project.proofs.CountLaws.{IsFirstBelow}
use Rattle.pc_project.proofs.statuses.status_fault.Given as goal

abbrev pub invariant-loop-k : goal.invariant-loop-k
invariant-loop-k l = IsFirstBelow (IsDisorderAt l.cards) l.k l.fault
