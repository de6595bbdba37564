use Rattle.pc_project.proofs.LoopLaws.{IsFirstBefore}
use Rattle.pc_project.proofs.refers.first_fault.Given as goal

abbrev pub invariant-loop-card : goal.invariant-loop-card
invariant-loop-card g l = IsFirstBefore (g.C.Refers.HasFault g.S.DeckSort.sort l.cards) l.list l.card-index l.fault
