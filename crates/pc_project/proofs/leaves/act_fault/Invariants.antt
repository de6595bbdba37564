use Rattle.pc_deck.specs.declared.kinds.act.ActCard.{ActCard}
use Rattle.pc_project.proofs.BranchLaws.{IsFirstBranchBefore}
use Rattle.pc_project.proofs.leaves.act_fault.Given as goal

abbrev pub invariant-loop-a : goal.invariant-loop-a
invariant-loop-a l = IsFirstBranchBefore l.cards (λ (card : ActCard). card.row) (λ card. card.item) l.cards.acts l.a l.fault
