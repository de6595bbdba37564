use Rattle.pc_deck.specs.declared.kinds.acct.AcctCard.{AcctCard}
use Rattle.pc_project.proofs.BranchLaws.{IsFirstBranchBefore}
use Rattle.pc_project.proofs.leaves.account_fault.Given as goal

abbrev pub invariant-loop-a : goal.invariant-loop-a
invariant-loop-a l = IsFirstBranchBefore l.cards (λ (card : AcctCard). card.row) (λ card. card.item) l.cards.accounts l.a l.fault
