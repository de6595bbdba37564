use Rattle.std.proofs.Common.{◌≡◌, map, take, None}
use Rattle.pc_project.proofs.LoopLaws.{IsFirstBefore}
use Rattle.pc_project.proofs.refers.look_up_all.Given as goal

-- the first fault of the cards so far, and what they name where none has a fault
pub record Kept (P Q : Type 0) : Type 0 where
  pub first : P
  pub numbers : Q

abbrev pub invariant-loop-card : goal.invariant-loop-card
invariant-loop-card g l =
    Kept (IsFirstBefore (g.C.Refers.HasFault g.S.DeckSort.sort l.cards) l.list l.card-index l.fault)
    (l.fault ≡ None → l.numbers.items ≡ map (g.C.Refers.found_in g.S.DeckSort.sort l.cards) (take l.card-index l.list))
