use Rattle.std.proofs.Common.{◌≤◌, ◌+◌, ◌-◌, ℕ}
use Rattle.pc_flow.proofs.lemmas.search.GrowLaws.{IsGrowing}
use Rattle.pc_flow.proofs.board.board.Board.grow.Given as goal

abbrev pub invariant-loop-self : goal.invariant-loop-self
invariant-loop-self g l =
    (looks : ℕ) × (l.steps ≤ l.initial.steps + looks) × IsGrowing l.net l.initial.self l.self looks

abbrev pub decreases-loop-self : goal.decreases-loop-self
decreases-loop-self g l = l.self.events - l.self.head
