use Rattle.pc_project.specs.PieceFaults.{HasPieceFaultAt}
use Rattle.pc_project.specs.Project.{pieces_in, terms_in}
use Rattle.pc_project.proofs.RunLaws.{AreRuns}
use Rattle.pc_project.proofs.CountLaws.{IsFirstBelow}
use Rattle.pc_project.proofs.pieces.check_pieces.Given as goal

-- the runs of the activities so far, and the first fault of the pieces so far
pub record Kept (P Q : Type 0) : Type 0 where
  pub runs : P
  pub first : Q

abbrev pub invariant-loop-i : goal.invariant-loop-i
invariant-loop-i l =
    Kept (AreRuns (terms_in l.cards) (pieces_in l.cards) l.i l.runs.items) (IsFirstBelow (HasPieceFaultAt l.cards) l.i l.fault)
