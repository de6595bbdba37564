use Rattle.std.proofs.Common.{ℕ}
use Rattle.pc_flow.specs.board.Sheets.{rank_of}
use Rattle.pc_flow.specs.inside.board.Raising.{AreClear}
use Rattle.pc_flow.proofs.lemmas.board.RaisingLaws.{IsLeasting}
use Rattle.pc_flow.proofs.board.board.Board.least_room.Given as goal

abbrev pub invariant-loop-room : goal.invariant-loop-room
invariant-loop-room l = (k : ℕ) × IsLeasting l.self l.end l.by k l.e × AreClear l.self l.end l.by l.standing k

abbrev pub decreases-loop-room : goal.decreases-loop-room
decreases-loop-room l = rank_of l.self l.e
