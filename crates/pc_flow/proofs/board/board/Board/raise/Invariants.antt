use Rattle.std.proofs.Common.{◌≡◌, ℕ}
use Rattle.pc_flow.specs.board.Sheets.{rank_of}
use Rattle.pc_flow.specs.inside.board.Raising.{IsRaisedBack}
use Rattle.pc_flow.proofs.board.board.Board.raise.Given as goal

abbrev pub invariant-loop-self : goal.invariant-loop-self
invariant-loop-self l =
    (k : ℕ) × IsRaisedBack l.initial.self l.self l.end l.by k l.e
    × (l.self ≡ record l.initial.self { room = l.self.room; flow = l.self.flow })

abbrev pub decreases-loop-self : goal.decreases-loop-self
decreases-loop-self l = rank_of l.self l.e
