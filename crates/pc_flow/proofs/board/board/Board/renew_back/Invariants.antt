use Rattle.std.proofs.Common.{ℕ}
use Rattle.pc_flow.specs.board.Sheets.{rank_of}
use Rattle.pc_flow.proofs.lemmas.search.LengthLaws.{IsRenewing}
use Rattle.pc_flow.proofs.board.board.Board.renew_back.Given as goal

abbrev pub invariant-loop-self : goal.invariant-loop-self
invariant-loop-self l = (k : ℕ) × IsRenewing l.net l.initial.self l.self l.end k l.e

abbrev pub decreases-loop-self : goal.decreases-loop-self
decreases-loop-self l = rank_of l.self l.e
