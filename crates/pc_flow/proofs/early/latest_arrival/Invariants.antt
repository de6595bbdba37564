use Rattle.pc_flow.specs.board.Sheets.{kept_time}
use Rattle.pc_flow.specs.inside.Paces.{durations_at}
use Rattle.pc_flow.proofs.EarlyTimes.{IsArrivalOf}
use Rattle.pc_flow.proofs.early.latest_arrival.Given as goal

abbrev pub invariant-loop-a : goal.invariant-loop-a
invariant-loop-a l = IsArrivalOf l.net.network (durations_at l.net.terms l.pace) (kept_time l.board) l.a-items l.a-index l.latest
