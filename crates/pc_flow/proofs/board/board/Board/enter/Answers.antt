use Rattle.std.proofs.Common.{◌-◌, arith}
use Rattle.pc_flow.specs.board.Sheets.{kept_time}
use Rattle.pc_flow.proofs.lemmas.board.EnteringLaws.{event-enters}
use Rattle.pc_flow.proofs.board.board.Board.enter.Goals as goal

pub returns : goal.returns
returns c =
    event-enters c.args.self.now c.rest_at.new.self c.queue_last.new.self c.set_step.new.self c.args.e c.args.a c.args.against c.args.near c.args.room
    (kept_time c.args.self.now c.args.e - c.args.self.now.fallen) c.rest_at.ensures c.queue_last.ensures c.set_step.ensures (omega (arith, c.requires.deep))
