use Rattle.std.proofs.Common.{◌+◌, length}
use Rattle.pc_cert.proofs.EventLaws.{event_comes, read_behind}
use Rattle.pc_cert.proofs.event.EventFront.said.Goals as goal

pub overflow_sub-used : goal.overflow_sub-used
overflow_sub-used c =
    (read_behind (length c.bytes.result.now + 6) c.args.piece.now c.in_ok-time.rest.now c.in_ok-moves.rest.now c.in_ok-time.time
    c.in_ok-moves.moves c.in_ok-time.ensures.number.text c.in_ok-moves.ensures).within

pub returns : goal.returns
returns c =
    let rest = c.in_ok-time.rest.now in
    let more = c.in_ok-moves.rest.now in
    let read = read_behind (length c.bytes.result.now + 6) c.args.piece.now rest more c.in_ok-time.time c.in_ok-moves.moves c.in_ok-time.ensures.number.text c.in_ok-moves.ensures in
    event_comes c.args.self.now.code c.bytes.result.now c.args.self.now.cells c.args.piece.now rest more c.in_ok-time.time c.in_ok-moves.moves
    c.bytes.ensures.value c.bytes.ensures.code c.requires.front_is (c.begin_same.ensures c.if-not-begin_same.false) read c.in_ok-time.ensures.number.small c.in_ok-moves.ensures
