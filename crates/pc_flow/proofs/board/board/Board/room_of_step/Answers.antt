use Rattle.pc_flow.proofs.lemmas.search.MeasureLaws.{found-reach, found-falling, found-flow, found-flows, found-along, found-against}
use Rattle.pc_flow.proofs.board.board.Board.room_of_step.Goals as goal

pub room_against-requires-clause-knees : goal.room_against-requires-clause-knees
room_against-requires-clause-knees c =
    found-reach c.args.net.now c.args.self.now c.requires.search c.requires.room c.args.e c.requires.known c.requires.has
    c.step-a.result _ c.as_slice-knees.result.now c.term-crash.result c.step-a.ensures c.knees-list.ensures c.as_slice-knees.ensures c.term-crash.ensures

pub room_against-requires-clause-falling : goal.room_against-requires-clause-falling
room_against-requires-clause-falling c =
    found-falling c.args.net.now c.args.self.now c.requires.search c.requires.room c.args.e c.requires.known c.requires.has
    c.step-a.result _ c.as_slice-knees.result.now c.term-crash.result c.step-a.ensures c.knees-list.ensures c.as_slice-knees.ensures c.term-crash.ensures

pub room_against-requires-clause-flows : goal.room_against-requires-clause-flows
room_against-requires-clause-flows c =
    found-flows c.args.net.now c.args.self.now c.requires.search c.requires.room c.args.e c.requires.known c.requires.has
    c.step-a.result _ c.as_slice-knees.result.now c.term-crash.result c.step-a.ensures c.knees-list.ensures c.as_slice-knees.ensures c.term-crash.ensures
    c.flow-flow.result c.flow-flow.ensures (c.is_against.ensures.against c.if-is_against.true)

pub room_along-requires-clause-knees : goal.room_along-requires-clause-knees
room_along-requires-clause-knees c =
    found-reach c.args.net.now c.args.self.now c.requires.search c.requires.room c.args.e c.requires.known c.requires.has
    c.step-a.result _ c.as_slice-knees.result.now c.term-crash.result c.step-a.ensures c.knees-list.ensures c.as_slice-knees.ensures c.term-crash.ensures

pub room_along-requires-clause-falling : goal.room_along-requires-clause-falling
room_along-requires-clause-falling c =
    found-falling c.args.net.now c.args.self.now c.requires.search c.requires.room c.args.e c.requires.known c.requires.has
    c.step-a.result _ c.as_slice-knees.result.now c.term-crash.result c.step-a.ensures c.knees-list.ensures c.as_slice-knees.ensures c.term-crash.ensures

pub room_along-requires-clause-flow : goal.room_along-requires-clause-flow
room_along-requires-clause-flow c =
    found-flow c.args.net.now c.args.self.now c.requires.search c.requires.room c.args.e c.requires.known c.requires.has
    c.step-a.result _ c.as_slice-knees.result.now c.term-crash.result c.step-a.ensures c.knees-list.ensures c.as_slice-knees.ensures c.term-crash.ensures
    c.flow-flow.result c.flow-flow.ensures

pub returns-then-is_against : goal.returns-then-is_against
returns-then-is_against c =
    found-against c.args.net.now c.args.self.now c.requires.search c.requires.room c.args.e c.requires.known c.requires.has
    c.step-a.result _ c.as_slice-knees.result.now c.term-crash.result c.step-a.ensures c.knees-list.ensures c.as_slice-knees.ensures c.term-crash.ensures
    c.room_against.result c.flow-flow.result c.flow-flow.ensures (c.is_against.ensures.against c.if-is_against.true)
    c.room_against.ensures.some c.room_against.ensures.within c.room_against.ensures.room

pub returns-else-is_against : goal.returns-else-is_against
returns-else-is_against c =
    found-along c.args.net.now c.args.self.now c.requires.search c.requires.room c.args.e c.requires.known c.requires.has
    c.step-a.result _ c.as_slice-knees.result.now c.term-crash.result c.step-a.ensures c.knees-list.ensures c.as_slice-knees.ensures c.term-crash.ensures
    c.room_along.result c.flow-flow.result c.flow-flow.ensures (c.is_against.ensures.along c.if-is_against.false)
    c.room_along.ensures.some c.room_along.ensures.small c.room_along.ensures.room
