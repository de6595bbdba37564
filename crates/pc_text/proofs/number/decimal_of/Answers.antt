use Rattle.std.proofs.Common.{◌≤◌, arith}
use Rattle.std.proofs.lemmas.List.{length-replicate}
use Rattle.pc_text.proofs.DigitsLemmas.{begun, room_left, room_for_two, next_two, last_one, last_two}
use Rattle.pc_text.proofs.number.decimal_of.Goals.{then-rest-ge10, else-rest-ge10}
use Rattle.pc_text.proofs.number.decimal_of.Goals as goal

pub loop-rest-init : goal.loop-rest-init
loop-rest-init g c = begun g.row.N c.args.n _ c.requires.some c.requires.fits (omega (arith, c.ranges.n.fits)) (length-replicate g.row.N 0)

pub overflow_sub-cells : goal.overflow_sub-cells
overflow_sub-cells g c = room_left c.loop-rest.invariant (omega arith)

pub overflow_sub-cells-in-loop-rest : goal.overflow_sub-cells-in-loop-rest
overflow_sub-cells-in-loop-rest g c = room_for_two c.loop-rest.invariant (omega arith) (omega (arith, c.loop-rest-test.true))

pub overflow_sub-start : goal.overflow_sub-start
overflow_sub-start g c = room_for_two c.loop-rest.invariant (omega arith) (omega (arith, c.loop-rest-test.true))

pub loop-rest-preserved : goal.loop-rest-preserved
loop-rest-preserved g c = rw (c.ones.ensures, c.tens.ensures, c.hundredth-hundreds.ensures.rest, c.hundredth-hundreds.ensures.pair) (next_two c.loop-rest.invariant (omega arith) c.loop-rest-test.true)

pub overflow_sub-start-2 : goal.overflow_sub-start-2
overflow_sub-start-2 g c = room_left c.loop-rest.invariant (omega arith)

pub overflow_sub-start-then-rest-ge10 : goal.overflow_sub-start-then-rest-ge10
overflow_sub-start-then-rest-ge10 g c =
    let two : 2 ≤ c.loop-rest.start = room_for_two c.loop-rest.invariant (omega arith) c.if-rest-ge10.true in
    omega arith

pub returns : goal.returns
returns g c =
    elim c.if-rest-ge10.branch [
      | then-rest-ge10 w ↦
          rw (w.start-is, w.cells-is, c.ones-2.ensures, w.tens-then-rest-ge10.ensures)
          (last_two c.loop-rest.invariant w.if-rest-ge10.true (omega (arith, c.loop-rest-test.false)))
      | else-rest-ge10 w ↦ rw (w.start-is, w.cells-is, c.ones-2.ensures) (last_one c.loop-rest.invariant (omega (arith, w.if-rest-ge10.false)))
    ]
