use Rattle.std.proofs.Common.{arith, length, suc, sym}
use Rattle.pc_model.proofs.Sums.{sum_to-mono}
use Rattle.pc_flow.specs.inside.stair.Rows.{stair}
use Rattle.pc_laws.proofs.Stairs.Units.{unit-at}
use Rattle.pc_flow.proofs.stair.piece_of.Goals as goal

-- no knee reaches past the last slope
pub overflow_add-above : goal.overflow_add-above
overflow_add-above c =
    omega (arith, sum_to-mono (suc c.loop-knee.knee-index) (length c.args.knees.now) (stair c.args.knees.now c.args.crash).rise (omega arith))

pub returns-then-unit-above-clause-piece : goal.returns-then-unit-above-clause-piece
returns-then-unit-above-clause-piece c = record {
  from = omega arith;
  to = omega arith;
  level = λ y from to. unit-at (stair c.args.knees.now c.args.crash) y c.loop-knee.knee-index (omega arith) (omega arith) (omega arith);
}

pub returns-then-unit-above-clause-length : goal.returns-then-unit-above-clause-length
returns-then-unit-above-clause-length c =
    sym (unit-at (stair c.args.knees.now c.args.crash) c.args.unit c.loop-knee.knee-index (omega arith) (omega arith) (omega arith))
