use Rattle.std.proofs.Common.{◌*◌, ◌+◌, ◌-◌, ap, arith}
use Rattle.pc_crash.specs.Priced.{piece_at}
use Rattle.pc_crash.proofs.OwnPieceLaws.{first-most, IsSummed-end, IsSummed-more, IsSummed-start, next-left, next-most, next-rises}
use Rattle.pc_crash.proofs.pieces.cost_with.Goals as goal

pub overflow_mul-cost : goal.overflow_mul-cost
overflow_mul-cost c =
    omega (arith, first-most c.args.term c.args.pieces.now c.requires c.args.duration, ap (λ x. c.args.term.slope * x) c.saturating_sub-saved.ensures)

pub overflow_add-cost : goal.overflow_add-cost
overflow_add-cost c =
    omega (arith, first-most c.args.term c.args.pieces.now c.requires c.args.duration, ap (λ x. c.args.term.slope * x) c.saturating_sub-saved.ensures, c.requires.cheap)

pub loop-piece-init : goal.loop-piece-init
loop-piece-init c =
    IsSummed-start c.args.term c.args.pieces.now c.requires c.args.duration _ _
    (ap (λ x. c.args.term.cost + c.args.term.slope * x) c.saturating_sub-saved.ensures)
    (ap (λ x. c.args.term.crash + x) c.units-left.ensures)

pub overflow_sub-rise : goal.overflow_sub-rise
overflow_sub-rise c =
    omega (
      arith,
      next-rises c.args.term c.args.pieces.now c.requires c.args.duration c.loop-piece.piece-index c.loop-piece.cost
          c.loop-piece.knee c.loop-piece.slope c.loop-piece.invariant c.loop-piece-test.true,
    )

pub overflow_mul-cost-in-loop-piece : goal.overflow_mul-cost-in-loop-piece
overflow_mul-cost-in-loop-piece c =
    omega (
      arith,
      next-most c.args.term c.args.pieces.now c.requires c.args.duration c.loop-piece.piece-index c.loop-piece.cost c.loop-piece.knee c.loop-piece.slope c.loop-piece.invariant c.loop-piece-test.true,
      ap (λ x. ((piece_at c.args.pieces.now c.loop-piece.piece-index).slope - c.loop-piece.slope) * x) c.saturating_sub-below.ensures,
      c.requires.cheap,
    )

pub overflow_add-cost-in-loop-piece : goal.overflow_add-cost-in-loop-piece
overflow_add-cost-in-loop-piece c =
    omega (
      arith,
      next-most c.args.term c.args.pieces.now c.requires c.args.duration c.loop-piece.piece-index c.loop-piece.cost c.loop-piece.knee c.loop-piece.slope c.loop-piece.invariant c.loop-piece-test.true,
      ap (λ x. ((piece_at c.args.pieces.now c.loop-piece.piece-index).slope - c.loop-piece.slope) * x) c.saturating_sub-below.ensures,
      c.requires.cheap,
    )

pub overflow_sub-knee : goal.overflow_sub-knee
overflow_sub-knee c =
    omega (
      arith,
      next-left c.args.term c.args.pieces.now c.requires c.args.duration c.loop-piece.piece-index c.loop-piece.cost
          c.loop-piece.knee c.loop-piece.slope c.loop-piece.invariant c.loop-piece-test.true,
    )

pub loop-piece-preserved : goal.loop-piece-preserved
loop-piece-preserved c =
    rw c.saturating_sub-below.ensures
    (IsSummed-more c.args.term c.args.pieces.now c.requires c.args.duration c.loop-piece.piece-index c.loop-piece.cost c.loop-piece.knee
    c.loop-piece.slope c.loop-piece.invariant c.loop-piece-test.true)

pub returns : goal.returns
returns c =
    IsSummed-end c.args.term c.args.pieces.now c.requires c.args.duration c.loop-piece.piece-index c.loop-piece.cost c.loop-piece.knee c.loop-piece.slope c.loop-piece.invariant (omega arith)
