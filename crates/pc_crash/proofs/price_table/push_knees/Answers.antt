use Rattle.std.proofs.Common.{◌+◌, refl, ap, arith}
use Rattle.pc_crash.proofs.KneeListLaws.{IsPushed-start, IsPushed-next, IsPushed-more, IsPushed-end}
use Rattle.pc_crash.proofs.price_table.push_knees.Goals as goal

pub loop-piece-init : goal.loop-piece-init
loop-piece-init c =
    rw (c.in_ok-push.ensures.items)
    (IsPushed-start c.args.term c.args.pieces.now c.args.knees.now.items _ c.requires.rising (ap (λ n. c.args.term.crash + n) c.units.ensures))

pub overflow_sub-piece : goal.overflow_sub-piece
overflow_sub-piece c = omega (arith, (IsPushed-next _ _ _ _ _ _ _ c.loop-piece.invariant c.loop-piece-test.true).0)

pub overflow_sub-at : goal.overflow_sub-at
overflow_sub-at c = (IsPushed-next _ _ _ _ _ _ _ c.loop-piece.invariant c.loop-piece-test.true).1

pub loop-piece-preserved : goal.loop-piece-preserved
loop-piece-preserved c =
    rw (c.in_ok-push-2.ensures.items)
    (IsPushed-more c.args.term c.args.pieces.now c.args.knees.now.items c.loop-piece.piece-index c.loop-piece.at c.loop-piece.slope
    c.loop-piece.knees.items _ c.loop-piece.invariant c.loop-piece-test.true refl)

pub returns : goal.returns
returns c = IsPushed-end _ _ _ _ _ _ _ c.loop-piece.invariant c.loop-piece-test.false
