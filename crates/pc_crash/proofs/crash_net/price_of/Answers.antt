use Rattle.std.proofs.Common.{◌*◌, ap, arith}
use Rattle.pc_model.specs.inside.Pieces.{knee_at}
use Rattle.pc_crash.proofs.CostLaws.{price_to-room}
use Rattle.pc_crash.proofs.crash_net.price_of.Goals as goal

pub overflow_add-price : goal.overflow_add-price
overflow_add-price c =
    let knees = c.args.knees.now in
    let k = c.loop-knee.knee-index in
    omega (arith, price_to-room knees c.args.duration k c.requires c.loop-knee-test.true, c.loop-knee.invariant, ap (λ x. (knee_at knees k).rise * x) c.saturating_sub.ensures)
