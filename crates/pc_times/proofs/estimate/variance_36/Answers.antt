use Rattle.std.proofs.Common.{◌-◌, ◌*◌, ◌≤◌, arith}
use Rattle.std.proofs.lemmas.Nat.{mul-le}
use Rattle.pc_times.proofs.EstimateLaws.{square}
use Rattle.pc_times.proofs.estimate.variance_36.Goals as goal

pub overflow_mul-result : goal.overflow_mul-result
overflow_mul-result c =
    let range : (c.args.pess - c.args.opt) * c.args.unit_days ≤ 100000 * 7 = mul-le (c.args.pess - c.args.opt) c.args.unit_days 100000 7 (omega arith) (omega arith) in
    omega (arith, mul-le _ _ (100000 * 7) (100000 * 7) range range)

pub returns : goal.returns
returns c = square (c.args.pess - c.args.opt) c.args.unit_days
