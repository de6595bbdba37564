use Rattle.std.proofs.Common.{◌-◌, ap, ◌∙◌, arith, pow_pos}
use Rattle.std.specs.Int.{bit_at}
use Rattle.std.proofs.lemmas.Nat.Bits.{bit_at_ones}
use Rattle.pc_cert.proofs.FrontLaws.{one_moved}
use Rattle.pc_cert.proofs.fast.front.low_bits.Goals as goal

pub overflow_sub-result : goal.overflow_sub-result
overflow_sub-result c = omega (arith, one_moved c.args.count (omega (arith, c.requires)), pow_pos c.args.count)

pub returns : goal.returns
returns c k l = ap (λ m. bit_at (m - 1) k) (one_moved c.args.count (omega (arith, c.requires))) ∙ bit_at_ones c.args.count k l
