use Rattle.std.proofs.Common.{arith}
use Rattle.pc_text.proofs.NumberLemmas.{below_18_digits}
use Rattle.pc_text.proofs.number.value_of.Goals as goal

pub overflow_mul-number : goal.overflow_mul-number
overflow_mul-number c =
    omega (arith, below_18_digits c.loop-byte.number c.loop-byte.byte-index c.loop-byte.invariant.0 (omega arith))

pub overflow_add-number : goal.overflow_add-number
overflow_add-number c =
    let small = below_18_digits c.loop-byte.number c.loop-byte.byte-index c.loop-byte.invariant.0 (omega arith) in
    omega (arith, small, c.from.ensures)
