use Rattle.std.proofs.Common.{◌+◌, ◌-◌, ◌*◌, ◌^◌, ◌%◌, ◌<◌, ◌≤◌, ◌≡◌, get_or, refl, sym, subst, arith}
use Rattle.pc_text.proofs.NumberLemmas.{below_18_digits, longer}
use Rattle.pc_cert.proofs.NumberLemmas.{AreSoFar, digits_more, is_digit}
use Rattle.pc_cert.specs.inside.Number.{AreDigitsAt}
use Rattle.pc_cert.proofs.number.digits_within.Goals as goal

pub overflow_mul-number : goal.overflow_mul-number
overflow_mul-number c =
    let few : c.loop-i.i < 18 = omega (arith, c.loop-i-test.true) in
    omega (arith, below_18_digits c.loop-i.number c.loop-i.i c.loop-i.invariant.small (omega (arith, few)))

pub overflow_add-number : goal.overflow_add-number
overflow_add-number c =
    let few : c.loop-i.i < 18 = omega (arith, c.loop-i-test.true) in
    let small = below_18_digits c.loop-i.number c.loop-i.i c.loop-i.invariant.small (omega (arith, few)) in
    omega (arith, small, c.if-digit-gt-GREATEST_DIGIT.false)

pub loop-i-preserved : goal.loop-i-preserved
loop-i-preserved c =
    let bytes = c.args.bytes.now in
    let i = c.loop-i.i in
    let byte = get_or bytes i 0 in
    let few : i < 18 = omega (arith, c.loop-i-test.true) in
    let same = c.from-digit.ensures in
    let read = c.if-digit-gt-GREATEST_DIGIT.false in
    let low : 48 ≤ byte = omega (arith, same, read) in
    let high : byte ≤ 57 = omega (arith, same, read) in
    let digit : (c.from-digit.result + (2 ^ 64 - 48)) % 2 ^ 64 ≡ byte - 48 = omega (arith, same, read) in
    subst (λ d. AreSoFar bytes (c.loop-i.number * 10 + d) (i + 1)) (sym digit)
    (digits_more bytes c.loop-i.number i byte c.loop-i.invariant few (omega (arith, few, c.requires)) refl (is_digit byte low high) (longer c.loop-i.number byte i c.loop-i.invariant.small high))

pub returns : goal.returns
returns c =
    let all : c.loop-i.i ≡ 18 = omega (arith, c.loop-i-test.false, c.loop-i.auto.i-end) in
    subst (λ n. AreDigitsAt c.args.bytes.now c.loop-i.number n) all (record {
      within = omega (arith, all, c.requires);
      few = c.loop-i.invariant.few;
      digits = c.loop-i.invariant.digits;
      value = c.loop-i.invariant.value;
    })
