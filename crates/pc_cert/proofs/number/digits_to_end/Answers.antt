use Rattle.std.proofs.Common.{◌+◌, ◌*◌, ◌<◌, ◌≡◌, true, get_or, refl, sym, subst, ◌∙◌, arith}
use Rattle.std.specs.Char.{is_ascii_digit}
use Rattle.pc_text.proofs.NumberLemmas.{below_18_digits, longer}
use Rattle.pc_cert.proofs.NumberLemmas.{AreSoFar, digits_more, digit_limit}
use Rattle.pc_cert.proofs.number.digits_to_end.Goals as goal

pub overflow_mul-number : goal.overflow_mul-number
overflow_mul-number c =
    let few : c.loop-i.i < 18 = omega (arith, c.requires, c.loop-i-test.true) in
    omega (arith, below_18_digits c.loop-i.number c.loop-i.i c.loop-i.invariant.small (omega (arith, few)))

pub overflow_add-number : goal.overflow_add-number
overflow_add-number c =
    let few : c.loop-i.i < 18 = omega (arith, c.requires, c.loop-i-test.true) in
    let small = below_18_digits c.loop-i.number c.loop-i.i c.loop-i.invariant.small (omega (arith, few)) in
    omega (arith, small, c.from.ensures)

pub loop-i-preserved : goal.loop-i-preserved
loop-i-preserved c =
    let bytes = c.args.bytes.now in
    let i = c.loop-i.i in
    let byte = get_or bytes i 0 in
    let few : i < 18 = omega (arith, c.requires, c.loop-i-test.true) in
    let digit : is_ascii_digit byte ≡ true = sym c.is_ascii_digit.ensures.value ∙ c.if-not-is_ascii_digit.false in
    subst (λ d. AreSoFar bytes (c.loop-i.number * 10 + d) (i + 1)) (sym c.from.ensures)
    (digits_more bytes c.loop-i.number i byte c.loop-i.invariant few c.loop-i-test.true refl digit (longer c.loop-i.number byte i c.loop-i.invariant.small (digit_limit byte digit)))
