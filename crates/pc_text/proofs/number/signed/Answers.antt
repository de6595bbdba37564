use Rattle.std.proofs.Common.{◌≡◌, ◌≤ℤ◌, ◌<ℤ◌, pos, drop, decimal, ap, ◌∙◌, arith}
use Rattle.std.proofs.lemmas.Int.{ints, to_z-of_z}
use Rattle.std.specs.Prelude.{unsigned_abs}
use Rattle.pc_text.proofs.DigitsLemmas.{room_for_sign, with_sign, without_sign}
use Rattle.pc_text.proofs.number.signed.Goals.{then-n-lt0, else-n-lt0}
use Rattle.pc_text.proofs.number.signed.Goals as goal

pub overflow_sub-start : goal.overflow_sub-start
overflow_sub-start c =
    room_for_sign _ _ _ (omega (arith, c.unsigned_abs.ensures.bound)) c.digits.invariant.1 c.digits.invariant.0 (c.digits.view_is ∙ c.digits-digits.ensures.value)

pub returns-clause-value : goal.returns-clause-value
returns-clause-value c =
    let digits : drop c.digits.inside.start c.digits.inside.cells ≡ decimal c.unsigned_abs.result = c.digits.view_is ∙ c.digits-digits.ensures.value in
    let size : c.unsigned_abs.result ≡ unsigned_abs c.args.n = c.unsigned_abs.ensures.value ∙ ap unsigned_abs (to_z-of_z _ _ c.ranges.n) in
    let whole : drop c.digits.inside.start c.digits.inside.cells ≡ decimal (unsigned_abs c.args.n) = digits ∙ ap decimal size in
    elim c.if-n-lt0.branch [
      | then-n-lt0 w ↦
          let below : c.args.n <ℤ pos 0 = grind (arith, ints) in
          let some = room_for_sign _ _ _ (omega (arith, c.unsigned_abs.ensures.bound)) c.digits.invariant.1 c.digits.invariant.0 digits in
          rw (w.start-is, w.cells-is) (with_sign c.args.n _ _ below some (omega (arith, c.digits.invariant.0, c.digits.invariant.1)) whole)
      | else-n-lt0 w ↦
          let above : pos 0 ≤ℤ c.args.n = grind (arith, ints) in
          rw (w.start-is, w.cells-is) (whole ∙ without_sign c.args.n above)
    ]
