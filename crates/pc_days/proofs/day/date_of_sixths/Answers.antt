use Rattle.std.proofs.Common.{◌≡◌, ◌^◌, arith, ℤ, pos, neg_ℤ, ◌+ℤ◌, ◌<ℤ◌, ◌⊎◌, inl, inr, to_z, of_z, w32, w64, FitsSigned}
use Rattle.std.proofs.lemmas.Int.{to_z-of_z}
use Rattle.jiff_core.specs.Calendar.{IsWithin}
use Rattle.jiff_core.proofs.SignedLemmas.{signed_arith}
use Rattle.pc_days.specs.Dates.{IsRoundedUp, IsAfterSixths, IsPrintedDay}
use Rattle.pc_days.proofs.Sixths.{number-code, after_sixths, out_of_print}
use Rattle.pc_days.proofs.day.date_of_sixths.Goals as goal
use Rattle.pc_days.proofs.day.date_of_sixths.Goals.{then-number-lt-FIRST-via-then-number-lt-FIRST, then-number-lt-FIRST-via-else-number-lt-FIRST+then-number-gt-LAST}

-- the day's number is the start's and the days', which are the sixths rounded up
record Reckoned (start t days number : ℤ) : Type 0 where
  is : number ≡ start +ℤ days
  rounded : IsRoundedUp t days

reckoned : (start from t days : ℤ) → from ≡ to_z w32 (of_z w32 start) → IsPrintedDay start → neg_ℤ (pos (2 ^ 40)) <ℤ t → t <ℤ pos (2 ^ 40) →
    IsRoundedUp (to_z w64 (of_z w64 t)) days → IsWithin (2 ^ 40) days
    → Reckoned start t days (to_z w64 (of_z w64 (to_z w64 (of_z w64 from) +ℤ to_z w64 (of_z w64 days))))
reckoned start from t days same printed early late up within =
    let fits : FitsSigned w64 t = omega (arith, signed_arith) in
    record { is = number-code start from days same printed within; rounded = rw (to_z-of_z w64 t fits) at up }

pub returns-then-number-lt-FIRST-clause-none : goal.returns-then-number-lt-FIRST-clause-none
returns-then-number-lt-FIRST-clause-none c =
    let start = c.start.inside.number in
    let days = c.whole_days.result in
    let facts = reckoned start c.from.result c.args.t days c.from.ensures c.start.invariant c.requires.early c.requires.late c.whole_days.ensures.rounded c.whole_days.ensures.within in
    let number = facts.is in
    let beyond : ((start +ℤ days) <ℤ neg_ℤ (pos 25_567))
    ⊎ (pos 2_932_896 <ℤ (start +ℤ days)) =
    elim c.then-number-lt-FIRST.branch [
      | then-number-lt-FIRST-via-then-number-lt-FIRST w ↦
          inl (let low = rw number at w.if-number-lt-FIRST.true in
          omega (arith, signed_arith, low))
      | then-number-lt-FIRST-via-else-number-lt-FIRST+then-number-gt-LAST w ↦
          inr (let high = rw number at w.if-number-gt-LAST.true in omega (arith, signed_arith, high))
    ] in
    λ none day h k. out_of_print start days c.args.t day facts.rounded (rw (← c.start.view_is) at h) k beyond

pub returns-clause-after : goal.returns-clause-after
returns-clause-after c =
    let start = c.start.inside.number in
    let days = c.whole_days.result in
    let facts = reckoned start c.from.result c.args.t days c.from.ensures c.start.invariant c.requires.early c.requires.late c.whole_days.ensures.rounded c.whole_days.ensures.within in
    let number = facts.is in
    let low = rw number at c.if-number-lt-FIRST.false in
    let high = rw number at c.if-number-gt-LAST.false in
    let small : FitsSigned w32 (start +ℤ days) = omega (arith, signed_arith, low, high) in
    let after : IsAfterSixths start c.args.t (start +ℤ days) = after_sixths start days c.args.t facts.rounded in
    rw (number, to_z-of_z w32 (start +ℤ days) small, ← c.start.view_is) after
