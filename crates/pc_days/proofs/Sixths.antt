-- Sixths of a day rounded up to days.
use Rattle.std.proofs.Common.{◌≡◌, ◌^◌, ◌⊎◌, inl, inr, refl, ◌∙◌, arith, ℤ, pos, neg_ℤ, ◌+ℤ◌, ◌<ℤ◌, to_z, of_z, w32, w64, FitsSigned}
use Rattle.std.specs.Int.{int_div_euclid}
use Rattle.std.proofs.lemmas.Int.{to_z-of_z}
use Rattle.jiff_core.specs.Calendar.{IsWithin}
use Rattle.jiff_core.proofs.SignedLemmas.{signed_arith}
use Rattle.pc_days.specs.Dates.{IsRoundedUp, IsAfterSixths, IsPrintedDay}

pub rounded_up : (t : ℤ) → neg_ℤ (pos (2 ^ 40)) <ℤ t → t <ℤ pos (2 ^ 40) → IsRoundedUp t (int_div_euclid (t +ℤ pos 5) (pos 6)) × IsWithin (2 ^ 40) (int_div_euclid (t +ℤ pos 5) (pos 6))
rounded_up t early late =
    (((omega (arith, signed_arith)), (omega (arith, signed_arith))), ((omega (arith, signed_arith)), (omega (arith, signed_arith))))

-- the same as the code computes it
pub rounded_up-code : (t : ℤ) → neg_ℤ (pos (2 ^ 40)) <ℤ t → t <ℤ pos (2 ^ 40) → int_div_euclid (to_z w64 (of_z w64 (to_z w64 (of_z w64 t) +ℤ pos 5))) (pos 6) ≡ int_div_euclid (t +ℤ pos 5) (pos 6)
rounded_up-code t early late =
    let fits : FitsSigned w64 t = omega (arith, signed_arith) in
    let more : FitsSigned w64 (t +ℤ pos 5) = omega (arith, signed_arith) in
    rw (to_z-of_z w64 t fits, to_z-of_z w64 (t +ℤ pos 5) more) refl

-- the day's number as the code computes it
pub number-code : (start from days : ℤ) → from ≡ to_z w32 (of_z w32 start) → IsPrintedDay start → IsWithin (2 ^ 40) days →
    to_z w64 (of_z w64 (to_z w64 (of_z w64 from) +ℤ to_z w64 (of_z w64 days))) ≡ start +ℤ days
number-code start from days e printed within =
    let small : FitsSigned w32 start = omega (arith, signed_arith) in
    let same : from ≡ start = e ∙ to_z-of_z w32 start small in
    let fits : FitsSigned w64 start = omega (arith, signed_arith) in
    let more : FitsSigned w64 days = omega (arith, signed_arith) in
    let sum : FitsSigned w64 (start +ℤ days) = omega (arith, signed_arith) in
    rw (same, to_z-of_z w64 start fits, to_z-of_z w64 days more, to_z-of_z w64 (start +ℤ days) sum) refl

pub after_sixths : (start days t : ℤ) → IsRoundedUp t days → IsAfterSixths start t (start +ℤ days)
after_sixths start days t h =
    ((omega (arith, signed_arith, h.0)), (omega (arith, signed_arith, h.1)))

-- only one day is the start and this many sixths
pub after_sixths-only : (start days t day : ℤ) → IsRoundedUp t days → IsAfterSixths start t day → day ≡ start +ℤ days
after_sixths-only start days t day h g =
    omega (arith, signed_arith, h.0, h.1, g.0, g.1)

-- so there is one such day
pub one_day : (start t day other : ℤ) → IsAfterSixths start t day → IsAfterSixths start t other → day ≡ other
one_day start t day other g h = omega (arith, signed_arith, g.0, g.1, h.0, h.1)

-- so where it is out of print there is no printed day
pub out_of_print : (start days t day : ℤ) → IsRoundedUp t days → IsAfterSixths start t day → IsPrintedDay day → ((start +ℤ days) <ℤ neg_ℤ (pos 25_567)) ⊎ (pos 2_932_896 <ℤ (start +ℤ days)) → ⊥
out_of_print start days t day h g printed (inl low) =
    let is = after_sixths-only start days t day h g in
    omega (arith, signed_arith)
out_of_print start days t day h g printed (inr high) =
    let is = after_sixths-only start days t day h g in
    omega (arith, signed_arith)
