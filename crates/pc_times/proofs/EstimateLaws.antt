-- The square of a range of days, and how great it may be.
use Rattle.std.proofs.Common.{◌≡◌, ℕ, ◌-◌, ◌*◌, ◌^◌, ◌≤◌, sym, ◌∙◌, ap, arith}
use Rattle.std.proofs.lemmas.Nat.{mul-pow}
use Rattle.std.proofs.Math.Nat.{pow-succ', pow-zero, mul-one, mul-le-mul, pow-le-pow_left}
use Rattle.pc_model.specs.declared.limits.TheConstants.{MAX_DURATION, MAX_UNIT_DAYS, MAX_VARIANCE}

-- a number times itself is its square
twice : (n : ℕ) → n * n ≡ n ^ 2
twice n = sym (pow-succ' n 1 ∙ ap (λ m. n * m) (pow-succ' n 0 ∙ ap (λ m. n * m) (pow-zero n) ∙ mul-one n))

-- the square of a product
pub square : (range days : ℕ) → range * days * (range * days) ≡ range ^ 2 * days ^ 2
square range days = twice (range * days) ∙ mul-pow range days 2

-- a variance is no greater than that of the widest estimates in the longest unit
pub variance_small : (opt pess unit : ℕ) → pess ≤ MAX_DURATION → unit ≤ MAX_UNIT_DAYS → (pess - opt) ^ 2 * unit ^ 2 ≤ MAX_VARIANCE
variance_small opt pess unit most few =
    let range : pess - opt ≤ 100000 = omega arith in
    let square : (pess - opt) ^ 2 ≤ 100000 ^ 2 = pow-le-pow_left range 2 in
    let units : unit ^ 2 ≤ 7 ^ 2 = pow-le-pow_left few 2 in
    mul-le-mul square units
