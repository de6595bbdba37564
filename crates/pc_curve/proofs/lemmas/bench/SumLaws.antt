-- Sums over the lengths of a curve, a segment at a time.
use Rattle.std.proofs.Common.{◌≡◌, ℕ, zero, suc, ◌+◌, ◌-◌, ◌*◌, ◌/◌, ◌<◌, ◌≤◌, inl, inr, refl, sym, ap, subst, ◌∙◌, arith}
use Rattle.std.specs.Prelude.{if◌then◌else◌, nat_lt}
use Rattle.std.proofs.lemmas.Bool.{cases_lt, lt-ltb, le-ltb, cond-true, cond-false}
use Rattle.std.proofs.Math.Nat.{mul-add, mul_comm}
use Rattle.pc_model.specs.Sums.{sum_to}
use Rattle.pc_model.proofs.Sums.{sum_to-same, sum_to-add, sum_to-split, sum_to-times}
use Rattle.pc_laws.specs.Segment.{Segment, cost_for, span}
use Rattle.pc_laws.proofs.Curves.Turns.{LiesOn}

-- terms that are all the same
sum_to-even : (n x : ℕ) → sum_to n (λ k. x) ≡ n * x
sum_to-even zero x = omega arith
sum_to-even (suc n) x =
    let more : suc n ≡ n + 1 = omega arith in
    omega (arith, sum_to-even n x, mul_comm n x, mul_comm (suc n) x, ap (λ k. x * k) more, mul-add x n 1)

-- twice the sum of the numbers from 1 to n
twice_numbers : (n : ℕ) → 2 * sum_to n (λ k. k + 1) ≡ n * (n + 1)
twice_numbers zero = refl
twice_numbers (suc n) =
    let more : suc n ≡ n + 1 = omega arith in
    let next : suc n + 1 ≡ n + 2 = omega arith in
    omega (
      arith,
      twice_numbers n,
      ap (λ k. k * (suc n + 1)) more,
      ap (λ k. (n + 1) * k) next,
      mul-add (n + 1) n 2,
      mul_comm (n + 1) n,
    )

-- costs that rise by the slope, one by one
pub rising : (n cost slope : ℕ) → sum_to n (λ k. cost + slope * (k + 1)) ≡ n * cost + slope * (n * (n + 1) / 2)
rising n cost slope =
    let half : n * (n + 1) / 2 ≡ sum_to n (λ k. k + 1) = omega (arith, twice_numbers n) in
    omega (
      arith,
      sum_to-add n (λ k. cost) (λ k. slope * (k + 1)),
      sum_to-even n cost,
      sum_to-times n slope (λ k. k + 1),
      ap (λ x. slope * x) half,
    )

-- the sum of the costs of a segment's lengths below its upper end
pub below-rises : (seg : Segment) → seg.lower ≤ seg.upper
    → sum_to (span seg) (λ k. cost_for seg (seg.upper - (k + 1))) ≡ sum_to (span seg) (λ k. seg.cost + seg.slope * (k + 1))
below-rises seg ordered =
    sum_to-same (span seg) (λ k. cost_for seg (seg.upper - (k + 1))) (λ k. seg.cost + seg.slope * (k + 1))
    (λ k inside. ap (λ x. seg.cost + seg.slope * x) (let back : seg.upper - (seg.upper - (k + 1)) ≡ k + 1 = omega (arith, inside) in back))

-- so do they by the segment's numbers
pub below-is : (seg : Segment) → seg.lower ≤ seg.upper → (cost slope upper lower : ℕ) → cost ≡ seg.cost → slope ≡ seg.slope → upper ≡ seg.upper
    → lower ≡ seg.lower → sum_to (upper - lower) (λ k. cost + slope * (k + 1)) ≡ sum_to (span seg) (λ k. cost_for seg (seg.upper - (k + 1)))
below-is seg ordered cost slope upper lower costs slopes above below =
    ap (λ n. sum_to (n - lower) (λ k. cost + slope * (k + 1))) above
    ∙ (ap (λ n. sum_to (seg.upper - n) (λ k. cost + slope * (k + 1))) below
    ∙ (ap (λ n. sum_to (span seg) (λ k. n + slope * (k + 1))) costs
    ∙ (ap (λ n. sum_to (span seg) (λ k. seg.cost + n * (k + 1))) slopes ∙ sym (below-rises seg ordered))))

-- the total is the sum of the costs of a curve's lengths from `high` down to `low`
module _ (curve : ℕ → ℕ → Type 0) (seg : Segment) (on : LiesOn curve seg) (ordered : seg.lower ≤ seg.upper) (high : ℕ) (within : seg.upper ≤ high) (old : ℕ → ℕ) where
  -- the costs of all lengths down to the segment's upper end, and then its own
  abbrev pub costs-on : ℕ → ℕ
  costs-on limit = if nat_lt limit seg.upper then cost_for seg limit else old limit

  at-old : (limit : ℕ) → seg.upper ≤ limit → costs-on limit ≡ old limit
  at-old limit above = cond-false (nat_lt limit seg.upper) (cost_for seg limit) (old limit) (le-ltb limit seg.upper above)

  at-new : (limit : ℕ) → limit < seg.upper → costs-on limit ≡ cost_for seg limit
  at-new limit below = cond-true (nat_lt limit seg.upper) (cost_for seg limit) (old limit) (lt-ltb limit seg.upper below)

  pub least-on : ((limit : ℕ) → seg.upper ≤ limit → limit ≤ high → curve limit (old limit))
      → (limit : ℕ) → seg.lower ≤ limit → limit ≤ high → curve limit (costs-on limit)
  least-on least limit above below =
      elim (cases_lt limit seg.upper) [
        | inl inside ↦ subst (curve limit) (sym (at-new limit inside)) (on.reads limit above (omega (arith, inside)))
        | inr beyond ↦ subst (curve limit) (sym (at-old limit beyond)) (least limit beyond below)
      ]

  pub total-on : sum_to (high - seg.lower + 1) (λ k. costs-on (high - k))
      ≡ sum_to (high - seg.upper + 1) (λ k. old (high - k)) + sum_to (span seg) (λ k. cost_for seg (seg.upper - (k + 1)))
  total-on =
      let parts : high - seg.lower + 1 ≡ (high - seg.upper + 1) + span seg = omega (arith, ordered, within) in
      omega (
        arith,
        ap (λ n. sum_to n (λ k. costs-on (high - k))) parts,
        sum_to-split (high - seg.upper + 1) (span seg) (λ k. costs-on (high - k)),
        sum_to-same (high - seg.upper + 1) (λ k. costs-on (high - k)) (λ k. old (high - k)) (λ k inside. at-old (high - k) (omega (arith, inside, within))),
        sum_to-same (span seg) (λ k. costs-on (high - (high - seg.upper + 1 + k))) (λ k. cost_for seg (seg.upper - (k + 1)))
            (λ k inside.
            let same : high - (high - seg.upper + 1 + k) ≡ seg.upper - (k + 1) = omega (arith, inside, within) in
            ap costs-on same ∙ at-new (seg.upper - (k + 1)) (omega (arith, inside, ordered))),
      )
