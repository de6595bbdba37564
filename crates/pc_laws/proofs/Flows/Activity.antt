-- Laws of one activity's cost and flow: at one knee, and at all knees of an activity.
use Rattle.std.proofs.Common.{◌≡◌, ℕ, ◌+◌, ◌-◌, ◌*◌, ◌<◌, ◌≤◌, min, inl, inr, ap, arith}
use Rattle.std.proofs.lemmas.Bool.{cases_lt, cases_order}
use Rattle.std.proofs.Math.Nat.{add-mul, mul_comm, mul-le-mul_left, mul-le-mul_right}
use Rattle.pc_model.specs.Sums.{sum_to}
use Rattle.pc_laws.specs.Tight.{IsSlackAtKnee}
use Rattle.pc_model.proofs.Sums.{sum_to-add, sum_to-le, sum_to-same, sum_to-times}

-- a flow within the rise asks no more at a knee than the cost there and the duration times the flow
pub knee_asks : (knee rise d f : ℕ) → f ≤ rise → knee * f ≤ rise * (knee - d) + d * f
knee_asks knee rise d f within =
    elim (cases_lt d knee) [
      | inl h ↦ let split : knee ≡ d + (knee - d) = omega arith in
          omega (arith, ap (λ x. x * f) split, add-mul d (knee - d) f, mul-le-mul_left (knee - d) within, mul_comm rise (knee - d))
      | inr h ↦ omega (arith, mul-le-mul_right f h)
    ]

-- where the flow fits the gap, and the duration is the lesser of normal and gap, it asks exactly that
pub knee_balances : (tail head knee rise f normal d : ℕ) → IsSlackAtKnee tail head knee rise f → knee ≤ normal → tail ≤ head →
    d ≡ min normal (head - tail) → knee * f ≡ rise * (knee - d) + d * f
knee_balances tail head knee rise f normal d slack low room is =
    elim (cases_order (tail + knee) head) [
      | inl e ↦
          let same : d ≡ knee = omega arith in
          let none : knee - d ≡ 0 = omega arith in
          omega (arith, ap (λ x. x * f) same, ap (λ x. rise * x) none)
      | inr o ↦ elim o [
        | inl h ↦
            let none : knee - d ≡ 0 = omega arith in
            omega (arith, ap (λ x. knee * x) (slack.above h), ap (λ x. d * x) (slack.above h), ap (λ x. rise * x) none)
        | inr h ↦
            let split : knee ≡ (knee - d) + d = omega arith in
            omega (arith, ap (λ x. x * f) split, add-mul (knee - d) d f, ap (λ x. (knee - d) * x) (slack.below h), mul_comm rise (knee - d))
      ]
    ]

-- where g is 0 above crash, crash times g is the duration times g
pub crash_balances : (tail head crash normal g d : ℕ) → (tail + crash < head → g ≡ 0) → tail + crash ≤ head → crash ≤ normal →
    d ≡ min normal (head - tail) → crash * g ≡ d * g
crash_balances tail head crash normal g d above room low is =
    omega (arith, knee_balances tail head crash 0 g normal d (record { above = above; below = λ near. absurd (omega arith) }) low (omega arith) is)

-- where nothing flows above normal, the flow goes exactly as far as the gap
pub flow_spans : (tail head normal along d : ℕ) → (tail + normal < head → along ≡ 0) → tail ≤ head →
    d ≡ min normal (head - tail) → tail * along + d * along ≡ head * along
flow_spans tail head normal along d above room is =
    elim (cases_lt (tail + normal) head) [
      | inl h ↦ omega (arith, ap (λ x. tail * x) (above h), ap (λ x. head * x) (above h), ap (λ x. d * x) (above h))
      | inr h ↦ let same : tail + d ≡ head = omega arith in omega (arith, ap (λ x. x * along) same, add-mul tail d along)
    ]

-- the flows of an activity ask no more at its knees than its cost there and the duration times their sum
pub knees_ask : (K : ℕ) (knee rise f : ℕ → ℕ) (d : ℕ) → ((k : ℕ) → k < K → f k ≤ rise k) →
    sum_to K (λ k. knee k * f k) ≤ sum_to K (λ k. rise k * (knee k - d)) + d * sum_to K f
knees_ask K knee rise f d within =
    omega (
      arith,
      sum_to-le K (λ k. knee k * f k) (λ k. rise k * (knee k - d) + d * f k) (λ k h. knee_asks (knee k) (rise k) d (f k) (within k h)),
      sum_to-add K (λ k. rise k * (knee k - d)) (λ k. d * f k),
      sum_to-times K d f,
    )

-- where they fit the gap, they ask exactly that
pub knees_balance : (K : ℕ) (knee rise f : ℕ → ℕ) (tail head normal d : ℕ) →
    ((k : ℕ) → k < K → IsSlackAtKnee tail head (knee k) (rise k) (f k)) → ((k : ℕ) → k < K → knee k ≤ normal) → tail ≤ head →
    d ≡ min normal (head - tail) → sum_to K (λ k. knee k * f k) ≡ sum_to K (λ k. rise k * (knee k - d)) + d * sum_to K f
knees_balance K knee rise f tail head normal d slack low room is =
    omega (
      arith,
      sum_to-same K (λ k. knee k * f k) (λ k. rise k * (knee k - d) + d * f k)
          (λ k h. knee_balances tail head (knee k) (rise k) (f k) normal d (slack k h) (low k h) room is),
      sum_to-add K (λ k. rise k * (knee k - d)) (λ k. d * f k),
      sum_to-times K d f,
    )
