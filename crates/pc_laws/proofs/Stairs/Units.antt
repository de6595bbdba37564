-- The units of a staircase: on which knee each runs, and how their lengths are ordered.
use Rattle.std.proofs.Common.{◌≡◌, ◌⊎◌, Bool, true, false, ℕ, zero, suc, ◌<◌, ◌≤◌, inl, inr, refl, ap, sym, ◌∙◌, arith}
use Rattle.std.specs.Prelude.{nat_lt, if◌then◌else◌}
use Rattle.std.proofs.lemmas.Bool.{cases_lt, cases_eq, cond-true, cond-false, lt-ltb, le-ltb}
use Rattle.pc_model.specs.Sums.{sum_to}
use Rattle.pc_model.proofs.Sums.{sum_to-le, sum_to-mono, sum_to-ends}
use Rattle.pc_laws.specs.Stair.{Stair, IsFalling, reach, full_reach, length_to, unit_length, rises_over}

-- among rises one after the other, x is after all of them or within one
within : (n : ℕ) (rise : ℕ → ℕ) (x : ℕ) → (sum_to n rise ≤ x) ⊎ ((k : ℕ) × (k < n) × (sum_to k rise ≤ x) × (x < sum_to (suc k) rise))
within zero rise x = inl (omega arith)
within (suc n) rise x =
    elim (within n rise x) [
      | inl past ↦ elim (cases_lt x (sum_to (suc n) rise)) [
        | inl under ↦ inr (n, omega arith, past, under)
        | inr over ↦ inl over
      ]
      | inr at ↦ inr (at.0, omega (arith, at.1), at.2, at.3)
    ]

-- after all rises a unit runs on the crash duration
past_all : (n : ℕ) (knee rise : ℕ → ℕ) (crash x : ℕ) → sum_to n rise ≤ x → length_to n knee rise crash x ≡ crash
past_all zero knee rise crash x past = refl
past_all (suc n) knee rise crash x past =
    cond-false (nat_lt x (sum_to n rise)) _ _ (le-ltb x (sum_to n rise) (omega arith))
    ∙ cond-false (nat_lt x (sum_to (suc n) rise)) (knee n) crash (le-ltb x (sum_to (suc n) rise) past)

-- within the k-th rise it runs on the k-th knee
within_one : (n : ℕ) (knee rise : ℕ → ℕ) (crash x k : ℕ) → k < n → sum_to k rise ≤ x → x < sum_to (suc k) rise → length_to n knee rise crash x ≡ knee k
within_one zero knee rise crash x k l from to = absurd (omega arith)
within_one (suc n) knee rise crash x k l from to =
    elim (cases_eq k n) [
      | inl e ↦
          let from_n : sum_to n rise ≤ x = omega (arith, ap (λ m. sum_to m rise) e) in
          let to_n : x < sum_to (suc n) rise = omega (arith, ap (λ m. sum_to m rise) e, ap rise e) in
          cond-false (nat_lt x (sum_to n rise)) _ _ (le-ltb x (sum_to n rise) from_n)
          ∙ (cond-true (nat_lt x (sum_to (suc n) rise)) (knee n) crash (lt-ltb x (sum_to (suc n) rise) to_n) ∙ ap knee (sym e))
      | inr ne ↦
          cond-true (nat_lt x (sum_to n rise)) _ _ (lt-ltb x (sum_to n rise) (omega (arith, sum_to-mono (suc k) n rise (omega arith))))
          ∙ within_one n knee rise crash x k (omega arith) from to
    ]

module _ (s : Stair) where
  -- each unit runs on a knee, or is after them all
  pub place : (x : ℕ) → (full_reach s ≤ x) ⊎ ((k : ℕ) × (k < s.count) × (reach s k ≤ x) × (x < reach s (suc k)))
  place x = within s.count s.rise x

  pub unit-past : (x : ℕ) → full_reach s ≤ x → unit_length s x ≡ s.crash
  unit-past x past = past_all s.count s.knee s.rise s.crash x past

  pub unit-at : (x k : ℕ) → k < s.count → reach s k ≤ x → x < reach s (suc k) → unit_length s x ≡ s.knee k
  unit-at x k l from to = within_one s.count s.knee s.rise s.crash x k l from to

  -- so each unit runs on the crash duration or on a knee
  pub unit-runs : (x : ℕ) → ((full_reach s ≤ x) × (unit_length s x ≡ s.crash))
      ⊎ ((k : ℕ) × (k < s.count) × (reach s k ≤ x) × (x < reach s (suc k)) × (unit_length s x ≡ s.knee k))
  unit-runs x =
      elim (place x) [
        | inl past ↦ inl (past, unit-past x past)
        | inr at ↦ inr (at.0, at.1, at.2, at.3, unit-at x at.0 at.1 at.2 at.3)
      ]

  module _ (falling : IsFalling s) where
    -- a unit below the reach of a knee runs on no shorter arc than the knee
    pub unit-least : (x k : ℕ) → k < s.count → x < reach s (suc k) → s.knee k ≤ unit_length s x
    unit-least x k l under =
        elim (place x) [
          | inl past ↦ absurd (omega (arith, sum_to-mono (suc k) s.count s.rise (omega arith)))
          | inr at ↦ elim (cases_lt k at.0) [
            | inl later ↦ absurd (omega (arith, at.2, sum_to-mono (suc k) at.0 s.rise (omega arith)))
            | inr before ↦ omega (arith, unit-at x at.0 at.1 at.2 at.3, falling.ordered at.0 k before l)
          ]
        ]

    -- and one that does not run on the knees before it on no longer one
    pub unit-most : (x k : ℕ) → k < s.count → reach s k ≤ x → unit_length s x ≤ s.knee k
    unit-most x k l over =
        elim (place x) [
          | inl past ↦ omega (arith, unit-past x past, falling.above k l)
          | inr at ↦ elim (cases_lt at.0 k) [
            | inl earlier ↦ absurd (omega (arith, at.3, sum_to-mono (suc at.0) k s.rise (omega arith)))
            | inr from ↦ omega (arith, unit-at x at.0 at.1 at.2 at.3, falling.ordered k at.0 from at.1)
          ]
        ]

    -- no unit runs on less than the crash duration
    pub unit-crash : (x : ℕ) → s.crash ≤ unit_length s x
    unit-crash x =
        elim (place x) [
          | inl past ↦ omega (arith, unit-past x past)
          | inr at ↦ omega (arith, unit-at x at.0 at.1 at.2 at.3, falling.above at.0 at.1)
        ]

    -- nor on more than the first knee
    pub unit-top : 0 < s.count → (x : ℕ) → unit_length s x ≤ s.knee 0
    unit-top some x = unit-most x 0 some (omega arith)

    -- a later unit runs on no longer arc
    pub unit-falls : (x y : ℕ) → x ≤ y → unit_length s y ≤ unit_length s x
    unit-falls x y l =
        elim (place x) [
          | inl past ↦ omega (arith, unit-past x past, unit-past y (omega arith))
          | inr at ↦ omega (arith, unit-at x at.0 at.1 at.2 at.3, unit-most y at.0 at.1 (omega (arith, at.2)))
        ]

    -- a unit whose arc is not longer than a gap comes after the rises of all knees above the gap
    pub unit-over : (gap x : ℕ) → unit_length s x ≤ gap → rises_over s gap ≤ x
    unit-over gap x low =
        elim (place x) [
          | inl past ↦ omega (arith, sum_to-le s.count (λ k. if nat_lt gap (s.knee k) then s.rise k else 0) s.rise (λ k l. at_most (nat_lt gap (s.knee k)) (s.rise k)))
          | inr at ↦ omega (
            arith,
            at.2,
            sum_to-ends s.count at.0 (λ k. if nat_lt gap (s.knee k) then s.rise k else 0) (omega (arith, at.1))
                (λ j from to. cond-false (nat_lt gap (s.knee j)) (s.rise j) 0 (le-ltb gap (s.knee j) (omega (arith, unit-at x at.0 at.1 at.2 at.3, falling.ordered at.0 j from to)))),
            sum_to-le at.0 (λ k. if nat_lt gap (s.knee k) then s.rise k else 0) s.rise (λ k l. at_most (nat_lt gap (s.knee k)) (s.rise k)),
          )
        ]
      where
        at_most : (b : Bool) (r : ℕ) → (if b then r else 0) ≤ r
        at_most true r = omega arith
        at_most false r = omega arith

    -- and if the gap is not below crash, a unit after them has no longer arc than the gap
    pub over-unit : (gap x : ℕ) → s.crash ≤ gap → rises_over s gap ≤ x → unit_length s x ≤ gap
    over-unit gap x room behind =
        elim (cases_lt gap (unit_length s x)) [
          | inl long ↦ elim (place x) [
            | inl past ↦ absurd (omega (arith, unit-past x past))
            | inr at ↦ absurd (omega (
              arith,
              at.3,
              sum_to-mono (suc at.0) s.count (λ k. if nat_lt gap (s.knee k) then s.rise k else 0) (omega (arith, at.1)),
              sum_to-le (suc at.0) s.rise (λ k. if nat_lt gap (s.knee k) then s.rise k else 0)
                  (λ j l. omega (
                    arith,
                    cond-true (nat_lt gap (s.knee j)) (s.rise j) 0
                        (lt-ltb gap (s.knee j) (omega (arith, unit-at x at.0 at.1 at.2 at.3, falling.ordered j at.0 (omega arith) at.1))),
                  )),
            ))
          ]
          | inr short ↦ short
        ]
