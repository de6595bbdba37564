-- The way down to a length.
use Rattle.std.proofs.Common.{◌≡◌, ℕ, ◌+◌, ◌<◌, ◌≤◌, Bool, true, false, if◌then◌else◌, inl, inr, sym, ◌∙◌, arith}
use Rattle.std.specs.Prelude.{◌↔◌, IsFalse}
use Rattle.std.proofs.lemmas.Bool.{cases_Bool, cases_lt}
use Rattle.pc_flow.specs.Courses.{Course, upper_of, lower_of, IsLevel, IsSameCurve}
use Rattle.pc_flow.specs.inside.Courses.{HasEnded, IsNext}
use Rattle.pc_curve.specs.inside.Points.{IsToCome}

-- one step comes before the first segment
abbrev step_before : Bool → ℕ
step_before given = if given then 0 else 1

-- how far it is down from the present segment, and that step
abbrev pub left : Course → ℕ
left c = step_before c.given + lower_of c

-- above the length there is a next segment
pub goes-on : (c : Course) (limit : ℕ) → IsToCome c limit → (c.given ≡ true → lower_of c ≤ limit → ⊥) → (r : Bool) → IsFalse r ↔ HasEnded c → r ≡ true
goes-on c limit to_come high r decides =
    elim (cases_Bool r) [
      | inl goes ↦ goes
      | inr ends ↦ absurd (high (decides.0 ends).given (omega (arith, (decides.0 ends).lowest, to_come.above)))
    ]

module _ (c d : Course) (limit : ℕ) (to_come : IsToCome c limit) (level : c.given ≡ false → IsLevel c) (same : IsSameCurve c d) (next : IsNext c d) where
  -- before the first segment all of the range is left
  begins : c.given ≡ false → upper_of d ≡ lower_of c
  begins none =
      let at : lower_of c ≡ c.longest = omega (arith, (level none).upper, (level none).fall) in
      next.first none ∙ sym at

  joined : upper_of d ≡ lower_of c
  joined =
      elim (cases_Bool c.given) [
        | inl given ↦ next.joined given
        | inr none ↦ begins none
      ]

  -- a segment that does not reach down to the length ends above it
  not_low : (c.given ≡ true → lower_of c ≤ limit → ⊥) → c.given ≡ true → limit < lower_of c
  not_low high had =
      elim (cases_lt limit (lower_of c)) [
        | inl above ↦ above
        | inr low ↦ absurd (high had low)
      ]

  -- one that does not reach down to it leaves it to come
  pub still-to_come : (c.given ≡ true → lower_of c ≤ limit → ⊥) → IsToCome d limit
  still-to_come high = record {
    above = omega (arith, to_come.above, same.shortest);
    within = omega (arith, to_come.within, same.longest);
    below = λ given. elim (cases_Bool c.given) [
      | inl had ↦ omega (arith, joined, not_low high had)
      | inr none ↦ omega (arith, next.first none, to_come.within)
    ];
  }
