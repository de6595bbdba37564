-- Totals by length: the sum of what a length costs directly and what its units cost, less the bonus of all units of the target, is
-- convex, and so the totals of a length's neighbours say of it that it is the optimum.
use Rattle.std.proofs.Common.{◌≡◌, ℕ, ◌+◌, ◌-◌, ◌*◌, ◌^◌, ◌<◌, ◌≤◌, Option, Some, None, inl, inr, refl, ap, subst, arith}
use Rattle.std.specs.Prelude.{ℤ, pos, ◌+ℤ◌, ◌<ℤ◌, ◌≤ℤ◌, IfSome, min, nat_lt}
use Rattle.std.proofs.Math.Nat.{mul-add, mul-le-mul_left, mul-le-mul_right}
use Rattle.std.proofs.lemmas.Int.{ints}
use Rattle.std.proofs.lemmas.Bool.{cases_lt, lt-ltb, le-ltb, cond-true, cond-false}
use Rattle.pc_model.specs.declared.TimeTerms.{TimeTerms}
use Rattle.pc_model.specs.TimeCost.{AreTimeTerms, time_cost_of}
use Rattle.pc_flow.specs.declared.early.TheConstants.{MAX_LENGTH}
use Rattle.pc_total.specs.inside.TermsOfTime.{AreTermsOfTime}
use Rattle.pc_total.specs.Totals.{IsOptimum, IsTotal}
use Rattle.pc_total.specs.Bests.{HaveSigns, IsRiseAbove, IsRiseBelow}
use Rattle.pc_total.specs.inside.Stops.{unit_cost}
use Rattle.pc_total.proofs.ConvexLaws.{IsConvex, dearer-below, no-cheaper-above}

module _ (terms : TimeTerms) where
  -- what the first n units cost, if the bonus of all units of the target was paid before
  abbrev pub weight : ℕ → ℕ
  weight n = terms.overhead * n + (terms.penalty * (n - terms.target) + terms.bonus * min n terms.target)

  pub late-unit : (n : ℕ) → terms.target < n → unit_cost terms n ≡ terms.overhead + terms.penalty
  late-unit n late =
      ap (λ x. terms.overhead + x) (cond-true (nat_lt terms.target n) terms.penalty terms.bonus (lt-ltb terms.target n late))

  pub early-unit : (n : ℕ) → n ≤ terms.target → unit_cost terms n ≡ terms.overhead + terms.bonus
  early-unit n early =
      ap (λ x. terms.overhead + x) (cond-false (nat_lt terms.target n) terms.penalty terms.bonus (le-ltb terms.target n early))

  pub weight-more : (n : ℕ) → weight (n + 1) ≡ weight n + unit_cost terms (n + 1)
  weight-more n =
      elim (cases_lt terms.target (n + 1)) [
        | inl late ↦
            omega (
              arith,
              late-unit (n + 1) late,
              mul-add terms.overhead n 1,
              ap (λ k. terms.penalty * k) (let one : n + 1 - terms.target ≡ (n - terms.target) + 1 = omega (arith, late) in one),
              mul-add terms.penalty (n - terms.target) 1,
              ap (λ k. terms.bonus * k) (let same : min (n + 1) terms.target ≡ min n terms.target = omega (arith, late) in same),
            )
        | inr early ↦
            omega (
              arith,
              early-unit (n + 1) early,
              mul-add terms.overhead n 1,
              ap (λ k. terms.penalty * k) (let same : n + 1 - terms.target ≡ n - terms.target = omega (arith, early) in same),
              ap (λ k. terms.bonus * k) (let one : min (n + 1) terms.target ≡ min n terms.target + 1 = omega (arith, early) in one),
              mul-add terms.bonus (min n terms.target) 1,
            )
      ]

  -- no unit costs less than one before it
  pub units-rise : terms.bonus ≤ terms.penalty → (n : ℕ) → unit_cost terms n ≤ unit_cost terms (n + 1)
  units-rise small n =
      elim (cases_lt terms.target n) [
        | inl late ↦ omega (arith, late-unit n late, late-unit (n + 1) (omega (arith, late)))
        | inr early ↦ elim (cases_lt terms.target (n + 1)) [
          | inl late ↦ omega (arith, early-unit n early, late-unit (n + 1) late, small)
          | inr still ↦ omega (arith, early-unit n early, early-unit (n + 1) still)
        ]
      ]

  -- the bonus of all units of the target
  abbrev pub prize : ℕ
  prize = terms.bonus * terms.target

  pub time-weight : (n : ℕ) → time_cost_of terms n +ℤ pos prize ≡ pos (weight n)
  time-weight n =
      omega (
        arith,
        ints,
        ap (λ k. terms.bonus * k) (let parts : terms.target ≡ min n terms.target + (terms.target - n) = omega arith in parts),
        mul-add terms.bonus (min n terms.target) (terms.target - n),
      )

  module _ (curve : ℕ → ℕ → Type 0) (is : IsConvex curve) (small : terms.bonus ≤ terms.penalty) where
    -- a length's total, and the bonus of all units of the target
    pub record Weighs (limit w : ℕ) : Type 0 where
      pub direct : ℕ
      pub least : curve limit direct
      pub adds : w ≡ direct + weight limit

    weights-convex : IsConvex Weighs
    weights-convex = record {
      unique = λ limit a b first second. omega (arith, first.adds, second.adds, is.unique limit first.direct second.direct first.least second.least);
      convex = λ limit a b c first second third. omega (
        arith,
        first.adds,
        second.adds,
        third.adds,
        is.convex limit first.direct second.direct third.direct first.least second.least third.least,
        weight-more limit,
        weight-more (limit + 1),
        ap weight (let two : limit + 2 ≡ limit + 1 + 1 = omega arith in two),
        units-rise small (limit + 1),
      );
      goes_on = λ limit a longer first more none.
          is.goes_on limit first.direct longer first.least more
          (λ found. none (found.0 + weight longer, record { direct = found.0; least = found.1; adds = refl }));
    }

    weighs : (limit : ℕ) (total : ℤ) (of : IsTotal curve terms limit total) → Weighs limit (of.direct + weight limit)
    weighs limit total of = record { direct = of.direct; least = of.least; adds = refl }

    total-weighs : (limit : ℕ) (total : ℤ) (of : IsTotal curve terms limit total) → total +ℤ pos prize ≡ pos (of.direct + weight limit)
    total-weighs limit total of = omega (arith, ints, of.adds, time-weight limit)

    module _ (shortest longest limit : ℕ) (total : ℤ) (of : IsTotal curve terms limit total) where
      dearer : (below : Option ℤ) → IsRiseBelow curve terms shortest limit total below → IfSome below (λ more. pos 0 <ℤ more)
          → (other : ℕ) (cost : ℤ) → shortest ≤ other → other < limit → IsTotal curve terms other cost → total <ℤ cost
      dearer None at sign other cost low under there = absurd (omega (arith, at, low, under))
      dearer (Some more) (above, neighbour) sign other cost low under there =
          let before : limit ≡ limit - 1 + 1 = omega (arith, above) in
          let less : of.direct + weight limit < neighbour.direct + weight (limit - 1) =
          omega (arith, ints, sign, total-weighs limit total of, total-weighs (limit - 1) (total +ℤ more) neighbour) in
          let far : of.direct + weight limit < there.direct + weight other =
          dearer-below Weighs weights-convex (limit - 1 - other) other (limit - 1) (of.direct + weight limit) (neighbour.direct + weight (limit - 1))
          (there.direct + weight other) (omega (arith, under)) (weighs other cost there) (weighs (limit - 1) (total +ℤ more) neighbour)
          (subst (λ n. Weighs n (of.direct + weight limit)) before (weighs limit total of)) less in
          omega (arith, ints, far, total-weighs limit total of, total-weighs other cost there)

      no_cheaper : (above : Option ℤ) → IsRiseAbove curve terms longest limit total above → IfSome above (λ more. pos 0 ≤ℤ more)
          → (other : ℕ) (cost : ℤ) → limit < other → other ≤ longest → IsTotal curve terms other cost → total ≤ℤ cost
      no_cheaper None at sign other cost over high there = absurd (omega (arith, at, over, high))
      no_cheaper (Some more) (below, neighbour) sign other cost over high there =
          let no_less : of.direct + weight limit ≤ neighbour.direct + weight (limit + 1) =
          omega (arith, ints, sign, total-weighs limit total of, total-weighs (limit + 1) (total +ℤ more) neighbour) in
          let far : of.direct + weight limit ≤ there.direct + weight other =
          no-cheaper-above Weighs weights-convex (other - (limit + 1)) limit other (of.direct + weight limit) (neighbour.direct + weight (limit + 1))
          (there.direct + weight other) (omega (arith, over)) (weighs limit total of) (weighs (limit + 1) (total +ℤ more) neighbour)
          (weighs other cost there) no_less in
          omega (arith, ints, far, total-weighs limit total of, total-weighs other cost there)

      same_total : (other : ℕ) (cost : ℤ) → limit ≡ other → IsTotal curve terms other cost → total ≤ℤ cost
      same_total other cost at there =
          let same : of.direct ≡ there.direct = is.unique other of.direct there.direct (subst (λ n. curve n of.direct) at of.least) there.least in
          omega (arith, ints, same, ap weight at, total-weighs limit total of, total-weighs other cost there)

      -- the two signs alone say that it is the optimum
      pub signs-show : (below above : Option ℤ) → shortest ≤ limit → limit ≤ longest → IsRiseBelow curve terms shortest limit total below
          → IsRiseAbove curve terms longest limit total above → HaveSigns below above → IsOptimum curve terms shortest longest limit total
      signs-show below above low high shorter longer signs = record {
        above = low;
        below = high;
        costs = of;
        least = λ other cost first last there. elim (cases_lt other limit) [
          | inl under ↦
              let less = dearer below shorter signs.shorter other cost first under there in
              omega (arith, ints, less)
          | inr no_under ↦ elim (cases_lt limit other) [
            | inl over ↦ no_cheaper above longer signs.longer other cost over last there
            | inr no_over ↦ same_total other cost (omega (arith, no_under, no_over)) there
          ]
        ];
        shorter = dearer below shorter signs.shorter;
      }

products-small : (a b m n : ℕ) → a ≤ m → b ≤ n → a * b ≤ m * n
products-small a b m n few some = omega (arith, mul-le-mul_left a some, mul-le-mul_right n few)

-- terms whose bonus is at most the penalty are within the limits
pub within-limits : {terms : TimeTerms} → AreTimeTerms terms → AreTermsOfTime terms
within-limits are = record { overhead = are.overhead; target = are.target; bonus = omega (arith, are.bonus, are.penalty); penalty = are.penalty }

-- what the time of a length costs is small
module _ (terms : TimeTerms) (are : AreTermsOfTime terms) (n : ℕ) (small : n ≤ MAX_LENGTH) where
  pub dear-small : terms.overhead * n + terms.penalty * (n - terms.target) ≤ 2 * 10 ^ 18
  dear-small =
      omega (
        arith,
        products-small terms.overhead n (10 ^ 9) (10 ^ 9) (omega (arith, are.overhead)) (omega (arith, small)),
        products-small terms.penalty (n - terms.target) (10 ^ 9) (10 ^ 9) (omega (arith, are.penalty)) (omega (arith, small)),
      )

  pub earned-small : terms.bonus * (terms.target - n) ≤ 10 ^ 18
  earned-small =
      omega (
        arith,
        products-small terms.bonus (terms.target - n) (10 ^ 9) (10 ^ 9) (omega (arith, are.bonus)) (omega (arith, are.target)),
      )
