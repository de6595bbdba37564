-- The totals of a length's neighbours, from what a unit of time costs and what it saves.
use Rattle.std.proofs.Common.{◌≡◌, ℕ, ◌+◌, ◌-◌, ◌<◌, ◌≤◌, Option, Some, None, ap, subst, arith}
use Rattle.std.specs.Prelude.{ℤ, pos, ◌+ℤ◌, ◌<ℤ◌, ◌≤ℤ◌, IfNone, IfSome}
use Rattle.std.proofs.lemmas.Int.{ints}
use Rattle.pc_model.specs.declared.TimeTerms.{TimeTerms}
use Rattle.pc_model.specs.TimeCost.{time_cost_of}
use Rattle.pc_total.specs.declared.optimum.Best.{Best}
use Rattle.pc_total.specs.Totals.{IsTotal}
use Rattle.pc_total.specs.Bests.{HaveSigns, IsRiseAbove, IsRiseBelow, IsBest}
use Rattle.pc_total.specs.inside.Stops.{unit_cost, IsGain, PaysToStop}
use Rattle.pc_total.proofs.ConvexLaws.{IsConvex}
use Rattle.pc_total.proofs.TotalLaws.{weight, weight-more, time-weight, signs-show}

module _ (terms : TimeTerms) (curve : ℕ → ℕ → Type 0) (is : IsConvex curve) where
  module _ (limit : ℕ) (total : ℤ) (of : IsTotal curve terms limit total) where
    -- one unit shorter
    below-is : (shortest slope : ℕ) (below : Option ℤ) → shortest ≤ limit → (shortest < limit → IsGain curve (limit - 1) slope)
        → IfNone below (limit ≤ shortest) → IfSome below (λ more. shortest < limit)
        → IfSome below (λ more. more +ℤ pos (unit_cost terms limit) ≡ pos slope) → IsRiseBelow curve terms shortest limit total below
    below-is shortest slope None low saved none above differs = omega (arith, low, none)
    below-is shortest slope (Some more) low saved none above differs =
        let gain = saved above in
        let back : limit - 1 + 1 ≡ limit = omega (arith, above) in
        let same : of.direct ≡ gain.cost = is.unique limit of.direct gain.cost of.least (subst (λ n. curve n gain.cost) back gain.longer) in (
          above,
          record {
            direct = gain.cost + slope;
            least = gain.here;
            adds = omega (
              arith,
              ints,
              time-weight terms limit,
              time-weight terms (limit - 1),
              weight-more terms (limit - 1),
              ap (weight terms) back,
              ap (unit_cost terms) back,
            );
          },
        )

    -- one unit longer
    above-is : (longest gain : ℕ) (above : Option ℤ) → limit ≤ longest → (limit < longest → IsGain curve limit gain)
        → IfNone above (longest ≤ limit) → IfSome above (λ more. limit < longest)
        → IfSome above (λ more. more +ℤ pos gain ≡ pos (unit_cost terms (limit + 1))) → IsRiseAbove curve terms longest limit total above
    above-is longest gain None high gained none below differs = omega (arith, high, none)
    above-is longest gain (Some more) high gained none below differs =
        let found = gained below in
        let same : of.direct ≡ found.cost + gain = is.unique limit of.direct (found.cost + gain) of.least found.here in (
          below,
          record {
            direct = found.cost;
            least = found.longer;
            adds = omega (arith, ints, time-weight terms limit, time-weight terms (limit + 1), weight-more terms limit);
          },
        )

  -- the signs of the differences
  dearer : (shortest limit slope : ℕ) (below : Option ℤ) → (shortest < limit → unit_cost terms limit < slope)
      → IfSome below (λ more. shortest < limit) → IfSome below (λ more. more +ℤ pos (unit_cost terms limit) ≡ pos slope)
      → IfSome below (λ more. pos 0 <ℤ more)
  dearer shortest limit slope None saves above differs = tt
  dearer shortest limit slope (Some more) saves above differs = let less = saves above in omega (arith, ints, less, differs)

  no_cheaper : (longest limit gain : ℕ) (above : Option ℤ) → (limit < longest → gain ≤ unit_cost terms (limit + 1))
      → IfSome above (λ more. limit < longest) → IfSome above (λ more. more +ℤ pos gain ≡ pos (unit_cost terms (limit + 1)))
      → IfSome above (λ more. pos 0 ≤ℤ more)
  no_cheaper longest limit gain None costs below differs = tt
  no_cheaper longest limit gain (Some more) costs below differs = let no_less = costs below in omega (arith, ints, no_less, differs)

  -- where it pays to stop, the optimum is
  pub best-is : terms.bonus ≤ terms.penalty → (shortest longest slope gain : ℕ) (best : Best) → shortest ≤ best.length → best.length ≤ longest
      → PaysToStop curve terms shortest longest best.length slope gain → curve best.length best.direct → best.time ≡ time_cost_of terms best.length
      → best.total ≡ (pos best.direct +ℤ best.time)
      → IfNone best.below (best.length ≤ shortest) → IfSome best.below (λ more. shortest < best.length)
      → IfSome best.below (λ more. more +ℤ pos (unit_cost terms best.length) ≡ pos slope)
      → IfNone best.above (longest ≤ best.length) → IfSome best.above (λ more. best.length < longest)
      → IfSome best.above (λ more. more +ℤ pos gain ≡ pos (unit_cost terms (best.length + 1)))
      → IsBest curve terms shortest longest best
  best-is small shortest longest slope gain best low high pays direct time total lowest above falls highest below rises =
      let of : IsTotal curve terms best.length best.total = record { direct = best.direct; least = direct; adds = omega (arith, ints, total, time) } in
      let shorter = below-is best.length best.total of shortest slope best.below low pays.saved lowest above falls in
      let longer = above-is best.length best.total of longest gain best.above high pays.gained highest below rises in
      let signs : HaveSigns best.below best.above = record {
        shorter = dearer shortest best.length slope best.below pays.saves above falls;
        longer = no_cheaper longest best.length gain best.above pays.costs below rises;
      } in
      record {
        optimum = signs-show terms curve is small shortest longest best.length best.total of best.below best.above low high shorter longer signs;
        direct = direct;
        time = time;
        total = total;
        below = shorter;
        above = longer;
        signs = signs;
      }
