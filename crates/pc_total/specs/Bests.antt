-- An optimum, and what shows that it is one: the totals one unit shorter and one unit longer.
use Rattle.std.specs.Prelude.{◌≡◌, ℕ, ℤ, pos, ◌+◌, ◌-◌, ◌<◌, ◌+ℤ◌, ◌<ℤ◌, ◌≤ℤ◌, Option, MatchOption, IfSome}
use Rattle.pc_model.specs.declared.TimeTerms.{TimeTerms}
use Rattle.pc_model.specs.TimeCost.{time_cost_of}
use Rattle.pc_total.specs.Totals.{IsOptimum, IsTotal}
use Rattle.pc_total.specs.declared.optimum.Best.{Best}

-- the total one unit shorter is this much above that of the length; there is none if and only if it is the shortest
-- length
abbrev pub IsRiseBelow : (ℕ → ℕ → Type 0) → TimeTerms → ℕ → ℕ → ℤ → Option ℤ → Type 0
IsRiseBelow curve terms shortest limit total below =
    MatchOption below (limit ≡ shortest) (λ more. (shortest < limit) × IsTotal curve terms (limit - 1) (total +ℤ more))

-- and the total one unit longer is this much above it; there is none if and only if it is the longest length
abbrev pub IsRiseAbove : (ℕ → ℕ → Type 0) → TimeTerms → ℕ → ℕ → ℤ → Option ℤ → Type 0
IsRiseAbove curve terms longest limit total above =
    MatchOption above (limit ≡ longest) (λ more. (limit < longest) × IsTotal curve terms (limit + 1) (total +ℤ more))

-- one unit shorter costs more in all, and one unit longer no less
pub record HaveSigns (below above : Option ℤ) : Type 0 where
  pub shorter : IfSome below (λ more. pos 0 <ℤ more)
  pub longer : IfSome above (λ more. pos 0 ≤ℤ more)

-- this is the optimum of a curve over a range, with the least cost of a schedule for it, what its time costs, and the two
-- signs that show it
pub record IsBest (curve : ℕ → ℕ → Type 0) (terms : TimeTerms) (shortest longest : ℕ) (best : Best) : Type 0 where
  pub optimum : IsOptimum curve terms shortest longest best.length best.total
  pub direct : curve best.length best.direct
  pub time : best.time ≡ time_cost_of terms best.length
  pub total : best.total ≡ (pos best.direct +ℤ best.time)
  pub below : IsRiseBelow curve terms shortest best.length best.total best.below
  pub above : IsRiseAbove curve terms longest best.length best.total best.above
  pub signs : HaveSigns best.below best.above
