-- What is said of the time-cost curve of a network.
use Rattle.std.specs.Prelude.{◌≡◌, ℕ, ◌+◌, ◌-◌, ◌≤◌, List, length}
use Rattle.pc_model.specs.Sums.{sum_to}
use Rattle.pc_model.specs.Schedule.{IsAllNormalLength, IsAllCrashLength}
use Rattle.pc_laws.specs.Curve.{Breakpoint, AreBreakpoints}
use Rattle.pc_crash.specs.Priced.{PricedNetwork}
use Rattle.pc_curve.specs.Points.{curve_in}
use Rattle.pc_curve.specs.declared.bench.figures.CurveFigures.{CurveFigures}

-- this is the sum of the least costs of all lengths from the longest down to the shortest
pub record IsSumOfCosts (curve : ℕ → ℕ → Type 0) (shortest longest sum : ℕ) : Type 0 where
  pub costs : ℕ → ℕ
  pub least : (limit : ℕ) → shortest ≤ limit → limit ≤ longest → curve limit (costs limit)
  pub total : sum ≡ sum_to (longest - shortest + 1) (λ k. costs (longest - k))

-- the curve has this many breakpoints
pub record HasBreaks (curve : ℕ → ℕ → Type 0) (shortest longest number : ℕ) : Type 0 where
  pub points : List Breakpoint
  pub breaks : AreBreakpoints curve shortest longest points
  pub count : number ≡ length points

-- these are the figures of the network's curve
pub record IsFiguresOf (net : PricedNetwork) (f : CurveFigures) : Type 0 where
  pub all_normal : IsAllNormalLength net.network net.terms f.longest
  pub longest_cost : curve_in net f.longest f.longest_cost
  pub all_crash : IsAllCrashLength net.network net.terms f.shortest
  pub shortest_cost : curve_in net f.shortest f.shortest_cost
  pub breaks : HasBreaks (curve_in net) f.shortest f.longest f.breaks
  pub sum : IsSumOfCosts (curve_in net) f.shortest f.longest f.sum
