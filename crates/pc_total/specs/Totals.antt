-- What a project costs in all for a length, and the length for which it costs least.
--
-- A curve is given as a relation: `curve limit cost` says that this is the least cost of a schedule for this length.
use Rattle.std.specs.Prelude.{◌≡◌, ℕ, ℤ, pos, ◌<◌, ◌≤◌, ◌+ℤ◌, ◌<ℤ◌, ◌≤ℤ◌}
use Rattle.pc_model.specs.declared.TimeTerms.{TimeTerms}
use Rattle.pc_model.specs.TimeCost.{time_cost_of}

-- what the project costs in all for a length: the least cost of a schedule for it, and what its time costs
pub record IsTotal (curve : ℕ → ℕ → Type 0) (terms : TimeTerms) (limit : ℕ) (total : ℤ) : Type 0 where
  pub direct : ℕ
  pub least : curve limit direct
  pub adds : total ≡ (pos direct +ℤ time_cost_of terms limit)

-- the length is in the range, and this is its total; no length of the range has a lesser total, and no shorter one an
-- equal one
pub record IsOptimum (curve : ℕ → ℕ → Type 0) (terms : TimeTerms) (shortest longest limit : ℕ) (total : ℤ) : Type 0 where
  pub above : shortest ≤ limit
  pub below : limit ≤ longest
  pub costs : IsTotal curve terms limit total
  pub least : (other : ℕ) (cost : ℤ) → shortest ≤ other → other ≤ longest → IsTotal curve terms other cost → total ≤ℤ cost
  pub shorter : (other : ℕ) (cost : ℤ) → shortest ≤ other → other < limit → IsTotal curve terms other cost → total <ℤ cost
