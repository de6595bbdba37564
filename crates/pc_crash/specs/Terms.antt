-- What a project's terms keep to, so that costs fit a number.
use Rattle.std.specs.Prelude.{ℕ, ◌<◌, ◌≤◌, List, length}
use Rattle.pc_model.specs.declared.Term.{Term}
use Rattle.pc_model.specs.Schedule.{normal_of, base_cost_of, slope_of}
use Rattle.pc_model.specs.declared.limits.TheConstants.{MAX_ACTIVITIES, MAX_DURATION, MAX_COST, MAX_SLOPE}

-- no more activities than a project may have, and none with a duration, a cost or a slope above its limit
pub record AreWithinLimits (terms : List Term) : Type 0 where
  pub few : length terms ≤ MAX_ACTIVITIES
  pub short : (a : ℕ) → a < length terms → normal_of terms a ≤ MAX_DURATION
  pub cheap : (a : ℕ) → a < length terms → base_cost_of terms a ≤ MAX_COST
  pub gentle : (a : ℕ) → a < length terms → slope_of terms a ≤ MAX_SLOPE
