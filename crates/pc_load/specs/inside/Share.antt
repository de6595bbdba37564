-- The share of a spread amount up to a time, and its part between two times.
-- Here is what no clause of a top call and no law reaches.
use Rattle.std.specs.Prelude.{◌<◌, ◌≤◌, ◌^◌}
use Rattle.pc_model.specs.declared.limits.TheConstants.{MAX_COST}
use Rattle.pc_times.specs.declared.TheConstants.{MAX_ACTIVITY_LENGTH}
use Rattle.pc_load.specs.declared.spread.Spread.{Spread}

-- the spread is one of a project: it begins at a time of one, lasts no longer than an activity may, and its amount is one of
-- a card
pub record IsSpread (s : Spread) : Type 0 where
  pub begin : s.begin < 2 ^ 40
  pub length : s.length ≤ MAX_ACTIVITY_LENGTH
  pub amount : s.amount ≤ MAX_COST
