-- How long the work of each item can wait.
-- Here is what no clause of a top call and no law reaches.
use Rattle.std.specs.Prelude.{◌≡◌, ℕ, ◌<◌, ℤ, List, length, slice_index}
use Rattle.pc_rollup.specs.declared.totals.Placed.{Placed}
use Rattle.pc_rollup.specs.inside.Totals.{placed_at}

-- the slack of each of the first n activities, on the activity's item
pub record ArePlacedSlacks (places : List ℕ) (slack : ℕ → ℤ) (n : ℕ) (placed : List Placed) : Type 0 where
  pub one_each : length placed ≡ n
  pub each : (a : ℕ) → a < n → placed_at placed a ≡ record { item = slice_index places a; amount = slack a }
