-- Event times: the greatest sums of lengths over the walks from the start, and over those to the end.
-- Here is what no clause of a top call and no law reaches.
use Rattle.std.specs.Prelude.{◌≡◌, ℕ, ◌<◌, List, length, slice_index}
use Rattle.pc_model.specs.Network.{Network}
use Rattle.pc_times.specs.Times.{IsTail}

-- one number for each event, the greatest sum of the lengths over the walks from it to the end
pub record AreTails (net : Network) (lengths tails : List ℕ) : Type 0 where
  pub one_each : length tails ≡ net.events
  pub each : (e : ℕ) → e < net.events → IsTail net lengths e (slice_index tails e)
