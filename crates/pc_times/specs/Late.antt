-- Latest times: what the walks to the end leave, if the end is to be met at a given time.
use Rattle.std.specs.Prelude.{◌≡◌, ℕ, ◌<◌, ℤ, pos, ◌-ℤ◌, List, length, slice_index_or}
use Rattle.pc_model.specs.Network.{Network}
use Rattle.pc_times.specs.Times.{IsTail}

-- t is the time to be met at the end less the greatest sum of the lengths over the walks from event e to the end
abbrev pub IsLate : Network → List ℕ → ℤ → ℕ → ℤ → Type 0
IsLate net lengths by e t = (n : ℕ) × IsTail net lengths e n × (t ≡ by -ℤ pos n)

-- one time for each event, the time to be met at the end less the greatest sum over the walks from it to the end
pub record AreLate (net : Network) (lengths : List ℕ) (by : ℤ) (times : List ℤ) : Type 0 where
  pub one_each : length times ≡ net.events
  pub each : (e : ℕ) → e < net.events → IsLate net lengths by e (slice_index_or times e (pos 0))
