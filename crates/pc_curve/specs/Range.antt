-- The lengths of a priced network, from its all-crash to its all-normal length.
use Rattle.std.specs.Prelude.{ℕ, ◌≤◌}
use Rattle.pc_model.specs.Schedule.{IsAllCrashLength, IsAllNormalLength}
use Rattle.pc_crash.specs.Priced.{PricedNetwork}

-- the two ends of the range
pub record IsRange (net : PricedNetwork) (shortest longest : ℕ) : Type 0 where
  pub all_crash : IsAllCrashLength net.network net.terms shortest
  pub all_normal : IsAllNormalLength net.network net.terms longest

-- the length is one of the network
pub record IsLengthInRange (net : PricedNetwork) (limit : ℕ) : Type 0 where
  pub shortest : ℕ
  pub longest : ℕ
  pub range : IsRange net shortest longest
  pub above : shortest ≤ limit
  pub below : limit ≤ longest
