-- Segments that say the same of a network.
use Rattle.std.specs.Prelude.{◌≡◌, ℕ, ◌<◌, List, length}
use Rattle.pc_laws.specs.Segment.{Segment}
use Rattle.pc_laws.specs.Cover.{segment_at}
use Rattle.pc_crash.specs.Priced.{PricedNetwork, knees_in}

-- two segments say the same of the events and the activities of a network
pub record SaySame (net : PricedNetwork) (seg other : Segment) : Type 0 where
  pub upper : other.upper ≡ seg.upper
  pub lower : other.lower ≡ seg.lower
  pub cost : other.cost ≡ seg.cost
  pub slope : other.slope ≡ seg.slope
  pub time : (e : ℕ) → e < net.network.events → other.time e ≡ seg.time e
  pub moves : (e : ℕ) → e < net.network.events → other.moves e ≡ seg.moves e
  pub duration : (a : ℕ) → a < length net.network.arcs → other.duration a ≡ seg.duration a
  pub flow : (a k : ℕ) → a < length net.network.arcs → k < (knees_in net).count a → other.flow a k ≡ seg.flow a k
  pub beside : (a : ℕ) → a < length net.network.arcs → other.beside a ≡ seg.beside a

-- as many segments, each of which states the same
pub record AllSaySame (net : PricedNetwork) (segments others : List Segment) : Type 0 where
  pub one_each : length others ≡ length segments
  pub each : (k : ℕ) → k < length segments → SaySame net (segment_at segments k) (segment_at others k)
