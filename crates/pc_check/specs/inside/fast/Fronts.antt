-- How the lines of each event begin.
use Rattle.std.specs.Prelude.{◌≡◌, ℕ, ◌<◌, List, [], length, slice_index_or}
use Rattle.pc_model.specs.Codes.{text_at}
use Rattle.pc_crash.specs.Priced.{PricedNetwork}
use Rattle.pc_cert.specs.declared.event.EventFront.{EventFront}
use Rattle.pc_cert.specs.inside.Known.{IsFrontOf}

-- how the lines of event e begin
abbrev pub front_at : List EventFront → ℕ → EventFront
front_at fronts e = slice_index_or fronts e (record { code = []; cells = [] })

-- so the lines of each event begin
pub record AreFronts (net : PricedNetwork) (fronts : List EventFront) : Type 0 where
  pub one_each : length fronts ≡ net.network.events
  pub each : (e : ℕ) → e < net.network.events → IsFrontOf (text_at net.events e) (front_at fronts e)
