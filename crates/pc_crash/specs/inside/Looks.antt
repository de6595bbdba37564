-- What one look at an activity returns.
use Rattle.std.specs.Prelude.{◌≡◌, ℕ}
use Rattle.pc_model.specs.Schedule.{crash_of, normal_of, slope_of}
use Rattle.pc_model.specs.Walk.{from_of, to_of}
use Rattle.pc_crash.specs.declared.crash_net.Look.{Look}
use Rattle.pc_crash.specs.inside.KneeLists.{AreKneesOf}
use Rattle.pc_crash.specs.Priced.{PricedNetwork, knees_in}

-- the look has the events of activity a, its durations, its slope and its knees
pub record IsLookAt (net : PricedNetwork) (a : ℕ) (look : Look) : Type 0 where
  pub from : look.from ≡ from_of net.network.arcs a
  pub to : look.to ≡ to_of net.network.arcs a
  pub normal : look.normal ≡ normal_of net.terms a
  pub crash : look.crash ≡ crash_of net.terms a
  pub slope : look.slope ≡ slope_of net.terms a
  pub knees : AreKneesOf (knees_in net) a look.knees
