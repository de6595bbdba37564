-- What a list of an activity's knees says of its flows.
use Rattle.std.proofs.Common.{◌≡◌, ℕ, ◌<◌, List, length, refl}
use Rattle.pc_model.specs.declared.Knee.{Knee}
use Rattle.pc_model.specs.Schedule.{crash_of}
use Rattle.pc_laws.specs.Stair.{Stair, IsSameStair, stair_of, knee_flow, crash_flow}
use Rattle.pc_laws.proofs.Stairs.SameStair.{same-knee_flow, same-crash_flow}
use Rattle.pc_flow.specs.inside.stair.Rows.{stair}
use Rattle.pc_crash.specs.inside.KneeLists.{AreKneesOf}
use Rattle.pc_crash.specs.Priced.{PricedNetwork, knees_in}

module _ (net : PricedNetwork) (a : ℕ) (list : List Knee) (are : AreKneesOf (knees_in net) a list) where
  abbrev seen : Stair
  seen = stair list (crash_of net.terms a)

  same : IsSameStair seen (stair_of net.terms (knees_in net) a)
  same = record { count = are.count; knee = are.at; rise = are.rise; crash = refl }

  pub knee-flow : (flow k : ℕ) → k < length list → knee_flow seen flow k ≡ knee_flow (stair_of net.terms (knees_in net) a) flow k
  knee-flow flow k below = same-knee_flow seen (stair_of net.terms (knees_in net) a) same flow k below

  pub beside-flow : (flow : ℕ) → crash_flow seen flow ≡ crash_flow (stair_of net.terms (knees_in net) a) flow
  beside-flow flow = same-crash_flow seen (stair_of net.terms (knees_in net) a) same flow
