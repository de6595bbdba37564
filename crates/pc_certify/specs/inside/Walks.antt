-- The two walks of a certificate.
use Rattle.std.specs.Prelude.{Bool, true, false, List, ℕ}
use Rattle.pc_model.specs.declared.Term.{Term}
use Rattle.pc_model.specs.Network.{Network, IsLongest}
use Rattle.pc_model.specs.Schedule.{normals, crashes}
use Rattle.pc_crash.specs.Priced.{PricedNetwork}
use Rattle.pc_times.specs.Picked.{IsPickedWalk}
use Rattle.pc_times.specs.inside.Picked.{LongestWalk}
use Rattle.pc_certify.specs.Complete.{IsThrough}

-- the durations of the activities in the crash walk, or in the normal walk
abbrev pub durations_in : Bool → List Term → List ℕ
durations_in true terms = crashes terms
durations_in false terms = normals terms

-- the walk that is picked by these lengths, and the sum of the lengths along it, which is the greatest
pub record IsPicked (net : Network) (lengths : List ℕ) (found : LongestWalk) : Type 0 where
  pub picked : IsPickedWalk net lengths found.path
  pub through : IsThrough net lengths found.path found.length
  pub longest : IsLongest net lengths found.length

-- the walks that are picked at normal and at crash durations
pub record ArePicked (net : PricedNetwork) (normal crash : LongestWalk) : Type 0 where
  pub at_normal : IsPicked net.network (normals net.terms) normal
  pub at_crash : IsPicked net.network (crashes net.terms) crash
