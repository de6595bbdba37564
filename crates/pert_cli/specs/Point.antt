-- The answer to `point L`: a schedule of least cost for a length of the project's range.
use Rattle.std.specs.Prelude.{◌≡◌, ℕ, ◌<◌, ◌≤◌, ◌⊎◌, List, length, slice_index}
use Rattle.pc_faults.specs.declared.fault.Fault.{Fault}
use Rattle.pc_faults.specs.Faults.{outside_range}
use Rattle.pc_model.specs.Schedule.{IsSchedule}
use Rattle.pc_model.specs.Cost.{cost_of}
use Rattle.pc_crash.specs.Priced.{PricedNetwork, knees_in}
use Rattle.pc_curve.specs.Range.{IsRange, IsLengthInRange}
use Rattle.pc_project.specs.Project.{Project}
use Rattle.pc_project.specs.shell.Priced.{priced_in}
use Rattle.pert_cli.specs.Normal.{Printed, printed_text}

-- ---- the range

-- the length is outside the network's range, and the fault names it and the two ends of the range
pub record IsOutside (net : PricedNetwork) (limit : ℕ) (fault : Fault) : Type 0 where
  pub shortest : ℕ
  pub longest : ℕ
  pub range : IsRange net shortest longest
  pub outside : (limit < shortest) ⊎ (longest < limit)
  pub is : fault ≡ outside_range limit shortest longest

-- ---- the schedule

-- a schedule of least cost: it ends at the length that is printed, the cost that is printed is that of the durations, and no
-- schedule for this length costs less
pub record IsCheapest (net : PricedNetwork) (printed : Printed) : Type 0 where
  pub time_each : length printed.times ≡ net.network.events
  pub duration_each : length printed.durations ≡ length net.network.arcs
  pub schedule : IsSchedule net.network net.terms printed.length (slice_index printed.durations) (slice_index printed.times)
  pub ends : slice_index printed.times net.network.end ≡ printed.length
  pub cost : printed.cost ≡ cost_of net.terms (knees_in net) (slice_index printed.durations)
  pub least : (durations times : ℕ → ℕ) → IsSchedule net.network net.terms printed.length durations times → printed.cost ≤ cost_of net.terms (knees_in net) durations

-- the same for this length, which is one of the network
pub record IsCheapestFor (net : PricedNetwork) (limit : ℕ) (printed : Printed) : Type 0 where
  pub length : printed.length ≡ limit
  pub within : IsLengthInRange net limit
  pub cheapest : IsCheapest net printed

-- the text is that of a schedule of least cost for the length
pub record IsPointText (project : Project) (limit : ℕ) (text : List ℕ) : Type 0 where
  pub printed : Printed
  pub right : IsCheapestFor (priced_in project) limit printed
  pub is : text ≡ printed_text project printed
