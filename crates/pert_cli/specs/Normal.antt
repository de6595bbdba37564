-- The answer to `normal`: the schedule at the all-normal length.
use Rattle.std.specs.Prelude.{◌≡◌, ℕ, ◌<◌, ◌≤◌, List, length, slice_index}
use Rattle.pc_model.specs.Network.{IsEarly}
use Rattle.pc_model.specs.Schedule.{IsAllNormalLength, IsSchedule, normals}
use Rattle.pc_model.specs.Cost.{cost_of}
use Rattle.pc_model.specs.Pieces.{knees_of}
use Rattle.pc_reports.specs.Schedule.{schedule_text}
use Rattle.pc_project.specs.Project.{Project}

-- a schedule of a project, with its length and its cost, as it is printed
pub record Printed : Type 0 where
  pub length : ℕ
  pub cost : ℕ
  pub times : List ℕ
  pub durations : List ℕ

-- the schedule at the all-normal length: each event at the greatest sum of normal durations to it, each activity
-- at its normal duration; the cost is the cost of these durations, and no schedule for this length costs less
pub record IsNormalSchedule (project : Project) (printed : Printed) : Type 0 where
  pub time_each : length printed.times ≡ project.network.events
  pub duration_each : length printed.durations ≡ length project.network.arcs
  pub length : IsAllNormalLength project.network project.terms printed.length
  pub normal : printed.durations ≡ normals project.terms
  pub early : (e : ℕ) → e < project.network.events → IsEarly project.network (normals project.terms) e (slice_index printed.times e)
  pub schedule : IsSchedule project.network project.terms printed.length (slice_index printed.durations) (slice_index printed.times)
  pub cost : cost_of project.terms (knees_of project.terms project.pieces) (slice_index printed.durations) ≡ printed.cost
  pub least : (durations times : ℕ → ℕ) → IsSchedule project.network project.terms printed.length durations times →
      printed.cost ≤ cost_of project.terms (knees_of project.terms project.pieces) durations

-- the text of a printed schedule
abbrev pub printed_text : Project → Printed → List ℕ
printed_text project printed =
    schedule_text printed.length printed.cost project.events printed.times project.activities printed.durations

-- the text is that of the schedule at the all-normal length
pub record IsNormalText (project : Project) (text : List ℕ) : Type 0 where
  pub printed : Printed
  pub right : IsNormalSchedule project printed
  pub is : text ≡ printed_text project printed
