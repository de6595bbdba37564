-- The text of the outlook: what the items are going to cost at given durations of the activities.
-- Here is what no clause of a top call and no law reaches.
use Rattle.std.specs.Prelude.{◌≡◌, ℕ, ◌<◌, List, length, slice_index}
use Rattle.pc_crash.specs.Priced.{PricedNetwork, knees_in}
use Rattle.pc_model.specs.Cost.{activity_cost, cost_of}
use Rattle.pc_model.specs.Pieces.{knees_of}
use Rattle.pc_wbs.specs.Climb.{IsTop}
use Rattle.pc_project.specs.Project.{Project}
use Rattle.pc_rollup.specs.figures.Outlook.{Outlook, IsWholeOutlook, amounts_at}
use Rattle.pc_reports.specs.OutlookText.{cost_at, IsOutlook}

-- the network is that of the project, with its terms and pieces
pub record IsPricedNetOf (project : Project) (net : PricedNetwork) : Type 0 where
  pub network : net.network ≡ project.network
  pub terms : net.terms ≡ project.terms
  pub pieces : net.pieces ≡ project.pieces

-- the costs are those of the first n activities at their durations
pub record AreCostsAt (project : Project) (durations : List ℕ) (n : ℕ) (costs : List ℕ) : Type 0 where
  pub one_each : length costs ≡ n
  pub each : (a : ℕ) → a < n → slice_index costs a ≡ cost_at project durations a

-- the costs are those of the first n activities of a network at their durations
pub record AreCostsIn (net : PricedNetwork) (durations : List ℕ) (n : ℕ) (costs : List ℕ) : Type 0 where
  pub one_each : length costs ≡ n
  pub each : (a : ℕ) → a < n → slice_index costs a ≡ activity_cost net.terms (knees_in net) a (slice_index durations a)

-- the outlook is the project's at some durations
pub record IsOutlookFor (project : Project) (outlook : Outlook) : Type 0 where
  pub durations : List ℕ
  pub is : IsOutlook project durations outlook

-- the top's outlook is what all activities cost at these durations, and the budgets of all accounts whose package has no
-- activities
abbrev pub TellsTop : Project → List ℕ → Outlook → Type 0
TellsTop project durations outlook =
    (top : ℕ) → IsTop project.tree top
    → IsWholeOutlook project.places project.accounts project.entries (cost_of project.terms (knees_of project.terms project.pieces) (slice_index durations)) (amounts_at outlook.amounts top).outlook
