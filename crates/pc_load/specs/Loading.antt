-- What a project spends in each period by item, and what it takes of each resource.
use Rattle.std.specs.Prelude.{◌≡◌, ℕ, ◌+◌, ◌*◌, ◌/◌, ◌<◌, ◌≤◌, pos, List, length, slice_index, slice_index_or}
use Rattle.pc_model.specs.Network.{IsEarly}
use Rattle.pc_model.specs.Schedule.{base_cost_of}
use Rattle.pc_model.specs.Walk.{from_of}
use Rattle.pc_project.specs.Project.{Project}
use Rattle.pc_project.specs.declared.placed.LoadItem.{LoadItem}
use Rattle.pc_rollup.specs.Sums.{IsSumOver}
use Rattle.pc_times.specs.Times.{AreEarly}
use Rattle.pc_wbs.specs.Climb.{IsBelow}
use Rattle.pc_wbs.specs.Preorder.{IsPreorder}
use Rattle.pc_load.specs.declared.spread.Spread.{Spread}
use Rattle.pc_load.specs.declared.table.TheConstants.{MAX_PERIODS}
use Rattle.pc_load.specs.Items.{LevelsAddUp}
use Rattle.pc_load.specs.Share.{part}
use Rattle.pc_load.specs.Table.{Table, amount_in, total_of}

-- ---- what is spread

-- an amount of activity a, spread over its expected time from the earliest time of the event where it begins
abbrev pub spread_at : Project → List ℕ → ℕ → ℕ → Spread
spread_at project times a amount = record {
  begin = slice_index times (from_of project.network.arcs a);
  length = slice_index project.expected a;
  amount = amount;
}

-- what activity a costs at its normal duration
abbrev pub normal_cost_at : Project → ℕ → ℕ
normal_cost_at project a = base_cost_of project.terms a

-- the l-th load; past the end of the list one without a quantity
abbrev pub load_at : Project → ℕ → LoadItem
load_at project l = slice_index_or project.loads l (record { activity = 0; resource = 0; quantity = 0 })

-- the part in period k, with periods of this width
abbrev pub part_at : Spread → ℕ → ℕ → ℕ
part_at s width k = part s (width * k) (width * (k + 1))

-- the part of the cost of activity a in period k
abbrev pub cost_part : Project → List ℕ → ℕ → ℕ → ℕ → ℕ
cost_part project times width k a = part_at (spread_at project times a (normal_cost_at project a)) width k

-- the part of the quantity of load l in period k, spread as its activity is
abbrev pub load_part : Project → List ℕ → ℕ → ℕ → ℕ → ℕ
load_part project times width k l =
    part_at (spread_at project times (load_at project l).activity (load_at project l).quantity) width k

-- ---- periods

-- the width of a period of this many days, in sixths of a day
abbrev pub period_width : ℕ → ℕ
period_width days = 6 * days

-- how many periods of `days` days cover a project that ends at a time
abbrev pub periods_for : ℕ → ℕ → ℕ
periods_for days end = end / period_width days + 1

-- `periods` periods of `days` days cover the project: the last one contains the earliest time of its end event
pub record ArePeriods (project : Project) (days periods : ℕ) : Type 0 where
  pub end : ℕ
  pub early : IsEarly project.network project.expected project.network.end end
  pub are : periods ≡ periods_for days end

-- that is more than a report of loads may have
pub record IsTooMany (project : Project) (days periods : ℕ) : Type 0 where
  pub are : ArePeriods project days periods
  pub more : MAX_PERIODS < periods

-- ---- the two tables

-- in each period each item has the sum of the parts of the costs of the activities on it and below it
pub record AreItemParts (project : Project) (times : List ℕ) (width periods : ℕ) (items : Table) : Type 0 where
  pub row_count : items.rows ≡ length project.tree
  pub period_count : items.periods ≡ periods
  pub each : (y k : ℕ) → y < length project.tree → k < periods
      → IsSumOver (λ a. IsBelow project.tree (slice_index project.places a) y) (length project.network.arcs) (λ a. pos (cost_part project times width k a)) (amount_in items y k)

-- in each period each resource has the sum of the parts of the quantities of its loads
pub record AreResourceParts (project : Project) (times : List ℕ) (width periods : ℕ) (resources : Table) : Type 0 where
  pub row_count : resources.rows ≡ length project.resources
  pub period_count : resources.periods ≡ periods
  pub each : (r k : ℕ) → r < length project.resources → k < periods
      → IsSumOver (λ l. (load_at project l).resource ≡ r) (length project.loads) (λ l. pos (load_part project times width k l)) (amount_in resources r k)

-- over all periods each item adds up to the costs of the activities on it and below it
abbrev pub ItemsAddUp : Project → Table → Type 0
ItemsAddUp project items =
    (y : ℕ) → y < length project.tree
    → IsSumOver (λ a. IsBelow project.tree (slice_index project.places a) y) (length project.network.arcs) (λ a. pos (normal_cost_at project a)) (total_of items y)

-- over all periods each resource adds up to the quantities of its loads
abbrev pub ResourcesAddUp : Project → Table → Type 0
ResourcesAddUp project resources =
    (r : ℕ) → r < length project.resources
    → IsSumOver (λ l. (load_at project l).resource ≡ r) (length project.loads) (λ l. pos (load_at project l).quantity) (total_of resources r)

-- what a project spends by item and uses by resource in each period: the days of a period, the items in the order of
-- the report, and the two tables
pub record Loading : Type 0 where
  pub days : ℕ
  pub order : List ℕ
  pub items : Table
  pub resources : Table

-- the tables are the project's, items in preorder, for periods of `days` days, no more than a report may have; and they
-- add up
pub record IsLoading (project : Project) (days : ℕ) (loading : Loading) : Type 0 where
  pub of_days : loading.days ≡ days
  pub preorder : IsPreorder project.tree loading.order
  pub times : List ℕ
  pub early : AreEarly project.network project.expected times
  pub periods : ℕ
  pub are : ArePeriods project days periods
  pub few : periods ≤ MAX_PERIODS
  pub items : AreItemParts project times (period_width days) periods loading.items
  pub resources : AreResourceParts project times (period_width days) periods loading.resources
  pub items_add_up : ItemsAddUp project loading.items
  pub resources_add_up : ResourcesAddUp project loading.resources
  pub levels_add_up : LevelsAddUp project.tree loading.items
