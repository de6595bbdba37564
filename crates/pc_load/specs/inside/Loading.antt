-- What a project spends in each period by item, and what it takes of each resource.
-- Here is what no clause of a top call and no law reaches.
use Rattle.std.specs.Prelude.{◌≡◌, ℕ, ◌<◌, ◌≤◌, ⊤, length, slice_index}
use Rattle.pc_model.specs.declared.limits.TheConstants.{MAX_RESOURCES}
use Rattle.pc_project.specs.Project.{Project}
use Rattle.pc_load.specs.declared.table.TheConstants.{MAX_PERIODS}
use Rattle.pc_load.specs.declared.loading.NoLoad.{NoLoad}
use Rattle.pc_load.specs.declared.loading.TheConstants.{MAX_DAYS}
use Rattle.pc_load.specs.declared.loading.NoLoad.TheVariants.{TooMany, OutOfMemory}
use Rattle.pc_load.specs.Loading.{IsTooMany, Loading}

-- ---- periods

-- why there is no report of loads: the project has too many periods, or memory ran out, which may happen at any time
abbrev pub HasNoLoad : Project → ℕ → NoLoad → Type 0
HasNoLoad project days (TooMany have) = IsTooMany project days have
HasNoLoad project days OutOfMemory = ⊤

-- ---- the two tables

-- the tables have the project's items and resources, and equal periods; and nothing is more than it may be
pub record IsReadyToLoad (project : Project) (loading : Loading) : Type 0 where
  pub days : loading.days ≤ MAX_DAYS
  pub order : (i : ℕ) → i < length loading.order → slice_index loading.order i < length project.tree
  pub items : loading.items.rows ≡ length project.tree
  pub resources : loading.resources.rows ≡ length project.resources
  pub periods : loading.resources.periods ≡ loading.items.periods
  pub few_periods : loading.items.periods ≤ MAX_PERIODS
  pub few_resources : loading.resources.rows ≤ MAX_RESOURCES
