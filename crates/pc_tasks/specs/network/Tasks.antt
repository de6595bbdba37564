-- Tasks, which of them come after which, and their schedules, without events or a network.
use Rattle.std.specs.Prelude.{◌≡◌, ℕ, ◌+◌, ◌<◌, ◌≤◌, List, length, slice_index_or}
use Rattle.pc_model.specs.declared.Term.{Term}
use Rattle.pc_model.specs.Schedule.{normal_of, crash_of}
use Rattle.pc_model.specs.Cost.{Knees, cost_of}
use Rattle.pc_project.specs.declared.placed.AfterRow.{AfterRow}

-- the j-th of the rows that say which task comes after which; past the end of the list, a row of zeros
abbrev pub after_at : List AfterRow → ℕ → AfterRow
after_at afters j = slice_index_or afters j (record { task = 0; before = 0 })

-- every task that is named is one of n
pub record AreAmong (n : ℕ) (afters : List AfterRow) : Type 0 where
  pub task : (j : ℕ) → j < length afters → (after_at afters j).task < n
  pub before : (j : ℕ) → j < length afters → (after_at afters j).before < n

-- a duration for each task, from crash to normal, and when it begins: no task begins before the tasks that it comes after have ended,
-- and each ends at the length or before it
pub record IsTaskSchedule (terms : List Term) (afters : List AfterRow) (limit : ℕ) (durations begins : ℕ → ℕ) : Type 0 where
  pub enough : (i : ℕ) → i < length terms → crash_of terms i ≤ durations i
  pub within : (i : ℕ) → i < length terms → durations i ≤ normal_of terms i
  pub follows : (j : ℕ) → j < length afters → begins (after_at afters j).before + durations (after_at afters j).before ≤ begins (after_at afters j).task
  pub ends : (i : ℕ) → i < length terms → begins i + durations i ≤ limit

-- some durations and beginnings are a schedule of the tasks for the length
abbrev pub HasTaskSchedule : List Term → List AfterRow → ℕ → Type 0
HasTaskSchedule terms afters limit = (durations begins : ℕ → ℕ) × IsTaskSchedule terms afters limit durations begins

-- the least cost of a schedule of the tasks for a length: some schedule for it has this cost, and none costs less
pub record IsLeastTaskCost (terms : List Term) (knees : Knees) (afters : List AfterRow) (limit cost : ℕ) : Type 0 where
  pub reached : (durations begins : ℕ → ℕ) × IsTaskSchedule terms afters limit durations begins × (cost_of terms knees durations ≡ cost)
  pub least : (durations begins : ℕ → ℕ) → IsTaskSchedule terms afters limit durations begins → cost ≤ cost_of terms knees durations
