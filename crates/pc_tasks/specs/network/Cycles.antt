-- Tasks that wait for each other in a cycle.
use Rattle.std.specs.Prelude.{◌≡◌, ◌≢◌, ℕ, ◌<◌, List, [], ◌∷◌, length, slice_index}
use Rattle.pc_model.specs.Greatest.{IsFirst, StandsBelow}
use Rattle.pc_project.specs.declared.placed.AfterRow.{AfterRow}
use Rattle.pc_tasks.specs.network.Tasks.{after_at}

-- some row says that task t comes after task s
abbrev pub ComesAfter : List AfterRow → ℕ → ℕ → Type 0
ComesAfter afters t s = (j : ℕ) × (j < length afters) × ((after_at afters j).task ≡ t) × ((after_at afters j).before ≡ s)

-- the listed tasks lead from task s to task t: the first of them is s, each comes after the one before it, and t after the last
abbrev pub IsTaskWalk : List AfterRow → ℕ → List ℕ → ℕ → Type 0
IsTaskWalk afters s [] t = s ≡ t
IsTaskWalk afters s (v ∷ tasks) t = (v ≡ s) × (u : ℕ) × ComesAfter afters u s × IsTaskWalk afters u tasks t

-- some tasks, each of which comes after the one before it, and the first after the last
abbrev pub IsTaskCycle : List AfterRow → List ℕ → Type 0
IsTaskCycle afters tasks = (tasks ≢ []) × ((s : ℕ) × IsTaskWalk afters s tasks s)

-- no tasks wait for each other in a cycle
abbrev pub HasNoTaskCycle : List AfterRow → Type 0
HasNoTaskCycle afters = (tasks : List ℕ) → IsTaskCycle afters tasks → ⊥

-- task i is one of those of a cycle
abbrev pub LiesOnTaskCycle : List AfterRow → ℕ → Type 0
LiesOnTaskCycle afters i = (tasks : List ℕ) × IsTaskCycle afters tasks × StandsBelow tasks (length tasks) i

-- a cycle of tasks that begins with the first task on any cycle, and in which no task occurs twice
pub record IsFirstTaskCycle (afters : List AfterRow) (tasks : List ℕ) : Type 0 where
  pub cycle : IsTaskCycle afters tasks
  pub once : (j k : ℕ) → j < k → k < length tasks → slice_index tasks j ≢ slice_index tasks k
  pub first : IsFirst (LiesOnTaskCycle afters) (slice_index tasks 0)
