-- The tasks of a circle are tasks, and there are some.
use Rattle.std.proofs.Common.{ℕ, ◌<◌, List, [], ◌∷◌, length, refl, arith}
use Rattle.std.specs.Prelude.{All}
use Rattle.std.proofs.lemmas.List.Elements.{All-cons, All-nil}
use Rattle.pc_tasks.specs.network.Cycles.{IsFirstTaskCycle, IsTaskWalk}
use Rattle.pc_tasks.specs.network.Tasks.{AreAmong}
use Rattle.pc_project.specs.declared.placed.AfterRow.{AfterRow}

-- the tasks of a walk are among those that there are
walk_known : (n : ℕ) (afters : List AfterRow) → AreAmong n afters → (s t : ℕ) (tasks : List ℕ) → IsTaskWalk afters s tasks t → All (λ task. task < n) tasks
walk_known n afters among s t [] is = All-nil (λ task. task < n)
walk_known n afters among s t (v ∷ tasks) (same, u, (j, inside, task_is, before_is), rest) =
    All-cons (λ task. task < n) v tasks (omega (arith, among.before j inside, before_is, same)) (walk_known n afters among u t tasks rest)

pub circle-known : (n : ℕ) (afters : List AfterRow) (tasks : List ℕ) → AreAmong n afters → IsFirstTaskCycle afters tasks → All (λ task. task < n) tasks
circle-known n afters tasks among first = walk_known n afters among first.cycle.1.0 first.cycle.1.0 tasks first.cycle.1.1

-- and there is some
pub circle-some : (afters : List AfterRow) (tasks : List ℕ) → IsFirstTaskCycle afters tasks → 0 < length tasks
circle-some afters [] first = absurd (first.cycle.0 refl)
circle-some afters (task ∷ tasks) first = omega arith
