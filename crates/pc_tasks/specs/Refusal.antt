-- Why a deck of tasks whose cards were read is refused: the first fault, phase by phase. A phase counts only if no phase before it has a fault:
-- first the cards one by one (F14 to F19, F41), then the tree of the items (F20 to F23, tried in that order), then whether the top has an item
-- below it (F37), then whether there is a task (F39), then whether tasks wait for each other in a cycle (F38). The remaining faults are those of a
-- plan (F28 to F31, F33 to F36): of the plan that is generated, in which each card keeps its own record number.
use Rattle.std.specs.Prelude.{◌≡◌, ℕ, ◌<◌, List, [], length, map, slice_index}
use Rattle.pc_wbs.specs.Climb.{IsTree}
use Rattle.pc_tasks.specs.network.Cycles.{HasNoTaskCycle, IsFirstTaskCycle}
use Rattle.pc_cards.specs.declared.sort.Sort.TheVariants.{Tasks}
use Rattle.pc_deck.specs.Deck.{Deck, task_codes}
use Rattle.pc_deck.specs.Misfit.{HasMisfit, HasNoMisfit}
use Rattle.pc_faults.specs.Faults.{childless_top, no_task, task_cycle}
use Rattle.pc_faults.specs.First.{IsFirstFault}
use Rattle.pc_faults.specs.declared.fault.Fault.{Fault as ADeckFault}
use Rattle.pc_project.specs.Project.{rows_of}
use Rattle.pc_project.specs.Records.{codes_at, item_records}
use Rattle.pc_project.specs.Makes.{MakesProject}
use Rattle.pc_project.specs.Refusal.{IsRefusedWith, IsTreeFault}
use Rattle.pc_tasks.specs.Drawn.{arrows_deck}
use Rattle.pc_tasks.specs.Lists.{afters_in}

-- the records of the tasks, in card order
abbrev pub task_records : Deck → List ℕ
task_records deck = map (λ task. task.row) deck.tasks

-- F37: the top is the only item, so no item is below it
abbrev pub HasLoneTop : Deck → ADeckFault → Type 0
HasLoneTop deck fault = (length deck.items ≡ 1) × (fault ≡ childless_top (slice_index (item_records deck) 0))

-- F39: there is no task
abbrev pub HasNoTask : Deck → ADeckFault → Type 0
HasNoTask deck fault = (deck.tasks ≡ []) × (fault ≡ no_task)

-- F38: tasks come after one another in a cycle; its record is the first task on any such cycle, and its list begins with that task
abbrev pub IsCycleFault : Deck → ADeckFault → Type 0
IsCycleFault deck fault =
    (cycle : List ℕ) × (IsFirstTaskCycle (afters_in deck) cycle × (fault ≡ task_cycle (slice_index (task_records deck) (slice_index cycle 0)) (codes_at (task_codes deck) cycle)))

-- no card by itself is wrong, the items are a tree, and some item is below its top
pub record HasSoundItems (deck : Deck) : Type 0 where
  pub cards : HasNoMisfit Tasks deck
  pub tree : IsTree (rows_of deck)
  pub branch : (fault : ADeckFault) → HasLoneTop deck fault → ⊥

-- in addition, there is a task, and no tasks wait for each other in a cycle
pub record HasSoundTasks (deck : Deck) : Type 0 where
  pub items : HasSoundItems deck
  pub some : 0 < length deck.tasks
  pub no_cycle : HasNoTaskCycle (afters_in deck)

-- the deck of tasks has no fault: its tasks have none, and the plan that is generated from them makes a project
pub record MakesArrows (deck : Deck) : Type 0 where
  pub sound : HasSoundTasks deck
  pub plan : MakesProject (arrows_deck deck)

-- the fault with which a deck of tasks is refused; a phase counts only if no phase before it has a fault
pub data IsTasksRefusedWith (deck : Deck) (fault : ADeckFault) : Type 0 where
  -- F14 to F19, F41: a card names what is not there, or its numbers are out of order
  of_cards : IsFirstFault (HasMisfit Tasks deck) fault → IsTasksRefusedWith deck fault
  -- F20 to F23: the items are no tree
  of_tree : HasNoMisfit Tasks deck → IsTreeFault deck.items (rows_of deck) fault → IsTasksRefusedWith deck fault
  -- F37: the top has no item below it
  of_top : HasNoMisfit Tasks deck → IsTree (rows_of deck) → HasLoneTop deck fault → IsTasksRefusedWith deck fault
  -- F39: there is no task
  of_none : HasSoundItems deck → HasNoTask deck fault → IsTasksRefusedWith deck fault
  -- F38: tasks wait for each other in a cycle
  of_cycle : HasSoundItems deck → 0 < length deck.tasks → IsCycleFault deck fault → IsTasksRefusedWith deck fault
  -- F28 to F31, F33 to F36: the plan that is generated has a fault
  of_plan : HasSoundTasks deck → IsRefusedWith (arrows_deck deck) fault → IsTasksRefusedWith deck fault
