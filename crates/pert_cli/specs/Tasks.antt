-- Which decks of tasks are accepted, and the fault with which each other one is refused.
use Rattle.std.specs.Prelude.{◌≡◌, ℕ, ◌<◌, ◌≤◌, List, length}
use Rattle.pc_cards.specs.declared.sort.Sort.TheVariants.{Tasks}
use Rattle.pc_deck.specs.Deck.{Deck}
use Rattle.pc_deck.specs.Limits.{longest_deck}
use Rattle.pc_deck.specs.Read.{IsReadAs}
use Rattle.pc_deck.specs.Refusal.{IsRefusalAs}
use Rattle.pc_faults.specs.declared.fault.Fault.{Fault}
use Rattle.pc_faults.specs.Faults.{too_long as fault_too_long}
use Rattle.pc_project.specs.Project.{Project}
use Rattle.pc_tasks.specs.Refusal.{IsTasksRefusedWith, MakesArrows}
use Rattle.pc_tasks.specs.Text.{IsDrawnProject}

-- the bytes are the deck of these tasks: each kind has the cards that the bytes give, without a fault; and a plan can
-- be generated from them
pub record IsAcceptedTasks (bytes : List ℕ) (tasks : Deck) : Type 0 where
  pub short : length bytes ≤ longest_deck
  pub cards : IsReadAs Tasks bytes tasks
  pub makes : MakesArrows tasks

-- the fault with which a deck of tasks is refused: it is too long (F1), its cards are refused (F2 to F12), or they were
-- read and no plan can be generated from them (F14 to F23, F28 to F31, F33 to F39, F41)
pub data IsTasksFault (bytes : List ℕ) (fault : Fault) : Type 0 where
  too_long : longest_deck < length bytes → fault ≡ fault_too_long → IsTasksFault bytes fault
  card_refusal : length bytes ≤ longest_deck → IsRefusalAs Tasks bytes fault → IsTasksFault bytes fault
  tasks_refusal : (tasks : Deck) → length bytes ≤ longest_deck → IsReadAs Tasks bytes tasks → IsTasksRefusedWith tasks fault → IsTasksFault bytes fault

-- the project is that of the plan that is generated from the deck's tasks, which is accepted
pub record IsDrawnOf (bytes : List ℕ) (project : Project) : Type 0 where
  pub tasks : Deck
  pub short : length bytes ≤ longest_deck
  pub cards : IsReadAs Tasks bytes tasks
  pub drawn : IsDrawnProject tasks project
