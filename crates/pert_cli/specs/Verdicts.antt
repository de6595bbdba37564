-- Which decks of a sort are accepted, the project of each, and the fault with which each other deck is refused. For a plan these are the project
-- and the fault of its cards, for a deck of tasks those of the plan that is generated from it.
use Rattle.std.specs.Prelude.{ℕ, List}
use Rattle.pc_cards.specs.declared.sort.Sort.{Sort}
use Rattle.pc_cards.specs.declared.sort.Sort.TheVariants.{Plan, Tasks}
use Rattle.pc_deck.specs.Deck.{Deck}
use Rattle.pc_faults.specs.declared.fault.Fault.{Fault}
use Rattle.pc_project.specs.Project.{Project}
use Rattle.pc_project.specs.shell.Verdict.{AcceptedBy, IsFault, IsProjectOf}
use Rattle.pert_cli.specs.Tasks.{IsAcceptedTasks, IsDrawnOf, IsTasksFault}

-- the deck is accepted, and this is its project
abbrev pub IsMadeAs : Sort → List ℕ → Project → Type 0
IsMadeAs Plan = IsProjectOf
IsMadeAs Tasks = IsDrawnOf

-- the deck is refused with the fault
abbrev pub IsFaultAs : Sort → List ℕ → Fault → Type 0
IsFaultAs Plan = IsFault
IsFaultAs Tasks = IsTasksFault

-- the deck is accepted
abbrev pub AcceptedAs : Sort → List ℕ → Type 0
AcceptedAs Plan bytes = AcceptedBy bytes
AcceptedAs Tasks bytes = (tasks : Deck) × IsAcceptedTasks bytes tasks

-- the deck is refused
abbrev pub RefusedAs : Sort → List ℕ → Type 0
RefusedAs sort bytes = (fault : Fault) × IsFaultAs sort bytes fault
