-- A deck of tasks does not both make arrows and be refused, it makes one project, and each refusal can be told.
use Rattle.std.proofs.Common.{◌≡◌, length, refl, ap, arith}
use Rattle.pc_cards.specs.declared.sort.Sort.TheVariants.{Tasks}
use Rattle.pc_deck.specs.Deck.{Deck}
use Rattle.pc_faults.specs.inside.FaultText.{IsTold}
use Rattle.pc_faults.specs.declared.fault.Fault.{Fault as ADeckFault}
use Rattle.pc_project.specs.Project.{Project, rows_of}
use Rattle.pc_project.proofs.OneProjectLaws.{one_project_of}
use Rattle.pc_project.proofs.RefusalLaws.{makes_not_refused, no_tree, told, told_of-misfit, told_of-refused, told_of-tree}
use Rattle.pc_tasks.specs.Drawn.{arrows_deck}
use Rattle.pc_tasks.specs.Refusal.{IsTasksRefusedWith, MakesArrows, of_cards, of_cycle, of_none, of_plan, of_top, of_tree}
use Rattle.pc_tasks.specs.Text.{IsDrawnProject}

-- tasks that make arrows are not refused
pub arrows_not_refused : (deck : Deck) (fault : ADeckFault) → MakesArrows deck → IsTasksRefusedWith deck fault → ⊥
arrows_not_refused deck fault makes (of_cards first) = makes.sound.items.cards fault first.holds
arrows_not_refused deck fault makes (of_tree cards at) = no_tree deck.items (rows_of deck) fault makes.sound.items.tree at
arrows_not_refused deck fault makes (of_top cards items lone) = makes.sound.items.branch fault lone
arrows_not_refused deck fault makes (of_none items none) = omega (arith, makes.sound.some, ap length none.0)
arrows_not_refused deck fault makes (of_cycle items some (cycle, (first, is))) = makes.sound.no_cycle cycle first.cycle
arrows_not_refused deck fault makes (of_plan sound refused) = makes_not_refused (arrows_deck deck) fault makes.plan refused

-- and they make one project
pub one_drawn_project : (deck : Deck) (project other : Project) → IsDrawnProject deck project → IsDrawnProject deck other → project ≡ other
one_drawn_project deck project other is also = one_project_of (arrows_deck deck) is.makes.plan.once project other is.is also.is

-- the fault with which a deck of tasks is refused has a line
pub told_of-refused_tasks : (deck : Deck) (fault : ADeckFault) → IsTasksRefusedWith deck fault → IsTold fault
told_of-refused_tasks deck fault (of_cards first) = told_of-misfit Tasks deck fault first.holds
told_of-refused_tasks deck fault (of_tree cards at) = told_of-tree deck.items (rows_of deck) fault at
told_of-refused_tasks deck fault (of_top cards items lone) = told fault _ lone.1 refl
told_of-refused_tasks deck fault (of_none items none) = told fault _ none.1 refl
told_of-refused_tasks deck fault (of_cycle items some (cycle, (first, is))) = told fault _ is refl
told_of-refused_tasks deck fault (of_plan sound refused) = told_of-refused (arrows_deck deck) fault refused
