use Rattle.pc_tasks.specs.Refusal.{of_top}
use Rattle.pc_tasks.proofs.phases.check_items.Goals as goal

pub returns-in-Some-clause-refused : goal.returns-in-Some-clause-refused
returns-in-Some-clause-refused c = of_top c.requires c.in_ok-tree_of.ensures.tree c.in-Some.ensures

pub returns-in-None-clause-sound : goal.returns-in-None-clause-sound
returns-in-None-clause-sound c = record { cards = c.requires; tree = c.in_ok-tree_of.ensures.tree; branch = c.in-None.ensures }
