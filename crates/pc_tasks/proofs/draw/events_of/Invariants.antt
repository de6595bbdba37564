use Rattle.std.proofs.Common.{◌≡◌, ◌++◌, ◌∷◌, [], take}
use Rattle.pc_tasks.specs.Drawn.{drawn_event, task_events}
use Rattle.pc_tasks.proofs.draw.events_of.Given as goal

abbrev pub invariant-loop-i : goal.invariant-loop-i
invariant-loop-i l = l.events.items ≡ (drawn_event l.cards.project.start ∷ []) ++ task_events 0 (take l.i l.cards.tasks)
