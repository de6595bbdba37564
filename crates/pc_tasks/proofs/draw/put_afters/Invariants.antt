use Rattle.std.proofs.Common.{◌≡◌, ◌++◌, take}
use Rattle.pc_tasks.specs.Drawn.{after_links}
use Rattle.pc_tasks.proofs.draw.put_afters.Given as goal

abbrev pub invariant-loop-j : goal.invariant-loop-j
invariant-loop-j l = l.acts.items ≡ l.initial.acts.items ++ after_links 0 (take l.j l.afters)
