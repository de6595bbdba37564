use Rattle.std.proofs.Common.{◌≡◌, map, take}
use Rattle.pc_times.specs.Estimates.{variance_of}
use Rattle.pc_project.proofs.lists.variances.Given as goal

abbrev pub invariant-loop-act : goal.invariant-loop-act
invariant-loop-act l = l.variances.items ≡ map (λ act. variance_of act.opt act.pess l.unit_days) (take l.act-index l.acts)
