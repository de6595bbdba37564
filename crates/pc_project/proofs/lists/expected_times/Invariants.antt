use Rattle.std.proofs.Common.{◌≡◌, map, take}
use Rattle.pc_times.specs.Estimates.{expected_time}
use Rattle.pc_project.proofs.lists.expected_times.Given as goal

abbrev pub invariant-loop-act : goal.invariant-loop-act
invariant-loop-act l = l.times.items ≡ map (λ act. expected_time act.opt act.likely act.pess l.unit_days) (take l.act-index l.acts)
