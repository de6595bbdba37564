use Rattle.std.proofs.Common.{◌≡◌}
use Rattle.pc_model.specs.Sums.{sum_to}
use Rattle.pc_model.specs.Schedule.{base_cost_of}
use Rattle.pc_flow.proofs.solver.normal_cost.Given as goal

abbrev pub invariant-loop-a : goal.invariant-loop-a
invariant-loop-a l = l.cost ≡ sum_to l.a (base_cost_of l.net.terms)
