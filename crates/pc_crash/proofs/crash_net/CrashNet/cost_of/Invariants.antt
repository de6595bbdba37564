use Rattle.std.proofs.Common.{◌≡◌, slice_index}
use Rattle.pc_model.specs.Cost.{activity_cost}
use Rattle.pc_model.specs.Sums.{sum_to}
use Rattle.pc_crash.specs.Priced.{knees_in}
use Rattle.pc_crash.proofs.crash_net.CrashNet.cost_of.Given as goal

abbrev pub invariant-loop-a : goal.invariant-loop-a
invariant-loop-a l =
    l.cost ≡ sum_to l.a (λ a. activity_cost l.self.terms (knees_in l.self) a (slice_index l.durations a))
