use Rattle.std.proofs.Common.{◌<◌, length, ap, arith}
use Rattle.pc_model.specs.declared.Term.{Term}
use Rattle.pc_model.specs.Schedule.{base_cost_of}
use Rattle.pc_model.proofs.Sums.{sum_to-most}
use Rattle.pc_flow.proofs.solver.normal_cost.Goals as goal

pub overflow_add-cost : goal.overflow_add-cost
overflow_add-cost c =
    let terms = c.args.net.now.terms in
    let limits = c.facts.ensures.limits in
    let fit = c.facts.ensures.priced.terms_fit in
    let activities = rw c.net.ensures.network at c.activities-a-end.ensures.activities in
    let inside : c.loop-a.a < length terms = omega (arith, c.loop-a-test.true, activities, fit.one_each) in
    omega (
      arith,
      c.loop-a.invariant,
      sum_to-most c.loop-a.a 1000000000000 (base_cost_of terms) (λ k below. limits.cheap k (omega (arith, below, inside))),
      limits.cheap c.loop-a.a inside,
      ap (λ (t : Term). t.cost) c.term-cost.ensures,
      limits.few,
      inside,
    )
