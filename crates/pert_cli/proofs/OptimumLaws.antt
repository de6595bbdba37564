-- A project's optimum, and a schedule for it.
use Rattle.std.proofs.Common.{◌≡◌, ℕ, slice_index, sym, subst, arith}
use Rattle.pc_model.specs.declared.TimeTerms.{TimeTerms}
use Rattle.pc_model.proofs.Costs.LeastCost.{unique}
use Rattle.pc_crash.specs.Priced.{PricedNetwork, knees_in}
use Rattle.pc_flow.specs.Courses.{Course, IsSameCurve}
use Rattle.pc_curve.specs.Points.{curve_in}
use Rattle.pc_curve.specs.inside.Points.{IsThere, IsToCome}
use Rattle.pc_total.specs.declared.optimum.Best.{Best}
use Rattle.pc_total.specs.Bests.{IsBest}
use Rattle.pc_project.specs.Project.{Project}
use Rattle.pc_project.specs.shell.Priced.{priced_in}
use Rattle.pert_cli.specs.Normal.{Printed}
use Rattle.pert_cli.specs.Optimum.{IsOptimumWith}
use Rattle.pc_curve.specs.Range.{IsRange}
use Rattle.pert_cli.specs.Point.{IsCheapest}

-- the solver that found the optimum holds its length
pub optimum-to_come : (net : PricedNetwork) (from c : Course) (terms : TimeTerms) (best : Best) → IsSameCurve from c
    → IsBest (curve_in net) terms from.shortest from.longest best → IsThere c best.length → IsToCome c best.length
optimum-to_come net from c terms best same is there = record {
  above = omega (arith, is.optimum.above, same.shortest);
  within = omega (arith, is.optimum.below, same.longest);
  below = λ given. there.holds.below;
}

-- a cheapest schedule for its length has the stated cost
optimum-cost : (net : PricedNetwork) (printed : Printed) (limit direct : ℕ) → IsCheapest net printed → printed.length ≡ limit → curve_in net limit direct
    → printed.cost ≡ direct
optimum-cost net printed limit direct cheapest at least =
    unique net.network net.terms (knees_in net) limit printed.cost direct
    (subst (λ n. curve_in net n printed.cost) at
    (record { reached = (slice_index printed.durations, slice_index printed.times, cheapest.schedule, sym cheapest.cost); least = cheapest.least })) least

pub optimum-with : (net : PricedNetwork) (terms : TimeTerms) (shortest longest : ℕ) (best : Best) (printed : Printed) → IsRange net shortest longest
    → IsBest (curve_in net) terms shortest longest best → IsCheapest net printed → printed.length ≡ best.length → IsOptimumWith net terms best printed
optimum-with net terms shortest longest best printed range is cheapest at = record {
  shortest = shortest;
  longest = longest;
  range = range;
  right = is;
  cheapest = cheapest;
  length = at;
  cost = optimum-cost net printed best.length best.direct cheapest at is.direct;
}

-- a project's network and terms are those that were solved
pub optimum-there : (project : Project) (net : PricedNetwork) (terms : TimeTerms) (best : Best) (printed : Printed) → net ≡ priced_in project → terms ≡ project.time_terms
    → IsOptimumWith net terms best printed → IsOptimumWith (priced_in project) project.time_terms best printed
optimum-there project net terms best printed same same_terms is =
    subst (λ (n : PricedNetwork). IsOptimumWith n project.time_terms best printed) same
    (subst (λ (t : TimeTerms). IsOptimumWith net t best printed) same_terms is)
