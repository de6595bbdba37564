-- The schedule at the all-normal length: its durations, its times and its cost are right.
use Rattle.std.proofs.Common.{◌≡◌, List, length, slice_index, sym, ◌∙◌, ap, subst, arith}
use Rattle.std.proofs.lemmas.List.{length-map}
use Rattle.pc_model.specs.declared.Term.{Term}
use Rattle.pc_model.specs.Network.{Network, IsLongest}
use Rattle.pc_model.specs.Schedule.{AreTerms, IsSchedule, normals}
use Rattle.pc_model.specs.Cost.{cost_of}
use Rattle.pc_model.specs.Pieces.{knees_of}
use Rattle.pc_model.proofs.Schedules.Durations.{normals-at}
use Rattle.pc_model.proofs.Costs.NormalCost.{all_normal_least_cost, all_normal_schedule, cost_of-normals}
use Rattle.pc_crash.specs.inside.Priced.{AreDurations}
use Rattle.pc_times.specs.Times.{AreEarly, AreLengths}
use Rattle.pc_project.specs.Project.{Project}
use Rattle.pc_project.specs.Planned.{IsPlanned}
use Rattle.pert_cli.specs.Normal.{IsNormalSchedule, Printed}

-- the normal durations are lengths of the activities
pub normals-lengths : (project : Project) → IsPlanned project → AreLengths project.network (normals project.terms)
normals-lengths project planned = record {
  one_each = length-map project.terms (λ t. t.normal) ∙ planned.terms.one_each;
  small = λ a below. omega (arith, normals-at project.terms a (omega (arith, below, planned.terms.one_each)), planned.limits.short a (omega (arith, below, planned.terms.one_each)));
}

-- the normal durations are between crash and normal
pub normals-durations : (net : Network) (terms : List Term) → AreTerms net terms → AreDurations terms (normals terms)
normals-durations net terms are = record {
  one_each = length-map terms (λ t. t.normal);
  enough = λ a below. omega (arith, normals-at terms a below, are.ordered a below);
  within = λ a below. omega (arith, normals-at terms a below);
}

-- the longest sums of the normal durations, with their cost, are the schedule at the all-normal length
pub normal_schedule : (project : Project) (printed : Printed) → IsPlanned project → printed.durations ≡ normals project.terms →
    AreEarly project.network (normals project.terms) printed.times → IsLongest project.network (normals project.terms) printed.length →
    printed.cost ≡ cost_of project.terms (knees_of project.terms project.pieces) (slice_index (normals project.terms)) →
    IsNormalSchedule project printed
normal_schedule project printed planned normal early longest cost = record {
  time_each = early.one_each;
  duration_each = ap length normal ∙ (normals-lengths project planned).one_each;
  length = longest;
  normal = normal;
  early = early.each;
  schedule = subst (λ durations. IsSchedule project.network project.terms printed.length (slice_index durations) (slice_index printed.times)) (sym normal)
      (all_normal_schedule project.network project.terms (slice_index printed.times) printed.length planned.in_range planned.sound planned.terms early.each longest);
  cost = ap (λ durations. cost_of project.terms (knees_of project.terms project.pieces) (slice_index durations)) normal ∙ sym cost;
  least = (all_normal_least_cost project.network project.terms (knees_of project.terms project.pieces)
      (slice_index printed.times) printed.length printed.cost planned.in_range planned.sound planned.terms early.each longest
      (cost ∙ cost_of-normals project.terms (knees_of project.terms project.pieces))).least;
}
