use Rattle.std.proofs.Common.{subst}
use Rattle.pc_faults.specs.inside.First.{Refuses}
use Rattle.pc_faults.proofs.FirstLaws.{refused_by}
use Rattle.pc_project.specs.Figures.{IsProjectOfDeck}
use Rattle.pc_project.specs.Makes.{MakesProject}
use Rattle.pc_project.specs.Refusal.{IsRefusedWith}
use Rattle.pc_project.proofs.RefusalLaws.{handed_on}
use Rattle.pc_tasks.specs.Refusal.{IsTasksRefusedWith, of_plan}
use Rattle.pc_tasks.proofs.KeepLemmas.{keeps_tasks}
use Rattle.pc_tasks.proofs.KnownLemmas.{can_be_drawn}
use Rattle.pc_tasks.proofs.arrows.drawn_project.Goals as goal

pub returns-clause-project : goal.returns-clause-project
returns-clause-project c =
    let deck = c.args.cards.now in
    let can = can_be_drawn deck c.in_ok-afters.ensures.sound.items.cards c.drawn_of.ensures.within in
    let makes = subst MakesProject c.in_ok-plan.ensures.drawn c.in_ok-project.ensures.makes in
    let is = subst (λ d. IsProjectOfDeck d c.in_ok-project.project) c.in_ok-plan.ensures.drawn c.in_ok-project.ensures.project in
    record {
      makes = record { sound = c.in_ok-afters.ensures.sound; plan = makes };
      is = is;
      keeps = keeps_tasks deck c.in_ok-project.project is
          (λ limit. c.drawn_deck_keeps_least_costs.ensures.schedules deck limit can c.in_ok-afters.ensures.sound.no_cycle)
          (λ limit cost. c.drawn_deck_keeps_least_costs.ensures.costs deck limit cost can c.in_ok-afters.ensures.sound.no_cycle);
    }

pub returns-in_err-project-clause-refused : goal.returns-in_err-project-clause-refused
returns-in_err-project-clause-refused c =
    let deck = c.args.cards.now in
    let error = c.in_err-project.field-0.0 in
    handed_on (Refuses (IsTasksRefusedWith deck)) c.from_residual-in_err-project.result error c.from_residual-in_err-project.ensures.1
    (refused_by (IsRefusedWith c.in_ok-plan.plan) (IsTasksRefusedWith deck)
    (λ fault refused. of_plan c.in_ok-afters.ensures.sound (subst (λ plan. IsRefusedWith plan fault) c.in_ok-plan.ensures.drawn refused)) error c.in_err-project.ensures.refused)
