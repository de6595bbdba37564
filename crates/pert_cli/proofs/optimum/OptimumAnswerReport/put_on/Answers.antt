use Rattle.std.proofs.Common.{List, ℕ, ap, refl}
use Rattle.pc_edges.proofs.lemmas.page.PageLaws.{◌⨾◌, Adds-as}
use Rattle.pc_total.specs.BestText.{best_text}
use Rattle.pert_cli.proofs.optimum.OptimumAnswerReport.put_on.Goals as goal

pub with_codes-requires : goal.with_codes-requires
with_codes-requires g c =
    let cheapest = c.requires.cheapest in
    record { events = cheapest.time_each; activities = cheapest.duration_each }

pub returns : goal.returns
returns g c =
    let best = c.args.self.best in (
      _,
      refl,
      Adds-as (best_text c.args.project.now.heading.code best) (ap (λ (name : List ℕ). best_text name best) c.code.ensures) c.put_best.ensures
          ⨾ Adds-as _ c.with_codes.ensures.plan c.put_plan.ensures,
    )
