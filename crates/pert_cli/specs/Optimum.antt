-- The answer to `optimum`: the length of least total cost, what shows that, and a schedule of least cost for it.
use Rattle.std.specs.Prelude.{◌≡◌, ℕ, List, ◌++◌}
use Rattle.pc_model.specs.declared.TimeTerms.{TimeTerms}
use Rattle.pc_crash.specs.Priced.{PricedNetwork}
use Rattle.pc_curve.specs.Points.{curve_in}
use Rattle.pc_project.specs.Project.{Project}
use Rattle.pc_reports.specs.Schedule.{plan_text}
use Rattle.pc_total.specs.declared.optimum.Best.{Best}
use Rattle.pc_total.specs.Bests.{IsBest}
use Rattle.pc_total.specs.BestText.{best_text}
use Rattle.pc_project.specs.shell.Priced.{priced_in}
use Rattle.pert_cli.specs.Normal.{Printed}
use Rattle.pc_curve.specs.Range.{IsRange}
use Rattle.pert_cli.specs.Point.{IsCheapest}

-- the optimum of a network's curve with these terms of time, and a schedule for its length at the stated cost
pub record IsOptimumWith (net : PricedNetwork) (terms : TimeTerms) (best : Best) (printed : Printed) : Type 0 where
  pub shortest : ℕ
  pub longest : ℕ
  pub range : IsRange net shortest longest
  pub right : IsBest (curve_in net) terms shortest longest best
  pub cheapest : IsCheapest net printed
  pub length : printed.length ≡ best.length
  pub cost : printed.cost ≡ best.direct

-- the lines of the optimum, and then those of the schedule's events and activities
abbrev pub optimum_text : Project → Best → Printed → List ℕ
optimum_text project best printed =
    best_text project.heading.code best ++ plan_text project.events printed.times project.activities printed.durations

-- the text is that of the project's optimum, with a schedule for it
pub record IsOptimumText (project : Project) (text : List ℕ) : Type 0 where
  pub best : Best
  pub printed : Printed
  pub right : IsOptimumWith (priced_in project) project.time_terms best printed
  pub is : text ≡ optimum_text project best printed
