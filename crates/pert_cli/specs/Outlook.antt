-- The answer to `outlook L`: a schedule of least cost for a length, and what each item costs by it.
use Rattle.std.specs.Prelude.{◌≡◌, ℕ, List, ◌++◌}
use Rattle.pc_rollup.specs.figures.Outlook.{Outlook, amounts_at, IsWholeOutlook}
use Rattle.pc_project.specs.Project.{Project}
use Rattle.pc_reports.specs.OutlookText.{IsOutlook, outlook_text}
use Rattle.pc_wbs.specs.Climb.{IsTop}
use Rattle.pc_project.specs.shell.Priced.{priced_in}
use Rattle.pert_cli.specs.Normal.{Printed, printed_text}
use Rattle.pert_cli.specs.Point.{IsCheapestFor}

-- the text is that of a schedule of least cost for the length, and of the outlook of each item at its durations. So the outlook of
-- the top item is the least cost, and the budgets of all accounts whose package has no activities
pub record IsOutlookReply (project : Project) (limit : ℕ) (text : List ℕ) : Type 0 where
  pub printed : Printed
  pub right : IsCheapestFor (priced_in project) limit printed
  pub outlook : Outlook
  pub at : IsOutlook project printed.durations outlook
  pub whole : (top : ℕ) → IsTop project.tree top
      → IsWholeOutlook project.places project.accounts project.entries printed.cost (amounts_at outlook.amounts top).outlook
  pub is : text ≡ printed_text project printed ++ outlook_text project outlook
