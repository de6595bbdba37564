-- What a form asks of a solver of the project's curve, and what it needs for one.
-- Here is what no clause of a top call and no law reaches.
use Rattle.std.specs.Prelude.{◌≡◌, ℕ, ◌+◌, ◌*◌, ◌≤◌, false, List, length}
use Rattle.pc_cells.specs.Spans.{Cells}
use Rattle.pc_cells.specs.inside.Spans.{free_of}
use Rattle.pc_crash.specs.Priced.{PricedNetwork}
use Rattle.pc_curve.specs.CurveText.{IsCurveText}
use Rattle.pc_curve.specs.Range.{IsRange}
use Rattle.pc_curve.specs.bench.Report.{IsBenchText}
use Rattle.pc_flow.specs.Courses.{Course}
use Rattle.pc_project.specs.Project.{Project}
use Rattle.pc_project.specs.shell.Priced.{priced_in}
use Rattle.pert_cli.specs.declared.curve.CurveLines.{CurveLines}
use Rattle.pert_cli.specs.declared.curve.CurveLines.TheVariants.{Breakpoints, Figures}

-- a solver of the project's curve before its first segment
pub record IsAtStart (project : Project) (c : Course) : Type 0 where
  pub net : c.net ≡ priced_in project
  pub before : c.given ≡ false
  pub range : IsRange c.net c.shortest c.longest

-- the network is the project's, and the region has as many cells as a solver of it needs
pub record CanSolve (project : Project) (net : PricedNetwork) (region : Cells) : Type 0 where
  pub priced : net ≡ priced_in project
  pub cells : 8 * net.network.events + 6 * length net.network.arcs + 2 * length net.pieces + 16 ≤ free_of region

-- the lines of a network's curve
abbrev pub IsLinesOf : CurveLines → PricedNetwork → List ℕ → Type 0
IsLinesOf Breakpoints net text = IsCurveText net text
IsLinesOf (Figures n) net text = IsBenchText n net text
