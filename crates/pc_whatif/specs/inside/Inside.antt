-- What contracts see of a session, by what it keeps.
use Rattle.std.specs.Prelude.{◌≡◌, ◌≤◌, length, None}
use Rattle.pc_edges.specs.inside.page.Page.{fresh}
use Rattle.pc_whatif.specs.inside.trials.Trials.{trial_cells}
use Rattle.pc_whatif.specs.declared.session.Session.TheInside.{Inside}
use Rattle.pc_whatif.specs.inside.Planning.{Planning, IsEditionOf, HasCurrentTimes}

abbrev pub planning_of : Inside → Planning
planning_of a = record { project = a.project.now; editing = a.edits.editing; region = a.region }

-- nothing is on trial, the times are those of the project as it is edited, a trial has its cells, and no text was begun
pub record IsSoundPlanning (a : Inside) : Type 0 where
  pub at_rest : a.edits.trial ≡ None
  pub edition : IsEditionOf a.project.now a.edits.editing
  pub renewed : HasCurrentTimes a.project.now a.edits.editing a.region
  pub room : trial_cells a.project.now.network.events (length a.project.now.network.arcs) (length a.project.now.pieces) ≤ a.region.free
  pub page : a.page ≡ fresh
