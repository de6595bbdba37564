-- The project that the fields of a project hold.
use Rattle.pc_project.specs.declared.project.Project.TheInside.{Inside}
use Rattle.pc_project.specs.Project.{Project, project_in}
use Rattle.pc_project.specs.Planned.{IsPlanned}

-- what the cards say, but for the lists that a project keeps as numbers
abbrev pub project_from : Inside → Project
project_from a = record (project_in a.cards a.frame.book a.frame.states.items) {
  network = a.frame.net;
  tree = a.frame.tree;
  places = a.frame.places.items;
  terms = a.frame.terms.items;
  expected = a.frame.expected.items;
  variances = a.frame.variances.items;
  pieces = a.pieces.items;
  loads = a.loads.items;
  accounts = a.accounts.items;
}

abbrev pub IsPlannedInside : Inside → Type 0
IsPlannedInside a = IsPlanned (project_from a)
