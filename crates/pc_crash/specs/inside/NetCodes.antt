-- The codes of a network.
use Rattle.std.specs.Prelude.{ℕ, List}
use Rattle.pc_crash.specs.declared.net_codes.CodeLists.{CodeLists}
use Rattle.pc_crash.specs.declared.net_codes.CodeLists.TheVariants.{Own, Borrowed}
use Rattle.pc_crash.specs.declared.net_codes.NetCodes.TheInside.{Inside}

-- what a project, its events and its activities are called
pub record Codes : Type 0 where
  pub project : List ℕ
  pub events : List (List ℕ)
  pub activities : List (List ℕ)

abbrev events_in : CodeLists → List (List ℕ)
events_in (Own events activities) = events.items
events_in (Borrowed events activities) = events.now

abbrev activities_in : CodeLists → List (List ℕ)
activities_in (Own events activities) = activities
activities_in (Borrowed events activities) = activities.now

-- the codes, whoever keeps them
abbrev pub codes_from : Inside → Codes
codes_from codes = record { project = codes.project; events = events_in codes.lists; activities = activities_in codes.lists }
