-- A project as edited, and what a line makes of it.
use Rattle.std.specs.Prelude.{ℕ, ◌-◌, nat_eq, List, [], ◌∷◌, ◌++◌, length, position, slice_set, take, Option}
use Rattle.std.specs.Cmp.Lexicographic.{pointwise}
use Rattle.std.specs.Option.{option_map_or}
use Rattle.circular_buffer.specs.Buffer.{keep_last, last_item}
use Rattle.pc_crash.specs.Priced.{PricedNetwork}
use Rattle.pc_project.specs.Project.{Project}
use Rattle.pc_project.specs.declared.activity.Estimates.{Estimates}
use Rattle.pc_project.specs.shell.Priced.{priced_in}
use Rattle.pc_whatif.specs.declared.edits.ask.Edit.{Edit}
use Rattle.pc_whatif.specs.declared.edits.TheConstants.{MAX_KEPT}
use Rattle.pc_whatif.specs.declared.edits.ActTerm.{ActTerm}
use Rattle.pc_whatif.specs.edits.Plans.{Plan, plan_with, estimates_in}

-- the project as it is now: its priced network, the estimates of its activities, and how many days a unit is; and the plans
-- to which UNDO goes back, the latest last
pub record Editing : Type 0 where
  pub net : PricedNetwork
  pub estimates : List Estimates
  pub unit_days : ℕ
  pub kept : List Plan

-- its numbers
abbrev pub edited_plan : Editing → Plan
edited_plan editing = record { terms = editing.net.terms; estimates = editing.estimates }

-- the same project with other numbers and other kept plans
abbrev pub editing_with : Editing → Plan → List Plan → Editing
editing_with editing plan kept = record editing {
  net = record editing.net { terms = plan.terms };
  estimates = plan.estimates;
  kept = kept;
}

-- the project of a deck before any edit
abbrev pub begun : Project → Editing
begun project = record {
  net = priced_in project;
  estimates = estimates_in project.deck;
  unit_days = project.heading.unit_days;
  kept = [];
}

-- the number of the activity with a code; none if no activity has it
abbrev pub activity_named : PricedNetwork → List ℕ → Option ℕ
activity_named net code = position (pointwise nat_eq code) net.activities

-- the project after an accepted edit: its numbers are in place, and the plan before it is kept, with at most this many others
abbrev pub edited : Editing → Edit → Editing
edited editing edit =
    option_map_or (λ a. editing_with editing (plan_with edit.change a (edited_plan editing)) (keep_last MAX_KEPT (editing.kept ++ edited_plan editing ∷ [])))
    (activity_named editing.net edit.act) editing

-- the project after an UNDO: its numbers are those before the latest kept edit, which is no longer kept; unchanged if
-- no edit is kept
abbrev pub undone : Editing → Editing
undone editing =
    option_map_or (λ plan. editing_with editing plan (take (length editing.kept - 1) editing.kept)) (last_item editing.kept) editing

-- a priced network with another term for one activity
abbrev pub net_trying : PricedNetwork → ActTerm → PricedNetwork
net_trying net tried = record net { terms = slice_set net.terms tried.activity tried.term }
