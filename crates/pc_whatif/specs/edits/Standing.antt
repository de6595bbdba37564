-- Which edits are in effect, and that the edited project is the deck's project with these edits applied in order.
use Rattle.std.specs.Prelude.{◌≡◌, ℕ, ◌+◌, ◌-◌, ◌≤◌, min, List, [], ◌∷◌, ◌++◌, length, take, unwrap_or}
use Rattle.circular_buffer.specs.Buffer.{keep_last}
use Rattle.pc_crash.specs.Priced.{PricedNetwork}
use Rattle.pc_project.specs.Project.{Project}
use Rattle.pc_project.specs.shell.Priced.{priced_in}
use Rattle.pc_whatif.specs.declared.edits.ask.Edit.{Edit}
use Rattle.pc_whatif.specs.declared.edits.TheConstants.{MAX_KEPT}
use Rattle.pc_whatif.specs.edits.Plans.{Plan, plan_with}
use Rattle.pc_whatif.specs.edits.Editing.{Editing, activity_named, begun, editing_with, edited_plan}

-- the edits that were accepted and not reverted, in order, and how many of the last of them are kept for UNDO
pub record Journal : Type 0 where
  pub standing : List Edit
  pub kept : ℕ

-- before any line
abbrev pub empty : Journal
empty = record { standing = []; kept = 0 }

-- after an accepted edit: it is in effect and is kept; if there are as many kept edits as allowed, the oldest is no longer kept
abbrev pub noted : Journal → Edit → Journal
noted journal edit = record { standing = journal.standing ++ edit ∷ []; kept = min MAX_KEPT (journal.kept + 1) }

-- after an accepted UNDO: the latest edit is no longer in effect
abbrev pub taken_back : Journal → Journal
taken_back journal = record { standing = take (length journal.standing - 1) journal.standing; kept = journal.kept - 1 }

-- the number of the activity of an edit; past those of all activities if none has its code, which is not so for an accepted edit
abbrev pub activity_of_edit : PricedNetwork → Edit → ℕ
activity_of_edit net edit = unwrap_or (activity_named net edit.act) (length net.activities)

-- the plan with edits applied in order
abbrev pub plan_after : PricedNetwork → List Edit → Plan → Plan
plan_after net [] plan = plan
plan_after net (edit ∷ edits) plan = plan_after net edits (plan_with edit.change (activity_of_edit net edit) plan)

-- the plans before each of the edits
abbrev pub plans_before : PricedNetwork → List Edit → Plan → List Plan
plans_before net [] plan = []
plans_before net (edit ∷ edits) plan = plan ∷ plans_before net edits (plan_with edit.change (activity_of_edit net edit) plan)

-- the project of a deck with the edits of a journal in effect: applied in order, with the plan before each of the kept
-- ones
abbrev pub standing_of : Project → Journal → Editing
standing_of project journal =
    editing_with (begun project) (plan_after (priced_in project) journal.standing (edited_plan (begun project)))
    (keep_last journal.kept (plans_before (priced_in project) journal.standing (edited_plan (begun project))))

-- the project is edited by the edits of the journal; no more of them are kept than are in effect, nor than are allowed
pub record IsEditedBy (project : Project) (journal : Journal) (editing : Editing) : Type 0 where
  pub is : editing ≡ standing_of project journal
  pub some : journal.kept ≤ length journal.standing
  pub few : journal.kept ≤ MAX_KEPT
