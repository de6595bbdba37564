-- What the fields of edits say.
use Rattle.std.specs.Prelude.{◌≡◌, ◌<◌, List, [], ◌∷◌, All, length, slice_set, Option, Some, None}
use Rattle.std.specs.Option.{ForSome}
use Rattle.pc_model.specs.declared.Term.{Term}
use Rattle.pc_model.specs.Schedule.{term_at}
use Rattle.pc_project.specs.declared.activity.Estimates.{Estimates}
use Rattle.pc_whatif.specs.declared.edits.ask.Change.{Change}
use Rattle.pc_whatif.specs.declared.edits.ask.Change.TheVariants.{Estimate, Normal, Crash, Slope}
use Rattle.pc_whatif.specs.declared.edits.KeptEdit.{KeptEdit}
use Rattle.pc_whatif.specs.declared.edits.ActTerm.{ActTerm}
use Rattle.pc_whatif.specs.declared.edits.Edits.TheInside.{Inside}
use Rattle.pc_whatif.specs.declared.edits.TheConstants.{MAX_KEPT}
use Rattle.pc_whatif.specs.edits.Plans.{Plan, plan_with}
use Rattle.pc_whatif.specs.edits.Editing.{Editing}
use Rattle.pc_whatif.specs.inside.edits.Editing.{Edits, IsEditing}

-- the numbers that a change of activity a takes the place of
abbrev pub replaced : Change → Term → Estimates → Change
replaced (Normal n) term estimates = Normal term.normal
replaced (Crash n) term estimates = Crash term.crash
replaced (Slope n) term estimates = Slope term.slope
replaced (Estimate new) term estimates = Estimate estimates

-- the plan before the first of the kept edits, from the plan after the last of them
abbrev pub plan_back : List KeptEdit → Plan → Plan
plan_back [] plan = plan
plan_back (kept ∷ later) plan = plan_with kept.was kept.activity (plan_back later plan)

-- the plans before each of them
abbrev pub plans_back : List KeptEdit → Plan → List Plan
plans_back [] plan = []
plans_back (kept ∷ later) plan = plan_back (kept ∷ later) plan ∷ plans_back later plan

-- the terms with the one that was put aside for a trial
abbrev pub own_terms : Option ActTerm → List Term → List Term
own_terms None terms = terms
own_terms (Some aside) terms = slice_set terms aside.activity aside.term

-- the term that is on trial
abbrev pub trial_in : Option ActTerm → List Term → Option ActTerm
trial_in None terms = None
trial_in (Some aside) terms = Some (record { activity = aside.activity; term = term_at terms aside.activity })

-- the numbers
abbrev pub plan_in : Inside → Plan
plan_in edits = record { terms = own_terms edits.aside edits.net.terms; estimates = edits.estimates.items }

-- the project as edited
abbrev pub editing_in : Inside → Editing
editing_in edits = record {
  net = record edits.net { terms = own_terms edits.aside edits.net.terms };
  estimates = edits.estimates.items;
  unit_days = edits.unit_days;
  kept = plans_back edits.kept.items (plan_in edits);
}

-- what the fields are together
abbrev pub edits_from : Inside → Edits
edits_from edits = record { editing = editing_in edits; trial = trial_in edits.aside edits.net.terms }

-- the numbers fit, now and in each kept plan; there is capacity for as many edits as may be kept, and the kept edits
-- and the term that a trial set aside belong to activities
pub record IsSoundEdits (edits : Inside) : Type 0 where
  pub editing : IsEditing (editing_in edits)
  pub room : edits.kept.capacity ≡ MAX_KEPT
  pub known : All (λ kept. kept.activity < length edits.net.network.arcs) edits.kept.items
  pub aside_known : ForSome edits.aside (λ aside. aside.activity < length edits.net.network.arcs)
