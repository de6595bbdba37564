-- A project as edited, and what a line makes of it.
-- Here is what no clause of a top call and no law reaches.
use Rattle.std.specs.Prelude.{◌≡◌, ℕ, ◌<◌, ◌≤◌, All, length, slice_set, Option, None}
use Rattle.std.specs.Option.{option_map_or}
use Rattle.pc_model.specs.declared.limits.TheConstants.{MAX_UNIT_DAYS}
use Rattle.pc_model.specs.Pieces.{ArePieces}
use Rattle.pc_model.specs.Schedule.{AreTerms, term_at}
use Rattle.pc_crash.specs.Priced.{PricedNetwork}
use Rattle.pc_crash.specs.Terms.{AreWithinLimits}
use Rattle.pc_whatif.specs.declared.edits.TheConstants.{MAX_KEPT}
use Rattle.pc_whatif.specs.declared.edits.ActTerm.{ActTerm}
use Rattle.pc_whatif.specs.edits.Plans.{nth_estimates}
use Rattle.pc_whatif.specs.inside.edits.Plans.{IsFitPlan}
use Rattle.pc_whatif.specs.edits.Editing.{Editing, edited_plan, net_trying}

-- what the edits are: the project as edited, and the term that is on trial for one of its activities, where one is
pub record Edits : Type 0 where
  pub editing : Editing
  pub trial : Option ActTerm

-- a project as edited with nothing on trial
abbrev pub at_rest : Editing → Edits
at_rest editing = record { editing = editing; trial = None }

-- the priced network with the term on trial in place, where one is
abbrev pub net_in : Edits → PricedNetwork
net_in edits = option_map_or (net_trying edits.editing.net) edits.trial edits.editing.net

-- the term may be tried for the activity: with it in place the terms fit
pub record MayTry (net : PricedNetwork) (tried : ActTerm) : Type 0 where
  pub activity : tried.activity < length net.network.arcs
  pub terms : AreTerms net.network (net_trying net tried).terms
  pub limits : AreWithinLimits (net_trying net tried).terms
  pub pieces : ArePieces (net_trying net tried).terms net.pieces

-- the numbers fit, now and in each kept plan, and no more plans are kept than allowed
pub record IsEditing (editing : Editing) : Type 0 where
  pub fit : IsFitPlan editing.net.network editing.net.pieces (edited_plan editing)
  pub kept_fit : All (IsFitPlan editing.net.network editing.net.pieces) editing.kept
  pub few : length editing.kept ≤ MAX_KEPT
  pub unit_days : editing.unit_days ≤ MAX_UNIT_DAYS

-- only the numbers of activity a and the kept plans differ
pub record ChangesOnly (old new : Editing) (a : ℕ) : Type 0 where
  pub activity : a < length old.net.network.arcs
  pub net : new.net ≡ record old.net { terms = slice_set old.net.terms a (term_at new.net.terms a) }
  pub estimates : new.estimates ≡ slice_set old.estimates a (nth_estimates new.estimates a)
  pub unit_days : new.unit_days ≡ old.unit_days
