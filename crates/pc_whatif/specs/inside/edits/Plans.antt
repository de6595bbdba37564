-- The numbers of a project that edits change, and what a change makes of them.
-- Here is what no clause of a top call and no law reaches.
use Rattle.std.specs.Prelude.{◌≡◌, ℕ, ◌<◌, ◌≤◌, List, length}
use Rattle.pc_model.specs.declared.PieceRow.{PieceRow}
use Rattle.pc_model.specs.declared.limits.TheConstants.{MAX_DURATION}
use Rattle.pc_model.specs.Network.{Network}
use Rattle.pc_model.specs.Pieces.{ArePieces}
use Rattle.pc_model.specs.Schedule.{AreTerms}
use Rattle.pc_crash.specs.Terms.{AreWithinLimits}
use Rattle.pc_project.specs.declared.activity.Estimates.{Estimates}
use Rattle.pc_whatif.specs.edits.Plans.{Plan, nth_estimates}

-- the estimates are in order, and none is above its limit
pub record AreEstimates (e : Estimates) : Type 0 where
  pub optimistic : e.optimistic ≤ e.likely
  pub pessimistic : e.likely ≤ e.pessimistic
  pub short : e.pessimistic ≤ MAX_DURATION

-- the numbers fit the network and the pieces of costs, as those of an accepted deck do
pub record IsFitPlan (net : Network) (further : List PieceRow) (plan : Plan) : Type 0 where
  pub terms : AreTerms net plan.terms
  pub limits : AreWithinLimits plan.terms
  pub pieces : ArePieces plan.terms further
  pub estimates_each : length plan.estimates ≡ length net.arcs
  pub estimates : (a : ℕ) → a < length net.arcs → AreEstimates (nth_estimates plan.estimates a)
