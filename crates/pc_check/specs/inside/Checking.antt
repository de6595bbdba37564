-- The state of a checker.
use Rattle.std.specs.Prelude.{◌≡◌, ℕ, ◌<◌, List, length, map, Option, Some, None}
use Rattle.pc_cert.specs.declared.line.CertLine.{CertLine}
use Rattle.pc_cert.specs.declared.place.Place.TheVariants.{Start}
use Rattle.pc_cert.specs.Text.{ran}
use Rattle.pc_model.specs.Sums.{sum_to}
use Rattle.pc_model.specs.Cost.{activity_cost}
use Rattle.pc_crash.specs.Priced.{PricedNetwork, knees_in}
use Rattle.pc_check.specs.declared.checker.Fail.{Fail}
use Rattle.pc_check.specs.declared.kept.Kept.{Kept}
use Rattle.pc_check.specs.declared.kept.Tally.{Tally}
use Rattle.pc_check.specs.Draft.{Part, Draft, draft_of}
use Rattle.pc_check.specs.Known.{some_below}
use Rattle.pc_check.specs.inside.fast.Passed.{passed_flow, passed_cost}
use Rattle.pc_check.specs.Said.{flow_along, forward_by, backward_by, said}
use Rattle.pc_check.specs.Segments.{segment_in, stops_in}
use Rattle.pc_check.specs.Failures.{failure_of}

-- a checker: the network whose certificate it checks, its state after the lines, and the first failure
pub record Checking : Type 0 where
  pub net : PricedNetwork
  pub kept : Kept
  pub fail : Option Fail

-- the tally of a segment is what the rows of its part say
pub record IsTallied (net : PricedNetwork) (part : Part) (tally : Tally) : Type 0 where
  pub upper : tally.upper ≡ part.upper
  pub lower : tally.lower ≡ part.lower
  pub cost : tally.cost ≡ part.cost
  pub slope : tally.slope ≡ part.slope
  pub times : tally.times.items ≡ map (λ row. row.time) part.events
  pub moves : tally.moves.items ≡ map (λ row. row.moves) part.events
  pub acts : tally.acts ≡ length part.acts
  pub flows : (a : ℕ) → a < length part.acts → passed_flow tally.rows.items a ≡ flow_along net part a
  pub costs : (a : ℕ) → a < length part.acts → passed_cost tally.rows.items a ≡ activity_cost net.terms (knees_in net) a ((segment_in net part).duration a)
  pub forward : tally.cut.forward ≡ sum_to (length part.acts) (forward_by net (segment_in net part))
  pub backward : tally.cut.backward ≡ sum_to (length part.acts) (backward_by net (segment_in net part))
  pub stops : tally.cut.stops ≡ some_below (length part.acts) (stops_in net (segment_in net part))

-- the state is what is known of lines with this draft
pub record IsKept (net : PricedNetwork) (draft : Draft) (kept : Kept) : Type 0 where
  pub normal : kept.normal ≡ (said net draft).normal
  pub crash : kept.crash ≡ (said net draft).crash
  pub crash_walk_started : kept.crash_walk_started ≡ draft.crash_walk_started
  pub segments : kept.segments ≡ length draft.segments
  pub tally : IsTallied net draft.part kept.tally

-- lines in an order that is allowed, none of which fails, and the state after them
pub record HasCheckedLines (net : PricedNetwork) (kept : Kept) (lines : List CertLine) : Type 0 where
  pub order : ran Start lines ≡ Some kept.place
  pub count : kept.lines ≡ length lines
  pub none : failure_of net lines ≡ None
  pub keeps : IsKept net (draft_of lines) kept

abbrev pub HasCheckedOrFailed : PricedNetwork → Kept → Option Fail → List CertLine → Type 0
HasCheckedOrFailed net kept None lines = HasCheckedLines net kept lines
HasCheckedOrFailed net kept (Some fail) lines = failure_of net lines ≡ Some fail

-- the checker is in the state after lines: those none of which fails and which give its state, or all that have its
-- failure first
abbrev pub ChecksAs : Checking → List CertLine → Type 0
ChecksAs checking lines = HasCheckedOrFailed checking.net checking.kept checking.fail lines
