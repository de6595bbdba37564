-- Why an ask is refused, read of the project with the line's numbers in place.
use Rattle.std.specs.Prelude.{ℕ, ◌+◌, ◌||◌, ◌==◌, Bool, false, nat_le, nat_lt, List, [], ◌∷◌, length, Option, Some, None, if◌then◌else◌}
use Rattle.std.specs.Option.{option_map_or}
use Rattle.pc_model.specs.declared.PieceRow.{PieceRow}
use Rattle.pc_model.specs.declared.Term.{Term}
use Rattle.pc_model.specs.declared.limits.TheConstants.{MAX_DURATION, MAX_SLOPE}
use Rattle.pc_model.specs.Pieces.{pieces_of}
use Rattle.pc_model.specs.Schedule.{term_at}
use Rattle.pc_crash.specs.Priced.{PricedNetwork}
use Rattle.pc_project.specs.declared.activity.Estimates.{Estimates}
use Rattle.pc_whatif.specs.declared.edits.ask.Change.{Change}
use Rattle.pc_whatif.specs.declared.edits.ask.Change.TheVariants.{Estimate, Normal, Crash, Slope}
use Rattle.pc_whatif.specs.declared.edits.ask.Edit.{Edit}
use Rattle.pc_whatif.specs.declared.edits.ask.Trial.{Trial}
use Rattle.pc_whatif.specs.declared.edits.reason.Reason.{Reason}
use Rattle.pc_whatif.specs.declared.edits.reason.Reason.TheVariants.{UnknownActivity, OverLimit, CrashAboveNormal, EstimatesOutOfOrder, PieceFault, NothingToUndo}
use Rattle.pc_whatif.specs.edits.Plans.{term_with, term_tried, estimates_with, nth_estimates}
use Rattle.pc_whatif.specs.edits.Editing.{Editing, activity_named}

-- a number of a change is over the limit that a card's has
abbrev pub is_over : Change → Bool
is_over (Estimate new) = nat_lt MAX_DURATION new.optimistic || (nat_lt MAX_DURATION new.likely || nat_lt MAX_DURATION new.pessimistic)
is_over (Normal n) = nat_lt MAX_DURATION n
is_over (Crash n) = nat_lt MAX_DURATION n
is_over (Slope n) = nat_lt MAX_SLOPE n

-- a number of a trial other than its length is over its limit
abbrev pub is_trial_over : Trial → Bool
is_trial_over trial = nat_lt MAX_DURATION trial.normal || (nat_lt MAX_DURATION trial.crash || nat_lt MAX_SLOPE trial.slope)

-- the crash duration is above the normal one
abbrev pub is_crash_above : Term → Bool
is_crash_above term = nat_lt term.normal term.crash

-- the estimates are out of order
abbrev pub are_disordered : Estimates → Bool
are_disordered e = nat_lt e.likely e.optimistic || nat_lt e.pessimistic e.likely

-- one of these pieces of an activity has a fault, if the pieces before them have this many units in all and the last of those, or
-- else the activity itself, costs `slope` for each unit: its slope does not rise (F34), or with it the pieces take all
-- units from normal to crash (F35)
abbrev pub has_flaw : Term → ℕ → ℕ → List PieceRow → Bool
has_flaw term slope units [] = false
has_flaw term slope units (piece ∷ pieces) =
    nat_le piece.slope slope
    || (nat_le term.normal (term.crash + (units + piece.units))
    || has_flaw term piece.slope (units + piece.units) pieces)

-- the first reason against numbers of an activity with these pieces: whether one is over its limit, the term and the
-- estimates with the numbers in place
abbrev pub refusal_of : Bool → Term → Estimates → List PieceRow → Option Reason
refusal_of over term estimates pieces =
    -- 3: a number is over its limit
    if over then Some OverLimit
    -- 4: the crash duration is above the normal one
    else if is_crash_above term then Some CrashAboveNormal
    -- 5: the estimates are out of order
    else if are_disordered estimates then Some EstimatesOutOfOrder
    -- 6: a piece has a fault
    else if has_flaw term term.slope 0 pieces then Some PieceFault
    else None

-- why an edit is refused
abbrev pub edit_refusal : PricedNetwork → List Estimates → Edit → Option Reason
edit_refusal net estimates edit =
    option_map_or
    (λ a. refusal_of (is_over edit.change) (term_with edit.change (term_at net.terms a)) (estimates_with edit.change (nth_estimates estimates a)) (pieces_of net.pieces a))
    (activity_named net edit.act)
    -- 2: no activity has the code
    (Some UnknownActivity)

-- why a trial is refused, except for its length
abbrev pub trial_refusal : PricedNetwork → List Estimates → Trial → Option Reason
trial_refusal net estimates trial =
    option_map_or
    (λ a. refusal_of (is_trial_over trial) (term_tried trial (term_at net.terms a)) (nth_estimates estimates a) (pieces_of net.pieces a))
    (activity_named net trial.act)
    (Some UnknownActivity)

-- why an UNDO is refused: 7, nothing is kept
abbrev pub undo_refusal : Editing → Option Reason
undo_refusal editing = if length editing.kept == 0 then Some NothingToUndo else None
