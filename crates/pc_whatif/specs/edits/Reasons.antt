-- The numbers of the reasons for which a line is refused.
use Rattle.std.specs.Prelude.{ℕ}
use Rattle.pc_whatif.specs.declared.edits.reason.Reason.{Reason}
use Rattle.pc_whatif.specs.declared.edits.reason.Reason.TheVariants.{Form, UnknownActivity, OverLimit, CrashAboveNormal, EstimatesOutOfOrder, PieceFault, NothingToUndo, OutsideRange}

abbrev pub reason_number : Reason → ℕ
-- the line has none of the forms, or is too long
reason_number Form = 1
-- no activity has the code
reason_number UnknownActivity = 2
-- a number is over its limit
reason_number OverLimit = 3
-- the crash duration would be above the normal one
reason_number CrashAboveNormal = 4
-- the estimates would be out of order
reason_number EstimatesOutOfOrder = 5
-- a piece of the activity would not rise, or leave nothing
reason_number PieceFault = 6
-- no edit is kept
reason_number NothingToUndo = 7
-- no schedule has the length, or it is longer than any needs
reason_number OutsideRange = 8
