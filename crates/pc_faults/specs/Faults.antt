-- The faults by their numbers: the record at which each comes, and what it names.
use Rattle.std.specs.Prelude.{ℕ, ℤ, Bool, List}
use Rattle.pc_faults.specs.declared.kind.Kind.{Kind as ACardKind}
use Rattle.pc_faults.specs.declared.fault.StatusFault.{StatusFault as AReason}
use Rattle.pc_faults.specs.declared.fault.Detail.TheVariants.{Plain, Kind, Fields, Field, Name, TooMany, Names, Level, Side, Sums, Status, ToGo, Length, Periods}
use Rattle.pc_faults.specs.declared.fault.Fault.{Fault}
use Rattle.pc_faults.specs.declared.target.Target.{Target}
use Rattle.pc_faults.specs.declared.target.Target.TheVariants.{Event, Item, Account, Activity, Task, Resource}

-- F1: the deck is too long
abbrev pub too_long : Fault
too_long = record { row = 0; number = 1; detail = Plain }

-- F2: the deck is not UTF-8
abbrev pub not_utf8 : Fault
not_utf8 = record { row = 0; number = 2; detail = Plain }

-- F3: the first card is not PROJECT
abbrev pub first_not_project : ℕ → Fault
first_not_project row = record { row = row; number = 3; detail = Plain }

-- F4: the first field names no kind
abbrev pub unknown_kind : ℕ → Fault
unknown_kind row = record { row = row; number = 4; detail = Plain }

-- F5: a second card of a kind that occurs once
abbrev pub second_card : ℕ → ACardKind → Fault
second_card row kind = record { row = row; number = 5; detail = Kind kind }

-- F6: too few fields, or a further one that is not empty
abbrev pub wrong_fields : ℕ → ACardKind → ℕ → ℕ → Fault
wrong_fields row kind have want = record { row = row; number = 6; detail = Fields kind have want }

-- F7: a field of a wrong shape
abbrev pub misshapen : ℕ → ℕ → Fault
misshapen row field = record { row = row; number = 7; detail = Field field }

-- F8: a field over its limit
abbrev pub over_limit : ℕ → ℕ → Fault
over_limit row field = record { row = row; number = 8; detail = Field field }

-- F9: a code that an earlier card of the kind has
abbrev pub repeated_code : ℕ → List ℕ → Fault
repeated_code row code = record { row = row; number = 9; detail = Name code }

-- F10: the first card past the limit of its kind
abbrev pub too_many : ℕ → ACardKind → ℕ → Fault
too_many row kind limit = record { row = row; number = 10; detail = TooMany kind limit }

-- F11: a card after the END card
abbrev pub behind_end : ℕ → Fault
behind_end row = record { row = row; number = 11; detail = Plain }

-- F12: no END card; `row` is one more than the number of the last record
abbrev pub no_end : ℕ → Fault
no_end row = record { row = row; number = 12; detail = Plain }

-- the number of the fault of a card that names what is not there
abbrev pub unknown_number : Target → ℕ
unknown_number Event = 13
unknown_number Item = 14
unknown_number Account = 15
unknown_number Activity = 16
unknown_number Task = 16
unknown_number Resource = 41

-- F13 to F16, and F41: no card has the code that the card names
abbrev pub unknown_name : Target → ℕ → List ℕ → Fault
unknown_name target row code = record { row = row; number = unknown_number target; detail = Name code }

-- F17: what begins at the event ends there too
abbrev pub one_event : ℕ → List ℕ → Fault
one_event row code = record { row = row; number = 17; detail = Name code }

-- F18: the estimates are out of order
abbrev pub estimates_disorder : ℕ → Fault
estimates_disorder row = record { row = row; number = 18; detail = Plain }

-- F19: the crash duration is above the normal one
abbrev pub crash_above_normal : ℕ → Fault
crash_above_normal row = record { row = row; number = 19; detail = Plain }

-- F20: no item is without a parent
abbrev pub no_top : Fault
no_top = record { row = 0; number = 20; detail = Plain }

-- F21: a second item without a parent
abbrev pub second_top : ℕ → List ℕ → Fault
second_top row code = record { row = row; number = 21; detail = Name code }

-- F22: items that are parents of one another in a loop
abbrev pub item_loop : ℕ → List (List ℕ) → Fault
item_loop row codes = record { row = row; number = 22; detail = Names codes }

-- F23: an item at a level that no item may have
abbrev pub too_deep : ℕ → List ℕ → ℕ → Fault
too_deep row code level = record { row = row; number = 23; detail = Level code level }

-- F24: an activity that ends at the start
abbrev pub enters_start : ℕ → List ℕ → Fault
enters_start row code = record { row = row; number = 24; detail = Name code }

-- F25: an activity that begins at the end
abbrev pub leaves_end : ℕ → List ℕ → Fault
leaves_end row code = record { row = row; number = 25; detail = Name code }

-- F26: an event that no activity enters, or none leaves
abbrev pub dangling : ℕ → List ℕ → Bool → Fault
dangling row code entered = record { row = row; number = 26; detail = Side code entered }

-- F27: activities that lead round in a cycle
abbrev pub cycle : ℕ → List (List ℕ) → Fault
cycle row codes = record { row = row; number = 27; detail = Names codes }

-- F28: an account or an activity on an item that has items below it
abbrev pub not_a_leaf : ℕ → List ℕ → Fault
not_a_leaf row code = record { row = row; number = 28; detail = Name code }

-- F29: a package whose budgets and costs differ
abbrev pub uneven : ℕ → List ℕ → ℕ → ℕ → Fault
uneven row code budgets costs = record { row = row; number = 29; detail = Sums code budgets costs }

-- F30: a STATUS or ASOF card in disorder
abbrev pub disorder : ℕ → AReason → Fault
disorder row reason = record { row = row; number = 30; detail = Status reason }

-- F31: a second TOGO card of an account and date
abbrev pub second_to_go : ℕ → List ℕ → ℤ → Fault
second_to_go row account day = record { row = row; number = 31; detail = ToGo account day }

-- F32: the length that was asked for is none of the project
abbrev pub outside_range : ℕ → ℕ → ℕ → Fault
outside_range asked crash normal = record { row = 0; number = 32; detail = Length asked crash normal }

-- F33: one piece too many of an activity
abbrev pub too_many_pieces : ℕ → List ℕ → Fault
too_many_pieces row code = record { row = row; number = 33; detail = Name code }

-- F34: the slope of a piece of an activity is not above the one before
abbrev pub slope_not_rising : ℕ → List ℕ → Fault
slope_not_rising row code = record { row = row; number = 34; detail = Name code }

-- F35: the pieces of an activity leave nothing to its first slope
abbrev pub nothing_left : ℕ → List ℕ → Fault
nothing_left row code = record { row = row; number = 35; detail = Name code }

-- F36: the bonus is above the penalty
abbrev pub bonus_above_penalty : ℕ → Fault
bonus_above_penalty row = record { row = row; number = 36; detail = Plain }

-- F37: the top item of a deck of tasks has no item below it
abbrev pub childless_top : ℕ → Fault
childless_top row = record { row = row; number = 37; detail = Plain }

-- F38: tasks that come after one another in a cycle
abbrev pub task_cycle : ℕ → List (List ℕ) → Fault
task_cycle row codes = record { row = row; number = 38; detail = Names codes }

-- F39: a deck of tasks has no task
abbrev pub no_task : Fault
no_task = record { row = 0; number = 39; detail = Plain }

-- F40: more periods than a report of loads may have
abbrev pub too_many_periods : ℕ → Fault
too_many_periods have = record { row = 0; number = 40; detail = Periods have }
