-- The reason for which a line fails: the condition that does not hold, by its number.
use Rattle.std.specs.Prelude.{ℕ, Option}
use Rattle.std.specs.Option.{option_map}
use Rattle.pc_check.specs.declared.condition.Condition.{Condition}
use Rattle.pc_check.specs.declared.condition.Condition.TheVariants as condition

-- the number that reports a condition
abbrev pub number_of_condition : Condition → ℕ
number_of_condition condition.Head = 1
number_of_condition condition.NormalWalk = 2
number_of_condition condition.CrashWalk = 3
number_of_condition condition.Codes = 4
number_of_condition condition.Ends = 5
number_of_condition condition.Gaps = 6
number_of_condition condition.Duration = 7
number_of_condition condition.Capacity = 8
number_of_condition condition.Conservation = 9
number_of_condition condition.Outflow = 10
number_of_condition condition.Slackness = 11
number_of_condition condition.Cost = 12
number_of_condition condition.CutGain = 13
number_of_condition condition.Stop = 14
number_of_condition condition.Cover = 15

-- the number of the condition that was found, if one was
abbrev pub reason_of : Option Condition → Option ℕ
reason_of found = option_map number_of_condition found
