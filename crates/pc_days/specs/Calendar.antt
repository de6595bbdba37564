-- The calendar day by day, and the text of a day.
use Rattle.std.specs.Prelude.{ℕ, zero, suc, ◌+◌, nat_lt, ◌&&◌, if◌then◌else◌, List, ℤ, pos, neg_ℤ, ◌+ℤ◌, int_le, unsigned_abs, codes}
use Rattle.jiff_core.specs.Calendar.{days_in_month}
use Rattle.pc_days.specs.Dates.{date_text}

-- a day of the calendar by its year, month and day of the month
pub record CalendarDay : Type 0 where
  pub year : ℕ
  pub month : ℕ
  pub day : ℕ

-- 1 January 1900
abbrev pub first_day : CalendarDay
first_day = record { year = 1900; month = 1; day = 1 }

-- the day after: the next of the month, or the first of the next month, or 1 January of the next year
abbrev pub next_day : CalendarDay → CalendarDay
next_day today =
    if nat_lt today.day (days_in_month (pos today.year) today.month) then record { year = today.year; month = today.month; day = today.day + 1 }
    else if nat_lt today.month 12 then record { year = today.year; month = today.month + 1; day = 1 }
    else record { year = today.year + 1; month = 1; day = 1 }

-- this many days after 1 January 1900
unfoldable pub calendar_day : ℕ → CalendarDay
calendar_day zero = first_day
calendar_day (suc n) = next_day (calendar_day n)

-- the date of a day, which is counted from 1970-01-01
abbrev pub text_of_day : ℤ → List ℕ
text_of_day number =
    let today = calendar_day (unsigned_abs (number +ℤ pos 25_567)) in date_text today.year today.month today.day

-- ten hyphens, in place of a date
abbrev pub no_date : List ℕ
no_date = codes "----------"

-- the date of a day, or ten hyphens if it is not one of the days that are printed, 1900-01-01 to 9999-12-31
abbrev pub date_or_none : ℤ → List ℕ
date_or_none day =
    if int_le (neg_ℤ (pos 25_567)) day && int_le day (pos 2_932_896) then text_of_day day else no_date
