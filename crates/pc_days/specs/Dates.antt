-- The dates of a deck: the form of a date, and the number of its day.
use Rattle.std.specs.Prelude.{◌≡◌, ℕ, ◌+◌, ◌-◌, ◌*◌, ◌/◌, ◌%◌, Bool, ◌&&◌, ◌==◌, nat_le, if◌then◌else◌, List, [], ◌∷◌}
use Rattle.std.specs.Prelude.{length, slice_index, Result, Ok, Err, ℤ, pos, neg_ℤ, ◌+ℤ◌, ◌-ℤ◌, ◌*ℤ◌, ◌≤ℤ◌, ◌<ℤ◌}
use Rattle.std.specs.Char.{is_ascii_digit}
use Rattle.jiff_core.specs.Calendar.{IsCivilDate, IsBetween, days_from_civil, days_in_month}
use Rattle.pc_days.specs.declared.day.DayError.{DayError}
use Rattle.pc_days.specs.declared.day.DayError.TheVariants.{Shape, Years}

-- the days that a deck can name and a report can print: 1900-01-01 to 9999-12-31, counted from 1970-01-01
abbrev pub IsPrintedDay : ℤ → Type 0
IsPrintedDay day = IsBetween (neg_ℤ (pos 25_567)) (pos 2_932_896) day

-- the days are the sixths of a day, rounded up
abbrev pub IsRoundedUp : ℤ → ℤ → Type 0
IsRoundedUp sixths days =
    (sixths ≤ℤ (pos 6 *ℤ days)) × ((pos 6 *ℤ days) <ℤ (sixths +ℤ pos 6))

-- the day is the start plus these sixths of a day, rounded up to complete days
abbrev pub IsAfterSixths : ℤ → ℤ → ℤ → Type 0
IsAfterSixths start sixths day = IsRoundedUp sixths (day -ℤ start)

-- `YYYY-MM-DD`: four digits of the year, two of the month and two of the day, with hyphens between them
abbrev pub date_text : ℕ → ℕ → ℕ → List ℕ
date_text y m d =
    (48 + y / 1000) ∷ (48 + y / 100 % 10) ∷ (48 + y / 10 % 10) ∷ (48 + y % 10) ∷ 45
    ∷ (48 + m / 10) ∷ (48 + m % 10) ∷ 45 ∷ (48 + d / 10) ∷ (48 + d % 10) ∷ []

-- the text is a date of the calendar in the years 0000 to 9999
pub record IsDateText (text : List ℕ) (y m d : ℕ) : Type 0 where
  pub civil : IsCivilDate (pos y) m d
  pub spelled : text ≡ date_text y m d

-- the text is the date of this day; a day is the number of days from 1970-01-01 to it
abbrev pub NamesDay : List ℕ → ℤ → Type 0
NamesDay text day = (y : ℕ) × ((m : ℕ) × ((d : ℕ) × (IsDateText text y m d × (days_from_civil (pos y) m d ≡ day))))

-- two bytes are decimal digits
abbrev pub are_digits : List ℕ → ℕ → Bool
are_digits text i = is_ascii_digit (slice_index text i) && is_ascii_digit (slice_index text (i + 1))

-- the number that two digits show
abbrev pub number_at : List ℕ → ℕ → ℕ
number_at text i = (slice_index text i - 48) * 10 + (slice_index text (i + 1) - 48)

-- the year that a text of a date's form shows
abbrev pub year_of : List ℕ → ℕ
year_of text = 100 * number_at text 0 + number_at text 2

-- ten bytes: digits, with hyphens after the year and the month
unfoldable pub has_form : List ℕ → Bool
has_form text =
    (length text == 10) && (slice_index text 4 == 45) && (slice_index text 7 == 45)
    && are_digits text 0 && are_digits text 2 && are_digits text 5 && are_digits text 8

-- the calendar has this month and this day of it
unfoldable pub has_day : ℕ → ℕ → ℕ → Bool
has_day y m d =
    nat_le 1 m && nat_le m 12 && nat_le 1 d && nat_le d (days_in_month (pos y) m)

-- a test for: the dates of a deck may be in this year
abbrev pub is_deck_year : ℕ → Bool
is_deck_year y = nat_le 1900 y && nat_le y 2199

-- the result of reading a field: the day that it names, or what is wrong with it
unfoldable pub day_of : List ℕ → Result ℤ DayError
day_of text =
    let y = year_of text in
    let m = number_at text 5 in
    let d = number_at text 8 in
    if has_form text && has_day y m d then (if is_deck_year y then Ok (days_from_civil (pos y) m d) else Err Years)
    else Err Shape
