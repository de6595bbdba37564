-- The dates of a deck: the form of a date, and the number of its day.
-- Here is what no clause of a top call and no law reaches.
use Rattle.std.specs.Prelude.{◌≡◌, ℕ, ◌<◌, ◌≤◌, ◌⊎◌, List, ℤ, pos}
use Rattle.jiff_core.specs.Calendar.{days_from_civil}
use Rattle.pc_days.specs.Dates.{IsDateText}

-- the text is some date of the calendar
abbrev pub NamesDate : List ℕ → Type 0
NamesDate text = (y : ℕ) × ((m : ℕ) × ((d : ℕ) × IsDateText text y m d))

-- the years of a deck's dates
abbrev pub IsDeckYear : ℕ → Type 0
IsDeckYear y = (1900 ≤ y) × (y ≤ 2199)

-- the text is the date of this day, in a year of a deck's dates
abbrev pub NamesDeckDay : List ℕ → ℤ → Type 0
NamesDeckDay text day = (y : ℕ) × ((m : ℕ) × ((d : ℕ) × (IsDeckYear y × (IsDateText text y m d × (days_from_civil (pos y) m d ≡ day)))))

-- the text is a date of the calendar in another year
abbrev pub NamesOtherYear : List ℕ → Type 0
NamesOtherYear text = (y : ℕ) × ((m : ℕ) × ((d : ℕ) × (((y < 1900) ⊎ (2199 < y)) × IsDateText text y m d)))
