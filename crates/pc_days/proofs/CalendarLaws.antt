-- Counting the days of the calendar one by one gives each day its date.
use Rattle.std.proofs.Common.{◌≡◌, ◌≢◌, ℕ, zero, suc, ◌+◌, ◌<◌, ◌≤◌, Bool, true, false, nat_lt, if◌then◌else◌, List, refl, sym, ap, subst, arith, Ok, ℤ, pos, negsuc, ◌+ℤ◌, ◌≤ℤ◌, unsigned_abs}
use Rattle.std.proofs.lemmas.Bool.Decides.{nat_tests}
use Rattle.jiff_core.proofs.CalendarLemmas.{days_from_civil-day_count, days_in_month_bounds}
use Rattle.jiff_core.proofs.DateLemmas.{days_from_civil-day, days_from_civil-next_month, days_from_civil-next_year, days_from_civil-max}
use Rattle.jiff_core.proofs.SignedLemmas.{signed_arith}
use Rattle.jiff_core.specs.Calendar.{IsCivilDate, days_from_civil, days_in_month}
use Rattle.pc_days.specs.Calendar.{CalendarDay, calendar_day, first_day, next_day, text_of_day}
use Rattle.pc_days.specs.Dates.{IsPrintedDay, NamesDay, day_of}
use Rattle.pc_days.specs.inside.Dates.{NamesDeckDay}
use Rattle.pc_days.proofs.Form.{day_count-1900, day_number_range}
use Rattle.pc_days.proofs.Reading.{NamesDay-same, day_clause}

-- the calendar day is a date, n days after 1 January 1900
record Lies (n : ℕ) (today : CalendarDay) : Type 0 where
  civil : IsCivilDate (pos today.year) today.month today.day
  number : days_from_civil (pos today.year) today.month today.day +ℤ pos 25_567 ≡ pos n

tested_lt : (a b : ℕ) → nat_lt a b ≡ true → a < b
tested_lt a b h = grind (arith, nat_tests)

tested_ge : (a b : ℕ) → nat_lt a b ≡ false → b ≤ a
tested_ge a b h = grind (arith, nat_tests)

-- the next day of the month
in_month : (n y m d : ℕ) → Lies n (record { year = y; month = m; day = d }) → d < days_in_month (pos y) m → Lies (n + 1) (record { year = y; month = m; day = d + 1 })
in_month n y m d h more = record {
  civil = (h.civil.0, h.civil.1, (omega arith, omega (arith, more)));
  number = omega (arith, signed_arith, h.number, days_from_civil-day (pos y) m d (d + 1) h.civil.2.0 (omega arith));
}

-- the first of the next month
in_year : (n y m d : ℕ) → Lies n (record { year = y; month = m; day = d }) → days_in_month (pos y) m ≤ d → m < 12 → Lies (n + 1) (record { year = y; month = m + 1; day = 1 })
in_year n y m d h last more =
    let whole : d ≡ days_in_month (pos y) m = let most = h.civil.2.1 in omega (arith, last, most) in
    record {
      civil = (h.civil.0, (omega arith, omega (arith, more)), (omega arith, let long = days_in_month_bounds (pos y) (m + 1) in omega (arith, long.1)));
      number = omega (arith, signed_arith, h.number, days_from_civil-next_month (pos y) m d h.civil.1.0 whole);
    }

-- 31 December 9999 is the last day
not_last : (n y : ℕ) → days_from_civil (pos y) 12 31 +ℤ pos 25_567 ≡ pos n → n + 1 ≤ 2_958_463 → y ≢ 9999
not_last n y number few is =
    let last : days_from_civil (pos 9999) 12 31 +ℤ pos 25_567 ≡ pos n = subst (λ (k : ℕ). days_from_civil (pos k) 12 31 +ℤ pos 25_567 ≡ pos n) is number in
    omega (arith, signed_arith, last, days_from_civil-max, few)

-- 1 January of the next year
in_years : (n y m d : ℕ) → n + 1 ≤ 2_958_463 → Lies n (record { year = y; month = m; day = d }) → days_in_month (pos y) m ≤ d → 12 ≤ m → Lies (n + 1) (record { year = y + 1; month = 1; day = 1 })
in_years n y m d few h last full =
    let december : m ≡ 12 = let most = h.civil.1.1 in omega (arith, full, most) in
    let long : days_in_month (pos y) m ≡ 31 = ap (days_in_month (pos y)) december in
    let whole : d ≡ 31 = let most = h.civil.2.1 in omega (arith, last, most, long) in
    let number : days_from_civil (pos y) 12 31 +ℤ pos 25_567 ≡ pos n =
    subst (λ (k : ℕ). days_from_civil (pos y) k 31 +ℤ pos 25_567 ≡ pos n) december
    (subst (λ (k : ℕ). days_from_civil (pos y) m k +ℤ pos 25_567 ≡ pos n) whole h.number) in
    let before : y ≢ 9999 = not_last n y number few in
    let years = h.civil.0 in
    record {
      civil = ((omega (arith, signed_arith), omega (arith, signed_arith, years.1, before)), (omega arith, omega arith), (omega arith, omega arith));
      number = omega (arith, signed_arith, number, days_from_civil-next_year (pos y) (pos (y + 1)) (omega (arith, signed_arith)) (omega (arith, signed_arith)));
    }

-- the day after
next_lies : (n : ℕ) (today : CalendarDay) → n + 1 ≤ 2_958_463 → Lies n today → Lies (n + 1) (next_day today)
next_lies n today few h = by_day (nat_lt today.day (days_in_month (pos today.year) today.month)) refl
  where
    by_month : (test : Bool) → days_in_month (pos today.year) today.month ≤ today.day → nat_lt today.month 12 ≡ test
        → Lies (n + 1) (if test then record { year = today.year; month = today.month + 1; day = 1 } else record { year = today.year + 1; month = 1; day = 1 })
    by_month true last is = in_year n today.year today.month today.day h last (tested_lt today.month 12 is)
    by_month false last is = in_years n today.year today.month today.day few h last (tested_ge today.month 12 is)

    by_day : (test : Bool) → nat_lt today.day (days_in_month (pos today.year) today.month) ≡ test
        → Lies (n + 1)
        (if test then record { year = today.year; month = today.month; day = today.day + 1 }
        else if nat_lt today.month 12 then record { year = today.year; month = today.month + 1; day = 1 }
        else record { year = today.year + 1; month = 1; day = 1 })
    by_day true is = in_month n today.year today.month today.day h (tested_lt _ _ is)
    by_day false is = by_month (nat_lt today.month 12) (tested_ge _ _ is) refl

-- 1 January 1900
first_lies : Lies 0 first_day
first_lies = record {
  civil = ((omega (arith, signed_arith), omega (arith, signed_arith)), (omega arith, omega arith), (omega arith, omega arith));
  number = omega (arith, signed_arith, days_from_civil-day_count (pos 1900) 1 1, day_count-1900);
}

lies : (n : ℕ) → n ≤ 2_958_463 → Lies n (calendar_day n)
unfolding calendar_day
lies zero few = first_lies
lies (suc n) few =
    let next : suc n ≡ n + 1 = omega arith in
    subst (λ (k : ℕ). Lies k (next_day (calendar_day n))) (sym next) (next_lies n (calendar_day n) (omega arith) (lies n (omega arith)))

-- the number of days from 1 January 1900 to a day that can be printed
count_of : (day : ℤ) → IsPrintedDay day → pos (unsigned_abs (day +ℤ pos 25_567)) ≡ day +ℤ pos 25_567
count_of day within = by_sign (day +ℤ pos 25_567) (omega (arith, signed_arith, within.0))
  where
    by_sign : (z : ℤ) → pos 0 ≤ℤ z → pos (unsigned_abs z) ≡ z
    by_sign (pos n) h = refl
    by_sign (negsuc n) h = absurd (omega (arith, signed_arith))

-- the text of a day names it
pub names_its_day : (day : ℤ) → IsPrintedDay day → NamesDay (text_of_day day) day
names_its_day day within =
    let count = unsigned_abs (day +ℤ pos 25_567) in
    let is = count_of day within in
    let at = lies count (omega (arith, signed_arith, within.1, is)) in
    let today = calendar_day count in
    (today.year, (today.month, (today.day, (record { civil = at.civil; spelled = refl }, omega (arith, signed_arith, at.number, is)))))

-- and is the one text that does
pub text_of-day : (text : List ℕ) (day : ℤ) → IsPrintedDay day → NamesDay text day → text ≡ text_of_day day
text_of-day text day within names = NamesDay-same text (text_of_day day) day names (names_its_day day within)

-- a day that was read is written as it was read
pub text_of-read : (text : List ℕ) (day : ℤ) → day_of text ≡ Ok day → text ≡ text_of_day day
text_of-read text day is = from_deck ((day_clause text (day_of text) refl day).0 is)
  where
    from_deck : NamesDeckDay text day → text ≡ text_of_day day
    from_deck (y, (m, (d, (years, (h, e))))) =
        text_of-day text day (subst IsPrintedDay e (day_number_range y m d h.civil years.0)) (y, (m, (d, (h, e))))
