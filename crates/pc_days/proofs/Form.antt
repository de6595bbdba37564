-- A text has the form of a date, and its numbers are a date, exactly where it is the text of one.
use Rattle.std.proofs.Common.{◌≡◌, ℕ, ◌+◌, ◌*◌, ◌/◌, ◌%◌, ◌<◌, ◌≤◌, true, List, length, refl, sym, ap, ◌∙◌, subst, arith, ℤ, inl, inr, ⊎_elim, ◌⊎◌, pos, negsuc, neg_ℤ, ◌≤ℤ◌, to_z, w8, w16}
use Rattle.std.specs.Prelude.{◌&&◌, slice_index, unsigned_abs}
use Rattle.std.proofs.lemmas.Bool.{cases_lt, and_parts, and_from, leb-true, le-leb, eqb-true, eq-eqb}
use Rattle.std.proofs.lemmas.Slice.Eq.{text_from_reads}
use Rattle.std.proofs.lemmas.Int.{to_z_pos, by_lt_z}
use Rattle.jiff_core.specs.Calendar.{IsCivilDate, IsDate, IsBetween, days_from_civil, day_count, day_of_year}
use Rattle.jiff_core.specs.Date.{epoch_day, IsYmd}
use Rattle.jiff_core.specs.declared.civil.date.Date.{Date}
use Rattle.jiff_core.proofs.CalendarLemmas.{days_in_month_bounds, days_from_civil-day_count, day_count_bounds, day_count-day_of_year, day_count-later_year, day_count-lt_year}
use Rattle.jiff_core.proofs.MarchLemmas.{day_count-early}
use Rattle.jiff_core.proofs.SignedLemmas.{signed_arith}
use Rattle.pc_days.specs.Dates.{date_text, IsDateText, are_digits, number_at, year_of, has_form, has_day}

-- there are two digits at i
pub record Digits (text : List ℕ) (i : ℕ) : Type 0 where
  pub low : 48 ≤ slice_index text i
  pub high : slice_index text i ≤ 57
  pub next_low : 48 ≤ slice_index text (i + 1)
  pub next_high : slice_index text (i + 1) ≤ 57

-- the form of a date
pub record Form (text : List ℕ) : Type 0 where
  pub long : length text ≡ 10
  pub hyphen : slice_index text 4 ≡ 45
  pub second_hyphen : slice_index text 7 ≡ 45
  pub century : Digits text 0
  pub year : Digits text 2
  pub month : Digits text 5
  pub day : Digits text 8

pub digits : (text : List ℕ) (i : ℕ) → are_digits text i ≡ true → Digits text i
digits text i h =
    let both = and_parts _ _ h in
    let a = and_parts _ _ both.0 in
    let b = and_parts _ _ both.1 in
    record {
      low = leb-true _ _ a.0;
      high = leb-true _ _ a.1;
      next_low = leb-true _ _ b.0;
      next_high = leb-true _ _ b.1;
    }

pub are_digits-true : (text : List ℕ) (i : ℕ) → Digits text i → are_digits text i ≡ true
are_digits-true text i h =
    and_from _ _ (and_from _ _ (le-leb _ _ h.low) (le-leb _ _ h.high)) (and_from _ _ (le-leb _ _ h.next_low) (le-leb _ _ h.next_high))

pub form : (text : List ℕ) → has_form text ≡ true → Form text
unfolding has_form
form text h =
    let a = and_parts _ _ h in
    let b = and_parts _ _ a.0 in
    let c = and_parts _ _ b.0 in
    let d = and_parts _ _ c.0 in
    let e = and_parts _ _ d.0 in
    let f = and_parts _ _ e.0 in
    record {
      long = eqb-true _ _ f.0;
      hyphen = eqb-true _ _ f.1;
      second_hyphen = eqb-true _ _ e.1;
      century = digits text 0 d.1;
      year = digits text 2 c.1;
      month = digits text 5 b.1;
      day = digits text 8 a.1;
    }

pub has_form-true : (text : List ℕ) → Form text → has_form text ≡ true
unfolding has_form
has_form-true text h =
    and_from _ _ (and_from _ _ (and_from _ _
    (and_from _ _ (and_from _ _ (and_from _ _ (eq-eqb _ _ h.long) (eq-eqb _ _ h.hyphen)) (eq-eqb _ _ h.second_hyphen))
    (are_digits-true text 0 h.century)) (are_digits-true text 2 h.year)) (are_digits-true text 5 h.month))
    (are_digits-true text 8 h.day)

-- the numbers of a text of that form have two or four digits
pub number_at-bound : (text : List ℕ) (i : ℕ) → Digits text i → number_at text i < 100
number_at-bound text i h = omega (arith, h.low, h.high, h.next_low, h.next_high)

-- a number's digits are the bytes
pub first_digit : (text : List ℕ) (i : ℕ) → Digits text i → 48 + number_at text i / 10 ≡ slice_index text i
first_digit text i h = omega (arith, h.low, h.high, h.next_low, h.next_high)

pub second_digit : (text : List ℕ) (i : ℕ) → Digits text i → 48 + number_at text i % 10 ≡ slice_index text (i + 1)
second_digit text i h = omega (arith, h.low, h.high, h.next_low, h.next_high)

-- the digits of a year are those of its two halves
year_digits : (a b : ℕ) → a < 100 → b < 100 → ((100 * a + b) / 1000 ≡ a / 10) × ((100 * a + b) / 100 % 10 ≡ a % 10) × ((100 * a + b) / 10 % 10 ≡ b / 10) × ((100 * a + b) % 10 ≡ b % 10)
year_digits a b h k = (omega arith, omega arith, omega arith, omega arith)

-- a text of that form is written from its numbers
pub spelled : (text : List ℕ) → Form text → text ≡ date_text (year_of text) (number_at text 5) (number_at text 8)
spelled text h =
    let y = year_digits (number_at text 0) (number_at text 2) (number_at-bound text 0 h.century) (number_at-bound text 2 h.year) in
    text_from_reads text (date_text (year_of text) (number_at text 5) (number_at text 8)) h.long (
      sym (ap (λ n. 48 + n) y.0 ∙ first_digit text 0 h.century),
      (
        sym (ap (λ n. 48 + n) y.1 ∙ second_digit text 0 h.century),
        (
          sym (ap (λ n. 48 + n) y.2 ∙ first_digit text 2 h.year),
          (
            sym (ap (λ n. 48 + n) y.3 ∙ second_digit text 2 h.year),
            (
              h.hyphen,
              (
                sym (first_digit text 5 h.month),
                (
                  sym (second_digit text 5 h.month),
                  (
                    h.second_hyphen,
                    (
                      sym (first_digit text 8 h.day),
                      (sym (second_digit text 8 h.day), tt),
                    ),
                  ),
                ),
              ),
            ),
          ),
        ),
      ),
    )

-- what a date's text shows
pub record Shows (text : List ℕ) (y m d : ℕ) : Type 0 where
  pub form : Form text
  pub year : year_of text ≡ y
  pub month : number_at text 5 ≡ m
  pub day : number_at text 8 ≡ d

-- the text of numbers of four and two digits shows these numbers
pub shows : (y m d : ℕ) → y < 10000 → m < 100 → d < 100 → Shows (date_text y m d) y m d
shows y m d hy hm hd = record {
  form = record {
    long = refl;
    hyphen = refl;
    second_hyphen = refl;
    century = record { low = omega arith; high = omega arith; next_low = omega arith; next_high = omega arith };
    year = record { low = omega arith; high = omega arith; next_low = omega arith; next_high = omega arith };
    month = record { low = omega arith; high = omega arith; next_low = omega arith; next_high = omega arith };
    day = record { low = omega arith; high = omega arith; next_low = omega arith; next_high = omega arith };
  };
  year = omega arith;
  month = omega arith;
  day = omega arith;
}

-- the test of a month and a day is jiff's calendar
pub civil : (y m d : ℕ) → y < 10000 → has_day y m d ≡ true → IsCivilDate (pos y) m d
unfolding has_day
civil y m d hy h =
    let a = and_parts _ _ h in
    let b = and_parts _ _ a.0 in
    let c = and_parts _ _ b.0 in
    ((omega (arith, signed_arith)), (leb-true _ _ c.0, leb-true _ _ c.1), (leb-true _ _ b.1, leb-true _ _ a.1))

pub has_day-true : (y m d : ℕ) → IsCivilDate (pos y) m d → has_day y m d ≡ true
unfolding has_day
has_day-true y m d h =
    and_from _ _ (and_from _ _ (and_from _ _ (le-leb _ _ h.1.0) (le-leb _ _ h.1.1)) (le-leb _ _ h.2.0)) (le-leb _ _ h.2.1)

-- what the numbers of a date's text are
pub shown : (text : List ℕ) (y m d : ℕ) → IsDateText text y m d → Shows text y m d
shown text y m d h =
    let in_year : y < 10000 = omega (arith, signed_arith, h.civil.0) in
    let in_month : m < 100 = omega (arith, h.civil.1.1) in
    let in_day : d < 100 = omega (arith, h.civil.2.1, days_in_month_bounds (pos y) m) in
    subst (λ (t : List ℕ). Shows t y m d) (sym h.spelled) (shows y m d in_year in_month in_day)

pub year_of-bound : (text : List ℕ) → Form text → year_of text < 10000
year_of-bound text h =
    omega (arith, number_at-bound text 0 h.century, number_at-bound text 2 h.year)

-- a text with the form of a date whose numbers are a date is that date's text
pub named : (text : List ℕ) → (has_form text && has_day (year_of text) (number_at text 5) (number_at text 8)) ≡ true → IsDateText text (year_of text) (number_at text 5) (number_at text 8)
named text h =
    let both = and_parts _ _ h in
    let f = form text both.0 in
    record { civil = civil _ _ _ (year_of-bound text f) both.1; spelled = spelled text f }

-- and a date's text has that form
pub passes : (text : List ℕ) (y m d : ℕ) → IsDateText text y m d → (has_form text && has_day (year_of text) (number_at text 5) (number_at text 8)) ≡ true
passes text y m d h =
    let s = shown text y m d h in
    and_from _ _ (has_form-true text s.form) (rw (s.year, s.month, s.day) (has_day-true y m d h.civil))

-- the same for the signed numbers that jiff takes
pub date_from_test : (y m d : ℕ) → y < 10000 → has_day y m d ≡ true → IsDate (pos y) (pos m) (pos d)
date_from_test y m d hy h =
    let c = civil y m d hy h in
    (c.0, ((omega (arith, signed_arith, c.1.0)), (omega (arith, signed_arith, c.1.1))), ((omega (arith, signed_arith, c.2.0)), (omega (arith, signed_arith, c.2.1))))

pub test_from_date : (y m d : ℕ) → IsDate (pos y) (pos m) (pos d) → has_day y m d ≡ true
test_from_date y m d h =
    has_day-true y m d
    (h.0, ((omega (arith, signed_arith, h.1.0)), (omega (arith, signed_arith, h.1.1))), ((omega (arith, signed_arith, h.2.0)), (omega (arith, signed_arith, h.2.1))))

-- the same of numbers that are cast to the signed types
pub test_from_casts : (y m d : ℕ) → y < 10000 → m < 100 → d < 100 → IsDate (to_z w16 y) (to_z w8 m) (to_z w8 d) → has_day y m d ≡ true
test_from_casts y m d hy hm hd h =
    let ey = to_z_pos w16 y (omega arith) in
    let em = to_z_pos w8 m (omega arith) in
    let ed = to_z_pos w8 d (omega arith) in
    test_from_date y m d (rw (ey, em, ed) at h)

pub casts_from_test : (y m d : ℕ) → y < 10000 → m < 100 → d < 100 → has_day y m d ≡ true → IsDate (to_z w16 y) (to_z w8 m) (to_z w8 d)
casts_from_test y m d hy hm hd h =
    let ey = to_z_pos w16 y (omega arith) in
    let em = to_z_pos w8 m (omega arith) in
    let ed = to_z_pos w8 d (omega arith) in
    rw (ey, em, ed) (date_from_test y m d hy h)

-- the day number of a date of these numbers
pub epoch_day-casts : (date : Date) (y m d : ℕ) → y < 10000 → m < 100 → d < 100 → IsYmd (to_z w16 y) (to_z w8 m) (to_z w8 d) date → epoch_day date ≡ days_from_civil (pos y) m d
epoch_day-casts date y m d hy hm hd h =
    let year : date.year ≡ pos y = h.0 ∙ to_z_pos w16 y (omega arith) in
    let month : pos date.month ≡ pos m = h.1 ∙ to_z_pos w8 m (omega arith) in
    let day : pos date.day ≡ pos d = h.2 ∙ to_z_pos w8 d (omega arith) in
    let same_month : date.month ≡ m = cc in
    let same_day : date.day ≡ d = cc in
    rw (year, same_month, same_day) refl

pub day_count-1900 : day_count (pos 1900) 1 1 ≡ 4_346_386
day_count-1900 = day_count-early (pos 1900) 11899 1 1 refl (omega arith) (omega arith) (omega arith)

day_count-from_1900 : (y m d : ℕ) → IsCivilDate (pos y) m d → 1900 ≤ y → 4_346_386 ≤ day_count (pos y) m d
day_count-from_1900 y m d h low =
    let first = day_count-day_of_year (pos y) m d h.2.0 in
    let place : 1 ≤ day_of_year (pos y) m d = omega (arith, h.2.0) in
    ⊎_elim (λ e. let base : day_count (pos y) 1 1 ≡ 4_346_386 = rw e day_count-1900 in omega arith)
    (λ lt. omega (arith, day_count-1900, day_count-later_year (pos 1900) (pos y) (omega (arith, signed_arith)) (omega (arith, signed_arith))))
    (year_cases y low)
  where
    year_cases : (y : ℕ) → 1900 ≤ y → (y ≡ 1900) ⊎ (1900 < y)
    year_cases y low = ⊎_elim (λ lt. inr lt) (λ le. inl (omega arith)) (cases_lt 1900 y)

-- the days of 1900 to 9999
pub day_number_range : (y m d : ℕ) → IsCivilDate (pos y) m d → 1900 ≤ y → IsBetween (neg_ℤ (pos 25_567)) (pos 2_932_896) (days_from_civil (pos y) m d)
day_number_range y m d h low =
    let n = days_from_civil-day_count (pos y) m d in
    let high = day_count_bounds (pos y) m d h in
    let from = day_count-from_1900 y m d h low in
    ((omega (arith, signed_arith)), (omega (arith, signed_arith)))

-- and only they
pub day_number_year : (y : ℤ) (m d : ℕ) → IsCivilDate y m d → neg_ℤ (pos 25_567) ≤ℤ days_from_civil y m d → pos 1900 ≤ℤ y
day_number_year y m d h low =
    by_lt_z y (pos 1900)
    (λ lt. absurd (omega (arith, signed_arith, day_count-1900, days_from_civil-day_count y m d, day_count-lt_year y m d (pos 1900) 1 1 h (omega arith) lt)))
    (λ le. le)

-- such a year fits an unsigned number
pub year_fits : (y : ℤ) → y ≤ℤ pos 9999 → pos 1900 ≤ℤ y → unsigned_abs y < 65536
year_fits (pos y) high low = omega (arith, signed_arith)
year_fits (negsuc y) high low = absurd (omega (arith, signed_arith))
