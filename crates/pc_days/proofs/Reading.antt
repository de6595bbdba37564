-- What reading a field gives, and which dates its text names.
use Rattle.std.proofs.Common.{◌≡◌, ℕ, ◌<◌, Bool, true, false, List, refl, sym, ap, ◌∙◌, arith, ℤ, pos, negsuc, ◌≤ℤ◌, Result, Ok, Err, inl, inr, ⊎_elim}
use Rattle.std.specs.Prelude.{◌&&◌, ◌↔◌, ◌⊎◌, unsigned_abs}
use Rattle.std.proofs.lemmas.Bool.{and_parts, and_from, and_cases, and_left, and_right, lt-leb, leb-true, leb-false, le-leb, cases_Bool, cond-true, cond-false}
use Rattle.jiff_core.proofs.DateLemmas.{epoch_day_injective}
use Rattle.jiff_core.proofs.SignedLemmas.{signed_arith}
use Rattle.jiff_core.specs.Calendar.{IsCivilDate, days_from_civil}
use Rattle.pc_days.specs.declared.day.DayError.{DayError}
use Rattle.pc_days.specs.declared.day.DayError.TheVariants.{Shape, Years}
use Rattle.pc_days.specs.Dates.{NamesDay, number_at, year_of, has_form, has_day, is_deck_year, day_of, date_text}
use Rattle.pc_days.specs.inside.Dates.{NamesDate, NamesDeckDay, NamesOtherYear}
use Rattle.pc_days.proofs.Form.{shown, named, passes}

-- the day that the numbers of a text name
abbrev pub day_shown : List ℕ → ℤ
day_shown text = days_from_civil (pos (year_of text)) (number_at text 5) (number_at text 8)

-- the text passes the tests of a date
abbrev pub is_date : List ℕ → Bool
is_date text = has_form text && has_day (year_of text) (number_at text 5) (number_at text 8)

pub day_of-shape : (text : List ℕ) → is_date text ≡ false → day_of text ≡ Err Shape
unfolding day_of
day_of-shape text h = cond-false _ _ _ h

pub day_of-years : (text : List ℕ) → is_date text ≡ true → is_deck_year (year_of text) ≡ false → day_of text ≡ Err Years
unfolding day_of
day_of-years text h k = cond-true _ _ _ h ∙ cond-false _ _ _ k

pub day_of-day : (text : List ℕ) → is_date text ≡ true → is_deck_year (year_of text) ≡ true → day_of text ≡ Ok (day_shown text)
unfolding day_of
day_of-day text h k = cond-true _ _ _ h ∙ cond-true _ _ _ k

-- what a text's names say of the tests
pub date_named : (text : List ℕ) → NamesDate text → is_date text ≡ true
date_named text (y, (m, (d, h))) = passes text y m d h

pub deck_day_named : (text : List ℕ) (day : ℤ) → NamesDeckDay text day → (is_date text ≡ true) × (is_deck_year (year_of text) ≡ true) × (day_shown text ≡ day)
deck_day_named text day (y, (m, (d, (years, (h, e))))) =
    let s = shown text y m d h in
    (passes text y m d h, rw s.year (and_from _ _ (le-leb _ _ years.0) (le-leb _ _ years.1)), rw (s.year, s.month, s.day) e)

other_year : (y : ℕ) → (y < 1900) ⊎ (2199 < y) → is_deck_year y ≡ false
other_year y (inl h) = and_left _ _ (lt-leb _ _ h)
other_year y (inr h) = and_right _ _ (lt-leb _ _ h)

other_year_from : (y : ℕ) → is_deck_year y ≡ false → (y < 1900) ⊎ (2199 < y)
other_year_from y h =
    ⊎_elim (λ e. inl (leb-false _ _ e)) (λ e. inr (leb-false _ _ e)) (and_cases _ _ h)

pub other_year_named : (text : List ℕ) → NamesOtherYear text → (is_date text ≡ true) × (is_deck_year (year_of text) ≡ false)
other_year_named text (y, (m, (d, (years, h)))) =
    let s = shown text y m d h in
    (passes text y m d h, rw s.year (other_year y years))

-- what reading gave, by the text's names
data Outcome (text : List ℕ) (r : Result ℤ DayError) : Type 0 where
  misshapen : is_date text ≡ false → r ≡ Err Shape → Outcome text r
  outside : is_date text ≡ true → is_deck_year (year_of text) ≡ false → r ≡ Err Years → Outcome text r
  within : is_date text ≡ true → is_deck_year (year_of text) ≡ true → r ≡ Ok (day_shown text) → Outcome text r

outcome : (text : List ℕ) (r : Result ℤ DayError) → r ≡ day_of text → Outcome text r
outcome text r e =
    ⊎_elim (λ h. ⊎_elim (λ k. within h k (e ∙ day_of-day text h k)) (λ k. outside h k (e ∙ day_of-years text h k)) (cases_Bool (is_deck_year (year_of text))))
    (λ h. misshapen h (e ∙ day_of-shape text h))
    (cases_Bool (is_date text))

pub day_clause : (text : List ℕ) (r : Result ℤ DayError) → r ≡ day_of text → (day : ℤ) → (r ≡ Ok day) ↔ NamesDeckDay text day
day_clause text r e day = by_day (outcome text r e)
  where
    by_day : Outcome text r → (r ≡ Ok day) ↔ NamesDeckDay text day
    by_day (misshapen h is) = (λ o. cc, λ n. let t = (deck_day_named text day n).0 in cc)
    by_day (outside h k is) = (λ o. cc, λ n. let t = (deck_day_named text day n).1 in cc)
    by_day (within h k is) = (
      λ o. let same : day_shown text ≡ day = cc in
          let years = and_parts _ _ k in
          (year_of text, (number_at text 5, (number_at text 8, ((leb-true _ _ years.0, leb-true _ _ years.1), (named text h, same))))),
      λ n. let t = (deck_day_named text day n).2 in cc,
    )

pub years_clause : (text : List ℕ) (r : Result ℤ DayError) → r ≡ day_of text → (r ≡ Err Years) ↔ NamesOtherYear text
years_clause text r e = by_years (outcome text r e)
  where
    by_years : Outcome text r → (r ≡ Err Years) ↔ NamesOtherYear text
    by_years (misshapen h is) = (λ o. cc, λ n. let t = (other_year_named text n).0 in cc)
    by_years (outside h k is) =
        (λ o. (year_of text, (number_at text 5, (number_at text 8, (other_year_from (year_of text) k, named text h)))), λ n. is)
    by_years (within h k is) = (λ o. cc, λ n. let t = (other_year_named text n).1 in cc)

pub shape_clause : (text : List ℕ) (r : Result ℤ DayError) → r ≡ day_of text → (r ≡ Err Shape) ↔ (NamesDate text → ⊥)
shape_clause text r e = by_shape (outcome text r e)
  where
    date : is_date text ≡ true → NamesDate text
    date h = (year_of text, (number_at text 5, (number_at text 8, named text h)))

    by_shape : Outcome text r → (r ≡ Err Shape) ↔ (NamesDate text → ⊥)
    by_shape (misshapen h is) = (λ o n. let t = date_named text n in cc, λ no. is)
    by_shape (outside h k is) = (λ o. cc, λ no. absurd (no (date h)))
    by_shape (within h k is) = (λ o. cc, λ no. absurd (no (date h)))

-- a day is the number of one date
same_date : (y m d y₂ m₂ d₂ : ℕ) → IsCivilDate (pos y) m d → IsCivilDate (pos y₂) m₂ d₂ → days_from_civil (pos y) m d ≡ days_from_civil (pos y₂) m₂ d₂ → (pos y ≡ pos y₂) × (m ≡ m₂) × (d ≡ d₂)
same_date y m d y₂ m₂ d₂ h k e =
    epoch_day_injective (record { year = pos y; month = m; day = d; year_in = h.0; month_in = h.1; day_in = h.2 })
    (record { year = pos y₂; month = m₂; day = d₂; year_in = k.0; month_in = k.1; day_in = k.2 }) e

-- so two texts of one day are one text
pub NamesDay-same : (text text₂ : List ℕ) (day : ℤ) → NamesDay text day → NamesDay text₂ day → text ≡ text₂
NamesDay-same text text₂ day (y, (m, (d, (h, e)))) (y₂, (m₂, (d₂, (k, e₂)))) =
    let same = same_date y m d y₂ m₂ d₂ h.civil k.civil (e ∙ sym e₂) in
    let years : y ≡ y₂ = cc in
    h.spelled ∙ ap (λ n. date_text n m d) years ∙ ap (λ n. date_text y₂ n d) same.1 ∙ ap (λ n. date_text y₂ m₂ n) same.2 ∙ sym k.spelled

-- what was read names its day
pub NamesDay-read : (text : List ℕ) (day : ℤ) → day_of text ≡ Ok day → NamesDay text day
NamesDay-read text day e = from_deck ((day_clause text (day_of text) refl day).0 e)
  where
    from_deck : NamesDeckDay text day → NamesDay text day
    from_deck (y, (m, (d, (years, h)))) = (y, (m, (d, h)))

-- the text of a date names its day
pub NamesDay-date : (text : List ℕ) (y : ℤ) (m d : ℕ) (day : ℤ) → IsCivilDate y m d → pos 1900 ≤ℤ y → text ≡ date_text (unsigned_abs y) m d → days_from_civil y m d ≡ day → NamesDay text day
NamesDay-date text (pos y) m d day h low e is =
    (y, (m, (d, (record { civil = h; spelled = e }, is))))
NamesDay-date text (negsuc y) m d day h low e is = absurd (omega (arith, signed_arith))
