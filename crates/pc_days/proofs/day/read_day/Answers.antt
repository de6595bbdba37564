use Rattle.std.proofs.Common.{arith, rules, sym, refl, ap, ◌∙◌, ◌≡◌, ℕ, ◌<◌, ◌≤◌, List, pos, to_z, w8, w16, w32, FitsSigned, true, false, Ok}
use Rattle.std.proofs.lemmas.Bool.{and_left, and_right, and_from, false_from_ne_true, false≢true, leb-true, and_parts}
use Rattle.std.proofs.lemmas.Int.{to_z-of_z}
use Rattle.jiff_core.specs.Calendar.{IsDate, days_from_civil}
use Rattle.jiff_core.specs.Date.{epoch_day}
use Rattle.jiff_core.proofs.SignedLemmas.{signed_arith}
use Rattle.pc_days.specs.Dates.{has_form, has_day, is_deck_year, year_of, number_at}
use Rattle.pc_days.proofs.Form.{form, civil, are_digits-true, test_from_casts, casts_from_test, epoch_day-casts, day_number_range}
use Rattle.pc_days.proofs.Reading.{is_date, day_of-shape, day_of-years, day_of-day, day_clause, years_clause, shape_clause}
use Rattle.pc_days.proofs.day.read_day.Goals as goal

-- a text with the form of a date, of whose numbers a date was made, passes the tests of one
dated : (text : List ℕ) (y m d : ℕ) → has_form text ≡ true → y ≡ year_of text → m ≡ number_at text 5 → d ≡ number_at text 8
    → y < 10000 → m < 100 → d < 100 → IsDate (to_z w16 y) (to_z w8 m) (to_z w8 d) → is_date text ≡ true
dated text y m d formed year month day y_below m_below d_below made =
    and_from _ _ formed (rw (← year, ← month, ← day) (test_from_casts y m d y_below m_below d_below made))

pub returns-then-not-has_form : goal.returns-then-not-has_form
returns-then-not-has_form c =
    let text = c.args.field.now in
    let formless : has_form text ≡ false = search rules in
    let is = sym (day_of-shape text (and_left _ _ formless)) in
    record { reading = is; day = day_clause text _ is; years = years_clause text _ is; shape = shape_clause text _ is }

pub number_at-month-requires-clause-within : goal.number_at-month-requires-clause-within
number_at-month-requires-clause-within c =
    let formed : has_form c.args.field.now ≡ true = search rules in
    omega (arith, (form c.args.field.now formed).long)

pub number_at-month-requires-clause-digits : goal.number_at-month-requires-clause-digits
number_at-month-requires-clause-digits c =
    let formed : has_form c.args.field.now ≡ true = search rules in
    are_digits-true c.args.field.now 5 (form c.args.field.now formed).month

pub number_at-day-requires-clause-within : goal.number_at-day-requires-clause-within
number_at-day-requires-clause-within c =
    let formed : has_form c.args.field.now ≡ true = search rules in
    omega (arith, (form c.args.field.now formed).long)

pub number_at-day-requires-clause-digits : goal.number_at-day-requires-clause-digits
number_at-day-requires-clause-digits c =
    let formed : has_form c.args.field.now ≡ true = search rules in
    are_digits-true c.args.field.now 8 (form c.args.field.now formed).day

pub returns-in_default : goal.returns-in_default
returns-in_default c =
    let text = c.args.field.now in
    let formed : has_form c.args.field.now ≡ true = search rules in
    let year = c.year_of-year.ensures in
    let month = c.number_at-month.ensures in
    let day = c.number_at-day.ensures in
    let refused : has_day c.year_of-year.result c.number_at-month.result c.number_at-day.result ≡ true →
    ⊥ = λ has. false≢true (c.in_default.ensures.succeeds.1 (casts_from_test _ _ _ year.bound month.bound day.bound has)) in
    let none : is_date text ≡ false = and_right _ _ (false_from_ne_true _ (λ has. refused (rw (year.number, month.number, day.number) has))) in
    let is = sym (day_of-shape text none) in
    record { reading = is; day = day_clause text _ is; years = years_clause text _ is; shape = shape_clause text _ is }

pub returns-then-not-is_deck_year : goal.returns-then-not-is_deck_year
returns-then-not-is_deck_year c =
    let text = c.args.field.now in
    let formed : has_form c.args.field.now ≡ true = search rules in
    let year = c.year_of-year.ensures in
    let date =
    dated text _ _ _ formed year.number c.number_at-month.ensures.number c.number_at-day.ensures.number
    year.bound c.number_at-month.ensures.bound c.number_at-day.ensures.bound (c.in-Ok.ensures.succeeds.0 refl) in
    let outside : is_deck_year (year_of text) ≡ false = rw (← year.number) (sym c.is_deck_year.ensures ∙ c.if-not-is_deck_year.true) in
    let is = sym (day_of-years text date outside) in
    record { reading = is; day = day_clause text _ is; years = years_clause text _ is; shape = shape_clause text _ is }

pub invariant_of-result : goal.invariant_of-result
invariant_of-result c =
    let year = c.year_of-year.ensures in
    let month = c.number_at-month.ensures in
    let day = c.number_at-day.ensures in
    let has = test_from_casts _ _ _ year.bound month.bound day.bound (c.in-Ok.ensures.succeeds.0 refl) in
    let low : 1900 ≤ c.year_of-year.result = leb-true _ _ (and_parts _ _ (sym c.is_deck_year.ensures ∙ c.if-not-is_deck_year.false)).0 in
    let in_range = day_number_range _ _ _ (civil _ _ _ year.bound has) low in
    let e = epoch_day-casts c.in-Ok.date _ _ _ year.bound month.bound day.bound c.in-Ok.ensures.value in
    let fits : FitsSigned w32 c.to_unix_epoch_day.result = omega (arith, signed_arith) in
    let n = c.to_unix_epoch_day.ensures.value ∙ ap epoch_day c.to_plain.ensures ∙ e in
    rw (to_z-of_z w32 c.to_unix_epoch_day.result fits, n) in_range

pub returns : goal.returns
returns c =
    let text = c.args.field.now in
    let formed : has_form c.args.field.now ≡ true = search rules in
    let year = c.year_of-year.ensures in
    let month = c.number_at-month.ensures in
    let day = c.number_at-day.ensures in
    let date = dated text _ _ _ formed year.number month.number day.number year.bound month.bound day.bound (c.in-Ok.ensures.succeeds.0 refl) in
    let inside : is_deck_year (year_of text) ≡ true = rw (← year.number) (sym c.is_deck_year.ensures ∙ c.if-not-is_deck_year.false) in
    let e = epoch_day-casts c.in-Ok.date _ _ _ year.bound month.bound day.bound c.in-Ok.ensures.value in
    let fits : FitsSigned w32 c.to_unix_epoch_day.result = omega (arith, signed_arith) in
    let n = to_z-of_z w32 c.to_unix_epoch_day.result fits ∙ c.to_unix_epoch_day.ensures.value ∙ ap epoch_day c.to_plain.ensures ∙ e in
    let shown = n ∙ ap (λ y. days_from_civil (pos y) c.number_at-month.result c.number_at-day.result) year.number
    ∙ ap (λ m. days_from_civil (pos (year_of text)) m c.number_at-day.result) month.number
    ∙ ap (λ d. days_from_civil (pos (year_of text)) (number_at text 5) d) day.number in
    let is = ap Ok shown ∙ sym (day_of-day text date inside) in
    record { reading = is; day = day_clause text _ is; years = years_clause text _ is; shape = shape_clause text _ is }
