use Rattle.std.proofs.Common.{arith, ap, ◌∙◌, ◌≡◌, ℤ, pos, ◌≤ℤ◌, to_z, of_z, w16, w32, w64, FitsSigned}
use Rattle.std.specs.Prelude.{unsigned_abs}
use Rattle.std.proofs.lemmas.Int.{to_z-of_z}
use Rattle.jiff_core.specs.Calendar.{IsCivilDate, days_from_civil}
use Rattle.jiff_core.specs.Date.{epoch_day}
use Rattle.jiff_core.specs.declared.civil.date.Date.{Date}
use Rattle.jiff_core.proofs.SignedLemmas.{signed_arith, signed_casts}
use Rattle.pc_days.specs.Dates.{date_text, IsPrintedDay}
use Rattle.pc_days.proofs.Form.{day_number_year, year_fits}
use Rattle.pc_days.proofs.CalendarLaws.{text_of-day}
use Rattle.pc_days.proofs.Reading.{NamesDay-same, NamesDay-read, NamesDay-date}
use Rattle.pc_days.proofs.day.day_text.Goals as goal

-- the date that was made of a day's number is of the deck's years, and its year fits its type
record Made (date : Date) (day : ℤ) : Type 0 where
  is_civil : IsCivilDate date.year date.month date.day
  is : days_from_civil date.year date.month date.day ≡ day
  low : pos 1900 ≤ℤ date.year
  fits : FitsSigned w16 date.year

made : (date : Date) (day number : ℤ) → number ≡ to_z w32 (of_z w32 day) → epoch_day date ≡ to_z w64 (of_z w64 number) → IsPrintedDay day → Made date day
made date day number same of_number printed =
    let is_civil : IsCivilDate date.year date.month date.day = (date.year_in, date.month_in, date.day_in) in
    let inside : FitsSigned w32 day = omega (arith, signed_arith) in
    let is_day : number ≡ day = same ∙ to_z-of_z w32 day inside in
    let wide : FitsSigned w64 number = omega (arith, signed_arith) in
    let is = of_number ∙ to_z-of_z w64 number wide ∙ is_day in
    let low = day_number_year date.year date.month date.day is_civil (rw is printed.0) in
    record { is_civil = is_civil; is = is; low = low; fits = omega (arith, signed_arith) }

pub overflow_cast-date : goal.overflow_cast-date
overflow_cast-date c =
    let date = c.in-Ok.date in
    let facts = made date c.d.inside.number c.from.result c.from.ensures c.in-Ok.ensures.value c.d.invariant in
    rw (to_z-of_z w16 date.year facts.fits) ((omega (arith, signed_casts)), (omega (arith, year_fits date.year date.year_in.1 facts.low)))

pub returns : goal.returns
returns c =
    let date = c.in-Ok.date in
    let facts = made date c.d.inside.number c.from.result c.from.ensures c.in-Ok.ensures.value c.d.invariant in
    let spelled = c.spelled.ensures ∙ ap (λ y. date_text (unsigned_abs y) date.month date.day) (to_z-of_z w16 date.year facts.fits) in
    let names = NamesDay-date c.spelled.result date.year date.month date.day c.args.d facts.is_civil facts.low spelled (facts.is ∙ c.d.view_is) in
    record {
      named = names;
      text = text_of-day c.spelled.result c.args.d (rw (← c.d.view_is) c.d.invariant) names;
      back = λ text is. NamesDay-same c.spelled.result text c.args.d names (NamesDay-read text c.args.d is);
    }
