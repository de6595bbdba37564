use Rattle.std.proofs.Common.{◌≡◌, true, refl, ap, ◌∙◌, arith}
use Rattle.std.specs.Prelude.{ℤ, pos, neg_ℤ, ◌+ℤ◌, int_le}
use Rattle.std.proofs.lemmas.Int.{ints}
use Rattle.pc_days.specs.Calendar.{date_or_none, text_of_day}
use Rattle.pc_days.specs.Dates.{IsPrintedDay}
use Rattle.pc_load.proofs.rows.date_after.Goals as goal

-- a day that is printed has its date
printed_date : (day : ℤ) → IsPrintedDay day → text_of_day day ≡ date_or_none day
printed_date day (low, high) =
    let above : int_le (neg_ℤ (pos 25_567)) day ≡ true = grind (arith, ints) in
    let below : int_le day (pos 2_932_896) ≡ true = grind (arith, ints) in
    rw (above, below) refl

pub returns-in-Some : goal.returns-in-Some
returns-in-Some c =
    let (after, before) = c.in-Some.ensures.after in
    let same : c.in-Some.day ≡ c.args.start +ℤ pos c.args.days = omega (arith, ints) in
    c.day_text.ensures.text ∙ (printed_date c.in-Some.day c.in-Some.ensures.printed ∙ ap date_or_none same)
