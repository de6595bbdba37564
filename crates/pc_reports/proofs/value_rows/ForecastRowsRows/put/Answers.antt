use Rattle.std.proofs.Common.{ℕ, List, length, ap, arith}
use Rattle.pc_reports.proofs.value_rows.ForecastRowsRows.put.Goals as goal

pub time-time-requires : goal.time-time-requires
time-time-requires g c =
    let is = c.requires.ready in
    omega (arith, c.requires.known, ap (λ (times : List ℕ). length times) is.times, is.forecast.one_each, c.event_codes.ensures.planned.event_codes)

pub late-late-requires : goal.late-late-requires
late-late-requires g c =
    let (early, (is_early, is_late)) = c.requires.ready.late in
    omega (arith, c.requires.known, is_late.one_each, c.event_codes.ensures.planned.event_codes)

pub date-requires : goal.date-requires
date-requires g c =
    let is = c.requires.ready in
    omega (arith, c.requires.known, ap (λ (times : List ℕ). length times) is.times, is.forecast.one_each, is.dates.one_each, c.event_codes.ensures.planned.event_codes)
