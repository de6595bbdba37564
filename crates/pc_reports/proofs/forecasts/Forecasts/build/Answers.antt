use Rattle.std.proofs.Common.{arith}
use Rattle.pc_reports.proofs.forecasts.Forecasts.build.Goals as goal

pub dates_of-requires : goal.dates_of-requires
dates_of-requires c = rw c.deref.ensures.value c.in_ok-times.ensures.soon

pub least_slacks-requires : goal.least_slacks-requires
least_slacks-requires c =
    let planned = c.net.ensures.planned in
    let (early, (is_early, is_late)) = c.in_ok-late.ensures.late in
    record {
      known = rw (c.tree-tree.ensures.tree, c.places-places.ensures.places) (λ a lt. planned.placed a (omega (arith, planned.place_each)));
      in_range = rw c.net.ensures.network planned.in_range;
      place_each = rw (c.places-places.ensures.places, c.net.ensures.network) planned.place_each;
      finish_each = rw c.net.ensures.network c.in_ok-expected.ensures.forecast.finish_each;
      late_each = rw (c.net.ensures.network, c.deref-2.ensures.value) is_late.one_each;
      limit = rw c.deref-2.ensures.value c.in_ok-late.ensures.limit;
    }

pub returns : goal.returns
returns c = record {
  as_of = c.in_ok-expected.ensures.as_of;
  as_of_is = c.in_ok-expected.ensures.as_of_is;
  expected = c.in_ok-expected.expected;
  forecast = c.in_ok-expected.ensures.forecast;
  times = c.in_ok-times.ensures.times;
  late = c.in_ok-late.ensures.late;
  dates = rw (← c.start_day.ensures, ← c.deref.ensures.value) c.in_ok-dates_of.ensures;
  slacks = rw (← c.deref-2.ensures.value, ← c.tree-tree.ensures.tree, ← c.places-places.ensures.places, ← c.net.ensures.network) c.in_ok-least_slacks.ensures;
}

pub invariant_of-result : goal.invariant_of-result
invariant_of-result c = record {
  times = c.in_ok-times.ensures.soon;
  late = c.in_ok-late.ensures.limit;
}
