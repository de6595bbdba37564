use Rattle.std.proofs.Common.{arith}
use Rattle.pc_rollup.proofs.lemmas.figures.PushLaws.{if_answered}
use Rattle.pc_reports.proofs.forecasts.forecast_of.Goals as goal

pub forecast-requires : goal.forecast-requires
forecast-requires c =
    let planned = c.net-net.ensures.planned in
    record {
      lengths = rw (c.net-net.ensures.network, c.expected-lengths.ensures.expected) planned.lengths;
      states = rw (c.net-net.ensures.network, c.states.ensures.states) planned.figures.small_states;
      as_of = omega (arith, c.as_of_time-as_of.ensures.small);
    }

pub returns : goal.returns
returns c =
    if_answered c.forecast.result _ _
    (λ expected is. record {
      as_of = c.as_of_time-as_of.result;
      as_of_is = c.as_of_time-as_of.ensures.time;
      small = c.as_of_time-as_of.ensures.small;
      forecast = rw (← c.net-net.ensures.network, ← c.expected-lengths.ensures.expected, ← c.states.ensures.states) is;
    }) c.forecast.ensures.forecast
