use Rattle.std.proofs.Common.{arith}
use Rattle.pc_times.proofs.ForecastLaws.{forecast_made, small_finishes}
use Rattle.pc_times.proofs.forecasts.forecast.Goals as goal

pub invariant_of-result : goal.invariant_of-result
invariant_of-result c =
    let ends = c.in_ok-finishes.ensures in (
      λ e. omega (arith, c.in_ok-times.ensures.times.small e),
      small_finishes c.args.net.now c.args.lengths.now c.args.states.now c.args.as_of c.in_ok-times.times.items
          c.in_ok-finishes.finishes.items c.requires.lengths c.requires.states c.requires.as_of c.in_ok-times.ensures.times
          (rw c.deref.ensures.value at ends),
    )

pub returns-clause-forecast : goal.returns-clause-forecast
returns-clause-forecast c =
    let ends = c.in_ok-finishes.ensures in
    forecast_made c.args.net.now c.args.lengths.now c.args.states.now c.args.as_of c.in_ok-times.times.items c.in_ok-finishes.finishes.items
    c.in_ok-times.ensures.in_range c.in_ok-times.ensures.times (rw c.deref.ensures.value at ends)

pub returns-clause-only : goal.returns-clause-only
returns-clause-only c = λ other second.
    let ends = c.in_ok-finishes.ensures in
    c.in_ok-times.ensures.only other _ second
    (forecast_made c.args.net.now c.args.lengths.now c.args.states.now c.args.as_of c.in_ok-times.times.items
    c.in_ok-finishes.finishes.items c.in_ok-times.ensures.in_range c.in_ok-times.ensures.times (rw c.deref.ensures.value at ends))
