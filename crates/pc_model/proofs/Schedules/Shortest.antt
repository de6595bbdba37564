-- Schedules exist exactly for the lengths from the all-crash length on.
use Rattle.std.proofs.Common.{ℕ, ◌≤◌, List, arith}
use Rattle.pc_model.specs.declared.Term.{Term}
use Rattle.pc_model.specs.Walk.{from_of, to_of}
use Rattle.pc_model.specs.Network.{Network, IsInRange, IsSound, IsOrder}
use Rattle.pc_model.specs.Schedule.{crash_of, crashes, AreTerms, IsSchedule, HasSchedule, IsAllCrashLength}
use Rattle.pc_model.proofs.Walks.EarlyLaws.{early_at_start, early_fits}
use Rattle.pc_model.proofs.Walks.EarlyExists.{early_time, early_time_is_early}
use Rattle.pc_model.proofs.Schedules.Durations.{crashes-at, crash-normal, longer, crash_walk_within}

-- at the crash durations there is a schedule for the all-crash length
pub all_crash_schedule : (net : Network) (terms : List Term) (order : List ℕ) (shortest : ℕ) →
    IsInRange net → IsSound net → AreTerms net terms → IsOrder net order → IsAllCrashLength net terms shortest →
    (times : ℕ → ℕ) × IsSchedule net terms shortest (crash_of terms) times
all_crash_schedule net terms order shortest range sound are ordered longest =
    let early = early_time_is_early net (crashes terms) order range sound ordered in
    let times : ℕ → ℕ = early_time net (crashes terms) order range sound ordered in (
      times,
      record {
        enough = λ a l. omega arith;
        within = crash-normal net terms are;
        starts = early_at_start net sound (crashes terms) (times net.start) (early net.start range.start_in);
        fits = λ a l. omega (
          arith,
          crashes-at terms a (omega (arith, are.one_each)),
          early_fits net (crashes terms) a l (times (from_of net.arcs a)) (times (to_of net.arcs a))
              (early (from_of net.arcs a) (range.from_in a l)) (early (to_of net.arcs a) (range.to_in a l)),
        );
        ends = omega (arith, longest.bound (times net.end) (early net.end range.end_in).attained);
      },
    )

-- there is one for each length from there on
pub schedule_from_shortest : (net : Network) (terms : List Term) (order : List ℕ) (shortest limit : ℕ) →
    IsInRange net → IsSound net → AreTerms net terms → IsOrder net order → IsAllCrashLength net terms shortest →
    shortest ≤ limit → HasSchedule net terms limit
schedule_from_shortest net terms order shortest limit range sound are ordered longest above =
    let (times, schedule) = all_crash_schedule net terms order shortest range sound are ordered longest in
    (crash_of terms, times, longer net terms shortest limit (crash_of terms) times above schedule)

-- and none for a shorter one
pub shortest_below_schedule : (net : Network) (terms : List Term) (shortest limit : ℕ) → AreTerms net terms →
    IsAllCrashLength net terms shortest → HasSchedule net terms limit → shortest ≤ limit
shortest_below_schedule net terms shortest limit are longest (d, t, schedule) =
    let (walk, leads, sums) = longest.attained in
    omega (arith, sums, crash_walk_within net terms limit d t are schedule walk leads)
