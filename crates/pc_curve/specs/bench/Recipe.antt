-- What the benchmark's deck of n activities consists of. Its events are numbered from 0 and its activities from 1. The
-- draws start from n, and the activities draw one after the other.
use Rattle.std.specs.Prelude.{ℕ, ◌+◌, ◌-◌, ◌*◌, ◌/◌, ◌%◌, min, nat_le, if◌then◌else◌}
use Rattle.pc_curve.specs.declared.bench.deck.BenchActivity.{BenchActivity}
use Rattle.pc_curve.specs.bench.Draws.{drawn}

-- the number of the last event: half of n, rounded up
abbrev pub bench_last_event : ℕ → ℕ
bench_last_event n = (n + 1) / 2

-- how many draws the activities up to the i-th make: four each, and two more for each one after the last event's number
abbrev pub draws_to : ℕ → ℕ → ℕ
draws_to n i = 4 * i + 2 * (i - bench_last_event n)

-- the k-th draw of activity i
abbrev pub draw_of : ℕ → ℕ → ℕ → ℕ
draw_of n i k = drawn n (draws_to n (i - 1) + k)

-- the k-th draw of activity i after those for its events
abbrev pub own_draw : ℕ → ℕ → ℕ → ℕ
own_draw n i k = draw_of n i ((if nat_le i (bench_last_event n) then 0 else 2) + k)

-- where activity i begins: the first ones lead in a row from each event to the next, the others begin at a random
-- event, but not at the last one
abbrev pub begins_at : ℕ → ℕ → ℕ
begins_at n i = if nat_le i (bench_last_event n) then i - 1 else draw_of n i 1 % bench_last_event n

-- where it ends: the others end one to four events later, but not after the last event
abbrev pub ends_at : ℕ → ℕ → ℕ
ends_at n i = if nat_le i (bench_last_event n) then i else min (bench_last_event n) (begins_at n i + 1 + draw_of n i 2 % 4)

-- its normal duration: 1 to 20 for each event that it advances
abbrev pub normal_in : ℕ → ℕ → ℕ
normal_in n i = (ends_at n i - begins_at n i) * (1 + own_draw n i 1 % 20)

-- activity i
abbrev pub activity : ℕ → ℕ → BenchActivity
activity n i = record {
  from = begins_at n i;
  to = ends_at n i;
  normal = normal_in n i;
  crash = own_draw n i 2 % (normal_in n i + 1);
  slope = 1 + own_draw n i 3 % 9;
  cost = 10 + own_draw n i 4 % 90;
}
