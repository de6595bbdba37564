-- What the report of event times is written from.
use Rattle.std.specs.Prelude.{ℕ, ◌^◌, ◌<◌, ℤ, pos, ◌-ℤ◌, unsigned_abs, List, length, map, slice_index}
use Rattle.pc_times.specs.declared.TheConstants.{MAX_TIME}
use Rattle.pc_reports.specs.inside.View.{Shown}
use Rattle.pc_whatif.specs.declared.trials.StandingTimes.TheInside.{Inside}
use Rattle.pc_whatif.specs.inside.trials.Laid.{AreAtMost}

-- the latest times, by the time to be met at the end and the greatest sums to it
abbrev pub late_by : ℤ → List ℕ → List ℤ
late_by by tails = map (λ tail. by -ℤ pos tail) tails

-- what the lists show
abbrev pub shown_of : Inside → Shown
shown_of v = record {
  expected = v.expected.now;
  variances = v.variances.now;
  times = record { early = v.early.now; late = late_by v.by v.tails.now; path = v.path.now };
}

-- the numbers fit the types that they are shown in
pub record IsSmallView (v : Inside) : Type 0 where
  pub by : unsigned_abs v.by < 2 ^ 40
  pub tails : AreAtMost MAX_TIME v.tails.now
  pub path : (k : ℕ) → k < length v.path.now → slice_index v.path.now k < 2 ^ 32
