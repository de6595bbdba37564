-- What follows from the estimates of an activity's duration: its expected time and the variance of it.
use Rattle.std.specs.Prelude.{ℕ, ◌+◌, ◌-◌, ◌*◌, ◌^◌}

-- the expected time in sixths of a day: the optimistic time, four times the likely one and the pessimistic one, in days
abbrev pub expected_time : ℕ → ℕ → ℕ → ℕ → ℕ
expected_time opt likely pess unit_days = (opt + 4 * likely + pess) * unit_days

-- the variance in thirty-sixths of a square day: the square of the range of the estimates, in days
abbrev pub variance_of : ℕ → ℕ → ℕ → ℕ
variance_of opt pess unit_days = (pess - opt) ^ 2 * unit_days ^ 2
