-- How many lines may still come.
use Rattle.std.specs.Prelude.{ℕ, ◌+◌, ◌*◌}
use Rattle.pc_model.specs.declared.limits.TheConstants.{MAX_DURATION}
use Rattle.pc_cert.specs.declared.place.Place.{Place}
use Rattle.pc_cert.specs.declared.place.Place.TheVariants.{Start, AfterHead, NormalWalk, CrashWalk, InSegment, Between, Ended}

-- no walk of at most n activities is longer
abbrev pub longest_walk : ℕ → ℕ
longest_walk n = n * MAX_DURATION

-- the most lines of segments with upper ends of at most `high`, where the first may have one length, and END
abbrev pub lines_below : ℕ → ℕ → ℕ → ℕ
lines_below n m high = high * (n + m + 2) + 1

-- the most lines that may come from a place on, where the last segment that has begun has this lower end
abbrev pub lines_from : ℕ → ℕ → Place → ℕ → ℕ
lines_from n m Start lower = 1 + (1 + (n + (1 + (n + lines_below n m (longest_walk n + 1)))))
lines_from n m (AfterHead shape) lower = 1 + (n + (1 + (n + lines_below n m (longest_walk n + 1))))
lines_from n m (NormalWalk shape steps) lower = steps + (1 + (n + lines_below n m (longest_walk n + 1)))
lines_from n m (CrashWalk shape steps) lower = steps + lines_below n m (longest_walk n + 1)
lines_from n m (InSegment shape events activities) lower = events + (activities + (1 + lines_below n m lower))
lines_from n m (Between shape) lower = lines_below n m lower
lines_from n m Ended lower = 0

-- the most lines of a certificate
abbrev pub lines_of_all : ℕ → ℕ → ℕ
lines_of_all n m = lines_from n m Start 0
