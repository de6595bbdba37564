-- The random numbers from which the benchmark's deck is generated.
use Rattle.std.specs.Prelude.{ℕ, zero, suc, ◌+◌, ◌*◌, ◌%◌}

-- the draw after a number
abbrev pub next_draw : ℕ → ℕ
next_draw x = (75 * x + 74) % 65537

-- the k-th draw after a start number: each is made from the one before, the first from the start number
abbrev pub drawn : ℕ → ℕ → ℕ
drawn start zero = start
drawn start (suc k) = next_draw (drawn start k)
