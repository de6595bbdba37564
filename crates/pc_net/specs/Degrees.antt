-- How many activities begin, or end, at the events of a list.
use Rattle.std.specs.Prelude.{◌≢◌, ℕ, ◌<◌, List, length, sum_by, slice_index}
use Rattle.pc_model.specs.Greatest.{places}

-- no event is in the list twice
abbrev pub AreDistinct : List ℕ → Type 0
AreDistinct events = (j k : ℕ) → j < k → k < length events → slice_index events j ≢ slice_index events k

-- the places that the listed events have in xs, in all: how many activities begin at them, where xs has the event where
-- each activity begins
abbrev pub degrees : List ℕ → List ℕ → ℕ
degrees xs events = sum_by (λ e. length (places e 0 xs)) events
