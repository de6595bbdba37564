-- Chains of the places of each event in a list of events.
use Rattle.std.specs.Prelude.{◌≡◌, ℕ, ◌+◌, ◌<◌, ◌≤◌, List, [], ◌∷◌, length, slice_index, drop}
use Rattle.pc_model.specs.Greatest.{places}

-- the first of the numbers, or n if there is none
abbrev pub first_or : ℕ → List ℕ → ℕ
first_or n [] = n
first_or n (x ∷ xs) = x

-- the places of x in xs from place i on
abbrev pub places_from : List ℕ → ℕ → ℕ → List ℕ
places_from xs x i = places x i (drop i xs)

-- from place i on: `heads` has each event's first place, and `nexts` has for each place the next one of the same event;
-- the length of xs means that there is none
pub record AreChains (xs : List ℕ) (events i : ℕ) (heads nexts : List ℕ) : Type 0 where
  pub heads_len : length heads ≡ events
  pub nexts_len : length nexts ≡ length xs
  pub head : (x : ℕ) → x < events → slice_index heads x ≡ first_or (length xs) (places_from xs x i)
  pub next : (k : ℕ) → i ≤ k → k < length xs → slice_index nexts k ≡ first_or (length xs) (places_from xs (slice_index xs k) (k + 1))
