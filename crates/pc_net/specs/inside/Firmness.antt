-- The first number with a property, and networks without loose ends.
-- Here is what no clause of a top call and no law reaches.
use Rattle.std.specs.Prelude.{◌≢◌, ℕ, Option, MatchOption}
use Rattle.pc_model.specs.Greatest.{IsFirst}
use Rattle.pc_model.specs.Network.{Network, IsLeft}

-- the first number with P, or none if no number has it
abbrev pub IsFirstOrNone : (ℕ → Type 0) → Option ℕ → Type 0
IsFirstOrNone P found = MatchOption found ((a : ℕ) → P a → ⊥) (IsFirst P)

-- event e is not the end, and no activity leaves it
abbrev pub IsUnleft : Network → ℕ → Type 0
IsUnleft net e = (e ≢ net.end) × (IsLeft net e → ⊥)
