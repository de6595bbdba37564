-- The first number with a property, and networks without loose ends.
use Rattle.std.specs.Prelude.{◌≡◌, ◌≢◌, ℕ, ◌<◌, length}
use Rattle.pc_model.specs.Walk.{from_of, to_of}
use Rattle.pc_model.specs.Network.{Network, IsEntered, IsLeft, IsDangling}

-- activity a ends at the start
abbrev pub EntersStart : Network → ℕ → Type 0
EntersStart net a = (a < length net.arcs) × (to_of net.arcs a ≡ net.start)

-- activity a begins at the end
abbrev pub LeavesEnd : Network → ℕ → Type 0
LeavesEnd net a = (a < length net.arcs) × (from_of net.arcs a ≡ net.end)

-- e is an event that dangles
abbrev pub Dangles : Network → ℕ → Type 0
Dangles net e = (e < net.events) × IsDangling net e

-- event e is not the start, and no activity enters it
abbrev pub IsUnentered : Network → ℕ → Type 0
IsUnentered net e = (e ≢ net.start) × (IsEntered net e → ⊥)

-- nothing enters the start or leaves the end, and no event dangles
pub record IsFirm (net : Network) : Type 0 where
  pub not_entered : IsEntered net net.start → ⊥
  pub not_left : IsLeft net net.end → ⊥
  pub none_dangles : (e : ℕ) → e < net.events → IsDangling net e → ⊥
