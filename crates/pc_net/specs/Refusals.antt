-- Why a network is refused: each cause with the first thing that it names, if no earlier cause holds.
use Rattle.std.specs.Prelude.{ℕ, ◌↔◌, Bool, IsFalse}
use Rattle.pc_model.specs.Greatest.{IsFirst}
use Rattle.pc_model.specs.Network.{Network, IsEntered, IsLeft}
use Rattle.pc_net.specs.declared.refusal.NetError.{NetError}
use Rattle.pc_net.specs.declared.refusal.NetError.TheVariants.{StartEntered, EndLeft, Dangling, Cycle, OutOfMemory}
use Rattle.pc_net.specs.Firmness.{EntersStart, LeavesEnd, Dangles, IsUnentered, IsFirm}
use Rattle.pc_net.specs.Cycles.{IsFirstCycle}

-- the first event that dangles, and whether it is the start or entered, if no activity enters the start or leaves the end
pub record IsFirstDangling (net : Network) (event : ℕ) (entered : Bool) : Type 0 where
  pub not_entered : IsEntered net net.start → ⊥
  pub not_left : IsLeft net net.end → ⊥
  pub first : IsFirst (Dangles net) event
  pub unentered : IsFalse entered ↔ IsUnentered net event

-- the error says what is wrong with the network; memory may run out at any time
abbrev pub IsNetError : Network → NetError → Type 0
IsNetError net (StartEntered arc) = IsFirst (EntersStart net) arc
IsNetError net (EndLeft arc) = (IsEntered net net.start → ⊥) × IsFirst (LeavesEnd net) arc
IsNetError net (Dangling event entered) = IsFirstDangling net event entered
IsNetError net (Cycle cycle) = IsFirm net × IsFirstCycle net.arcs cycle
IsNetError net OutOfMemory = Unit {0}
