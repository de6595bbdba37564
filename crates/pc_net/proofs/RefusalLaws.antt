-- A refusal for another reason than out of memory says that the network is unsound, which a sound one never is.
use Rattle.std.proofs.Common.{◌≢◌, refl, inl, inr}
use Rattle.pc_model.specs.Network.{Network, IsSound}
use Rattle.pc_model.proofs.Walks.UnsoundLaws.{IsUnsound, IsSound-not-IsUnsound}
use Rattle.pc_net.specs.declared.refusal.NetError.{NetError}
use Rattle.pc_net.specs.declared.refusal.NetError.TheVariants.{StartEntered, EndLeft, Dangling, Cycle, OutOfMemory}
use Rattle.pc_net.specs.Refusals.{IsNetError}

-- a network that is refused for another reason than out of memory is unsound
pub refused_is_unsound : (net : Network) (e : NetError) → IsNetError net e → e ≢ OutOfMemory → IsUnsound net
refused_is_unsound net (StartEntered arc) refused other = inl (arc, refused.holds.0, refused.holds.1)
refused_is_unsound net (EndLeft arc) refused other = inr (inl (arc, refused.1.holds.0, refused.1.holds.1))
refused_is_unsound net (Dangling event entered) refused other = inr (inr (inl (event, refused.first.holds.0, refused.first.holds.1)))
refused_is_unsound net (Cycle cycle) refused other = inr (inr (inr (cycle, refused.1.cycle)))
refused_is_unsound net OutOfMemory refused other = absurd (other refl)

-- and so it is not sound
pub refused_is_not_sound : (net : Network) (e : NetError) → IsNetError net e → e ≢ OutOfMemory → IsSound net → ⊥
refused_is_not_sound net e refused other sound = IsSound-not-IsUnsound net sound (refused_is_unsound net e refused other)
