-- There is one picked walk, and its activities are the network's.
use Rattle.std.proofs.Common.{◌≡◌, ℕ, ◌<◌, zero, suc, List, [], ◌∷◌, length, slice_index, refl, sym, ◌∙◌, subst, arith}
use Rattle.pc_model.specs.Walk.{to_of}
use Rattle.pc_model.specs.Network.{Network, IsSound}
use Rattle.pc_model.proofs.Walks.WalkLaws.{first_unique}
use Rattle.pc_times.specs.Picked.{IsPickedFrom, IsPickedWalk}

-- from an event on there is one picked walk
pub picked_from_unique : (net : Network) (lengths : List ℕ) → IsSound net → (e : ℕ) (walk other : List ℕ) → IsPickedFrom net lengths e walk → IsPickedFrom net lengths e other → walk ≡ other
picked_from_unique net lengths sound e [] [] picked picked_other = refl
picked_from_unique net lengths sound e [] (b ∷ other) picked picked_other =
    absurd (sound.not_left (b, picked_other.0.holds.0, picked_other.0.holds.1 ∙ picked))
picked_from_unique net lengths sound e (a ∷ walk) [] picked picked_other =
    absurd (sound.not_left (a, picked.0.holds.0, picked.0.holds.1 ∙ picked_other))
picked_from_unique net lengths sound e (a ∷ walk) (b ∷ other) picked picked_other =
    let same : a ≡ b = first_unique _ a b picked.0 picked_other.0 in
    let rest : walk ≡ other = picked_from_unique net lengths sound (to_of net.arcs a) walk other picked.1
    (subst (λ (x : ℕ). IsPickedFrom net lengths (to_of net.arcs x) other) (sym same) picked_other.1) in
    cc

-- so there is one picked walk
pub picked_walk_unique : (net : Network) (lengths walk other : List ℕ) → IsSound net → IsPickedWalk net lengths walk → IsPickedWalk net lengths other → walk ≡ other
picked_walk_unique net lengths walk other sound picked picked_other =
    picked_from_unique net lengths sound net.start walk other picked picked_other

-- the activities of a picked walk are activities of the network
pub picked_from_known : (net : Network) (lengths : List ℕ) (e : ℕ) (walk : List ℕ) (i : ℕ) → IsPickedFrom net lengths e walk → i < length walk → slice_index walk i < length net.arcs
picked_from_known net lengths e [] i picked below = absurd (omega (arith, below))
picked_from_known net lengths e (a ∷ walk) zero picked below = picked.0.holds.0
picked_from_known net lengths e (a ∷ walk) (suc i) picked below =
    picked_from_known net lengths (to_of net.arcs a) walk i picked.1 (omega (arith, below))
