-- Laws of the greatest sums over the walks from the start.
use Rattle.std.proofs.Common.{◌≡◌, ℕ, ◌+◌, ◌<◌, ◌≤◌, List, [], ◌∷◌, ◌++◌, length, slice_index, refl, ap, arith}
use Rattle.pc_model.specs.Walk.{from_of, to_of, IsWalk, walk_sum}
use Rattle.pc_model.specs.Network.{Network, IsSound, IsEarly}
use Rattle.pc_model.proofs.Walks.WalkLaws.{IsWalk-push, walk_sum-push}

-- in a network with no cycle a walk that comes back to where it began is empty
pub closed_walk_is_empty : (net : Network) → IsSound net → (e : ℕ) (walk : List ℕ) → IsWalk net.arcs e walk e → walk ≡ []
closed_walk_is_empty net sound e [] walked = refl
closed_walk_is_empty net sound e (a ∷ walk) walked = absurd (sound.no_cycle (a ∷ walk) (λ empty. cc, (e, walked)))

-- the greatest sum to the start is 0
pub early_at_start : (net : Network) → IsSound net → (lengths : List ℕ) (n : ℕ) → IsEarly net lengths net.start n → n ≡ 0
early_at_start net sound lengths n early =
    let (walk, walked, sums) = early.attained in
    omega (arith, ap (walk_sum lengths) (closed_walk_is_empty net sound net.start walk walked))

-- the greatest sums to an activity's two events leave it its length
pub early_fits : (net : Network) (lengths : List ℕ) (a : ℕ) → a < length net.arcs → (begins ends : ℕ) →
    IsEarly net lengths (from_of net.arcs a) begins → IsEarly net lengths (to_of net.arcs a) ends → begins + slice_index lengths a ≤ ends
early_fits net lengths a below begins ends early_from early_to =
    let (walk, walked, sums) = early_from.attained in
    omega (arith, walk_sum-push lengths walk a, early_to.bound (walk_sum lengths (walk ++ a ∷ [])) (walk ++ a ∷ [], IsWalk-push net.arcs net.start _ walk a walked below refl, refl))
