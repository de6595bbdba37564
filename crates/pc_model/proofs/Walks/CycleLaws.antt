-- Long walks have cycles, and a network where all that can be reached has an order has none.
use Rattle.std.proofs.Common.{◌≡◌, ◌≢◌, ℕ, zero, suc, ◌+◌, ◌<◌, ◌≤◌, List, [], ◌∷◌, length, slice_index, take, nat_eq, true, refl, sym, ◌∙◌, subst, ◌⊎◌, inl, inr, ⊎_elim, arith}
use Rattle.std.specs.List.{IsDistinct, range_with_len}
use Rattle.std.specs.Set.{is_member}
use Rattle.std.specs.Cmp.{unsigned_Decides}
use Rattle.std.proofs.lemmas.Bool.{cases_eq, ne_eqb}
use Rattle.std.proofs.lemmas.Cmp.{nat_eq_equiv}
use Rattle.std.proofs.lemmas.List.{get_or_default}
use Rattle.std.proofs.lemmas.List.FromFn.{length-range_with_len, get_or-range_with_len}
use Rattle.std.proofs.lemmas.Map.Keys.{IsDistinct-from_apart}
use Rattle.std.proofs.lemmas.Map.Made.{is_member-Decides, length-le_from_is_member}
use Rattle.pc_model.specs.declared.Arc.{Arc}
use Rattle.pc_model.specs.Greatest.{StandsBelow}
use Rattle.pc_model.specs.Walk.{to_of, IsWalk, IsCycle}
use Rattle.pc_model.specs.Network.{Network, IsInRange}
use Rattle.pc_model.proofs.Walks.OrderLaws.{stands_or_not, room_below}

-- no two elements are the same
abbrev pub IsOnce : List ℕ → Type 0
IsOnce xs = (j k : ℕ) → j < k → k < length xs → slice_index xs j ≢ slice_index xs k

-- the events along a walk, with the one where it begins and the one where it ends
abbrev pub passed : List Arc → ℕ → List ℕ → List ℕ
passed arcs e [] = e ∷ []
passed arcs e (a ∷ walk) = e ∷ passed arcs (to_of arcs a) walk

-- there is one more of them than activities
pub length-passed : (arcs : List Arc) (e : ℕ) (walk : List ℕ) → length (passed arcs e walk) ≡ length walk + 1
length-passed arcs e [] = omega arith
length-passed arcs e (a ∷ walk) = omega (arith, length-passed arcs (to_of arcs a) walk)

-- the front of a walk leads to the event after it
pub IsWalk-passed : (arcs : List Arc) (e f i : ℕ) (walk : List ℕ) → IsWalk arcs e walk f → i < length (passed arcs e walk) → IsWalk arcs e (take i walk) (slice_index (passed arcs e walk) i)
IsWalk-passed arcs e f zero [] walked below = refl
IsWalk-passed arcs e f (suc i) [] walked below = absurd (omega arith)
IsWalk-passed arcs e f zero (a ∷ walk) walked below = refl
IsWalk-passed arcs e f (suc i) (a ∷ walk) walked below =
    (walked.0, walked.1, IsWalk-passed arcs (to_of arcs a) f i walk walked.2 (omega arith))

-- the events along a walk in a network are its events
pub passed_below : (net : Network) → IsInRange net → (e f : ℕ) (walk : List ℕ) → IsWalk net.arcs e walk f → e < net.events → (k : ℕ) →
    k < length (passed net.arcs e walk) → slice_index (passed net.arcs e walk) k < net.events
passed_below net ranged e f [] walked known zero below = known
passed_below net ranged e f [] walked known (suc k) below = absurd (omega arith)
passed_below net ranged e f (a ∷ walk) walked known zero below = known
passed_below net ranged e f (a ∷ walk) walked known (suc k) below =
    passed_below net ranged (to_of net.arcs a) f walk walked.2 (ranged.to_in a walked.0) k (omega arith)

-- some walk comes back to where it began
abbrev pub HasCycle : List Arc → Type 0
HasCycle arcs = (walk : List ℕ) × IsCycle arcs walk

-- a walk passes no event twice, or a part of it is a cycle
pub cycle_or_once : (arcs : List Arc) (e f : ℕ) (walk : List ℕ) → IsWalk arcs e walk f → HasCycle arcs ⊎ IsOnce (passed arcs e walk)
cycle_or_once arcs e f [] walked = inr (λ j k before below. absurd (omega arith))
cycle_or_once arcs e f (a ∷ walk) walked =
    ⊎_elim (λ cycle. inl cycle)
    (λ once. ⊎_elim (λ stands. inl (back stands)) (λ none. inr (extend once none)) (stands_or_not (passed arcs (to_of arcs a) walk) (length (passed arcs (to_of arcs a) walk)) e))
    (cycle_or_once arcs (to_of arcs a) f walk walked.2)
  where
    back : StandsBelow (passed arcs (to_of arcs a) walk) (length (passed arcs (to_of arcs a) walk)) e → HasCycle arcs
    back stands =
        let front = IsWalk-passed arcs (to_of arcs a) f stands.0 walk walked.2 stands.1 in
        let round : IsWalk arcs (to_of arcs a) (take stands.0 walk) e = subst (IsWalk arcs (to_of arcs a) (take stands.0 walk)) stands.2 front in
        (a ∷ take stands.0 walk, ((λ none. cc), (e, (walked.0, walked.1, round))))

    extend : IsOnce (passed arcs (to_of arcs a) walk) →
        ((j : ℕ) → j < length (passed arcs (to_of arcs a) walk) → slice_index (passed arcs (to_of arcs a) walk) j ≢ e) →
        IsOnce (passed arcs e (a ∷ walk))
    extend once none zero zero before below = absurd (omega arith)
    extend once none zero (suc k) before below = λ same. none k (omega arith) (sym same)
    extend once none (suc j) zero before below = absurd (omega arith)
    extend once none (suc j) (suc k) before below = once j k (omega arith) (omega arith)

-- a walk of as many activities as there are events has a cycle
pub long_walk_has_cycle : (net : Network) → IsInRange net → (e f : ℕ) (walk : List ℕ) → IsWalk net.arcs e walk f → e < net.events → net.events ≤ length walk → HasCycle net.arcs
long_walk_has_cycle net ranged e f walk walked known long =
    ⊎_elim (λ cycle. cycle) (λ once. absurd
    (omega (
      arith,
      length-passed net.arcs e walk,
      room_below (passed net.arcs e walk) net.events (passed_below net ranged e f walk walked known) once,
    )))
    (cycle_or_once net.arcs e f walk walked)

-- an element of a list is a member of it
member_from_stands : (xs : List ℕ) (q : ℕ) → StandsBelow xs (length xs) q → is_member nat_eq xs q ≡ true
member_from_stands xs q (j, j_in, at) =
    (is_member-Decides unsigned_Decides xs q).1 (j, j_in, get_or_default xs j q 0 j_in ∙ at)

-- if all numbers below n are in a list, n is at most its length
pub all_stand : (xs : List ℕ) (n : ℕ) → ((v : ℕ) → v < n → StandsBelow xs (length xs) v) → n ≤ length xs
all_stand xs n stand =
    omega (arith, length-range_with_len 0 n, length-le_from_is_member nat_eq_equiv (range_with_len 0 n) xs apart within)
  where
    apart : IsDistinct nat_eq (range_with_len 0 n)
    apart = IsDistinct-from_apart nat_eq (range_with_len 0 n)
        (λ i j d before below. ne_eqb _ _
        (λ same. omega (
          arith,
          length-range_with_len 0 n,
          get_or-range_with_len 0 n i d (omega (arith, length-range_with_len 0 n)),
          get_or-range_with_len 0 n j d (omega (arith, length-range_with_len 0 n)),
          same,
        )))

    within : (q : ℕ) → is_member nat_eq (range_with_len 0 n) q ≡ true → is_member nat_eq xs q ≡ true
    within q is =
        let (k, in_list, at_k) = (is_member-Decides unsigned_Decides (range_with_len 0 n) q).0 is in
        let below : k < n = omega (arith, length-range_with_len 0 n, in_list) in
        let same : k ≡ q = omega (arith, get_or-range_with_len 0 n k q below, at_k) in
        member_from_stands xs q (stand q (omega arith))

-- all numbers below n are in a list, or one of them is not
pub stand_or_misses : (xs : List ℕ) (n : ℕ) → ((v : ℕ) → v < n → StandsBelow xs (length xs) v) ⊎ ((v : ℕ) × (v < n) × ((j : ℕ) → j < length xs → slice_index xs j ≢ v))
stand_or_misses xs zero = inl (λ v below. absurd (omega arith))
stand_or_misses xs (suc n) =
    ⊎_elim
    (λ stand. ⊎_elim (λ here. inl (λ v below. ⊎_elim (λ same. subst (StandsBelow xs (length xs)) (sym same) here)
    (λ other. stand v (omega arith)) (cases_eq v n))) (λ none. inr (n, omega arith, none)) (stands_or_not xs (length xs) n))
    (λ missing. inr (missing.0, omega (arith, missing.1), missing.2))
    (stand_or_misses xs n)
