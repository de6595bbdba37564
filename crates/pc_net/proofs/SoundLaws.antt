-- A network with an order of all its events, no event that dangles and free ends is sound; one whose order is blocked
-- has a cycle.
use Rattle.std.proofs.Common.{◌≡◌, ◌≢◌, ℕ, zero, suc, ◌+◌, ◌<◌, ◌≤◌, List, [], ◌∷◌, ◌++◌, length, slice_index, refl, sym, ◌∙◌, ap, subst, ◌⊎◌, inl, inr, ⊎_elim, arith}
use Rattle.std.proofs.lemmas.Bool.{cases_eq}
use Rattle.std.proofs.lemmas.List.{length_push}
use Rattle.pc_model.specs.Walk.{from_of, to_of, IsWalk}
use Rattle.pc_model.specs.Network.{Network, IsInRange, IsEntered, IsLeft, IsDangling, IsSound, IsOrder}
use Rattle.pc_model.proofs.Walks.WalkLaws.{IsWalk-push}
use Rattle.pc_model.proofs.Walks.OrderLaws.{stands_in_order, same_place, no_cycle_from_order}
use Rattle.pc_model.proofs.Walks.CycleLaws.{HasCycle, long_walk_has_cycle, all_stand, stand_or_misses}
use Rattle.pc_net.specs.inside.Queue.{IsNotInOrder, IsBlocked}

-- a function has a value somewhere below n, or nowhere
value_or_not : (f : ℕ → ℕ) (v n : ℕ) → ((a : ℕ) × (a < n) × (f a ≡ v)) ⊎ ((a : ℕ) → a < n → f a ≢ v)
value_or_not f v zero = inr (λ a below. absurd (omega arith))
value_or_not f v (suc n) =
    ⊎_elim (λ found. inl (found.0, omega (arith, found.1), found.2))
    (λ none. ⊎_elim (λ is. inl (n, omega arith, is))
    (λ isnt. inr (λ a below. ⊎_elim (λ same is. isnt (ap f (sym same) ∙ is)) (λ other. none a (omega arith)) (cases_eq a n)))
    (cases_eq (f n) v))
    (value_or_not f v n)

module _ (net : Network) (order : List ℕ) (ranged : IsInRange net) (ordered : IsOrder net order) (firm : (e : ℕ) → e < net.events → IsDangling net e → ⊥) where
  -- an event other than the start is entered
  entered : (e : ℕ) → e < net.events → e ≢ net.start → IsEntered net e
  entered e below other = ⊎_elim (λ found. found)
      (λ none. absurd (firm e below (inl (other, λ found. none found.0 found.1 found.2))))
      (value_or_not (to_of net.arcs) e (length net.arcs))

  -- an event other than the end is left
  left : (e : ℕ) → e < net.events → e ≢ net.end → IsLeft net e
  left e below other = ⊎_elim (λ found. found)
      (λ none. absurd (firm e below (inr (other, λ found. none found.0 found.1 found.2))))
      (value_or_not (from_of net.arcs) e (length net.arcs))

  -- by the places of the order from the front: a walk comes from the start
  reached_at : (n k : ℕ) → k < n → k < length order → (walk : List ℕ) × IsWalk net.arcs net.start walk (slice_index order k)
  reached_at zero k below in_order = absurd (omega arith)
  reached_at (suc n) k below in_order = ⊎_elim
      (λ same. ([], sym same))
      (λ other.
      let (a, a_in, ends) = entered (slice_index order k) (ordered.part.range k in_order) other in
      let (j, before, at_j) = ordered.part.before k a in_order a_in ends in
      let (walk, walked) = reached_at n j (omega arith) (omega arith) in
      let more : IsWalk net.arcs net.start (walk ++ a ∷ []) (to_of net.arcs a) = IsWalk-push net.arcs net.start (slice_index order j) walk a walked a_in (sym at_j) in
      (walk ++ a ∷ [], subst (IsWalk net.arcs net.start (walk ++ a ∷ [])) ends more))
      (cases_eq (slice_index order k) net.start)

  -- by the places of the order from the back: a walk goes to the end
  reaches_at : (n k : ℕ) → length order ≤ k + n → k < length order → (walk : List ℕ) × IsWalk net.arcs (slice_index order k) walk net.end
  reaches_at zero k near in_order = absurd (omega arith)
  reaches_at (suc n) k near in_order = ⊎_elim
      (λ same. ([], same))
      (λ other.
      let (a, a_in, begins) = left (slice_index order k) (ordered.part.range k in_order) other in
      let (j, j_in, at_j) = stands_in_order net order ordered (to_of net.arcs a) (ranged.to_in a a_in) in
      let (i, before, at_i) = ordered.part.before j a j_in a_in (sym at_j) in
      let place : i ≡ k = same_place net order ordered.part i k (omega arith) in_order (at_i ∙ begins) in
      let (walk, walked) = reaches_at n j (omega arith) j_in in
      (a ∷ walk, (a_in, begins, subst (λ e. IsWalk net.arcs e walk net.end) at_j walked)))
      (cases_eq (slice_index order k) net.end)

  pub IsSound-from_order : (IsEntered net net.start → ⊥) → (IsLeft net net.end → ⊥) → IsSound net
  IsSound-from_order not_entered not_left = record {
    not_entered = not_entered;
    not_left = not_left;
    reached = λ e below.
        let (k, in_order, at) = stands_in_order net order ordered e below in
        let (walk, walked) = reached_at (suc k) k (omega arith) in_order in
        (walk, subst (IsWalk net.arcs net.start walk) at walked);
    reaches = λ e below.
        let (k, in_order, at) = stands_in_order net order ordered e below in
        let (walk, walked) = reaches_at (length order) k (omega arith) in_order in
        (walk, subst (λ x. IsWalk net.arcs x walk net.end) at walked);
    no_cycle = no_cycle_from_order net order ranged ordered;
  }

-- back from a missing event there are walks of every length
walk_back : (net : Network) (order : List ℕ) → IsInRange net → IsBlocked net order → (n v : ℕ) → v < net.events → IsNotInOrder order v →
    (e : ℕ) × (e < net.events) × ((walk : List ℕ) × (length walk ≡ n) × IsWalk net.arcs e walk v)
walk_back net order ranged blocked zero v known missing = (v, known, ([], refl, refl))
walk_back net order ranged blocked (suc n) v known missing =
    let (a, a_in, ends, before) = blocked v known missing in
    let (e, e_in, behind) = walk_back net order ranged blocked n (from_of net.arcs a) (ranged.from_in a a_in) before in
    let (walk, len, walked) = behind in
    let more : IsWalk net.arcs e (walk ++ a ∷ []) (to_of net.arcs a) = IsWalk-push net.arcs e (from_of net.arcs a) walk a walked a_in refl in
    (e, e_in, (walk ++ a ∷ [], omega (arith, length_push walk a), subst (IsWalk net.arcs e (walk ++ a ∷ [])) ends more))

-- where an event is missing from an order that is blocked, there is a cycle
pub cycle_from_blocked : (net : Network) (order : List ℕ) → IsInRange net → IsBlocked net order → length order < net.events → HasCycle net.arcs
cycle_from_blocked net order ranged blocked short =
    ⊎_elim (λ all. absurd (omega (arith, all_stand order net.events all)))
    (λ missing.
    let (e, e_in, behind) = walk_back net order ranged blocked net.events missing.0 missing.1 missing.2 in
    long_walk_has_cycle net ranged e missing.0 behind.0 behind.2 e_in (omega (arith, behind.1)))
    (stand_or_misses order net.events)
