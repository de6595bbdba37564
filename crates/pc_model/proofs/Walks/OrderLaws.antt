-- What an order of the events says of walks: the places rise along a walk, so no walk is longer than the order
-- and none comes back to where it began.
use Rattle.std.proofs.Common.{◌≡◌, ◌≢◌, ℕ, ◌+◌, ◌<◌, ◌≤◌, zero, suc, List, [], ◌∷◌, length, slice_index, nat_eq, true, refl, sym, ◌∙◌, ap, ◌⊎◌, inl, inr, ⊎_elim, arith}
use Rattle.std.specs.List.{IsDistinct, range_with_len}
use Rattle.std.specs.Set.{is_member}
use Rattle.std.specs.Cmp.{unsigned_Decides}
use Rattle.std.proofs.lemmas.Bool.{cases_eq, cases_lt, ne_eqb}
use Rattle.std.proofs.lemmas.Cmp.{nat_eq_equiv}
use Rattle.std.proofs.lemmas.List.{get_or_default}
use Rattle.std.proofs.lemmas.List.FromFn.{length-range_with_len, get_or-range_with_len}
use Rattle.std.proofs.lemmas.Map.Keys.{IsDistinct-from_apart}
use Rattle.std.proofs.lemmas.Map.Made.{is_member-Decides, length-le_from_is_member}
use Rattle.pc_model.specs.Greatest.{StandsBelow}
use Rattle.pc_model.specs.Walk.{to_of, IsWalk, IsCycle}
use Rattle.pc_model.specs.Network.{Network, IsInRange, IsPartOrder, IsOrder}

-- a number is among the first n of a list, or it is not
pub stands_or_not : (xs : List ℕ) (n v : ℕ) → StandsBelow xs n v ⊎ ((j : ℕ) → j < n → slice_index xs j ≢ v)
stands_or_not xs zero v = inr (λ j below. absurd (omega arith))
stands_or_not xs (suc n) v =
    ⊎_elim (λ s. inl (s.0, omega (arith, s.1), s.2))
    (λ none. ⊎_elim (λ is. inl (n, omega arith, is))
    (λ isnt. inr (λ j below. ⊎_elim (λ same. λ is. isnt (ap (slice_index xs) (sym same) ∙ is)) (λ other. none j (omega arith)) (cases_eq j n)))
    (cases_eq (slice_index xs n) v))
    (stands_or_not xs n v)

-- different numbers below n are at most n
pub room_below : (xs : List ℕ) (n : ℕ) → ((k : ℕ) → k < length xs → slice_index xs k < n) → ((j k : ℕ) → j < k → k < length xs → slice_index xs j ≢ slice_index xs k) → length xs ≤ n
room_below xs n below once =
    omega (arith, length-range_with_len 0 n, length-le_from_is_member nat_eq_equiv xs (range_with_len 0 n) apart within)
  where
    apart : IsDistinct nat_eq xs
    apart = IsDistinct-from_apart nat_eq xs
        (λ i j d before in_list. ne_eqb _ _
        (λ same. once i j before in_list (sym (get_or_default xs i d 0 (omega arith)) ∙ same ∙ get_or_default xs j d 0 in_list)))

    within : (q : ℕ) → is_member nat_eq xs q ≡ true → is_member nat_eq (range_with_len 0 n) q ≡ true
    within q is =
        let (k, in_list, at) = (is_member-Decides unsigned_Decides xs q).0 is in
        let small : q < n = omega (arith, below k in_list, at, get_or_default xs k q 0 in_list) in
        (is_member-Decides unsigned_Decides (range_with_len 0 n) q).1 (q, omega (arith, length-range_with_len 0 n), omega (arith, get_or-range_with_len 0 n q q small))

-- each event is in an order of all events
pub stands_in_order : (net : Network) (order : List ℕ) → IsOrder net order → (e : ℕ) → e < net.events → StandsBelow order (length order) e
stands_in_order net order ordered e below =
    ⊎_elim (λ s. s) (λ none. absurd (too_many none)) (stands_or_not order (length order) e)
  where
    too_many : ((j : ℕ) → j < length order → slice_index order j ≢ e) → ⊥
    too_many none = omega (arith, ordered.whole, room_below (e ∷ order) net.events small once)
      where
        small : (k : ℕ) → k < length (e ∷ order) → slice_index (e ∷ order) k < net.events
        small zero in_list = below
        small (suc k) in_list = ordered.part.range k (omega arith)

        once : (j k : ℕ) → j < k → k < length (e ∷ order) → slice_index (e ∷ order) j ≢ slice_index (e ∷ order) k
        once zero zero before in_list = absurd (omega arith)
        once zero (suc k) before in_list = λ same. none k (omega arith) (sym same)
        once (suc j) zero before in_list = absurd (omega arith)
        once (suc j) (suc k) before in_list = ordered.part.once j k (omega arith) (omega arith)

-- along a walk that ends at place k of an order the places rise, by one at least for each activity
pub places_rise : (net : Network) (order : List ℕ) → IsPartOrder net order → (e f k : ℕ) (walk : List ℕ) → IsWalk net.arcs e walk f →
    k < length order → slice_index order k ≡ f → (j : ℕ) × (j + length walk ≤ k) × (slice_index order j ≡ e)
places_rise net order part e f k [] walked in_order at = (k, omega arith, at ∙ sym walked)
places_rise net order part e f k (a ∷ walk) walked in_order at =
    let (i, rises, at_i) = places_rise net order part (to_of net.arcs a) f k walk walked.2 in_order at in
    let (j, before, at_j) = part.before i a (omega arith) walked.0 (sym at_i) in
    (j, omega arith, at_j ∙ walked.1)

-- a walk that ends at an event has fewer activities than there are events
pub walk_is_short : (net : Network) (order : List ℕ) → IsOrder net order → (e f : ℕ) (walk : List ℕ) → IsWalk net.arcs e walk f → f < net.events → length walk < net.events
walk_is_short net order ordered e f walk walked below =
    let (k, in_order, at) = stands_in_order net order ordered f below in
    let (j, rises, at_j) = places_rise net order ordered.part e f k walk walked in_order at in
    omega (arith, ordered.whole)

-- no event is at two places of an order
pub same_place : (net : Network) (order : List ℕ) → IsPartOrder net order → (j k : ℕ) → j < length order → k < length order → slice_index order j ≡ slice_index order k → j ≡ k
same_place net order part j k j_in k_in same =
    ⊎_elim (λ s. s) (λ other. absurd (⊎_elim (λ lt. part.once j k lt k_in same) (λ gt. part.once k j (omega arith) j_in (sym same)) (cases_lt j k))) (cases_eq j k)

-- events that have an order have no cycle
pub no_cycle_from_order : (net : Network) (order : List ℕ) → IsInRange net → IsOrder net order → (walk : List ℕ) → IsCycle net.arcs walk → ⊥
no_cycle_from_order net order ranged ordered [] cycle = cycle.0 refl
no_cycle_from_order net order ranged ordered (a ∷ walk) cycle =
    let (e, walked) = cycle.1 in
    let below : e < net.events = omega (arith, ranged.from_in a walked.0, walked.1) in
    let (k, in_order, at) = stands_in_order net order ordered e below in
    let (j, rises, at_j) = places_rise net order ordered.part e e k (a ∷ walk) walked in_order at in
    omega (arith, same_place net order ordered.part j k (omega arith) in_order (at_j ∙ sym at))
