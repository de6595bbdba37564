-- Over distinct events each activity is at most once among those that begin there, and over all events exactly once.
use Rattle.std.proofs.Common.{◌≡◌, ◌≢◌, ℕ, ◌+◌, ◌<◌, ◌≤◌, ◌==◌, if◌then◌else◌, zero, suc, List, [], ◌∷◌, length, slice_index, inl, inr, refl, ap, sym, subst, ◌∙◌, arith}
use Rattle.std.specs.Prelude.{sum_by}
use Rattle.std.proofs.lemmas.Bool.{cases_eq, eq-eqb, ne_eqb, cond-true, cond-false}
use Rattle.std.proofs.lemmas.List.Sums.{sum_by-cons}
use Rattle.pc_model.specs.Greatest.{places, StandsBelow}
use Rattle.pc_model.specs.Walk.{from_of, to_of}
use Rattle.pc_model.specs.Network.{Network, IsInRange, IsOrder}
use Rattle.pc_model.proofs.Walks.OrderLaws.{stands_in_order}
use Rattle.pc_net.specs.Networks.{events_from, events_to}
use Rattle.pc_net.specs.Degrees.{AreDistinct, degrees}
use Rattle.pc_net.specs.declared.graph.Side.TheVariants.{Begins, Ends}
use Rattle.pc_net.proofs.SideLaws.{events_of_at, length-events_of}

-- 1 where the event is y
one_at : ℕ → ℕ → ℕ
one_at y e = if y == e then 1 else 0

-- the places of an event in a longer list
places-length : (e i y : ℕ) (ys : List ℕ) → length (places e i (y ∷ ys)) ≡ one_at y e + length (places e (i + 1) ys)
unfolding one_at
places-length e i y ys =
    elim (cases_eq y e) [
      | inl is ↦ omega (
        arith,
        ap length (cond-true (y == e) (i ∷ places e (i + 1) ys) (places e (i + 1) ys) (eq-eqb y e is)),
        cond-true {A = ℕ} (y == e) 1 0 (eq-eqb y e is),
      )
      | inr isnt ↦ omega (
        arith,
        ap length (cond-false (y == e) (i ∷ places e (i + 1) ys) (places e (i + 1) ys) (ne_eqb y e isnt)),
        cond-false {A = ℕ} (y == e) 1 0 (ne_eqb y e isnt),
      )
    ]

-- over all the events of a list
split : (i y : ℕ) (ys events : List ℕ) →
    sum_by (λ e. length (places e i (y ∷ ys))) events ≡ sum_by (one_at y) events + sum_by (λ e. length (places e (i + 1) ys)) events
split i y ys [] = refl
split i y ys (e ∷ events) =
    omega (
      arith,
      sum_by-cons (λ e. length (places e i (y ∷ ys))) e events,
      sum_by-cons (one_at y) e events,
      sum_by-cons (λ e. length (places e (i + 1) ys)) e events,
      places-length e i y ys,
      split i y ys events,
    )

-- a list of distinct events without its first is one too
distinct-rest : (e : ℕ) (events : List ℕ) → AreDistinct (e ∷ events) → AreDistinct events
distinct-rest e events distinct j k earlier inside = distinct (suc j) (suc k) (omega arith) (omega arith)

-- an event that is nowhere in the list
ones-none : (y : ℕ) (events : List ℕ) → ((j : ℕ) → j < length events → slice_index events j ≢ y) → sum_by (one_at y) events ≡ 0
unfolding one_at
ones-none y [] none = refl
ones-none y (e ∷ events) none =
    omega (arith, sum_by-cons (one_at y) e events, cond-false {A = ℕ} (y == e) 1 0 (ne_eqb y e (λ is. none 0 (omega arith) (sym is))), ones-none y events (λ j inside. none (suc j) (omega arith)))

-- an event is at most once among distinct ones
ones-most : (y : ℕ) (events : List ℕ) → AreDistinct events → sum_by (one_at y) events ≤ 1
unfolding one_at
ones-most y [] distinct = omega arith
ones-most y (e ∷ events) distinct =
    elim (cases_eq y e) [
      | inl is ↦ omega (
        arith,
        sum_by-cons (one_at y) e events,
        cond-true {A = ℕ} (y == e) 1 0 (eq-eqb y e is),
        ones-none y events (λ j inside at. distinct 0 (suc j) (omega arith) (omega arith) (sym is ∙ sym at)),
      )
      | inr isnt ↦ omega (arith, sum_by-cons (one_at y) e events, cond-false {A = ℕ} (y == e) 1 0 (ne_eqb y e isnt), ones-most y events (distinct-rest e events distinct))
    ]

-- and one that is in the list is counted
ones-some : (y : ℕ) (events : List ℕ) (j : ℕ) → j < length events → slice_index events j ≡ y → 1 ≤ sum_by (one_at y) events
unfolding one_at
ones-some y [] j inside at = absurd (omega arith)
ones-some y (e ∷ events) zero inside at = omega (arith, sum_by-cons (one_at y) e events, cond-true {A = ℕ} (y == e) 1 0 (eq-eqb y e (sym at)))
ones-some y (e ∷ events) (suc j) inside at = omega (arith, sum_by-cons (one_at y) e events, ones-some y events j (omega arith) at)

-- distinct events have no more places than there are
pub places-most : (xs events : List ℕ) (i : ℕ) → AreDistinct events → sum_by (λ e. length (places e i xs)) events ≤ length xs
places-most [] events i distinct = omega (arith, empty events)
  where
    empty : (events : List ℕ) → sum_by (λ e. 0) events ≡ 0
    empty [] = refl
    empty (e ∷ events) = omega (arith, sum_by-cons (λ (e : ℕ). 0) e events, empty events)
places-most (y ∷ ys) events i distinct =
    omega (arith, split i y ys events, ones-most y events distinct, places-most ys events (i + 1) distinct)

-- events among which each place's is have all of them
pub places-all : (xs events : List ℕ) (i : ℕ) → ((k : ℕ) → k < length xs → StandsBelow events (length events) (slice_index xs k)) →
    length xs ≤ sum_by (λ e. length (places e i xs)) events
places-all [] events i each = omega arith
places-all (y ∷ ys) events i each =
    let stands = each 0 (omega arith) in
    omega (
      arith,
      split i y ys events,
      ones-some y events stands.0 stands.1 stands.2,
      places-all ys events (i + 1) (λ k inside. each (suc k) (omega arith)),
    )

-- so for the activities of a network
pub leave-most : (net : Network) (events : List ℕ) → AreDistinct events → degrees (events_from net.arcs) events ≤ length net.arcs
leave-most net events distinct = omega (arith, length-events_of Begins net.arcs, places-most (events_from net.arcs) events 0 distinct)

pub enter-most : (net : Network) (events : List ℕ) → AreDistinct events → degrees (events_to net.arcs) events ≤ length net.arcs
enter-most net events distinct = omega (arith, length-events_of Ends net.arcs, places-most (events_to net.arcs) events 0 distinct)

pub leave-all : (net : Network) (order : List ℕ) → IsInRange net → IsOrder net order → degrees (events_from net.arcs) order ≡ length net.arcs
leave-all net order range ordered =
    omega (
      arith,
      leave-most net order ordered.part.once,
      length-events_of Begins net.arcs,
      places-all (events_from net.arcs) order 0
          (λ k inside. subst (StandsBelow order (length order)) (sym (events_of_at Begins net.arcs k (omega (arith, length-events_of Begins net.arcs))))
          (stands_in_order net order ordered (from_of net.arcs k) (range.from_in k (omega (arith, length-events_of Begins net.arcs))))),
    )

pub enter-all : (net : Network) (order : List ℕ) → IsInRange net → IsOrder net order → degrees (events_to net.arcs) order ≡ length net.arcs
enter-all net order range ordered =
    omega (
      arith,
      enter-most net order ordered.part.once,
      length-events_of Ends net.arcs,
      places-all (events_to net.arcs) order 0
          (λ k inside. subst (StandsBelow order (length order)) (sym (events_of_at Ends net.arcs k (omega (arith, length-events_of Ends net.arcs))))
          (stands_in_order net order ordered (to_of net.arcs k) (range.to_in k (omega (arith, length-events_of Ends net.arcs))))),
    )
