-- Laws of a flow through a network: `along a` is the total flow along activity a.
use Rattle.std.proofs.Common.{◌≡◌, ◌==◌, ℕ, length, ◌+◌, ◌*◌, ◌<◌, ◌≤◌, Bool, true, false, not, ◌&&◌, if◌then◌else◌, ap, arith}
use Rattle.std.proofs.lemmas.Bool.{ne_eqb, cond-false}
use Rattle.std.proofs.Math.Nat.{add-mul, mul-le-mul_right}
use Rattle.pc_model.specs.Sums.{sum_to, at_event}
use Rattle.pc_model.specs.Walk.{from_of, to_of}
use Rattle.pc_model.specs.Network.{Network, IsInRange, IsSound}
use Rattle.pc_laws.specs.Flow.{inflow, outflow, IsConserved}
use Rattle.pc_model.proofs.Sums.{sum_to-zero, sum_to-add, sum_to-le, sum_to-same, sum_to-change_two, swap_sums}

-- nothing is put at an event where no activity is put
pub at_event-none : (m : ℕ) (place f : ℕ → ℕ) (e : ℕ) → ((a : ℕ) → a < m → place a ≡ e → ⊥) → at_event m place f e ≡ 0
at_event-none m place f e apart =
    sum_to-zero m (λ a. if place a == e then f a else 0) (λ a h. cond-false (place a == e) (f a) 0 (ne_eqb (place a) e (apart a h)))

-- an event's weight at a cut: 1 where it moves
abbrev weight : Bool → ℕ
weight moves = if moves then 1 else 0

-- along one activity, the weights at its two ends and its part in the cut's two directions
crosses : (f t : Bool) (along : ℕ) →
    weight t * along + (if f && not t then along else 0) ≡ weight f * along + (if not f && t then along else 0)
crosses true true along = omega arith
crosses true false along = omega arith
crosses false true along = omega arith
crosses false false along = omega arith

-- a sound network, and a flow that enters each event but the start and the end as it leaves it
module _ (net : Network) (along : ℕ → ℕ) (value : ℕ) (range : IsInRange net) (sound : IsSound net)
    (through : IsConserved net along) (leaves : outflow net along net.start ≡ value) where
  potential_into : (T : ℕ → ℕ) →
      sum_to (length net.arcs) (λ a. T (to_of net.arcs a) * along a) + T net.start * value
      ≡ sum_to (length net.arcs) (λ a. T (from_of net.arcs a) * along a) + T net.end * inflow net along net.end
  potential_into T =
      omega (
        arith,
        swap_sums net.events (length net.arcs) T along (to_of net.arcs) range.to_in,
        swap_sums net.events (length net.arcs) T along (from_of net.arcs) range.from_in,
        sum_to-change_two net.events (λ e. T e * inflow net along e) (λ e. T e * outflow net along e)
            net.start net.end range.start_in range.end_in range.apart
            (λ e inside s t. ap (λ x. T e * x) (through e inside s t)),
        ap (λ x. T net.start * x) (at_event-none (length net.arcs) (to_of net.arcs) along net.start (λ a h e. sound.not_entered (a, h, e))),
        ap (λ x. T net.start * x) leaves,
        ap (λ x. T net.end * x) (at_event-none (length net.arcs) (from_of net.arcs) along net.end (λ a h e. sound.not_left (a, h, e))),
      )

  -- what enters the end is the value
  pub value_in : inflow net along net.end ≡ value
  value_in = omega (arith, potential_into (λ e. 1))

  -- weighted by numbers at the events, what the activities bring exceeds what they take as the end exceeds the start
  pub potential : (T : ℕ → ℕ) →
      sum_to (length net.arcs) (λ a. T (to_of net.arcs a) * along a) + T net.start * value
      ≡ sum_to (length net.arcs) (λ a. T (from_of net.arcs a) * along a) + T net.end * value
  potential T = omega (arith, potential_into T, ap (λ x. T net.end * x) value_in)

  -- weak duality: where no activity asks more than its cost and its duration times its flow, and the durations fit
  -- the times, all together ask no more than all costs and the end's time times the value
  pub asked_at_most : (T d asks costs : ℕ → ℕ) → T net.start ≡ 0 →
      ((a : ℕ) → a < length net.arcs → T (from_of net.arcs a) + d a ≤ T (to_of net.arcs a)) →
      ((a : ℕ) → a < length net.arcs → asks a ≤ costs a + d a * along a) →
      sum_to (length net.arcs) asks ≤ sum_to (length net.arcs) costs + T net.end * value
  asked_at_most T d asks costs starts fits each =
      omega (
        arith,
        sum_to-le (length net.arcs) (λ a. asks a + T (from_of net.arcs a) * along a) (λ a. costs a + T (to_of net.arcs a) * along a)
            (λ a h. omega (arith, each a h, mul-le-mul_right (along a) (fits a h), add-mul (T (from_of net.arcs a)) (d a) (along a))),
        sum_to-add (length net.arcs) asks (λ a. T (from_of net.arcs a) * along a),
        sum_to-add (length net.arcs) costs (λ a. T (to_of net.arcs a) * along a),
        potential T,
        ap (λ x. x * value) starts,
      )

  -- complementary slackness: where each asks exactly that, and flows only where its duration spans its gap, they are equal
  pub asked_exactly : (T d asks costs : ℕ → ℕ) → T net.start ≡ 0 →
      ((a : ℕ) → a < length net.arcs → T (from_of net.arcs a) * along a + d a * along a ≡ T (to_of net.arcs a) * along a) →
      ((a : ℕ) → a < length net.arcs → asks a ≡ costs a + d a * along a) →
      sum_to (length net.arcs) asks ≡ sum_to (length net.arcs) costs + T net.end * value
  asked_exactly T d asks costs starts spans each =
      omega (
        arith,
        sum_to-same (length net.arcs) (λ a. asks a + T (from_of net.arcs a) * along a) (λ a. costs a + T (to_of net.arcs a) * along a)
            (λ a h. omega (arith, each a h, spans a h)),
        sum_to-add (length net.arcs) asks (λ a. T (from_of net.arcs a) * along a),
        sum_to-add (length net.arcs) costs (λ a. T (to_of net.arcs a) * along a),
        potential T,
        ap (λ x. x * value) starts,
      )

  -- across a cut between the start and the end, what flows forward exceeds what flows backward by the value
  pub crossing : (moves : ℕ → Bool) → moves net.start ≡ false → moves net.end ≡ true →
      sum_to (length net.arcs) (λ a. if not (moves (from_of net.arcs a)) && moves (to_of net.arcs a) then along a else 0)
      ≡ sum_to (length net.arcs) (λ a. if moves (from_of net.arcs a) && not (moves (to_of net.arcs a)) then along a else 0) + value
  crossing moves start_rests end_moves =
      omega (
        arith,
        sum_to-same (length net.arcs)
            (λ a. weight (moves (to_of net.arcs a)) * along a + (if moves (from_of net.arcs a) && not (moves (to_of net.arcs a)) then along a else 0))
            (λ a. weight (moves (from_of net.arcs a)) * along a + (if not (moves (from_of net.arcs a)) && moves (to_of net.arcs a) then along a else 0))
            (λ a h. crosses (moves (from_of net.arcs a)) (moves (to_of net.arcs a)) (along a)),
        sum_to-add (length net.arcs) (λ a. weight (moves (to_of net.arcs a)) * along a) (λ a. if moves (from_of net.arcs a) && not (moves (to_of net.arcs a)) then along a else 0),
        sum_to-add (length net.arcs) (λ a. weight (moves (from_of net.arcs a)) * along a) (λ a. if not (moves (from_of net.arcs a)) && moves (to_of net.arcs a) then along a else 0),
        potential (λ e. weight (moves e)),
        ap (λ b. weight b * value) start_rests,
        ap (λ b. weight b * value) end_moves,
      )
