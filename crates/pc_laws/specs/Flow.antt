-- Flows through a network, and the lower bound that a flow gives for the cost of every schedule.
--
-- An activity has a flow for each of its knees and one on its crash duration: `flow a k` and `beside a`.
use Rattle.std.specs.Prelude.{◌≡◌, ◌≢◌, ℕ, ℤ, pos, ◌-ℤ◌, ◌+◌, ◌*◌, ◌<◌, ◌≤◌, List, length}
use Rattle.pc_model.specs.declared.Term.{Term}
use Rattle.pc_model.specs.Sums.{sum_to, at_event}
use Rattle.pc_model.specs.Walk.{from_of, to_of}
use Rattle.pc_model.specs.Network.{Network}
use Rattle.pc_model.specs.Schedule.{crash_of, base_cost_of}
use Rattle.pc_model.specs.Cost.{Knees}

-- the total flow along activity a: at each knee on an arc of the knee's duration, and the rest on an arc of its crash
-- duration
abbrev pub whole_flow : Knees → (ℕ → ℕ → ℕ) → (ℕ → ℕ) → ℕ → ℕ
whole_flow knees flow beside a = sum_to (knees.count a) (flow a) + beside a

-- the flow that enters event e
abbrev pub inflow : Network → (ℕ → ℕ) → ℕ → ℕ
inflow net along e = at_event (length net.arcs) (to_of net.arcs) along e

-- the flow that leaves event e
abbrev pub outflow : Network → (ℕ → ℕ) → ℕ → ℕ
outflow net along e = at_event (length net.arcs) (from_of net.arcs) along e

-- at each event but the start and the end, what enters equals what leaves
abbrev pub IsConserved : Network → (ℕ → ℕ) → Type 0
IsConserved net along =
    (e : ℕ) → e < net.events → e ≢ net.start → e ≢ net.end → inflow net along e ≡ outflow net along e

-- a flow of this value: at most the rise at each knee, and unbounded on the crash duration; at each event except the
-- start and the end, as much leaves as enters; and the value leaves the start
pub record IsFlow (net : Network) (knees : Knees) (flow : ℕ → ℕ → ℕ) (beside : ℕ → ℕ) (value : ℕ) : Type 0 where
  pub capacity : (a k : ℕ) → a < length net.arcs → k < knees.count a → flow a k ≤ knees.rise a k
  pub conserved : IsConserved net (whole_flow knees flow beside)
  pub leaves : outflow net (whole_flow knees flow beside) net.start ≡ value

-- what activity a adds to the bound of a flow: its cost at its normal duration, each knee times the flow there, and its
-- crash duration times the flow on that
abbrev pub promise_of : List Term → Knees → (ℕ → ℕ → ℕ) → (ℕ → ℕ) → ℕ → ℕ
promise_of terms knees flow beside a =
    base_cost_of terms a + (sum_to (knees.count a) (λ k. knees.knee a k * flow a k) + crash_of terms a * beside a)

-- what a flow promises
abbrev pub promise : List Term → Knees → (ℕ → ℕ → ℕ) → (ℕ → ℕ) → ℕ
promise terms knees flow beside = sum_to (length terms) (promise_of terms knees flow beside)

-- the bound of a flow at a length: what it promises less the length times its value
abbrev pub bound_of : List Term → Knees → (ℕ → ℕ → ℕ) → (ℕ → ℕ) → ℕ → ℕ → ℤ
bound_of terms knees flow beside value limit = pos (promise terms knees flow beside) -ℤ pos (limit * value)
