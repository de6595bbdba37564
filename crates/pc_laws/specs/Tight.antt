-- Complementary slackness: flows that fit the gaps of the activities.
--
-- A gap has two sides, so that none is cut off at 0: it is its head less its tail.
use Rattle.std.specs.Prelude.{◌≡◌, ℕ, ◌+◌, ◌<◌, ◌≤◌, List, length}
use Rattle.pc_model.specs.declared.Term.{Term}
use Rattle.pc_model.specs.Walk.{from_of, to_of}
use Rattle.pc_model.specs.Network.{Network}
use Rattle.pc_model.specs.Schedule.{crash_of}
use Rattle.pc_model.specs.Cost.{Knees}

-- the gap is at least activity a's crash duration
abbrev pub HasRoom : List Term → ℕ → ℕ → ℕ → Type 0
HasRoom terms a tail head = tail + crash_of terms a ≤ head

-- at one knee: if the gap is above it the flow is 0, and if it is below it the flow is the rise
pub record IsSlackAtKnee (tail head knee rise flow : ℕ) : Type 0 where
  pub above : tail + knee < head → flow ≡ 0
  pub below : head < tail + knee → flow ≡ rise

-- the flows of activity a fit its gap: at each knee, and if the gap is above crash there is no flow on the crash
-- duration
pub record IsSlack (terms : List Term) (knees : Knees) (a tail head : ℕ) (flow : ℕ → ℕ) (beside : ℕ) : Type 0 where
  pub at_knees : (k : ℕ) → k < knees.count a → IsSlackAtKnee tail head (knees.knee a k) (knees.rise a k) (flow k)
  pub above_crash : tail + crash_of terms a < head → beside ≡ 0

-- activity a is tight: its gap is at least crash, and its flows fit the gap
pub record IsTight (terms : List Term) (knees : Knees) (a tail head : ℕ) (flow : ℕ → ℕ) (beside : ℕ) : Type 0 where
  pub room : HasRoom terms a tail head
  pub slack : IsSlack terms knees a tail head flow beside

-- times that are 0 at the start, and between which each activity is tight
pub record AreTight (net : Network) (terms : List Term) (knees : Knees) (flow : ℕ → ℕ → ℕ) (beside times : ℕ → ℕ) : Type 0 where
  pub starts : times net.start ≡ 0
  pub tight : (a : ℕ) → a < length net.arcs →
      IsTight terms knees a (times (from_of net.arcs a)) (times (to_of net.arcs a)) (flow a) (beside a)
