-- The state between two labellings, with one total flow per activity, and its two next steps. A solver keeps only this
-- flow: the flow on each knee follows from it, filled in the order of the knees.
use Rattle.std.specs.Prelude.{◌≡◌, ℕ, ◌+◌, ◌-◌, ◌<◌, ◌≤◌, ◌⊎◌, Bool, true, false, List, length}
use Rattle.pc_model.specs.declared.Term.{Term}
use Rattle.pc_model.specs.Walk.{from_of, to_of}
use Rattle.pc_model.specs.Network.{Network}
use Rattle.pc_model.specs.Schedule.{gap_of}
use Rattle.pc_model.specs.Cost.{Knees}
use Rattle.pc_laws.specs.Flow.{outflow, IsConserved}
use Rattle.pc_laws.specs.Segment.{is_forward, is_backward}
use Rattle.pc_laws.specs.State.{State, IsPart}
use Rattle.pc_laws.specs.Stair.{stair_of, unit_length, IsOnStair, knee_flow, crash_flow}

-- the length of the arc on which the next unit of activity a runs
abbrev pub next_unit : List Term → Knees → (ℕ → ℕ) → ℕ → ℕ
next_unit terms knees along a = unit_length (stair_of terms knees a) (along a)

-- and of the arc on which its last unit runs
abbrev pub last_unit : List Term → Knees → (ℕ → ℕ) → ℕ → ℕ
last_unit terms knees along a = unit_length (stair_of terms knees a) (along a - 1)

-- what holds between two labellings: the times are 0 at the start and the present length at the end, no activity ends
-- before it begins, its flow fits its gap, what enters an event but the start and the end leaves it, and the value
-- leaves the start
pub record IsStairOptimal (net : Network) (terms : List Term) (knees : Knees) (limit : ℕ) (time along : ℕ → ℕ) (value : ℕ) : Type 0 where
  pub starts : time net.start ≡ 0
  pub ends : time net.end ≡ limit
  pub ahead : (a : ℕ) → a < length net.arcs → time (from_of net.arcs a) ≤ time (to_of net.arcs a)
  pub on_stair : (a : ℕ) → a < length net.arcs → IsOnStair (stair_of terms knees a) (gap_of net.arcs time a) (along a)
  pub conserved : IsConserved net along
  pub leaves : outflow net along net.start ≡ value

-- the state with these flows filled in at the knees
abbrev pub filled_state : List Term → Knees → ℕ → (ℕ → ℕ) → (ℕ → ℕ) → ℕ → State
filled_state terms knees limit time along value = record {
  limit = limit;
  time = time;
  flow = λ a. knee_flow (stair_of terms knees a) (along a);
  beside = λ a. crash_flow (stair_of terms knees a) (along a);
  value = value;
}

-- The next step if the labels reach the end

-- an augmentation by `room`, walked back from the end to event x: the flows are the earlier ones with `room` more from
-- x to the end, and each fits its gap
pub record IsStairRaising (net : Network) (terms : List Term) (knees : Knees) (time along now : ℕ → ℕ) (x room : ℕ) : Type 0 where
  pub part : IsPart net along now x room
  pub fits : (a : ℕ) → a < length net.arcs → IsOnStair (stair_of terms knees a) (gap_of net.arcs time a) (now a)

-- The next step if they do not

-- the labels cannot grow: the start rests and the end moves, the next unit of each forward activity has an arc shorter
-- than the gap, and the last unit of each backward one an arc longer than it
pub record IsStairStuck (net : Network) (terms : List Term) (knees : Knees) (time along : ℕ → ℕ) (moves : ℕ → Bool) : Type 0 where
  pub start_rests : moves net.start ≡ false
  pub end_moves : moves net.end ≡ true
  pub forward : (a : ℕ) → a < length net.arcs → is_forward net.arcs moves a ≡ true →
      next_unit terms knees along a < gap_of net.arcs time a
  pub backward : (a : ℕ) → a < length net.arcs → is_backward net.arcs moves a ≡ true → 0 < along a →
      gap_of net.arcs time a < last_unit terms knees along a

-- activity a is forward, and its gap is as long as its next unit's arc when the moving events have fallen by n
pub record StopsForward (net : Network) (terms : List Term) (knees : Knees) (time along : ℕ → ℕ) (moves : ℕ → Bool) (a n : ℕ) : Type 0 where
  pub forward : is_forward net.arcs moves a ≡ true
  pub meets : next_unit terms knees along a + n ≡ gap_of net.arcs time a

-- activity a is backward, something flows along it, and its gap is as long as its last unit's arc when the moving events
-- have fallen by n
pub record StopsBackward (net : Network) (terms : List Term) (knees : Knees) (time along : ℕ → ℕ) (moves : ℕ → Bool) (a n : ℕ) : Type 0 where
  pub backward : is_backward net.arcs moves a ≡ true
  pub some : 0 < along a
  pub meets : gap_of net.arcs time a + n ≡ last_unit terms knees along a

-- some activity stops when the moving events have fallen by n
abbrev pub HasStop : Network → List Term → Knees → (ℕ → ℕ) → (ℕ → ℕ) → (ℕ → Bool) → ℕ → Type 0
HasStop net terms knees time along moves n =
    (a : ℕ) × (a < length net.arcs)
    × (StopsForward net terms knees time along moves a n ⊎ StopsBackward net terms knees time along moves a n)

-- none stops before the moving events have fallen by n
pub record HasNoStopBefore (net : Network) (terms : List Term) (knees : Knees) (time along : ℕ → ℕ) (moves : ℕ → Bool) (n : ℕ) : Type 0 where
  pub forward : (a : ℕ) → a < length net.arcs → is_forward net.arcs moves a ≡ true →
      next_unit terms knees along a + n ≤ gap_of net.arcs time a
  pub backward : (a : ℕ) → a < length net.arcs → is_backward net.arcs moves a ≡ true → 0 < along a →
      gap_of net.arcs time a + n ≤ last_unit terms knees along a

-- labels that cannot grow, with the step of the times from there: the least number of units after which an activity
-- stops
pub record IsStairFall (net : Network) (terms : List Term) (knees : Knees) (time along : ℕ → ℕ) (moves : ℕ → Bool) (fall : ℕ) : Type 0 where
  pub stuck : IsStairStuck net terms knees time along moves
  pub stops : HasStop net terms knees time along moves fall
  pub least : HasNoStopBefore net terms knees time along moves fall
