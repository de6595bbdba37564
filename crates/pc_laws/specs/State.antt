-- The state between two labellings of the events, what remains true of it, and its two next steps: an augmentation of
-- the flow if the labels reach the end, and a shortening of the length if they do not.
use Rattle.std.specs.Prelude.{◌≡◌, ◌≢◌, ◌==◌, if◌then◌else◌, ℕ, ◌+◌, ◌-◌, ◌<◌, ◌≤◌, ◌⊎◌, Bool, true, false, List, length}
use Rattle.pc_model.specs.declared.Term.{Term}
use Rattle.pc_model.specs.Walk.{from_of, to_of}
use Rattle.pc_model.specs.Network.{Network}
use Rattle.pc_model.specs.Schedule.{crash_of, lesser_of}
use Rattle.pc_model.specs.Cost.{Knees, cost_of}
use Rattle.pc_laws.specs.Flow.{whole_flow, inflow, outflow, IsFlow}
use Rattle.pc_laws.specs.Tight.{AreTight}
use Rattle.pc_laws.specs.Segment.{Segment, fall_of, is_forward, is_backward}

-- the present length, a time for each event, a flow at each knee of each activity and one on its crash duration, and
-- the value of the total flow
pub record State : Type 0 where
  pub limit : ℕ
  pub time : ℕ → ℕ
  pub flow : ℕ → ℕ → ℕ
  pub beside : ℕ → ℕ
  pub value : ℕ

-- what holds between two labellings: the times are 0 at the start and the present length at the end, the flow has its
-- value, and each activity's gap is at least crash and fits its flows
pub record IsOptimal (net : Network) (terms : List Term) (knees : Knees) (st : State) : Type 0 where
  pub tight : AreTight net terms knees st.flow st.beside st.time
  pub ends : st.time net.end ≡ st.limit
  pub flow : IsFlow net knees st.flow st.beside st.value

-- the state with this length and these times in which nothing flows
abbrev pub opening : ℕ → (ℕ → ℕ) → State
opening limit times = record { limit = limit; time = times; flow = λ a k. 0; beside = λ a. 0; value = 0 }

-- no event moves
abbrev pub rests : ℕ → Bool
rests e = false

-- Where more or less can flow

-- the gap of activity a is its k-th knee
abbrev pub IsAtKnee : Network → Knees → (ℕ → ℕ) → ℕ → ℕ → Type 0
IsAtKnee net knees time a k = time (from_of net.arcs a) + knees.knee a k ≡ time (to_of net.arcs a)

-- the gap of activity a is its crash duration
abbrev pub IsAtCrash : Network → List Term → (ℕ → ℕ) → ℕ → Type 0
IsAtCrash net terms time a = time (from_of net.arcs a) + crash_of terms a ≡ time (to_of net.arcs a)

-- more can flow along activity a: its gap is a knee at which the flow is below the rise, or its gap is crash
abbrev pub CanRaise : Network → List Term → Knees → State → ℕ → Type 0
CanRaise net terms knees st a =
    ((k : ℕ) × (k < knees.count a) × IsAtKnee net knees st.time a k × (st.flow a k < knees.rise a k))
    ⊎ IsAtCrash net terms st.time a

-- less can flow along activity a: its gap is a knee with some flow, or its gap is crash and there is some flow on the
-- crash duration
abbrev pub CanLower : Network → List Term → Knees → State → ℕ → Type 0
CanLower net terms knees st a =
    ((k : ℕ) × (k < knees.count a) × IsAtKnee net knees st.time a k × (0 < st.flow a k))
    ⊎ (IsAtCrash net terms st.time a × (0 < st.beside a))

-- The next step if the labels reach the end

-- the flow `now` is the flow `old` with `room` more from event x to the end: what enters an event less what leaves it
-- is `room` more at the end, `room` less at x, and the same at each other event
abbrev pub IsPart : Network → (ℕ → ℕ) → (ℕ → ℕ) → ℕ → ℕ → Type 0
IsPart net old now x room =
    (e : ℕ) → e < net.events →
    inflow net now e + outflow net old e + (if x == e then room else 0)
    ≡ outflow net now e + inflow net old e + (if net.end == e then room else 0)

-- an augmentation by `room`, walked back from the end to event x: the flows are those of the state with `room` more
-- from x to the end, each stays within the rise, and a flow differs only if the gap is its knee
pub record IsRaising (net : Network) (terms : List Term) (knees : Knees) (st : State) (flow : ℕ → ℕ → ℕ) (beside : ℕ → ℕ) (x room : ℕ) : Type 0 where
  pub part : IsPart net (whole_flow knees st.flow st.beside) (whole_flow knees flow beside) x room
  pub capacity : (a k : ℕ) → a < length net.arcs → k < knees.count a → flow a k ≤ knees.rise a k
  pub at_knee : (a k : ℕ) → a < length net.arcs → k < knees.count a → (flow a k ≡ st.flow a k) ⊎ IsAtKnee net knees st.time a k
  pub at_crash : (a : ℕ) → a < length net.arcs → (beside a ≡ st.beside a) ⊎ IsAtCrash net terms st.time a

-- a step changes only the flows of activity a: each to at most the rise, and only if the gap is its knee
pub record IsStep (net : Network) (terms : List Term) (knees : Knees) (st : State) (flow next_flow : ℕ → ℕ → ℕ) (beside next_beside : ℕ → ℕ) (a : ℕ) : Type 0 where
  pub capacity : (k : ℕ) → k < knees.count a → next_flow a k ≤ knees.rise a k
  pub at_knee : (k : ℕ) → k < knees.count a → (next_flow a k ≡ flow a k) ⊎ IsAtKnee net knees st.time a k
  pub at_crash : (next_beside a ≡ beside a) ⊎ IsAtCrash net terms st.time a
  pub others : (b k : ℕ) → b < length net.arcs → b ≢ a → k < knees.count b → flow b k ≡ next_flow b k
  pub others_beside : (b : ℕ) → b < length net.arcs → b ≢ a → beside b ≡ next_beside b

-- the state with the raised flows
abbrev pub augmented : State → (ℕ → ℕ → ℕ) → (ℕ → ℕ) → ℕ → State
augmented st flow beside room =
    record { limit = st.limit; time = st.time; flow = flow; beside = beside; value = st.value + room }

-- The next step if they do not

-- the labels cannot grow: the start has one and the end has none, so that the start rests and the end moves, and no
-- step with residual capacity leads from a resting to a moving event
pub record IsStuck (net : Network) (terms : List Term) (knees : Knees) (st : State) (moves : ℕ → Bool) : Type 0 where
  pub start_rests : moves net.start ≡ false
  pub end_moves : moves net.end ≡ true
  pub forward : (a : ℕ) → a < length net.arcs → is_forward net.arcs moves a ≡ true → CanRaise net terms knees st a → ⊥
  pub backward : (a : ℕ) → a < length net.arcs → is_backward net.arcs moves a ≡ true → CanLower net terms knees st a → ⊥

-- activity a is forward, and its gap is crash when the moving events have fallen by n
pub record CrashesAfter (net : Network) (terms : List Term) (time : ℕ → ℕ) (moves : ℕ → Bool) (a n : ℕ) : Type 0 where
  pub forward : is_forward net.arcs moves a ≡ true
  pub at_crash : time (from_of net.arcs a) + crash_of terms a + n ≡ time (to_of net.arcs a)

-- activity a is forward, its slope rises below its k-th knee, and its gap, now above it, is at it when the moving
-- events have fallen by n
pub record FallsToKneeAfter (net : Network) (knees : Knees) (time : ℕ → ℕ) (moves : ℕ → Bool) (a k n : ℕ) : Type 0 where
  pub forward : is_forward net.arcs moves a ≡ true
  pub dear : 0 < knees.rise a k
  pub above : 0 < n
  pub at_knee : time (from_of net.arcs a) + knees.knee a k + n ≡ time (to_of net.arcs a)

-- activity a is backward, its slope rises below its k-th knee, and its gap, now below it, is at it when the moving
-- events have fallen by n
pub record RisesToKneeAfter (net : Network) (knees : Knees) (time : ℕ → ℕ) (moves : ℕ → Bool) (a k n : ℕ) : Type 0 where
  pub backward : is_backward net.arcs moves a ≡ true
  pub dear : 0 < knees.rise a k
  pub below : 0 < n
  pub at_knee : time (from_of net.arcs a) + knees.knee a k ≡ time (to_of net.arcs a) + n

-- activity a stops when the moving events have fallen by n
abbrev pub StopsAfter : Network → List Term → Knees → (ℕ → ℕ) → (ℕ → Bool) → ℕ → ℕ → Type 0
StopsAfter net terms knees time moves a n =
    CrashesAfter net terms time moves a n
    ⊎ ((k : ℕ) × (k < knees.count a) × (FallsToKneeAfter net knees time moves a k n ⊎ RisesToKneeAfter net knees time moves a k n))

-- labels that cannot grow, with the step of the times from there: the least number of units after which an activity
-- stops
pub record IsFall (net : Network) (terms : List Term) (knees : Knees) (st : State) (moves : ℕ → Bool) (fall : ℕ) : Type 0 where
  pub stuck : IsStuck net terms knees st moves
  pub stops : (a : ℕ) × (a < length net.arcs) × StopsAfter net terms knees st.time moves a fall
  pub least : (a n : ℕ) → a < length net.arcs → StopsAfter net terms knees st.time moves a n → fall ≤ n

-- the segment from the present length down to the one at which the fall ends
abbrev pub segment_of : Network → List Term → Knees → State → (ℕ → Bool) → ℕ → Segment
segment_of net terms knees st moves fall = record {
  upper = st.limit;
  lower = st.limit - fall;
  cost = cost_of terms knees (lesser_of net terms st.time);
  slope = st.value;
  time = st.time;
  moves = moves;
  duration = lesser_of net terms st.time;
  flow = st.flow;
  beside = st.beside;
}

-- the state after the fall
abbrev pub fallen : State → (ℕ → Bool) → ℕ → State
fallen st moves fall = record {
  limit = st.limit - fall;
  time = λ e. st.time e - fall_of moves fall e;
  flow = st.flow;
  beside = st.beside;
  value = st.value;
}
