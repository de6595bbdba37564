-- The search for steps with residual capacity on the board of a priced network.
use Rattle.std.specs.Prelude.{◌≡◌, ℕ, ◌+◌, ◌-◌, ◌^◌, ◌<◌, ◌≤◌, Option, Some, None, List, length}
use Rattle.pc_model.specs.declared.limits.TheConstants.{MAX_ACTIVITIES}
use Rattle.pc_model.specs.Walk.{from_of, to_of}
use Rattle.pc_model.specs.Network.{IsInRange}
use Rattle.pc_model.specs.declared.Knee.{Knee}
use Rattle.pc_model.specs.Schedule.{crash_of, gap_of}
use Rattle.pc_laws.specs.Stair.{Stair, IsFalling, stair_of, full_reach, unit_length, IsOnStair}
use Rattle.pc_crash.specs.inside.KneeLists.{AreKneesOf}
use Rattle.pc_crash.specs.Priced.{PricedNetwork, knees_in}
use Rattle.pc_flow.specs.board.Sheets.{Sheet, time_of, rank_of, flow_of}
use Rattle.pc_flow.specs.inside.board.Sheets.{queue_of, step_of, against_of, room_of, waiting_of, slot_of, up_of, down_of}
use Rattle.pc_flow.specs.inside.board.Moves.{with_labels}
use Rattle.pc_flow.specs.inside.board.Labelling.{HasStep, IsRanked, IsRankedBack, HaveSteps, HaveRoom, AreStoredTimes, IsFor, AreJoined}
use Rattle.pc_flow.specs.declared.search.way.Way.{Way}
use Rattle.pc_flow.specs.inside.search.Ways.{by_way, near_in, far_in, CanFlow}

-- the staircase of activity a
abbrev pub stair_at : PricedNetwork → ℕ → Stair
stair_at net a = stair_of net.terms (knees_in net) a

-- the gap of activity a
abbrev pub gap_at : PricedNetwork → Sheet → ℕ → ℕ
gap_at net s a = gap_of net.network.arcs (time_of s) a

-- on which arc the next unit of activity a runs, and on which the last one does
abbrev pub next_at : PricedNetwork → Sheet → ℕ → ℕ
next_at net s a = unit_length (stair_at net a) (flow_of s a)

abbrev pub last_at : PricedNetwork → Sheet → ℕ → ℕ
last_at net s a = unit_length (stair_at net a) (flow_of s a - 1)

-- the activities that wait are on the list, each once, at the place that its slot gives
pub record IsWaitingList (s : Sheet) : Type 0 where
  pub few : s.len ≤ s.activities
  pub range : (k : ℕ) → k < s.len → waiting_of s k < s.activities
  pub placed : (k : ℕ) → k < s.len → slot_of s (waiting_of s k) ≡ k + 1
  pub within : (a : ℕ) → a < s.activities → slot_of s a ≤ s.len
  pub listed : (a : ℕ) → a < s.activities → 0 < slot_of s a → waiting_of s (slot_of s a - 1) ≡ a

-- each activity has a falling staircase with numbers that fit, no activity ends before it begins, and its flow is on
-- the staircase at its gap
pub record IsOnStairs (net : PricedNetwork) (s : Sheet) : Type 0 where
  pub falling : (a : ℕ) → a < length net.network.arcs → IsFalling (stair_at net a)
  pub reach : (a : ℕ) → a < length net.network.arcs → full_reach (stair_at net a) < 2 ^ 64
  pub ahead : (a : ℕ) → a < length net.network.arcs → time_of s (from_of net.network.arcs a) ≤ time_of s (to_of net.network.arcs a)
  pub on : (a : ℕ) → a < length net.network.arcs → IsOnStair (stair_at net a) (gap_at net s a) (flow_of s a)
  pub small : (a : ℕ) → a < length net.network.arcs → flow_of s a + 1 < 2 ^ 64

-- the lengths of the arcs of activity a are stored
pub record HasLengths (net : PricedNetwork) (s : Sheet) (a : ℕ) : Type 0 where
  pub up : up_of s a ≡ next_at net s a
  pub down : 0 < flow_of s a → down_of s a ≡ last_at net s a

abbrev pub HaveLengths : PricedNetwork → Sheet → Type 0
HaveLengths net s = (a : ℕ) → a < length net.network.arcs → HasLengths net s a

-- the board is for the network, and on it the flows are on the staircases at times that fit
pub record IsPricedBoard (net : PricedNetwork) (s : Sheet) : Type 0 where
  pub in_range : IsInRange net.network
  pub fits : IsFor net.network s
  pub times : AreStoredTimes s
  pub stairs : IsOnStairs net s
  pub lengths : HaveLengths net s

-- the flow after each step with its room is on the staircase too
pub record AreLed (net : PricedNetwork) (s : Sheet) : Type 0 where
  pub along : (e : ℕ) → e < s.events → HasStep s e → against_of s e ≡ 0 →
      IsOnStair (stair_at net (step_of s e)) (gap_at net s (step_of s e)) (flow_of s (step_of s e) + room_of s e)
  pub against : (e : ℕ) → e < s.events → HasStep s e → 0 < against_of s e →
      IsOnStair (stair_at net (step_of s e)) (gap_at net s (step_of s e)) (flow_of s (step_of s e) - room_of s e)

-- what stays true of a board while events are labelled
pub record IsSearch (net : PricedNetwork) (s : Sheet) : Type 0 where
  pub in_range : IsInRange net.network
  pub few : length net.network.arcs ≤ MAX_ACTIVITIES
  pub fits : IsFor net.network s
  pub ranked : IsRanked s
  pub start : queue_of s 0 ≡ net.network.start
  pub back : IsRankedBack s
  pub steps : HaveSteps s
  pub times : AreStoredTimes s
  pub joined : AreJoined net.network s
  pub waiting : IsWaitingList s
  pub stairs : IsOnStairs net s
  pub lengths : HaveLengths net s
  pub led : AreLed net s

-- labels may cross activity a this way: they come from an event that has one to one that has none, and more can flow
pub record MayCross (net : PricedNetwork) (s : Sheet) (way : Way) (a : ℕ) : Type 0 where
  pub near : 0 < rank_of s (near_in net way a)
  pub far : rank_of s (far_in net way a) ≡ 0
  pub flows : CanFlow s way a

-- they may cross it neither way
abbrev pub IsQuiet : PricedNetwork → Sheet → ℕ → Type 0
IsQuiet net s a = (way : Way) → MayCross net s way a → ⊥

abbrev pub IsWay : PricedNetwork → Sheet → ℕ → Option Way → Type 0
IsWay net s a (Some way) = MayCross net s way a
IsWay net s a None = IsQuiet net s a

-- activity a has this crash duration and these knees
pub record IsSeen (net : PricedNetwork) (a crash : ℕ) (knees : List Knee) : Type 0 where
  pub lasts : crash ≡ crash_of net.terms a
  pub bends : AreKneesOf (knees_in net) a knees

-- labels that cross activity a along it wait until a fall has brought the gap down to the next unit's arc, and against it
-- until one has brought it up to the last unit's: the lesser of the two lengths, and the greater one
abbrev pub lesser_at : PricedNetwork → Sheet → Way → ℕ → ℕ
lesser_at net s way a = by_way way (next_at net s a) (gap_at net s a)

abbrev pub greater_at : PricedNetwork → Sheet → Way → ℕ → ℕ
greater_at net s way a = by_way way (gap_at net s a) (last_at net s a)

-- after a fall by `after` they are the same
abbrev pub StopsAfterFall : PricedNetwork → Sheet → ℕ → Way → ℕ → Type 0
StopsAfterFall net s a way after = lesser_at net s way a + after ≡ greater_at net s way a

-- with `room` units more, or fewer, the flow is on the staircase
pub record HasRoomAlong (net : PricedNetwork) (s : Sheet) (a room : ℕ) : Type 0 where
  pub some : 0 < room
  pub small : flow_of s a + room < 2 ^ 64
  pub on : IsOnStair (stair_at net a) (gap_at net s a) (flow_of s a + room)

pub record HasRoomAgainst (net : PricedNetwork) (s : Sheet) (a room : ℕ) : Type 0 where
  pub some : 0 < room
  pub within : room ≤ flow_of s a
  pub on : IsOnStair (stair_at net a) (gap_at net s a) (flow_of s a - room)

-- where labels may cross activity a, it stops only after a fall
abbrev pub StopsLater : PricedNetwork → Sheet → ℕ → Type 0
StopsLater net s a = (way : Way) → MayCross net s way a → lesser_at net s way a < greater_at net s way a

-- if labels may cross activity a, it waits and stops only after a fall
abbrev pub IsSettledActivity : PricedNetwork → Sheet → ℕ → Type 0
IsSettledActivity net s a = (way : Way) → MayCross net s way a → (0 < slot_of s a) × (lesser_at net s way a < greater_at net s way a)

-- board s with the labels and the waiting activities of board t
abbrev pub grown_as : Sheet → Sheet → Sheet
grown_as s t = record (with_labels s t) { waiting = t.waiting; slot = t.slot; len = t.len }

-- labels were given and activities have begun to wait; times and flows are as they were
pub record Grows (s t : Sheet) : Type 0 where
  pub rest : t ≡ grown_as s t
  pub labelled : (e : ℕ) → 0 < rank_of s e → rank_of t e ≡ rank_of s e
  pub time : (e : ℕ) → e < s.events → time_of t e ≡ time_of s e
  pub waits : (a : ℕ) → 0 < slot_of s a → slot_of t a ≡ slot_of s a
  pub queue : (k : ℕ) → k < s.count → queue_of t k ≡ queue_of s k
  pub waiting : (k : ℕ) → k < s.len → waiting_of t k ≡ waiting_of s k
  pub count : s.count ≤ t.count
  pub len : s.len ≤ t.len

-- activity a was visited
pub record IsVisited (net : PricedNetwork) (s t : Sheet) (a : ℕ) : Type 0 where
  pub grows : Grows s t
  pub search : IsSearch net t
  pub room : HaveRoom t
  pub settled : IsSettledActivity net t a
