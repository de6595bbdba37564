-- What one call changes on a board. In each record, `rest` says which lists it touches at all.
use Rattle.std.specs.Prelude.{◌≡◌, ◌≢◌, ℕ, ◌+◌, ◌<◌, ◌≤◌, Bool, if◌then◌else◌}
use Rattle.pc_flow.specs.board.Sheets.{Sheet, kept_time, rank_of, flow_of}
use Rattle.pc_flow.specs.inside.board.Sheets.{queue_of, step_of, against_of, near_of, room_of, lost_of, waiting_of, slot_of, due_of, up_of, down_of}

-- event e has the place `place` in the queue
pub record KeepsAt (s t : Sheet) (e place : ℕ) : Type 0 where
  pub rest : t ≡ record s { rank = t.rank; queue = t.queue }
  pub queue_at : queue_of t place ≡ e
  pub queue_off : (k : ℕ) → k ≢ place → queue_of t k ≡ queue_of s k
  pub rank_at : rank_of t e ≡ place + 1
  pub rank_off : (f : ℕ) → f ≢ e → rank_of t f ≡ rank_of s f

-- event e has no label, and its time is stored with the falls added; it is among those that lost theirs
pub record LosesAt (s t : Sheet) (e place : ℕ) : Type 0 where
  pub rest : t ≡ record s { time = t.time; rank = t.rank; lost = t.lost }
  pub time_at : kept_time t e ≡ kept_time s e + s.fallen
  pub time_off : (f : ℕ) → f ≢ e → kept_time t f ≡ kept_time s f
  pub rank_at : rank_of t e ≡ 0
  pub rank_off : (f : ℕ) → f ≢ e → rank_of t f ≡ rank_of s f
  pub lost_at : lost_of t place ≡ e
  pub lost_off : (k : ℕ) → k ≢ place → lost_of t k ≡ lost_of s k

-- the flow of the step of event e changes by `by`, the way the step goes, and its room decreases by that
pub record StepsBack (s t : Sheet) (by e : ℕ) : Type 0 where
  pub rest : t ≡ record s { room = t.room; flow = t.flow }
  pub room_at : room_of t e + by ≡ room_of s e
  pub room_off : (f : ℕ) → f ≢ e → room_of t f ≡ room_of s f
  pub along : against_of s e ≡ 0 → flow_of t (step_of s e) ≡ flow_of s (step_of s e) + by
  pub against : 0 < against_of s e → flow_of t (step_of s e) + by ≡ flow_of s (step_of s e)
  pub flow_off : (a : ℕ) → a ≢ step_of s e → flow_of t a ≡ flow_of s a

-- 1 for a step against its activity, 0 for one along it
abbrev pub way_number : Bool → ℕ
way_number against = if against then 1 else 0

-- event e has a step of activity a from event `near`, and the others have the steps that they had
pub record IsStepSet (s t : Sheet) (e a : ℕ) (against : Bool) (near room : ℕ) : Type 0 where
  pub step_at : step_of t e ≡ a
  pub step_off : (f : ℕ) → f ≢ e → step_of t f ≡ step_of s f
  pub against_at : against_of t e ≡ way_number against
  pub against_off : (f : ℕ) → f ≢ e → against_of t f ≡ against_of s f
  pub near_at : near_of t e ≡ near
  pub near_off : (f : ℕ) → f ≢ e → near_of t f ≡ near_of s f
  pub room_at : room_of t e ≡ room
  pub room_off : (f : ℕ) → f ≢ e → room_of t f ≡ room_of s f

-- that is all that changes
pub record SetsStep (s t : Sheet) (e a : ℕ) (against : Bool) (near room : ℕ) : Type 0 where
  pub rest : t ≡ record s { step = t.step; against = t.against; near = t.near; room = t.room }
  pub step : IsStepSet s t e a against near room

-- the step of event e has this room
pub record SetsRoom (s t : Sheet) (e room : ℕ) : Type 0 where
  pub rest : t ≡ record s { room = t.room }
  pub room_at : room_of t e ≡ room
  pub room_off : (f : ℕ) → f ≢ e → room_of t f ≡ room_of s f

-- this is the stored time of event e
pub record SetsTime (s t : Sheet) (e time : ℕ) : Type 0 where
  pub rest : t ≡ record s { time = t.time }
  pub time_at : kept_time t e ≡ time
  pub time_off : (f : ℕ) → f ≢ e → kept_time t f ≡ kept_time s f

-- these are the lengths of the arcs of activity a
pub record SetsLengths (s t : Sheet) (a up down : ℕ) : Type 0 where
  pub rest : t ≡ record s { up = t.up; down = t.down }
  pub up_at : up_of t a ≡ up
  pub up_off : (b : ℕ) → b ≢ a → up_of t b ≡ up_of s b
  pub down_at : down_of t a ≡ down
  pub down_off : (b : ℕ) → b ≢ a → down_of t b ≡ down_of s b

-- only event e has a label
pub record StartsAt (s t : Sheet) (e : ℕ) : Type 0 where
  pub rest : t ≡ record s { rank = t.rank; queue = t.queue; count = 1 }
  pub queue_at : queue_of t 0 ≡ e
  pub rank_at : rank_of t e ≡ 1
  pub rank_off : (f : ℕ) → f ≢ e → rank_of t f ≡ rank_of s f

-- event e is the last in the queue
pub record QueuesLast (s t : Sheet) (e : ℕ) : Type 0 where
  pub rest : t ≡ record s { rank = t.rank; queue = t.queue; count = s.count + 1 }
  pub queue_at : queue_of t s.count ≡ e
  pub queue_off : (k : ℕ) → k ≢ s.count → queue_of t k ≡ queue_of s k
  pub rank_at : rank_of t e ≡ s.count + 1
  pub rank_off : (f : ℕ) → f ≢ e → rank_of t f ≡ rank_of s f

-- board s with the labels of board t
abbrev pub with_labels : Sheet → Sheet → Sheet
with_labels s t = record s {
  time = t.time;
  rank = t.rank;
  queue = t.queue;
  step = t.step;
  against = t.against;
  near = t.near;
  room = t.room;
  count = t.count;
}

-- event e is the last in the queue, by a step of activity a from event `near`
pub record EntersAt (s t : Sheet) (e a : ℕ) (against : Bool) (near room : ℕ) : Type 0 where
  pub rest : t ≡ with_labels s t
  pub count : t.count ≡ s.count + 1
  pub time_at : kept_time t e + s.fallen ≡ kept_time s e
  pub time_off : (f : ℕ) → f ≢ e → kept_time t f ≡ kept_time s f
  pub queue_at : queue_of t s.count ≡ e
  pub queue_off : (k : ℕ) → k ≢ s.count → queue_of t k ≡ queue_of s k
  pub rank_at : rank_of t e ≡ s.count + 1
  pub rank_off : (f : ℕ) → f ≢ e → rank_of t f ≡ rank_of s f
  pub step : IsStepSet s t e a against near room

-- activity a has the place `place` on the list of those that wait, and its stored number is at most the sum of the
-- falls after `after` more units
pub record WaitsAt (s t : Sheet) (a place after : ℕ) : Type 0 where
  pub rest : t ≡ record s { waiting = t.waiting; slot = t.slot; due = t.due }
  pub waiting_at : waiting_of t place ≡ a
  pub waiting_off : (k : ℕ) → k ≢ place → waiting_of t k ≡ waiting_of s k
  pub slot_at : slot_of t a ≡ place + 1
  pub slot_off : (b : ℕ) → b ≢ a → slot_of t b ≡ slot_of s b
  pub due_at : due_of t a ≤ s.fallen + after
  pub due_off : (b : ℕ) → b ≢ a → due_of t b ≡ due_of s b

-- activity a is the last on that list
pub record WaitsOnce (s t : Sheet) (a : ℕ) : Type 0 where
  pub rest : t ≡ record s { waiting = t.waiting; slot = t.slot; len = s.len + 1 }
  pub waiting_at : waiting_of t s.len ≡ a
  pub waiting_off : (k : ℕ) → k ≢ s.len → waiting_of t k ≡ waiting_of s k
  pub slot_at : slot_of t a ≡ s.len + 1
  pub slot_off : (b : ℕ) → b ≢ a → slot_of t b ≡ slot_of s b

-- activity a has no place on that list
pub record GoesAt (s t : Sheet) (a : ℕ) : Type 0 where
  pub rest : t ≡ record s { slot = t.slot }
  pub slot_at : slot_of t a ≡ 0
  pub slot_off : (b : ℕ) → b ≢ a → slot_of t b ≡ slot_of s b
