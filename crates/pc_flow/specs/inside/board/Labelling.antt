-- What stays true of a board while events are labelled.
use Rattle.std.specs.Prelude.{◌≡◌, ◌≢◌, ℕ, ◌+◌, ◌-◌, ◌^◌, ◌<◌, ◌≤◌, length}
use Rattle.pc_model.specs.Walk.{from_of, to_of}
use Rattle.pc_model.specs.Network.{Network}
use Rattle.pc_flow.specs.board.Sheets.{Sheet, kept_time, time_of, rank_of, flow_of}
use Rattle.pc_flow.specs.inside.board.Sheets.{queue_of, step_of, against_of, near_of, room_of}

-- event e has a label, and not as the start
abbrev pub HasStep : Sheet → ℕ → Type 0
HasStep s e = 1 < rank_of s e

-- the events with a label are in the queue, each at the place that its rank gives, and the first `head` of them were
-- scanned
pub record IsRanked (s : Sheet) : Type 0 where
  pub some : 0 < s.count
  pub few : s.count ≤ s.events
  pub scanned : s.head ≤ s.count
  pub range : (k : ℕ) → k < s.count → queue_of s k < s.events
  pub placed : (k : ℕ) → k < s.count → rank_of s (queue_of s k) ≡ k + 1
  pub within : (e : ℕ) → e < s.events → rank_of s e ≤ s.count
  pub queued : (e : ℕ) → e < s.events → 0 < rank_of s e → queue_of s (rank_of s e - 1) ≡ e

-- each step comes from an event that is earlier in the queue
pub record IsRankedBack (s : Sheet) : Type 0 where
  pub known : (e : ℕ) → e < s.events → HasStep s e → near_of s e < s.events
  pub labelled : (e : ℕ) → e < s.events → HasStep s e → 0 < rank_of s (near_of s e)
  pub before : (e : ℕ) → e < s.events → HasStep s e → rank_of s (near_of s e) < rank_of s e

-- each step is by an activity of its own, and the flow there can change by the stored room
pub record HaveSteps (s : Sheet) : Type 0 where
  pub known : (e : ℕ) → e < s.events → HasStep s e → step_of s e < s.activities
  pub apart : (e f : ℕ) → e < s.events → f < s.events → HasStep s e → HasStep s f → e ≢ f → step_of s e ≢ step_of s f
  pub along : (e : ℕ) → e < s.events → HasStep s e → against_of s e ≡ 0 → flow_of s (step_of s e) + room_of s e < 2 ^ 64
  pub against : (e : ℕ) → e < s.events → HasStep s e → 0 < against_of s e → room_of s e ≤ flow_of s (step_of s e)

-- each step has residual capacity
pub record HaveRoom (s : Sheet) : Type 0 where
  pub some : (e : ℕ) → e < s.events → HasStep s e → 0 < room_of s e

-- the stored time of an event without a label is not below the falls, and any time plus the falls can be stored
pub record AreStoredTimes (s : Sheet) : Type 0 where
  pub deep : (e : ℕ) → e < s.events → rank_of s e ≡ 0 → s.fallen ≤ kept_time s e
  pub fits : (e : ℕ) → e < s.events → time_of s e + s.fallen < 2 ^ 64

-- the board is for a network with this many events and activities
pub record IsFor (net : Network) (s : Sheet) : Type 0 where
  pub events : net.events ≡ s.events
  pub activities : length net.arcs ≡ s.activities

-- each step leads along or against its activity from the event before to the event with the label
pub record AreJoined (net : Network) (s : Sheet) : Type 0 where
  pub along_from : (e : ℕ) → e < s.events → HasStep s e → against_of s e ≡ 0 → from_of net.arcs (step_of s e) ≡ near_of s e
  pub along_to : (e : ℕ) → e < s.events → HasStep s e → against_of s e ≡ 0 → to_of net.arcs (step_of s e) ≡ e
  pub against_from : (e : ℕ) → e < s.events → HasStep s e → 0 < against_of s e → from_of net.arcs (step_of s e) ≡ e
  pub against_to : (e : ℕ) → e < s.events → HasStep s e → 0 < against_of s e → to_of net.arcs (step_of s e) ≡ near_of s e
