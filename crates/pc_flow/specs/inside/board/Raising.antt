-- The flow raised along the steps that led to an event.
use Rattle.std.specs.Prelude.{◌≡◌, ◌≢◌, ℕ, zero, suc, ◌+◌, ◌<◌, ◌≤◌}
use Rattle.pc_model.specs.Network.{Network}
use Rattle.pc_laws.specs.State.{IsPart}
use Rattle.pc_flow.specs.board.Sheets.{Sheet, rank_of, flow_of}
use Rattle.pc_flow.specs.inside.board.Sheets.{queue_of, step_of, against_of, near_of, room_of}
use Rattle.pc_flow.specs.inside.board.Labelling.{HasStep, IsFor, AreJoined}

-- the event k steps before e
abbrev pub event_back : Sheet → ℕ → ℕ → ℕ
event_back s e zero = e
event_back s e (suc k) = near_of s (event_back s e k)

-- k steps lead from event x to event e
pub record IsWayBack (s : Sheet) (e k x : ℕ) : Type 0 where
  pub leads : event_back s e k ≡ x
  pub known : (j : ℕ) → j ≤ k → event_back s e j < s.events
  pub steps : (j : ℕ) → j < k → HasStep s (event_back s e j)

-- event f is not one of the k events that these steps lead back to
abbrev pub IsOffWay : Sheet → ℕ → ℕ → ℕ → Type 0
IsOffWay s e k f = (j : ℕ) → j < k → f ≢ event_back s e j

-- the flow of the step of event e has changed by `by`, the way the step goes, and its room has decreased by that
pub record IsStepTaken (s t : Sheet) (by e : ℕ) : Type 0 where
  pub room : room_of t e + by ≡ room_of s e
  pub along : against_of s e ≡ 0 → flow_of t (step_of s e) ≡ flow_of s (step_of s e) + by
  pub against : 0 < against_of s e → flow_of t (step_of s e) + by ≡ flow_of s (step_of s e)

-- the flows of the last k steps that led to event e were raised, back to event x; nothing is said of the lengths of arcs
pub record IsRaisedBack (s t : Sheet) (e by k x : ℕ) : Type 0 where
  pub way : IsWayBack s e k x
  pub rest : t ≡ record s { room = t.room; flow = t.flow; up = t.up; down = t.down }
  pub taken : (j : ℕ) → j < k → IsStepTaken s t by (event_back s e j)
  pub room_off : (f : ℕ) → IsOffWay s e k f → room_of t f ≡ room_of s f
  pub flow_off : (a : ℕ) → ((j : ℕ) → j < k → a ≢ step_of s (event_back s e j)) → flow_of t a ≡ flow_of s a
  pub part : (net : Network) → IsFor net s → net.end ≡ e → AreJoined net s → IsPart net (flow_of s) (flow_of t) x by

-- the k steps are all that led to event e, `least` is the least of their rooms
pub record IsLeastRoom (s : Sheet) (e least k : ℕ) : Type 0 where
  pub way : IsWayBack s e k (queue_of s 0)
  pub first : rank_of s (queue_of s 0) ≡ 1
  pub below : (j : ℕ) → j < k → least ≤ room_of s (event_back s e j)
  pub met : (j : ℕ) × (j < k) × (room_of s (event_back s e j) ≡ least)

-- no step on these k that gave one of the first `standing` labels in the queue has as little room as `least`
pub record AreClear (s : Sheet) (e least standing k : ℕ) : Type 0 where
  pub some : 0 < k → 0 < standing
  pub within : standing ≤ s.count
  pub above : (j : ℕ) → j < k → rank_of s (event_back s e j) ≤ standing → least < room_of s (event_back s e j)

-- both
pub record IsLeast (s : Sheet) (e by standing k : ℕ) : Type 0 where
  pub least : IsLeastRoom s e by k
  pub clear : AreClear s e by standing k

-- the first `standing` labels in the queue remain: their steps have room
pub record StandFirst (s : Sheet) (standing : ℕ) : Type 0 where
  pub some : 0 < standing
  pub within : standing ≤ s.count
  pub room : (e : ℕ) → e < s.events → HasStep s e → rank_of s e ≤ standing → 0 < room_of s e

-- the flows of all steps that led to event e were augmented by `by`, as far as they had room
pub record IsRaisedBy (s t : Sheet) (e by k : ℕ) : Type 0 where
  pub some : 0 < by
  pub raising : IsRaisedBack s t e by k (queue_of s 0)
  pub first : rank_of s (queue_of s 0) ≡ 1
  pub used_up : (j : ℕ) × (j < k) × (room_of t (event_back s e j) ≡ 0)

abbrev pub IsRaised : Sheet → Sheet → ℕ → ℕ → Type 0
IsRaised s t e by = (k : ℕ) × IsRaisedBy s t e by k
