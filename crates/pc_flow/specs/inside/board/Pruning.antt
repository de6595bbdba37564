-- Labels that are removed when a step has no residual capacity left.
use Rattle.std.specs.Prelude.{◌≡◌, ℕ, ◌+◌, ◌-◌, ◌<◌, ◌≤◌, ◌⊎◌}
use Rattle.pc_model.specs.Sums.{sum_to}
use Rattle.pc_flow.specs.board.Sheets.{Sheet, kept_time, rank_of}
use Rattle.pc_flow.specs.inside.board.Sheets.{queue_of, near_of, room_of, lost_of}
use Rattle.pc_flow.specs.inside.board.Labelling.{HasStep}

-- event e, which had a label, still has one, at one of the first `kept` places; its step has room and comes from an event
-- with a label
pub record KeepsLabel (s t : Sheet) (kept e : ℕ) : Type 0 where
  pub labelled : 0 < rank_of t e
  pub within : rank_of t e ≤ kept
  pub placed : queue_of t (rank_of t e - 1) ≡ e
  pub time : kept_time t e ≡ kept_time s e
  pub room : HasStep s e → 0 < room_of s e
  pub near : HasStep s e → 0 < rank_of t (near_of s e)

-- event e has lost its label and is one of those that did: its step has no room or comes from one of them
pub record IsLost (s t : Sheet) (gone e : ℕ) : Type 0 where
  pub none : rank_of t e ≡ 0
  pub stepped : HasStep s e
  pub time : kept_time t e ≡ kept_time s e + s.fallen
  pub listed : (k : ℕ) × (k < gone) × (lost_of t k ≡ e)
  pub why : (room_of s e ≡ 0) ⊎ (rank_of t (near_of s e) ≡ 0)

-- the first i places of the queue were looked at: `kept` of the events there keep their labels in their order, `gone` lost
-- theirs, and `seen` counts those of the first that were scanned; any weight of events is split between the two
pub record IsSorted (s t : Sheet) (i kept gone seen : ℕ) : Type 0 where
  pub some : 0 < kept
  pub split : kept + gone ≡ i
  pub fates : (e : ℕ) → e < s.events → 0 < rank_of s e → rank_of s e ≤ i → KeepsLabel s t kept e ⊎ IsLost s t gone e
  pub unlabelled : (e : ℕ) → e < s.events → rank_of s e ≡ 0 → rank_of t e ≡ 0
  pub later : (e : ℕ) → e < s.events → i < rank_of s e → rank_of t e ≡ rank_of s e
  pub time_off : (e : ℕ) → e < s.events → (rank_of s e ≡ 0) ⊎ (i < rank_of s e) → kept_time t e ≡ kept_time s e
  pub queue_off : (k : ℕ) → i ≤ k → queue_of t k ≡ queue_of s k
  pub range : (k : ℕ) → k < kept → queue_of t k < s.events
  pub placed : (k : ℕ) → k < kept → rank_of t (queue_of t k) ≡ k + 1
  pub first : queue_of t 0 ≡ queue_of s 0
  pub ordered : (e f : ℕ) → e < s.events → f < s.events → rank_of s e < rank_of s f → rank_of s f ≤ i → 0 < rank_of t e → 0 < rank_of t f →
      rank_of t e < rank_of t f
  pub lost_range : (k : ℕ) → k < gone → lost_of t k < s.events
  pub lost_none : (k : ℕ) → k < gone → rank_of t (lost_of t k) ≡ 0
  pub weights : (w : ℕ → ℕ) → sum_to kept (λ k. w (queue_of t k)) + sum_to gone (λ k. w (lost_of t k)) ≡ sum_to i (λ k. w (queue_of s k))
  pub early : i ≤ s.head → seen + gone ≡ s.head
  pub late : s.head ≤ i → seen ≤ kept
  pub still_seen : (e : ℕ) → e < s.events → rank_of s e ≤ i → 0 < rank_of t e → rank_of s e ≤ s.head → rank_of t e ≤ seen
  pub was_seen : (e : ℕ) → e < s.events → rank_of s e ≤ i → 0 < rank_of t e → rank_of t e ≤ seen → rank_of s e ≤ s.head

-- the complete queue was looked at, and was cut after those that keep their labels; nothing else has changed
pub record IsPruned (s t : Sheet) (gone : ℕ) : Type 0 where
  pub rest : t ≡ record s { time = t.time; rank = t.rank; queue = t.queue; lost = t.lost; count = t.count; head = t.head }
  pub sorted : IsSorted s t s.count t.count gone t.head
