-- Two segments have the same gaps if each event has the same time in both and moves alike.
use Rattle.std.proofs.Common.{◌≡◌, ℕ, ◌+◌, ◌-◌, ◌<◌, Bool, not, ◌&&◌, ◌||◌, length, ap, ◌∙◌}
use Rattle.std.specs.Prelude.{◌==◌, nat_lt, min, if◌then◌else◌}
use Rattle.pc_model.specs.Sums.{sum_to}
use Rattle.pc_model.specs.Walk.{from_of, to_of}
use Rattle.pc_model.specs.Network.{IsInRange}
use Rattle.pc_model.specs.Schedule.{normal_of, crash_of, lesser_of}
use Rattle.pc_laws.specs.Segment.{Segment, span, head_at, tail_at, is_forward, is_backward}
use Rattle.pc_crash.specs.Priced.{PricedNetwork, knees_in}
use Rattle.pc_check.specs.Known.{some_below}
use Rattle.pc_check.specs.Segments.{stops_in}
use Rattle.pc_check.specs.Said.{forward_by, backward_by}

-- the ends are the same, and so are the time of each event and whether it moves
pub record MoveSame (net : PricedNetwork) (seg other : Segment) : Type 0 where
  pub upper : other.upper ≡ seg.upper
  pub lower : other.lower ≡ seg.lower
  pub time : (e : ℕ) → e < net.network.events → other.time e ≡ seg.time e
  pub moves : (e : ℕ) → e < net.network.events → other.moves e ≡ seg.moves e

-- whether an activity stops, from its gap at the lower and at the upper end and the way in which it crosses
stops_by : PricedNetwork → ℕ → ℕ → ℕ → ℕ → ℕ → Bool → Bool → Bool
stops_by net a low_head low_tail high_head high_tail forward backward =
    (forward && low_head == low_tail + crash_of net.terms a)
    || some_below ((knees_in net).count a) (λ k.
    low_head == low_tail + (knees_in net).knee a k
    && ((forward && nat_lt (high_tail + (knees_in net).knee a k) high_head) || (backward && nat_lt high_head (high_tail + (knees_in net).knee a k))))

module _ (net : PricedNetwork) (range : IsInRange net.network) (seg other : Segment) (same : MoveSame net seg other) (a : ℕ) (lt : a < length net.network.arcs) where
  time_from : other.time (from_of net.network.arcs a) ≡ seg.time (from_of net.network.arcs a)
  time_from = same.time (from_of net.network.arcs a) (range.from_in a lt)

  time_to : other.time (to_of net.network.arcs a) ≡ seg.time (to_of net.network.arcs a)
  time_to = same.time (to_of net.network.arcs a) (range.to_in a lt)

  moves_from : other.moves (from_of net.network.arcs a) ≡ seg.moves (from_of net.network.arcs a)
  moves_from = same.moves (from_of net.network.arcs a) (range.from_in a lt)

  moves_to : other.moves (to_of net.network.arcs a) ≡ seg.moves (to_of net.network.arcs a)
  moves_to = same.moves (to_of net.network.arcs a) (range.to_in a lt)

  pub head_same : (fall : ℕ) → head_at net.network.arcs other fall a ≡ head_at net.network.arcs seg fall a
  head_same fall = λ i. time_to i + (if moves_from i then fall else 0)

  pub tail_same : (fall : ℕ) → tail_at net.network.arcs other fall a ≡ tail_at net.network.arcs seg fall a
  tail_same fall = λ i. time_from i + (if moves_to i then fall else 0)

  span_same : span other ≡ span seg
  span_same = λ i. same.upper i - same.lower i

  pub low_head_same : head_at net.network.arcs other (span other) a ≡ head_at net.network.arcs seg (span seg) a
  low_head_same = ap (λ fall. head_at net.network.arcs other fall a) span_same ∙ head_same (span seg)

  pub low_tail_same : tail_at net.network.arcs other (span other) a ≡ tail_at net.network.arcs seg (span seg) a
  low_tail_same = ap (λ fall. tail_at net.network.arcs other fall a) span_same ∙ tail_same (span seg)

  pub lesser_same : lesser_of net.network net.terms other.time a ≡ lesser_of net.network net.terms seg.time a
  lesser_same = λ i. min (normal_of net.terms a) (time_to i - time_from i)

  forward_same : is_forward net.network.arcs other.moves a ≡ is_forward net.network.arcs seg.moves a
  forward_same = λ i. not (moves_from i) && moves_to i

  backward_same : is_backward net.network.arcs other.moves a ≡ is_backward net.network.arcs seg.moves a
  backward_same = λ i. moves_from i && not (moves_to i)

  rises_same : (head h tail t : ℕ) → head ≡ h → tail ≡ t →
      sum_to ((knees_in net).count a) (λ k. if nat_lt head (tail + (knees_in net).knee a k) then (knees_in net).rise a k else 0)
      ≡ sum_to ((knees_in net).count a) (λ k. if nat_lt h (t + (knees_in net).knee a k) then (knees_in net).rise a k else 0)
  rises_same head h tail t heads tails = λ i. sum_to ((knees_in net).count a) (λ k. if nat_lt (heads i) (tails i + (knees_in net).knee a k) then (knees_in net).rise a k else 0)

  pub forward_by-same : forward_by net other a ≡ forward_by net seg a
  forward_by-same =
      let rises = rises_same _ _ _ _ low_head_same low_tail_same in
      λ i. if forward_same i then rises i else 0

  pub backward_by-same : backward_by net other a ≡ backward_by net seg a
  backward_by-same =
      let rises = rises_same _ _ _ _ (head_same 0) (tail_same 0) in
      λ i. if backward_same i then rises i else 0

  pub stops_in-same : stops_in net other a ≡ stops_in net seg a
  unfolding stops_by
  stops_in-same = λ i. stops_by net a (low_head_same i) (low_tail_same i) (head_same 0 i) (tail_same 0 i) (forward_same i) (backward_same i)
