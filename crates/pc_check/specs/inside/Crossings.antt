-- How an activity crosses the cut between the resting and the moving events.
use Rattle.std.specs.Prelude.{◌≡◌, ℕ, ◌^◌, ◌<◌, Bool, List}
use Rattle.pc_model.specs.declared.Arc.{Arc}
use Rattle.pc_model.specs.Walk.{from_of, to_of}
use Rattle.pc_laws.specs.Segment.{Segment, span, head_at, tail_at, is_forward, is_backward}
use Rattle.pc_check.specs.declared.gaps.Crossing.{Crossing}

-- the gaps of activity a at the two ends of a segment, and its directions
pub record IsCrossing (arcs : List Arc) (seg : Segment) (a : ℕ) (crossing : Crossing) : Type 0 where
  pub upper_head : crossing.upper.head ≡ head_at arcs seg 0 a
  pub upper_tail : crossing.upper.tail ≡ tail_at arcs seg 0 a
  pub lower_head : crossing.lower.head ≡ head_at arcs seg (span seg) a
  pub lower_tail : crossing.lower.tail ≡ tail_at arcs seg (span seg) a
  pub forward : crossing.forward ≡ is_forward arcs seg.moves a
  pub backward : crossing.backward ≡ is_backward arcs seg.moves a
  pub small_upper : crossing.upper.tail < 2 ^ 65
  pub small_lower : crossing.lower.tail < 2 ^ 65

-- activity a does not cross the cut: its two events move alike
abbrev pub EndsMoveAlike : List Arc → (ℕ → Bool) → ℕ → Type 0
EndsMoveAlike arcs moves a = moves (from_of arcs a) ≡ moves (to_of arcs a)
