-- What holds of every solver: its lengths are in order, its segment is complete, and its numbers are small.
use Rattle.std.proofs.Common.{◌≡◌, ℕ, ◌+◌, ◌-◌, ◌*◌, ◌^◌, ◌<◌, ◌≤◌, ◌==◌, Bool, true, length, refl, sym, ◌∙◌, ap, subst, inl, inr, arith}
use Rattle.std.specs.Prelude.{◌&&◌}
use Rattle.std.proofs.lemmas.Bool.{cases_Bool, cases_lt, lt-ltb}
use Rattle.pc_model.specs.Schedule.{lesser_of}
use Rattle.pc_model.specs.Cost.{cost_of}
use Rattle.pc_laws.specs.Segment.{fall_of, IsSegment}
use Rattle.pc_laws.specs.State.{segment_of}
use Rattle.pc_laws.specs.Steps.{filled_state}
use Rattle.pc_laws.proofs.Stairs.StairStates.{stair-within_range, stair-fall_in_range, stair-fall_positive, stair-segment, stair-level_segment, stair-times_within, stair-cost}
use Rattle.pc_crash.specs.Priced.{knees_in}
use Rattle.pc_crash.proofs.CostLaws.{cost_of-most}
use Rattle.pc_flow.specs.board.Sheets.{Sheet, time_of, rank_of, flow_of}
use Rattle.pc_flow.specs.inside.search.Choosing.{moving}
use Rattle.pc_flow.specs.search.Labelling.{slopes_in}
use Rattle.pc_flow.specs.inside.search.Labelling.{slope_at, IsStateWith, MayFall}
use Rattle.pc_flow.proofs.lemmas.search.StateLaws.{IsKnown, slopes-small, value-bounded, flow-bounded}
use Rattle.pc_flow.specs.Courses.{Course, upper_of, lower_of}
use Rattle.pc_flow.specs.inside.Courses.{moves_at, present, IsOnCurve, IsOnCourse, HasBoundedNumbers}

-- where a segment has more than one length, the events without a label move
pub moves-are : (s : Sheet) (fall : ℕ) → 0 < fall → moves_at s fall ≡ moving s
moves-are s fall some = ap {B = ℕ → Bool} (λ (b : Bool) (e : ℕ). b && (rank_of s e == 0)) (lt-ltb 0 fall some)

module _ (c : Course) (on : IsOnCourse c) where
  pub state : IsStateWith c.net c.board (upper_of c) (slope_at c.net c.board)
  state = on.between.state

  known : IsKnown c.net
  known = record { priced = on.priced; limits = on.limits; pieces = on.pieces; piece_limits = on.piece_limits }

  -- the present length is not below the all-crash length
  pub upper-above : c.shortest ≤ upper_of c
  upper-above =
      stair-within_range c.net.network c.net.terms (knees_in c.net) on.priced (upper_of c) (time_of c.board) (flow_of c.board) (slope_at c.net c.board) state
      c.shortest on.shortest

  -- a segment with more than one length ends where some activity stops
  pub falls : 0 < c.fall → MayFall c.net c.board c.fall
  falls some =
      elim (cases_Bool c.given) [
        | inl given ↦ elim (cases_lt c.shortest (upper_of c)) [
          | inl above ↦ on.falls given above
          | inr at ↦ absurd (omega (arith, some, (on.level given at).fall))
        ]
        | inr none ↦ absurd (omega (arith, some, (on.untouched none).fall))
      ]

  -- its lower end is not below the all-crash length
  pub fall-within : c.shortest + c.fall ≤ upper_of c
  fall-within =
      elim (cases_lt 0 c.fall) [
        | inl some ↦
            stair-fall_in_range c.net.network c.net.terms (knees_in c.net) on.priced (upper_of c) (time_of c.board) (flow_of c.board) (slope_at c.net c.board) state
            (moving c.board) c.fall (falls some) c.shortest on.shortest
        | inr none ↦ omega (arith, upper-above, none)
      ]

  pub lower-above : c.shortest ≤ lower_of c
  lower-above = omega (arith, fall-within)

  pub crash-normal : c.shortest ≤ c.longest
  crash-normal = omega (arith, upper-above, on.within)

  -- above the all-crash length the segment has more than one length
  pub fall-some : c.given ≡ true → c.shortest < upper_of c → 0 < c.fall
  fall-some given above =
      stair-fall_positive c.net.network c.net.terms (knees_in c.net) on.priced (upper_of c) (time_of c.board) (flow_of c.board) (slope_at c.net c.board) state
      (moving c.board) c.fall (on.falls given above)

  abbrev SegmentWith : (ℕ → Bool) → ℕ → Type 0
  SegmentWith moves fall =
      IsSegment c.net.network c.net.terms (knees_in c.net)
      (segment_of c.net.network c.net.terms (knees_in c.net)
      (filled_state c.net.terms (knees_in c.net) (upper_of c) (time_of c.board) (flow_of c.board) (slope_at c.net c.board)) moves fall)

  -- the present segment is complete
  pub whole : c.given ≡ true → IsOnCurve c
  whole given =
      elim (cases_lt c.shortest (upper_of c)) [
        | inl above ↦
            subst (λ (moves : ℕ → Bool). SegmentWith moves c.fall) (sym (moves-are c.board c.fall (fall-some given above)))
            (stair-segment c.net.network c.net.terms (knees_in c.net) on.priced (upper_of c) (time_of c.board) (flow_of c.board) (slope_at c.net c.board) state
            (moving c.board) c.fall (on.falls given above))
        | inr at ↦
            let level = on.level given at in
            subst (λ (n : ℕ). SegmentWith (moves_at c.board n) n) (sym level.fall)
            (stair-level_segment c.net.network c.net.terms (knees_in c.net) on.priced (upper_of c) (time_of c.board) (flow_of c.board) (slope_at c.net c.board) state
            (moves_at c.board 0) (λ e inside. refl) (λ a inside. level.empty a) (sym on.slope ∙ level.slope))
      ]

  -- the times at the lower end of a segment with more than one length
  abbrev pub fallen_times : ℕ → ℕ
  fallen_times e = time_of c.board e - fall_of (moving c.board) c.fall e

  -- what the durations at the lower end cost
  pub cost-fallen : 0 < c.fall → c.cost + c.slope * c.fall ≡ cost_of c.net.terms (knees_in c.net) (lesser_of c.net.network c.net.terms fallen_times)
  cost-fallen some =
      omega (
        arith,
        on.cost,
        ap (λ n. n * c.fall) on.slope,
        stair-cost c.net.network c.net.terms (knees_in c.net) on.priced (upper_of c) (time_of c.board) (flow_of c.board) (slope_at c.net c.board) state
            (moving c.board) c.fall (falls some),
      )

  pub cost-still : c.fall ≡ 0 → c.cost + c.slope * c.fall ≡ cost_of c.net.terms (knees_in c.net) (lesser_of c.net.network c.net.terms (time_of c.board))
  cost-still none = omega (arith, on.cost, ap (λ n. c.slope * n) none)

  pub cost-lower : c.cost + c.slope * c.fall ≤ 220000000000000000
  cost-lower =
      elim (cases_lt 0 c.fall) [
        | inl some ↦ omega (arith, cost-fallen some, most fallen_times)
        | inr none ↦ omega (arith, cost-still (omega arith), most (time_of c.board))
      ]
    where
      most : (times : ℕ → ℕ) → cost_of c.net.terms (knees_in c.net) (lesser_of c.net.network c.net.terms times) ≤ 220000000000000000
      most times = cost_of-most c.net on.priced.terms_fit on.limits on.pieces on.piece_limits (lesser_of c.net.network c.net.terms times)

  -- the slope is at most the sum of the last slopes
  pub slope-most : c.slope ≤ slopes_in c.net
  slope-most =
      elim (cases_Bool c.given) [
        | inl given ↦ elim (cases_lt c.shortest (upper_of c)) [
          | inl above ↦
              omega (
                arith,
                on.slope,
                value-bounded c.net known on.ordered.0 on.ordered.1 (upper_of c) c.shortest (slope_at c.net c.board) (time_of c.board) (flow_of c.board) state on.shortest above,
              )
          | inr at ↦ omega (arith, (on.level given at).slope)
        ]
        | inr none ↦ omega (arith, (on.untouched none).slope)
      ]

  pub slope-small : c.slope < 10 ^ 13
  slope-small = omega (arith, slope-most, slopes-small c.net known on.between.search.few)

  -- so is each flow
  flow-small : (a : ℕ) → a < length c.net.network.arcs → flow_of c.board a < 10 ^ 13
  flow-small a inside =
      omega (
        arith,
        on.slope,
        slope-small,
        flow-bounded c.net known on.ordered.0 on.ordered.1 (upper_of c) (slope_at c.net c.board) (time_of c.board) (flow_of c.board) state a inside,
      )

  -- all numbers of the present segment are small
  pub small : c.given ≡ true → HasBoundedNumbers c.net (present c)
  small given = record {
    upper = omega (arith, on.within, on.small);
    lower = omega (arith, on.within, on.small);
    cost = omega (
      arith,
      cost_of-most c.net on.priced.terms_fit on.limits on.pieces on.piece_limits (lesser_of c.net.network c.net.terms (time_of c.board)),
    );
    slope = omega (arith, on.slope, slope-small);
    time = λ e inside. omega (
      arith,
      on.within,
      on.small,
      stair-times_within c.net.network c.net.terms (knees_in c.net) on.priced (upper_of c) (time_of c.board) (flow_of c.board) (slope_at c.net c.board) state e inside,
    );
    duration = λ a inside. omega (arith, on.limits.short a (omega (arith, inside, on.priced.terms_fit.one_each)));
    flow = λ a k inside below. omega (arith, flow-small a inside);
    beside = λ a inside. omega (arith, flow-small a inside);
  }
