-- The numbers of the complete segments of a project have at most 18 digits.
use Rattle.std.proofs.Common.{◌≡◌, ℕ, ◌+◌, ◌-◌, ◌*◌, ◌^◌, ◌<◌, ◌≤◌, Bool, true, false, List, [], ◌∷◌, length, arith, mul_comm}
use Rattle.std.proofs.Math.Nat.{mul-le-mul_left, mul-le-mul_right}
use Rattle.std.proofs.lemmas.List.Elements.{recursion_from_All, All-from_recursion}
use Rattle.std.specs.List.{AllByRecursion as ByRecursion}
use Rattle.std.specs.Prelude.{nat_lt, if◌then◌else◌, All}
use Rattle.pc_model.specs.declared.limits.TheConstants.{MAX_EVENTS, MAX_DURATION, MAX_SLOPE}
use Rattle.pc_model.specs.Sums.{sum_to}
use Rattle.pc_model.specs.Network.{IsOrder}
use Rattle.pc_model.specs.Pieces.{ArePieces}
use Rattle.pc_model.specs.Schedule.{normal_of, normals, crashes}
use Rattle.pc_model.specs.Cost.{IsPriced, activity_cost, last_slope}
use Rattle.pc_model.proofs.Sums.{sum_to-le, sum_to-times, sum_to-bound, sum_to-most}
use Rattle.pc_model.proofs.Schedules.Durations.{normals-at, crashes-at}
use Rattle.pc_model.proofs.Walks.WalkLaws.{times_bound_walk, walk_sum-bound}
use Rattle.pc_model.proofs.Walks.OrderLaws.{walk_is_short}
use Rattle.pc_laws.specs.Segment.{Segment, IsRightSegment, IsSegment, is_forward, rises_above, span, head_at, tail_at, forward_rises}
use Rattle.pc_laws.specs.Cover.{Joins}
use Rattle.pc_laws.specs.Flow.{whole_flow}
use Rattle.pc_laws.proofs.Flows.Bounds.{flow_at_most, last_slope-small, last_slopes-small}
use Rattle.pc_laws.proofs.Segments.Readings.{cut_rises, tight_upper}
use Rattle.pc_crash.specs.Priced.{PricedNetwork, knees_in, ArePiecesWithinLimits}
use Rattle.pc_crash.specs.Terms.{AreWithinLimits}
use Rattle.pc_cert.specs.Document.{HasSmallNumbers}
use Rattle.pc_certify.specs.Complete.{IsThrough, IsComplete}

-- what holds of a priced network and its size
pub record IsSized (net : PricedNetwork) : Type 0 where
  pub priced : IsPriced net.network net.terms (knees_in net)
  pub limits : AreWithinLimits net.terms
  pub pieces : ArePieces net.terms net.pieces
  pub piece_limits : ArePiecesWithinLimits net.pieces
  pub few : net.network.events ≤ MAX_EVENTS
  pub order : List ℕ
  pub ordered : IsOrder net.network order

rise_or_none : (b : Bool) (rise : ℕ) → (if b then rise else 0) ≤ rise
rise_or_none true rise = omega arith
rise_or_none false rise = omega arith

module _ (net : PricedNetwork) (sized : IsSized net) where
  -- no through walk has more activities than there are events
  pub short_walk : (lengths walk : List ℕ) (sum : ℕ) → IsThrough net.network lengths walk sum → length walk ≤ net.network.events
  short_walk lengths walk sum through =
      let short = walk_is_short net.network sized.order sized.ordered net.network.start net.network.end walk through.leads sized.priced.range.end_in in
      omega arith

  inside : (a : ℕ) → a < length net.network.arcs → a < length net.terms
  inside a lt = omega (arith, sized.priced.terms_fit.one_each)

  short_normal : (a : ℕ) → a < length net.network.arcs → normal_of net.terms a ≤ MAX_DURATION
  short_normal a lt = sized.limits.short a (inside a lt)

  -- the all-normal length
  low_high : (walk : List ℕ) (high : ℕ) → IsThrough net.network (normals net.terms) walk high → high ≤ 1000000000
  low_high walk high through =
      let sum = walk_sum-bound net.network.arcs (normals net.terms) MAX_DURATION
      (λ a lt. omega (arith, normals-at net.terms a (inside a lt), short_normal a lt)) net.network.start net.network.end walk
      through.leads in
      let short = short_walk (normals net.terms) walk high through in
      let most : length walk * MAX_DURATION ≤ 10000 * MAX_DURATION = mul-le-mul_right MAX_DURATION (let few : length walk ≤ 10000 = omega (arith, sized.few) in few) in
      omega (arith, through.adds, sum, most)

  last_low : (a : ℕ) → a < length net.network.arcs → last_slope (knees_in net) a ≤ MAX_SLOPE
  last_low a lt = last_slope-small net.terms net.pieces a sized.pieces sized.limits.gentle sized.piece_limits.gentle (inside a lt)

  -- an activity's cost
  low_price : (a duration : ℕ) → a < length net.network.arcs → sum_to ((knees_in net).count a) (λ k. (knees_in net).rise a k * ((knees_in net).knee a k - duration)) ≤ MAX_DURATION * MAX_SLOPE
  low_price a duration lt =
      let knees = knees_in net in
      let low : (k : ℕ) → k < knees.count a → knees.knee a k - duration ≤ MAX_DURATION = λ k within.
      (let falls = sized.priced.knees_fit.falling a 0 k lt (omega arith) within in omega (arith, falls, sized.priced.knees_fit.first a lt, short_normal a lt)) in
      let each : (k : ℕ) → k < knees.count a → knees.rise a k * (knees.knee a k - duration) ≤ MAX_DURATION * knees.rise a k = λ k within.
      omega (arith, mul-le-mul_left (knees.rise a k) (low k within), mul_comm MAX_DURATION (knees.rise a k)) in
      omega (
        arith,
        sum_to-le (knees.count a) (λ k. knees.rise a k * (knees.knee a k - duration)) (λ k. MAX_DURATION * knees.rise a k) each,
        sum_to-times (knees.count a) MAX_DURATION (knees.rise a),
        mul-le-mul_left MAX_DURATION (last_low a lt),
      )

  low_cost : (durations : ℕ → ℕ) → sum_to (length net.terms) (λ a. activity_cost net.terms (knees_in net) a (durations a)) ≤ 220000000000000000
  low_cost durations =
      let each : (a : ℕ) → a < length net.terms → activity_cost net.terms (knees_in net) a (durations a) ≤ 11000000000000 = λ a lt.
      omega (arith, sized.limits.cheap a lt, low_price a (durations a) (omega (arith, sized.priced.terms_fit.one_each, lt))) in
      let most : length net.terms * 11000000000000 ≤ 20000 * 11000000000000 = mul-le-mul_right 11000000000000 (let few : length net.terms ≤ 20000 = omega (arith, sized.limits.few) in few) in
      omega (arith, sum_to-most (length net.terms) 11000000000000 (λ a. activity_cost net.terms (knees_in net) a (durations a)) each, most)

  module _ (seg : Segment) (right : IsRightSegment net.network net.terms (knees_in net) seg) where
    -- no event is later than the end
    low_time : (e : ℕ) → e < net.network.events → seg.time e ≤ seg.upper
    low_time e lt =
        let walk = sized.priced.sound.reaches e lt in
        let tight = tight_upper net.network net.terms (knees_in net) sized.priced seg right in
        let rises = times_bound_walk net.network.arcs (crashes net.terms) seg.time
        (λ a l. let room = (tight.tight a l).room in omega (arith, room, crashes-at net.terms a (inside a l)))
        e net.network.end (walk.0) (walk.1) in
        omega (arith, rises, right.ends.end_time)

    low_forward : (a : ℕ) → a < length net.network.arcs → (if is_forward net.network.arcs seg.moves a then rises_above net.network (knees_in net) seg (span seg) a else 0) ≤ last_slope (knees_in net) a
    low_forward a lt = omega (
      arith,
      rise_or_none (is_forward net.network.arcs seg.moves a) (rises_above net.network (knees_in net) seg (span seg) a),
      sum_to-le ((knees_in net).count a)
          (λ k. if nat_lt (head_at net.network.arcs seg (span seg) a) (tail_at net.network.arcs seg (span seg) a + (knees_in net).knee a k)
          then (knees_in net).rise a k else 0) ((knees_in net).rise a)
          (λ k within. rise_or_none (nat_lt (head_at net.network.arcs seg (span seg) a) (tail_at net.network.arcs seg (span seg) a + (knees_in net).knee a k)) ((knees_in net).rise a k)),
    )

    low_slope : seg.slope < 10 ^ 13
    low_slope =
        let cut : forward_rises net.network (knees_in net) seg ≡ _ + seg.slope = cut_rises net.network net.terms (knees_in net) sized.priced seg right in
        let below = sum_to-le (length net.network.arcs)
        (λ a. if is_forward net.network.arcs seg.moves a then rises_above net.network (knees_in net) seg (span seg) a else 0)
        (last_slope (knees_in net)) low_forward in
        let small = last_slopes-small net.network net.terms net.pieces sized.priced.terms_fit sized.pieces sized.limits.gentle
        sized.piece_limits.gentle (omega (arith, sized.limits.few, sized.priced.terms_fit.one_each)) in
        omega (arith, cut, below, small)

    low_flow : (a : ℕ) → a < length net.network.arcs → whole_flow (knees_in net) seg.flow seg.beside a ≤ seg.slope
    low_flow a lt = flow_at_most net.network sized.order (whole_flow (knees_in net) seg.flow seg.beside) seg.slope sized.priced.range sized.priced.sound sized.ordered right.conserved right.leaves a lt

    pub small_segment : seg.upper ≤ 1000000000 → HasSmallNumbers net seg
    small_segment high = record {
      upper = omega arith;
      lower = omega (arith, right.proper.ordered);
      cost = omega (arith, low_cost seg.duration, right.costs);
      slope = omega (arith, low_slope);
      times = λ e lt. omega (arith, low_time e lt);
      durations = λ a lt. omega (arith, right.durations a lt, short_normal a lt);
      flows = λ a k lt within. omega (arith, right.capacity a k lt within, sum_to-bound ((knees_in net).count a) ((knees_in net).rise a) k within, last_low a lt);
      beside = λ a lt. omega (arith, low_flow a lt, low_slope);
    }

  small_all : (segments : List Segment) (high low : ℕ) → ByRecursion (IsSegment net.network net.terms (knees_in net)) segments →
      Joins high segments low → high ≤ 1000000000 → ByRecursion (HasSmallNumbers net) segments
  small_all [] high low each joined below = absurd joined
  small_all (seg ∷ []) high low (whole, none) (upper, lower) below = (small_segment seg whole.right (omega arith), tt)
  small_all (seg ∷ next ∷ rest) high low (whole, others) (upper, joined) below =
      (small_segment seg whole.right (omega arith), small_all (next ∷ rest) seg.lower low others joined (omega (arith, whole.right.proper.ordered)))

  pub small_segments : (normal crash : List ℕ) (segments : List Segment) → IsComplete net normal crash segments → All (HasSmallNumbers net) segments
  small_segments normal crash segments complete =
      All-from_recursion (HasSmallNumbers net) segments
      (small_all segments complete.high complete.low
      (recursion_from_All (IsSegment net.network net.terms (knees_in net)) segments complete.front.each) complete.front.joined
      (low_high normal complete.high complete.normal_walk))
