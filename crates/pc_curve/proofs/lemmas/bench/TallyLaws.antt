-- The figures of the segments that a solver gave so far, and that at last they are the figures of the curve.
use Rattle.std.proofs.Common.{◌≡◌, ℕ, ◌+◌, ◌-◌, ◌*◌, ◌<◌, ◌≤◌, ◌==◌, Bool, true, false, List, [], ◌∷◌, ◌++◌, length, inl, inr, refl, sym, ap, ◌∙◌, subst, arith}
use Rattle.std.specs.Prelude.{if◌then◌else◌}
use Rattle.std.proofs.lemmas.Bool.{cases_lt}
use Rattle.std.proofs.Math.Nat.{mul-add, mul_comm, mul-le-mul_left}
use Rattle.pc_model.specs.Sums.{sum_to}
use Rattle.pc_model.specs.Walk.{IsSumOfWalk}
use Rattle.pc_model.specs.Schedule.{normal_of, normals, IsAllNormalLength, IsAllCrashLength}
use Rattle.pc_model.specs.Cost.{IsPriced}
use Rattle.pc_laws.specs.Segment.{Segment, IsSegment, cost_for, span}
use Rattle.pc_laws.specs.Cover.{IsFront}
use Rattle.pc_laws.specs.Curve.{corners_of, breakpoints_of}
use Rattle.pc_laws.proofs.Segments.Covering.{front_begins, front_grows}
use Rattle.pc_laws.proofs.Curves.Turns.{LiesOn, lies_on}
use Rattle.pc_laws.proofs.Curves.Points.{covering_points}
use Rattle.pc_crash.specs.Priced.{PricedNetwork, knees_in}
use Rattle.pc_flow.specs.Courses.{Course, upper_of, lower_of, IsSameCurve}
use Rattle.pc_flow.specs.inside.Courses.{present, HasEnded, IsNext}
use Rattle.pc_flow.specs.declared.early.TheConstants.{MAX_LENGTH}
use Rattle.pc_curve.specs.Points.{curve_in}
use Rattle.pc_curve.specs.declared.bench.figures.CurveTally.{CurveTally}
use Rattle.pc_curve.specs.bench.Figures.{HasBreaks, IsSumOfCosts}
use Rattle.pc_curve.specs.inside.bench.Tallies.{IsSmallSegment, costs_below, first_tally, most_cost, next_tally}
use Rattle.pc_model.proofs.Sums.{sum_to-most}
use Rattle.pc_curve.proofs.lemmas.bench.SumLaws.{costs-on, least-on, total-on}
use Rattle.pc_curve.proofs.lemmas.bench.CountLaws.{last-slope, corners-push, slope-push, all-points, one-point}

-- a solver goes along the curve of the network from one length to the other
pub record IsAlong (net : PricedNetwork) (longest shortest : ℕ) (c : Course) : Type 0 where
  pub same_net : c.net ≡ net
  pub same_longest : c.longest ≡ longest
  pub same_shortest : c.shortest ≡ shortest

-- the tally is that of the segments that the solver gave so far, from the longest length down
pub record IsTallied (net : PricedNetwork) (longest shortest : ℕ) (c : Course) (t : CurveTally) : Type 0 where
  pub along : IsAlong net longest shortest c
  pub given : c.given ≡ true
  pub first : Segment
  pub rest : List Segment
  pub front : IsFront net.network net.terms (knees_in net) (first ∷ rest) longest (lower_of c)
  pub within : shortest ≤ lower_of c
  pub apart : shortest < lower_of c → lower_of c < longest
  pub alone : longest ≤ lower_of c → rest ≡ []
  pub on : LiesOn (curve_in net) (present c)
  pub numbers : IsSmallSegment (present c)
  pub slope : t.slope ≡ last-slope first rest
  pub breaks : t.breaks ≡ length (corners_of (first ∷ rest))
  pub few : t.breaks + lower_of c ≤ longest + 1
  pub sum : IsSumOfCosts (curve_in net) (lower_of c) longest t.sum
  pub small : t.sum ≤ (longest - lower_of c + 1) * most_cost

at_most_one : (b : Bool) → (if b then 0 else 1) ≤ 1
at_most_one true = omega arith
at_most_one false = omega arith

-- a bound on the costs of a segment's lengths below its upper end
pub below-small : (seg : Segment) → IsSmallSegment seg → costs_below seg ≤ span seg * most_cost
below-small seg numbers =
    sum_to-most (span seg) most_cost (λ k. cost_for seg (seg.upper - (k + 1)))
    (λ k inside.
    let near : seg.upper - (seg.upper - (k + 1)) ≤ 1000000000 = omega (arith, numbers.upper) in
    omega (arith, numbers.cost, numbers.slope, mul-le-mul_left seg.slope near))

module _ (net : PricedNetwork) (priced : IsPriced net.network net.terms (knees_in net)) (longest shortest : ℕ) (limit : longest ≤ MAX_LENGTH) where
  -- what holds of the next segment of a solver
  module _ (c d : Course) (along : IsAlong net longest shortest c) (same : IsSameCurve c d) (next : IsNext c d) where
    on_along : IsAlong net longest shortest d
    on_along = record {
      same_net = same.net ∙ along.same_net;
      same_longest = same.longest ∙ along.same_longest;
      same_shortest = same.shortest ∙ along.same_shortest;
    }

    whole_next : IsSegment net.network net.terms (knees_in net) (present d)
    whole_next = subst (λ (n : PricedNetwork). IsSegment n.network n.terms (knees_in n) (present d)) on_along.same_net next.whole

    on_next : LiesOn (curve_in net) (present d)
    on_next = lies_on net.network net.terms (knees_in net) priced (present d) whole_next.right

    ordered_next : (present d).lower ≤ (present d).upper
    ordered_next = whole_next.right.proper.ordered

    numbers_next : (present d).upper ≤ longest → IsSmallSegment (present d)
    numbers_next below = record {
      cost = next.small.cost;
      slope = next.small.slope;
      upper = omega (arith, below, limit);
      ordered = ordered_next;
    }

    normal_next : c.given ≡ false → (a : ℕ) → a < length net.network.arcs → (present d).duration a ≡ normal_of net.terms a
    normal_next none =
        subst (λ (n : PricedNetwork). (a : ℕ) → a < length n.network.arcs → (present d).duration a ≡ normal_of n.terms a) along.same_net (next.normal none)

    module _ (none : c.given ≡ false) where
      at_top : (present d).upper ≡ longest
      at_top = next.first none ∙ along.same_longest

      -- the cost at the upper end of the first segment
      pub cost-at-top : curve_in net longest (present d).cost
      cost-at-top =
          let no_fall : (present d).upper - (present d).upper ≡ 0 = omega arith in
          let even : cost_for (present d) (present d).upper ≡ (present d).cost = omega (arith, ap (λ n. (present d).slope * n) no_fall) in
          subst (λ n. curve_in net n (present d).cost) at_top
          (subst (curve_in net (present d).upper) even (on_next.reads (present d).upper ordered_next (omega arith)))

      -- the first segment and the length above it
      first-sum : IsSumOfCosts (curve_in net) (lower_of d) longest ((present d).cost + costs_below (present d))
      first-sum =
          let seg = present d in
          let within : seg.upper ≤ longest = omega (arith, at_top) in
          let one : longest - seg.upper + 1 ≡ 1 = omega (arith, at_top) in
          let cost : sum_to 1 (λ k. seg.cost) ≡ 0 + seg.cost = refl in
          record {
            costs = costs-on (curve_in net) seg on_next ordered_next longest within (λ n. seg.cost);
            least = least-on (curve_in net) seg on_next ordered_next longest within (λ n. seg.cost)
                (λ n above below. subst (λ m. curve_in net m seg.cost) (let at : longest ≡ n = omega (arith, above, below, at_top) in at) cost-at-top);
            total = omega (
              arith,
              cost,
              ap (λ n. sum_to n (λ k. seg.cost)) one,
              total-on (curve_in net) seg on_next ordered_next longest within (λ n. seg.cost),
            );
          }

      pub tally-begins : IsAllNormalLength net.network net.terms longest → IsTallied net longest shortest d (first_tally (present d))
      tally-begins all_normal =
          let low : c.shortest ≤ (present d).lower = next.within in
          let numbers = numbers_next (omega (arith, at_top)) in
          let begins = front_begins net.network net.terms (knees_in net) (present d) whole_next (normal_next none)
          (subst (IsSumOfWalk net.network.arcs (normals net.terms) net.network.start net.network.end) (sym at_top) all_normal.attained) in
          record {
            along = on_along;
            given = next.given;
            first = present d;
            rest = [];
            front = subst (λ n. IsFront net.network net.terms (knees_in net) (present d ∷ []) n (lower_of d)) at_top begins;
            within = omega (arith, low, along.same_shortest);
            apart = λ above.
                let some : c.shortest < upper_of d = omega (arith, above, along.same_shortest, ordered_next) in
                omega (arith, next.long some, at_top);
            alone = λ flat. refl;
            on = on_next;
            numbers = numbers;
            slope = refl;
            breaks = refl;
            few = omega (arith, ordered_next, at_top);
            sum = first-sum;
            small = omega (
              arith,
              below-small (present d) numbers,
              numbers.cost,
              let parts : longest - lower_of d + 1 ≡ span (present d) + 1 = omega (arith, at_top, ordered_next) in ap (λ n. n * most_cost) parts,
            );
          }

    module _ (t : CurveTally) (so_far : IsTallied net longest shortest c t) (going : HasEnded c → ⊥) where
      above_end : shortest < lower_of c
      above_end =
          elim (cases_lt shortest (lower_of c)) [
            | inl above ↦ above
            | inr at ↦ absurd (going (record { given = so_far.given; lowest = omega (arith, at, so_far.within, along.same_shortest) }))
          ]

      joined : (present d).upper ≡ lower_of c
      joined = next.joined so_far.given

      long : (present d).lower < (present d).upper
      long = next.long (omega (arith, above_end, along.same_shortest, joined))

      below_top : (present d).upper ≤ longest
      below_top = omega (arith, joined, so_far.apart above_end)

      -- fewer lengths are still to come
      pub tally-lower : lower_of d < lower_of c
      tally-lower = omega (arith, long, joined)

      pub tally-numbers : IsSmallSegment (present d)
      tally-numbers = numbers_next below_top

      next-sum : IsSumOfCosts (curve_in net) (lower_of d) longest (t.sum + costs_below (present d))
      next-sum =
          let seg = present d in
          let old = subst (λ n. IsSumOfCosts (curve_in net) n longest t.sum) (sym joined) so_far.sum in
          record {
            costs = costs-on (curve_in net) seg on_next ordered_next longest below_top old.costs;
            least = least-on (curve_in net) seg on_next ordered_next longest below_top old.costs old.least;
            total = omega (arith, old.total, total-on (curve_in net) seg on_next ordered_next longest below_top old.costs);
          }

      pub tally-grows : IsTallied net longest shortest d (next_tally t (present d))
      tally-grows =
          let seg = present d in
          let low : c.shortest ≤ seg.lower = next.within in
          record {
            along = on_along;
            given = next.given;
            first = so_far.first;
            rest = so_far.rest ++ seg ∷ [];
            front = front_grows net.network net.terms (knees_in net) (so_far.first ∷ so_far.rest) seg longest (lower_of c) so_far.front (so_far.apart above_end)
                whole_next joined long;
            within = omega (arith, low, along.same_shortest);
            apart = λ above. omega (arith, tally-lower, so_far.apart above_end);
            alone = λ flat. absurd (omega (arith, flat, tally-lower, so_far.apart above_end));
            on = on_next;
            numbers = tally-numbers;
            slope = sym (slope-push so_far.first so_far.rest seg);
            breaks = omega (
              arith,
              so_far.breaks,
              corners-push so_far.first so_far.rest seg,
              ap {B = ℕ} (λ s. if s == seg.slope then 0 else 1) so_far.slope,
            );
            few = omega (arith, so_far.few, tally-lower, at_most_one (t.slope == seg.slope));
            sum = next-sum;
            small = omega (
              arith,
              so_far.small,
              below-small seg tally-numbers,
              let parts : longest - lower_of d + 1 ≡ (longest - lower_of c + 1) + span seg = omega (arith, joined, long, below_top) in
                  ap (λ n. most_cost * n) parts,
              mul_comm most_cost (longest - lower_of d + 1),
              mul_comm most_cost (longest - lower_of c + 1),
              mul_comm most_cost (span seg),
              mul-add most_cost (longest - lower_of c + 1) (span seg),
            );
          }

  -- The end of the curve

  module _ (c : Course) (t : CurveTally) (all : IsTallied net longest shortest c t) (ended : HasEnded c) where
    at_end : lower_of c ≡ shortest
    at_end = ended.lowest ∙ all.along.same_shortest

    pub sum-of-all : IsSumOfCosts (curve_in net) shortest longest t.sum
    sum-of-all = subst (λ n. IsSumOfCosts (curve_in net) n longest t.sum) at_end all.sum

    -- the cost at the lower end of the last segment
    pub cost-at-end : curve_in net shortest (cost_for (present c) (present c).lower)
    cost-at-end =
        let at : (present c).lower ≡ shortest = at_end in
        subst (λ n. curve_in net n (cost_for (present c) (present c).lower)) at (all.on.reads (present c).lower (omega arith) all.numbers.ordered)

    front_whole : IsFront net.network net.terms (knees_in net) (all.first ∷ all.rest) longest shortest
    front_whole = subst (IsFront net.network net.terms (knees_in net) (all.first ∷ all.rest) longest) at_end all.front

    counted : (count : ℕ) → (shortest < longest → count ≡ t.breaks + 1) → (longest ≤ shortest → count ≡ t.breaks)
        → count ≡ length (breakpoints_of (all.first ∷ all.rest))
    counted count more even =
        elim (cases_lt shortest longest) [
          | inl some ↦ omega (arith, more some, all.breaks, all-points all.first all.rest longest shortest front_whole.joined front_whole.long some)
          | inr none ↦
              let lone : all.rest ≡ [] = all.alone (omega (arith, none, at_end)) in
              let single = subst (λ (rest : List Segment). IsFront net.network net.terms (knees_in net) (all.first ∷ rest) longest shortest) lone front_whole in
              omega (
                arith,
                even none,
                all.breaks,
                ap (λ (rest : List Segment). length (corners_of (all.first ∷ rest))) lone,
                ap (λ (rest : List Segment). length (breakpoints_of (all.first ∷ rest))) lone,
                one-point all.first longest shortest single.joined none,
              )
        ]

    -- the breakpoints are counted
    pub breaks-of-all : IsAllCrashLength net.network net.terms shortest → (count : ℕ) → (shortest < longest → count ≡ t.breaks + 1)
        → (longest ≤ shortest → count ≡ t.breaks) → HasBreaks (curve_in net) shortest longest count
    breaks-of-all all_crash count more even = record {
      points = breakpoints_of (all.first ∷ all.rest);
      breaks = covering_points net.network net.terms (knees_in net) (all.first ∷ all.rest) longest shortest priced
          (record { front = front_whole; crash_walk = all_crash.attained });
      count = counted count more even;
    }
